-- Terms without variables under substitutions.
use Rattle.std.proofs.Common.{◌≡◌, ℕ, pos, ◌+◌, ◌*◌, arith, Bool, true, false, ◌||◌, ◌&&◌, List, [], ◌∷◌, map, Option, Some, None, refl, ap, sym, ◌∙◌}
use Rattle.std.specs.Option.{option_map, unwrap_or}
use Rattle.std.specs.List.{AllByRecursion}
use Rattle.std.proofs.lemmas.Bool.{false≢true}
use Rattle.asl_term.specs.declared.syntax.LiteralOf.{LiteralOf}
use Rattle.asl_term.specs.declared.syntax.Term.{Term}
use Rattle.asl_term.specs.declared.syntax.Term.TheVariants as term
use Rattle.asl_term.specs.declared.syntax.Term.TheOpen.{Term-F}
use Rattle.asl_term.specs.declared.syntax.Term.TheOpen as layer
use Rattle.asl_term.specs.declared.syntax.Var.{Var}
use Rattle.asl_term.specs.Layers.{made}
use Rattle.asl_term.specs.Exprs.{is_ground_literal}
use Rattle.asl_term.specs.Trees.{all, or_true, is_ground}
use Rattle.asl_term.specs.Variables.{any, occurs, occurs_step}
use Rattle.asl_term.proofs.Terms.{OfTail, by_cases, fold_num, fold_str, fold_lit, fold_list, fold_op, out_made}
use Rattle.asl_term.proofs.Grounds.{ground_var, ground_lit, ground_list, ground_op}
use Rattle.asl_unify.specs.Compare.{var_in, var_of}
use Rattle.asl_unify.specs.Puts.{apply, as_list, cons, cons_list, ending, merged, put, put_step, value_of}
use Rattle.asl_unify.specs.inner.Costs.{weight, weight_step, one_at}
use Rattle.asl_unify.proofs.Costs.{weight-put, weight-linear}
use Rattle.asl_unify.proofs.Meets.{occurs-met}
use Rattle.asl_unify.proofs.Agree.{put-agree}
use Rattle.asl_unify.proofs.General.{put-lit, put-op}
use Rattle.asl_unify.proofs.Puts.{list_of-made, put-list, put-nil, put-put}
use Rattle.asl_unify.proofs.Views.{by_layers}

both_true : (a b : Bool) → (a && b) ≡ true → (a ≡ true) × (b ≡ true)
both_true true b e = (refl, e)
both_true false b e = absurd (false≢true e)

neither : (a b : Bool) → a ≡ false → b ≡ false → (a || b) ≡ false
neither a b e f = ap (λ z. z || b) e ∙ f

-- no variable stands in a ground term
module _ (x : Var) where
  abbrev Free : Term → Type 0
  Free t = is_ground t ≡ true → occurs x t ≡ false

  all_free : (ts : List Term) → AllByRecursion Free ts → all (map is_ground ts) ≡ true → any (map (occurs x) ts) ≡ false
  all_free [] a e = refl
  all_free (t ∷ ts) a e =
      let both = both_true (is_ground t) (all (map is_ground ts)) e in
      neither (occurs x t) (any (map (occurs x) ts)) (a.0 both.0) (all_free ts a.1 both.1)

  tail_free : (t : Option Term) → OfTail Free t → or_true (option_map is_ground t) ≡ true → unwrap_or (option_map (occurs x) t) false ≡ false
  tail_free None a e = refl
  tail_free (Some t) a e = a e

  pub free : (t : Term) → Free t
  free = by_cases Free (record {
    at_num = λ n e. fold_num Bool (occurs_step x) n;
    at_str = λ b e. fold_str Bool (occurs_step x) b;
    at_var = λ v e. absurd (false≢true (sym (ground_var v) ∙ e));
    at_lit = λ l args annots e.
        let both = both_true (all (map is_ground l.args)) (all (map is_ground l.annots)) (sym (ground_lit l) ∙ e) in
        fold_lit Bool (occurs_step x) l
        ∙ neither (any (map (occurs x) l.args)) (any (map (occurs x) l.annots)) (all_free l.args args both.0) (all_free l.annots annots both.1);
    at_list = λ l items tail e.
        let both = both_true (all (map is_ground l.items)) (or_true (option_map is_ground l.tail)) (sym (ground_list l) ∙ e) in
        fold_list Bool (occurs_step x) l
        ∙ neither (any (map (occurs x) l.items)) (unwrap_or (option_map (occurs x) l.tail) false)
        (all_free l.items items both.0) (tail_free l.tail tail both.1);
    at_op = λ a left right e.
        let both = both_true (is_ground a.left) (is_ground a.right) (sym (ground_op a) ∙ e) in
        fold_op Bool (occurs_step x) a ∙ neither (occurs x a.left) (occurs x a.right) (left both.0) (right both.1);
  })

-- it is no variable
pub no_var : (t : Term) → is_ground t ≡ true → var_of t ≡ None
no_var = by_layers (λ t. is_ground t ≡ true → var_of t ≡ None) at where
  at : (y : Term-F Term) → is_ground (made y) ≡ true → var_of (made y) ≡ None
  at (layer.Var v) e = absurd (false≢true (sym (ground_var v) ∙ e))
  at (layer.Num n) e = ap var_in (out_made (layer.Num n))
  at (layer.Str n) e = ap var_in (out_made (layer.Str n))
  at (layer.Lit n) e = ap var_in (out_made (layer.Lit n))
  at (layer.List n) e = ap var_in (out_made (layer.List n))
  at (layer.Op n) e = ap var_in (out_made (layer.Op n))

-- every substitution merges its lists, and no more
pub put_ground : (h : Var → Term) (t : Term) → is_ground t ≡ true → put h t ≡ put term.Var t
put_ground h t g = put-agree h term.Var t (λ x o. absurd (false≢true (sym (free x t g) ∙ o)))

pub put_again : (h : Var → Term) (t : Term) → is_ground t ≡ true → put h (put term.Var t) ≡ put term.Var t
put_again h t g = put-put h term.Var t ∙ put_ground (λ x. put h (term.Var x)) t g

-- what weighs nothing at each variable weighs nothing
no_weight : (f : Var → ℕ) → ((y : Var) → f y ≡ 0) → (t : Term) → weight f t ≡ 0
no_weight f e t =
    let a = weight-linear f f 1 t in
    let b : weight (λ y. f y + f y * 1) t ≡ weight f t = λ i. weight (λ y. twice (f y) (e y) i) t in omega (arith, a, b)
  where
    twice : (n : ℕ) → n ≡ 0 → n + n * 1 ≡ n
    twice n h = omega (arith, h)

-- no variable stands in what it becomes
pub outside : (x : Var) (t : Term) → is_ground t ≡ true → occurs x (apply [] t) ≡ false
outside x t g =
    let zero_at : Var → Term = λ y. term.Num (pos 0) in
    occurs-met x [] t false
    (sym (weight-put (one_at x) (value_of []) t)
    ∙ ap (weight (one_at x)) (put_ground (value_of []) t g ∙ sym (put_ground zero_at t g))
    ∙ weight-put (one_at x) zero_at t
    ∙ no_weight (λ y. weight (one_at x) (term.Num (pos 0))) (λ y. fold_num ℕ (weight_step (one_at x)) (pos 0)) t)

-- the argument of a ground literal
pub ground_arg : (l : LiteralOf Term) (t : Term) → l.args ≡ t ∷ [] → is_ground_literal l ≡ true → is_ground t ≡ true
ground_arg l t e g =
    let args = (both_true (all (map is_ground l.args)) (all (map is_ground l.annots)) (sym (ground_lit l) ∙ g)).0 in
    (both_true (is_ground t) true (sym (ap (λ ts. all (map is_ground ts)) e) ∙ args)).0

-- ---- no variable comes in

two_true : (a b : Bool) → a ≡ true → b ≡ true → (a && b) ≡ true
two_true a b e f = ap (λ z. z && b) e ∙ f

cons_ground : (x t : Term) → is_ground x ≡ true → is_ground t ≡ true → is_ground (cons x t) ≡ true
cons_ground x t g = by_layers (λ t. is_ground t ≡ true → is_ground (cons x t) ≡ true) (λ y h. ap (λ o. is_ground (cons_list x (made y) o)) (list_of-made y) ∙ at y h) t where
  other : (t : Term) → is_ground t ≡ true → is_ground (term.List (record { items = x ∷ []; tail = Some t })) ≡ true
  other t h = ground_list (record { items = x ∷ []; tail = Some t }) ∙ (λ i. (g i && true) && h i)

  at : (y : Term-F Term) → is_ground (made y) ≡ true → is_ground (cons_list x (made y) (as_list y)) ≡ true
  at (layer.List l) h =
      let parts = both_true (all (map is_ground l.items)) (or_true (option_map is_ground l.tail)) (sym (ground_list l) ∙ h) in
      ground_list (record { items = x ∷ l.items; tail = l.tail }) ∙ (λ i. (g i && parts.0 i) && parts.1 i)
  at (layer.Num n) h = other (term.Num n) h
  at (layer.Str n) h = other (term.Str n) h
  at (layer.Var n) h = other (term.Var n) h
  at (layer.Lit n) h = other (term.Lit n) h
  at (layer.Op n) h = other (term.Op n) h

merged_ground : (xs : List Term) (t : Term) → all (map is_ground xs) ≡ true → is_ground t ≡ true → is_ground (merged xs t) ≡ true
merged_ground [] t g h = h
merged_ground (x ∷ xs) t g h =
    let parts = both_true (is_ground x) (all (map is_ground xs)) g in cons_ground x (merged xs t) parts.0 (merged_ground xs t parts.1 h)

abbrev Ground : Term → Type 0
Ground t = is_ground t ≡ true → is_ground (put term.Var t) ≡ true

all_ground : (ts : List Term) → AllByRecursion Ground ts → all (map is_ground ts) ≡ true → all (map is_ground (map (put term.Var) ts)) ≡ true
all_ground [] a e = refl
all_ground (t ∷ ts) a e =
    let both = both_true (is_ground t) (all (map is_ground ts)) e in
    two_true (is_ground (put term.Var t)) (all (map is_ground (map (put term.Var) ts))) (a.0 both.0) (all_ground ts a.1 both.1)

end_ground : (t : Option Term) → OfTail Ground t → or_true (option_map is_ground t) ≡ true → is_ground (put term.Var (ending t)) ≡ true
end_ground None a e = ap is_ground (put-nil term.Var) ∙ ground_list (record { items = []; tail = None })
end_ground (Some t) a e = a e

-- a ground term stays one
pub still_ground : (t : Term) → is_ground t ≡ true → is_ground (put term.Var t) ≡ true
still_ground = by_cases Ground (record {
  at_num = λ n e. ap is_ground (fold_num Term (put_step term.Var) n) ∙ e;
  at_str = λ b e. ap is_ground (fold_str Term (put_step term.Var) b) ∙ e;
  at_var = λ v e. absurd (false≢true (sym (ground_var v) ∙ e));
  at_lit = λ l args annots e.
      let both = both_true (all (map is_ground l.args)) (all (map is_ground l.annots)) (sym (ground_lit l) ∙ e) in
      ap is_ground (put-lit term.Var l)
      ∙ ground_lit (record l { args = map (put term.Var) l.args; annots = map (put term.Var) l.annots })
      ∙ two_true (all (map is_ground (map (put term.Var) l.args))) (all (map is_ground (map (put term.Var) l.annots)))
      (all_ground l.args args both.0) (all_ground l.annots annots both.1);
  at_list = λ l items tail e.
      let both = both_true (all (map is_ground l.items)) (or_true (option_map is_ground l.tail)) (sym (ground_list l) ∙ e) in
      ap is_ground (put-list term.Var l)
      ∙ merged_ground (map (put term.Var) l.items) (put term.Var (ending l.tail)) (all_ground l.items items both.0) (end_ground l.tail tail both.1);
  at_op = λ a left right e.
      let both = both_true (is_ground a.left) (is_ground a.right) (sym (ground_op a) ∙ e) in
      ap is_ground (put-op term.Var a)
      ∙ ground_op (record a { left = put term.Var a.left; right = put term.Var a.right })
      ∙ two_true (is_ground (put term.Var a.left)) (is_ground (put term.Var a.right)) (left both.0) (right both.1);
})
