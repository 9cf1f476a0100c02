-- The values of an instance for a trigger that is renamed.
use Rattle.std.proofs.Common.{◌≡◌, ◌==◌, ℕ, eqb, Bool, true, false, ◌&&◌, cond, if◌then◌else◌, List, [], ◌∷◌, map, Option, Some, None, refl, sym, ap, ◌∙◌, subst}
use Rattle.std.proofs.lemmas.Bool.{eq-eqb, eqb-true}
use Rattle.std.specs.List.{AllByRecursion}
use Rattle.std.specs.Option.{option_map}
use Rattle.asl_term.specs.declared.syntax.Var.{Var}
use Rattle.asl_term.specs.declared.syntax.Term.{Term}
use Rattle.asl_term.specs.declared.syntax.Term.TheVariants as term
use Rattle.asl_term.specs.declared.syntax.Term.TheOpen.{Term-F}
use Rattle.asl_term.specs.declared.syntax.Term.TheOpen as layer
use Rattle.asl_term.specs.Layers.{made}
use Rattle.asl_term.specs.Trees.{all, or_true, with_terms_step}
use Rattle.asl_term.proofs.Terms.{OfTail, by_cases, fold_num, fold_str, fold_var, fold_lit, fold_list, fold_op}
use Rattle.asl_unify.specs.Puts.{ending, cons, cons_list, as_list, merged, put, put_step}
use Rattle.asl_unify.specs.Renamed.{with_vars, numbered, renamed}
use Rattle.asl_unify.specs.Unifiers.{items_before, is_tidy, is_tidy_step}
use Rattle.asl_unify.proofs.Views.{by_layers}
use Rattle.asl_unify.proofs.Puts.{put-nil, put-list, list_of-made}
use Rattle.asl_unify.proofs.Agree.{put-agree}
use Rattle.asl_unify.proofs.General.{and_true, put-lit, put-op}
use Rattle.asl_unify.proofs.Laws.{put-var, flat-var, Flat, FlatValues}
use Rattle.asl_lint_laws.specs.Written.{AllVars, IsFresh}
use Rattle.asl_lint_laws.proofs.Varied.{put-vars}

-- a variable as it was before it got a number
abbrev pub unnumbered : Var → Var
unnumbered y = record y { number = 0 }

-- the value of a variable for its renamed one, and each other variable itself
abbrev pub back : ℕ → (Var → Term) → Var → Term
back n v y = cond (eqb y.number n) (v (unnumbered y)) (term.Var y)

pub flat_back : (n : ℕ) (v : Var → Term) → FlatValues v → FlatValues (back n v)
flat_back n v f y = go (eqb y.number n) where
  go : (b : Bool) → Flat (cond b (v (unnumbered y)) (term.Var y))
  go true = f (unnumbered y)
  go false = flat-var y

eqb_self : (n : ℕ) → eqb n n ≡ true
eqb_self n = eq-eqb n n refl

at_number : (n : ℕ) (v : Var → Term) (x : Var) → x.number ≡ 0 → back n v (numbered n x) ≡ v x
at_number n v x e =
    let at : numbered n x ≡ record x { number = n } = ap (λ m. if m == 0 then record x { number = n } else x) e in
    let same : unnumbered x ≡ x = (λ i. record x { number = sym e i }) in
    ap (back n v) at ∙ ap (λ b. cond b (v (unnumbered x)) (term.Var (record x { number = n }))) (eqb_self n) ∙ ap v same

-- a renamed term comes to what its values make of it
pub put-back : (n : ℕ) (v : Var → Term) (t : Term) → AllVars (λ x. x.number ≡ 0) t → put (back n v) (renamed n t) ≡ put v t
put-back n v t a = put-vars (back n v) (numbered n) t ∙ put-agree (λ x. back n v (numbered n x)) v t (λ x o. at_number n v x (a x o))

not_renamed : (n : ℕ) (v : Var → Term) (y : Var) → (y.number ≡ n → ⊥) → back n v y ≡ term.Var y
not_renamed n v y a = go (eqb y.number n) refl where
  go : (b : Bool) → eqb y.number n ≡ b → cond b (v (unnumbered y)) (term.Var y) ≡ term.Var y
  go true e = absurd (a (eqb-true y.number n e))
  go false e = refl

-- a term without a variable of this number stays, its lists merged
pub put-fresh : (n : ℕ) (v : Var → Term) (t : Term) → IsFresh n t → put (back n v) t ≡ put term.Var t
put-fresh n v t a = put-agree (back n v) term.Var t (λ x o. not_renamed n v x (a x o))

-- ---- tidy terms

both_hold : (a b : Bool) → a ≡ true → b ≡ true → (a && b) ≡ true
both_hold a b e d = cc

abbrev pub Tidy : Term → Type 0
Tidy t = is_tidy t ≡ true

tidy_list : (items : List Term) (tail : Option Term) → all (map is_tidy items) ≡ true → or_true (option_map is_tidy tail) ≡ true
    → items_before (map is_tidy items) (option_map is_tidy tail) ≡ true → Tidy (term.List (record { items = items; tail = tail }))
tidy_list items tail a b c =
    fold_list Bool is_tidy_step (record { items = items; tail = tail }) ∙ both_hold _ _ (both_hold (all (map is_tidy items)) _ a b) c

tidy_cons : (x t : Term) → Tidy x → Tidy t → Tidy (cons x t)
tidy_cons x t p = by_layers (λ t. Tidy t → Tidy (cons x t)) (λ y q. subst (λ o. Tidy (cons_list x (made y) o)) (sym (list_of-made y)) (go y q)) t where
  one : (y : Term-F Term) → Tidy (made y) → Tidy (term.List (record { items = x ∷ []; tail = Some (made y) }))
  one y q = tidy_list (x ∷ []) (Some (made y)) (both_hold (is_tidy x) true p refl) q refl

  go : (y : Term-F Term) → Tidy (made y) → Tidy (cons_list x (made y) (as_list y))
  go (layer.List l) q =
      let a = and_true (all (map is_tidy l.items) && or_true (option_map is_tidy l.tail)) _ (sym (fold_list Bool is_tidy_step l) ∙ q) in
      let b = and_true (all (map is_tidy l.items)) _ a.0 in
      tidy_list (x ∷ l.items) l.tail (both_hold (is_tidy x) _ p b.0) b.1 refl
  go (layer.Num n) q = one (layer.Num n) q
  go (layer.Str n) q = one (layer.Str n) q
  go (layer.Var n) q = one (layer.Var n) q
  go (layer.Lit n) q = one (layer.Lit n) q
  go (layer.Op n) q = one (layer.Op n) q

tidy_merged : (xs : List Term) (t : Term) → all (map is_tidy xs) ≡ true → Tidy t → Tidy (merged xs t)
tidy_merged [] t a q = q
tidy_merged (x ∷ xs) t a q = let s = and_true (is_tidy x) _ a in tidy_cons x (merged xs t) s.0 (tidy_merged xs t s.1 q)

module _ (h : Var → Term) (v : (x : Var) → Tidy (h x)) where
  abbrev PutTidy : Term → Type 0
  PutTidy t = Tidy (put h t)

  all_tidy : (ts : List Term) → AllByRecursion PutTidy ts → all (map is_tidy (map (put h) ts)) ≡ true
  all_tidy [] a = refl
  all_tidy (t ∷ ts) a = both_hold (is_tidy (put h t)) _ a.0 (all_tidy ts a.1)

  end_tidy : (t : Option Term) → OfTail PutTidy t → Tidy (put h (ending t))
  end_tidy None a = subst Tidy (sym (put-nil h)) (tidy_list [] None refl refl refl)
  end_tidy (Some t) a = a

  pub put-tidy : (t : Term) → PutTidy t
  put-tidy = by_cases PutTidy (record {
    at_num = λ n. subst Tidy (sym (fold_num Term (put_step h) n)) (fold_num Bool is_tidy_step n);
    at_str = λ n. subst Tidy (sym (fold_str Term (put_step h) n)) (fold_str Bool is_tidy_step n);
    at_var = λ x. subst Tidy (sym (put-var h x)) (v x);
    at_lit = λ l args annots. subst Tidy (sym (put-lit h l))
        (fold_lit Bool is_tidy_step (record l { args = map (put h) l.args; annots = map (put h) l.annots }) ∙ both_hold (all (map is_tidy (map (put h) l.args))) _ (all_tidy l.args args) (all_tidy l.annots annots));
    at_list = λ l items tail. subst Tidy (sym (put-list h l)) (tidy_merged (map (put h) l.items) (put h (ending l.tail)) (all_tidy l.items items) (end_tidy l.tail tail));
    at_op = λ a left right. subst Tidy (sym (put-op h a)) (fold_op Bool is_tidy_step (record a { left = put h a.left; right = put h a.right }) ∙ both_hold (is_tidy (put h a.left)) _ left right);
  })

pub flat_is_tidy : (t : Term) → Flat t → Tidy t
flat_is_tidy t f = subst Tidy f (put-tidy term.Var (λ x. fold_var Bool is_tidy_step x) t)

pub flats_are_tidy : (ts : List Term) → map (put term.Var) ts ≡ ts → all (map is_tidy ts) ≡ true
flats_are_tidy [] e = refl
flats_are_tidy (t ∷ ts) e =
    let one : put term.Var t ≡ t = cc in
    let more : map (put term.Var) ts ≡ ts = cc in both_hold (is_tidy t) _ (flat_is_tidy t one) (flats_are_tidy ts more)

-- ---- a renamed term is tidy as it was

module _ (f : Var → Var) where
  abbrev to : Var → Term
  to x = term.Var (f x)

  abbrev StaysTidy : Term → Type 0
  StaysTidy t = is_tidy (with_vars f t) ≡ is_tidy t

  all_stay : (ts : List Term) → AllByRecursion StaysTidy ts → map is_tidy (map (with_vars f) ts) ≡ map is_tidy ts
  all_stay [] a = refl
  all_stay (t ∷ ts) a = let one = a.0 in let more = all_stay ts a.1 in (λ i. one i ∷ more i)

  end_stays : (t : Option Term) → OfTail StaysTidy t → option_map is_tidy (option_map (with_vars f) t) ≡ option_map is_tidy t
  end_stays None a = refl
  end_stays (Some t) a = ap Some a

  pub vars-tidy : (t : Term) → StaysTidy t
  vars-tidy = by_cases StaysTidy (record {
    at_num = λ n. ap is_tidy (fold_num Term (with_terms_step to) n);
    at_str = λ n. ap is_tidy (fold_str Term (with_terms_step to) n);
    at_var = λ x. ap is_tidy (fold_var Term (with_terms_step to) x) ∙ fold_var Bool is_tidy_step (f x) ∙ sym (fold_var Bool is_tidy_step x);
    at_lit = λ l args annots.
        ap is_tidy (fold_lit Term (with_terms_step to) l) ∙ fold_lit Bool is_tidy_step (record l { args = map (with_vars f) l.args; annots = map (with_vars f) l.annots })
        ∙ (λ i. all (all_stay l.args args i) && all (all_stay l.annots annots i)) ∙ sym (fold_lit Bool is_tidy_step l);
    at_list = λ l items tail.
        ap is_tidy (fold_list Term (with_terms_step to) l) ∙ fold_list Bool is_tidy_step (record { items = map (with_vars f) l.items; tail = option_map (with_vars f) l.tail })
        ∙ (λ i. all (all_stay l.items items i) && or_true (end_stays l.tail tail i) && items_before (all_stay l.items items i) (end_stays l.tail tail i))
        ∙ sym (fold_list Bool is_tidy_step l);
    at_op = λ a left right.
        ap is_tidy (fold_op Term (with_terms_step to) a) ∙ fold_op Bool is_tidy_step (record a { left = with_vars f a.left; right = with_vars f a.right })
        ∙ (λ i. left i && right i) ∙ sym (fold_op Bool is_tidy_step a);
  })
