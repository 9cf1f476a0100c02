-- Terms with values put into them, as they are once they are settled.
use Rattle.std.proofs.Common.{◌≡◌, Bool, true, List, [], ◌∷◌, map, Option, Some, None, Ok, Err, refl, sym, ap, ◌∙◌}
use Rattle.std.proofs.lemmas.Bool.{false≢true}
use Rattle.std.specs.List.{AllByRecursion}
use Rattle.std.specs.Option.{option_map}
use Rattle.asl_term.specs.declared.syntax.Var.{Var}
use Rattle.asl_term.specs.declared.syntax.LiteralOf.{LiteralOf}
use Rattle.asl_term.specs.declared.syntax.ListingOf.{ListingOf}
use Rattle.asl_term.specs.declared.syntax.ArithOf.{ArithOf}
use Rattle.asl_term.specs.declared.syntax.Term.{Term}
use Rattle.asl_term.specs.declared.syntax.Term.TheVariants as term
use Rattle.asl_term.specs.declared.syntax.Term.TheOpen.{Term-F}
use Rattle.asl_term.specs.declared.syntax.Term.TheOpen as layer
use Rattle.asl_term.specs.Layers.{made}
use Rattle.asl_term.specs.Trees.{all, or_true}
use Rattle.asl_term.proofs.Terms.{OfTail, by_cases, fold_num, fold_str, fold_var, fold_lit, fold_list, fold_op}
use Rattle.asl_unify.specs.Puts.{nil, ending, cons, cons_list, as_list, list_of, merged, put, put_step}
use Rattle.asl_unify.specs.Settling.{Settled, and_then, each, if_any, operation, with_parts, settle_step, settle}
use Rattle.asl_unify.proofs.Views.{by_layers}
use Rattle.asl_unify.proofs.Puts.{put-nil, put-list, put-merged, list_of-made}
use Rattle.asl_unify.proofs.General.{and_true, put-lit}
use Rattle.asl_unify.proofs.Laws.{put-var}
use Rattle.asl_parser_tree.specs.Plain.{plain_step, is_plain}

-- ---- settled values

same_end : {A : Type 0} (s : Settled A) → and_then s (λ x. Ok x) ≡ s
same_end (Ok x) = refl
same_end (Err e) = refl

pub record Goes {A B : Type 0} (s : Settled A) (f : A → Settled B) (b : B) : Type 0 where
  pub value : A
  pub is : s ≡ Ok value
  pub rest : f value ≡ Ok b

pub goes : {A B : Type 0} (s : Settled A) (f : A → Settled B) (b : B) → and_then s f ≡ Ok b → Goes s f b
goes (Ok x) f b e = record { value = x; is = refl; rest = e }
goes (Err x) f b e = cc

abbrev pub done : {A : Type 0} → A → Settled A
done x = Ok x

pub ok_is : {A : Type 0} (a b : A) → done a ≡ done b → a ≡ b
ok_is a b e = cc

-- ---- lists

list_at : (x : Term) (l : ListingOf Term) → cons x (term.List l) ≡ term.List (record { items = x ∷ l.items; tail = l.tail })
list_at x l = ap (cons_list x (term.List l)) (list_of-made (layer.List l))

abbrev whole : List Term → Option Term → Term
whole items tail = term.List (record { items = items; tail = tail })

list_step : (r : Settled Term) (rs : Settled (List Term)) (o : Settled (Option Term))
    → and_then (and_then r (λ x. and_then rs (λ xs. Ok (x ∷ xs)))) (λ xs. and_then o (λ u. Ok (whole xs u)))
    ≡ and_then r (λ y. and_then (and_then rs (λ xs. and_then o (λ u. Ok (whole xs u)))) (λ u. Ok (cons y u)))
list_step (Err e) rs o = refl
list_step (Ok x) (Err e) o = refl
list_step (Ok x) (Ok xs) (Err e) = refl
list_step (Ok x) (Ok xs) (Ok u) = ap Ok (sym (list_at x (record { items = xs; tail = u })))

tail_at : (x u : Term) → list_of u ≡ None → cons x u ≡ whole (x ∷ []) (Some u)
tail_at x u e = ap (cons_list x u) e

tail_step : (r s : Settled Term) → ((u : Term) → s ≡ Ok u → list_of u ≡ None)
    → and_then (and_then r (λ x. Ok (x ∷ []))) (λ xs. and_then (and_then s (λ u. Ok (Some u))) (λ u. Ok (whole xs u)))
    ≡ and_then r (λ y. and_then s (λ u. Ok (cons y u)))
tail_step (Err e) s f = refl
tail_step (Ok x) (Err e) f = refl
tail_step (Ok x) (Ok u) f = ap Ok (sym (tail_at x u (f u refl)))

pub settle-list : (l : ListingOf Term) → settle (term.List l) ≡ and_then (each (map settle l.items)) (λ xs. and_then (if_any (option_map settle l.tail)) (λ t. Ok (whole xs t)))
settle-list l = fold_list (Settled Term) settle_step l

pub settle-lit : (l : LiteralOf Term) → settle (term.Lit l) ≡ and_then (with_parts l (each (map settle l.args)) (each (map settle l.annots))) (λ m. Ok (term.Lit m))
settle-lit l = fold_lit (Settled Term) settle_step l

abbrev number_step : ArithOf Term → Settled Term
number_step a = and_then (settle a.left) (λ x. and_then (settle a.right) (λ y. and_then (operation a.op x y) (λ n. Ok (term.Num n))))

pub settle-op : (a : ArithOf Term) → settle (term.Op a) ≡ number_step a
settle-op a = fold_op (Settled Term) settle_step a

no_list : (y : Term-F Term) → as_list y ≡ None → (u : Term) → made y ≡ u → list_of u ≡ None
no_list y e u d = ap list_of (sym d) ∙ list_of-made y ∙ e

-- what a term that is no list settles to is none
stays_none : (y : Term-F Term) → as_list y ≡ None → (u : Term) → settle (made y) ≡ Ok u → list_of u ≡ None
stays_none (layer.Num n) e u d = no_list (layer.Num n) refl u (ok_is (term.Num n) u (sym (fold_num (Settled Term) settle_step n) ∙ d))
stays_none (layer.Str n) e u d = no_list (layer.Str n) refl u (ok_is (term.Str n) u (sym (fold_str (Settled Term) settle_step n) ∙ d))
stays_none (layer.Var n) e u d = no_list (layer.Var n) refl u (ok_is (term.Var n) u (sym (fold_var (Settled Term) settle_step n) ∙ d))
stays_none (layer.Lit l) e u d =
    let g = goes (with_parts l (each (map settle l.args)) (each (map settle l.annots))) (λ m. Ok (term.Lit m)) u (sym (settle-lit l) ∙ d) in
    no_list (layer.Lit g.value) refl u (ok_is (term.Lit g.value) u g.rest)
stays_none (layer.List l) e u d = cc
stays_none (layer.Op a) e u d =
    let f = goes (settle a.left) (λ x. and_then (settle a.right) (λ y. and_then (operation a.op x y) (λ n. Ok (term.Num n)))) u (sym (settle-op a) ∙ d) in
    let g = goes (settle a.right) (λ y. and_then (operation a.op f.value y) (λ n. Ok (term.Num n))) u f.rest in
    let h = goes (operation a.op f.value g.value) (λ n. Ok (term.Num n)) u g.rest in
    no_list (layer.Num h.value) refl u (ok_is (term.Num h.value) u h.rest)

pub settle-cons : (x t : Term) → settle (cons x t) ≡ and_then (settle x) (λ y. and_then (settle t) (λ u. Ok (cons y u)))
settle-cons x = by_layers (λ t. settle (cons x t) ≡ and_then (settle x) (λ y. and_then (settle t) (λ u. Ok (cons y u)))) (λ y.
    ap (λ o. settle (cons_list x (made y) o)) (list_of-made y) ∙ go y) where
      one : (y : Term-F Term) → as_list y ≡ None → settle (whole (x ∷ []) (Some (made y))) ≡ and_then (settle x) (λ z. and_then (settle (made y)) (λ u. Ok (cons z u)))
      one y e = settle-list (record { items = x ∷ []; tail = Some (made y) }) ∙ tail_step (settle x) (settle (made y)) (stays_none y e)

      go : (y : Term-F Term) → settle (cons_list x (made y) (as_list y)) ≡ and_then (settle x) (λ z. and_then (settle (made y)) (λ u. Ok (cons z u)))
      go (layer.List l) =
          settle-list (record { items = x ∷ l.items; tail = l.tail })
          ∙ list_step (settle x) (each (map settle l.items)) (if_any (option_map settle l.tail))
          ∙ ap (λ s. and_then (settle x) (λ y. and_then s (λ u. Ok (cons y u)))) (sym (settle-list l))
      go (layer.Num n) = one (layer.Num n) refl
      go (layer.Str n) = one (layer.Str n) refl
      go (layer.Var n) = one (layer.Var n) refl
      go (layer.Lit n) = one (layer.Lit n) refl
      go (layer.Op n) = one (layer.Op n) refl

merged_step : (r : Settled Term) (rs : Settled (List Term)) (s : Settled Term)
    → and_then r (λ y. and_then (and_then rs (λ ys. and_then s (λ u. Ok (merged ys u)))) (λ u. Ok (cons y u)))
    ≡ and_then (and_then r (λ x. and_then rs (λ xs. Ok (x ∷ xs)))) (λ ys. and_then s (λ u. Ok (merged ys u)))
merged_step (Err e) rs s = refl
merged_step (Ok x) (Err e) s = refl
merged_step (Ok x) (Ok xs) (Err e) = refl
merged_step (Ok x) (Ok xs) (Ok u) = refl

pub settle-merged : (xs : List Term) (t : Term) → settle (merged xs t) ≡ and_then (each (map settle xs)) (λ ys. and_then (settle t) (λ u. Ok (merged ys u)))
settle-merged [] t = sym (same_end (settle t))
settle-merged (x ∷ xs) t =
    settle-cons x (merged xs t)
    ∙ ap (λ s. and_then (settle x) (λ y. and_then s (λ u. Ok (cons y u)))) (settle-merged xs t)
    ∙ merged_step (settle x) (each (map settle xs)) (settle t)

-- ---- terms with values put into them

pub record Parted (r : Settled Term) (rs : Settled (List Term)) (us : List Term) : Type 0 where
  pub first : Term
  pub more : List Term
  pub is_first : r ≡ Ok first
  pub are_more : rs ≡ Ok more
  pub whole : us ≡ first ∷ more

pub parted : (r : Settled Term) (rs : Settled (List Term)) (us : List Term) → and_then r (λ x. and_then rs (λ xs. Ok (x ∷ xs))) ≡ Ok us → Parted r rs us
parted (Err e) rs us d = cc
parted (Ok x) (Err e) us d = cc
parted (Ok x) (Ok xs) us d = record { first = x; more = xs; is_first = refl; are_more = refl; whole = sym (ok_is (x ∷ xs) us d) }

module _ (v w : Var → Term) (settles : (x : Var) (u : Term) → settle (v x) ≡ Ok u → w x ≡ put term.Var u) where
  -- what is to be shown of a term without arithmetic
  abbrev Comes : Term → Type 0
  Comes t = is_plain t ≡ true → (u : Term) → settle (put v t) ≡ Ok u → put w t ≡ put term.Var u

  all_come : (ts : List Term) → AllByRecursion Comes ts → all (map is_plain ts) ≡ true → (us : List Term) → each (map settle (map (put v) ts)) ≡ Ok us → map (put w) ts ≡ map (put term.Var) us
  all_come [] a p us e = ap (map (put term.Var)) (ok_is [] us e)
  all_come (t ∷ ts) a p us e =
      let q = and_true (is_plain t) _ p in
      let s = parted (settle (put v t)) (each (map settle (map (put v) ts))) us e in
      let one = a.0 q.0 s.first s.is_first in
      let more = all_come ts a.1 q.1 s.more s.are_more in
      (λ i. one i ∷ more i) ∙ ap (map (put term.Var)) (sym s.whole)

  end_comes : (t : Option Term) → OfTail Comes t → or_true (option_map is_plain t) ≡ true → (u : Term) → settle (put v (ending t)) ≡ Ok u → put w (ending t) ≡ put term.Var u
  end_comes None a p u e =
      let nothing : settle nil ≡ Ok nil = settle-list (record { items = []; tail = None }) in
      put-nil w ∙ sym (put-nil term.Var) ∙ ap (put term.Var) (ok_is nil u (sym nothing ∙ ap settle (sym (put-nil v)) ∙ e))
  end_comes (Some t) a p u e = a p u e

  pub comes : (t : Term) → Comes t
  comes = by_cases Comes (record {
    at_num = λ n p u e.
        fold_num Term (put_step w) n ∙ sym (fold_num Term (put_step term.Var) n)
        ∙ ap (put term.Var) (ok_is (term.Num n) u (sym (fold_num (Settled Term) settle_step n) ∙ ap settle (sym (fold_num Term (put_step v) n)) ∙ e));
    at_str = λ n p u e.
        fold_str Term (put_step w) n ∙ sym (fold_str Term (put_step term.Var) n)
        ∙ ap (put term.Var) (ok_is (term.Str n) u (sym (fold_str (Settled Term) settle_step n) ∙ ap settle (sym (fold_str Term (put_step v) n)) ∙ e));
    at_var = λ x p u e. put-var w x ∙ settles x u (ap settle (sym (put-var v x)) ∙ e);
    at_lit = λ l args annots p u e.
        let q = and_true (all (map is_plain l.args)) _ (sym (fold_lit Bool plain_step l) ∙ p) in
        let m : LiteralOf Term = record l { args = map (put v) l.args; annots = map (put v) l.annots } in
        let g = goes (with_parts m (each (map settle m.args)) (each (map settle m.annots))) (λ z. Ok (term.Lit z)) u (sym (settle-lit m) ∙ ap settle (sym (put-lit v l)) ∙ e) in
        let xs = goes (each (map settle m.args)) (λ xs. and_then (each (map settle m.annots)) (λ ys. Ok (record { neg = l.neg; functor = l.functor; args = xs; annots = ys }))) g.value g.is in
        let ys = goes (each (map settle m.annots)) (λ ys. Ok (record { neg = l.neg; functor = l.functor; args = xs.value; annots = ys })) g.value xs.rest in
        let first = all_come l.args args q.0 xs.value xs.is in
        let second = all_come l.annots annots q.1 ys.value ys.is in
        let n : LiteralOf Term = record { neg = l.neg; functor = l.functor; args = xs.value; annots = ys.value } in
        put-lit w l ∙ (λ i. term.Lit (record l { args = first i; annots = second i })) ∙ sym (put-lit term.Var n)
        ∙ ap (λ z. put term.Var (term.Lit z)) (ok_is n g.value ys.rest) ∙ ap (put term.Var) (ok_is (term.Lit g.value) u g.rest);
    at_list = λ l items tail p u e.
        let q = and_true (all (map is_plain l.items)) _ (sym (fold_list Bool plain_step l) ∙ p) in
        let xs = goes (each (map settle (map (put v) l.items))) (λ ys. and_then (settle (put v (ending l.tail))) (λ z. Ok (merged ys z))) u
        (sym (settle-merged (map (put v) l.items) (put v (ending l.tail))) ∙ ap settle (sym (put-list v l)) ∙ e) in
        let z = goes (settle (put v (ending l.tail))) (λ z. Ok (merged xs.value z)) u xs.rest in
        let first = all_come l.items items q.0 xs.value xs.is in
        let second = end_comes l.tail tail q.1 z.value z.is in
        put-list w l ∙ (λ i. merged (first i) (second i)) ∙ sym (put-merged term.Var xs.value z.value) ∙ ap (put term.Var) (ok_is (merged xs.value z.value) u z.rest);
    at_op = λ a left right p u e. absurd (false≢true (sym (fold_op Bool plain_step a) ∙ p));
  })

-- ---- arithmetic that is settled after lists are merged

abbrev or_self : Settled Term → Term → Term
or_self (Ok t) u = t
or_self (Err e) u = u

-- the settled values
abbrev pub settled_by : (Var → Term) → Var → Term
settled_by v x = put term.Var (or_self (settle (v x)) (v x))

pub settled_values : (v : Var → Term) (x : Var) (u : Term) → settle (v x) ≡ Ok u → settled_by v x ≡ put term.Var u
settled_values v x u e = ap (λ s. put term.Var (or_self s (v x))) e
