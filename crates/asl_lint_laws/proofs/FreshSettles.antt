-- What is settled brings no variable.
use Rattle.std.proofs.Common.{◌≡◌, ℕ, ◌+◌, List, [], ◌∷◌, map, Option, Some, None, refl, sym, ap, ◌∙◌, arith}
use Rattle.std.specs.Prelude.{Ok, Err}
use Rattle.std.specs.List.{AllByRecursion}
use Rattle.std.specs.Option.{option_map}
use Rattle.asl_term.specs.declared.syntax.Var.{Var}
use Rattle.asl_term.specs.declared.syntax.LiteralOf.{LiteralOf}
use Rattle.asl_term.specs.declared.syntax.Relation.{Relation}
use Rattle.asl_term.specs.declared.syntax.Term.{Term}
use Rattle.asl_term.specs.declared.syntax.Term.TheVariants as term
use Rattle.asl_term.specs.Trees.{or_zero}
use Rattle.asl_term.proofs.Terms.{OfTail, by_cases, fold_num, fold_str, fold_var, fold_lit, fold_list, fold_op}
use Rattle.asl_unify.specs.inner.Costs.{weight, weight_step}
use Rattle.asl_unify.specs.Settling.{Settled, and_then, each, if_any, operation, settle, settle_step, settle_literal, settle_relation}
use Rattle.asl_lint_laws.specs.Fresh.{terms_count, literal_count}

record Then (A B : Type 0) (r : Settled A) (f : A → Settled B) (u : B) : Type 0 where
  first : A
  is_first : r ≡ Ok first
  next : f first ≡ Ok u

then_of : {A B : Type 0} (r : Settled A) (f : A → Settled B) (u : B) → and_then r f ≡ Ok u → Then A B r f u
then_of (Ok x) f u e = record { first = x; is_first = refl; next = e }
then_of (Err x) f u e = cc

module _ (f : Var → ℕ) where
  abbrev Stays : Term → Type 0
  Stays t = (u : Term) → settle t ≡ Ok u → weight f t ≡ 0 → weight f u ≡ 0

  all_stay : (ts us : List Term) → AllByRecursion Stays ts → each (map settle ts) ≡ Ok us → terms_count f ts ≡ 0 → terms_count f us ≡ 0
  all_stay [] us a e d = let same : [] ≡ us = cc in ap (terms_count f) (sym same)
  all_stay (t ∷ ts) us a e d =
      let p = then_of (settle t) (λ x. and_then (each (map settle ts)) (λ xs. Ok (x ∷ xs))) us e in
      let q = then_of (each (map settle ts)) (λ xs. Ok (p.first ∷ xs)) us p.next in
      let same : p.first ∷ q.first ≡ us = let h = q.next in cc in
      let one = a.0 p.first p.is_first (omega (arith, d)) in
      let more = all_stay ts q.first a.1 q.is_first (omega (arith, d)) in
      ap (terms_count f) (sym same) ∙ omega (arith, one, more)

  end_stays : (t : Option Term) (u : Option Term) → OfTail Stays t → if_any (option_map settle t) ≡ Ok u → or_zero (option_map (weight f) t) ≡ 0
      → or_zero (option_map (weight f) u) ≡ 0
  end_stays None u a e d = let same : None ≡ u = cc in ap (λ o. or_zero (option_map (weight f) o)) (sym same)
  end_stays (Some t) u a e d =
      let p = then_of (settle t) (λ x. Ok (Some x)) u e in
      let same : Some p.first ≡ u = let h = p.next in cc in
      ap (λ o. or_zero (option_map (weight f) o)) (sym same) ∙ a p.first p.is_first d

  abbrev Parts : LiteralOf Term → LiteralOf Term → Type 0
  Parts l m = literal_count f l ≡ 0 → literal_count f m ≡ 0

  literal_parts : (l m : LiteralOf Term) → AllByRecursion Stays l.args → AllByRecursion Stays l.annots → settle_literal l ≡ Ok m → Parts l m
  literal_parts l m args annots e d =
      let p =
      then_of (each (map settle l.args))
      (λ xs. and_then (each (map settle l.annots)) (λ ys. Ok (record { neg = l.neg; functor = l.functor; args = xs; annots = ys }))) m e in
      let q = then_of (each (map settle l.annots)) (λ ys. Ok (record { neg = l.neg; functor = l.functor; args = p.first; annots = ys })) m p.next in
      let same : record { neg = l.neg; functor = l.functor; args = p.first; annots = q.first } ≡ m = let h = q.next in cc in
      let one = all_stay l.args p.first args p.is_first (omega (arith, d)) in
      let two = all_stay l.annots q.first annots q.is_first (omega (arith, d)) in
      ap (literal_count f) (sym same) ∙ omega (arith, one, two)

  same_term : (t u : Term) → settle t ≡ Ok t → settle t ≡ Ok u → weight f t ≡ 0 → weight f u ≡ 0
  same_term t u e d w = let both : Ok t ≡ Ok u = sym e ∙ d in let same : t ≡ u = cc in ap (weight f) (sym same) ∙ w

  pub settle_stays : (t : Term) → Stays t
  settle_stays = by_cases Stays (record {
    at_num = λ n u. same_term (term.Num n) u (fold_num (Settled Term) settle_step n);
    at_str = λ b u. same_term (term.Str b) u (fold_str (Settled Term) settle_step b);
    at_var = λ v u. same_term (term.Var v) u (fold_var (Settled Term) settle_step v);
    at_lit = λ l args annots u e d.
        let p = then_of (settle_literal l) (λ m. Ok (term.Lit m)) u (sym (fold_lit (Settled Term) settle_step l) ∙ e) in
        let same : term.Lit p.first ≡ u = let h = p.next in cc in
        let before = fold_lit ℕ (weight_step f) l in
        let after = fold_lit ℕ (weight_step f) p.first in
        let parts = literal_parts l p.first args annots p.is_first (omega (arith, before, d)) in
        ap (weight f) (sym same) ∙ after ∙ parts;
    at_list = λ l items tail u e d.
        let p = then_of (each (map settle l.items))
        (λ xs. and_then (if_any (option_map settle l.tail)) (λ t. Ok (term.List (record { items = xs; tail = t })))) u
        (sym (fold_list (Settled Term) settle_step l) ∙ e) in
        let q = then_of (if_any (option_map settle l.tail)) (λ t. Ok (term.List (record { items = p.first; tail = t }))) u p.next in
        let same : term.List (record { items = p.first; tail = q.first }) ≡ u = let h = q.next in cc in
        let before = fold_list ℕ (weight_step f) l in
        let after = fold_list ℕ (weight_step f) (record { items = p.first; tail = q.first }) in
        let one = all_stay l.items p.first items p.is_first (omega (arith, before, d)) in
        let two = end_stays l.tail q.first tail q.is_first (omega (arith, before, d)) in
        ap (weight f) (sym same) ∙ omega (arith, after, one, two);
    at_op = λ a left right u e d.
        let p = then_of (settle a.left) (λ x. and_then (settle a.right) (λ y. and_then (operation a.op x y) (λ n. Ok (term.Num n)))) u
        (sym (fold_op (Settled Term) settle_step a) ∙ e) in
        let q = then_of (settle a.right) (λ y. and_then (operation a.op p.first y) (λ n. Ok (term.Num n))) u p.next in
        let r = then_of (operation a.op p.first q.first) (λ n. Ok (term.Num n)) u q.next in
        let same : term.Num r.first ≡ u = let h = r.next in cc in
        ap (weight f) (sym same) ∙ fold_num ℕ (weight_step f) r.first;
  })

  all_terms : (ts : List Term) → AllByRecursion Stays ts
  all_terms [] = tt
  all_terms (t ∷ ts) = (settle_stays t, all_terms ts)

  pub terms_stay : (ts us : List Term) → each (map settle ts) ≡ Ok us → terms_count f ts ≡ 0 → terms_count f us ≡ 0
  terms_stay ts us e d = all_stay ts us (all_terms ts) e d

  pub literal_stays : (l m : LiteralOf Term) → settle_literal l ≡ Ok m → literal_count f l ≡ 0 → literal_count f m ≡ 0
  literal_stays l m e d = literal_parts l m (all_terms l.args) (all_terms l.annots) e d

  pub relation_stays : (r q : Relation) → settle_relation r ≡ Ok q → weight f r.left + weight f r.right ≡ 0 → weight f q.left + weight f q.right ≡ 0
  relation_stays r q e d =
      let a = then_of (settle r.left) (λ x. and_then (settle r.right) (λ y. Ok (record { op = r.op; left = x; right = y }))) q e in
      let b = then_of (settle r.right) (λ y. Ok (record { op = r.op; left = a.first; right = y })) q a.next in
      let same : record { op = r.op; left = a.first; right = b.first } ≡ q = let h = b.next in cc in
      let one = settle_stays r.left a.first a.is_first (omega (arith, d)) in
      let two = settle_stays r.right b.first b.is_first (omega (arith, d)) in
      ap (λ (z : Relation). weight f z.left + weight f z.right) (sym same) ∙ omega (arith, one, two)
