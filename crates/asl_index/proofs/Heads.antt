-- Rules that are filed by their heads.
use Rattle.std.proofs.Common.{◌≡◌, ◌≤◌, ℕ, zero, suc, ◌+◌, Bool, true, false, List, [], ◌∷◌, ◌++◌, map, length, take, Option, Some, None, cond, refl, ap, sym, ◌∙◌, arith}
use Rattle.std.specs.List.{slice_get, filter}
use Rattle.asl_term.specs.declared.syntax.LiteralOf.{LiteralOf}
use Rattle.asl_term.specs.declared.syntax.Term.{Term}
use Rattle.asl_term.specs.declared.syntax.Clause.{Clause}
use Rattle.asl_unify.specs.Compare.{same_frame}
use Rattle.asl_index_tables.specs.declared.frames.Frames.{Frames}
use Rattle.asl_index_tables.specs.Frames.{has_frame, filed, IsPut}
use Rattle.asl_index_tables.specs.Slots.{kept, places, at_slot}
use Rattle.asl_index_tables.proofs.Slots.{nth_slot, nth_none, length_places, kept_some, places_more}
use Rattle.asl_index.specs.Rules.{AreFiledRules}

-- a filter keeps no more than there is
pub few : {A : Type 0} (test : A → Bool) (s : List (Option A)) → length (filter test (kept s)) ≤ length s
few test [] = omega arith
few test (None ∷ s) = let more = few test s in omega (arith, more)
few test (Some x ∷ s) = go (test x) (few test s) where
  go : (t : Bool) → length (filter test (kept s)) ≤ length s → length (cond t (x ∷ filter test (kept s)) (filter test (kept s))) ≤ suc (length s)
  go true e = omega (arith, e)
  go false e = omega (arith, e)

pub at_some : {A : Type 0} (xs : List A) (k : ℕ) → at_slot (map Some xs) k ≡ slice_get xs k
at_some [] k = refl
at_some (x ∷ xs) zero = refl
at_some (x ∷ xs) (suc k) = at_some xs k

module _ (g : LiteralOf Term) (rules : List Clause) (f : Frames) (a : AreFiledRules rules f) where
  abbrev own : Clause → Bool
  own r = same_frame g r.head

  alike : (k : ℕ) → slice_get (filed f g.neg g.functor (length g.args)) k ≡ slice_get (places own 0 (map Some rules)) k
  alike k = ap (λ z. slice_get z k) (a g.neg g.functor (length g.args))

  pub rules_count : length (filed f g.neg g.functor (length g.args)) ≡ length (filter own rules)
  rules_count =
      ap length (a g.neg g.functor (length g.args)) ∙ length_places own 0 (map Some rules) ∙ ap (λ z. length (filter own z)) (kept_some rules)

  pub rules_nth : (k j : ℕ) → slice_get (filed f g.neg g.functor (length g.args)) k ≡ Some j → slice_get rules j ≡ slice_get (filter own rules) k
  rules_nth k j e =
      let p = nth_slot own (map Some rules) k j (sym (alike k) ∙ e) in
      sym (at_some rules j) ∙ p.at ∙ sym p.nth ∙ ap (λ z. slice_get (filter own z) k) (kept_some rules)

  pub rules_none : (k : ℕ) → slice_get (filed f g.neg g.functor (length g.args)) k ≡ None → slice_get (filter own rules) k ≡ None
  rules_none k e = ap (λ z. slice_get (filter own z) k) (sym (kept_some rules)) ∙ nth_none own (map Some rules) k (sym (alike k) ∙ e)

-- one more rule is filed
pub rules_more : (rules : List Clause) (i : ℕ) (r : Clause) (old new : Frames) → slice_get rules i ≡ Some r → AreFiledRules (take i rules) old → IsPut r.head i old new
    → AreFiledRules (take (i + 1) rules) new
rules_more rules i r old new e a put neg functor count =
    let test : Clause → Bool = λ q. has_frame neg functor count q.head in
    let same : i ≡ 0 + i = omega arith in
    let next : suc i ≡ i + 1 = omega arith in
    put neg functor count
    ∙ ap (λ z. cond (test r) (z ++ i ∷ []) z) (a neg functor count)
    ∙ ap (λ m. cond (test r) (places test 0 (map Some (take i rules)) ++ m ∷ []) (places test 0 (map Some (take i rules)))) same
    ∙ sym (places_more test 0 rules i r e)
    ∙ ap (λ m. places test 0 (map Some (take m rules))) next

pub fewer : {A : Type 0} (test : A → Bool) (xs : List A) → length (filter test xs) ≤ length xs
fewer test [] = omega arith
fewer test (x ∷ xs) = go (test x) (fewer test xs) where
  go : (t : Bool) → length (filter test xs) ≤ length xs → length (cond t (x ∷ filter test xs) (filter test xs)) ≤ suc (length xs)
  go true e = omega (arith, e)
  go false e = omega (arith, e)
