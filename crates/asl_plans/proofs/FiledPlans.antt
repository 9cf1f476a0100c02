-- The plans of one sign, kind and frame are those at the places that are filed there.
use Rattle.std.proofs.Common.{◌≡◌, ◌≤◌, ℕ, zero, suc, ◌+◌, Bool, true, false, List, [], ◌∷◌, map, length, Option, Some, None, cond, refl, ap, sym, ◌∙◌, subst, arith}
use Rattle.std.specs.List.{filter, slice_get}
use Rattle.std.proofs.lemmas.List.Sums.{length-filter, count_by-le-length}
use Rattle.asl_term.specs.declared.syntax.Kind.{Kind}
use Rattle.asl_term.specs.declared.syntax.LiteralOf.{LiteralOf}
use Rattle.asl_term.specs.declared.syntax.Term.{Term}
use Rattle.asl_index_tables.specs.declared.frames.Frames.{Frames}
use Rattle.asl_index_tables.specs.Frames.{filed}
use Rattle.asl_index_tables.specs.Slots.{places}
use Rattle.asl_plans.specs.declared.entry.OwnedPlan.{OwnedPlan}
use Rattle.asl_plans.specs.FiledPlaces.{AreOf, filed_plans, is_filed}

-- what stands at a place
abbrev pub stood : List OwnedPlan → Option ℕ → Option OwnedPlan
stood all None = None
stood all (Some k) = slice_get all k

module _ (own : OwnedPlan → Bool) where
  kth : (all lib : List OwnedPlan) (i : ℕ) → ((j : ℕ) (e : OwnedPlan) → slice_get lib j ≡ Some e → slice_get all (i + j) ≡ Some e) → (k : ℕ)
      → stood all (slice_get (places own i (map Some lib)) k) ≡ slice_get (filter own lib) k
  kth all [] i h k = refl
  kth all (e ∷ more) i h k =
      let here : i + 0 ≡ i = omega arith in
      let rest = kth all more (suc i) (λ j q is. let step : suc i + j ≡ i + suc j = omega arith in ap (slice_get all) step ∙ h (suc j) q is) in
      go (own e) (ap (slice_get all) (sym here) ∙ h 0 e refl) rest k
    where
      go : (b : Bool) → slice_get all i ≡ Some e
          → ((m : ℕ) → stood all (slice_get (places own (suc i) (map Some more)) m) ≡ slice_get (filter own more) m) → (m : ℕ)
          → stood all (slice_get (cond b (i ∷ places own (suc i) (map Some more)) (places own (suc i) (map Some more))) m)
          ≡ slice_get (cond b (e ∷ filter own more) (filter own more)) m
      go true at rest zero = at
      go true at rest (suc m) = rest m
      go false at rest m = rest m

  -- each of them passes the test
  pub passes : (lib : List OwnedPlan) (k : ℕ) (e : OwnedPlan) → slice_get (filter own lib) k ≡ Some e → own e ≡ true
  passes [] k e h = cc
  passes (x ∷ more) k e h = go (own x) refl k h (passes more) where
    go : (b : Bool) → own x ≡ b → (m : ℕ) → slice_get (cond b (x ∷ filter own more) (filter own more)) m ≡ Some e
        → ((m : ℕ) (e : OwnedPlan) → slice_get (filter own more) m ≡ Some e → own e ≡ true) → own e ≡ true
    go true u zero h rest = let is : x ≡ e = cc in ap own (sym is) ∙ u
    go true u (suc m) h rest = rest m e h
    go false u m h rest = rest m e h

module _ (add : Bool) (kind : Kind) (l : LiteralOf Term) (lib : List OwnedPlan) where
  pub kth_filed : (frames : Frames) (k : ℕ) → AreOf add kind lib frames
      → stood lib (slice_get (filed frames l.neg l.functor (length l.args)) k) ≡ slice_get (filed_plans add kind l lib) k
  kth_filed frames k a =
      ap (λ z. stood lib (slice_get z k)) (a l.neg l.functor (length l.args))
      ∙ kth (is_filed add kind l) lib lib 0 (λ j e is. let same : 0 + j ≡ j = omega arith in ap (slice_get lib) same ∙ is) k

  pub few_filed : length (filed_plans add kind l lib) ≤ length lib
  few_filed = subst (λ n. n ≤ length lib) (sym (length-filter (is_filed add kind l) lib)) (count_by-le-length (is_filed add kind l) lib)
