-- Percepts that are perceived already, one by one, in slots.
use Rattle.std.proofs.Common.{◌≡◌, ◌≤◌, ℕ, zero, suc, ◌+◌, ◌&&◌, true, false, List, [], ◌∷◌, ◌++◌, length, drop, Some, None, cond, nat_eq, refl, ap, sym, ◌∙◌, arith}
use Rattle.std.specs.Prelude.{option_to_list}
use Rattle.std.specs.List.{slice_get}
use Rattle.std.proofs.Math.Dec.{eqb-zero-suc, eqb-suc-suc}
use Rattle.std.proofs.lemmas.List.{drop_all}
use Rattle.asl_term.specs.declared.syntax.LiteralOf.{LiteralOf}
use Rattle.asl_term.specs.declared.syntax.Term.{Term}
use Rattle.asl_index_tables.specs.Slots.{kept, at_slot}
use Rattle.asl_beliefs.specs.Sources.{source_percept}
use Rattle.asl_beliefs.specs.Changes.{same_belief, is_held}
use Rattle.asl_beliefs.specs.Laws.{perceived, all_same_belief, are_perceived}
use Rattle.asl_index.specs.Hits.{IsPassed}
use Rattle.asl_index.proofs.Filing.{BeliefSlots}

abbrev pub Ls : Type 0
Ls = List (LiteralOf Term)

pub drop_next : (ps : Ls) (n : ℕ) (p : LiteralOf Term) → slice_get ps n ≡ Some p → drop n ps ≡ p ∷ drop (suc n) ps
drop_next [] n p e = cc
drop_next (q ∷ ps) zero p e = let is : q ≡ p = cc in ap (λ w. w ∷ ps) is
drop_next (q ∷ ps) (suc n) p e = drop_next ps n p e

drop_none : (ps : Ls) (n : ℕ) → slice_get ps n ≡ None → drop n ps ≡ []
drop_none [] zero e = refl
drop_none [] (suc n) e = refl
drop_none (q ∷ ps) zero e = cc
drop_none (q ∷ ps) (suc n) e = drop_none ps n e

get_within : (ps : Ls) (n : ℕ) (p : LiteralOf Term) → slice_get ps n ≡ Some p → suc n ≤ length ps
get_within [] n p e = cc
get_within (q ∷ ps) zero p e = omega arith
get_within (q ∷ ps) (suc n) p e = let more = get_within ps n p e in omega (arith, more)

-- an empty slot
pub past_empty : (ps : Ls) (n : ℕ) → n ≤ length ps → IsPassed None ps n (Some n)
past_empty ps n l = (l, λ more. refl)

module _ (b : LiteralOf Term) (ps : Ls) (n : ℕ) where
  -- a belief without the mark
  pub unmarked : is_held b.annots source_percept ≡ false → n ≤ length ps → IsPassed (Some b) ps n (Some n)
  unmarked e l = (l, λ more. ap (λ t. all_same_belief (cond t (b ∷ perceived more) (perceived more)) (drop n ps)) e)

  marked : (more : Ls) → is_held b.annots source_percept ≡ true → are_perceived (drop n ps) (b ∷ more) ≡ all_same_belief (b ∷ perceived more) (drop n ps)
  marked more e = ap (λ t. all_same_belief (cond t (b ∷ perceived more) (perceived more)) (drop n ps)) e

  -- one with it, where no percept is left, or the next is another, or this one
  pub past_all : is_held b.annots source_percept ≡ true → slice_get ps n ≡ None → IsPassed (Some b) ps n None
  past_all e at more = marked more e ∙ ap (all_same_belief (b ∷ perceived more)) (drop_none ps n at)

  compared : (p : LiteralOf Term) (more : Ls) → is_held b.annots source_percept ≡ true → slice_get ps n ≡ Some p
      → are_perceived (drop n ps) (b ∷ more) ≡ (same_belief b p && are_perceived (drop (suc n) ps) more)
  compared p more e at = marked more e ∙ ap (all_same_belief (b ∷ perceived more)) (drop_next ps n p at)

  pub past_other : (p : LiteralOf Term) → is_held b.annots source_percept ≡ true → slice_get ps n ≡ Some p → same_belief b p ≡ false
      → IsPassed (Some b) ps n None
  past_other p e at o more = compared p more e at ∙ ap (λ t. t && are_perceived (drop (suc n) ps) more) o

  pub past_same : (p : LiteralOf Term) → is_held b.annots source_percept ≡ true → slice_get ps n ≡ Some p → same_belief b p ≡ true
      → IsPassed (Some b) ps n (Some (n + 1))
  past_same p e at s =
      let next : n + 1 ≡ suc n = omega arith in
      let l = get_within ps n p at in (
        omega (arith, l),
        λ more. compared p more e at ∙ ap (λ t. t && are_perceived (drop (suc n) ps) more) s ∙ ap (λ m. are_perceived (drop m ps) more) (sym next),
      )

pub ruleset passes = (past_empty, unmarked, past_all, past_other, past_same)

-- ---- over slots

-- the percepts behind so many are still to be compared with the slots from one on
pub record Compared (ps : Ls) (slots : BeliefSlots) (k n : ℕ) : Type 0 where
  pub rest : are_perceived (drop n ps) (kept (drop k slots)) ≡ are_perceived ps (kept slots)
  pub within : n ≤ length ps

kept_next : (s : BeliefSlots) (k : ℕ) → kept (drop k s) ≡ option_to_list (at_slot s k) ++ kept (drop (suc k) s)
kept_next [] zero = refl
kept_next [] (suc k) = refl
kept_next (None ∷ s) zero = refl
kept_next (Some b ∷ s) zero = refl
kept_next (x ∷ s) (suc k) = kept_next s k

-- without a further belief no percept may be left
none_over : (ps : Ls) (n : ℕ) → n ≤ length ps → nat_eq n (length ps) ≡ all_same_belief [] (drop n ps)
none_over [] zero e = refl
none_over [] (suc n) e = absurd (omega (arith, e))
none_over (p ∷ ps) zero e = eqb-zero-suc (length ps)
none_over (p ∷ ps) (suc n) e = eqb-suc-suc n (length ps) ∙ none_over ps n (omega (arith, e))

module _ (ps : Ls) (slots : BeliefSlots) (k n : ℕ) (c : Compared ps slots k n) where
  pub compared_next : (m : ℕ) → IsPassed (at_slot slots k) ps n (Some m) → Compared ps slots (k + 1) m
  compared_next m p =
      let next : k + 1 ≡ suc k = omega arith in
      record {
        rest = ap (λ j. are_perceived (drop m ps) (kept (drop j slots))) next ∙ sym (p.1 (kept (drop (suc k) slots)))
            ∙ ap (are_perceived (drop n ps)) (sym (kept_next slots k)) ∙ c.rest;
        within = p.0;
      }

  pub compared_apart : IsPassed (at_slot slots k) ps n None → false ≡ are_perceived ps (kept slots)
  compared_apart p = sym (p (kept (drop (suc k) slots))) ∙ ap (are_perceived (drop n ps)) (sym (kept_next slots k)) ∙ c.rest

  pub compared_all : length slots ≤ k → nat_eq n (length ps) ≡ are_perceived ps (kept slots)
  compared_all l = none_over ps n c.within ∙ ap (λ z. are_perceived (drop n ps) (kept z)) (sym (drop_all k slots l)) ∙ c.rest
