-- The goes of a round, one by one.
use Rattle.std.proofs.Common.{ℕ, zero, suc, ◌≡◌, ◌+◌, arith, Bool, true, false, not, length, Option, refl, ap, ◌∙◌, subst}
use Rattle.mas_mind.specs.declared.mind.Message.{Message}
use Rattle.mas_mind.specs.Minds.{Kind}
use Rattle.mas_sites_scripts.specs.Sites.{Sited}
use Rattle.mas_sites_rounds.specs.Rounds.{Went, Goes}
use Rattle.mas_sites_rounds.proofs.Moving.{went_number}

pub same_not : (a b : Bool) → not a ≡ not b → a ≡ b
same_not true true e = refl
same_not false false e = refl
same_not true false e = cc
same_not false true e = cc

module _ {V C : Type 0} (k : Kind V) (got : C → ℕ → Option Message → C → Type 0) (put : C → Message → C → Type 0) where
  pub goes_number : (n : ℕ) (from to : C) (old new : Sited V) → Goes k got put n from to old new → length new.platform.board.seats ≡ length old.platform.board.seats
  goes_number zero from to old new h = ap (λ s. length s.platform.board.seats) h.0
  goes_number (suc n) from to old new h =
      went_number k got put h.1.0 to h.0 new (n + 1) h.1.1.1 ∙ goes_number n from h.1.0 old h.0 h.1.1.0

  pub goes_step : (n : ℕ) (from between to : C) (old middle new : Sited V) → Goes k got put n from between old middle → Went k got put between to middle new (n + 1) → Goes k got put (n + 1) from to old new
  goes_step n from between to old middle new h w =
      let e : suc n ≡ n + 1 = omega arith in
      let g : Goes k got put (suc n) from to old new = (middle, (between, (h, w))) in
      subst (λ i. Goes k got put i from to old new) e g
