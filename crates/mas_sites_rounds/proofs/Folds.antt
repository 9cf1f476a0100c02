-- The goes of a round are those of the fold.
use Rattle.std.proofs.Common.{ℕ, zero, suc, ◌≡◌, ◌+◌, arith, true, false, ◌⊎◌, inl, inr, List, Option, None, Some, refl, ap, sym, ◌∙◌, subst, if◌then◌else◌}
use Rattle.mas_mind.specs.declared.mind.Message.{Message}
use Rattle.mas_mind.specs.Minds.{Kind}
use Rattle.mas_sites_scripts.specs.Sites.{Sited, GoesAlong}
use Rattle.mas_sites_scripts.specs.Ways.{HasGot, HasPut}
use Rattle.mas_sites_scripts.specs.Meeting.{Going, and_then, is_here, site_turn, go, goes}
use Rattle.mas_sites_scripts.proofs.Folded.{turn_folds}
use Rattle.mas_sites_rounds.specs.Rounds.{HasNoGo, WentOnce, WentTwice, Went, Goes}

abbrev going : {V : Type 0} → Sited V → List (List Message) → Going V
going site ways = record { site = site; ways = ways }

same_going : {V : Type 0} (from to : List (List Message)) (old new : Sited V) → new ≡ old → to ≡ from → Some (going old from) ≡ Some (going new to)
same_going from to old new e f = λ i. Some (record { site = sym e i; ways = sym f i })

-- ---- a go

module _ {V : Type 0} (k : Kind V) (from to : List (List Message)) (old new : Sited V) (a : ℕ) where
  none_folds : HasNoGo from to old new a → go k (going old from) a ≡ Some (going new to)
  none_folds h =
      ap (λ b. if (if b then false else true) then and_then (λ x. if is_here x a then site_turn k x a else Some x) (site_turn k (going old from) a) else Some (going old from)) h.gone
      ∙ same_going from to old new h.same h.carrier

  once_folds : WentOnce k HasGot HasPut from to old new a → go k (going old from) a ≡ Some (going new to)
  once_folds h =
      ap (λ b. if (if b then false else true) then and_then (λ x. if is_here x a then site_turn k x a else Some x) (site_turn k (going old from) a) else Some (going old from)) h.here
      ∙ ap (and_then (λ x. if is_here x a then site_turn k x a else Some x)) (turn_folds k from to old new a h.turn)
      ∙ ap (λ b. if (if b then false else true) then site_turn k (going new to) a else Some (going new to)) h.over

  twice_folds : WentTwice k HasGot HasPut from to old new a → go k (going old from) a ≡ Some (going new to)
  twice_folds h =
      ap (λ b. if (if b then false else true) then and_then (λ x. if is_here x a then site_turn k x a else Some x) (site_turn k (going old from) a) else Some (going old from)) h.here
      ∙ ap (and_then (λ x. if is_here x a then site_turn k x a else Some x)) (turn_folds k from h.between old h.middle a h.first)
      ∙ ap (λ b. if (if b then false else true) then site_turn k (going h.middle h.between) a else Some (going h.middle h.between)) h.stays
      ∙ turn_folds k h.between to h.middle new a h.second

  by_way : HasNoGo from to old new a ⊎ (WentOnce k HasGot HasPut from to old new a ⊎ WentTwice k HasGot HasPut from to old new a) → go k (going old from) a ≡ Some (going new to)
  by_way (inl h) = none_folds h
  by_way (inr (inl h)) = once_folds h
  by_way (inr (inr h)) = twice_folds h

  pub went_folds : Went k HasGot HasPut from to old new a → go k (going old from) a ≡ Some (going new to)
  went_folds h = by_way h.way

-- ---- the goes of a round, one by one

then_some : {A : Type 0} (o : Option A) → and_then Some o ≡ o
then_some None = refl
then_some (Some x) = refl

-- one go more, at the end
more_by : {V : Type 0} (k : Kind V) (a n : ℕ) → ((g : Going V) → goes k (a + 1) (suc n) g ≡ and_then (λ h. go k h (a + 1 + n)) (goes k (a + 1) n g)) → (o : Option (Going V)) →
    and_then (goes k (a + 1) (suc n)) o ≡ and_then (λ h. go k h (a + suc n)) (and_then (goes k (a + 1) n) o)
more_by k a n more None = refl
more_by k a n more (Some g) = let e : a + 1 + n ≡ a + suc n = omega arith in more g ∙ ap (λ b. and_then (λ h. go k h b) (goes k (a + 1) n g)) e

goes_more : {V : Type 0} (k : Kind V) (a n : ℕ) (g : Going V) → goes k a (suc n) g ≡ and_then (λ h. go k h (a + n)) (goes k a n g)
goes_more k a zero g = let e : a ≡ a + 0 = omega arith in then_some (go k g a) ∙ ap (go k g) e
goes_more k a (suc n) g = more_by k a n (goes_more k (a + 1) n) (go k g a)

pub goes_fold : {V : Type 0} (k : Kind V) (n : ℕ) (from to : List (List Message)) (old new : Sited V) → Goes k HasGot HasPut n from to old new →
    goes k 1 n (record { site = old; ways = from }) ≡ Some (record { site = new; ways = to })
goes_fold k zero from to old new h = same_going from to old new h.0 h.1
goes_fold k (suc n) from to old new h =
    let middle = h.0 in
    let between = h.1.0 in
    let e : 1 + n ≡ n + 1 = omega arith in
    goes_more k 1 n (going old from)
    ∙ ap (and_then (λ x. go k x (1 + n))) (goes_fold k n from between old middle h.1.1.0)
    ∙ ap (go k (going middle between)) e
    ∙ went_folds k between to middle new (n + 1) h.1.1.1

-- ---- the site goes along its scripts

pub goes_along : {V C : Type 0} (k : Kind V) (got : C → ℕ → Option Message → C → Type 0) (put : C → Message → C → Type 0) (n : ℕ) (from to : C) (old new : Sited V) →
    Goes k got put n from to old new → GoesAlong k old new
goes_along k got put zero from to old new h = let P = λ (x : Sited _). GoesAlong k old x in subst P (sym h.0) (λ board minds x. x)
goes_along k got put (suc n) from to old new h = λ board minds x.
    h.1.1.1.along board minds (goes_along k got put n from h.1.0 old h.0 h.1.1.0 board minds x)
