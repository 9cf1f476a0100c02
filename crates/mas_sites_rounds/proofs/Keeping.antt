-- Rounds keep what was taken, what came and what is on the way in step.
use Rattle.std.proofs.Common.{ℕ, zero, suc, ◌≡◌, ◌+◌, ◌-◌, arith, Bool, true, false, not, ◌⊎◌, inl, inr, List, [], ◌++◌, length, replicate, slice_get, Option, None, Some, refl, ap, sym, ◌∙◌, subst}
use Rattle.std.proofs.lemmas.List.{length-replicate}
use Rattle.mas_mind.specs.declared.mind.Message.{Message}
use Rattle.mas_mind.specs.Minds.{Kind}
use Rattle.mas_board.specs.Boards.{box_or_none}
use Rattle.mas_sites_scripts.specs.Sites.{Sited, Before, opened, IsAlong}
use Rattle.mas_sites_scripts.specs.Ways.{HasGot, HasPut}
use Rattle.mas_sites_scripts.specs.Meeting.{Meeting}
use Rattle.mas_sites_stand.specs.declared.seated.Seated.{Seated}
use Rattle.mas_sites_rounds.specs.Between.{messages_in, script_or_none, AreApart, IsTallied}
use Rattle.mas_sites_rounds.specs.Rounds.{HasNoGo, WentOnce, WentTwice, Goes, met, HasGoneOn, AreTallied}
use Rattle.mas_sites_rounds.proofs.Folds.{goes_along}
use Rattle.mas_sites_rounds.proofs.Tallies.{StaysTallied, turn_tallied}

-- ---- steps one after another

stays_same : {V : Type 0} (k : Kind V) (near far : Before V) (other old new : Sited V) (from to : List (List Message)) → new ≡ old → to ≡ from → StaysTallied k near far other old new from to
stays_same k near far other old new from to e f =
    let P = λ (x : Sited _ × List (List Message)). StaysTallied k near far other old x.0 from x.1 in
    subst P (λ i. (sym e i, sym f i)) (record { out = λ c. c; back = λ c. c; number = refl })

stays_more : {V : Type 0} (k : Kind V) (near far : Before V) (other old middle new : Sited V) (from between to : List (List Message)) →
    StaysTallied k near far other old middle from between → StaysTallied k near far other middle new between to → StaysTallied k near far other old new from to
stays_more k near far other old middle new from between to h g = record { out = λ c. g.out (h.out c); back = λ c. g.back (h.back c); number = g.number ∙ h.number }

module _ {V : Type 0} (k : Kind V) (near far : Before V) (other : Sited V) (e : AreApart near.minds far.minds) where
  by_way : (from to : List (List Message)) (old new : Sited V) (a : ℕ) → IsAlong k near.board near.minds old → length from ≡ length near.minds →
      HasNoGo from to old new a ⊎ (WentOnce k HasGot HasPut from to old new a ⊎ WentTwice k HasGot HasPut from to old new a) → StaysTallied k near far other old new from to
  by_way from to old new a h w (inl g) = stays_same k near far other old new from to g.same g.carrier
  by_way from to old new a h w (inr (inl g)) = turn_tallied k near far other old new from to a h w e g.turn
  by_way from to old new a h w (inr (inr g)) =
      let one = turn_tallied k near far other old g.middle from g.between a h w e g.first in
      let two = turn_tallied k near far other g.middle new g.between to a (g.first.along near.board near.minds h) (one.number ∙ w) e g.second in
      stays_more k near far other old g.middle new from g.between to one two

  goes_tallied : (n : ℕ) (from to : List (List Message)) (old new : Sited V) → IsAlong k near.board near.minds old → length from ≡ length near.minds → Goes k HasGot HasPut n from to old new →
      StaysTallied k near far other old new from to
  goes_tallied zero from to old new h w g = stays_same k near far other old new from to g.0 g.1
  goes_tallied (suc n) from to old new h w g =
      let one = goes_tallied n from g.1.0 old g.0 h w g.1.1.0 in
      let along = goes_along k HasGot HasPut n from g.1.0 old g.0 g.1.1.0 near.board near.minds h in
      let two = by_way g.1.0 to g.0 new (n + 1) along (one.number ∙ w) g.1.1.1.way in
      stays_more k near far other old g.0 new from g.1.0 to one two

-- ---- a round of both

flipped : (b c : Bool) → b ≡ not c → c ≡ not b
flipped true true e = cc
flipped true false e = refl
flipped false true e = refl
flipped false false e = cc

apart_too : {V : Type 0} (one two : List (Seated V)) → AreApart one two → AreApart two one
apart_too one two h = record {
  number = sym h.number;
  each = λ i l. let n = h.number in flipped _ _ (h.each i (omega (arith, l, n)));
}

pub both_tallied : {V : Type 0} (k : Kind V) (one two : Before V) (old new : Meeting V) → IsAlong k one.board one.minds old.one → IsAlong k two.board two.minds old.two →
    AreApart one.minds two.minds → HasGoneOn k old new → AreTallied k one two old → AreTallied k one two new
both_tallied k one two old new a b e g h =
    let first = goes_tallied k one two old.two e (length old.one.platform.board.seats) old.ways g.between old.one new.one a h.number g.first in
    let w : length g.between ≡ length two.minds = first.number ∙ h.number ∙ sym e.number in
    let second = goes_tallied k two one new.one (apart_too one.minds two.minds e) (length old.two.platform.board.seats) g.between new.ways old.two new.two b w g.second in
    record {
      one = second.back (first.out h.one);
      two = second.out (first.back h.two);
      number = g.number ∙ h.number;
    }

-- ---- the start

pub none_in : {X : Type 0} (n i : ℕ) (f : Option (List X) → List X) → f None ≡ [] → f (Some []) ≡ [] → f (slice_get (replicate n []) i) ≡ []
none_in zero i f e g = e
none_in (suc n) zero f e g = g
none_in (suc n) (suc i) f e g = none_in n i f e g

none_taken : {V : Type 0} (k : Kind V) (near far : Before V) (n : ℕ) → IsTallied k near (opened near.board near.minds) (opened far.board far.minds) (replicate n [])
none_taken k near far n y j o =
    sym (ap (λ x. messages_in x ++ box_or_none (slice_get (replicate n []) (y - 1))) (none_in (length far.minds) (y - 1) script_or_none refl refl) ∙ none_in n (y - 1) box_or_none refl refl)

pub opens_tallied : {V : Type 0} (k : Kind V) (one two : Before V) (n : ℕ) → n ≡ length one.minds →
    AreTallied k one two (met (opened one.board one.minds) (opened two.board two.minds) (replicate n []))
opens_tallied k one two n e = record { one = none_taken k one two n; two = none_taken k two one n; number = length-replicate n [] ∙ e }
