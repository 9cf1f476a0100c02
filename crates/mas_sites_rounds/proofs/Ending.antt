-- Two sites from their start until both have ended.
use Rattle.std.proofs.Common.{ℕ, zero, suc, ◌≡◌, ◌+◌, ◌<◌, arith, Bool, true, false, ◌&&◌, List, [], ◌∷◌, length, replicate, slice_get, IfSome, Option, None, Some, refl, ap, sym, ◌∙◌, subst, inr, ◌-◌, is_some, not, if◌then◌else◌}
use Rattle.std.proofs.lemmas.List.{length-replicate}
use Rattle.std.proofs.lemmas.Option.{slice_get_within}
use Rattle.mas_mind.specs.Minds.{Kind}
use Rattle.mas_board.specs.declared.seats.AgentPlace.{AgentPlace}
use Rattle.mas_board.specs.Boards.{Noted, seat_at, seat_or_none, no_seat, is_gone}
use Rattle.mas_board.specs.Seating.{IsSound, Opens}
use Rattle.mas_core.specs.Fits.{Start, IsMindOf}
use Rattle.mas_core.specs.Platform.{Platform, ended, first_here, opening_platform}
use Rattle.mas_core.specs.Rounds.{IsSized, Waits}
use Rattle.mas_sites_stand.specs.declared.seated.Seated.{Seated}
use Rattle.mas_sites_stand.specs.declared.seated.Seated.TheVariants as seat
use Rattle.mas_sites_stand.specs.Seats.{seated}
use Rattle.mas_sites_scripts.specs.Sites.{Sited, IsUsedUp, AreUsedUp}
use Rattle.mas_sites_scripts.specs.Ways.{HasGot, HasPut}
use Rattle.mas_sites_scripts.specs.Meeting.{Meeting, have_ended}
use Rattle.mas_sites_rounds.specs.Rounds.{InRound, MayMeet, HasGoneOn, IsOpening, IsMeeting, HaveMet}
use Rattle.mas_sites_rounds.proofs.Folds.{goes_along}
use Rattle.mas_sites_rounds.proofs.Uses.{goes_used}
use Rattle.mas_sites_rounds.proofs.Moving.{past_limit}
use Rattle.mas_sites_rounds.proofs.Keeping.{both_tallied}
use Rattle.mas_sites_rounds.proofs.Meetings.{met_none, met_more, met_all, round_in}

pub meets_first : {V : Type 0} (k : Kind V) (m : Meeting V) → IsOpening m → IsMeeting k m m 0
meets_first k m h = record {
  one = h.one;
  two = h.two;
  met = met_none k m;
  along_one = λ board minds x. x;
  along_two = λ board minds x. x;
  used_one = λ u. u;
  used_two = λ u. u;
  tally = λ one two a b e x. x;
  ways_one = h.ways_one;
  ways_two = h.ways_two;
}

pub may_meet : {V : Type 0} (k : Kind V) (first now : Meeting V) (c : ℕ) → IsMeeting k first now c → MayMeet now
may_meet k first now c h = record { one = (_, (c, h.one)); two = (_, (c, h.two)); ways_one = h.ways_one; ways_two = h.ways_two }

pub meets_on : {V : Type 0} (k : Kind V) (c : ℕ) (first now new : Meeting V) → IsMeeting k first now c → have_ended now ≡ false → HasGoneOn k now new →
    IsMeeting k first new (c + 1)
meets_on k c first now new h e g =
    let one = length now.one.platform.board.seats in
    let two = length now.two.platform.board.seats in
    let a = round_in k HasGot HasPut one now.ways g.between now.one new.one first.one.platform.board.cycles c h.one refl g.first in
    let b = round_in k HasGot HasPut two g.between new.ways now.two new.two first.two.platform.board.cycles c h.two refl g.second in
    record {
      one = a.0;
      two = b.0;
      met = met_more k c first now new.one new.two g.between new.ways h.met e g.first g.second;
      along_one = λ board minds x. goes_along k HasGot HasPut one now.ways g.between now.one new.one g.first board minds (h.along_one board minds x);
      along_two = λ board minds x. goes_along k HasGot HasPut two g.between new.ways now.two new.two g.second board minds (h.along_two board minds x);
      used_one = λ u. goes_used k HasGot HasPut one now.ways g.between now.one new.one g.first (h.used_one u);
      used_two = λ u. goes_used k HasGot HasPut two g.between new.ways now.two new.two g.second (h.used_two u);
      tally = λ before_one before_two x y e t.
          both_tallied k before_one before_two now new (h.along_one before_one.board before_one.minds x) (h.along_two before_two.board before_two.minds y) e g
          (h.tally before_one before_two x y e t);
      ways_one = g.number ∙ h.ways_one ∙ sym a.1;
      ways_two = g.number ∙ h.ways_two ∙ sym b.1;
    }

pub meets_all : {V : Type 0} (k : Kind V) (c : ℕ) (first now : Meeting V) → IsMeeting k first now c → have_ended now ≡ true → HaveMet k first now
meets_all k c first now h e = record {
  rounds = c;
  met = met_all k c first now h.met;
  ended = e;
  along_one = h.along_one;
  along_two = h.along_two;
  used_one = h.used_one;
  used_two = h.used_two;
  tally = h.tally;
}

both_true : (a b : Bool) → a ≡ true → b ≡ true → (a && b) ≡ true
both_true a b e f = ap (λ x. x && b) e ∙ f

pub meets_past : {V : Type 0} (k : Kind V) (c : ℕ) (first now : Meeting V) → IsMeeting k first now c → first.one.platform.board.cycles < c → first.two.platform.board.cycles < c → HaveMet k first now
meets_past k c first now h l m = meets_all k c first now h (both_true _ _ (past_limit first.one.platform.board.cycles c now.one h.one l) (past_limit first.two.platform.board.cycles c now.two h.two m))

-- ---- a site at its start may begin its round

in_new : (n i : ℕ) → seat_or_none (slice_get (replicate n no_seat) i) ≡ no_seat
in_new zero i = refl
in_new (suc n) zero = refl
in_new (suc n) (suc i) = in_new n i

pub opens_round : {V : Type 0} (k : Kind V) (b : Noted) (minds : List V) (p : Platform V) → Start k b minds → Opens b → IsSound b.state → p ≡ opening_platform b.state minds →
    (a : ℕ) → Waits p.board.cycles 0 (seat_at p.board a)
opens_round k b minds p h o s e a =
    let n = o h.unplayed in
    let seats : p.board.seats ≡ replicate (length b.state.names) no_seat = ap (λ q. q.board.seats) e ∙ ap (λ x. x.seats) n in
    let seat : seat_at p.board a ≡ no_seat = ap (λ x. seat_or_none (slice_get x (a - 1))) seats ∙ in_new (length b.state.names) (a - 1) in
    subst (Waits p.board.cycles 0) (sym seat) (inr (record { phase_is = refl; cycle_is = refl; within = omega arith }))

pub opens_sized : {V : Type 0} (k : Kind V) (b : Noted) (minds : List V) (p : Platform V) → Start k b minds → IsSound b.state → p ≡ opening_platform b.state minds → IsSized p.board.cycles p
opens_sized k b minds p h s e = record {
  minds = ap (λ q. length q.minds) e ∙ h.fit.number ∙ sym (ap (λ q. length q.board.seats) e);
  thoughts = ap (λ q. length q.thoughts) e ∙ length-replicate (length minds) None ∙ h.fit.number ∙ sym (ap (λ q. length q.board.seats) e);
  lead = rw e s.limits.ahead;
  cycles = refl;
}

pub first_round : {V : Type 0} (now : Sited V) → IsSized now.platform.board.cycles now.platform → ((a : ℕ) → Waits now.platform.board.cycles 0 (seat_at now.platform.board a)) →
    InRound now.platform.board.cycles 0 0 now
first_round now z w = record {
  sized = z;
  went = λ a j l. let f = j.from_one in absurd (omega (arith, l, f));
  waits = λ a j l. w a;
}

-- the stands have made no cycle, and their scripts are empty
one_of_many : {X : Type 0} (n i : ℕ) (x : X) → i < n → slice_get (replicate n x) i ≡ Some x
one_of_many zero i x l = absurd (omega (arith, l))
one_of_many (suc n) zero x l = refl
one_of_many (suc n) (suc i) x l = one_of_many n i x (omega (arith, l))

module _ {V : Type 0} (k : Kind V) (b : Noted) (minds : List (Seated V)) (h : Start (seated k) b minds) (o : Opens b) where
  unbegun : (a : ℕ) → (seat_at b.state a).cycle ≡ 0
  unbegun a =
      let seats : b.state.seats ≡ replicate (length b.state.names) no_seat = ap (λ x. x.seats) (o h.unplayed) in
      ap (λ x. (seat_or_none (slice_get x (a - 1))).cycle) seats ∙ ap (λ x. x.cycle) (in_new (length b.state.names) (a - 1))

  unused_at : (i : ℕ) (m : Option (Seated V)) → slice_get minds i ≡ m → IsUsedUp m (slice_get (replicate (length minds) []) i)
  unused_at i None e = tt
  unused_at i (Some (seat.Own m)) e = tt
  unused_at i (Some (seat.Stand s)) e =
      let l = slice_get_within minds i (seat.Stand s) e in
      let n = h.fit.number in
      let place : i + 1 - 1 ≡ i = omega arith in
      let fits = h.fit.each (i + 1) (record { from_one = omega arith; named = omega (arith, l, n) }) in
      let fit : IsMindOf (seated k) b.state (i + 1) (seat.Stand s) = subst (λ x. IfSome x (IsMindOf (seated k) b.state (i + 1))) (ap (slice_get minds) place ∙ e) fits in
      let made : s.made ≡ 0 = fit.made ∙ unbegun (i + 1) in
      subst (IsUsedUp {V = V} (Some (seat.Stand s))) (sym (one_of_many (length minds) i [] l)) made

  pub opens_used : AreUsedUp minds (replicate (length minds) [])
  opens_used i = unused_at i (slice_get minds i) refl

-- ---- the agents that are here

pub none_first : (a : ℕ) (seats : List AgentPlace) → is_some (first_here a seats) ≡ not (ended seats)
none_first a [] = refl
none_first a (s ∷ seats) = (elim (is_gone s.phase) as (λ g. is_some (if g then first_here (a + 1) seats else Some a) ≡ not (g && ended seats)) [
  | true ↦ none_first (a + 1) seats
  | false ↦ refl
])
