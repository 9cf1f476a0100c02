-- A round goes on: an agent that has not left makes one cycle in it, within the limit.
use Rattle.std.proofs.Common.{ℕ, zero, suc, ◌≡◌, ◌+◌, ◌-◌, ◌≤◌, ◌<◌, arith, true, false, ◌⊎◌, inl, inr, List, [], ◌∷◌, ◌++◌, length, slice_get, slice_set, Option, Some, refl, ap, sym, ◌∙◌, subst}
use Rattle.std.proofs.lemmas.List.{length-set}
use Rattle.mas_mind.specs.declared.mind.Message.{Message}
use Rattle.mas_mind.specs.Minds.{Kind, IsAgent}
use Rattle.mas_board.specs.declared.seats.Phase.{Phase}
use Rattle.mas_board.specs.declared.seats.Phase.TheVariants.{Idle, Busy, Left as Gone}
use Rattle.mas_board.specs.declared.seats.AgentPlace.{AgentPlace}
use Rattle.mas_board.specs.declared.seats.Sensed.{Sensed}
use Rattle.mas_board.specs.declared.seats.Sensed.TheVariants.{Input as Given, Left, Ahead, Halted}
use Rattle.mas_board.specs.Boards.{seat_at, seat_or_none, is_gone, sense, NotBelow}
use Rattle.mas_core.specs.Platform.{Platform, turn, ended}
use Rattle.mas_core.specs.Rounds.{IsSized, IsNext, IsIdleAt, Waits}
use Rattle.mas_core.proofs.Goes.{LeftBy, Begun, begin, turn-same, seat-after}
use Rattle.mas_core.proofs.Queues.{Gone_on, gone-on}
use Rattle.mas_sites_stand.specs.declared.seated.Seated.{Seated}
use Rattle.mas_sites_stand.specs.Seats.{seated}
use Rattle.mas_sites_scripts.specs.Scripts.{given}
use Rattle.mas_sites_scripts.specs.Giving.{Placed, IsGiven}
use Rattle.mas_sites_scripts.specs.Sites.{Sited, placed, with_minds, PassesAt, PassesIn, Turned}
use Rattle.mas_sites_scripts.proofs.Changes.{same_or, change_length, get_set, get_set_other}
use Rattle.mas_sites_scripts.proofs.Numbers.{same_number}
use Rattle.mas_sites_rounds.specs.Rounds.{HasNoGo, WentOnce, WentTwice, Went, InRound}
use Rattle.mas_sites_rounds.proofs.Seats.{all_seats, all_ended}

-- ---- what is given changes no numbers

given_length : {V C : Type 0} (got : C → ℕ → Option Message → C → Type 0) (put : C → Message → C → Type 0) (from to : C) (old new : Placed V) (a : ℕ) (message : Option Message) →
    IsGiven got put from to old new a message → length new.minds ≡ length old.minds
given_length got put from to old new a message (inl g) = ap (λ x. length x.minds) g.same
given_length got put from to old new a message (inr g) = ap length g.minds ∙ change_length (a - 1) (given g.entry) old.minds

sensed_length : {V C : Type 0} (got : C → ℕ → Option Message → C → Type 0) (put : C → Message → C → Type 0) (from to : C) (old new : Placed V) (a : ℕ) (s : Sensed) →
    PassesAt got put from to old new a s → length new.minds ≡ length old.minds
sensed_length got put from to old new a (Given input) h = given_length got put from to old new a input.message h
sensed_length got put from to old new a (Left end) h = ap (λ x. length x.minds) h.1
sensed_length got put from to old new a (Ahead cycle lowest) h = ap (λ x. length x.minds) h.1
sensed_length got put from to old new a Halted h = ap (λ x. length x.minds) h.1

passed_length : {V C : Type 0} (got : C → ℕ → Option Message → C → Type 0) (put : C → Message → C → Type 0) (from to : C) (old : Sited V) (new : Placed V) (a : ℕ) (phase : Phase) →
    PassesIn got put from to old new a phase → length new.minds ≡ length old.platform.minds
passed_length got put from to old new a Idle h = sensed_length got put from to (placed old) new a (sense old.platform.board a).0 h
passed_length got put from to old new a Busy h = ap (λ x. length x.minds) h.1
passed_length got put from to old new a (Gone end) h = ap (λ x. length x.minds) h.1

-- ---- one turn: with what was given, it is one of the platform

sized_fed : {V : Type 0} (limit : ℕ) (p : Platform V) (minds : List V) → length minds ≡ length p.minds → IsSized limit p → IsSized limit (with_minds p minds)
sized_fed limit p minds e h = record { minds = e ∙ h.minds; thoughts = h.thoughts; lead = h.lead; cycles = h.cycles }

pub next_fed : {V : Type 0} (p : Platform V) (minds : List V) (a : ℕ) → length minds ≡ length p.minds → IsNext p a → IsNext (with_minds p minds) a
next_fed p minds a e h = record { agent = h.agent; idle = h.idle; level = h.level; sized = sized_fed p.board.cycles p minds e h.sized }

pub turned_minds : {V C : Type 0} (k : Kind V) (got : C → ℕ → Option Message → C → Type 0) (put : C → Message → C → Type 0) (from to : C) (old new : Sited V) (a : ℕ) (t : Turned k got put from to old new a) →
    length t.after.minds ≡ length old.platform.minds
turned_minds k got put from to old new a t = passed_length got put from to old t.after a (seat_at old.platform.board a).phase t.passes

busy_platform : {V C : Type 0} (got : C → ℕ → Option Message → C → Type 0) (put : C → Message → C → Type 0) (from to : C) (old : Sited V) (after : Placed V) (a : ℕ) →
    (seat_at old.platform.board a).phase ≡ Busy → PassesIn got put from to old after a (seat_at old.platform.board a).phase → after ≡ placed old
busy_platform got put from to old after a b h = (subst (λ (x : Phase). PassesIn got put from to old after a x) b h).1

-- ---- a go

module _ {V C : Type 0} (k : Kind V) (got : C → ℕ → Option Message → C → Type 0) (put : C → Message → C → Type 0) (from to : C) (old new : Sited V) (a limit c : ℕ)
    (z : IsSized limit old.platform) (n : IsNext old.platform a) (w : IsIdleAt limit c (seat_at old.platform.board a)) where
  -- a go of the platform from these minds on
  abbrev GoesOn : Type 0
  GoesOn = (minds : List (Seated V)) × Gone_on (seated k) (record { platform = with_minds old.platform minds; schedule = old.schedule }) (record { platform = new.platform; schedule = new.schedule }) a limit c

  once_on : WentOnce k got put from to old new a → GoesOn
  once_on h =
      let e = passed_length got put from to old h.turn.after a (seat_at old.platform.board a).phase h.turn.passes in (
        h.turn.after.minds,
        gone-on (seated k) _ _ a limit c (sized_fed limit old.platform h.turn.after.minds e z) (next_fed old.platform h.turn.after.minds a e n) w
            (inl (record { turn = h.turn.turn; over = h.over; schedule = h.turn.schedule })),
      )

  -- the first turn leaves the agent busy, where it has not left
  busy_by : (p middle : Platform (Seated V)) → (n : IsNext p a) → turn (seated k) p a ≡ Some middle → is_gone (seat_at middle.board a).phase ≡ false →
      LeftBy (seated k) p a p.board.cycles ⊎ Begun (seated k) p a p.board.cycles → (seat_at middle.board a).phase ≡ Busy
  busy_by p middle n t s (inl l) =
      let to = turn-same (seated k) p a p.board.cycles l.platform middle l.seat l.to t in
      let e : is_gone (seat_at middle.board a).phase ≡ true = ap (λ x. is_gone x.phase) (seat-after (seated k) p a p.board.cycles middle l.seat n.agent to) ∙ l.gone in
      cc
  busy_by p middle n t s (inr b) =
      let to = turn-same (seated k) p a p.board.cycles b.platform middle b.seat b.to t in
      ap (λ x. x.phase) (seat-after (seated k) p a p.board.cycles middle b.seat n.agent to) ∙ b.busy

  twice_on : WentTwice k got put from to old new a → GoesOn
  twice_on h =
      let e = passed_length got put from h.between old h.first.after a (seat_at old.platform.board a).phase h.first.passes in
      let p = with_minds old.platform h.first.after.minds in
      let m = next_fed old.platform h.first.after.minds a e n in
      let busy : (seat_at h.middle.platform.board a).phase ≡ Busy = busy_by p h.middle.platform m h.first.turn h.stays (begin (seated k) p a p.board.cycles m.sized m) in
      let same : h.second.after ≡ placed h.middle = busy_platform got put h.between to h.middle h.second.after a busy h.second.passes in
      let second : turn (seated k) h.middle.platform a ≡ Some new.platform = ap (λ (x : Placed V). turn (seated k) (with_minds h.middle.platform x.minds) a) (sym same) ∙ h.second.turn in (
        h.first.after.minds,
        gone-on (seated k) _ _ a limit c (sized_fed limit old.platform h.first.after.minds e z) m w
            (inr (record { middle = h.middle.platform; first = h.first.turn; busy = busy; second = second; schedule = h.second.schedule ∙ ap (λ x. x ++ a ∷ []) h.first.schedule })),
      )

  goes_on : WentOnce k got put from to old new a ⊎ WentTwice k got put from to old new a → GoesOn
  goes_on (inl h) = once_on h
  goes_on (inr h) = twice_on h

up_to : (a i : ℕ) → (a ≤ i) ⊎ (i < a)
up_to zero i = inl (omega arith)
up_to (suc a) zero = inr (omega arith)
up_to (suc a) (suc i) = elim (up_to a i) [
  | inl h ↦ inl (omega (arith, h))
  | inr h ↦ inr (omega (arith, h))
]

seat_in : (seats : List AgentPlace) (i : ℕ) → i < length seats → (s : AgentPlace) × (slice_get seats i ≡ Some s)
seat_in [] i l = absurd (omega arith)
seat_in (s ∷ seats) zero l = (s, refl)
seat_in (s ∷ seats) (suc i) l = seat_in seats i (omega arith)

-- ---- the seats of a round

module _ {V : Type 0} (limit c i : ℕ) (now : Sited V) (h : InRound limit c i now) where
  waits_not_below : (d : ℕ) (s : AgentPlace) → c ≤ d → Waits limit d s → NotBelow c s
  waits_not_below d s l (inl g) = inl g
  waits_not_below d s l (inr w) = let e = w.cycle_is in inr (omega arith)

  below_by : (a : ℕ) → IsAgent (length now.platform.board.seats) a → (a ≤ i) ⊎ (i < a) → NotBelow c (seat_at now.platform.board a)
  below_by a j (inl l) = waits_not_below (c + 1) (seat_at now.platform.board a) (omega arith) (h.went a j l)
  below_by a j (inr l) = waits_not_below c (seat_at now.platform.board a) (omega arith) (h.waits a j l)

  idle_by : (s : AgentPlace) → Waits limit c s → is_gone s.phase ≡ false → IsIdleAt limit c s
  idle_by s (inl g) e = cc
  idle_by s (inr w) e = w

  pub idle_here : i < length now.platform.board.seats → is_gone (seat_at now.platform.board (i + 1)).phase ≡ false → IsIdleAt limit c (seat_at now.platform.board (i + 1))
  idle_here l g = idle_by (seat_at now.platform.board (i + 1)) (h.waits (i + 1) (record { from_one = omega arith; named = omega arith }) (omega arith)) g

  pub next_here : i < length now.platform.board.seats → is_gone (seat_at now.platform.board (i + 1)).phase ≡ false → IsNext now.platform (i + 1)
  next_here l g =
      let w = idle_here l g in
      let z = h.sized in
      record {
        agent = record { from_one = omega arith; named = omega arith };
        idle = w.phase_is;
        level = rw w.cycle_is (all_seats (NotBelow c) now.platform.board.seats (λ a j. below_by a j (up_to a i)));
        sized = record { minds = z.minds; thoughts = z.thoughts; lead = z.lead; cycles = refl };
      }

-- ---- a go more

up_to_or : (a i : ℕ) → a ≤ i + 1 → (a - 1 ≡ i + 1 - 1 → ⊥) → 1 ≤ a → a ≤ i
up_to_or a i l n f = elim (up_to a i) [
  | inl h ↦ h
  | inr h ↦ absurd (n (omega arith))
]

passed_by : {V : Type 0} (limit c i : ℕ) (now : Sited V) → InRound limit c i now → i < length now.platform.board.seats → is_gone (seat_at now.platform.board (i + 1)).phase ≡ true → InRound limit c (i + 1) now
passed_by limit c i now h l g = record {
  sized = h.sized;
  went = λ a j m. elim (same_or (a - 1) (i + 1 - 1)) [
    | inl e ↦ inl (ap (λ x. is_gone (seat_or_none (slice_get now.platform.board.seats x)).phase) e ∙ g)
    | inr n ↦ h.went a j (up_to_or a i m n j.from_one)
  ];
  waits = λ a j m. h.waits a j (omega (arith, m));
}

moved_by : {V : Type 0} (k : Kind V) (limit c i : ℕ) (old new : Sited V) (minds : List (Seated V)) → InRound limit c i old → i < length old.platform.board.seats →
    Gone_on (seated k) (record { platform = with_minds old.platform minds; schedule = old.schedule }) (record { platform = new.platform; schedule = new.schedule }) (i + 1) limit c →
    InRound limit c (i + 1) new
moved_by k limit c i old new minds h l f =
    let seats = old.platform.board.seats in
    let s : new.platform.board.seats ≡ slice_set seats (i + 1 - 1) f.seat = f.seats in
    let n : length new.platform.board.seats ≡ length seats = ap length s ∙ length-set seats (i + 1 - 1) f.seat in
    let there : (x : AgentPlace) × (slice_get seats (i + 1 - 1) ≡ Some x) = seat_in seats (i + 1 - 1) (omega arith) in
    let own : (a : ℕ) → a - 1 ≡ i + 1 - 1 → seat_at new.platform.board a ≡ f.seat =
    λ a e. ap seat_or_none (ap (λ x. slice_get x (a - 1)) s ∙ ap (slice_get (slice_set seats (i + 1 - 1) f.seat)) e ∙ get_set (i + 1 - 1) seats f.seat there.0 there.1) in
    let other : (a : ℕ) → (a - 1 ≡ i + 1 - 1 → ⊥) → seat_at new.platform.board a ≡ seat_at old.platform.board a =
    λ a d. ap seat_or_none (ap (λ x. slice_get x (a - 1)) s ∙ get_set_other (a - 1) (i + 1 - 1) seats f.seat d) in
    let agent : (a : ℕ) → IsAgent (length new.platform.board.seats) a → IsAgent (length seats) a = λ a j. subst (λ x. IsAgent x a) n j in
    record {
      sized = f.sized;
      went = λ a j m. elim (same_or (a - 1) (i + 1 - 1)) [
        | inl e ↦ subst (Waits limit (c + 1)) (sym (own a e)) f.waits
        | inr d ↦ subst (Waits limit (c + 1)) (sym (other a d)) (h.went a (agent a j) (up_to_or a i m d j.from_one))
      ];
      waits = λ a j m. subst (Waits limit c) (sym (other a (λ e. omega (arith, m, e)))) (h.waits a (agent a j) (omega (arith, m)));
    }

live_on : {V C : Type 0} (k : Kind V) (got : C → ℕ → Option Message → C → Type 0) (put : C → Message → C → Type 0) (from to : C) (old new : Sited V) (limit c i : ℕ) → InRound limit c i old →
    i < length old.platform.board.seats → is_gone (seat_at old.platform.board (i + 1)).phase ≡ false → WentOnce k got put from to old new (i + 1) ⊎ WentTwice k got put from to old new (i + 1) →
    InRound limit c (i + 1) new
live_on k got put from to old new limit c i h l g w =
    let r = goes_on k got put from to old new (i + 1) limit c h.sized (next_here limit c i old h l g) (idle_here limit c i old h l g) w in
    moved_by k limit c i old new r.0 h l r.1

way_on : {V C : Type 0} (k : Kind V) (got : C → ℕ → Option Message → C → Type 0) (put : C → Message → C → Type 0) (from to : C) (old new : Sited V) (limit c i : ℕ) → InRound limit c i old →
    i < length old.platform.board.seats →
    HasNoGo from to old new (i + 1) ⊎ (WentOnce k got put from to old new (i + 1) ⊎ WentTwice k got put from to old new (i + 1)) → InRound limit c (i + 1) new
way_on k got put from to old new limit c i h l (inl g) = let P = λ (x : Sited _). InRound limit c (i + 1) x in subst P (sym g.same) (passed_by limit c i old h l g.gone)
way_on k got put from to old new limit c i h l (inr (inl g)) = live_on k got put from to old new limit c i h l g.here (inl g)
way_on k got put from to old new limit c i h l (inr (inr g)) = live_on k got put from to old new limit c i h l g.here (inr g)

pub round_on : {V C : Type 0} (k : Kind V) (got : C → ℕ → Option Message → C → Type 0) (put : C → Message → C → Type 0) (from to : C) (old new : Sited V) (limit c i : ℕ) → InRound limit c i old →
    i < length old.platform.board.seats → Went k got put from to old new (i + 1) → InRound limit c (i + 1) new
round_on k got put from to old new limit c i h l g = way_on k got put from to old new limit c i h l g.way

-- ---- the number of agents

turned_number : {V C : Type 0} (k : Kind V) (got : C → ℕ → Option Message → C → Type 0) (put : C → Message → C → Type 0) (from to : C) (old new : Sited V) (a : ℕ) → Turned k got put from to old new a →
    length new.platform.board.seats ≡ length old.platform.board.seats
turned_number k got put from to old new a t = same_number (seated k) (with_minds old.platform t.after.minds) new.platform a t.turn

number_by : {V C : Type 0} (k : Kind V) (got : C → ℕ → Option Message → C → Type 0) (put : C → Message → C → Type 0) (from to : C) (old new : Sited V) (a : ℕ) →
    HasNoGo from to old new a ⊎ (WentOnce k got put from to old new a ⊎ WentTwice k got put from to old new a) → length new.platform.board.seats ≡ length old.platform.board.seats
number_by k got put from to old new a (inl h) = ap (λ s. length s.platform.board.seats) h.same
number_by k got put from to old new a (inr (inl h)) = turned_number k got put from to old new a h.turn
number_by k got put from to old new a (inr (inr h)) = turned_number k got put h.between to h.middle new a h.second ∙ turned_number k got put from h.between old h.middle a h.first

pub went_number : {V C : Type 0} (k : Kind V) (got : C → ℕ → Option Message → C → Type 0) (put : C → Message → C → Type 0) (from to : C) (old new : Sited V) (a : ℕ) → Went k got put from to old new a →
    length new.platform.board.seats ≡ length old.platform.board.seats
went_number k got put from to old new a w = number_by k got put from to old new a w.way

-- ---- whole rounds

pub next_round : {V : Type 0} (limit c i : ℕ) (now : Sited V) → InRound limit c i now → length now.platform.board.seats ≤ i → InRound limit (c + 1) 0 now
next_round limit c i now h l = record {
  sized = h.sized;
  went = λ a j m. let f = j.from_one in absurd (omega (arith, m, f));
  waits = λ a j m. let n = j.named in h.went a j (omega (arith, n));
}

past_by : (limit c : ℕ) (s : AgentPlace) → limit < c → Waits limit c s → is_gone s.phase ≡ true
past_by limit c s l (inl g) = g
past_by limit c s l (inr w) = let e = w.within in absurd (omega arith)

-- past the limit of cycles all have left
pub past_limit : {V : Type 0} (limit c : ℕ) (now : Sited V) → InRound limit c 0 now → limit < c → ended now.platform.board.seats ≡ true
past_limit limit c now h l = all_ended now.platform.board.seats (λ a j. let f = j.from_one in past_by limit c (seat_at now.platform.board a) l (h.waits a j (omega (arith, f))))
