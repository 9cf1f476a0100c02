-- Some agent has a turn.
use Rattle.std.proofs.Common.{ℕ, zero, suc, ◌≡◌, ◌+◌, ◌-◌, ◌<◌, ◌≤◌, arith, Bool, true, false, min, nat_le, ◌&&◌, if◌then◌else◌, List, [], ◌∷◌, length, slice_get, is_some, Option, None, Some, refl, ap, sym, ◌∙◌, subst}
use Rattle.std.proofs.lemmas.Grind.{common_steps}
use Rattle.std.proofs.lemmas.Bool.{and_parts}
use Rattle.std.proofs.lemmas.Option.{same_Some, none-some}
use Rattle.mas_mind.specs.declared.mind.Input.{Input}
use Rattle.mas_mind.specs.declared.mind.Thought.{Thought}
use Rattle.mas_mind.specs.declared.mind.Thought.TheVariants.{Outs as Acts, Spent}
use Rattle.mas_mind.specs.Minds.{Kind, IsAgent, is_quiet, SendsNothing}
use Rattle.mas_board.specs.declared.seats.Phase.{Phase}
use Rattle.mas_board.specs.declared.seats.Phase.TheVariants.{Idle, Busy, Left as Gone}
use Rattle.mas_board.specs.declared.seats.AgentPlace.{AgentPlace}
use Rattle.mas_board.specs.Boards.{State, seat_at, seat_or_none, is_gone, least, is_at_limit, is_ahead, left_cycles, left_stopped, ahead, given, begun, input_of}
use Rattle.mas_core.specs.Platform.{Platform, after_sense, after_thought, think, and_run, ended}
use Rattle.mas_core.proofs.Goes.{agent-is}
use Rattle.mas_core_laws.specs.Quiet.{turn_in_on, turn_on, run_on, sense_on, HasTurn, QuietGoesOn}
use Rattle.mas_core_laws.proofs.Steps.{turned_on}
use Rattle.mas_core_laws.proofs.Changes.{changed}
use Rattle.mas_core_laws.proofs.Calms.{Calm, calm_at_end}

-- ---- the agent of the least cycle number

record Lowest (seats : List AgentPlace) : Type 0 where
  place : ℕ
  within : place < length seats
  stays : is_gone (seat_or_none (slice_get seats place)).phase ≡ false
  low : (j : ℕ) → j < length seats → is_gone (seat_or_none (slice_get seats j)).phase ≡ false →
      (seat_or_none (slice_get seats place)).cycle ≤ (seat_or_none (slice_get seats j)).cycle

not-both : (b : Bool) → b ≡ true → b ≡ false → ⊥
not-both b e f = let g : true ≡ false = sym e ∙ f in cc

all-gone : (seats : List AgentPlace) (j : ℕ) → ended seats ≡ true → j < length seats → is_gone (seat_or_none (slice_get seats j)).phase ≡ true
all-gone [] j e l = absurd (omega arith)
all-gone (s ∷ seats) zero e l = (and_parts (is_gone s.phase) (ended seats) e).0
all-gone (s ∷ seats) (suc j) e l = all-gone seats j (and_parts (is_gone s.phase) (ended seats) e).1 (omega arith)

-- the first is the lowest
first-low : (s : AgentPlace) (seats : List AgentPlace) → is_gone s.phase ≡ false →
    ((j : ℕ) → j < length seats → is_gone (seat_or_none (slice_get seats j)).phase ≡ false → s.cycle ≤ (seat_or_none (slice_get seats j)).cycle) →
    (j : ℕ) → j < length (s ∷ seats) → is_gone (seat_or_none (slice_get (s ∷ seats) j)).phase ≡ false → s.cycle ≤ (seat_or_none (slice_get (s ∷ seats) j)).cycle
first-low s seats e h zero l f = omega arith
first-low s seats e h (suc j) l f = h j (omega arith) f

first-lowest : (s : AgentPlace) (seats : List AgentPlace) → is_gone s.phase ≡ false →
    ((j : ℕ) → j < length seats → is_gone (seat_or_none (slice_get seats j)).phase ≡ false → s.cycle ≤ (seat_or_none (slice_get seats j)).cycle) → Lowest (s ∷ seats)
first-lowest s seats e h = record { place = 0; within = omega arith; stays = e; low = first-low s seats e h }

later-low : (s : AgentPlace) (seats : List AgentPlace) (r : Lowest seats) → (is_gone s.phase ≡ false → (seat_or_none (slice_get seats r.place)).cycle ≤ s.cycle) →
    (j : ℕ) → j < length (s ∷ seats) → is_gone (seat_or_none (slice_get (s ∷ seats) j)).phase ≡ false →
    (seat_or_none (slice_get seats r.place)).cycle ≤ (seat_or_none (slice_get (s ∷ seats) j)).cycle
later-low s seats r h zero l f = h f
later-low s seats r h (suc j) l f = r.low j (omega arith) f

later-lowest : (s : AgentPlace) (seats : List AgentPlace) (r : Lowest seats) → (is_gone s.phase ≡ false → (seat_or_none (slice_get seats r.place)).cycle ≤ s.cycle) → Lowest (s ∷ seats)
later-lowest s seats r h = record { place = suc r.place; within = (let w = r.within in omega arith); stays = r.stays; low = later-low s seats r h }

lower-of : (s : AgentPlace) (seats : List AgentPlace) (r : Lowest seats) (t : Bool) → is_gone s.phase ≡ false → nat_le s.cycle (seat_or_none (slice_get seats r.place)).cycle ≡ t → Lowest (s ∷ seats)
lower-of s seats r true e h =
    let c : s.cycle ≤ (seat_or_none (slice_get seats r.place)).cycle = grind (arith, common_steps) in
    first-lowest s seats e (λ j l f. let w = r.low j l f in omega arith)
lower-of s seats r false e h =
    let c : (seat_or_none (slice_get seats r.place)).cycle < s.cycle = grind (arith, common_steps) in
    later-lowest s seats r (λ f. omega arith)

lowest-by : (s : AgentPlace) (seats : List AgentPlace) (x y : Bool) → is_gone s.phase ≡ x → ended seats ≡ y → (x && y) ≡ false → (ended seats ≡ false → Lowest seats) → Lowest (s ∷ seats)
lowest-by s seats true true e f n more = cc
lowest-by s seats true false e f n more = later-lowest s seats (more f) (λ g. absurd (not-both _ e g))
lowest-by s seats false true e f n more = first-lowest s seats e (λ j l g. absurd (not-both _ (all-gone seats j f l) g))
lowest-by s seats false false e f n more = lower-of s seats (more f) _ e refl

lowest : (seats : List AgentPlace) → ended seats ≡ false → Lowest seats
lowest [] e = cc
lowest (s ∷ seats) e = lowest-by s seats (is_gone s.phase) (ended seats) refl refl e (lowest seats)

-- ---- it is not ahead

lower-same : (c n : ℕ) (g : Bool) → (g ≡ false → c ≤ n) → (if g then c else min c n) ≡ c
lower-same c n true h = refl
lower-same c n false h = let w : c ≤ n = h refl in grind arith

least-same : (c : ℕ) (seats : List AgentPlace) → ((j : ℕ) → j < length seats → is_gone (seat_or_none (slice_get seats j)).phase ≡ false → c ≤ (seat_or_none (slice_get seats j)).cycle) → least c seats ≡ c
least-same c [] h = refl
least-same c (s ∷ seats) h =
    ap (λ x. least x seats) (lower-same c s.cycle (is_gone s.phase) (λ f. h 0 (omega arith) f)) ∙ least-same c seats (λ j l f. h (suc j) (omega arith) f)

not-ahead : (s : State) (a : ℕ) → 1 ≤ s.lead → least (seat_at s a).cycle s.seats ≡ (seat_at s a).cycle → is_ahead s a ≡ false
not-ahead s a l e = rw e (grind arith)

-- ---- its turn

item-at : {X : Type 0} (xs : List X) (i : ℕ) → i < length xs → (x : X) × (slice_get xs i ≡ Some x)
item-at [] i l = absurd (omega arith)
item-at (x ∷ xs) zero l = (x, refl)
item-at (x ∷ xs) (suc i) l = item-at xs i (omega arith)

senses : {V : Type 0} (k : Kind V) (p : Platform V) (a : ℕ) (m : V) (x y w : Bool) → slice_get p.minds (a - 1) ≡ Some m → w ≡ false →
    is_some (after_sense k p a (if x then left_cycles p.board a else if y then left_stopped p.board a else if w then ahead p.board a else given p.board a)) ≡ true
senses k p a m true y w e f = refl
senses k p a m false true w e f = refl
senses k p a m false false true e f = cc
senses k p a m false false false e f = ap (λ o. is_some (think k p a (begun p.board a) (input_of p.board a) o)) e

ends-cycle : {V : Type 0} (k : Kind V) (p : Platform V) (a : ℕ) (t : Thought) → slice_get p.thoughts (a - 1) ≡ Some (Some t) → is_some (after_thought k p a (slice_get p.thoughts (a - 1))) ≡ true
ends-cycle k p a (Acts outs) e = ap (λ o. is_some (after_thought k p a o)) e
ends-cycle k p a Spent e = ap (λ o. is_some (after_thought k p a o)) e

by-phase : {V : Type 0} (k : Kind V) (p : Platform V) (a : ℕ) (m : V) (phase : Phase) → Calm k p → IsAgent (length p.board.seats) a → (seat_at p.board a).phase ≡ phase → is_gone phase ≡ false →
    slice_get p.minds (a - 1) ≡ Some m → is_ahead p.board a ≡ false → is_some (turn_in_on k p a phase) ≡ true
by-phase k p a m Idle h i e g f w = senses k p a m (is_at_limit p.board a) p.board.stop (is_ahead p.board a) f w
by-phase k p a m Busy h i e g f w = let b = (h.each a i).busy e in ends-cycle k p a b.thought b.is
by-phase k p a m (Gone end) h i e g f w = cc

has-turn : {V : Type 0} (k : Kind V) (p : Platform V) → Calm k p → 1 ≤ p.board.lead → length p.minds ≡ length p.board.seats → (r : Lowest p.board.seats) → HasTurn k p
has-turn k p h l n r =
    let a = r.place + 1 in
    let at : a - 1 ≡ r.place = omega arith in
    let within = r.within in
    let agent : IsAgent (length p.board.seats) a = record { from_one = omega arith; named = omega arith } in
    let m = item-at p.minds (a - 1) (omega arith) in
    let stays : is_gone (seat_at p.board a).phase ≡ false = ap (λ j. is_gone (seat_or_none (slice_get p.board.seats j)).phase) at ∙ r.stays in
    let same = ap (λ j. (seat_or_none (slice_get p.board.seats j)).cycle) at in
    let low : least (seat_at p.board a).cycle p.board.seats ≡ (seat_at p.board a).cycle = least-same (seat_at p.board a).cycle p.board.seats (λ j s f. let w = r.low j s f in omega arith) in
    let turn = by-phase k p a m.0 (seat_at p.board a).phase h agent refl stays m.1 (not-ahead p.board a l low) in
    record { agent = a; turn = ap (λ t. is_some (if t then turn_in_on k p a (seat_at p.board a).phase else None)) (agent-is (length p.board.seats) a agent) ∙ turn }

-- ---- a run

record Sized {V : Type 0} (lead agents : ℕ) (p : Platform V) : Type 0 where
  lead_is : p.board.lead ≡ lead
  seats : length p.board.seats ≡ agents
  minds : length p.minds ≡ agents

sized-next : {V : Type 0} (lead agents : ℕ) (k : Kind V) (p done : Platform V) (a : ℕ) (names : List ℕ) →
    ((q : Platform V) → Sized lead agents q → run_on k q names ≡ Some done → Sized lead agents done) → Sized lead agents p →
    (o : Option (Platform V)) → turn_on k p a ≡ o → and_run (λ q. run_on k q names) o ≡ Some done → Sized lead agents done
sized-next lead agents k p done a names more h None e r = absurd (none-some done r)
sized-next lead agents k p done a names more h (Some q) e r =
    let c = changed k p a (sense_on p.board a) q (turned_on k p a q e).case in
    more q (record { lead_is = c.lead ∙ h.lead_is; seats = c.number ∙ h.seats; minds = c.minds ∙ h.minds }) r

sized-run : {V : Type 0} (lead agents : ℕ) (k : Kind V) (p done : Platform V) (names : List ℕ) → Sized lead agents p → run_on k p names ≡ Some done → Sized lead agents done
sized-run {V} lead agents k p done [] h r = let P = λ (x : Platform V). Sized lead agents x in subst P (same_Some p done r) h
sized-run lead agents k p done (a ∷ names) h r = sized-next lead agents k p done a names (λ q g s. sized-run lead agents k q done names g s) h (turn_on k p a) refl r

pub quiet_goes_on : {V : Type 0} (k : Kind V) → ((m : V) (i : Input) → is_quiet (k.cycle m i).thought ≡ true → SendsNothing (k.cycle m i).thought) →
    ((m : V) (i j : Input) → is_quiet (k.cycle m i).thought ≡ true → j.percepts ≡ i.percepts → j.message ≡ None → is_quiet (k.cycle (k.cycle m i).mind j).thought ≡ true) → QuietGoesOn k
quiet_goes_on k sends again p q names h ran l n e =
    let c = calm_at_end k sends again p q names h ran in
    let s = sized-run p.board.lead (length p.board.seats) k p q names (record { lead_is = refl; seats = refl; minds = n }) ran in
    let same = s.lead_is in
    has-turn k q c (omega arith) (s.minds ∙ sym s.seats) (lowest q.board.seats e)
