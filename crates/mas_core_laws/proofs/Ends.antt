-- How many turns there are at most.
use Rattle.std.proofs.Common.{ℕ, zero, suc, ◌≡◌, ◌+◌, ◌-◌, ◌*◌, ◌<◌, ◌≤◌, arith, true, if◌then◌else◌, List, [], ◌∷◌, length, replicate, slice_get, slice_set, Option, None, Some, refl, ap, sym, ◌∙◌, subst}
use Rattle.std.proofs.Math.Nat.{suc-mul}
use Rattle.std.proofs.lemmas.Bool.{eqb-false}
use Rattle.std.proofs.lemmas.List.{length-replicate}
use Rattle.std.proofs.lemmas.Option.{same_Some, none-some}
use Rattle.mas_mind.specs.declared.mind.Input.{Input}
use Rattle.mas_mind.specs.declared.mind.Thought.{Thought}
use Rattle.mas_mind.specs.declared.mind.End.TheVariants.{Budget}
use Rattle.mas_mind.specs.Minds.{Kind, IsAgent, is_quiet, SendsNothing}
use Rattle.mas_world.specs.Worlds.{World}
use Rattle.mas_board.specs.declared.seats.Phase.{Phase}
use Rattle.mas_board.specs.declared.seats.Phase.TheVariants.{Idle, Busy, Left as Gone}
use Rattle.mas_board.specs.declared.seats.AgentPlace.{AgentPlace}
use Rattle.mas_board.specs.declared.seats.Sensed.{Sensed}
use Rattle.mas_board.specs.Boards.{State, seat_at, seat_or_none, no_seat, is_gone, all_quiet, rested, sense, opening}
use Rattle.mas_board.proofs.Places.{below}
use Rattle.mas_core.specs.Platform.{Platform, turn, run, and_run, opening_platform}
use Rattle.mas_core.specs.Robin.{most_turns}
use Rattle.mas_core_laws.specs.Ends.{RunsEnd}
use Rattle.mas_core_laws.specs.Quiet.{sense_on, turn_on, run_on, turns_left, QuietEnds}
use Rattle.mas_core_laws.proofs.Places.{set_here, in_replicate}
use Rattle.mas_core_laws.proofs.Steps.{Turned, Leaves, Thinks, Emits, Spends, turned, turned_on}
use Rattle.mas_core_laws.proofs.Changes.{ChangedAt, changed, said_of_each}
use Rattle.mas_core_laws.proofs.Rests.{Known, known_open, known_run}
use Rattle.mas_core_laws.proofs.Calms.{quiet_at}

-- ---- the turns that are left to seats

-- those of an agent in this phase that may make so many cycles more
left-in : Phase → ℕ → ℕ
left-in Idle n = 2 * n + 1
left-in Busy n = 2 * n + 2
left-in (Gone end) n = 0

load : ℕ → List AgentPlace → ℕ
load limit [] = 0
load limit (s ∷ seats) = left-in s.phase (limit - s.cycle) + load limit seats

load-set : (limit : ℕ) (seats : List AgentPlace) (i : ℕ) (x : AgentPlace) → i < length seats →
    load limit (slice_set seats i x) + left-in (seat_or_none (slice_get seats i)).phase (limit - (seat_or_none (slice_get seats i)).cycle) ≡ load limit seats + left-in x.phase (limit - x.cycle)
unfolding load
load-set limit [] i x l = absurd (omega arith)
load-set limit (s ∷ seats) zero x l = omega arith
load-set limit (s ∷ seats) (suc i) x l = let h = load-set limit seats i x (omega arith) in omega arith

idle-left : (phase : Phase) (n : ℕ) → phase ≡ Idle → left-in phase n ≡ 2 * n + 1
unfolding left-in
idle-left phase n e = ap (λ y. left-in y n) e

busy-left : (phase : Phase) (n : ℕ) → phase ≡ Busy → left-in phase n ≡ 2 * n + 2
unfolding left-in
busy-left phase n e = ap (λ y. left-in y n) e

gone-left : (phase : Phase) (n : ℕ) → is_gone phase ≡ true → left-in phase n ≡ 0
unfolding left-in
gone-left Idle n e = cc
gone-left Busy n e = cc
gone-left (Gone end) n e = refl

-- ---- a turn

record EndTurn {V : Type 0} (limit : ℕ) (p q : Platform V) : Type 0 where
  stays : q.board.cycles ≡ p.board.cycles
  bounded : (a : ℕ) → IsAgent (length q.board.seats) a → (seat_at q.board a).cycle ≤ q.board.cycles
  less : load limit q.board.seats + 1 ≤ load limit p.board.seats

end-turn : {V : Type 0} (limit : ℕ) (p : Platform V) (a : ℕ) (q : Platform V) (x : AgentPlace) → p.board.cycles ≡ limit →
    ((b : ℕ) → IsAgent (length p.board.seats) b → (seat_at p.board b).cycle ≤ p.board.cycles) → IsAgent (length p.board.seats) a → ChangedAt p a q →
    q.board.seats ≡ slice_set p.board.seats (a - 1) x → x.cycle ≤ limit → left-in x.phase (limit - x.cycle) + 1 ≤ left-in (seat_at p.board a).phase (limit - (seat_at p.board a).cycle) →
    EndTurn limit p q
end-turn {V} limit p a q x m h i c e w less =
    let l = below (length p.board.seats) a i in
    let here : seat_at q.board a ≡ x = ap (λ y. seat_or_none (slice_get y (a - 1))) e ∙ ap seat_or_none (set_here p.board.seats (a - 1) x l) in
    let cycle : (seat_at q.board a).cycle ≡ x.cycle = ap (λ y. y.cycle) here in
    let R = λ (b : ℕ) (s : AgentPlace) (n : Option V) (t : Option (Option Thought)). s.cycle ≤ p.board.cycles in
    let S = λ (b : ℕ) (s : AgentPlace) (n : Option V) (t : Option (Option Thought)). s.cycle ≤ q.board.cycles in
    let same = c.cycles in
    let set = load-set limit p.board.seats (a - 1) x l in
    let is : load limit q.board.seats ≡ load limit (slice_set p.board.seats (a - 1) x) = ap (load limit) e in
    record {
      stays = same;
      bounded = said_of_each p a q R S c i h (λ b s n t k. omega arith) (omega arith);
      less = omega arith;
    }

end-case : {V : Type 0} (limit : ℕ) (k : Kind V) (p : Platform V) (a : ℕ) (r : Sensed × State) (q : Platform V) → p.board.cycles ≡ limit →
    ((b : ℕ) → IsAgent (length p.board.seats) b → (seat_at p.board b).cycle ≤ p.board.cycles) → IsAgent (length p.board.seats) a → Turned k p a r q → EndTurn limit p q
end-case limit k p a r q m h i (Leaves t) =
    let x : AgentPlace = record (seat_at p.board a) { phase = Gone t.end } in
    let w = h a i in
    let old = idle-left (seat_at p.board a).phase (limit - (seat_at p.board a).cycle) t.idle in
    let new = gone-left x.phase (limit - x.cycle) refl in
    end-turn limit p a q x m h i (changed k p a r q (Leaves t)) (ap (λ y. y.board.seats) t.is) (omega arith) (omega arith)
end-case limit k p a r q m h i (Thinks t) =
    let x : AgentPlace = record { phase = Busy; cycle = (seat_at p.board a).cycle + 1; mark = None; kept = p.board.version } in
    let w = h a i in
    let n : (seat_at p.board a).cycle ≡ p.board.cycles → ⊥ = eqb-false (seat_at p.board a).cycle p.board.cycles t.short in
    let old = idle-left (seat_at p.board a).phase (limit - (seat_at p.board a).cycle) t.idle in
    let new = busy-left x.phase (limit - x.cycle) refl in
    let short : (seat_at p.board a).cycle < limit = omega arith in
    end-turn limit p a q x m h i (changed k p a r q (Thinks t)) (ap (λ y. y.board.seats) t.is) (omega arith) (omega arith)
end-case limit k p a r q m h i (Emits t) =
    let x : AgentPlace = rested (seat_at p.board a) t.outs.quiet in
    let w = h a i in
    let old = busy-left (seat_at p.board a).phase (limit - (seat_at p.board a).cycle) t.busy in
    let new = idle-left x.phase (limit - x.cycle) refl in
    end-turn limit p a q x m h i (changed k p a r q (Emits t)) (ap (λ y. y.board.seats) t.is) (omega arith) (omega arith)
end-case limit k p a r q m h i (Spends t) =
    let x : AgentPlace = record (seat_at p.board a) { phase = Gone Budget } in
    let w = h a i in
    let old = busy-left (seat_at p.board a).phase (limit - (seat_at p.board a).cycle) t.busy in
    let new = gone-left x.phase (limit - x.cycle) refl in
    end-turn limit p a q x m h i (changed k p a r q (Spends t)) (ap (λ y. y.board.seats) t.is) (omega arith) (omega arith)

-- ---- a run

record BoundedBy {V : Type 0} (limit : ℕ) (p : Platform V) : Type 0 where
  limit_is : p.board.cycles ≡ limit
  each : (a : ℕ) → IsAgent (length p.board.seats) a → (seat_at p.board a).cycle ≤ p.board.cycles

bounded-next : {V : Type 0} (limit : ℕ) (k : Kind V) (p done : Platform V) (a : ℕ) (names : List ℕ) →
    ((q : Platform V) → BoundedBy limit q → run k q names ≡ Some done → BoundedBy limit done) → BoundedBy limit p →
    (o : Option (Platform V)) → turn k p a ≡ o → and_run (λ q. run k q names) o ≡ Some done → BoundedBy limit done
bounded-next limit k p done a names more h None e r = absurd (none-some done r)
bounded-next limit k p done a names more h (Some q) e r =
    let t = turned k p a q e in
    let c = end-case limit k p a (sense p.board a) q h.limit_is h.each t.agent t.case in
    more q (record { limit_is = c.stays ∙ h.limit_is; each = c.bounded }) r

bounded-run : {V : Type 0} (limit : ℕ) (k : Kind V) (p done : Platform V) (names : List ℕ) → BoundedBy limit p → run k p names ≡ Some done → BoundedBy limit done
bounded-run {V} limit k p done [] h r = let P = λ (x : Platform V). BoundedBy limit x in subst P (same_Some p done r) h
bounded-run limit k p done (a ∷ names) h r = bounded-next limit k p done a names (λ q g s. bounded-run limit k q done names g s) h (turn k p a) refl r

bounded-open : {V : Type 0} (agents : List (List ℕ)) (w : World) (cycles lead : ℕ) (minds : List V) → BoundedBy cycles (opening_platform (opening agents w cycles lead) minds)
bounded-open {V} agents w cycles lead minds = record {
  limit_is = refl;
  each = λ a i.
      let n = length-replicate (length agents) no_seat in
      let l = i.named in
      let f = i.from_one in
      let e : (seat_or_none (slice_get (replicate (length agents) no_seat) (a - 1))).cycle ≡ 0 = ap (λ y. (seat_or_none y).cycle) (in_replicate (length agents) (a - 1) no_seat (omega arith)) in
      omega arith;
}

count-next : {V : Type 0} (limit : ℕ) (k : Kind V) (p done : Platform V) (a : ℕ) (names : List ℕ) →
    ((q : Platform V) → BoundedBy limit q → run_on k q names ≡ Some done → length names ≤ load limit q.board.seats) → BoundedBy limit p →
    (o : Option (Platform V)) → turn_on k p a ≡ o → and_run (λ q. run_on k q names) o ≡ Some done → length names + 1 ≤ load limit p.board.seats
count-next limit k p done a names more h None e r = absurd (none-some done r)
count-next limit k p done a names more h (Some q) e r =
    let t = turned_on k p a q e in
    let c = end-case limit k p a (sense_on p.board a) q h.limit_is h.each t.agent t.case in
    let less = c.less in
    let rest = more q (record { limit_is = c.stays ∙ h.limit_is; each = c.bounded }) r in
    omega arith

count-run : {V : Type 0} (limit : ℕ) (k : Kind V) (p done : Platform V) (names : List ℕ) → BoundedBy limit p → run_on k p names ≡ Some done → length names ≤ load limit p.board.seats
count-run limit k p done [] h r = omega arith
count-run limit k p done (a ∷ names) h r =
    let c = count-next limit k p done a names (λ q g s. count-run limit k q done names g s) h (turn_on k p a) refl r in
    omega arith

-- ---- where all are quiet nobody is busy

idle-or-gone : (phase : Phase) (n : ℕ) → (phase ≡ Busy → ⊥) → left-in phase n ≡ (if is_gone phase then 0 else 2 * n + 1)
unfolding left-in
idle-or-gone Idle n h = refl
idle-or-gone Busy n h = absurd (h refl)
idle-or-gone (Gone end) n h = refl

load-quiet : (limit : ℕ) (seats : List AgentPlace) → ((i : ℕ) → i < length seats → (seat_or_none (slice_get seats i)).phase ≡ Busy → ⊥) → load limit seats ≡ turns_left limit seats
unfolding load
load-quiet limit [] h = refl
load-quiet limit (s ∷ seats) h =
    ap (λ y. y + load limit seats) (idle-or-gone s.phase (limit - s.cycle) (h 0 (omega arith))) ∙
    ap (λ y. (if is_gone s.phase then 0 else 2 * (limit - s.cycle) + 1) + y) (load-quiet limit seats (λ i l. h (suc i) (omega arith)))

nobody-busy : {V : Type 0} (k : Kind V) (p : Platform V) → Known k p → all_quiet p.board ≡ true → (i : ℕ) → i < length p.board.seats → (seat_or_none (slice_get p.board.seats i)).phase ≡ Busy → ⊥
nobody-busy k p h q i l e =
    let a = i + 1 in
    let at : a - 1 ≡ i = omega arith in
    let agent : IsAgent (length p.board.seats) a = record { from_one = omega arith; named = omega arith } in
    let busy : (seat_at p.board a).phase ≡ Busy = ap (λ j. (seat_or_none (slice_get p.board.seats j)).phase) at ∙ e in
    let mark = quiet_at p.board.version p.board.seats p.board.boxes (a - 1) (omega arith) h.boxed q (ap is_gone busy) in
    none-some p.board.version (sym ((h.each a agent).busy busy).unmarked ∙ mark.0)

pub quiet_ends : {V : Type 0} (k : Kind V) → ((m : V) (i : Input) → is_quiet (k.cycle m i).thought ≡ true → SendsNothing (k.cycle m i).thought) → QuietEnds k
quiet_ends k sends p q names h ran =
    let known = known_run k _ p h.names sends (known_open k h.agents h.world h.cycles h.lead h.minds) h.ran in
    let bound = bounded-run h.cycles k _ p h.names (bounded-open h.agents h.world h.cycles h.lead h.minds) h.ran in
    let here : BoundedBy p.board.cycles p = record { limit_is = refl; each = bound.each } in
    let c = count-run p.board.cycles k p q names here ran in
    let e = load-quiet p.board.cycles p.board.seats (nobody-busy k p known h.quiet) in
    omega arith

-- ---- a run from the opening

turns-next : {V : Type 0} (limit : ℕ) (k : Kind V) (p done : Platform V) (a : ℕ) (names : List ℕ) →
    ((q : Platform V) → BoundedBy limit q → run k q names ≡ Some done → length names ≤ load limit q.board.seats) → BoundedBy limit p →
    (o : Option (Platform V)) → turn k p a ≡ o → and_run (λ q. run k q names) o ≡ Some done → length names + 1 ≤ load limit p.board.seats
turns-next limit k p done a names more h None e r = absurd (none-some done r)
turns-next limit k p done a names more h (Some q) e r =
    let t = turned k p a q e in
    let c = end-case limit k p a (sense p.board a) q h.limit_is h.each t.agent t.case in
    let less = c.less in
    let rest = more q (record { limit_is = c.stays ∙ h.limit_is; each = c.bounded }) r in
    omega arith

turns-run : {V : Type 0} (limit : ℕ) (k : Kind V) (p done : Platform V) (names : List ℕ) → BoundedBy limit p → run k p names ≡ Some done → length names ≤ load limit p.board.seats
turns-run limit k p done [] h r = omega arith
turns-run limit k p done (a ∷ names) h r =
    let c = turns-next limit k p done a names (λ q g s. turns-run limit k q done names g s) h (turn k p a) refl r in
    omega arith

load-open : (limit n : ℕ) → load limit (replicate n no_seat) ≡ n * (2 * limit + 1)
unfolding load left-in
load-open limit zero = omega arith
load-open limit (suc n) =
    let e = load-open limit n in
    let m = suc-mul n (2 * limit + 1) in
    omega arith

pub runs_end : {V : Type 0} (k : Kind V) → RunsEnd k
runs_end {V} k agents w cycles lead minds done names ran =
    let c = turns-run cycles k (opening_platform (opening agents w cycles lead) minds) done names (bounded-open agents w cycles lead minds) ran in
    let e = load-open cycles (length agents) in
    let n : most_turns (opening agents w cycles lead) ≡ length agents * (2 * cycles + 1) =
    ap (λ x. x * (2 * cycles + 1)) (length-replicate (length agents) no_seat) in
    omega arith
