-- Nothing comes of a turn where all are quiet.
use Rattle.std.proofs.Common.{ℕ, zero, suc, ◌≡◌, ◌+◌, ◌-◌, ◌<◌, arith, Bool, true, false, ◌&&◌, ◌||◌, List, [], ◌∷◌, length, slice_get, slice_set, Option, None, Some, refl, ap, sym, ◌∙◌, subst}
use Rattle.std.proofs.lemmas.Bool.{eqb-true, and_parts}
use Rattle.std.proofs.lemmas.Option.{same_Some, none-some}
use Rattle.asl_term.specs.declared.syntax.LiteralOf.{LiteralOf}
use Rattle.asl_term.specs.declared.syntax.Term.{Term}
use Rattle.asl_term.specs.Names.{name_at}
use Rattle.mas_mind.specs.declared.mind.Input.{Input}
use Rattle.mas_mind.specs.declared.mind.Message.{Message}
use Rattle.mas_mind.specs.declared.mind.Outs.{Outs}
use Rattle.mas_mind.specs.declared.mind.Thought.{Thought}
use Rattle.mas_mind.specs.declared.mind.Thought.TheVariants.{Outs as Acts, Spent}
use Rattle.mas_mind.specs.Minds.{Kind, IsAgent, is_quiet, AreEmpty, SendsNothing}
use Rattle.mas_world.specs.Seen.{seen}
use Rattle.mas_board.specs.declared.seats.Phase.{Phase}
use Rattle.mas_board.specs.declared.seats.Phase.TheVariants.{Idle, Busy, Left as Gone}
use Rattle.mas_board.specs.declared.seats.AgentPlace.{AgentPlace}
use Rattle.mas_board.specs.declared.seats.Sensed.{Sensed}
use Rattle.mas_board.specs.Boards.{State, seat_at, seat_or_none, box_of, box_or_none, name_of, name_or_none, is_gone, is_mark, is_empty, are_quiet, all_quiet, acted_as, oldest, later, posted, version_after, rested, input_of}
use Rattle.mas_board.proofs.Places.{below}
use Rattle.mas_core.specs.Platform.{Platform, and_run}
use Rattle.mas_core_laws.specs.Quiet.{sense_on, turn_on, run_on, HasQuietThought, IsQuietSense, AreQuietOuts, IsQuietIn, IsQuietTurn, QuietLasts, ComesToQuiet}
use Rattle.mas_core_laws.proofs.Places.{set_here, is_within}
use Rattle.mas_core_laws.proofs.Steps.{Turned, Leaves, Thinks, Emits, Spends, HasGone, HasThought, HasActed, HasSpent, turned_on}
use Rattle.mas_core_laws.proofs.Changes.{ChangedAt, changed, said_of_each}
use Rattle.mas_core_laws.proofs.Rests.{Rests, rests_as, Kept, Known, known_open, known_run, quiet_mind}

-- the thought of a busy agent
pub record IsQuietly (t : Option (Option Thought)) : Type 0 where
  pub thought : Thought
  pub is : t ≡ Some (Some thought)
  pub quiet : is_quiet thought ≡ true
  pub empty : SendsNothing thought

-- an agent that has not left has no mail, and its mind made a quiet cycle on what it sees
pub record IsCalm {V : Type 0} (k : Kind V) (see : List (LiteralOf Term)) (box : List Message) (seat : AgentPlace) (m : Option V) (t : Option (Option Thought)) : Type 0 where
  pub box_is : is_gone seat.phase ≡ false → box ≡ []
  pub rests : is_gone seat.phase ≡ false → Rests k see m
  pub busy : seat.phase ≡ Busy → IsQuietly t

pub record Calm {V : Type 0} (k : Kind V) (p : Platform V) : Type 0 where
  pub paired : length p.thoughts ≡ length p.minds
  pub each : (a : ℕ) → IsAgent (length p.board.seats) a →
      IsCalm k (seen p.board.world (name_of p.board a)) (box_of p.board.boxes a) (seat_at p.board a) (slice_get p.minds (a - 1)) (slice_get p.thoughts (a - 1))

calm-by : {V : Type 0} (k : Kind V) (p : Platform V) (a : ℕ) (q : Platform V) → Calm k p → IsAgent (length p.board.seats) a → ChangedAt p a q →
    q.board.world ≡ p.board.world → q.board.boxes ≡ p.board.boxes →
    IsCalm k (seen p.board.world (name_of p.board a)) (box_of p.board.boxes a) (seat_at q.board a) (slice_get q.minds (a - 1)) (slice_get q.thoughts (a - 1)) → Calm k q
calm-by {V} k p a q h i c w b here = record {
  paired = c.paired h.paired;
  each = λ x j.
      let S = λ (y : ℕ) (s : AgentPlace) (m : Option V) (t : Option (Option Thought)). IsCalm k (seen p.board.world (name_of p.board y)) (box_of p.board.boxes y) s m t in
      let r = said_of_each p a q S S c i h.each (λ y s m t z. z) here x j in
      let see : seen q.board.world (name_of q.board x) ≡ seen p.board.world (name_of p.board x) =
      ap (λ y. seen y (name_of q.board x)) w ∙ ap (λ y. seen p.board.world (name_or_none (name_at y x))) c.names in
      let P = λ (y : List (LiteralOf Term)). IsCalm k y (box_of p.board.boxes x) (seat_at q.board x) (slice_get q.minds (x - 1)) (slice_get q.thoughts (x - 1)) in
      let Q = λ (y : List (List Message)). IsCalm k (seen q.board.world (name_of q.board x)) (box_of y x) (seat_at q.board x) (slice_get q.minds (x - 1)) (slice_get q.thoughts (x - 1)) in
      subst Q (sym b) (subst P (sym see) r);
}

-- ---- the turns

record CalmTurn {V : Type 0} (k : Kind V) (p : Platform V) (a : ℕ) (q : Platform V) : Type 0 where
  calm : Calm k q
  quiet : IsQuietTurn p a q

not-both : (b : Bool) → b ≡ true → b ≡ false → ⊥
not-both b e f = let g : true ≡ false = sym e ∙ f in cc

here : (phase other : Phase) → phase ≡ other → is_gone other ≡ false → is_gone phase ≡ false
here phase other e f = ap is_gone e ∙ f

gone-calm : {V : Type 0} (k : Kind V) (p : Platform V) (a : ℕ) (q : Platform V) → Calm k p → IsAgent (length p.board.seats) a → HasGone p a (sense_on p.board a) q → CalmTurn k p a q
gone-calm {V} k p a q h i t =
    let l = below (length p.board.seats) a i in
    let x : AgentPlace = record (seat_at p.board a) { phase = Gone t.end } in
    let e : seat_at q.board a ≡ x = ap (λ y. seat_at y.board a) t.is ∙ ap seat_or_none (set_here p.board.seats (a - 1) x l) in
    let w : q.board.world ≡ p.board.world = ap (λ y. y.board.world) t.is in
    let b : q.board.boxes ≡ p.board.boxes = ap (λ y. y.board.boxes) t.is in
    let phase : (seat_at q.board a).phase ≡ Gone t.end = ap (λ y. y.phase) e in
    let gone : is_gone (seat_at q.board a).phase ≡ true = ap is_gone phase in
    let P = λ (y : Phase). IsQuietIn p a q y in
    let Q = λ (y : Sensed × State). IsQuietSense q a y.0 in
    record {
      calm = calm-by k p a q h i (changed k p a (sense_on p.board a) q (Leaves t)) w b (record { box_is = λ f. cc; rests = λ f. absurd (not-both _ gone f); busy = λ f. cc });
      quiet = record {
        quiet = subst P (sym t.idle) (subst Q (sym t.sensed) tt);
        world = w;
        version = ap (λ y. y.board.version) t.is;
        boxes = b;
        stop = ap (λ y. y.board.stop) t.is;
      };
    }

set-empty : (xs : List (List Message)) (i : ℕ) → box_or_none (slice_get xs i) ≡ [] → slice_set xs i [] ≡ xs
set-empty [] i e = refl
set-empty (y ∷ xs) zero e = ap (λ z. z ∷ xs) (sym e)
set-empty (y ∷ xs) (suc i) e = ap (λ r. y ∷ r) (set-empty xs i e)

-- a cycle on the same percepts without a message
thinks-on : {V : Type 0} (k : Kind V) (see : List (LiteralOf Term)) (m : Option V) (mind : V) (input : Input) →
    ((m : V) (i j : Input) → is_quiet (k.cycle m i).thought ≡ true → j.percepts ≡ i.percepts → j.message ≡ None → is_quiet (k.cycle (k.cycle m i).mind j).thought ≡ true) →
    m ≡ Some mind → input.percepts ≡ see → input.message ≡ None → Rests k see m → is_quiet (k.cycle mind input).thought ≡ true
thinks-on {V} k see m mind input again e f g h =
    let same : (k.cycle h.before h.input).mind ≡ mind = same_Some _ _ (sym h.mind ∙ e) in
    let P = λ (y : V). is_quiet (k.cycle y input).thought ≡ true in
    subst P same (again h.before h.input input h.quiet (f ∙ sym h.percepts) g)

thought-calm : {V : Type 0} (k : Kind V) (p : Platform V) (a : ℕ) (q : Platform V) →
    ((m : V) (i : Input) → is_quiet (k.cycle m i).thought ≡ true → SendsNothing (k.cycle m i).thought) →
    ((m : V) (i j : Input) → is_quiet (k.cycle m i).thought ≡ true → j.percepts ≡ i.percepts → j.message ≡ None → is_quiet (k.cycle (k.cycle m i).mind j).thought ≡ true) →
    Calm k p → IsAgent (length p.board.seats) a → HasThought k p a (sense_on p.board a) q → CalmTurn k p a q
thought-calm {V} k p a q sends again h i t =
    let l = below (length p.board.seats) a i in
    let within = is_within p.minds (a - 1) t.mind t.mind_is in
    let x : AgentPlace = record { phase = Busy; cycle = (seat_at p.board a).cycle + 1; mark = None; kept = p.board.version } in
    let input : Input = input_of p.board a in
    let e : seat_at q.board a ≡ x = ap (λ y. seat_at y.board a) t.is ∙ ap seat_or_none (set_here p.board.seats (a - 1) x l) in
    let m : slice_get q.minds (a - 1) ≡ Some (k.cycle t.mind input).mind = ap (λ y. slice_get y.minds (a - 1)) t.is ∙ set_here p.minds (a - 1) _ within in
    let u : slice_get q.thoughts (a - 1) ≡ Some (Some (k.cycle t.mind input).thought) =
    ap (λ y. slice_get y.thoughts (a - 1)) t.is ∙ set_here p.thoughts (a - 1) _ (rw h.paired within) in
    let c = h.each a i in
    let box : box_of p.board.boxes a ≡ [] = c.box_is (here _ _ t.idle refl) in
    let w : q.board.world ≡ p.board.world = ap (λ y. y.board.world) t.is in
    let b : q.board.boxes ≡ p.board.boxes =
    ap (λ y. y.board.boxes) t.is ∙ ap (λ y. slice_set p.board.boxes (a - 1) (later y)) box ∙ set-empty p.board.boxes (a - 1) box in
    let message : input.message ≡ None = ap oldest box in
    let quiet : is_quiet (k.cycle t.mind input).thought ≡ true =
    thinks-on k (seen p.board.world (name_of p.board a)) (slice_get p.minds (a - 1)) t.mind input again t.mind_is refl message (c.rests (here _ _ t.idle refl)) in
    let P = λ (y : Phase). IsQuietIn p a q y in
    let Q = λ (y : Sensed × State). IsQuietSense q a y.0 in
    let thought : HasQuietThought q a = record { thought = (k.cycle t.mind input).thought; is = u; quiet = quiet } in
    record {
      calm = calm-by k p a q h i (changed k p a (sense_on p.board a) q (Thinks t)) w b (record {
        box_is = λ f. box;
        rests = λ f. record { before = t.mind; input = input; mind = m; percepts = refl; quiet = quiet };
        busy = λ f. record { thought = (k.cycle t.mind input).thought; is = u; quiet = quiet; empty = sends t.mind input quiet };
      });
      quiet = record {
        quiet = subst P (sym t.idle) (subst Q (sym t.sensed) (message, thought));
        world = w;
        version = ap (λ y. y.board.version) t.is;
        boxes = b;
        stop = ap (λ y. y.board.stop) t.is;
      };
    }

or-false : (b : Bool) → (b || false) ≡ b
or-false true = refl
or-false false = refl

empty-outs : (t : Thought) (outs : Outs) → t ≡ Acts outs → SendsNothing t → AreEmpty outs
empty-outs t outs e h = let P = λ (x : Thought). SendsNothing x in subst P e h

acted-calm : {V : Type 0} (k : Kind V) (p : Platform V) (a : ℕ) (q : Platform V) → Calm k p → IsAgent (length p.board.seats) a → HasActed k p a q → CalmTurn k p a q
acted-calm {V} k p a q h i t =
    let l = below (length p.board.seats) a i in
    let c = h.each a i in
    let b = c.busy t.busy in
    let same : b.thought ≡ Acts t.outs = same_Some _ _ (same_Some _ _ (sym b.is ∙ t.outs_are)) in
    let none : AreEmpty t.outs = empty-outs b.thought t.outs same b.empty in
    let name = name_of p.board a in
    let x : AgentPlace = rested (seat_at p.board a) t.outs.quiet in
    let e : seat_at q.board a ≡ x = ap (λ y. seat_at y.board a) t.is ∙ ap seat_or_none (set_here p.board.seats (a - 1) x l) in
    let phase : (seat_at q.board a).phase ≡ Idle = ap (λ y. y.phase) e in
    let w : q.board.world ≡ p.board.world = ap (λ y. y.board.world) t.is ∙ ap (λ y. (acted_as p.board.world name y).1) none.action in
    let version : q.board.version ≡ p.board.version = ap (λ y. y.board.version) t.is ∙
    ap (λ y. version_after p.board.version (acted_as p.board.world name y).0 t.outs.messages) none.action ∙ ap (version_after p.board.version None) none.messages in
    let boxes : q.board.boxes ≡ p.board.boxes = ap (λ y. y.board.boxes) t.is ∙ ap (posted p.board.boxes) none.messages in
    let stop : q.board.stop ≡ p.board.stop = ap (λ y. y.board.stop) t.is ∙ ap (λ y. p.board.stop || y) none.stop ∙ or-false p.board.stop in
    let m : slice_get q.minds (a - 1) ≡ slice_get p.minds (a - 1) = ap (λ y. slice_get y (a - 1)) (quiet_mind k p a q t none.action) in
    let P = λ (y : Phase). IsQuietIn p a q y in
    record {
      calm = calm-by k p a q h i (changed k p a (sense_on p.board a) q (Emits t)) w boxes (record {
        box_is = λ f. c.box_is (here _ _ t.busy refl);
        rests = λ f. rests_as k _ _ _ _ refl m (c.rests (here _ _ t.busy refl));
        busy = λ f. cc;
      });
      quiet = record {
        quiet = subst P (sym t.busy) (subst AreQuietOuts (sym t.outs_are) none);
        world = w;
        version = version;
        boxes = boxes;
        stop = stop;
      };
    }

spent-calm : {V : Type 0} (k : Kind V) (p : Platform V) (a : ℕ) (q : Platform V) → Calm k p → IsAgent (length p.board.seats) a → HasSpent p a q → CalmTurn k p a q
spent-calm {V} k p a q h i t =
    let b = (h.each a i).busy t.busy in
    let same : b.thought ≡ Spent = same_Some _ _ (same_Some _ _ (sym b.is ∙ t.thought_is)) in
    absurd (not-both _ b.quiet (ap is_quiet same))

calm-case : {V : Type 0} (k : Kind V) (p : Platform V) (a : ℕ) (q : Platform V) →
    ((m : V) (i : Input) → is_quiet (k.cycle m i).thought ≡ true → SendsNothing (k.cycle m i).thought) →
    ((m : V) (i j : Input) → is_quiet (k.cycle m i).thought ≡ true → j.percepts ≡ i.percepts → j.message ≡ None → is_quiet (k.cycle (k.cycle m i).mind j).thought ≡ true) →
    Calm k p → IsAgent (length p.board.seats) a → Turned k p a (sense_on p.board a) q → CalmTurn k p a q
calm-case k p a q sends again h i (Leaves t) = gone-calm k p a q h i t
calm-case k p a q sends again h i (Thinks t) = thought-calm k p a q sends again h i t
calm-case k p a q sends again h i (Emits t) = acted-calm k p a q h i t
calm-case k p a q sends again h i (Spends t) = spent-calm k p a q h i t

-- ---- where all are quiet

marked : (o : Option ℕ) (version : ℕ) → is_mark o version ≡ true → o ≡ Some version
marked None version e = cc
marked (Some n) version e = ap Some (eqb-true n version e)

emptied : (box : List Message) → is_empty box ≡ true → box ≡ []
emptied [] e = refl
emptied (m ∷ more) e = cc

or-other : (x y : Bool) → x ≡ false → (x || y) ≡ true → y ≡ true
or-other x y e h = sym (ap (λ t. t || y) e) ∙ h

pub quiet_at : (version : ℕ) (seats : List AgentPlace) (boxes : List (List Message)) (i : ℕ) → i < length seats → length boxes ≡ length seats → are_quiet version seats boxes ≡ true →
    is_gone (seat_or_none (slice_get seats i)).phase ≡ false → ((seat_or_none (slice_get seats i)).mark ≡ Some version) × (box_or_none (slice_get boxes i) ≡ [])
quiet_at version [] boxes i l n h g = absurd (omega arith)
quiet_at version (s ∷ seats) [] i l n h g = absurd (omega arith)
quiet_at version (s ∷ seats) (box ∷ boxes) zero l n h g =
    let both = and_parts (is_gone s.phase || (is_mark s.mark version && is_empty box)) (are_quiet version seats boxes) h in
    let quiet = and_parts (is_mark s.mark version) (is_empty box) (or-other (is_gone s.phase) (is_mark s.mark version && is_empty box) g both.0) in
    (marked s.mark version quiet.0, emptied box quiet.1)
quiet_at version (s ∷ seats) (box ∷ boxes) (suc i) l n h g =
    let both = and_parts (is_gone s.phase || (is_mark s.mark version && is_empty box)) (are_quiet version seats boxes) h in
    quiet_at version seats boxes i (omega arith) (omega arith) both.1 g

calm-in : {V : Type 0} (k : Kind V) (version : ℕ) (see : List (LiteralOf Term)) (box : List Message) (seat : AgentPlace) (m : Option V) (t : Option (Option Thought)) (phase : Phase) → seat.phase ≡ phase →
    Kept k version see seat m t → (is_gone seat.phase ≡ false → (seat.mark ≡ Some version) × (box ≡ [])) → IsCalm k see box seat m t
calm-in k version see box seat m t Idle e h q = record { box_is = λ f. (q f).1; rests = λ f. (h.idle e).rests (q f).0; busy = λ f. cc }
calm-in k version see box seat m t Busy e h q = record {
  box_is = λ f. (q f).1;
  rests = λ f. absurd (none-some version (sym (h.busy e).unmarked ∙ (q f).0));
  busy = λ f. absurd (none-some version (sym (h.busy e).unmarked ∙ (q (here _ _ e refl)).0));
}
calm-in k version see box seat m t (Gone end) e h q =
    let gone : is_gone seat.phase ≡ true = ap is_gone e in
    record { box_is = λ f. (q f).1; rests = λ f. absurd (not-both _ gone f); busy = λ f. cc }

calm-start : {V : Type 0} (k : Kind V) (p : Platform V) → Known k p → all_quiet p.board ≡ true → Calm k p
calm-start k p h q = record {
  paired = h.paired;
  each = λ a i. calm-in k p.board.version _ _ _ _ _ _ refl (h.each a i) (λ f. quiet_at p.board.version p.board.seats p.board.boxes (a - 1) (below (length p.board.seats) a i) h.boxed q f);
}

-- ---- the run

calm-next : {V : Type 0} (k : Kind V) (p done : Platform V) (a : ℕ) (names : List ℕ) →
    ((m : V) (i : Input) → is_quiet (k.cycle m i).thought ≡ true → SendsNothing (k.cycle m i).thought) →
    ((m : V) (i j : Input) → is_quiet (k.cycle m i).thought ≡ true → j.percepts ≡ i.percepts → j.message ≡ None → is_quiet (k.cycle (k.cycle m i).mind j).thought ≡ true) →
    ((q : Platform V) → Calm k q → run_on k q names ≡ Some done → Calm k done) → Calm k p →
    (o : Option (Platform V)) → turn_on k p a ≡ o → and_run (λ q. run_on k q names) o ≡ Some done → Calm k done
calm-next k p done a names sends again more h None e r = absurd (none-some done r)
calm-next k p done a names sends again more h (Some q) e r =
    let t = turned_on k p a q e in
    more q (calm-case k p a q sends again h t.agent t.case).calm r

calm-run : {V : Type 0} (k : Kind V) (p done : Platform V) (names : List ℕ) →
    ((m : V) (i : Input) → is_quiet (k.cycle m i).thought ≡ true → SendsNothing (k.cycle m i).thought) →
    ((m : V) (i j : Input) → is_quiet (k.cycle m i).thought ≡ true → j.percepts ≡ i.percepts → j.message ≡ None → is_quiet (k.cycle (k.cycle m i).mind j).thought ≡ true) →
    Calm k p → run_on k p names ≡ Some done → Calm k done
calm-run {V} k p done [] sends again h r = let P = λ (x : Platform V). Calm k x in subst P (same_Some p done r) h
calm-run k p done (a ∷ names) sends again h r = calm-next k p done a names sends again (λ q g s. calm-run k q done names sends again g s) h (turn_on k p a) refl r

-- after a run from where all are quiet
pub calm_at_end : {V : Type 0} (k : Kind V) → ((m : V) (i : Input) → is_quiet (k.cycle m i).thought ≡ true → SendsNothing (k.cycle m i).thought) →
    ((m : V) (i j : Input) → is_quiet (k.cycle m i).thought ≡ true → j.percepts ≡ i.percepts → j.message ≡ None → is_quiet (k.cycle (k.cycle m i).mind j).thought ≡ true) →
    (p q : Platform V) (names : List ℕ) → ComesToQuiet k p → run_on k p names ≡ Some q → Calm k q
calm_at_end k sends again p q names h ran =
    let known = known_run k _ p h.names sends (known_open k h.agents h.world h.cycles h.lead h.minds) h.ran in
    calm-run k p q names sends again (calm-start k p known h.quiet) ran

pub quiet_lasts : {V : Type 0} (k : Kind V) → ((m : V) (i : Input) → is_quiet (k.cycle m i).thought ≡ true → SendsNothing (k.cycle m i).thought) →
    ((m : V) (i j : Input) → is_quiet (k.cycle m i).thought ≡ true → j.percepts ≡ i.percepts → j.message ≡ None → is_quiet (k.cycle (k.cycle m i).mind j).thought ≡ true) → QuietLasts k
quiet_lasts k sends again p q r names a h ran made =
    let c = calm_at_end k sends again p q names h ran in
    let t = turned_on k q a r made in
    (calm-case k q a r sends again c t.agent t.case).quiet
