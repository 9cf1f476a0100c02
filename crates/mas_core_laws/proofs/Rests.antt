-- What is known of each agent along a run: where its mark is the present version, nothing has changed since its last
-- cycle, which was quiet.
use Rattle.std.proofs.Common.{ℕ, ◌≡◌, ◌+◌, ◌-◌, ◌≤◌, arith, Bool, true, false, not, ◌||◌, if◌then◌else◌, List, [], ◌∷◌, length, replicate, slice_get, Option, None, Some, refl, ap, sym, ◌∙◌, subst}
use Rattle.std.proofs.lemmas.Option.{same_Some, none-some}
use Rattle.std.proofs.lemmas.List.{length-set, length-replicate}
use Rattle.asl_term.specs.declared.syntax.LiteralOf.{LiteralOf}
use Rattle.asl_term.specs.declared.syntax.Term.{Term}
use Rattle.asl_term.specs.Names.{name_at}
use Rattle.mas_mind.specs.declared.mind.End.{End}
use Rattle.mas_mind.specs.declared.mind.End.TheVariants.{Budget}
use Rattle.mas_mind.specs.declared.mind.Input.{Input}
use Rattle.mas_mind.specs.declared.mind.Message.{Message}
use Rattle.mas_mind.specs.declared.mind.Feedback.{Feedback}
use Rattle.mas_mind.specs.declared.mind.Feedback.TheVariants.{Done, Failed}
use Rattle.mas_mind.specs.declared.mind.Thought.{Thought}
use Rattle.mas_mind.specs.declared.mind.Thought.TheVariants.{Outs as Acts}
use Rattle.mas_mind.specs.Minds.{Kind, IsAgent, is_quiet, SendsNothing}
use Rattle.mas_world.specs.Worlds.{World, acted}
use Rattle.mas_world.specs.Seen.{seen}
use Rattle.mas_world.proofs.Unchanged.{unchanged}
use Rattle.mas_board.specs.declared.seats.Phase.TheVariants.{Idle, Busy, Left as Gone}
use Rattle.mas_board.specs.declared.seats.AgentPlace.{AgentPlace}
use Rattle.mas_board.specs.declared.seats.Sensed.{Sensed}
use Rattle.mas_board.specs.Boards.{State, seat_at, seat_or_none, no_seat, name_of, name_or_none, acted_as, is_done, is_empty, version_after, rested, input_of, sense, opening}
use Rattle.mas_core.specs.Platform.{Platform, turn, run, and_run, tell, opening_platform}
use Rattle.mas_core_laws.proofs.Places.{set_here, is_within, in_replicate}
use Rattle.mas_core_laws.proofs.Steps.{Turned, Leaves, Thinks, Emits, Spends, HasGone, HasThought, HasActed, HasSpent, turned}
use Rattle.mas_core_laws.proofs.Changes.{ChangedAt, changed, said_of_each}
use Rattle.mas_core_laws.proofs.Mails.{posted-length}
use Rattle.mas_board.proofs.Places.{below}

-- the mind made a quiet cycle on these percepts
pub record Rests {V : Type 0} (k : Kind V) (see : List (LiteralOf Term)) (m : Option V) : Type 0 where
  pub before : V
  pub input : Input
  pub mind : m ≡ Some (k.cycle before input).mind
  pub percepts : input.percepts ≡ see
  pub quiet : is_quiet (k.cycle before input).thought ≡ true

pub rests_as : {V : Type 0} (k : Kind V) (see now : List (LiteralOf Term)) (m n : Option V) → now ≡ see → n ≡ m → Rests k see m → Rests k now n
rests_as k see now m n e f h = record { before = h.before; input = h.input; mind = f ∙ h.mind; percepts = h.percepts ∙ sym e; quiet = h.quiet }

-- of an idle agent
pub record MarkKept {V : Type 0} (k : Kind V) (version : ℕ) (see : List (LiteralOf Term)) (seat : AgentPlace) (m : Option V) : Type 0 where
  pub late : (n : ℕ) → seat.mark ≡ Some n → n ≤ version
  pub rests : seat.mark ≡ Some version → Rests k see m

-- of a busy agent
pub record BusyKept {V : Type 0} (k : Kind V) (version : ℕ) (see : List (LiteralOf Term)) (seat : AgentPlace) (m : Option V) (t : Option (Option Thought)) : Type 0 where
  pub unmarked : seat.mark ≡ None
  pub late : seat.kept ≤ version
  pub nothing : (x : Thought) → t ≡ Some (Some x) → is_quiet x ≡ true → SendsNothing x
  pub rests : (x : Thought) → t ≡ Some (Some x) → is_quiet x ≡ true → seat.kept ≡ version → Rests k see m

pub record Kept {V : Type 0} (k : Kind V) (version : ℕ) (see : List (LiteralOf Term)) (seat : AgentPlace) (m : Option V) (t : Option (Option Thought)) : Type 0 where
  pub idle : seat.phase ≡ Idle → MarkKept k version see seat m
  pub busy : seat.phase ≡ Busy → BusyKept k version see seat m t

-- the version may rise, and the world changes only where it does
kept-later : {V : Type 0} (k : Kind V) (version after : ℕ) (see now : List (LiteralOf Term)) (seat : AgentPlace) (m : Option V) (t : Option (Option Thought)) → version ≤ after → (after ≡ version → now ≡ see) →
    Kept k version see seat m t → Kept k after now seat m t
kept-later k version after see now seat m t l s h = record {
  idle = λ e. (let i = h.idle e in record {
    late = λ n f. (let w = i.late n f in omega arith);
    rests = λ f. (let w : after ≤ version = i.late after f in let same : after ≡ version = omega arith in rests_as k see now m m (s same) refl (i.rests (f ∙ ap Some same)));
  });
  busy = λ e. (let b = h.busy e in record {
    unmarked = b.unmarked;
    late = (let w = b.late in omega arith);
    nothing = b.nothing;
    rests = λ x f g w. (let v = b.late in let same : after ≡ version = omega arith in rests_as k see now m m (s same) refl (b.rests x f g (w ∙ same)));
  });
}

kept-gone : {V : Type 0} (k : Kind V) (version : ℕ) (see : List (LiteralOf Term)) (seat : AgentPlace) (m : Option V) (t : Option (Option Thought)) (end : End) → seat.phase ≡ Gone end → Kept k version see seat m t
kept-gone k version see seat m t end g = record { idle = λ e. cc; busy = λ e. cc }

kept-rested : {V : Type 0} (k : Kind V) (version : ℕ) (see : List (LiteralOf Term)) (seat : AgentPlace) (m : Option V) (t : Option (Option Thought)) (quiet : Bool) → seat.kept ≤ version →
    (quiet ≡ true → seat.kept ≡ version → Rests k see m) → Kept k version see (rested seat quiet) m t
kept-rested k version see seat m t true l r = record {
  idle = λ e. record {
    late = λ n f. (let w : seat.kept ≡ n = same_Some _ _ f in omega arith);
    rests = λ f. r refl (same_Some _ _ f);
  };
  busy = λ e. cc;
}
kept-rested k version see seat m t false l r = record {
  idle = λ e. record { late = λ n f. absurd (none-some n f); rests = λ f. absurd (none-some version f) };
  busy = λ e. cc;
}

kept-open : {V : Type 0} (k : Kind V) (see : List (LiteralOf Term)) (seat : AgentPlace) (m : Option V) (t : Option (Option Thought)) → seat ≡ no_seat → Kept k 0 see seat m t
kept-open k see seat m t e =
    let mark : seat.mark ≡ None = ap (λ x. x.mark) e in
    let phase : seat.phase ≡ Idle = ap (λ x. x.phase) e in
    record {
      idle = λ f. record { late = λ n g. absurd (none-some n (sym mark ∙ g)); rests = λ g. absurd (none-some 0 (sym mark ∙ g)) };
      busy = λ f. cc;
    }

-- ---- the world and the version

failed : (f : Feedback) → is_done (Some f) ≡ false → f ≡ Failed
failed Failed e = refl
failed Done e = cc

-- the world changes only where an action is done
pub world_stays : (w : World) (name : List ℕ) (action : Option (LiteralOf Term)) → is_done (acted_as w name action).0 ≡ false → (acted_as w name action).1 ≡ w
world_stays w name None e = refl
world_stays w name (Some x) e = unchanged w (acted w name x).1 name x (acted w name x).0 refl (failed (acted w name x).0 e)

rises : (version : ℕ) (t : Bool) → version ≤ (if t then version + 1 else version)
rises version true = omega arith
rises version false = omega arith

version-least : (version : ℕ) (f : Option Feedback) (ms : List Message) → version ≤ version_after version f ms
version-least version f ms = rises version (is_done f || not (is_empty ms))

not-risen : (version : ℕ) (d e : Bool) → (if d || e then version + 1 else version) ≡ version → d ≡ false
not-risen version true e h = absurd (omega arith)
not-risen version false e h = refl

-- ---- the platform

pub record Known {V : Type 0} (k : Kind V) (p : Platform V) : Type 0 where
  pub boxed : length p.board.boxes ≡ length p.board.seats
  pub paired : length p.thoughts ≡ length p.minds
  pub each : (a : ℕ) → IsAgent (length p.board.seats) a →
      Kept k p.board.version (seen p.board.world (name_of p.board a)) (seat_at p.board a) (slice_get p.minds (a - 1)) (slice_get p.thoughts (a - 1))

known-by : {V : Type 0} (k : Kind V) (p : Platform V) (a : ℕ) (q : Platform V) → Known k p → IsAgent (length p.board.seats) a → ChangedAt p a q → length q.board.boxes ≡ length p.board.boxes →
    p.board.version ≤ q.board.version → (q.board.version ≡ p.board.version → q.board.world ≡ p.board.world) →
    Kept k q.board.version (seen q.board.world (name_of q.board a)) (seat_at q.board a) (slice_get q.minds (a - 1)) (slice_get q.thoughts (a - 1)) → Known k q
known-by {V} k p a q h i c b l w here = record {
  boxed = b ∙ h.boxed ∙ sym c.number;
  paired = c.paired h.paired;
  each = (let R = λ (b : ℕ) (s : AgentPlace) (m : Option V) (t : Option (Option Thought)). Kept k p.board.version (seen p.board.world (name_of p.board b)) s m t in
      let S = λ (b : ℕ) (s : AgentPlace) (m : Option V) (t : Option (Option Thought)). Kept k q.board.version (seen q.board.world (name_of q.board b)) s m t in
      said_of_each p a q R S c i h.each (λ b s m t x. kept-later k p.board.version q.board.version _ _ s m t l
      (λ e. ap (λ y. seen y (name_of q.board b)) (w e) ∙ ap (λ y. seen p.board.world (name_or_none (name_at y b))) c.names) x) here);
}

-- ---- the turns

gone-known : {V : Type 0} (k : Kind V) (p : Platform V) (a : ℕ) (r : Sensed × State) (q : Platform V) → Known k p → IsAgent (length p.board.seats) a → HasGone p a r q → Known k q
gone-known {V} k p a r q h i t =
    let l = below (length p.board.seats) a i in
    let x : AgentPlace = record (seat_at p.board a) { phase = Gone t.end } in
    let e : seat_at q.board a ≡ x = ap (λ y. seat_at y.board a) t.is ∙ ap seat_or_none (set_here p.board.seats (a - 1) x l) in
    known-by k p a q h i (changed k p a r q (Leaves t)) (ap (λ y. length y.board.boxes) t.is)
    (let v = ap (λ y. y.board.version) t.is in omega arith) (λ w. ap (λ y. y.board.world) t.is)
    (kept-gone k q.board.version (seen q.board.world (name_of q.board a)) (seat_at q.board a) _ _ t.end (ap (λ y. y.phase) e))

spent-known : {V : Type 0} (k : Kind V) (p : Platform V) (a : ℕ) (r : Sensed × State) (q : Platform V) → Known k p → IsAgent (length p.board.seats) a → HasSpent p a q → Known k q
spent-known {V} k p a r q h i t =
    let l = below (length p.board.seats) a i in
    let x : AgentPlace = record (seat_at p.board a) { phase = Gone Budget } in
    let e : seat_at q.board a ≡ x = ap (λ y. seat_at y.board a) t.is ∙ ap seat_or_none (set_here p.board.seats (a - 1) x l) in
    known-by k p a q h i (changed k p a r q (Spends t)) (ap (λ y. length y.board.boxes) t.is)
    (let v = ap (λ y. y.board.version) t.is in omega arith) (λ w. ap (λ y. y.board.world) t.is)
    (kept-gone k q.board.version (seen q.board.world (name_of q.board a)) (seat_at q.board a) _ _ Budget (ap (λ y. y.phase) e))

-- a cycle has begun at the present version
kept-begun : {V : Type 0} (k : Kind V) (version : ℕ) (see : List (LiteralOf Term)) (seat : AgentPlace) (n : Option V) (u : Option (Option Thought)) (m : V) (input : Input) →
    ((m : V) (i : Input) → is_quiet (k.cycle m i).thought ≡ true → SendsNothing (k.cycle m i).thought) → seat.phase ≡ Busy → seat.mark ≡ None → seat.kept ≡ version →
    n ≡ Some (k.cycle m input).mind → u ≡ Some (Some (k.cycle m input).thought) → input.percepts ≡ see → Kept k version see seat n u
kept-begun {V} k version see seat n u m input sends b none kept e f g = record {
  idle = λ w. cc;
  busy = λ w. record {
    unmarked = none;
    late = omega arith;
    nothing = λ x d y. (let same : (k.cycle m input).thought ≡ x = same_Some _ _ (same_Some _ _ (sym f ∙ d)) in
        let P = λ (z : Thought). SendsNothing z in
        subst P same (sends m input (ap is_quiet same ∙ y)));
    rests = λ x d y v. (let same : (k.cycle m input).thought ≡ x = same_Some _ _ (same_Some _ _ (sym f ∙ d)) in
        record { before = m; input = input; mind = e; percepts = g; quiet = ap is_quiet same ∙ y });
  };
}

thought-known : {V : Type 0} (k : Kind V) (p : Platform V) (a : ℕ) (r : Sensed × State) (q : Platform V) →
    ((m : V) (i : Input) → is_quiet (k.cycle m i).thought ≡ true → SendsNothing (k.cycle m i).thought) →
    Known k p → IsAgent (length p.board.seats) a → HasThought k p a r q → Known k q
thought-known {V} k p a r q sends h i t =
    let l = below (length p.board.seats) a i in
    let within = is_within p.minds (a - 1) t.mind t.mind_is in
    let x : AgentPlace = record { phase = Busy; cycle = (seat_at p.board a).cycle + 1; mark = None; kept = p.board.version } in
    let input = input_of p.board a in
    let e : seat_at q.board a ≡ x = ap (λ y. seat_at y.board a) t.is ∙ ap seat_or_none (set_here p.board.seats (a - 1) x l) in
    let m : slice_get q.minds (a - 1) ≡ Some (k.cycle t.mind input).mind = ap (λ y. slice_get y.minds (a - 1)) t.is ∙ set_here p.minds (a - 1) _ within in
    let u : slice_get q.thoughts (a - 1) ≡ Some (Some (k.cycle t.mind input).thought) =
    ap (λ y. slice_get y.thoughts (a - 1)) t.is ∙ set_here p.thoughts (a - 1) _ (rw h.paired within) in
    let v : q.board.version ≡ p.board.version = ap (λ y. y.board.version) t.is in
    let see : input.percepts ≡ seen q.board.world (name_of q.board a) = ap (λ y. seen y.board.world (name_of y.board a)) (sym t.is) in
    known-by k p a q h i (changed k p a r q (Thinks t)) (ap (λ y. length y.board.boxes) t.is ∙ length-set p.board.boxes (a - 1) _)
    (omega arith) (λ w. ap (λ y. y.board.world) t.is)
    (kept-begun k q.board.version (seen q.board.world (name_of q.board a)) (seat_at q.board a) _ _ t.mind input sends
    (ap (λ y. y.phase) e) (ap (λ y. y.mark) e) (ap (λ y. y.kept) e ∙ sym v) m u see)

tell-none : {V : Type 0} (k : Kind V) (minds : List V) (a : ℕ) (m : Option V) → tell k minds a m None ≡ minds
tell-none k minds a None = refl
tell-none k minds a (Some m) = refl

-- quiet outs leave the mind, and what it sees, as they were
pub quiet_mind : {V : Type 0} (k : Kind V) (p : Platform V) (a : ℕ) (q : Platform V) (t : HasActed k p a q) → t.outs.action ≡ None → q.minds ≡ p.minds
quiet_mind k p a q t e =
    ap (λ y. y.minds) t.is ∙ ap (λ y. tell k p.minds a (slice_get p.minds (a - 1)) (acted_as p.board.world (name_of p.board a) y).0) e ∙ tell-none k p.minds a (slice_get p.minds (a - 1))

acted-known : {V : Type 0} (k : Kind V) (p : Platform V) (a : ℕ) (r : Sensed × State) (q : Platform V) → Known k p → IsAgent (length p.board.seats) a → HasActed k p a q → Known k q
acted-known {V} k p a r q h i t =
    let l = below (length p.board.seats) a i in
    let after = acted_as p.board.world (name_of p.board a) t.outs.action in
    let x : AgentPlace = rested (seat_at p.board a) t.outs.quiet in
    let e : seat_at q.board a ≡ x = ap (λ y. seat_at y.board a) t.is ∙ ap seat_or_none (set_here p.board.seats (a - 1) x l) in
    let v : q.board.version ≡ version_after p.board.version after.0 t.outs.messages = ap (λ y. y.board.version) t.is in
    let low = version-least p.board.version after.0 t.outs.messages in
    let w : q.board.world ≡ after.1 = ap (λ y. y.board.world) t.is in
    let names : q.board.names ≡ p.board.names = ap (λ y. y.board.names) t.is in
    let stays : q.board.version ≡ p.board.version → q.board.world ≡ p.board.world = λ d. w ∙
    world_stays p.board.world (name_of p.board a) t.outs.action (not-risen p.board.version (is_done after.0) (not (is_empty t.outs.messages)) (sym v ∙ d)) in
    let b = (h.each a i).busy t.busy in
    let late = b.late in
    let P = λ (y : AgentPlace). Kept k q.board.version (seen q.board.world (name_of q.board a)) y (slice_get q.minds (a - 1)) (slice_get q.thoughts (a - 1)) in
    known-by k p a q h i (changed k p a r q (Emits t)) (ap (λ y. length y.board.boxes) t.is ∙ posted-length p.board.boxes t.outs.messages)
    (omega arith) stays
    (subst P (sym e) (kept-rested k q.board.version _ (seat_at p.board a) _ _ t.outs.quiet (omega arith) (λ quiet kept.
    let same : q.board.version ≡ p.board.version = omega arith in
    let nothing = b.nothing (Acts t.outs) t.outs_are quiet in
    rests_as k _ _ _ _ (ap (λ y. seen y (name_of q.board a)) (stays same) ∙ ap (λ y. seen p.board.world (name_or_none (name_at y a))) names)
    (ap (λ y. slice_get y (a - 1)) (quiet_mind k p a q t nothing.action)) (b.rests (Acts t.outs) t.outs_are quiet (kept ∙ same)))))

known-case : {V : Type 0} (k : Kind V) (p : Platform V) (a : ℕ) (r : Sensed × State) (q : Platform V) →
    ((m : V) (i : Input) → is_quiet (k.cycle m i).thought ≡ true → SendsNothing (k.cycle m i).thought) →
    Known k p → IsAgent (length p.board.seats) a → Turned k p a r q → Known k q
known-case k p a r q sends h i (Leaves t) = gone-known k p a r q h i t
known-case k p a r q sends h i (Thinks t) = thought-known k p a r q sends h i t
known-case k p a r q sends h i (Emits t) = acted-known k p a r q h i t
known-case k p a r q sends h i (Spends t) = spent-known k p a r q h i t

-- ---- the run

known-next : {V : Type 0} (k : Kind V) (p done : Platform V) (a : ℕ) (names : List ℕ) →
    ((m : V) (i : Input) → is_quiet (k.cycle m i).thought ≡ true → SendsNothing (k.cycle m i).thought) →
    ((q : Platform V) → Known k q → run k q names ≡ Some done → Known k done) → Known k p →
    (o : Option (Platform V)) → turn k p a ≡ o → and_run (λ q. run k q names) o ≡ Some done → Known k done
known-next k p done a names sends more h None e r = absurd (none-some done r)
known-next k p done a names sends more h (Some q) e r =
    let t = turned k p a q e in
    more q (known-case k p a (sense p.board a) q sends h t.agent t.case) r

pub known_run : {V : Type 0} (k : Kind V) (p done : Platform V) (names : List ℕ) →
    ((m : V) (i : Input) → is_quiet (k.cycle m i).thought ≡ true → SendsNothing (k.cycle m i).thought) → Known k p → run k p names ≡ Some done → Known k done
known_run {V} k p done [] sends h r = let P = λ (x : Platform V). Known k x in subst P (same_Some p done r) h
known_run k p done (a ∷ names) sends h r = known-next k p done a names sends (λ q g s. known_run k q done names sends g s) h (turn k p a) refl r

pub known_open : {V : Type 0} (k : Kind V) (agents : List (List ℕ)) (w : World) (cycles lead : ℕ) (minds : List V) → Known k (opening_platform (opening agents w cycles lead) minds)
known_open {V} k agents w cycles lead minds =
    let n = length-replicate (length agents) no_seat in
    let none : List Message = [] in
    record {
      boxed = length-replicate (length agents) none ∙ sym n;
      paired = length-replicate (length minds) _;
      each = λ a i.
          let l = i.named in
          let f = i.from_one in
          let e : seat_or_none (slice_get (replicate (length agents) no_seat) (a - 1)) ≡ no_seat = ap seat_or_none (in_replicate (length agents) (a - 1) no_seat (omega arith)) in
          kept-open k _ _ _ _ e;
    }
