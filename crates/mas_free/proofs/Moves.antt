-- Each turn of the platform is one move of the free machine, or none.
use Rattle.std.proofs.Common.{ℕ, zero, suc, ◌≡◌, ◌+◌, ◌-◌, ◌<◌, ◌⊎◌, inl, inr, arith, Bool, true, false, not, nat_eq, ◌||◌, if◌then◌else◌, is_some, List, [], ◌∷◌, length, slice_get, slice_set, Option, None, Some, refl, ap, sym, ◌∙◌, subst}
use Rattle.std.proofs.lemmas.Bool.{and_parts}
use Rattle.std.proofs.lemmas.Option.{same_Some, none-some}
use Rattle.asl_term.specs.declared.syntax.LiteralOf.{LiteralOf}
use Rattle.asl_term.specs.declared.syntax.Term.{Term}
use Rattle.asl_term.specs.Names.{name_at}
use Rattle.mas_mind.specs.declared.mind.Message.{Message}
use Rattle.mas_mind.specs.declared.mind.Input.{Input}
use Rattle.mas_mind.specs.declared.mind.Feedback.{Feedback}
use Rattle.mas_mind.specs.declared.mind.End.{End}
use Rattle.mas_mind.specs.declared.mind.End.TheVariants as ends
use Rattle.mas_mind.specs.declared.mind.Thought.{Thought}
use Rattle.mas_mind.specs.declared.mind.Thought.TheVariants.{Outs as Acts, Spent as Over}
use Rattle.mas_mind.specs.Minds.{Kind, IsAgent, is_quiet, SendsNothing}
use Rattle.mas_world.specs.Worlds.{World}
use Rattle.mas_world.specs.Seen.{seen}
use Rattle.mas_board.specs.declared.seats.Phase.{Phase}
use Rattle.mas_board.specs.declared.seats.Phase.TheVariants as phase
use Rattle.mas_board.specs.declared.seats.AgentPlace.{AgentPlace}
use Rattle.mas_board.specs.Boards.{seat_at, seat_or_none, box_of, box_or_none, name_of, name_or_none, oldest, later, input_of, sense, rested, acted_as, posted}
use Rattle.mas_board.proofs.Places.{below, same_place}
use Rattle.mas_core.specs.Platform.{Platform, tell}
use Rattle.mas_core_laws.proofs.Places.{set_here, is_within}
use Rattle.mas_core_laws.proofs.Steps.{Turned, Leaves, Thinks, Emits, Spends, HasGone, HasThought, HasActed, HasSpent, turned}
use Rattle.mas_core_laws.proofs.Changes.{ChangedAt, changed}
use Rattle.mas_core_laws.proofs.Rests.{quiet_mind}
use Rattle.mas_free.specs.declared.view.View.{View}
use Rattle.mas_free.specs.Alike.{Alike, IsPlain, QuietStays}
use Rattle.mas_free.specs.Free.{Free, Stage, Idle, Busy, Spent, Left, staged, own_name, input_for, carry_nothing, stage_after, thought_by, is_nothing, think, carried, move_in, move}
use Rattle.mas_free.specs.Forgets.{stage_left, stage_of, MindsFit, AgentFits, Forgets}
use Rattle.mas_free.specs.Covers.{MovesTo, TurnsMove}
use Rattle.mas_free.proofs.Likes.{alike_then, alike_cycle, alike_took, plain_cycle, plain_took}
use Rattle.mas_free.proofs.Senses.{WhyLeft, ByCycles, ByStop, ByQuiet, left_for, goes_on}
use Rattle.mas_free.proofs.Stages.{none_is, are_empty, quiet_stage, stage_was, stage_is, moves_in, seat_set, FreeAt, free_same, free_staged, free_thought, free_carried}

-- ---- the agents that have no turn

module _ {V : Type 0} (k : Kind V) (v : View) (p q : Platform V) (f g : Free V) (a : ℕ) (c : ChangedAt p a q) (d : FreeAt f a g) where
  fits-other : (b : ℕ) → nat_eq (a - 1) (b - 1) ≡ false → AgentFits k v p f b → AgentFits k v q g b
  fits-other b e h =
      let s = c.seat b e in
      let t = c.thought b e in
      let P = λ (m : Option V). MindsFit k v m (slice_get g.minds (b - 1)) in
      let Q = λ (m : Option V). MindsFit k v (slice_get p.minds (b - 1)) m in
      record {
        stage = d.stage b e ∙ h.stage ∙ (λ i. Some (stage_of (seat_or_none (sym s i)).phase (sym t i)));
        mind = subst P (sym (c.mind b e)) (subst Q (sym (d.mind b e)) h.mind);
      }

  fits-at : (b : ℕ) (t : Bool) → IsAgent (length p.board.seats) a → IsAgent (length p.board.seats) b → AgentFits k v p f b → AgentFits k v q g a → nat_eq (a - 1) (b - 1) ≡ t →
      AgentFits k v q g b
  fits-at b true i j h here e = let P = λ (x : ℕ). AgentFits k v q g x in subst P (same_place (length p.board.seats) a b i j e) here
  fits-at b false i j h here e = fits-other b e h

  -- what is left of the platform after the turn, by what is left at its agent
  forgets-by : Forgets k v p f → IsAgent (length p.board.seats) a → g.world ≡ q.board.world → g.boxes ≡ q.board.boxes → g.stop ≡ q.board.stop → AgentFits k v q g a → Forgets k v q g
  forgets-by h i w b s here = record {
    names = d.names ∙ h.names ∙ sym c.names;
    world = w;
    boxes = b;
    stop = s;
    minds = c.minds ∙ h.minds ∙ sym c.number;
    thoughts = c.paired h.thoughts;
    stages_are = d.number ∙ h.stages_are ∙ sym c.number;
    minds_are = d.minds ∙ h.minds_are ∙ sym c.number;
    each = λ x j. (let N = λ (n : ℕ). IsAgent n x in
        let y : IsAgent (length p.board.seats) x = subst N c.number j in
        fits-at x (nat_eq (a - 1) (x - 1)) i y (h.each x y) here refl);
  }

-- the free state stays, or the agent's move leads on
abbrev Moved : {V : Type 0} → Kind V → View → Free V → ℕ → Platform V → Type 0
Moved k v f a q = Forgets k v q f ⊎ MovesTo k v f a q

-- ---- the mind of an agent in the free state

pub fit_minds : {V : Type 0} (k : Kind V) (v : View) (x y : Option V) (m : V) → x ≡ Some m → MindsFit k v x y → (n : V) × (y ≡ Some n) × Alike k v m n × IsPlain k m
fit_minds k v None y m e h = absurd (none-some m e)
fit_minds k v (Some x) None m e h = absurd h
fit_minds {V} k v (Some x) (Some y) m e h =
    let s : x ≡ m = same_Some x m e in
    let P = λ (z : V). Alike k v z y in
    let Q = λ (z : V). IsPlain k z in
    (y, refl, subst P s h.0, subst Q s h.1)

minds-fit : {V : Type 0} (k : Kind V) (v : View) (x y : Option V) (m n : V) → x ≡ Some m → y ≡ Some n → Alike k v m n → IsPlain k m → MindsFit k v x y
minds-fit {V} k v x y m n e f h s =
    let P = λ (o : Option V). MindsFit k v o y in
    let Q = λ (o : Option V). MindsFit k v (Some m) o in
    subst P (sym e) (subst Q (sym f) (h, s))

-- both minds are told the same
tell-fits : {V : Type 0} (k : Kind V) (v : View) (xs ys : List V) (a : ℕ) (x y : Option V) (f : Option Feedback) → slice_get xs (a - 1) ≡ x → slice_get ys (a - 1) ≡ y → MindsFit k v x y →
    MindsFit k v (slice_get (tell k xs a x f) (a - 1)) (slice_get (tell k ys a y f) (a - 1))
tell-fits k v xs ys a None y f d e h = absurd h
tell-fits k v xs ys a (Some m) None f d e h = absurd h
tell-fits k v xs ys a (Some m) (Some n) None d e h = minds-fit k v _ _ m n d e h.0 h.1
tell-fits k v xs ys a (Some m) (Some n) (Some f) d e h =
    minds-fit k v _ _ (k.took m f) (k.took n f) (set_here xs (a - 1) (k.took m f) (is_within xs (a - 1) m d)) (set_here ys (a - 1) (k.took n f) (is_within ys (a - 1) n e))
    (alike_took k v m n f h.0) (plain_took k m f h.1)

no-letter : (box : List Message) → oldest box ≡ None → box ≡ []
no-letter [] e = refl
no-letter (m ∷ more) e = absurd (none-some m (sym e))

set-empty : (xs : List (List Message)) (i : ℕ) → box_or_none (slice_get xs i) ≡ [] → slice_set xs i [] ≡ xs
set-empty [] i e = refl
set-empty (y ∷ xs) zero e = ap (λ (z : List Message). z ∷ xs) (sym e)
set-empty (y ∷ xs) (suc i) e = ap (λ (r : List (List Message)). y ∷ r) (set-empty xs i e)

or-false : (b : Bool) → (b || false) ≡ b
or-false true = refl
or-false false = refl

-- ---- the turns

module _ {V : Type 0} (k : Kind V) (v : View) (p q : Platform V) (f : Free V) (a : ℕ) (h : Forgets k v p f) (i : IsAgent (length p.board.seats) a) where
  within : a - 1 < length f.stages
  within = let l = below (length p.board.seats) a i in let e = h.stages_are in omega arith

  moves : (stage : Option Stage) → slice_get f.stages (a - 1) ≡ stage → move k f a ≡ move_in k f a stage
  moves stage e = let N = λ (n : ℕ). IsAgent n a in moves_in k f a stage (subst N (sym h.stages_are) i) e

  was : (at : Phase) (t : Option (Option Thought)) → (seat_at p.board a).phase ≡ at → slice_get p.thoughts (a - 1) ≡ t → slice_get f.stages (a - 1) ≡ Some (stage_of at t)
  was at t e u = stage_was p (slice_get f.stages (a - 1)) a at t (h.each a i).stage e u

  seat-is : (x : AgentPlace) → q.board.seats ≡ slice_set p.board.seats (a - 1) x → seat_at q.board a ≡ x
  seat-is x e = seat_set p q a x i e

  -- ---- it leaves, all being quiet or its cycles being at their limit

  stays-idle : HasGone p a (sense p.board a) q → (end : End) → stage_left end ≡ Idle → (seat_at q.board a).phase ≡ phase.Left end → Forgets k v q f
  stays-idle t end w e =
      let old : slice_get f.stages (a - 1) ≡ Some Idle = was phase.Idle (slice_get p.thoughts (a - 1)) t.idle refl in
      let new = stage_is q (slice_get f.stages (a - 1)) a (phase.Left end) (slice_get q.thoughts (a - 1)) (old ∙ ap Some (sym w)) e refl in
      let P = λ (y : Platform V). MindsFit k v (slice_get y.minds (a - 1)) (slice_get f.minds (a - 1)) in
      forgets-by k v p q f f a (changed k p a (sense p.board a) q (Leaves t)) (free_same f a) h i
      (h.world ∙ sym (ap (λ (y : Platform V). y.board.world) t.is)) (h.boxes ∙ sym (ap (λ (y : Platform V). y.board.boxes) t.is))
      (h.stop ∙ sym (ap (λ (y : Platform V). y.board.stop) t.is)) (record { stage = new; mind = subst P (sym t.is) (h.each a i).mind })

  -- ---- or since the run is stopped

  stops : HasGone p a (sense p.board a) q → p.board.stop ≡ true → (seat_at q.board a).phase ≡ phase.Left ends.Stopped → MovesTo k v f a q
  stops t s e =
      let g : Free V = staged f a (Left ends.Stopped) in
      let old : slice_get f.stages (a - 1) ≡ Some Idle = was phase.Idle (slice_get p.thoughts (a - 1)) t.idle refl in
      let made : move k f a ≡ Some g = moves (Some Idle) old ∙
      ap (λ (b : Bool). if b then Some (staged f a (Left ends.Stopped)) else think k f a (slice_get f.minds (a - 1))) (h.stop ∙ s) in
      let new = stage_is q (slice_get g.stages (a - 1)) a (phase.Left ends.Stopped) (slice_get q.thoughts (a - 1)) (set_here f.stages (a - 1) (Left ends.Stopped) within) e refl in
      let P = λ (y : Platform V). MindsFit k v (slice_get y.minds (a - 1)) (slice_get f.minds (a - 1)) in
      record {
        next = g;
        moved = made;
        left = forgets-by k v p q f g a (changed k p a (sense p.board a) q (Leaves t)) (free_staged f a (Left ends.Stopped)) h i
            (h.world ∙ sym (ap (λ (y : Platform V). y.board.world) t.is)) (h.boxes ∙ sym (ap (λ (y : Platform V). y.board.boxes) t.is))
            (h.stop ∙ sym (ap (λ (y : Platform V). y.board.stop) t.is)) (record { stage = new; mind = subst P (sym t.is) (h.each a i).mind });
      }

  goes-as : HasGone p a (sense p.board a) q → (end : End) → (seat_at q.board a).phase ≡ phase.Left end → WhyLeft p.board end → Moved k v f a q
  goes-as t end e (ByCycles w) = inl (stays-idle t end (ap stage_left w) e)
  goes-as t end e (ByStop w s) = inr (stops t s (e ∙ ap phase.Left w))
  goes-as t end e (ByQuiet w r s) = inl (stays-idle t end (ap stage_left w) e)

  gone-turn : HasGone p a (sense p.board a) q → Moved k v f a q
  gone-turn t =
      let e = seat-is (record (seat_at p.board a) { phase = phase.Left t.end }) (ap (λ (y : Platform V). y.board.seats) t.is) in
      goes-as t t.end (ap (λ (y : AgentPlace). y.phase) e) (left_for p.board a t.end _ t.sensed)

  -- ---- its budget was spent

  spent-turn : HasSpent p a q → MovesTo k v f a q
  spent-turn t =
      let g : Free V = staged f a (Left ends.Budget) in
      let seat = seat-is (record (seat_at p.board a) { phase = phase.Left ends.Budget }) (ap (λ (y : Platform V). y.board.seats) t.is) in
      let e : (seat_at q.board a).phase ≡ phase.Left ends.Budget = ap (λ (y : AgentPlace). y.phase) seat in
      let made : move k f a ≡ Some g = moves (Some Spent) (was phase.Busy (Some (Some Over)) t.busy t.thought_is) in
      let new = stage_is q (slice_get g.stages (a - 1)) a (phase.Left ends.Budget) (slice_get q.thoughts (a - 1)) (set_here f.stages (a - 1) (Left ends.Budget) within) e refl in
      let P = λ (y : Platform V). MindsFit k v (slice_get y.minds (a - 1)) (slice_get f.minds (a - 1)) in
      record {
        next = g;
        moved = made;
        left = forgets-by k v p q f g a (changed k p a (sense p.board a) q (Spends t)) (free_staged f a (Left ends.Budget)) h i
            (h.world ∙ sym (ap (λ (y : Platform V). y.board.world) t.is)) (h.boxes ∙ sym (ap (λ (y : Platform V). y.board.boxes) t.is))
            (h.stop ∙ sym (ap (λ (y : Platform V). y.board.stop) t.is)) (record { stage = new; mind = subst P (sym t.is) (h.each a i).mind });
      }

  -- ---- it makes a cycle

  inputs : input_for f a ≡ input_of p.board a
  inputs = λ j. record { percepts = seen (h.world j) (name_or_none (name_at (h.names j) a)); message = oldest (box_of (h.boxes j) a) }

  module _ (t : HasThought k p a (sense p.board a) q) where
    busy : (seat_at q.board a).phase ≡ phase.Busy
    busy =
        let x : AgentPlace = record { phase = phase.Busy; cycle = (seat_at p.board a).cycle + 1; mark = None; kept = p.board.version } in
        ap (λ (y : AgentPlace). y.phase) (seat-is x (ap (λ (y : Platform V). y.board.seats) t.is))

    mind-now : slice_get q.minds (a - 1) ≡ Some (k.cycle t.mind (input_of p.board a)).mind
    mind-now = ap (λ (y : Platform V). slice_get y.minds (a - 1)) t.is ∙ set_here p.minds (a - 1) _ (is_within p.minds (a - 1) t.mind t.mind_is)

    thought-now : slice_get q.thoughts (a - 1) ≡ Some (Some (k.cycle t.mind (input_of p.board a)).thought)
    thought-now =
        let w = is_within p.minds (a - 1) t.mind t.mind_is in
        let e = h.thoughts in
        ap (λ (y : Platform V). slice_get y.thoughts (a - 1)) t.is ∙ set_here p.thoughts (a - 1) _ (omega arith)

    was-idle : slice_get f.stages (a - 1) ≡ Some Idle
    was-idle = was phase.Idle (slice_get p.thoughts (a - 1)) t.idle refl

    -- which is quiet
    thinks-quiet : ((m : V) (i : Input) → is_quiet (k.cycle m i).thought ≡ true → SendsNothing (k.cycle m i).thought) → QuietStays k →
        (n : V) → slice_get f.minds (a - 1) ≡ Some n → Alike k v t.mind n → IsPlain k t.mind →
        is_quiet (k.cycle t.mind (input_of p.board a)).thought ≡ true → (input_of p.board a).message ≡ None → Forgets k v q f
    thinks-quiet sends stays n e alike plain quiet none =
        let input = input_of p.board a in
        let c = k.cycle t.mind input in
        let box : box_of p.board.boxes a ≡ [] = no-letter (box_of p.board.boxes a) none in
        let boxes : q.board.boxes ≡ p.board.boxes = ap (λ (y : Platform V). y.board.boxes) t.is ∙
        ap (λ (y : List Message). slice_set p.board.boxes (a - 1) (later y)) box ∙ set-empty p.board.boxes (a - 1) box in
        let idle : stage_after c.thought ≡ Idle = quiet_stage c.thought quiet (sends t.mind input quiet) in
        let new = stage_is q (slice_get f.stages (a - 1)) a phase.Busy (Some (Some c.thought)) (was-idle ∙ ap Some (sym idle)) busy thought-now in
        let like : Alike k v c.mind n = alike_then k v c.mind t.mind n (stays v t.mind input plain quiet none) alike in
        forgets-by k v p q f f a (changed k p a (sense p.board a) q (Thinks t)) (free_same f a) h i
        (h.world ∙ sym (ap (λ (y : Platform V). y.board.world) t.is)) (h.boxes ∙ sym boxes) (h.stop ∙ sym (ap (λ (y : Platform V). y.board.stop) t.is))
        (record { stage = new; mind = minds-fit k v _ _ c.mind n mind-now e like (plain_cycle k t.mind input plain) })

    -- of which something comes
    thinks-on : (n : V) → slice_get f.minds (a - 1) ≡ Some n → Alike k v t.mind n → IsPlain k t.mind →
        is_nothing (input_of p.board a) (k.cycle t.mind (input_of p.board a)).thought ≡ false → MovesTo k v f a q
    thinks-on n e alike plain something =
        let input = input_of p.board a in
        let c = k.cycle t.mind input in
        let d = k.cycle n (input_for f a) in
        let g : Free V = thought_by f a d in
        let same : d.thought ≡ c.thought = ap (λ (x : Input). (k.cycle n x).thought) inputs ∙ sym (alike.thinks [] input) in
        let running : f.stop ≡ false = h.stop ∙ (goes_on p.board a t.sensed).running in
        let comes : is_nothing (input_for f a) d.thought ≡ false = (λ j. is_nothing (inputs j) (same j)) ∙ something in
        let made : move k f a ≡ Some g = moves (Some Idle) was-idle ∙
        ap (λ (b : Bool). if b then Some (staged f a (Left ends.Stopped)) else think k f a (slice_get f.minds (a - 1))) running ∙ ap (think k f a) e ∙
        ap (λ (b : Bool). if b then None else Some (thought_by f a d)) comes in
        let stage : slice_get g.stages (a - 1) ≡ Some (stage_after c.thought) = set_here f.stages (a - 1) (stage_after d.thought) within ∙ ap (λ (x : Thought). Some (stage_after x)) same in
        let new = stage_is q (slice_get g.stages (a - 1)) a phase.Busy (Some (Some c.thought)) stage busy thought-now in
        let mind : slice_get g.minds (a - 1) ≡ Some d.mind = set_here f.minds (a - 1) d.mind (is_within f.minds (a - 1) n e) in
        let P = λ (x : Input). Alike k v c.mind (k.cycle n x).mind in
        let like : Alike k v c.mind d.mind = subst P (sym inputs) (alike_cycle k v t.mind n input alike) in
        let boxes : g.boxes ≡ q.board.boxes = ap (λ (b : List (List Message)). slice_set b (a - 1) (later (box_of b a))) h.boxes ∙ sym (ap (λ (y : Platform V). y.board.boxes) t.is) in
        record {
          next = g;
          moved = made;
          left = forgets-by k v p q f g a (changed k p a (sense p.board a) q (Thinks t)) (free_thought f a d) h i
              (h.world ∙ sym (ap (λ (y : Platform V). y.board.world) t.is)) boxes (h.stop ∙ sym (ap (λ (y : Platform V). y.board.stop) t.is))
              (record { stage = new; mind = minds-fit k v _ _ c.mind d.mind mind-now mind like (plain_cycle k t.mind input plain) });
        }

    thinks-by : ((m : V) (i : Input) → is_quiet (k.cycle m i).thought ≡ true → SendsNothing (k.cycle m i).thought) → QuietStays k →
        (n : V) → slice_get f.minds (a - 1) ≡ Some n → Alike k v t.mind n → IsPlain k t.mind →
        (b : Bool) → is_nothing (input_of p.board a) (k.cycle t.mind (input_of p.board a)).thought ≡ b → Moved k v f a q
    thinks-by sends stays n e alike plain true w =
        let both = and_parts (is_quiet (k.cycle t.mind (input_of p.board a)).thought) (not (is_some (input_of p.board a).message)) w in
        inl (thinks-quiet sends stays n e alike plain both.0 (none_is (input_of p.board a).message both.1))
    thinks-by sends stays n e alike plain false w = inr (thinks-on n e alike plain w)

    thought-turn : ((m : V) (i : Input) → is_quiet (k.cycle m i).thought ≡ true → SendsNothing (k.cycle m i).thought) → QuietStays k → Moved k v f a q
    thought-turn sends stays =
        let n = fit_minds k v (slice_get p.minds (a - 1)) (slice_get f.minds (a - 1)) t.mind t.mind_is (h.each a i).mind in
        thinks-by sends stays n.0 n.1 n.2 n.3 (is_nothing (input_of p.board a) (k.cycle t.mind (input_of p.board a)).thought) refl

  -- ---- its outs are carried out

  module _ (t : HasActed k p a q) where
    idle : (seat_at q.board a).phase ≡ phase.Idle
    idle = ap (λ (y : AgentPlace). y.phase) (seat-is (rested (seat_at p.board a) t.outs.quiet) (ap (λ (y : Platform V). y.board.seats) t.is))

    stage-was : (b : Bool) → carry_nothing t.outs ≡ b → slice_get f.stages (a - 1) ≡ Some (if b then Idle else Busy t.outs)
    stage-was b e = was phase.Busy (Some (Some (Acts t.outs))) t.busy t.outs_are ∙ ap (λ (x : Bool). Some (if x then Idle else Busy t.outs)) e

    -- in which there is nothing
    acts-not : carry_nothing t.outs ≡ true → Forgets k v q f
    acts-not e =
        let none = are_empty t.outs e in
        let name = name_of p.board a in
        let world : q.board.world ≡ p.board.world = ap (λ (y : Platform V). y.board.world) t.is ∙ ap (λ (y : Option (LiteralOf Term)). (acted_as p.board.world name y).1) none.action in
        let boxes : q.board.boxes ≡ p.board.boxes = ap (λ (y : Platform V). y.board.boxes) t.is ∙ ap (posted p.board.boxes) none.messages in
        let stop : q.board.stop ≡ p.board.stop = ap (λ (y : Platform V). y.board.stop) t.is ∙ ap (λ (y : Bool). p.board.stop || y) none.stop ∙ or-false p.board.stop in
        let new = stage_is q (slice_get f.stages (a - 1)) a phase.Idle (slice_get q.thoughts (a - 1)) (stage-was true e) idle refl in
        let P = λ (ms : List V). MindsFit k v (slice_get ms (a - 1)) (slice_get f.minds (a - 1)) in
        forgets-by k v p q f f a (changed k p a (sense p.board a) q (Emits t)) (free_same f a) h i (h.world ∙ sym world) (h.boxes ∙ sym boxes) (h.stop ∙ sym stop)
        (record { stage = new; mind = subst P (sym (quiet_mind k p a q t none.action)) (h.each a i).mind })

    -- in which there is something
    acts-on : carry_nothing t.outs ≡ false → MovesTo k v f a q
    acts-on e =
        let done : Option Feedback × World = acted_as f.world (own_name f a) t.outs.action in
        let g : Free V = carried k f a t.outs done in
        let made : move k f a ≡ Some g = moves (Some (Busy t.outs)) (stage-was false e) in
        let same : done ≡ acted_as p.board.world (name_of p.board a) t.outs.action = λ j. acted_as (h.world j) (name_or_none (name_at (h.names j) a)) t.outs.action in
        let world : g.world ≡ q.board.world = ap (λ (y : Option Feedback × World). y.1) same ∙ sym (ap (λ (y : Platform V). y.board.world) t.is) in
        let boxes : g.boxes ≡ q.board.boxes = ap (λ (b : List (List Message)). posted b t.outs.messages) h.boxes ∙ sym (ap (λ (y : Platform V). y.board.boxes) t.is) in
        let stop : g.stop ≡ q.board.stop = ap (λ (b : Bool). b || t.outs.stop) h.stop ∙ sym (ap (λ (y : Platform V). y.board.stop) t.is) in
        let new = stage_is q (slice_get g.stages (a - 1)) a phase.Idle (slice_get q.thoughts (a - 1)) (set_here f.stages (a - 1) Idle within) idle refl in
        let first = tell-fits k v p.minds f.minds a (slice_get p.minds (a - 1)) (slice_get f.minds (a - 1)) done.0 refl refl (h.each a i).mind in
        let P = λ (o : Option Feedback). MindsFit k v (slice_get (tell k p.minds a (slice_get p.minds (a - 1)) o) (a - 1)) (slice_get g.minds (a - 1)) in
        let Q = λ (ms : List V). MindsFit k v (slice_get ms (a - 1)) (slice_get g.minds (a - 1)) in
        let minds : MindsFit k v (slice_get q.minds (a - 1)) (slice_get g.minds (a - 1)) =
        subst Q (sym (ap (λ (y : Platform V). y.minds) t.is)) (subst P (ap (λ (y : Option Feedback × World). y.0) same) first) in
        record {
          next = g;
          moved = made;
          left = forgets-by k v p q f g a (changed k p a (sense p.board a) q (Emits t)) (free_carried k f a t.outs done) h i world boxes stop (record { stage = new; mind = minds });
        }

    acts-by : (b : Bool) → carry_nothing t.outs ≡ b → Moved k v f a q
    acts-by true e = inl (acts-not e)
    acts-by false e = inr (acts-on e)

  step : ((m : V) (i : Input) → is_quiet (k.cycle m i).thought ≡ true → SendsNothing (k.cycle m i).thought) → QuietStays k → Turned k p a (sense p.board a) q → Moved k v f a q
  step sends stays (Leaves t) = gone-turn t
  step sends stays (Thinks t) = thought-turn t sends stays
  step sends stays (Emits t) = acts-by t (carry_nothing t.outs) refl
  step sends stays (Spends t) = inr (spent-turn t)

pub turns_move : {V : Type 0} (k : Kind V) → ((m : V) (i : Input) → is_quiet (k.cycle m i).thought ≡ true → SendsNothing (k.cycle m i).thought) → QuietStays k → TurnsMove k
turns_move k sends stays v p q f a h e = let t = turned k p a q e in step k v p q f a h t.agent sends stays t.case
