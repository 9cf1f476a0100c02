-- Each turn leaves the platform so.
use Rattle.std.proofs.Common.{◌≡◌, ◌-◌, ◌++◌, ℕ, List, [], ◌∷◌, slice_get, Option, Some, None, IfSome, refl, sym, ◌∙◌, subst}
use Rattle.std.specs.List.{AllByRecursion}
use Rattle.asl_term.specs.declared.syntax.AgentText.{AgentText}
use Rattle.asl_plans.specs.declared.entry.OwnedPlan.{OwnedPlan}
use Rattle.mas_mind.specs.declared.mind.Feedback.{Feedback}
use Rattle.mas_mind.specs.declared.mind.Message.{Message}
use Rattle.mas_mind.specs.declared.mind.Thought.TheVariants.{Outs as Acts}
use Rattle.asl_cycle.specs.Agent.{Mindset, told, agent_kind, agent_cycle}
use Rattle.mas_board.specs.Boards.{box_or_none, box_of, oldest, later, input_of, begun, put_last, posted, emit, sense, name_of}
use Rattle.mas_core.specs.Platform.{Platform, tell, thought_by, turn}
use Rattle.mas_core_laws.proofs.Steps.{Turned, Leaves, Thinks, Emits, Spends, turned}
use Rattle.asl_lint_laws.specs.Messages.{MessageServed}
use Rattle.asl_lint_laws.specs.Deeds.{AreOpened}
use Rattle.asl_lint_laws.specs.Cycles.{InputServed, ThoughtServed, CycledServed}
use Rattle.asl_lint_laws.proofs.Cycled.{agent_keeps}
use Rattle.mas_top_laws.specs.Runs.{Along, NeverNow, Each, MindServed, IsAt, BoxServed, OnItsWay, PlatformServed, RunsNever}
use Rattle.mas_top_laws.proofs.Sets.{set_each, each_at, all_last}
use Rattle.mas_top_laws.proofs.Worlds.{acts_have, seen_ground}

module _ (texts : List AgentText) (libs : List (List OwnedPlan)) (begun_by : AreOpened texts libs) where
  abbrev Served : Platform Mindset → Type 0
  Served = PlatformServed texts libs

  -- ---- the boxes

  box_served : (boxes : List (List Message)) (a : ℕ) → Each (BoxServed texts libs) boxes → BoxServed texts libs (a - 1) (box_of boxes a)
  box_served boxes a s = go (slice_get boxes (a - 1)) (s (a - 1)) where
    go : (o : Option (List Message)) → IfSome o (BoxServed texts libs (a - 1)) → BoxServed texts libs (a - 1) (box_or_none o)
    go None s = tt
    go (Some box) s = s

  oldest_served : (j : ℕ) (box : List Message) → BoxServed texts libs j box → IfSome (oldest box) (IsAt texts libs j)
  oldest_served j [] s = tt
  oldest_served j (m ∷ more) s = s.0

  later_served : (j : ℕ) (box : List Message) → BoxServed texts libs j box → BoxServed texts libs j (later box)
  later_served j [] s = tt
  later_served j (m ∷ more) s = s.1

  posted_served : (boxes : List (List Message)) (ms : List Message) → Each (BoxServed texts libs) boxes → AllByRecursion (MessageServed libs) ms
      → Each (BoxServed texts libs) (posted boxes ms)
  posted_served boxes [] s a = s
  posted_served boxes (m ∷ ms) s a =
      posted_served (put_last boxes m) ms
      (set_each (BoxServed texts libs) boxes (m.to - 1) (box_of boxes m.to ++ m ∷ []) s
      (all_last (IsAt texts libs (m.to - 1)) (box_of boxes m.to) m (box_served boxes m.to s) (refl, a.0))) a.1

  -- ---- an agent's cycle

  input_served : (p : Platform Mindset) (a : ℕ) (m : Mindset) → Served p → MindServed texts libs (a - 1) m → InputServed libs m.peers.me (input_of p.board a)
  input_served p a m s n = record {
    percepts = seen_ground p.board.world (name_of p.board a) s.world;
    message = go (oldest (box_of p.board.boxes a)) (oldest_served (a - 1) (box_of p.board.boxes a) (box_served p.board.boxes a s.boxes));
  } where
    go : (o : Option Message) → IfSome o (IsAt texts libs (a - 1)) → IfSome o (λ x. (x.to - 1 ≡ m.peers.me - 1) × MessageServed libs x)
    go None i = tt
    go (Some x) i = (i.0 ∙ sym n.place, i.1)

  cycled_served : (p : Platform Mindset) (a : ℕ) (m : Mindset) → Served p → slice_get p.minds (a - 1) ≡ Some m
      → CycledServed texts libs m (input_of p.board a)
  cycled_served p a m s e =
      let n = each_at (MindServed texts libs) p.minds (a - 1) m s.minds e in
      agent_keeps texts libs m (input_of p.board a) begun_by n.served (input_served p a m s n)

  pub never_now : (p : Platform Mindset) (a : ℕ) → Served p → NeverNow p a
  never_now p a s m e = (cycled_served p a m s e).lines

  -- ---- the turns

  thought_served : (p : Platform Mindset) (a : ℕ) (m : Mindset) → Served p → slice_get p.minds (a - 1) ≡ Some m
      → Served (thought_by p a (begun p.board a) (agent_cycle m (input_of p.board a)))
  thought_served p a m s e =
      let n = each_at (MindServed texts libs) p.minds (a - 1) m s.minds e in
      let c = cycled_served p a m s e in
      record {
        world = s.world;
        minds = set_each (MindServed texts libs) p.minds (a - 1) (agent_cycle m (input_of p.board a)).mind s.minds (record { served = c.mind; place = n.place });
        boxes = set_each (BoxServed texts libs) p.board.boxes (a - 1) (later (box_of p.board.boxes a)) s.boxes
            (later_served (a - 1) (box_of p.board.boxes a) (box_served p.board.boxes a s.boxes));
        thoughts = set_each (OnItsWay texts libs) p.thoughts (a - 1) (Some (agent_cycle m (input_of p.board a)).thought) s.thoughts c.thought;
      }

  told_served : (j : ℕ) (m : Mindset) (f : Feedback) → MindServed texts libs j m → MindServed texts libs j (told m f)
  told_served j m f s = record {
    served = record { number = s.served.number; plans = s.served.plans; own = s.served.own; around = s.served.around; parts = s.served.parts };
    place = s.place;
  }

  tell_served : (minds : List Mindset) (a : ℕ) (f : Option Feedback) → Each (MindServed texts libs) minds
      → Each (MindServed texts libs) (tell agent_kind minds a (slice_get minds (a - 1)) f)
  tell_served minds a f s = go (slice_get minds (a - 1)) f (s (a - 1)) where
    go : (o : Option Mindset) (f : Option Feedback) → IfSome o (MindServed texts libs (a - 1)) → Each (MindServed texts libs) (tell agent_kind minds a o f)
    go None f t = s
    go (Some m) None t = s
    go (Some m) (Some f) t = set_each (MindServed texts libs) minds (a - 1) (told m f) s (told_served (a - 1) m f t)

  turn_served : (p q : Platform Mindset) (a : ℕ) → Served p → Turned agent_kind p a (sense p.board a) q → Served q
  turn_served p q a s (Leaves h) = subst Served (sym h.is) (record { world = s.world; minds = s.minds; boxes = s.boxes; thoughts = s.thoughts })
  turn_served p q a s (Thinks h) = subst Served (sym h.is) (thought_served p a h.mind s h.mind_is)
  turn_served p q a s (Emits h) =
      let t : ThoughtServed libs (Acts h.outs) = each_at (OnItsWay texts libs) p.thoughts (a - 1) (Some (Acts h.outs)) s.thoughts h.outs_are in
      let e = emit p.board a h.outs in
      subst Served (sym h.is) (record {
        world = acts_have p.board.world (name_of p.board a) h.outs.action s.world;
        minds = tell_served p.minds a e.0 s.minds;
        boxes = posted_served p.board.boxes h.outs.messages s.boxes t;
        thoughts = set_each (OnItsWay texts libs) p.thoughts (a - 1) None s.thoughts tt;
      })
  turn_served p q a s (Spends h) =
      subst Served (sym h.is)
      (record { world = s.world; minds = s.minds; boxes = s.boxes; thoughts = set_each (OnItsWay texts libs) p.thoughts (a - 1) None s.thoughts tt })

  -- ---- the run

  pub run_never : (names : List ℕ) (p : Platform Mindset) → Served p → Along NeverNow p names
  run_never [] p s = tt
  run_never (a ∷ names) p s = (never_now p a s, go (turn agent_kind p a) refl (λ q. run_never names q)) where
    go : (o : Option (Platform Mindset)) → turn agent_kind p a ≡ o → ((q : Platform Mindset) → Served q → Along NeverNow q names)
        → IfSome o (λ q. Along NeverNow q names)
    go None e more = tt
    go (Some q) e more = more q (turn_served p q a s (turned agent_kind p a q e).case)

pub runs_never : RunsNever
runs_never texts libs p names begun_by s = run_never texts libs begun_by names p s
