-- Agents that differ at most in what nobody sees: the number of their cycles, whether they await feedback, and feedback for which no stack waits.
use Rattle.std.specs.Prelude.{ℕ, ◌≡◌, ◌+◌, true, false, refl, List, [], ◌∷◌, ◌++◌, None}
use Rattle.std.proofs.Common.{ap, sym, ◌∙◌}
use Rattle.mas_mind.specs.declared.mind.Feedback.{Feedback}
use Rattle.mas_mind.specs.declared.mind.Input.{Input}
use Rattle.mas_mind.specs.Minds.{is_quiet}
use Rattle.asl_cycle.specs.Cycle as spec
use Rattle.asl_cycle.specs.Steps.{plans_after}
use Rattle.asl_cycle.specs.Trace.{shown}
use Rattle.asl_cycle.specs.Agent.{Mindset, surroundings, after_cycle, agent_cycle, told, agent_kind}
use Rattle.mas_free.specs.declared.view.View.{View}
use Rattle.mas_free.specs.declared.view.View.TheVariants.{Ends, Lines}
use Rattle.mas_free.specs.Lines.{unnumbered, are_lines, viewed}
use Rattle.mas_free.specs.Alike.{Event, Given, Told, after, Alike, IsPlain}
use Rattle.mas_free.specs.inner.Texts.{behind_lines}
use Rattle.mas_explore_agent.specs.inner.Texts.{shown_same, shown_whole, whole_behind}
use Rattle.mas_explore_agent.specs.inner.Still.{heard, heard_none, heard_cycle, is_idle}

-- ---- what counts of an agent

-- what its next cycles come to follows from this
abbrev pub bare : Mindset → Mindset
bare m = record m { kept = heard m.parts.agenda.acting m.kept; awaits = false; cycles = 0; text = [] }

-- its next cycle
abbrev pub ran : Mindset → Input → spec.Ran
ran m i = spec.cycle (surroundings m) m.peers m.parts m.asks m.kept i

ran_bare : (m : Mindset) (i : Input) → ran (bare m) i ≡ ran m i
ran_bare m i = heard_cycle (surroundings m) m.peers m.parts m.asks m.kept i

ran_same : (m n : Mindset) (i : Input) → bare m ≡ bare n → ran m i ≡ ran n i
ran_same m n i e = sym (ran_bare m i) ∙ (ap (λ (x : Mindset). ran x i) e ∙ ran_bare n i)

-- ---- agents that are like each other

pub record IsLike (v : View) (m n : Mindset) : Type 0 where
  pub same : bare m ≡ bare n
  pub whole : are_lines m.text ≡ true
  pub other_whole : are_lines n.text ≡ true
  pub texts : viewed v m.text ≡ viewed v n.text

-- the lines of one more cycle
abbrev more : Mindset → Input → List ℕ
more m i = shown m.level (m.cycles + 1) (ran m i).lines

pub stays_whole : (m : Mindset) (i : Input) → are_lines m.text ≡ true → are_lines (m.text ++ more m i) ≡ true
stays_whole m i h = whole_behind true m.text (more m i) h (shown_whole m.level (m.cycles + 1) (ran m i).lines)

more_same : (m n : Mindset) (i : Input) → bare m ≡ bare n → unnumbered (more m i) ≡ unnumbered (more n i)
more_same m n i e =
    shown_same m.level (m.cycles + 1) (n.cycles + 1) (ran m i).lines
    ∙ (λ j. unnumbered (shown (e j).level (n.cycles + 1) (ran_same m n i e j).lines))

texts_like : (v : View) (m n : Mindset) (i : Input) → IsLike v m n → viewed v (m.text ++ more m i) ≡ viewed v (n.text ++ more n i)
texts_like Ends m n i h = refl
texts_like Lines m n i h =
    behind_lines m.text (more m i) h.whole ∙ ((λ j. h.texts j ++ more_same m n i h.same j) ∙ sym (behind_lines n.text (more n i) h.other_whole))

cycle_like : (v : View) (m n : Mindset) (i : Input) → IsLike v m n → IsLike v (agent_cycle m i).mind (agent_cycle n i).mind
cycle_like v m n i h = record {
  same = λ j. bare (after_cycle (h.same j) i (ran_same m n i h.same j)).mind;
  whole = stays_whole m i h.whole;
  other_whole = stays_whole n i h.other_whole;
  texts = texts_like v m n i h;
}

told_like : (v : View) (m n : Mindset) (f : Feedback) → IsLike v m n → IsLike v (told m f) (told n f)
told_like v m n f h = record { same = λ j. bare (told (h.same j) f); whole = h.whole; other_whole = h.other_whole; texts = h.texts }

like_after : (v : View) (events : List Event) (m n : Mindset) → IsLike v m n → IsLike v (after agent_kind m events) (after agent_kind n events)
like_after v [] m n h = h
like_after v (Given i ∷ events) m n h = like_after v events (agent_cycle m i).mind (agent_cycle n i).mind (cycle_like v m n i h)
like_after v (Told f ∷ events) m n h = like_after v events (told m f) (told n f) (told_like v m n f h)

-- ---- and so nobody can tell them apart

pub alike : (v : View) (m n : Mindset) → IsLike v m n → Alike agent_kind v m n
alike v m n h = record {
  thinks = λ events i.
      ap (λ (r : spec.Ran). r.thought) (ran_same (after agent_kind m events) (after agent_kind n events) i (like_after v events m n h).same);
  shows = λ events. (like_after v events m n h).texts;
}

-- ---- a quiet cycle

quiet_bare : (m : Mindset) (i : Input) → is_quiet (agent_cycle m i).thought ≡ true → i.message ≡ None → bare (agent_cycle m i).mind ≡ bare m
quiet_bare m i q none =
    let found = is_idle (surroundings m) m.peers m.parts m.asks m.kept i q in
    let kept : heard (ran m i).parts.agenda.acting None ≡ heard m.parts.agenda.acting m.kept
    = heard_none (ran m i).parts.agenda.acting ∙ sym found.unheard in
    λ j. record m {
      plans = plans_after m.plans m.parts.number (none j);
      parts = found.still.parts j;
      asks = found.still.number j;
      kept = kept j;
      awaits = false;
      cycles = 0;
      text = [];
    }

pub quiet_stays : (v : View) (m : Mindset) (i : Input) → IsPlain agent_kind m → is_quiet (agent_cycle m i).thought ≡ true → i.message ≡ None
    → Alike agent_kind v (agent_cycle m i).mind m
quiet_stays v m i plain q none = alike v (agent_cycle m i).mind m (record {
  same = quiet_bare m i q none;
  whole = plain.whole (Given i ∷ []);
  other_whole = plain.whole [];
  texts = ap (viewed v) (plain.silent [] i q);
})
