-- No run of a project all of whose goals are covered finds an event of a goal without a relevant plan.
use Rattle.std.specs.Prelude.{◌≡◌, ◌+◌, ◌-◌, ℕ, List, [], ◌∷◌, slice_get, Option, Some, IfSome}
use Rattle.std.specs.List.{AllByRecursion}
use Rattle.asl_term.specs.declared.syntax.AgentText.{AgentText}
use Rattle.asl_plans.specs.declared.entry.OwnedPlan.{OwnedPlan}
use Rattle.asl_resolve.specs.declared.answers.Budgets.{Budgets}
use Rattle.mas_mind.specs.declared.mind.Level.{Level}
use Rattle.mas_mind.specs.declared.mind.Message.{Message}
use Rattle.mas_mind.specs.declared.mind.Thought.{Thought}
use Rattle.asl_cycle.specs.Agent.{Mindset, surroundings, agent_kind, opening_mind}
use Rattle.asl_cycle.specs.Cycle.{cycle}
use Rattle.mas_world.specs.Worlds.{World, HasFacts}
use Rattle.mas_board.specs.Boards.{input_of, opening}
use Rattle.mas_core.specs.Platform.{Platform, turn, opening_platform}
use Rattle.asl_lint.specs.Lints.{verdict}
use Rattle.asl_lint.specs.declared.lint.Verdict.TheVariants.{Yes}
use Rattle.asl_lint_laws.specs.Messages.{MessageServed}
use Rattle.asl_lint_laws.specs.Deeds.{AreOpened}
use Rattle.asl_lint_laws.specs.Cycles.{NeverIrrelevant, ThoughtServed, AgentServed}
use Rattle.asl_lint_laws.specs.Read.{IsRead}
use Rattle.mas_top_laws.specs.Read.{IsSource}

-- what holds along a list of turns, before each of them
abbrev pub Along : (Platform Mindset → ℕ → Type 0) → Platform Mindset → List ℕ → Type 0
Along P p [] = Unit {0}
Along P p (a ∷ names) = P p a × IfSome (turn agent_kind p a) (λ q. Along P q names)

-- the cycle that an agent would make now does not have the row of an event of a goal without a relevant plan
abbrev pub NeverNow : Platform Mindset → ℕ → Type 0
NeverNow p a =
    (m : Mindset) → slice_get p.minds (a - 1) ≡ Some m →
    NeverIrrelevant (cycle (surroundings m) m.peers m.parts m.asks m.kept (input_of p.board a)).lines

-- ---- the platform between turns

-- what holds of each item of a list, by its place
abbrev pub Each : {X : Type 0} → (ℕ → X → Type 0) → List X → Type 0
Each {X} P xs = (j : ℕ) → IfSome (slice_get xs j) (P j)

module _ (texts : List AgentText) (libs : List (List OwnedPlan)) where
  pub record MindServed (j : ℕ) (m : Mindset) : Type 0 where
    pub served : AgentServed texts libs m
    pub place : m.peers.me - 1 ≡ j

  abbrev pub IsAt : ℕ → Message → Type 0
  IsAt j m = (m.to - 1 ≡ j) × MessageServed libs m

  abbrev pub BoxServed : ℕ → List Message → Type 0
  BoxServed j = AllByRecursion (IsAt j)

  abbrev pub OnItsWay : ℕ → Option Thought → Type 0
  OnItsWay j o = IfSome o (ThoughtServed libs)

  -- each agent is served, and so is what lies in boxes and what thoughts send; what the world shows has no variables
  pub record PlatformServed (p : Platform Mindset) : Type 0 where
    pub world : HasFacts p.board.world
    pub minds : Each MindServed p.minds
    pub boxes : Each BoxServed p.board.boxes
    pub thoughts : Each OnItsWay p.thoughts

-- ---- the laws

-- along every list of turns
abbrev pub RunsNever : Type 0
RunsNever =
    (texts : List AgentText) (libs : List (List OwnedPlan)) (p : Platform Mindset) (names : List ℕ) → AreOpened texts libs → PlatformServed texts libs p →
    Along NeverNow p names

-- the agents of these sources, with their numbers from this one on
abbrev pub minds_from : List (List ℕ) → Budgets → Level → ℕ → List AgentText → List Mindset
minds_from names k level n [] = []
minds_from names k level n (text ∷ texts) = opening_mind n names text k level ∷ minds_from names k level (n + 1) texts

-- from the opening of a project of which lint says yes
abbrev pub LintedNever : Type 0
LintedNever =
    (names : List (List ℕ)) (texts : List AgentText) (w : World) (cycles lead : ℕ) (k : Budgets) (level : Level) (schedule : List ℕ) →
    HasFacts w → AllByRecursion IsRead texts → verdict names texts ≡ Yes →
    Along NeverNow (opening_platform (opening names w cycles lead) (minds_from names k level 1 texts)) schedule

-- so of every project whose sources were read
abbrev pub SourcesNever : Type 0
SourcesNever =
    (names : List (List ℕ)) (texts : List AgentText) (w : World) (cycles lead : ℕ) (k : Budgets) (level : Level) (schedule : List ℕ) →
    HasFacts w → AllByRecursion IsSource texts → verdict names texts ≡ Yes →
    Along NeverNow (opening_platform (opening names w cycles lead) (minds_from names k level 1 texts)) schedule
