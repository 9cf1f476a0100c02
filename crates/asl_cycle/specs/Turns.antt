-- The turns of intentions.
use Rattle.std.specs.Prelude.{ℕ, ◌≡◌, Bool, true, false, cond, List, [], ◌∷◌, ◌++◌, drop, Option, None, Some, Ok}
use Rattle.asl_term.specs.declared.syntax.CallOf.{CallOf}
use Rattle.asl_term.specs.declared.syntax.Expr.{Expr}
use Rattle.asl_term.specs.declared.syntax.Formula.{Formula}
use Rattle.asl_term.specs.declared.syntax.Formula.TheVariants as formula
use Rattle.asl_term.specs.declared.syntax.LiteralOf.{LiteralOf}
use Rattle.asl_term.specs.declared.syntax.Term.{Term}
use Rattle.asl_term_actions.specs.declared.action.Action.{Action}
use Rattle.asl_term_actions.specs.declared.action.Action.TheVariants as action
use Rattle.asl_term_actions.specs.declared.action.Deed.TheVariants as deed
use Rattle.asl_term_actions.specs.declared.action.LiteralDeed.{LiteralDeed}
use Rattle.asl_term_actions.specs.declared.action.LiteralDeed.TheVariants as literal_deed
use Rattle.asl_term_actions.specs.Actions.{named}
use Rattle.asl_unify.specs.Renamed.{renamed}
use Rattle.asl_unify.specs.Settling.{Settled, settle_formula}
use Rattle.asl_intend.specs.declared.entry.Means.{Means}
use Rattle.asl_intend.specs.Stacks.{has_goal, head}
use Rattle.asl_exec_circumstance.specs.Circumstance.{Surroundings, Circumstance}
use Rattle.mas_mind.specs.declared.mind.Feedback.{Feedback}
use Rattle.mas_mind.specs.declared.mind.Input.{Input}
use Rattle.mas_mind.specs.declared.mind.Message.{Message}
use Rattle.mas_mind.specs.declared.mind.Outs.{Outs}
use Rattle.mas_mind.specs.declared.mind.Thought.TheVariants as thought
use Rattle.mas_mind.specs.declared.mind.Verb.{Verb}
use Rattle.mas_mind.specs.declared.mind.Verb.TheVariants as verb
use Rattle.asl_exec_circumstance.specs.declared.peers.Peers.{Peers}
use Rattle.asl_exec_circumstance.specs.Contents.{literal_of}
use Rattle.asl_goals.specs.Sending.{term_at}
use Rattle.asl_cycle.specs.Cycle.{cycle}

-- What is left of stacks, in their order, where at most the goal of this literal is dropped or ended: none is changed or lost
-- but one with that goal.
pub data Left (named : Option (LiteralOf Term)) : List (List Means) → List (List Means) → Type 0 where
  Empty : Left named [] []
  Same : (s : List Means) (before after : List (List Means)) → Left named before after → Left named (s ∷ before) (s ∷ after)
  Changed : (g : LiteralOf Term) (s t : List Means) (before after : List (List Means)) → named ≡ Some g → has_goal g s ≡ true
      → Left named before after → Left named (s ∷ before) (t ∷ after)
  Lost : (g : LiteralOf Term) (s : List Means) (before after : List (List Means)) → named ≡ Some g → has_goal g s ≡ true
      → Left named before after → Left named (s ∷ before) after

-- ---- the goal that a message drops: the one that the verb unachieve names, renamed by the counter; others drop none

abbrev pub dropped_by_verb : Verb → Option (LiteralOf Term) → Option (LiteralOf Term)
dropped_by_verb verb.Unachieve g = g
dropped_by_verb other g = None

abbrev pub dropped_by_message : ℕ → Option Message → Option (LiteralOf Term)
dropped_by_message n None = None
dropped_by_message n (Some m) = dropped_by_verb m.verb (literal_of (renamed n m.content))

-- ---- the goal that an item drops or ends

-- the deeds that drop or end goals
abbrev pub is_ending : LiteralDeed → Bool
is_ending literal_deed.DropIntention = true
is_ending literal_deed.DropDesire = true
is_ending literal_deed.SucceedGoal = true
is_ending literal_deed.FailGoal = true
is_ending literal_deed.Intend = false
is_ending literal_deed.Desire = false
is_ending literal_deed.Abolish = false

abbrev pub ends_goals : Option Action → Bool
ends_goals (Some (action.Does (deed.OnLiteral d))) = is_ending d
ends_goals other = false

abbrev pub goal_of : Option Term → Option (LiteralOf Term)
goal_of None = None
goal_of (Some t) = literal_of t

-- the one that the first argument of such a deed names; others drop none
abbrev pub dropped_by_call : CallOf Expr → Option (LiteralOf Term)
dropped_by_call c = cond (ends_goals (named c.name)) (goal_of (term_at c.args 0)) None

abbrev pub dropped_by_settled : Settled Formula → Option (LiteralOf Term)
dropped_by_settled (Ok (formula.Inner c)) = dropped_by_call c
dropped_by_settled other = None

-- of the first formula of a stack, settled
abbrev pub dropped_by_head : Option Formula → Option (LiteralOf Term)
dropped_by_head None = None
dropped_by_head (Some f) = dropped_by_settled (settle_formula f)

-- of the first stack
abbrev pub dropped_by_first : List (List Means) → Option (LiteralOf Term)
dropped_by_first [] = None
dropped_by_first (s ∷ stacks) = dropped_by_head (head s)

-- ---- turns

-- rule: of the stacks that run, and behind them those that the cycle lets run before it selects one, those that are left wait for their
-- turn: all but what the message drops. The first of them is taken. What is left of the others then keeps its place, none doubled: all but
-- what the item of the first drops or ends. What goes back stands behind them.
pub record TakesTurns (by_message : Option (LiteralOf Term)) (before after : List (List Means)) : Type 0 where
  pub woken : List (List Means)
  pub waiting : List (List Means)
  pub wait : Left by_message (before ++ woken) waiting
  pub left : List (List Means)
  pub stay : Left (dropped_by_first waiting) (drop 1 waiting) left
  pub back : List (List Means)
  pub in_order : after ≡ left ++ back

-- rule: intentions take turns in each cycle that does not end by a spent budget: an intention that runs comes one place nearer in each
-- cycle, and makes a step before another makes its second. (The counter is the same at the message as before the cycle.)
abbrev pub CyclesTakeTurns : Type 0
CyclesTakeTurns =
    (k : Surroundings) (peers : Peers) (p : Circumstance) (asks : ℕ) (kept : Option Feedback) (i : Input) (o : Outs)
    → (cycle k peers p asks kept i).thought ≡ thought.Outs o
    → TakesTurns (dropped_by_message p.number i.message) p.agenda.running (cycle k peers p asks kept i).parts.agenda.running

-- Where no goal is dropped or ended, all stacks are left as they were.
abbrev pub NothingIsLost : Type 0
NothingIsLost = (xs ys : List (List Means)) → Left None xs ys → xs ≡ ys

-- So where no message drops a goal, and the item of the first of the stacks that wait drops or ends none, the others stay as
-- they were, in their order.
pub record OthersStay (before after : List (List Means)) : Type 0 where
  pub woken : List (List Means)
  pub back : List (List Means)
  pub in_order : dropped_by_first (before ++ woken) ≡ None → after ≡ drop 1 (before ++ woken) ++ back

abbrev pub CyclesKeepOthers : Type 0
CyclesKeepOthers =
    (k : Surroundings) (peers : Peers) (p : Circumstance) (asks : ℕ) (kept : Option Feedback) (i : Input) (o : Outs)
    → (cycle k peers p asks kept i).thought ≡ thought.Outs o → dropped_by_message p.number i.message ≡ None
    → OthersStay p.agenda.running (cycle k peers p asks kept i).parts.agenda.running
