-- The free machine: what the agents of a platform do, over any meaning V of minds, without all that serves schedules alone: no version, no marks, no numbers of
-- cycles, no limits. A quiet cycle is no move, and a cycle of which nothing has to be carried out is one move.
use Rattle.std.specs.Prelude.{ℕ, ◌≡◌, ◌-◌, Bool, false, not, ◌&&◌, ◌||◌, if◌then◌else◌, is_some}
use Rattle.std.specs.Prelude.{List, [], ◌∷◌, length, replicate, map, slice_get, slice_set, Option, None, Some}
use Rattle.asl_term.specs.Names.{name_at}
use Rattle.mas_mind.specs.declared.mind.Message.{Message}
use Rattle.mas_mind.specs.declared.mind.Input.{Input}
use Rattle.mas_mind.specs.declared.mind.Outs.{Outs}
use Rattle.mas_mind.specs.declared.mind.Feedback.{Feedback}
use Rattle.mas_mind.specs.declared.mind.End.{End}
use Rattle.mas_mind.specs.declared.mind.End.TheVariants.{Quiet, Stopped, Budget}
use Rattle.mas_mind.specs.declared.mind.Thought.{Thought}
use Rattle.mas_mind.specs.declared.mind.Thought.TheVariants as thought
use Rattle.mas_mind.specs.Minds.{Cycled, Kind, is_quiet}
use Rattle.mas_world.specs.Worlds.{World}
use Rattle.mas_world.specs.Seen.{seen}
use Rattle.mas_board.specs.declared.seats.Phase.{Phase}
use Rattle.mas_board.specs.declared.seats.Phase.TheVariants as phase
use Rattle.mas_board.specs.declared.seats.AgentPlace.{AgentPlace}
use Rattle.mas_board.specs.Boards.{State, no_seat, name_or_none, box_of, oldest, later, is_empty, acted_as, posted}
use Rattle.mas_core.specs.Platform.{Platform, is_agent, tell}

-- what an agent does next: a cycle; it carries out outs, in which there is something; it leaves, since its budget was spent; nothing, since it has left
pub data Stage : Type 0 where
  Idle : Stage
  Busy : Outs → Stage
  Spent : Stage
  Left : End → Stage

-- the agents' names, which no move changes, the world, a box of unread mail for each agent, the mark that stops the run, and of each agent its mind and
-- its stage
pub record Free (V : Type 0) : Type 0 where
  pub names : List (List ℕ)
  pub world : World
  pub boxes : List (List Message)
  pub stop : Bool
  pub minds : List V
  pub stages : List Stage

abbrev pub staged : {V : Type 0} → Free V → ℕ → Stage → Free V
staged f a stage = record f { stages = slice_set f.stages (a - 1) stage }

abbrev pub own_name : {V : Type 0} → Free V → ℕ → List ℕ
own_name f a = name_or_none (name_at f.names a)

-- ---- the move of an idle agent

-- what the agent sees, and its oldest message
abbrev pub input_for : {V : Type 0} → Free V → ℕ → Input
input_for f a = record { percepts = seen f.world (own_name f a); message = oldest (box_of f.boxes a) }

-- there is nothing in these outs
abbrev pub carry_nothing : Outs → Bool
carry_nothing outs = not (is_some outs.action) && (is_empty outs.messages && not outs.stop)

-- outs with nothing in them are carried out at once
abbrev pub stage_after : Thought → Stage
stage_after (thought.Outs outs) = if carry_nothing outs then Idle else Busy outs
stage_after thought.Spent = Spent

-- the message leaves the box
abbrev pub thought_by : {V : Type 0} → Free V → ℕ → Cycled V → Free V
thought_by f a c = record f {
  boxes = slice_set f.boxes (a - 1) (later (box_of f.boxes a));
  minds = slice_set f.minds (a - 1) c.mind;
  stages = slice_set f.stages (a - 1) (stage_after c.thought);
}

-- a quiet cycle without a message is no move
abbrev pub is_nothing : Input → Thought → Bool
is_nothing input t = is_quiet t && not (is_some input.message)

abbrev pub cycled : {V : Type 0} → Free V → ℕ → Input → Cycled V → Option (Free V)
cycled f a input c = if is_nothing input c.thought then None else Some (thought_by f a c)

abbrev pub think : {V : Type 0} → Kind V → Free V → ℕ → Option V → Option (Free V)
think k f a None = None
think k f a (Some m) = cycled f a (input_for f a) (k.cycle m (input_for f a))

-- ---- the move of a busy agent

-- the action is done, where there is one, and the mind is told; the messages are put in order; stop sets the mark
abbrev pub carried : {V : Type 0} → Kind V → Free V → ℕ → Outs → Option Feedback × World → Free V
carried k f a outs after = record f {
  world = after.1;
  boxes = posted f.boxes outs.messages;
  stop = f.stop || outs.stop;
  minds = tell k f.minds a (slice_get f.minds (a - 1)) after.0;
  stages = slice_set f.stages (a - 1) Idle;
}

-- ---- moves and walks

abbrev pub move_in : {V : Type 0} → Kind V → Free V → ℕ → Option Stage → Option (Free V)
move_in k f a None = None
move_in k f a (Some Idle) = if f.stop then Some (staged f a (Left Stopped)) else think k f a (slice_get f.minds (a - 1))
move_in k f a (Some (Busy outs)) = Some (carried k f a outs (acted_as f.world (own_name f a) outs.action))
move_in k f a (Some Spent) = Some (staged f a (Left Budget))
move_in k f a (Some (Left end)) = None

-- the move of the agent of this number, where it has one
abbrev pub move : {V : Type 0} → Kind V → Free V → ℕ → Option (Free V)
move k f a = if is_agent (length f.stages) a then move_in k f a (slice_get f.stages (a - 1)) else None

abbrev pub and_walk : {V : Type 0} → (Free V → Option (Free V)) → Option (Free V) → Option (Free V)
and_walk on None = None
and_walk on (Some f) = on f

-- the moves of these agents, one after another
abbrev pub walk : {V : Type 0} → Kind V → Free V → List ℕ → Option (Free V)
walk k f [] = Some f
walk k f (a ∷ names) = and_walk (λ g. walk k g names) (move k f a)

-- no agent has a move
abbrev pub AtRest : {V : Type 0} → Kind V → Free V → Type 0
AtRest k f = (a : ℕ) → move k f a ≡ None

-- ---- the first state, and what an end is

-- every agent is idle, without mail
abbrev pub opening : {V : Type 0} → List (List ℕ) → World → List V → Free V
opening names world minds = record {
  names = names;
  world = world;
  boxes = replicate (length names) [];
  stop = false;
  minds = minds;
  stages = replicate (length names) Idle;
}

-- at rest those that are idle leave, all being quiet
abbrev pub phase_at_end : Stage → Phase
phase_at_end Idle = phase.Left Quiet
phase_at_end (Busy outs) = phase.Busy
phase_at_end Spent = phase.Busy
phase_at_end (Left end) = phase.Left end

abbrev pub seat_at_end : Stage → AgentPlace
seat_at_end stage = record no_seat { phase = phase_at_end stage }

-- the platform that this leaves
abbrev pub board_at_end : {V : Type 0} → Free V → State
board_at_end f =
    record { names = f.names; world = f.world; boxes = f.boxes; version = 0; stop = f.stop; cycles = 0; lead = 0; seats = map seat_at_end f.stages }

abbrev pub at_end : {V : Type 0} → Free V → Platform V
at_end f = record { board = board_at_end f; minds = f.minds; thoughts = [] }
