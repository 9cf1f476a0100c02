-- The shared board: what it holds, and what each turn of an agent answers and leaves. Agents are numbered from 1.
use Rattle.std.specs.Prelude.{ℕ, ◌≡◌, ◌+◌, ◌-◌, ◌≤◌, ◌⊎◌, min, nat_eq, nat_le, Bool, true, false, not, ◌&&◌, ◌||◌, if◌then◌else◌}
use Rattle.std.specs.Prelude.{List, [], ◌∷◌, ◌++◌, drop, length, replicate, slice_get, slice_set, Option, None, Some}
use Rattle.asl_term.specs.declared.syntax.LiteralOf.{LiteralOf}
use Rattle.asl_term.specs.declared.syntax.Term.{Term}
use Rattle.asl_term.specs.Names.{name_at}
use Rattle.mas_mind.specs.declared.mind.Message.{Message}
use Rattle.mas_mind.specs.declared.mind.Input.{Input}
use Rattle.mas_mind.specs.declared.mind.Outs.{Outs}
use Rattle.mas_mind.specs.declared.mind.End.{End}
use Rattle.mas_mind.specs.declared.mind.End.TheVariants.{Quiet, Stopped, Cycles, Budget}
use Rattle.mas_mind.specs.declared.mind.Feedback.{Feedback}
use Rattle.mas_mind.specs.declared.mind.Feedback.TheVariants.{Done, Failed}
use Rattle.mas_world.specs.Worlds.{World, acted}
use Rattle.mas_world.specs.Seen.{seen}
use Rattle.mas_board.specs.declared.seats.Phase.{Phase}
use Rattle.mas_board.specs.declared.seats.Phase.TheVariants.{Idle, Busy, Left as Gone}
use Rattle.mas_board.specs.declared.seats.AgentPlace.{AgentPlace}
use Rattle.mas_board.specs.declared.seats.Sensed.{Sensed}
use Rattle.mas_board.specs.declared.seats.Sensed.TheVariants.{Input as Given, Left, Ahead}

-- the agents' names, which no turn changes, the world, a box of unread mail for each agent, the version, the mark that
-- stops the run, the limits of cycles and lead, and a seat for each agent
pub record State : Type 0 where
  pub names : List (List ℕ)
  pub world : World
  pub boxes : List (List Message)
  pub version : ℕ
  pub stop : Bool
  pub cycles : ℕ
  pub lead : ℕ
  pub seats : List AgentPlace

-- the state, the numbers of the agents that made its turns, in order, and whether the board was halted
pub record Noted : Type 0 where
  pub state : State
  pub schedule : List ℕ
  pub halted : Bool

-- ---- what stands at an agent

-- a seat at which nothing has happened
abbrev pub no_seat : AgentPlace
no_seat = record { phase = Idle; cycle = 0; mark = None; kept = 0 }

abbrev pub seat_or_none : Option AgentPlace → AgentPlace
seat_or_none None = no_seat
seat_or_none (Some seat) = seat

abbrev pub seat_of : List AgentPlace → ℕ → AgentPlace
seat_of seats a = seat_or_none (slice_get seats (a - 1))

abbrev pub seat_at : State → ℕ → AgentPlace
seat_at s a = seat_of s.seats a

abbrev pub box_or_none : Option (List Message) → List Message
box_or_none None = []
box_or_none (Some box) = box

abbrev pub box_of : List (List Message) → ℕ → List Message
box_of boxes a = box_or_none (slice_get boxes (a - 1))

abbrev pub name_or_none : Option (List ℕ) → List ℕ
name_or_none None = []
name_or_none (Some name) = name

abbrev pub name_of : State → ℕ → List ℕ
name_of s a = name_or_none (name_at s.names a)

abbrev pub with_seat : State → ℕ → AgentPlace → State
with_seat s a seat = record s { seats = slice_set s.seats (a - 1) seat }

-- ---- the tests of the turns

abbrev pub is_gone : Phase → Bool
is_gone Idle = false
is_gone Busy = false
is_gone (Gone end) = true

abbrev pub is_mark : Option ℕ → ℕ → Bool
is_mark None version = false
is_mark (Some mark) version = nat_eq mark version

abbrev pub is_empty : List Message → Bool
is_empty [] = true
is_empty (m ∷ more) = false

-- an agent has left, or has this version as its mark and an empty box
abbrev pub rests : ℕ → AgentPlace → List Message → Bool
rests version seat box = is_gone seat.phase || (is_mark seat.mark version && is_empty box)

-- every agent that has not left has this version as its mark and an empty box
abbrev pub are_quiet : ℕ → List AgentPlace → List (List Message) → Bool
are_quiet version [] boxes = true
are_quiet version (seat ∷ seats) [] = true
are_quiet version (seat ∷ seats) (box ∷ boxes) = rests version seat box && are_quiet version seats boxes

-- rule: every agent that has not left has the present version as its mark and an empty box
abbrev pub all_quiet : State → Bool
all_quiet s = are_quiet s.version s.seats s.boxes

-- the lesser of this cycle number and that of the agent, where it has not left
abbrev pub lower : ℕ → AgentPlace → ℕ
lower n seat = if is_gone seat.phase then n else min n seat.cycle

-- the least of this cycle number and those of the agents that have not left
abbrev pub least : ℕ → List AgentPlace → ℕ
least n [] = n
least n (seat ∷ seats) = least (lower n seat) seats

-- the least cycle number of the agents that have not left, of which this is one
abbrev pub least_cycle : State → ℕ → ℕ
least_cycle s a = least (seat_at s a).cycle s.seats

-- the agent has left, or its cycle number is not below this one
abbrev pub NotBelow : ℕ → AgentPlace → Type 0
NotBelow c seat = (is_gone seat.phase ≡ true) ⊎ (c ≤ seat.cycle)

-- the agent has made as many cycles as there may be
abbrev pub is_at_limit : State → ℕ → Bool
is_at_limit s a = nat_eq (seat_at s a).cycle s.cycles

-- rule: the agent is at least as many cycles ahead of another that has not left as it may be
abbrev pub is_ahead : State → ℕ → Bool
is_ahead s a = nat_le (s.lead + least_cycle s a) (seat_at s a).cycle

-- ---- the turn of an idle agent

-- the agent leaves with this end
abbrev pub left_by : State → ℕ → End → State
left_by s a end = with_seat s a (record (seat_at s a) { phase = Gone end })

abbrev pub left_cycles : State → ℕ → Sensed × State
left_cycles s a = (Left Cycles, left_by s a Cycles)

abbrev pub left_stopped : State → ℕ → Sensed × State
left_stopped s a = (Left Stopped, left_by s a Stopped)

abbrev pub left_quiet : State → ℕ → Sensed × State
left_quiet s a = (Left Quiet, left_by s a Quiet)

abbrev pub ahead : State → ℕ → Sensed × State
ahead s a = (Ahead (seat_at s a).cycle (least_cycle s a), s)

-- the oldest message of a box, and the box without it
abbrev pub oldest : List Message → Option Message
oldest box = slice_get box 0

abbrev pub later : List Message → List Message
later box = drop 1 box

-- what the agent sees, and its oldest message
abbrev pub input_of : State → ℕ → Input
input_of s a = record { percepts = seen s.world (name_of s a); message = oldest (box_of s.boxes a) }

-- rule: the message leaves the box; the cycle number rises by one, the mark is cleared, and the present version is kept
abbrev pub begun : State → ℕ → State
begun s a = record s {
  boxes = slice_set s.boxes (a - 1) (later (box_of s.boxes a));
  seats = slice_set s.seats (a - 1) (record { phase = Busy; cycle = (seat_at s a).cycle + 1; mark = None; kept = s.version });
}

abbrev pub given : State → ℕ → Sensed × State
given s a = (Given (input_of s a), begun s a)

-- rule: a Sense, by the first that applies: the limit of cycles, the stop mark, all are quiet, too far ahead; else the input is given
abbrev pub sense : State → ℕ → Sensed × State
sense s a =
    if is_at_limit s a then left_cycles s a
    else if s.stop then left_stopped s a
    else if all_quiet s then left_quiet s a
    else if is_ahead s a then ahead s a
    else given s a

-- ---- the turn of a busy agent

-- the action is done, where there is one
abbrev pub acted_as : World → List ℕ → Option (LiteralOf Term) → Option Feedback × World
acted_as world agent None = (None, world)
acted_as world agent (Some action) = (Some (acted world agent action).0, (acted world agent action).1)

-- a message goes last into the box of its receiver
abbrev pub put_last : List (List Message) → Message → List (List Message)
put_last boxes m = slice_set boxes (m.to - 1) (box_of boxes m.to ++ m ∷ [])

abbrev pub posted : List (List Message) → List Message → List (List Message)
posted boxes [] = boxes
posted boxes (m ∷ more) = posted (put_last boxes m) more

abbrev pub is_done : Option Feedback → Bool
is_done None = false
is_done (Some Failed) = false
is_done (Some Done) = true

-- rule: the version rises by one exactly where the action was done or a message was put
abbrev pub version_after : ℕ → Option Feedback → List Message → ℕ
version_after version feedback messages = if is_done feedback || not (is_empty messages) then version + 1 else version

-- rule: the agent is idle again; where the outs are quiet its mark is the version of its Sense
abbrev pub rested : AgentPlace → Bool → AgentPlace
rested seat quiet = record { phase = Idle; cycle = seat.cycle; mark = if quiet then Some seat.kept else None; kept = seat.kept }

-- the messages are put in order, and stop sets the mark
abbrev pub emitted : State → ℕ → Outs → Option Feedback × World → Option Feedback × State
emitted s a outs after = (
  after.0,
  record s {
    world = after.1;
    boxes = posted s.boxes outs.messages;
    version = version_after s.version after.0 outs.messages;
    stop = s.stop || outs.stop;
    seats = slice_set s.seats (a - 1) (rested (seat_at s a) outs.quiet);
  },
)

-- rule: an Emit: the action is done, where there is one, and the messages are put in order
abbrev pub emit : State → ℕ → Outs → Option Feedback × State
emit s a outs = emitted s a outs (acted_as s.world (name_of s a) outs.action)

-- what is left of outs that were carried out
abbrev pub no_outs : Outs
no_outs = record { action = None; messages = []; stop = false; quiet = false }

-- rule: a Leave, after a cycle that a spent search ended
abbrev pub leave : State → ℕ → State
leave s a = left_by s a Budget

-- ---- the start

-- rule: every agent is idle at cycle 0, without a mark and mail, and the version is 0
abbrev pub opening : List (List ℕ) → World → ℕ → ℕ → State
opening names world cycles lead = record {
  names = names;
  world = world;
  boxes = replicate (length names) [];
  version = 0;
  stop = false;
  cycles = cycles;
  lead = lead;
  seats = replicate (length names) no_seat;
}
