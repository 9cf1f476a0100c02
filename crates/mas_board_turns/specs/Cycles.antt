-- An agent between two of its turns, and what a cycle asks of it, over any meaning V of minds.
use Rattle.std.specs.Prelude.{ℕ, ◌≡◌, ◌+◌, ◌<◌, ◌≤◌, false, List, ◌++◌, length}
use Rattle.mas_mind.specs.Limits.{most_cycles}
use Rattle.mas_mind.specs.declared.mind.Input.{Input}
use Rattle.mas_mind.specs.declared.mind.Thought.{Thought}
use Rattle.mas_mind.specs.Minds.{Kind, AreLawful, asks_feedback}
use Rattle.mas_board.specs.declared.seats.Phase.{Phase}
use Rattle.mas_board.specs.declared.seats.Phase.TheVariants.{Busy}
use Rattle.mas_board.specs.Boards.{Noted}
use Rattle.mas_board.specs.Seating.{IsInputFor}
use Rattle.mas_board_turns.specs.declared.turn.Turn.{Turn}
use Rattle.mas_board_turns.specs.Follows.{Thinking, thinking, Follows}

-- an agent: its number, and that of its right to make turns; the board of the opening; the phase to which its turns have led; the
-- cycles that it has begun; and its mind
pub record Standing (V : Type 0) : Type 0 where
  pub number : ℕ
  pub right : ℕ
  pub board : Noted
  pub phase : Phase
  pub cycles : ℕ
  pub mind : V

-- a mind and its thought after one more cycle
abbrev pub cycled : {V : Type 0} → Kind V → V → Input → Thinking V
cycled k m input = thinking (k.cycle m input).mind (k.cycle m input).thought

module _ {V : Type 0} where
  -- its right and its mind are this agent's, on a board that permits so many cycles
  pub record Belongs (k : Kind V) (a : Standing V) : Type 0 where
    pub right : a.right ≡ a.number
    pub me : k.me a.mind ≡ a.number
    pub agents : k.agents a.mind ≡ length a.board.state.seats
    pub limit : a.board.state.cycles ≤ most_cycles

  -- it was given this input, on which its mind has to think
  pub record IsAsked (k : Kind V) (input : Input) (a : Standing V) : Type 0 where
    pub belongs : Belongs k a
    pub busy : a.phase ≡ Busy
    pub made : k.made a.mind + 1 ≡ a.cycles
    pub awaits : k.awaits a.mind ≡ false
    pub short : k.made a.mind < most_cycles
    pub input_for : IsInputFor (k.agents a.mind) (k.me a.mind) input

  -- its mind has thought so, and the turn of that thought is to come
  pub record HasThought (k : Kind V) (thought : Thought) (a : Standing V) : Type 0 where
    pub belongs : Belongs k a
    pub busy : a.phase ≡ Busy
    pub made : k.made a.mind ≡ a.cycles
    pub awaits : k.awaits a.mind ≡ asks_feedback thought
    pub lawful : AreLawful a.right (length a.board.state.seats) thought

  -- to its old turns some more came, through which the mind went from there on, and came to be so
  pub record Went (k : Kind V) (start : Thinking V) (old new : List Turn) (end : Thinking V) : Type 0 where
    pub more : List Turn
    pub turns : new ≡ old ++ more
    pub follows : Follows k start more end
