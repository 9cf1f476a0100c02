-- An agent on its way: how it rests between two cycles, what one cycle makes of it, and what it may become.
use Rattle.std.specs.Prelude.{◌≡◌, ◌≢◌, Bool, MatchBool, true, false, List, ◌++◌}
use Rattle.mas_mind.specs.declared.mind.Input.{Input}
use Rattle.mas_mind.specs.declared.mind.Thought.{Thought}
use Rattle.mas_mind.specs.Minds.{Kind}
use Rattle.mas_board.specs.declared.seats.Phase.TheVariants.{Idle, Busy}
use Rattle.mas_board.specs.Boards.{is_gone}
use Rattle.mas_board_turns.specs.declared.turn.Turn.{Turn}
use Rattle.mas_board_turns.specs.Turns.{cycles_in}
use Rattle.mas_board_turns.specs.Follows.{Thinking, resting, Follows}
use Rattle.mas_board_turns.specs.Cycles.{Standing, Belongs, IsAsked, HasThought, Went}
use Rattle.mas_baton.specs.declared.baton.Baton.{Baton}
use Rattle.mas_baton.specs.declared.seat.Seat.{Seat}
use Rattle.mas_baton.specs.Seats.{turns_of, first_of, left_halted, phase_of, IsSeatOf}
use Rattle.mas_pool_task.specs.declared.going.Going.{Going}

module _ {V A : Type 0} where
  -- ---- how an agent stands

  -- what its seat and its mind are, on the board with which the seat was opened
  abbrev pub standing : Going V A → Standing V
  standing g = record {
    number = g.number;
    right = g.seat.number;
    board = first_of g.seat;
    phase = phase_of g.seat;
    cycles = cycles_in (turns_of g.seat);
    mind = g.mind;
  }

  -- it is idle; its mind has made the cycles of its turns, and awaits nothing
  pub record Rests (k : Kind V) (g : Going V A) : Type 0 where
    pub belongs : Belongs k (standing g)
    pub idle : phase_of g.seat ≡ Idle
    pub made : k.made g.mind ≡ cycles_in (turns_of g.seat)
    pub count : g.cycle ≡ k.made g.mind
    pub awaits : k.awaits g.mind ≡ false

  -- it was given this input, and counts its cycles as its mind does
  pub record GoingIsAsked (k : Kind V) (input : Input) (g : Going V A) : Type 0 where
    pub asked : IsAsked k input (standing g)
    pub count : g.cycle ≡ k.made g.mind

  -- its mind has thought so, and it counts its cycles as its mind does
  pub record GoingHasThought (k : Kind V) (thought : Thought) (g : Going V A) : Type 0 where
    pub thinks : HasThought k thought (standing g)
    pub count : g.cycle ≡ k.made g.mind

  -- ---- what becomes of an agent

  -- it is the same agent, of the same board and baton
  pub record Same (g h : Going V A) : Type 0 where
    pub number : h.number ≡ g.number
    pub first : first_of h.seat ≡ first_of g.seat
    pub seat : (b : Baton A) → IsSeatOf b g.seat → IsSeatOf b h.seat

  -- the board was halted as it gave it back: it had met it so, or has halted it
  abbrev pub HasHalted : Going V A → Type 0
  HasHalted g = left_halted g.seat ≡ true

  -- some more turns were made, through which the mind went from there on; and the agent rests again
  pub record GoingWent (k : Kind V) (start : Thinking V) (g h : Going V A) : Type 0 where
    pub same : Same g h
    pub rests : Rests k h
    pub way : Went k start (turns_of g.seat) (turns_of h.seat) (resting h.mind)

  -- some more turns were made, through which the mind went unless the agent is still busy; and the agent has left, or there
  -- was a halt
  pub record Stopped (k : Kind V) (start : Thinking V) (g h : Going V A) : Type 0 where
    pub same : Same g h
    pub seat : h.seat.number ≡ h.number
    pub more : List Turn
    pub turns : turns_of h.seat ≡ turns_of g.seat ++ more
    pub follows : phase_of h.seat ≢ Busy → Follows k start more (resting h.mind)
    pub ends : is_gone (phase_of h.seat) ≡ false → HasHalted h

  -- it goes on, or it has stopped
  abbrev pub GoesOn : Bool → Kind V → Thinking V → Going V A → Going V A → Type 0
  GoesOn goes k start g h = MatchBool goes (GoingWent k start g h) (Stopped k start g h)

  -- what an agent may become between two cycles: its mind went through all turns of its seat
  pub record Became (k : Kind V) (g h : Going V A) : Type 0 where
    pub same : Same g h
    pub rests : Rests k h
    pub follows : Follows k (resting g.mind) (turns_of h.seat) (resting h.mind)

  -- what an agent may be in the end: its mind went through all turns of its seat unless the agent is still busy; and the
  -- agent has left, or there was a halt
  pub record Ended (k : Kind V) (g h : Going V A) : Type 0 where
    pub same : Same g h
    pub seat : h.seat.number ≡ h.number
    pub follows : phase_of h.seat ≢ Busy → Follows k (resting g.mind) (turns_of h.seat) (resting h.mind)
    pub ends : is_gone (phase_of h.seat) ≡ false → HasHalted h
