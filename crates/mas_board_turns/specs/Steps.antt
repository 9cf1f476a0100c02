-- What each step makes of a view.
use Rattle.std.specs.Prelude.{◌≡◌, ℕ, ◌+◌, Bool, true, false, Option, None, Some, is_some, List, [], ◌∷◌, ◌++◌, length, drop, take}
use Rattle.mas_board_lists.specs.Lists.{longer, times, once_in}
use Rattle.mas_board.specs.Boards.{State, Noted, seat_at}
use Rattle.mas_board.specs.Seating.{IsAt}
use Rattle.mas_board_turns.specs.declared.turn.Turn.{Turn}
use Rattle.mas_board_turns.specs.Turns.{Makes, phase_after, cycles_in, mark_after}
use Rattle.mas_board_turns.specs.declared.view.SideView.{SideView}
use Rattle.mas_board_turns.specs.Views.{Turns, Opening, numbers, silent, noted, no_board, no_opening}

-- the view of a queue that has no board yet
abbrev pub blank : SideView
blank = record { started = false; in_hand = false; turns = []; seen = []; olds = []; met = no_board; halted = false; first = no_opening }

-- the board came
abbrev pub opened : Opening → SideView
opened o = record {
  started = true;
  in_hand = false;
  turns = silent 1 (length o.board.state.seats);
  seen = o.board.schedule;
  olds = [];
  met = o.board;
  halted = o.board.halted;
  first = o;
}

-- the board was taken
abbrev pub took : SideView → Noted → SideView
took v x = record { started = v.started; in_hand = true; turns = v.turns; seen = v.seen; olds = v.olds; met = x; halted = v.halted; first = v.first }

-- the board was given back, with a turn or without one
abbrev pub gave : Option Turn → SideView → Noted → SideView
gave made v x = record {
  started = v.started;
  in_hand = false;
  turns = noted made v.turns;
  seen = x.schedule;
  olds = v.olds;
  met = v.met;
  halted = x.halted;
  first = v.first;
}

-- one agent goes to a new view
abbrev pub rest_of : SideView → SideView
rest_of v =
    record {
      started = v.started;
      in_hand = v.in_hand;
      turns = drop 1 v.turns;
      seen = v.seen;
      olds = v.olds;
      met = v.met;
      halted = v.halted;
      first = v.first;
    }

abbrev pub one_of : SideView → SideView
one_of v =
    record {
      started = v.started;
      in_hand = v.in_hand;
      turns = take 1 v.turns;
      seen = v.seen;
      olds = v.olds;
      met = v.met;
      halted = v.halted;
      first = v.first;
    }

-- one view takes in another, which is spent
abbrev pub both_of : SideView → SideView → SideView
both_of v w = record {
  started = v.started;
  in_hand = v.in_hand;
  turns = v.turns ++ w.turns;
  seen = longer v.seen w.seen;
  olds = v.seen ∷ w.seen ∷ (v.olds ++ w.olds);
  met = v.met;
  halted = v.halted;
  first = v.first;
}

abbrev pub spent : SideView
spent = record { started = true; in_hand = false; turns = []; seen = []; olds = []; met = no_board; halted = false; first = no_opening }

-- the turns of the first agent
abbrev pub of_first : Turns → List Turn
of_first [] = []
of_first (e ∷ es) = e.1

-- the view of a side with one agent, and whether it has the board in hand
pub record Sits (a : ℕ) (hand : Bool) (v : SideView) : Type 0 where
  pub started : v.started ≡ true
  pub held : v.in_hand ≡ hand
  pub turns : v.turns ≡ (a, of_first v.turns) ∷ []

-- what the agent made of the board: a turn, which is noted, or nothing
abbrev pub Made : Option Turn → Noted → ℕ → Noted → Type 0
Made None old a new = (new.state ≡ old.state) × (new.schedule ≡ old.schedule)
Made (Some turn) old a new = Makes old.state a turn new.state × (new.schedule ≡ old.schedule ++ a ∷ [])

-- an agent stands on this board where its turns have led it from where it stood on the first one, and it has a mark where they
-- have left one
pub record Stands (first board : State) (e : ℕ × List Turn) : Type 0 where
  pub at : IsAt board e.0 (phase_after (seat_at first e.0).phase e.1)
  pub cycle : (seat_at board e.0).cycle ≡ (seat_at first e.0).cycle + cycles_in e.1
  pub marked : is_some (seat_at board e.0).mark ≡ mark_after (is_some (seat_at first e.0).mark) e.1
  pub agents : length board.seats ≡ length first.seats
  pub limit : board.cycles ≡ first.cycles

-- this view has every agent
abbrev pub IsWhole : SideView → Type 0
IsWhole v = (a : ℕ) → times a (numbers v.turns) ≡ once_in a 1 (length v.first.board.state.seats)
