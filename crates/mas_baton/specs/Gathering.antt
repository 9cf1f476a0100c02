-- How the seats are made at the opening, and taken in at the close.
use Rattle.std.specs.Prelude.{◌≡◌, ℕ, suc, ◌-◌, ◌<◌, true, false, List, [], ◌∷◌, ◌++◌, length}
use Rattle.crossbeam_queue.specs.Passes.{Pass, view, IsPassOf}
use Rattle.mas_board_lists.specs.Lists.{Each, Row}
use Rattle.mas_board.specs.Boards.{Noted}
use Rattle.mas_board_turns.specs.declared.view.SideView.{SideView}
use Rattle.mas_board_turns.specs.Views.{silent, bare}
use Rattle.mas_board_turns.specs.Steps.{both_of}
use Rattle.mas_baton.specs.declared.baton.Baton.{Baton}
use Rattle.mas_baton.specs.declared.seat.Seat.{Seat}
use Rattle.mas_baton.specs.Rule.{IsFresh}
use Rattle.mas_baton.specs.Seats.{known, IsSeatOf, IsNew}

-- a view that may take in others
pub record Gathers (v : SideView) : Type 0 where
  pub started : v.started ≡ true
  pub free : v.in_hand ≡ false
  pub some : 0 < length v.turns

module _ {A : Type 0} where
  -- k agents have their seats
  pub record Handing (b : Baton A) (board : Noted) (k : ℕ) (p : Pass Noted SideView) (seats : List (Seat A)) : Type 0 where
    pub pass : IsPassOf b.line p
    pub started : (view p).started ≡ true
    pub free : (view p).in_hand ≡ false
    pub left : (view p).turns ≡ silent (suc k) (length board.state.seats - k)
    pub first : (view p).first ≡ bare board
    pub fresh : IsFresh board
    pub count : length seats ≡ k
    pub made : Row (IsNew b board) 1 seats

  -- the view v, with those of the seats taken in, the last one first
  abbrev pub joined : SideView → List (Seat A) → SideView
  joined v [] = v
  joined v (s ∷ ss) = both_of (joined v ss) (known s)

  -- the last ones of these seats are taken in
  pub record Gathering (b : Baton A) (v : SideView) (all : List (Seat A)) (p : Pass Noted SideView) (left : List (Seat A)) : Type 0 where
    pub pass : IsPassOf b.line p
    pub done : List (Seat A)
    pub whole : all ≡ left ++ done
    pub is : view p ≡ joined v done
    pub seats : Each (IsSeatOf b) left
