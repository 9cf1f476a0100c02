-- The states that were met.
use Rattle.std.specs.Prelude.{ℕ, ◌≡◌, ◌<◌, Bool, true, false, List, length, slice_get, Option, None, Some}
use Rattle.mas_mind.specs.Minds.{Kind}
use Rattle.mas_free.specs.declared.view.View.{View}
use Rattle.mas_free.specs.Free.{Free}
use Rattle.mas_free.specs.Covers.{Start}
use Rattle.mas_explore.specs.Searches.{HasFollowed}
use Rattle.mas_explore_tables.specs.Tables.{HasEntered}
use Rattle.mas_explore_space.specs.declared.row.Row.{Row}
use Rattle.mas_explore_space.specs.declared.row.Seat.{Seat}
use Rattle.mas_explore_space.specs.declared.row.Stance.TheVariants as stance
use Rattle.mas_explore_space.specs.declared.states.Met.{Met}
use Rattle.mas_explore_space.specs.Rows.{met_of, IsSpace}

abbrev pub states_of : {V : Type 0} → Kind V → Start V → Met → List (Free V)
states_of k s m = met_of k s m.held m.rows

abbrev pub IsMet : {V : Type 0} → Kind V → Start V → Met → Type 0
IsMet k s m = IsSpace k s m.held m.rows

-- the row is one of those that were met
pub record HasKept (old new : Met) (row : Row) : Type 0 where
  pub held : new.held ≡ old.held
  pub number : ℕ
  pub entered : HasEntered old.rows new.rows row number

-- the agent's move was followed
pub record HasStepped {V : Type 0} (k : Kind V) (v : View) (s : Start V) (old new : Met) (state a : ℕ) (moved : Bool) : Type 0 where
  pub met : IsMet k s new
  pub followed : HasFollowed k v (states_of k s old) (states_of k s new) state a moved

-- each agent is idle, and has its own mind and the box of this number
pub record AreOpen (agents mail : ℕ) (seats : List Seat) : Type 0 where
  pub number : length seats ≡ agents
  pub each : (place : ℕ) → place < agents → slice_get seats place ≡ Some (record { mind = place; mail = mail; stance = stance.Idle })

-- what came of a move is one of those that were met, where there was one
abbrev pub HasKeptNext : Met → Met → Option Row → Bool → Type 0
HasKeptNext old new None moved = (new ≡ old) × (moved ≡ false)
HasKeptNext old new (Some row) moved = HasKept old new row × (moved ≡ true)
