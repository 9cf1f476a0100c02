-- The lines of changes as they are handed to a page.
use Rattle.std.specs.Prelude.{ℕ, ◌+◌, ◌-◌, ◌<◌, ◌≡◌, Bool, if◌then◌else◌, List, [], ◌∷◌, ◌++◌, map, length, slice_index, slice_index_or}
use Rattle.std.specs.List.{All, Contains}
use Rattle.chart_page.specs.declared.minds.ChangeSign.{ChangeSign}
use Rattle.chart_page.specs.declared.minds.MindLine.{MindLine}
use Rattle.look_lines.specs.declared.change.ChangedLine.{ChangedLine}
use Rattle.look_mind.specs.declared.changes.MindChanges.{MindChanges}

-- whose line it is, of which turn, and what stands there
pub record Row : Type 0 where
  pub agent : ℕ
  pub turn : ℕ
  pub sign : ChangeSign
  pub text : List ℕ

abbrev pub row_of : MindLine → Row
row_of m = record { agent = m.agent; turn = m.turn; sign = m.sign; text = m.text.now }

abbrev pub rows_of : List MindLine → List Row
rows_of lines = map row_of lines

-- of a line of a change
abbrev pub row_in : ℕ → ℕ → ChangedLine → Row
row_in agent turn l = record { agent = agent; turn = turn; sign = l.sign; text = l.text }

-- the rows of a change are put last
abbrev pub AddsRows : ℕ → ℕ → List ChangedLine → List Row → List Row → Type 0
AddsRows agent turn change old new = new ≡ old ++ map (row_in agent turn) change

-- each line of a change is among the rows
abbrev pub HasRows : List Row → ℕ → ℕ → List ChangedLine → Type 0
HasRows rows agent turn change = All (λ l. Contains rows (row_in agent turn l)) change

-- the change of the turn at this place; none where nothing is told of it
abbrev pub change_at : MindChanges → ℕ → List ChangedLine
change_at told t = slice_index_or told.changes t []

-- each line of the change of each turn is there, as that of the turn and of its agent. Turns are counted from 1, agents from 0
abbrev pub TellsRows : MindChanges → List Row → Type 0
TellsRows told rows = (t : ℕ) → t < length told.turns → HasRows rows (slice_index told.turns t - 1) (t + 1) (change_at told t)

-- ---- of one agent

abbrev pub with_turn : List ℕ → Bool → ℕ → List ℕ
with_turn own is_own turn = if is_own then own ++ turn ∷ [] else own

-- the numbers of the turns of the agent of this name, of the first so many
abbrev pub HasTurns : List ℕ → ℕ → ℕ → List ℕ → Type 0
HasTurns turns name n own = (t : ℕ) → t < n → slice_index turns t ≡ name → Contains own (t + 1)

-- its rows are there, and what was there before
pub record TellsAgent (told : MindChanges) (name : ℕ) (old new : List Row) : Type 0 where
  pub stay : (r : Row) → Contains old r → Contains new r
  pub own : (t : ℕ) → t < length told.turns → slice_index told.turns t ≡ name → HasRows new (name - 1) (t + 1) (change_at told t)
