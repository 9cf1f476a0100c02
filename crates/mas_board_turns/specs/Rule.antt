-- The rule that ties what lies in the queue to what the agents know.
use Rattle.std.specs.Prelude.{◌≡◌, ℕ, ◌+◌, ◌<◌, true, if◌then◌else◌, ◌⊎◌, Option, List, [], ◌∷◌, ◌++◌, length}
use Rattle.mas_board_lists.specs.Lists.{StartsWith, Each, Every, total, times, once_in}
use Rattle.mas_board.specs.Boards.{State, Noted}
use Rattle.mas_board_turns.specs.declared.turn.Turn.{Turn}
use Rattle.mas_board_turns.specs.Turns.{Entry, Plays, names, of}
use Rattle.mas_board_turns.specs.declared.view.SideView.{SideView}
use Rattle.mas_board_turns.specs.Views.{Opening, numbers}
use Rattle.mas_board_turns.specs.Steps.{blank, took, Made, Stands}

-- of what lies in the queue: its board, and what else is always kept of it, beside how it stood at the opening
pub record Showing (X : Type 0) : Type 1 where
  pub board : X → Noted
  pub keeps : Opening → X → Type 0

-- the schedule of the opening, and then the turns of the log
abbrev pub order : Opening → List Entry → List ℕ
order first log = first.board.schedule ++ names log

-- of an agent and its turns: they are those of the log, and what was seen has the agent as often as the schedule
abbrev pub Knows : Opening → List Entry → List ℕ → (ℕ × List Turn) → Type 0
Knows first log seen e = (of e.0 log ≡ e.1) × (times e.0 seen ≡ times e.0 (order first log))

-- a view, beside the opening, the present board, and the log that leads from the one to the other
pub record Fits (first : Opening) (board : State) (log : List Entry) (v : SideView) : Type 0 where
  pub running : v.started ≡ true
  pub begins : 0 < length v.turns → v.first ≡ first
  pub mine : Each (Knows first log v.seen) v.turns
  pub sees : StartsWith (order first log) v.seen
  pub olds : Each (StartsWith (order first log)) v.olds
  pub holds : v.in_hand ≡ true → (v.met.state ≡ board) × (v.met.schedule ≡ order first log) × (0 < length v.turns)

abbrev pub hand : SideView → ℕ
hand v = if v.in_hand then 1 else 0

module _ {X : Type 0} where
  -- what lies in the queue: its board, the halt flag aside, and what is kept of it
  pub record Lies (s : Showing X) (first : Opening) (board : State) (log : List Entry) (x : X) : Type 0 where
    pub is : (s.board x).state ≡ board
    pub scheduled : (s.board x).schedule ≡ order first log
    pub kept : s.keeps first x

  -- there is one log, which leads from the first board to the present one, in the order of its schedule after the opening
  pub record Playing (s : Showing X) (items : List X) (views : List SideView) : Type 0 where
    pub first : Opening
    pub board : State
    pub log : List Entry
    pub plays : Plays first.board.state log board
    -- each agent stands in exactly one view
    pub agents : (a : ℕ) → total (λ (v : SideView). times a (numbers v.turns)) views ≡ once_in a 1 (length first.board.state.seats)
    -- the board lies in the queue, or one view has it in hand
    pub hands : total hand views + length items ≡ 1
    pub lies : Each (Lies s first board log) items
    pub fits : Every (Fits first board log) views

  -- either the board has not come yet
  abbrev pub Holds : Showing X → List X → List SideView → Type 0
  Holds s items views = ((items ≡ []) × (views ≡ blank ∷ [])) ⊎ Playing s items views

  -- what a taking tells: the board that was met goes on from what was seen, and each agent of the view stands where its turns
  -- have led it; no turn of it stands in the schedule behind what was seen
  pub record Taken (s : Showing X) (v : SideView) (x : X) (w : SideView) : Type 0 where
    pub is : w ≡ took v (s.board x)
    pub sees : StartsWith (s.board x).schedule v.seen
    pub stands : Each (Stands v.first.board.state (s.board x).state) v.turns
    pub latest : Each (λ (e : ℕ × List Turn). times e.0 (s.board x).schedule ≡ times e.0 v.seen) v.turns
    pub kept : s.keeps v.first x

  -- what a giving back asks for: what was made of the board that was met, and what is kept
  pub record MayGive (s : Showing X) (made : Option Turn) (a : ℕ) (v : SideView) (x : X) : Type 0 where
    pub makes : Made made v.met a (s.board x)
    pub kept : s.keeps v.first x

  -- what a view with every agent is told at the end: there is one log, which leads from the first board to this one, in the
  -- order of its schedule after the opening, and which has the view's turns of each agent; and what is kept
  pub record Told (s : Showing X) (v : SideView) (x : X) : Type 0 where
    pub log : List Entry
    pub plays : Plays v.first.board.state log (s.board x).state
    pub scheduled : order v.first log ≡ (s.board x).schedule
    pub mine : Each (λ (e : ℕ × List Turn). of e.0 log ≡ e.1) v.turns
    pub sees : StartsWith (s.board x).schedule v.seen
    pub olds : Each (StartsWith (s.board x).schedule) v.olds
    pub kept : s.keeps v.first x
