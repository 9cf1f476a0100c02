-- What is written of an agent's part of a platform.
use Rattle.std.specs.Prelude.{ℕ, ◌-◌, nat_le, if◌then◌else◌, List, [], ◌++◌, length, slice_get, Option, Some, None, codes, decimal}
use Rattle.mas_mind.specs.Minds.{Kind}
use Rattle.mas_world.specs.Seen.{seen}
use Rattle.mas_board.specs.declared.seats.Phase.{Phase}
use Rattle.mas_board.specs.declared.seats.Phase.TheVariants.{Idle, Busy, Left as Gone}
use Rattle.mas_board.specs.declared.seats.AgentPlace.{AgentPlace}
use Rattle.mas_board.specs.Boards.{box_of, seat_at}
use Rattle.mas_core.specs.Platform.{Platform, thought_at}
use Rattle.mas_report.specs.Report.{end_word}
use Rattle.look_lines.specs.Lines.{last_text, literal_line, part}
use Rattle.look_lines.specs.Outs.{thought_text, unread_line}

-- who is looked at, and after how many turns of how many
pub record Asked : Type 0 where
  pub name : List ℕ
  pub number : ℕ
  pub turn : ℕ
  pub turns : ℕ

abbrev pub asked : List ℕ → ℕ → ℕ → ℕ → Asked
asked name number turn turns = record { name = name; number = number; turn = turn; turns = turns }

abbrev pub phase_text : Phase → List ℕ
phase_text Idle = codes "idle"
phase_text Busy = codes "busy"
phase_text (Gone end) = codes "left " ++ end_word end

-- `mind AGENT turn T of N`

unfoldable pub turn_text : ℕ → ℕ → List ℕ
turn_text t n = codes " turn " ++ (decimal t ++ (codes " of " ++ (decimal n ++ codes "\n")))

unfoldable pub who_text : List ℕ → ℕ → ℕ → List ℕ
who_text name t n = codes "mind " ++ (name ++ turn_text t n)

-- `cycle C` and `phase P`
unfoldable pub seat_text : AgentPlace → List ℕ
seat_text seat = codes "cycle " ++ (decimal seat.cycle ++ (codes "\nphase " ++ (phase_text seat.phase ++ codes "\n")))

-- beside the mind: what it has thought, its unread messages, and what it sees
unfoldable pub around_text : {V : Type 0} → Platform V → List ℕ → ℕ → List ℕ
around_text p name a =
    thought_text p.board.names (thought_at p.thoughts a)
    ++ (part (codes "mail") (unread_line p.board.names) (box_of p.board.boxes a) ++ part (codes "sees") literal_line (seen p.board.world name))

-- all of it, with this mind, of which `parts` is the text among the names of all agents
unfoldable pub view_text : {V : Type 0} → Kind V → (List (List ℕ) → V → List ℕ) → Platform V → Asked → V → List ℕ
view_text k parts p q m =
    who_text q.name q.turn q.turns
    ++ (seat_text (seat_at p.board q.number) ++ (parts p.board.names m ++ (around_text p q.name q.number ++ last_text (k.lines m))))

abbrev pub of_mind : {V : Type 0} → (V → List ℕ) → Option V → List ℕ
of_mind text None = []
of_mind text (Some m) = text m

-- nothing of a number without a seat
abbrev pub view : {V : Type 0} → Kind V → (List (List ℕ) → V → List ℕ) → Platform V → Asked → List ℕ
view k parts p q = if nat_le q.number (length p.board.seats) then of_mind (view_text k parts p q) (slice_get p.minds (q.number - 1)) else []
