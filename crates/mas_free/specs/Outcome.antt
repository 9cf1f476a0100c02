-- What comes of a run: the report without its options, its schedule and the numbers of cycles.
use Rattle.std.specs.Prelude.{ℕ, zero, suc, ◌+◌, ◌-◌, Bool, true, false, not, ◌&&◌, List, [], ◌∷◌, ◌++◌, length, slice_get, codes}
use Rattle.mas_mind.specs.declared.mind.End.TheVariants.{Quiet, Stopped, Cycles, Budget}
use Rattle.mas_mind.specs.Minds.{Kind}
use Rattle.mas_board.specs.declared.seats.Phase.{Phase}
use Rattle.mas_board.specs.declared.seats.Phase.TheVariants.{Idle, Busy, Left as Gone}
use Rattle.mas_board.specs.declared.seats.AgentPlace.{AgentPlace}
use Rattle.mas_board.specs.Boards.{seat_at, name_of}
use Rattle.mas_core.specs.Platform.{Platform}
use Rattle.mas_report_schedule.specs.Schedule.{line_feed}
use Rattle.mas_report.specs.Report.{agent_line, phase_word, lines_or_none, world_text, mail_text}
use Rattle.mas_free.specs.declared.view.View.{View}
use Rattle.mas_free.specs.Lines.{viewed}

-- ---- the whole

-- `end NAME E`
unfoldable pub end_line : List ℕ → Phase → List ℕ
end_line name phase = codes "end " ++ (name ++ (codes " " ++ (phase_word phase ++ line_feed)))

-- the section of an agent: its name, its lines and its end
unfoldable pub section : List ℕ → List ℕ → Phase → List ℕ
section name lines phase = agent_line name ++ (lines ++ end_line name phase)

abbrev pub section_of : {V : Type 0} → Kind V → View → Platform V → ℕ → List ℕ
section_of k v p a = section (name_of p.board a) (viewed v (lines_or_none k.lines (slice_get p.minds (a - 1)))) (seat_at p.board a).phase

-- what is said of so many agents from this number on
abbrev pub sections : (ℕ → List ℕ) → ℕ → ℕ → List ℕ
sections of a zero = []
sections of a (suc n) = of a ++ sections of (a + 1) n

-- rule: what comes of a run: the agents, the facts of the world, and the mail that nobody has read
abbrev pub outcome : {V : Type 0} → Kind V → View → Platform V → List ℕ
outcome k v p = sections (section_of k v p) 1 (length p.board.seats) ++ (world_text p.board.world ++ mail_text p.board)

-- ---- which runs have one

abbrev pub is_cut : Phase → Bool
is_cut Idle = false
is_cut Busy = false
is_cut (Gone Quiet) = false
is_cut (Gone Stopped) = false
is_cut (Gone Cycles) = true
is_cut (Gone Budget) = false

-- rule: no agent had to leave for the limit of cycles
abbrev pub uncut : List AgentPlace → Bool
uncut [] = true
uncut (seat ∷ seats) = not (is_cut seat.phase) && uncut seats
