-- Outcomes of rows: the sections of agents.
use Rattle.std.specs.Prelude.{ℕ, ◌≡◌, List, ◌++◌, length, slice_get, Some}
use Rattle.asl_term.specs.Names.{name_at}
use Rattle.mas_mind.specs.declared.mind.End.TheVariants.{Quiet}
use Rattle.mas_mind.specs.Minds.{Kind}
use Rattle.mas_board.specs.declared.seats.Phase.{Phase}
use Rattle.mas_board.specs.declared.seats.Phase.TheVariants as phase
use Rattle.mas_board.specs.Boards.{name_or_none}
use Rattle.mas_free.specs.declared.view.View.{View}
use Rattle.mas_free.specs.Lines.{viewed}
use Rattle.mas_free.specs.Outcome.{section, section_of, sections}
use Rattle.mas_free.specs.Free.{Free, at_end}
use Rattle.mas_free.specs.Covers.{Start}
use Rattle.mas_explore_space.specs.declared.held.Held.{Held}
use Rattle.mas_explore_space.specs.declared.row.Seat.{Seat}
use Rattle.mas_explore_space.specs.declared.row.Stance.{Stance}
use Rattle.mas_explore_space.specs.declared.row.Stance.TheVariants as stance
use Rattle.mas_explore_space.specs.Held.{minds_of}

-- how the part of an agent ends in a state at rest
abbrev pub phase_of : Stance → Phase
phase_of stance.Idle = phase.Left Quiet
phase_of (stance.Busy t) = phase.Busy
phase_of stance.Spent = phase.Busy
phase_of (stance.Left end) = phase.Left end

-- the section of the agent of this seat was appended
pub record HasSection {V : Type 0} (k : Kind V) (s : Start V) (h : Held) (v : View) (a : ℕ) (seat : Seat) (old new : List ℕ) : Type 0 where
  pub mind : V
  pub mind_at : slice_get (minds_of k s h) seat.mind ≡ Some mind
  pub text : new ≡ old ++ section (name_or_none (name_at s.names a)) (viewed v (k.lines mind)) (phase_of seat.stance)

-- the sections of all agents
abbrev pub agents_text : {V : Type 0} → Kind V → View → Free V → List ℕ
agents_text k v f = sections (section_of k v (at_end f)) 1 (length f.stages)
