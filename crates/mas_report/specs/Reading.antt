-- What a report tells of its run: the version in its first line, the options in its second, and the schedule in its last two.
use Rattle.std.specs.Prelude.{ℕ, ◌≡◌, ◌<◌, ◌^◌, List, ◌++◌}
use Rattle.mas_report.specs.declared.options.Options.{Options}
use Rattle.mas_report.specs.declared.reading.Told.{Told}
use Rattle.mas_report.specs.Report.{first_line, options_line}
use Rattle.mas_report_schedule.specs.Schedule.{IsVersion, printed}
use Rattle.mas_report_schedule.specs.Reading.{EndsIn}

-- the bytes begin with the first line of this version, and this is behind it
pub record BeginsVersioned (bytes : List ℕ) (version : ℕ) (rest : List ℕ) : Type 0 where
  pub known : IsVersion version
  pub is : bytes ≡ first_line version ++ rest

-- no version has the line at the front
abbrev pub NoVersion : List ℕ → Type 0
NoVersion bytes = (version : ℕ) (rest : List ℕ) → BeginsVersioned bytes version rest → ⊥

-- each number of the options is one of 64 bits
pub record AreWords (o : Options) : Type 0 where
  pub cycles : o.cycles < 2 ^ 64
  pub lead : o.lead < 2 ^ 64
  pub depth : o.depth < 2 ^ 64
  pub tries : o.tries < 2 ^ 64

-- the bytes begin with the line of these options, and this is behind it
pub record BeginsWith (bytes : List ℕ) (o : Options) (rest : List ℕ) : Type 0 where
  pub words : AreWords o
  pub is : bytes ≡ options_line o ++ rest

-- no options have the line at the front
abbrev pub NoOptions : List ℕ → Type 0
NoOptions bytes = (o : Options) (rest : List ℕ) → BeginsWith bytes o rest → ⊥

-- behind a first line: the line of these options is at the front, and the last two lines are the schedule of these turns
pub record Tells (behind : List ℕ) (o : Options) (turns : List ℕ) : Type 0 where
  pub rest : List ℕ
  pub options : BeginsWith behind o rest
  pub schedule : EndsIn rest turns

-- no line of options is at the front, or the last two lines behind it are no schedule
abbrev pub TellsNothing : List ℕ → Type 0
TellsNothing behind = (o : Options) (turns : List ℕ) → Tells behind o turns → ⊥

-- rule: the bytes tell this: the version in their first line, the options in their second, the turns in their last two
pub record Shows (bytes : List ℕ) (t : Told) : Type 0 where
  pub behind : List ℕ
  pub first : BeginsVersioned bytes t.version behind
  pub tells : Tells behind t.options t.turns

-- they tell nothing
abbrev pub ShowsNothing : List ℕ → Type 0
ShowsNothing bytes = (t : Told) → Shows bytes t → ⊥

-- ---- laws

-- bytes tell of one run at most
abbrev pub OneShown : Type 0
OneShown = (bytes : List ℕ) (t u : Told) → Shows bytes t → Shows bytes u → t ≡ u

-- its turns are the numbers for which the last line of the bytes stands
abbrev pub ShownPrinted : Type 0
ShownPrinted = (bytes : List ℕ) (t : Told) → Shows bytes t → printed bytes ≡ t.turns
