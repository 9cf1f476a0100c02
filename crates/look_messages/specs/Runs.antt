-- What is asked of a report.
use Rattle.std.specs.Prelude.{ℕ, List}
use Rattle.mas_report.specs.declared.reading.Told.{Told}
use Rattle.mas_report.specs.Reading.{Shows}

-- the bytes tell of a run: their first two lines and their last two are those of a report
pub record TellsRun (bytes : List ℕ) : Type 0 where
  pub told : Told
  pub shows : Shows bytes told
