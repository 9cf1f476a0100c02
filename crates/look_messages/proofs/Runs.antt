-- What is asked of a report.
use Rattle.std.proofs.Common.{ℕ, List}
use Rattle.mas_report.specs.declared.reading.Told.{Told}
use Rattle.mas_report.specs.Reading.{Shows}
use Rattle.look_messages.specs.Runs.{TellsRun}

pub tells : (bytes : List ℕ) (t : Told) → Shows bytes t → TellsRun bytes
tells bytes t h = record { told = t; shows = h }
