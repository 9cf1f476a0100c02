-- What is written of a recorded run.
use Rattle.std.specs.Prelude.{◌≡◌, ℕ, ◌≤◌, ◌⊎◌, true, Result, Ok, Err, List, length}
use Rattle.mas_board_lists.specs.Lists.{StartsWith}
use Rattle.mas_record_disk.specs.Disk.{bytes_of, DiskState}
use Rattle.mas_record_journal.specs.Kept.{most_bytes}
use Rattle.mas_mind.specs.Minds.{Kind}
use Rattle.mas_core.specs.declared.robin.Done.{Done}
use Rattle.mas_report.specs.declared.options.Options.{Options}
use Rattle.mas_report.specs.Report.{latest, is_spent, report_text}
use Rattle.mas_report_schedule.specs.Schedule.{AllFromOne, printed}
use Rattle.mas_record_run.specs.declared.fault.RecordFault.{RecordFault}
use Rattle.mas_record_run.specs.declared.fault.RecordFault.TheVariants.{Memory}
use Rattle.mas_record_run.specs.Records.{Tells, IsKeptOn}
use Rattle.mas_report.specs.declared.output.Output.{Output}

-- it is the report of this run that is done
pub record IsReportOf {V A : Type 0} (k : Kind V) (o : Options) (done : Done V A) (w : Output) : Type 0 where
  pub spent : w.spent ≡ is_spent done.board.state.seats
  pub text : w.text ≡ report_text k.lines latest o done.board.state done.minds done.board.schedule
  pub prints : AllFromOne 65535 done.board.schedule → printed w.text ≡ done.board.schedule

abbrev pub IsTold : {V A : Type 0} → Kind V → Options → Result (Done V A) RecordFault → Output → Type 0
IsTold k o (Ok done) w = IsReportOf k o done w
IsTold k o (Err f) w = ⊥

-- the fault of the run, or want of memory for its report
abbrev pub IsFault : {T : Type 0} → Result T RecordFault → RecordFault → Type 0
IsFault (Ok done) f = f ≡ Memory
IsFault (Err g) f = f ≡ g

-- the schedule begins with the turns that the file of this name told, which is kept as a whole run is
pub record GoesOn {D : Type 0} (state : D → DiskState) (name schedule : List ℕ) (old new : DiskState) : Type 0 where
  pub turns : List ℕ
  pub tells : Tells old name turns
  pub short : old.told ≡ true → length (bytes_of (old.file name).reads) ≤ most_bytes
  pub begins : StartsWith schedule turns
  pub kept : IsKeptOn state name turns schedule old new
