-- What a run that is kept comes to, by its status.
use Rattle.std.proofs.Common.{◌≡◌, ℕ, inl, List, [], Option, None, Some, Result, Ok, Err, IfOk, IfErr}
use Rattle.std.specs.Prelude.{MatchResult}
use Rattle.mas_record_disk.specs.Disk.{Image, DiskState}
use Rattle.mas_mind.specs.Minds.{Kind}
use Rattle.mas_core.specs.Platform.{Platform}
use Rattle.mas_report.specs.declared.options.Options.{Options}
use Rattle.mas_report.specs.Report.{latest, IsReport}
use Rattle.mas_report_schedule.specs.Schedule.{printed}
use Rattle.mas_top_status.specs.declared.status.Status.{Status}
use Rattle.mas_top_status.specs.declared.status.Status.TheVariants.{Memory}
use Rattle.mas_record_run.specs.declared.fault.RecordFault.{RecordFault}
use Rattle.mas_record_run.specs.declared.fault.RecordFault.TheVariants as fault
use Rattle.mas_record_run.specs.Records.{IsKeptOn, RecordCause, ResumeCause}
use Rattle.mas_report.specs.declared.output.Output.{Output}
use Rattle.mas_top_record.specs.Recordings.{GoesOn}
use Rattle.mas_top_record.specs.declared.keep.Keeping.{Keeping}
use Rattle.mas_top_record.specs.declared.keep.Keeping.TheVariants.{Anew, On}
use Rattle.mas_top_record.specs.Disks.{state_of}
use Rattle.mas_top_record.specs.Keeping.{IsKept, KeepCause, KeepRefused, fault_status, IsUntouched}

module _ {V : Type 0} (k : Kind V) (p : Platform V) (name : List ℕ) (old new : DiskState) where
  -- where memory lacked
  pub starved : (keeping : Keeping) (status : Status) → status ≡ Memory → KeepRefused k p keeping name old new status
  starved Anew status e = record { why = fault.Memory; is = tt; status_is = e }
  starved On status e = record { why = fault.Memory; is = tt; status_is = e }

  -- the status of a fault that has its cause
  pub refused_by : (keeping : Keeping) (f : RecordFault) (status : Status) → KeepCause k p keeping name old new f → status ≡ fault_status name f →
      KeepRefused k p keeping name old new status
  refused_by keeping f status h e = record { why = f; is = h; status_is = e }

-- ---- what is kept

module _ {V D : Type 0} (k : Kind V) (o : Options) (p : Platform V) (state : D → DiskState) (name : List ℕ) (old new : DiskState) where
  pub kept_anew : (answer : Result Output RecordFault) → IfOk answer (λ w. IsReport k latest o p w.spent w.text) →
      IfOk answer (λ w. IsKeptOn state name [] (printed w.text) old new) → IfErr answer (RecordCause old new) →
      MatchResult answer (λ w. IsKept k o p Anew name old new w.spent w.text) (KeepCause k p Anew name old new)
  kept_anew (Ok w) r t e = record { report = r; gone_on = tt; all = t.all }
  kept_anew (Err f) r t e = e

  pub kept_on : (answer : Result Output RecordFault) → IfOk answer (λ w. IsReport k latest o p w.spent w.text) →
      IfOk answer (λ w. GoesOn state name (printed w.text) old new) → IfErr answer (ResumeCause k p name old new) →
      MatchResult answer (λ w. IsKept k o p On name old new w.spent w.text) (KeepCause k p On name old new)
  kept_on (Ok w) r t e = record { report = r; gone_on = record { turns = t.turns; tells = t.tells; short = t.short; begins = t.begins }; all = t.kept.all }
  kept_on (Err f) r t e = e

-- ---- a disk with which nothing is done

abbrev Only : {D : Type 0} → (D → DiskState) → Type 0
Only {D} state = (d : D) (name : List ℕ) (c : Image) → (state d).left_since (state d).moment name c → ((state d).file name).may_leave c

left_safe : (s : DiskState) → ((name : List ℕ) (c : Image) → s.left_since s.moment name c → (s.file name).may_leave c) → IsUntouched s
left_safe s only Anew name = tt
left_safe s only On name = λ told c left. inl (only name c left)

pub untouched : {D : Type 0} (state : D → DiskState) (only : Only state) (disk : Option D) → IsUntouched (state_of state disk)
untouched state only None = left_safe (state_of state None) (λ name c left. left)
untouched state only (Some d) = left_safe (state d) (only d)
