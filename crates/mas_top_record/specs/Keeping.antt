-- What a run that is kept comes to, and the cause of each refusal.
use Rattle.std.specs.Prelude.{ℕ, ◌≡◌, ◌≤◌, Bool, true, List, length}
use Rattle.mas_board_lists.specs.Lists.{StartsWith}
use Rattle.mas_record_disk.specs.Disk.{Image, bytes_of, DiskState}
use Rattle.mas_record_journal.specs.Journals.{Recovers}
use Rattle.mas_record_journal.specs.Kept.{most_bytes}
use Rattle.mas_mind.specs.Minds.{Kind}
use Rattle.mas_core.specs.Platform.{Platform}
use Rattle.mas_report.specs.declared.options.Options.{Options}
use Rattle.mas_report.specs.Report.{latest, IsReport}
use Rattle.mas_report_schedule.specs.Schedule.{printed}
use Rattle.mas_top_status.specs.declared.status.Reason.TheVariants as reason
use Rattle.mas_top_status.specs.declared.status.What.TheVariants as what
use Rattle.mas_top_status.specs.declared.status.Status.{Status}
use Rattle.mas_top_status.specs.declared.status.Status.TheVariants.{Missing, Refused, Limit, Memory, DiskFault}
use Rattle.mas_top_files.specs.Files.{HasFault}
use Rattle.mas_record_run.specs.declared.fault.RecordFault.{RecordFault}
use Rattle.mas_record_run.specs.declared.fault.RecordFault.TheVariants as fault
use Rattle.mas_record_run.specs.Records.{Tells, RecordCause, ResumeCause, IsCrashSafe}
use Rattle.mas_top_record.specs.declared.keep.Keeping.{Keeping}
use Rattle.mas_top_record.specs.declared.keep.Keeping.TheVariants.{Anew, On}

-- ---- what is kept

-- the file of this name told these turns, was not too long, and the schedule begins with them
pub record GoesOnFrom (name schedule : List ℕ) (old : DiskState) : Type 0 where
  pub turns : List ℕ
  pub tells : Tells old name turns
  pub short : old.told ≡ true → length (bytes_of (old.file name).reads) ≤ most_bytes
  pub begins : StartsWith schedule turns

-- a run that goes on does so from what its file told
abbrev pub IsGoneOn : Keeping → List ℕ → List ℕ → DiskState → Type 0
IsGoneOn Anew name schedule old = Unit {0}
IsGoneOn On name schedule old = GoesOnFrom name schedule old

-- where the disk tells, whatever a crash leaves of the file of this name recovers to this schedule
abbrev pub LeavesAll : List ℕ → List ℕ → DiskState → DiskState → Type 0
LeavesAll name schedule old new = old.told ≡ true → (c : Image) → (new.file name).may_leave c → Recovers schedule c

-- w is the report of a run from p, and the file of this name keeps the schedule that it prints
pub record IsKept {V : Type 0} (k : Kind V) (o : Options) (p : Platform V) (keeping : Keeping) (name : List ℕ) (old new : DiskState) (spent : Bool)
    (w : List ℕ) : Type 0 where
  pub report : IsReport k latest o p spent w
  pub gone_on : IsGoneOn keeping name (printed w) old
  pub all : LeavesAll name (printed w) old new

-- ---- why it is not

abbrev pub KeepCause : {V : Type 0} → Kind V → Platform V → Keeping → List ℕ → DiskState → DiskState → RecordFault → Type 0
KeepCause k p Anew name old new f = RecordCause old new f
KeepCause k p On name old new f = ResumeCause k p name old new f

-- the status of each fault
abbrev pub fault_status : List ℕ → RecordFault → Status
fault_status name fault.Memory = Memory
fault_status name fault.Disk = DiskFault
fault_status name fault.Missing = Missing name
fault_status name fault.NoHeader = Refused name 1 reason.Line
fault_status name fault.TooLong = Limit what.File most_bytes
fault_status name (fault.Illegal place) = Refused name place reason.Illegal

-- why the run is not kept, by the status; want of memory alone is free
abbrev pub KeepRefused : {V : Type 0} → Kind V → Platform V → Keeping → List ℕ → DiskState → DiskState → Status → Type 0
KeepRefused k p keeping name old new status = HasFault (KeepCause k p keeping name old new) (fault_status name) status

-- ---- crashes

-- a run that goes on leaves, at any moment, what a crash at its start may leave, or turns that begin with what its file told
abbrev pub IsSafe : Keeping → List ℕ → DiskState → DiskState → Type 0
IsSafe Anew name old new = Unit {0}
IsSafe On name old new = IsCrashSafe name old new

-- a call that does nothing with a disk leaves it so
abbrev pub IsUntouched : DiskState → Type 0
IsUntouched s = (keeping : Keeping) (name : List ℕ) → IsSafe keeping name s s
