-- What is promised of a run that is recorded in a file, or goes on from one.
use Rattle.std.specs.Prelude.{ℕ, ◌≡◌, ◌≢◌, ◌≤◌, ◌⊎◌, Bool, true, false, List, ◌++◌, length, Option, None, Some}
use Rattle.asl_term.specs.declared.syntax.Filed.{Filed}
use Rattle.asl_cycle.specs.Agent.{agent_kind}
use Rattle.mas_core.specs.Replay.{follow, Stuck}
use Rattle.mas_io.specs.Causes.{Rose}
use Rattle.mas_io.specs.Told.{Told, IsUnwritten}
use Rattle.mas_io.specs.Writing.{Wrote, WroteSome}
use Rattle.mas_record_disk.specs.Disk.{bytes_of, DiskState}
use Rattle.mas_record_journal.specs.Journals.{recovered_image}
use Rattle.mas_record_journal.specs.Kept.{most_bytes}
use Rattle.mas_report_schedule.specs.Schedule.{printed}
use Rattle.mas_top_files.specs.declared.sources.Source.{Source}
use Rattle.mas_top_status.specs.declared.status.Status.{Status}
use Rattle.mas_top_status.specs.declared.status.Status.TheVariants.{Ok, No, Usage, Missing, ReadFault, WriteFault, Refused, Limit, Budget, Memory, DiskFault}
use Rattle.mas_top_files.specs.Known.{known}
use Rattle.mas_top_files.specs.Sources.{HasSource}
use Rattle.mas_top_status.specs.Statuses.{whole}
use Rattle.mas_record_run.specs.Runs.{WentOn}
use Rattle.mas_top_record.specs.declared.keep.Keeping.{Keeping}
use Rattle.mas_top_record.specs.declared.keep.Keeping.TheVariants.{Anew, On}
use Rattle.mas_top_record.specs.Disks.{state_of}
use Rattle.mas_top_record.specs.Keeping.{IsGoneOn, LeavesAll, IsKept, KeepRefused, IsSafe}
use Rattle.mas_top.specs.declared.recording.Recorded as code
use Rattle.mas_top.specs.Caused.{Texts, ForFiles, ForEnded}
use Rattle.mas_top_opening.specs.Opening.{Setup, opening}
use Rattle.mas_top.specs.Runs.{by_workers, Wanted, wanted, FileRefused, NoneRefused}

-- ---- what is recorded

-- the run of the project of a word by so many workers, in the file of a name
pub record Recorded : Type 0 where
  pub project : List ℕ
  pub file : List ℕ
  pub keeping : Keeping
  pub workers : ℕ

abbrev pub recorded : List ℕ → List ℕ → Keeping → ℕ → Recorded
recorded project file keeping workers = record { project = project; file = file; keeping = keeping; workers = workers }

-- what is wanted of the files of the project
abbrev pub wanted_of : Recorded → Wanted
wanted_of r = wanted r.project (by_workers r.workers)

-- ---- the disk

-- a disk before and after a call
pub record Lent : Type 1 where
  pub Disk : Type 0
  pub state : Disk → DiskState
  pub was : Option Disk
  pub now : Option Disk

abbrev pub lent : {D : Type 0} → (D → DiskState) → Option D → Option D → Lent
lent {D} state was now = record { Disk = D; state = state; was = was; now = now }

abbrev pub before_of : Lent → DiskState
before_of l = state_of l.state l.was

abbrev pub after_of : Lent → DiskState
after_of l = state_of l.state l.now

-- nothing was done with it
abbrev pub IsLeft : Lent → Type 0
IsLeft l = l.now ≡ l.was

-- a resumed run leaves, at any moment, what a crash at its start may leave, or turns that begin with what the file told
abbrev pub IsSafelyLeft : Lent → Recorded → Type 0
IsSafelyLeft l r = IsSafe r.keeping r.file (before_of l) (after_of l)

-- it tells as it did, and neither its count of faults nor its moment fell
abbrev pub HasGoneOn : Lent → Type 0
HasGoneOn l = WentOn (before_of l) (after_of l)

-- ---- the cause of each status

-- w is the report of a run of what is given, and the file keeps its schedule
abbrev pub IsRecordedReport : Lent → Setup → Recorded → Texts
IsRecordedReport l u r spent g w = IsKept agent_kind u.options (opening u g.source) r.keeping r.file (before_of l) (after_of l) spent w

-- a file of the project is refused, before the disk was touched
pub record ProjectRefused (l : Lent) (u : Setup) (r : Recorded) (held : Option (List Filed)) (before after : ℕ) (status : Status) : Type 0 where
  pub why : FileRefused u held (wanted_of r) before after status
  pub left : IsLeft l

-- the source is described, and the file is refused from which its run is to go on
pub record JournalRefused (l : Lent) (u : Setup) (r : Recorded) (held : Option (List Filed)) (status : Status) : Type 0 where
  pub source : Source
  pub has : HasSource (known u.objects) u.options.cycles held r.project source
  pub why : KeepRefused agent_kind (opening u source) r.keeping r.file (before_of l) (after_of l) status

abbrev pub RecordRefused : Lent → Setup → Recorded → Option (List Filed) → ℕ → ℕ → Status → Type 0
RecordRefused l u r held before after status = ProjectRefused l u r held before after status ⊎ JournalRefused l u r held status

-- why there is no report: want of memory, a fault of the disk, or a file that is refused
abbrev pub AnswerRefused : Lent → Setup → Recorded → Option (List Filed) → ℕ → ℕ → Status → Type 0
AnswerRefused l u r held before after Memory = Unit {0}
AnswerRefused l u r held before after DiskFault = Rose (before_of l).faults (after_of l).faults
AnswerRefused l u r held before after status = RecordRefused l u r held before after status

pub record IsRefusedRecord (l : Lent) (u : Setup) (r : Recorded) (before after : Told) (status : Status) : Type 0 where
  pub why : RecordRefused l u r before.held before.shelf_faults after.shelf_faults status
  pub unwritten : IsUnwritten before after

-- the disk failed
pub record IsFaultyDisk (l : Lent) (before after : Told) : Type 0 where
  pub rose : Rose (before_of l).faults (after_of l).faults
  pub unwritten : IsUnwritten before after

-- want of memory alone is free
abbrev pub RecordCaused : Lent → Setup → Recorded → Told → Told → Status → Type 0
RecordCaused l u r before after Ok = Wrote (ForFiles (IsRecordedReport l u r) u before.held (wanted_of r) false) before after
RecordCaused l u r before after No = ⊥
RecordCaused l u r before after Usage = ⊥
RecordCaused l u r before after (Missing lacked) = IsRefusedRecord l u r before after (Missing lacked)
RecordCaused l u r before after ReadFault = IsRefusedRecord l u r before after ReadFault
RecordCaused l u r before after WriteFault = WroteSome (ForEnded (IsRecordedReport l u r) u before.held (wanted_of r)) before after
RecordCaused l u r before after (Refused file place why) = IsRefusedRecord l u r before after (Refused file place why)
RecordCaused l u r before after (Limit quantity count) = IsRefusedRecord l u r before after (Limit quantity count)
RecordCaused l u r before after Budget = Wrote (ForFiles (IsRecordedReport l u r) u before.held (wanted_of r) true) before after
RecordCaused l u r before after Memory = IsUnwritten before after
RecordCaused l u r before after DiskFault = IsFaultyDisk l before after

-- ---- what follows, where the sink tells what was written

-- where the disk tells, whatever a crash leaves of the file now recovers to this schedule, which begins with what the file told
-- where the run went on from it
pub record KeepsSchedule (l : Lent) (r : Recorded) (schedule : List ℕ) : Type 0 where
  pub all : LeavesAll r.file schedule (before_of l) (after_of l)
  pub gone_on : IsGoneOn r.keeping r.file schedule (before_of l)

-- where a report was written whole, it is so of the schedule that it prints
abbrev pub KeepsPrinted : Lent → Recorded → Told → Told → Status → Type 0
KeepsPrinted l r before after status =
    (spent : Bool) (old text : List ℕ) → status ≡ whole spent → before.written ≡ Some old → after.written ≡ Some (old ++ text) →
    KeepsSchedule l r (printed text)

-- ---- completeness

-- the disk tells a journal whose turns are those of a run of the project, or the run begins anew
pub record IsJournalOf (l : Lent) (u : Setup) (r : Recorded) (files : List Filed) : Type 0 where
  pub told : (before_of l).told ≡ true
  pub short : length (bytes_of ((before_of l).file r.file).reads) ≤ most_bytes
  pub recovers : recovered_image ((before_of l).file r.file).reads ≢ None
  pub legal : (source : Source) (turns : List ℕ) (place : ℕ) → HasSource (known u.objects) u.options.cycles (Some files) r.project source →
      recovered_image ((before_of l).file r.file).reads ≡ Some turns → follow agent_kind (opening u source) 1 turns ≢ Stuck place

abbrev pub CanGoOn : Lent → Setup → Recorded → Keeping → List Filed → Type 0
CanGoOn l u r Anew files = Unit {0}
CanGoOn l u r On files = IsJournalOf l u r files

-- where the shelf tells files none of which is refused, the run can go on from the file if it is to, and no count of faults rises,
-- the report was written whole, by Ok or Budget, or the status is Memory
abbrev pub IsRecordComplete : Lent → Setup → Recorded → Told → Told → Status → Type 0
IsRecordComplete l u r before after status =
    (files : List Filed) → before.held ≡ Some files → NoneRefused u files (wanted_of r) → CanGoOn l u r r.keeping files →
    (Rose before.shelf_faults after.shelf_faults → ⊥) → (Rose before.sink_faults after.sink_faults → ⊥) →
    (Rose (before_of l).faults (after_of l).faults → ⊥) → ((spent : Bool) × (status ≡ whole spent)) ⊎ (status ≡ Memory)

-- ---- how the code asks for it

abbrev pub recorded_of : code.Recorded → Recorded
recorded_of r = recorded r.project.now r.file.now r.keeping r.workers
