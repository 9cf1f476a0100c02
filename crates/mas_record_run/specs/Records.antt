-- What is promised of a run that is recorded, and of one that goes on from what a file tells.
use Rattle.std.specs.Prelude.{◌≡◌, ℕ, ◌<◌, ◌≤◌, ◌⊎◌, true, is_some, Option, None, Some, Result, Err, List, length}
use Rattle.mas_board_lists.specs.Lists.{StartsWith}
use Rattle.mas_io.specs.Causes.{Rose}
use Rattle.mas_record_disk.specs.Disk.{Image, bytes_of, FileState, DiskState}
use Rattle.mas_record_disk.specs.Calls.{SameBut}
use Rattle.mas_record_journal.specs.Journals.{recovered_image, Recovers}
use Rattle.mas_record_journal.specs.Kept.{most_bytes}
use Rattle.mas_mind.specs.Minds.{Kind}
use Rattle.mas_board.specs.Boards.{Noted}
use Rattle.mas_core.specs.Platform.{Platform}
use Rattle.mas_core.specs.Replay.{RanAlong, follow, Stuck}
use Rattle.mas_record.specs.Rule.{RecoversWithin}
use Rattle.mas_record_run.specs.Runs.{WentOn, RecoversFrom}
use Rattle.mas_record_run.specs.declared.fault.RecordFault.{RecordFault}
use Rattle.mas_record_run.specs.declared.fault.RecordFault.TheVariants.{Memory, Disk, Missing, NoHeader, TooLong, Illegal}

-- the run along a schedule that begins with these turns, and then on to the end of every agent
pub record RanFrom {V : Type 0} (k : Kind V) (p : Platform V) (turns : List ℕ) (board : Noted) (minds : List V) : Type 0 where
  pub ran : RanAlong k p board.schedule board minds
  pub begins : StartsWith board.schedule turns

-- the cause of each fault of a run along the turns of an open journal and on from there
abbrev pub GoCause : {V : Type 0} → Kind V → Platform V → List ℕ → DiskState → DiskState → RecordFault → Type 0
GoCause k p turns old new Memory = Unit {0}
GoCause k p turns old new Disk = Rose old.faults new.faults
GoCause k p turns old new Missing = ⊥
GoCause k p turns old new NoHeader = ⊥
GoCause k p turns old new TooLong = ⊥
GoCause k p turns old new (Illegal place) = follow k p 1 turns ≡ Stuck place

-- ---- a run that came to its end

-- the file of this name is picked; at the moment of the disk between a crash would have left these turns of it, as its journal was
-- open; since then it would have left them, and maybe more of the schedule; and now it leaves the whole schedule
pub record IsKeptOn {D : Type 0} (state : D → DiskState) (name turns schedule : List ℕ) (old new : DiskState) : Type 0 where
  pub picked : new.picked ≡ Some name
  pub between : D
  pub began : WentOn old (state between)
  pub ended : WentOn (state between) new
  pub opened : old.told ≡ true → (c : Image) → ((state between).file name).may_leave c → Recovers turns c
  pub since : old.told ≡ true → (c : Image) → new.left_since (state between).moment name c → RecoversWithin turns schedule c
  pub all : old.told ≡ true → (c : Image) → (new.file name).may_leave c → Recovers schedule c

-- ---- from the beginning

abbrev pub RecordCause : DiskState → DiskState → RecordFault → Type 0
RecordCause old new Memory = Unit {0}
RecordCause old new Disk = Rose old.faults new.faults
RecordCause old new Missing = ⊥
RecordCause old new NoHeader = ⊥
RecordCause old new TooLong = ⊥
RecordCause old new (Illegal place) = ⊥

-- ---- from what a file tells

-- the file of this name tells these turns
abbrev pub Tells : DiskState → List ℕ → List ℕ → Type 0
Tells s name turns = s.told ≡ true → recovered_image (s.file name).reads ≡ Some turns

-- the run along a schedule that begins with the turns that the file told
pub record IsResumed {V D : Type 0} (k : Kind V) (p : Platform V) (state : D → DiskState) (name : List ℕ) (old new : DiskState) (board : Noted)
    (minds : List V) : Type 0 where
  pub turns : List ℕ
  pub tells : Tells old name turns
  pub short : old.told ≡ true → length (bytes_of (old.file name).reads) ≤ most_bytes
  pub ran : RanFrom k p turns board minds
  pub kept : IsKeptOn state name turns board.schedule old new

-- there is no file of this name
pub record IsMissing (name : List ℕ) (old new : DiskState) : Type 0 where
  pub missing : old.told ≡ true → (old.file name).reads ≡ None
  pub same : old.told ≡ true → SameBut None old new

-- it does not begin as a journal
pub record HasNoHeader (name : List ℕ) (old new : DiskState) : Type 0 where
  pub there : old.told ≡ true → is_some (old.file name).reads ≡ true
  pub short : old.told ≡ true → length (bytes_of (old.file name).reads) ≤ most_bytes
  pub nothing : old.told ≡ true → recovered_image (old.file name).reads ≡ None
  pub same : old.told ≡ true → SameBut None old new

pub record IsTooLong (name : List ℕ) (old new : DiskState) : Type 0 where
  pub long : old.told ≡ true → most_bytes < length (bytes_of (old.file name).reads)
  pub same : old.told ≡ true → SameBut None old new

-- at this place stands the first of its turns that is none
pub record IsIllegal {V : Type 0} (k : Kind V) (p : Platform V) (name : List ℕ) (s : DiskState) (place : ℕ) : Type 0 where
  pub turns : List ℕ
  pub tells : Tells s name turns
  pub short : s.told ≡ true → length (bytes_of (s.file name).reads) ≤ most_bytes
  pub stuck : follow k p 1 turns ≡ Stuck place

abbrev pub ResumeCause : {V : Type 0} → Kind V → Platform V → List ℕ → DiskState → DiskState → RecordFault → Type 0
ResumeCause k p name old new Memory = Unit {0}
ResumeCause k p name old new Disk = Rose old.faults new.faults
ResumeCause k p name old new Missing = IsMissing name old new
ResumeCause k p name old new NoHeader = HasNoHeader name old new
ResumeCause k p name old new TooLong = IsTooLong name old new
ResumeCause k p name old new (Illegal place) = IsIllegal k p name old place

-- ---- crashes

-- an image that recovers to turns that begin with what the file told
abbrev pub FromTold : Option (List ℕ) → Image → Type 0
FromTold None c = ⊥
FromTold (Some turns) c = RecoversFrom turns c

-- at each moment since the start of a call a crash would have left an image that it might have left at the start, or one that recovers to
-- turns that begin with those that the file of this name told then
abbrev pub IsCrashSafe : List ℕ → DiskState → DiskState → Type 0
IsCrashSafe name old new = old.told ≡ true → (c : Image) → new.left_since old.moment name c
    → (old.file name).may_leave c ⊎ FromTold (recovered_image (old.file name).reads) c
