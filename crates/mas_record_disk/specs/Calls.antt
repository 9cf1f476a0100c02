-- What each call of a disk asks for, and what it leaves.
use Rattle.std.specs.Prelude.{ℕ, ◌≡◌, ◌≢◌, ◌+◌, ◌≤◌, ◌⊎◌, Bool, true, false, is_some, List, [], length, Option, None, Some}
use Rattle.std.specs.Prelude.{Result, IsErrOf}
use Rattle.mas_io.specs.Causes.{Rose}
use Rattle.mas_record_disk.specs.Disk.{Image, bytes_of, FileState, after_make, after_sync, LeavesNoMore, DiskState}
use Rattle.mas_record_disk.specs.declared.disk.DiskFail.{DiskFail}
use Rattle.mas_record_disk.specs.declared.disk.DiskFail.TheVariants.{Failed}
use Rattle.mas_record_disk.specs.declared.disk.Picked.{Picked}
use Rattle.mas_record_disk.specs.declared.disk.Picked.TheVariants.{Ready, Missing}

abbrev pub name_or_none : Option (List ℕ) → List ℕ
name_or_none None = []
name_or_none (Some name) = name

-- the picked file
abbrev pub picked_file : DiskState → FileState
picked_file s = s.file (name_or_none s.picked)

-- its bytes
abbrev pub picked_bytes : DiskState → List ℕ
picked_bytes s = bytes_of (picked_file s).reads

-- what each call leaves: neither the count nor the moment falls, and a crash since a moment might have left what it might have
-- left before the call, or what it may leave now
pub record GoesOn (old new : DiskState) : Type 0 where
  pub told : new.told ≡ old.told
  pub faults : old.faults ≤ new.faults
  pub moment : old.moment ≤ new.moment
  pub since : (name : List ℕ) (t : ℕ) (c : Image) → t ≤ old.moment → new.left_since t name c
      → old.left_since t name c ⊎ (new.file name).may_leave c
  pub keeps : (name : List ℕ) (t : ℕ) (c : Image) → t ≤ old.moment → old.left_since t name c → new.left_since t name c

-- a file reads as it did, and a crash leaves nothing of it that it might not have left
pub record IsSameFile (old new : FileState) : Type 0 where
  pub reads : new.reads ≡ old.reads
  pub leaves : LeavesNoMore new old

-- the same of each file but the one of this name
abbrev pub SameBut : Option (List ℕ) → DiskState → DiskState → Type 0
SameBut picked old new = (name : List ℕ) → picked ≢ Some name → IsSameFile (old.file name) (new.file name)

-- Failed comes only where the count rose
abbrev pub HasCause : {T : Type 0} → DiskState → DiskState → Result T DiskFail → Type 0
HasCause old new result = IsErrOf result Failed → Rose old.faults new.faults

-- ---- picking a file

-- the file that this name has after it was picked
abbrev pub made_where_missing : Image → FileState → FileState
made_where_missing None f = after_make f
made_where_missing (Some bytes) f = f

pub record PicksReady (old new : DiskState) (name : List ℕ) (make : Bool) : Type 0 where
  pub picked : new.picked ≡ Some name
  pub there : old.told ≡ true → make ≡ false → is_some (old.file name).reads ≡ true
  pub file : old.told ≡ true → IsSameFile (made_where_missing (old.file name).reads (old.file name)) (new.file name)
  pub others : old.told ≡ true → SameBut (Some name) old new

pub record PicksNone (old new : DiskState) : Type 0 where
  pub picked : new.picked ≡ None
  pub files : old.told ≡ true → SameBut None old new

pub record PicksMissing (old new : DiskState) (name : List ℕ) (make : Bool) : Type 0 where
  pub none : PicksNone old new
  pub given : make ≡ false
  pub missing : old.told ≡ true → (old.file name).reads ≡ None

abbrev pub Picks : DiskState → DiskState → List ℕ → Bool → Picked → Type 0
Picks old new name make Ready = PicksReady old new name make
Picks old new name make Missing = PicksMissing old new name make

-- ---- calls on the picked file

-- a call after which the picked file reads as before
pub record Looks (old new : DiskState) : Type 0 where
  pub on : GoesOn old new
  pub picked : new.picked ≡ old.picked
  pub files : old.told ≡ true → SameBut None old new

-- a call that changes the picked file, and where it is refused may have done so in part; a crash leaves what this step gives
pub record Changes (old new : DiskState) (step : FileState → FileState) : Type 0 where
  pub on : GoesOn old new
  pub picked : new.picked ≡ old.picked
  pub leaves : old.told ≡ true → LeavesNoMore (picked_file new) (step (picked_file old))
  pub others : old.told ≡ true → SameBut old.picked old new

-- after a sync that succeeds a crash leaves what reads
abbrev pub IsSynced : DiskState → DiskState → Type 0
IsSynced old new = old.told ≡ true → LeavesNoMore (picked_file new) (after_sync (picked_file old))

-- the picked file reads as this step gives
abbrev pub Reads : DiskState → DiskState → (FileState → FileState) → Type 0
Reads old new step = old.told ≡ true → (picked_file new).reads ≡ (step (picked_file old)).reads

-- the place of a write is within the file, or its end
pub record IsWritable (s : DiskState) (at : ℕ) : Type 0 where
  pub picked : is_some s.picked ≡ true
  pub within : s.told ≡ true → at ≤ length (picked_bytes s)

-- the range of a read is within the file
pub record IsReadable (s : DiskState) (at n : ℕ) : Type 0 where
  pub picked : is_some s.picked ≡ true
  pub within : s.told ≡ true → at + n ≤ length (picked_bytes s)
