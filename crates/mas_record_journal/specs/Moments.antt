-- What several calls on the picked file of a disk leave.
use Rattle.std.specs.Prelude.{ℕ, ◌≡◌, ◌≤◌, ◌⊎◌, true}
use Rattle.mas_record_disk.specs.Disk.{Image, FileState, DiskState}
use Rattle.mas_record_disk.specs.Calls.{name_or_none, picked_file}

-- each image that a crash since the first of two moments might have left has P, and one that a crash since an earlier moment
-- might have left has P too, or it might have been left before
pub record LeavesOnly (P : Image → Type 0) (old new : DiskState) : Type 0 where
  pub each : (c : Image) → new.left_since old.moment (name_or_none old.picked) c → P c
  pub before : (t : ℕ) (c : Image) → t ≤ old.moment → new.left_since t (name_or_none old.picked) c
      → old.left_since t (name_or_none old.picked) c ⊎ P c

-- calls were made on the picked file, and at each moment a crash would have left an image that has P
pub record Ran (P : Image → Type 0) (old new : DiskState) : Type 0 where
  pub told : new.told ≡ old.told
  pub picked : new.picked ≡ old.picked
  pub faults : old.faults ≤ new.faults
  pub moment : old.moment ≤ new.moment
  pub leaves : old.told ≡ true → LeavesOnly P old new

-- what the picked file may be before a step is done, and after it
abbrev pub During : (FileState → FileState) → DiskState → Image → Type 0
During step s c = (picked_file s).may_leave c ⊎ (step (picked_file s)).may_leave c

-- the picked file reads so, and a crash leaves just that
pub record IsSettled (image : Image) (s : DiskState) : Type 0 where
  pub reads : s.told ≡ true → (picked_file s).reads ≡ image
  pub only : s.told ≡ true → (c : Image) → (picked_file s).may_leave c → c ≡ image
