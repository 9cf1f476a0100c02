-- What is known of a disk beside how it was at a moment of the past.
use Rattle.std.specs.Prelude.{ℕ, ◌≤◌, ◌⊎◌, false, List, None}
use Rattle.mas_record_disk.specs.Disk.{Image, DiskState}

-- what stands where nothing is known
abbrev pub no_past : DiskState
no_past = record {
  told = false;
  picked = None;
  faults = 0;
  moment = 0;
  file = λ name. record { reads = None; may_leave = λ c. Unit {0} };
  left_since = λ t name c. Unit {0};
}

-- a disk came on from how it was at some moment: what a crash since an earlier moment might have left, it might have left until then,
-- or since then
pub record CameFrom (old new : DiskState) : Type 0 where
  pub later : old.moment ≤ new.moment
  pub since : (t : ℕ) (name : List ℕ) (c : Image) → t ≤ old.moment → new.left_since t name c → old.left_since t name c ⊎ new.left_since old.moment name c

-- what a crash may leave now it may leave since any earlier moment
abbrev pub IsCounted : DiskState → Type 0
IsCounted s = (t : ℕ) (name : List ℕ) (c : Image) → t ≤ s.moment → (s.file name).may_leave c → s.left_since t name c

-- a crash since this moment leaves only what a crash may leave now
abbrev pub IsOnlyNow : DiskState → Type 0
IsOnlyNow s = (name : List ℕ) (c : Image) → s.left_since s.moment name c → (s.file name).may_leave c
