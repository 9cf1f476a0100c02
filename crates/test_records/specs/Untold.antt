-- A disk that tells nothing, and never fails.
use Rattle.std.specs.Prelude.{ℕ, ◌≡◌, false, true, List, Option, None}
use Rattle.mas_record_disk.specs.Disk.{FileState, DiskState}

abbrev pub unknown : FileState
unknown = record { reads = None; may_leave = λ c. ⊥ }

abbrev pub untold : Option (List ℕ) → DiskState
untold picked = record { told = false; picked = picked; faults = 0; moment = 0; file = λ name. unknown; left_since = λ t name c. ⊥ }

pub not_told : false ≡ true → ⊥
not_told told = cc told
