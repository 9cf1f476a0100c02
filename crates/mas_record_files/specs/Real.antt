-- A disk that tells nothing.
use Rattle.std.specs.Prelude.{ℕ, ◌≡◌, false, true, List, Option, None, Result, IsErrOf}
use Rattle.mas_io.specs.Causes.{Rose}
use Rattle.mas_record_disk.specs.Disk.{FileState, DiskState}
use Rattle.mas_record_disk.specs.declared.disk.DiskFail.{DiskFail}
use Rattle.mas_record_disk.specs.declared.disk.DiskFail.TheVariants.{Failed}

abbrev pub unknown : FileState
unknown = record { reads = None; may_leave = λ c. ⊥ }

abbrev pub untold : Option (List ℕ) → ℕ → DiskState
untold picked faults = record { told = false; picked = picked; faults = faults; moment = 0; file = λ name. unknown; left_since = λ t name c. ⊥ }

pub not_told : false ≡ true → ⊥
not_told told = cc told

-- a failure was counted
abbrev pub IsCounted : {T : Type 0} → ℕ → ℕ → Result T DiskFail → Type 0
IsCounted before after result = IsErrOf result Failed → Rose before after
