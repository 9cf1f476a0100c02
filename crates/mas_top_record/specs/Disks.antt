-- A disk that is lent to a call, and comes back.
use Rattle.std.specs.Prelude.{◌≡◌, false, Option, None, Some}
use Rattle.mas_record_disk.specs.Disk.{DiskState}

-- of a disk that is not there nothing is told
abbrev pub no_disk : DiskState
no_disk = record {
  told = false;
  picked = None;
  faults = 0;
  moment = 0;
  file = λ name. record { reads = None; may_leave = λ c. ⊥ };
  left_since = λ moment name c. ⊥;
}

abbrev pub state_of : {D : Type 0} → (D → DiskState) → Option D → DiskState
state_of state None = no_disk
state_of state (Some disk) = state disk

-- it is there, and no file of it is picked
abbrev pub IsFree : {D : Type 0} → (D → DiskState) → Option D → Type 0
IsFree state None = ⊥
IsFree state (Some disk) = (state disk).picked ≡ None
