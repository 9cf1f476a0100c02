-- The statuses with which the process ends.
use Rattle.std.specs.Prelude.{ℕ, ◌≡◌, Bool, if◌then◌else◌}
use Rattle.look_answer.specs.declared.answer.LookFault.{LookFault}
use Rattle.look_answer.specs.declared.answer.LookFault.TheVariants.{Ended, Unfit}
use Rattle.mas_top_status.specs.declared.status.Status.TheVariants.{Memory}
use Rattle.mas_top_status.specs.Statuses.{status_code}

-- where the output was written: whether something was found
abbrev pub found_code : Bool → ℕ
found_code found = if found then 1 else 0

abbrev pub fault_code : LookFault → ℕ
fault_code (Ended status) = status_code status
fault_code (Unfit line) = 10

-- what was given does not fit, or memory was wanting
abbrev pub IsUnfit : LookFault → Type 0
IsUnfit (Ended status) = status ≡ Memory
IsUnfit (Unfit line) = Unit {0}
