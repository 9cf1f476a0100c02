-- Numbers in words.
use Rattle.std.specs.Prelude.{ℕ, ◌+◌, ◌*◌, ◌-◌, ◌&&◌, Bool, false, List, [], ◌∷◌, length, nat_le, if◌then◌else◌, Option, None, Some}

-- the bytes from `0` (48) to `9` (57)
abbrev pub is_digit : ℕ → Bool
is_digit b = nat_le 48 b && nat_le b 57

-- the number that digits spell behind others, where all are digits
abbrev pub digits_from : ℕ → List ℕ → Option ℕ
digits_from v [] = Some v
digits_from v (d ∷ ds) = if is_digit d then digits_from (v * 10 + (d - 48)) ds else None

abbrev pub starts_number : List ℕ → Bool
starts_number [] = false
starts_number (d ∷ ds) = nat_le 49 d

abbrev pub within : ℕ → ℕ → Option ℕ → Option ℕ
within low high None = None
within low high (Some n) = if nat_le low n && nat_le n high then Some n else None

-- one to eight decimal digits, the first not 0, whose number is from the one bound to the other
abbrev pub number_in : ℕ → ℕ → List ℕ → Option ℕ
number_in low high text = if starts_number text && nat_le (length text) 8 then within low high (digits_from 0 text) else None
