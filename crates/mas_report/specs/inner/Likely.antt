-- The options that a line of options would have, by the numbers in it. Whether it is their line is another matter.
use Rattle.std.specs.Prelude.{ℕ, ◌+◌, ◌-◌, ◌*◌, nat_eq, nat_le, ◌&&◌, Bool, if◌then◌else◌, Option, None, Some, List, [], ◌∷◌, slice_get}
use Rattle.mas_mind.specs.declared.mind.Level.{Level}
use Rattle.mas_mind.specs.declared.mind.Level.TheVariants.{Say, Acts, Rules}
use Rattle.mas_report.specs.declared.options.Options.{Options}

abbrev pub is_digit : ℕ → Bool
is_digit b = nat_le 48 b && nat_le b 57

-- what begins with the first digit
abbrev pub from_digit : List ℕ → List ℕ
from_digit [] = []
from_digit (b ∷ bytes) = if is_digit b then b ∷ bytes else from_digit bytes

-- a number with one more digit, unless the byte is none or the number then has more than 64 bits
abbrev pub with_digit : ℕ → ℕ → Option ℕ
with_digit n b = if is_digit b && nat_le (n * 10 + (b - 48)) 18446744073709551615 then Some (n * 10 + (b - 48)) else None

-- the number whose digits are at the front, behind those that are read, and what is behind it
abbrev pub number_on : (ℕ → ℕ × List ℕ) → ℕ → List ℕ → Option ℕ → ℕ × List ℕ
number_on more n bytes None = (n, bytes)
number_on more n bytes (Some m) = more m

abbrev pub number_at : ℕ → List ℕ → ℕ × List ℕ
number_at n [] = (n, [])
number_at n (b ∷ bytes) = number_on (λ m. number_at m bytes) n (b ∷ bytes) (with_digit n b)

-- the first number, and what is behind it
abbrev pub next_number : List ℕ → ℕ × List ℕ
next_number bytes = number_at 0 (from_digit bytes)

-- by the first letter of its word, before which ` level ` stands
abbrev pub level_by : Option ℕ → Level
level_by None = Acts
level_by (Some b) = if nat_eq b 115 then Say else if nat_eq b 114 then Rules else Acts

abbrev pub likely_with : ℕ × List ℕ → ℕ × List ℕ → ℕ × List ℕ → ℕ × List ℕ → Options
likely_with cycles lead depth tries =
    record { cycles = cycles.0; lead = lead.0; depth = depth.0; tries = tries.0; level = level_by (slice_get tries.1 7) }

abbrev pub likely : List ℕ → Options
likely bytes =
    let cycles = next_number bytes in
    let lead = next_number cycles.1 in
    let depth = next_number lead.1 in
    likely_with cycles lead depth (next_number depth.1)
