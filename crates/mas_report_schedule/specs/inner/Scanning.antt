-- How the code goes over the bytes of a schedule. Reading says what is read without the scan.
use Rattle.std.specs.Prelude.{ℕ, zero, suc, ◌≡◌, ◌+◌, ◌-◌, ◌*◌, nat_eq, nat_le, nat_lt, ◌&&◌, Bool, if◌then◌else◌, Option, None, Some, List, [], ◌∷◌}
use Rattle.std.specs.Option.{option_map, option_and_then}
use Rattle.mas_report_schedule.specs.declared.entry.ScheduleEntry.{ScheduleEntry}
use Rattle.mas_report_schedule.specs.declared.reading.Front.{Front}
use Rattle.mas_report_schedule.specs.declared.reading.Number.{Number}
use Rattle.mas_report_schedule.specs.declared.reading.LineFault.{LineFault}
use Rattle.mas_report_schedule.specs.declared.reading.LineFault.TheVariants.{Memory, BadLine}
use Rattle.mas_report_schedule.specs.Schedule.{entry, spread}
use Rattle.mas_report_schedule.specs.Reading.{BeginsEntered, BeginsUnentered}

-- ---- numbers

abbrev pub is_digit : ℕ → Bool
is_digit b = nat_le 48 b && nat_le b 57

-- a number with one digit more, unless it is then not from 1 to the most
abbrev pub with_digit : ℕ → ℕ → ℕ → Option ℕ
with_digit most n b = if nat_le 1 (n * 10 + (b - 48)) && nat_le (n * 10 + (b - 48)) most then Some (n * 10 + (b - 48)) else None

-- a number that has a digit
abbrev pub ended : ℕ → List ℕ → Option (ℕ × List ℕ)
ended zero behind = None
ended (suc n) behind = Some (suc n, behind)

-- the number whose digits are at the front, behind those that are read, and what is behind it
abbrev pub number_from : ℕ → ℕ → List ℕ → Option (ℕ × List ℕ)
number_from most n [] = ended n []
number_from most n (b ∷ bytes) =
    if is_digit b then option_and_then (λ m. number_from most m bytes) (with_digit most n b) else ended n (b ∷ bytes)

abbrev pub view_number : Option Number → Option (ℕ × List ℕ)
view_number o = option_map (λ f. (f.value, f.behind.now)) o

-- what is behind this byte at the front
abbrev pub behind_byte : ℕ → List ℕ → Option (List ℕ)
behind_byte byte [] = None
behind_byte byte (b ∷ bytes) = if nat_eq b byte then Some bytes else None

-- the number that a line feed ends
abbrev pub count_from : List ℕ → Option (ℕ × List ℕ)
count_from digits = option_and_then (λ f. option_map (λ rest. (f.0, rest)) (behind_byte 10 f.1)) (number_from 5000000 0 digits)

-- ---- entries

abbrev pub not_once : ℕ × List ℕ → Option (ℕ × List ℕ)
not_once f = if nat_eq f.0 1 then None else Some f

-- how often, by what is behind an `x` (120), if there is one
abbrev pub times_by : List ℕ → Option (List ℕ) → Option (ℕ × List ℕ)
times_by bytes None = Some (1, bytes)
times_by bytes (Some digits) = option_and_then not_once (number_from 5000000 0 digits)

abbrev pub times_from : List ℕ → Option (ℕ × List ℕ)
times_from bytes = times_by bytes (behind_byte 120 bytes)

-- what ends an entry, by how many numbers have to be behind it
abbrev pub stop_of : ℕ → ℕ
stop_of zero = 10
stop_of (suc left) = 32

-- an entry that stands for as many numbers as are left or for fewer, and what is behind the byte that ends it
abbrev pub ended_entry : ℕ → ℕ → ℕ × List ℕ → Option (ScheduleEntry × List ℕ)
ended_entry left agent t =
    if nat_lt left t.0 then None else option_map (λ behind. (entry agent t.0, behind)) (behind_byte (stop_of (left - t.0)) t.1)

abbrev pub entry_from : ℕ → List ℕ → Option (ScheduleEntry × List ℕ)
entry_from left bytes =
    option_and_then (λ a. option_and_then (λ t. ended_entry left a.0 t) (times_from a.1)) (number_from 65535 0 bytes)

abbrev pub view_front : Option Front → Option (ScheduleEntry × List ℕ)
view_front o = option_map (λ f. (f.entry, f.behind.now)) o

-- ---- the second line

-- the bytes are a line of entries that stand for these numbers, so many of them, and nothing else
pub record IsLine (n : ℕ) (bytes names : List ℕ) : Type 0 where
  pub entries : List ScheduleEntry
  pub begins : BeginsEntered bytes n entries []
  pub stand : spread entries ≡ names

-- they are not: no such line is at the front, or something is behind one
pub data IsNoLine (n : ℕ) (bytes : List ℕ) : ℕ → Type 0 where
  lacking : BeginsUnentered bytes n → IsNoLine n bytes 2
  exceeding : (entries : List ScheduleEntry) (b : ℕ) (behind : List ℕ) → BeginsEntered bytes n entries (b ∷ behind) → IsNoLine n bytes 3

-- why, unless memory lacked
abbrev pub IsNoLineBy : ℕ → List ℕ → LineFault → Type 0
IsNoLineBy n bytes Memory = Unit {0}
IsNoLineBy n bytes (BadLine k) = IsNoLine n bytes k

-- ---- the last two lines

-- What begins with the last two lines that a line feed ends, where what is given begins with the last two so far, with the
-- last one, and with the line in hand, of which these bytes are left.
abbrev pub last_two : List ℕ → List ℕ → List ℕ → List ℕ → List ℕ
last_two two one line [] = two
last_two two one line (b ∷ bytes) = if nat_eq b 10 then last_two one line bytes bytes else last_two two one line bytes
