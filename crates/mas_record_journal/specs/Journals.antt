-- The file of a journal, and the turns that it tells, whatever a crash made of it.
use Rattle.std.specs.Prelude.{ℕ, ◌≡◌, ◌⊎◌, Bool, ◌+◌, ◌*◌, ◌/◌, ◌%◌, ◌==◌, if◌then◌else◌, codes}
use Rattle.std.specs.Prelude.{List, [], ◌∷◌, ◌++◌, take, drop, Option, None, Some}
use Rattle.std.specs.Str.{bytes_eq}
use Rattle.mas_record_disk.specs.Disk.{Image}

-- the eight bytes that a journal begins with
abbrev pub header : List ℕ
header = codes "JASREC1\n"

-- the agents' numbers of the turns up to the first whose gate is not open or that is cut short
abbrev pub turns_in : List ℕ → List ℕ
turns_in (gate ∷ high ∷ low ∷ rest) = if gate == 1 then (256 * high + low) ∷ turns_in rest else []
turns_in rest = []

-- the bytes of a file begin as a journal
abbrev pub has_header : List ℕ → Bool
has_header bytes = bytes_eq (take 8 bytes) header

-- the turns that the bytes of a file tell; nothing where they do not begin as a journal
abbrev pub recovered : List ℕ → Option (List ℕ)
recovered bytes = if has_header bytes then Some (turns_in (drop 8 bytes)) else None

-- no file tells nothing
abbrev pub recovered_image : Image → Option (List ℕ)
recovered_image None = None
recovered_image (Some bytes) = recovered bytes

-- ---- what is written

-- for each turn an open gate, and the agent's number in two bytes, the greater first
abbrev pub blocks : List ℕ → List ℕ
blocks [] = []
blocks (agent ∷ turns) = 1 ∷ agent / 256 ∷ agent % 256 ∷ blocks turns

-- the header and the turns
abbrev pub front : List ℕ → List ℕ
front turns = header ++ blocks turns

-- and then a closed gate
abbrev pub file_of : List ℕ → List ℕ
file_of turns = front turns ++ 0 ∷ []

-- the next turn stands behind the closed gate, and then a closed gate
abbrev pub staged : List ℕ → ℕ → List ℕ
staged turns agent = front turns ++ 0 ∷ agent / 256 ∷ agent % 256 ∷ 0 ∷ []

-- ---- images

abbrev pub Recovers : List ℕ → Image → Type 0
Recovers turns c = recovered_image c ≡ Some turns

-- the turns, or these and one more
abbrev pub RecoversEither : List ℕ → ℕ → Image → Type 0
RecoversEither turns agent c = Recovers turns c ⊎ Recovers (turns ++ agent ∷ []) c

-- the bytes are those of the turns, and then an end that tells none
pub record HasTurns (turns bytes : List ℕ) : Type 0 where
  pub end : List ℕ
  pub split : bytes ≡ blocks turns ++ end
  pub nothing : turns_in end ≡ []

-- the same behind the header
pub record HasFront (turns bytes : List ℕ) : Type 0 where
  pub end : List ℕ
  pub split : bytes ≡ front turns ++ end
  pub nothing : turns_in end ≡ []

-- ---- files whose end was cut off

-- a beginning of the list
abbrev pub BeginsWith : List ℕ → List ℕ → Type 0
BeginsWith list begin = (rest : List ℕ) × (list ≡ begin ++ rest)

-- the one tells nothing, or both tell turns, and the first a beginning of those of the second
abbrev pub TellsLess : Option (List ℕ) → Option (List ℕ) → Type 0
TellsLess None whole = Unit {0}
TellsLess (Some turns) None = ⊥
TellsLess (Some turns) (Some all) = BeginsWith all turns

-- what is written of turns tells these turns
abbrev pub IsReadBack : Type 0
IsReadBack = (turns : List ℕ) → recovered (file_of turns) ≡ Some turns

-- the beginning of a file tells a beginning of its turns
abbrev pub IsCutShort : Type 0
IsCutShort = (n : ℕ) (bytes : List ℕ) → TellsLess (recovered (take n bytes)) (recovered bytes)
