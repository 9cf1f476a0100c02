-- What is put into a text, which contracts see as its bytes, and as none once memory lacked.
use Rattle.std.specs.Prelude.{ℕ, List, ◌++◌, ◌≡◌, ⊤, Option, None, Some}

-- Where memory has not lacked now, it had not before, and the bytes are those before followed by this piece.
abbrev pub Puts : Option (List ℕ) → Option (List ℕ) → List ℕ → Type 0
Puts before None piece = ⊤
Puts None (Some now) piece = ⊥
Puts (Some before) (Some now) piece = now ≡ before ++ piece
