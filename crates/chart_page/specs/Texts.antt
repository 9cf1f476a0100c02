-- What stands in a picture or a page.
use Rattle.std.specs.Prelude.{ℕ, List, ◌++◌, ◌≡◌, Option, IfSome}
use Rattle.std.specs.List.{All}
use Rattle.kept_text.specs.Puts.{Puts}
use Rattle.chart_page.specs.Escape.{escaped_text}

-- something was put
abbrev pub Grew : Option (List ℕ) → Option (List ℕ) → Type 0
Grew old new = (more : List ℕ) × Puts old new more

-- and in it this text, escaped
abbrev pub Adds : Option (List ℕ) → Option (List ℕ) → List ℕ → Type 0
Adds old new text = (front : List ℕ) × (behind : List ℕ) × Puts old new (front ++ (escaped_text text ++ behind))

-- the text stands there, escaped
abbrev pub Holds : List ℕ → List ℕ → Type 0
Holds made text = (front : List ℕ) × (behind : List ℕ) × (made ≡ front ++ (escaped_text text ++ behind))

abbrev pub HoldsAll : List ℕ → List (List ℕ) → Type 0
HoldsAll made texts = All (Holds made) texts

-- unless memory lacked
abbrev pub HasAll : Option (List ℕ) → List (List ℕ) → Type 0
HasAll text texts = IfSome text (λ made. HoldsAll made texts)
