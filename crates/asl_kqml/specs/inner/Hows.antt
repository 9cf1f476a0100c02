-- The texts of plans, unless they are more than a list may have.
use Rattle.std.specs.Prelude.{◌≡◌, ◌<◌, ◌≤◌, ℕ, List, length, Option, None, Some}
use Rattle.asl_term.specs.declared.syntax.Term.{Term}
use Rattle.asl_kqml.specs.Receive.{string_items}

abbrev pub AreTexts : List (List ℕ) → Option (List Term) → Type 0
AreTexts texts None = 9999 < length texts
AreTexts texts (Some items) = (items ≡ string_items texts) × (length texts ≤ 9999)
