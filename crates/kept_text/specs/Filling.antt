-- Templates: texts in which each `{}` stands for a value.
use Rattle.std.specs.Prelude.{ℕ, ◌==◌, List, [], ◌∷◌, ◌++◌, decimal, if◌then◌else◌}
use Rattle.kept_text.specs.declared.filling.Value.{Value}
use Rattle.kept_text.specs.declared.filling.Value.TheVariants.{Bytes, Number}

abbrev pub value_text : Value → List ℕ
value_text (Bytes bytes) = bytes.now
value_text (Number number) = decimal number

-- of the first value, where there is one
abbrev pub first_text : List Value → List ℕ
first_text [] = []
first_text (value ∷ values) = value_text value

abbrev pub behind_first : List Value → List Value
behind_first [] = []
behind_first (value ∷ values) = values

-- a `{` stands for the next value, and a `}` for nothing
abbrev pub filled : List ℕ → List Value → List ℕ
filled [] values = []
filled (b ∷ rest) values =
    if b == 123 then first_text values ++ filled rest (behind_first values) else
    if b == 125 then filled rest values else b ∷ filled rest values
