-- A number grows with its digits.
use Rattle.std.proofs.Common.{◌≡◌, ◌<◌, ◌+◌, ◌*◌, ◌-◌, ℕ, List, [], ◌∷◌, None, arith}
use Rattle.mas_top_words.specs.Numbers.{digits_from, within}

-- past the upper bound no digits bring it back
pub past : (low high v : ℕ) (ds : List ℕ) → high < v → within low high (digits_from v ds) ≡ None
past low high v [] above = grind arith
past low high v (d ∷ ds) above = let further = past low high (v * 10 + (d - 48)) ds (omega arith) in grind arith
