-- What is escaped is made of plain bytes and names.
use Rattle.std.proofs.Common.{◌≡◌, ℕ, Bool, true, false, ◌==◌, List, [], ◌∷◌, ◌++◌, refl, codes, if◌then◌else◌, arith}
use Rattle.std.proofs.lemmas.Bool.{eqb-false}
use Rattle.chart_page.specs.Escape.{is_control, escaped_text, IsPlain, EscapedIsPlain}
use Rattle.chart_page.specs.Escape.IsPlain.{nothing, byte, less, more, ampersand, quote}

-- a byte that is no sign of its own
by_control : (b : ℕ) (rest : List ℕ) (t : Bool) → (b ≡ 60 → ⊥) → (b ≡ 62 → ⊥) → (b ≡ 38 → ⊥) → (b ≡ 34 → ⊥) → IsPlain rest →
    IsPlain ((if t then codes "?" else b ∷ []) ++ rest)
by_control b rest true less_not more_not and_not quote_not p = byte 63 rest (λ e. omega (arith, e)) (λ e. omega (arith, e)) (λ e. omega (arith, e)) (λ e. omega (arith, e)) p
by_control b rest false less_not more_not and_not quote_not p = byte b rest less_not more_not and_not quote_not p

by_quote : (b : ℕ) (rest : List ℕ) (t : Bool) → (b == 34) ≡ t → (b ≡ 60 → ⊥) → (b ≡ 62 → ⊥) → (b ≡ 38 → ⊥) → IsPlain rest →
    IsPlain ((if t then codes "&quot;" else if is_control b then codes "?" else b ∷ []) ++ rest)
by_quote b rest true e less_not more_not and_not p = quote rest p
by_quote b rest false e less_not more_not and_not p = by_control b rest (is_control b) less_not more_not and_not (eqb-false b 34 e) p

by_and : (b : ℕ) (rest : List ℕ) (t : Bool) → (b == 38) ≡ t → (b ≡ 60 → ⊥) → (b ≡ 62 → ⊥) → IsPlain rest →
    IsPlain ((if t then codes "&amp;" else if b == 34 then codes "&quot;" else if is_control b then codes "?" else b ∷ []) ++ rest)
by_and b rest true e less_not more_not p = ampersand rest p
by_and b rest false e less_not more_not p = by_quote b rest (b == 34) refl less_not more_not (eqb-false b 38 e) p

by_more : (b : ℕ) (rest : List ℕ) (t : Bool) → (b == 62) ≡ t → (b ≡ 60 → ⊥) → IsPlain rest →
    IsPlain ((if t then codes "&gt;" else if b == 38 then codes "&amp;" else if b == 34 then codes "&quot;" else if is_control b then codes "?" else b ∷ []) ++ rest)
by_more b rest true e less_not p = more rest p
by_more b rest false e less_not p = by_and b rest (b == 38) refl less_not (eqb-false b 62 e) p

by_less : (b : ℕ) (rest : List ℕ) (t : Bool) → (b == 60) ≡ t → IsPlain rest →
    IsPlain
    ((if t then codes "&lt;" else if b == 62 then codes "&gt;" else if b == 38 then codes "&amp;" else
    if b == 34 then codes "&quot;" else if is_control b then codes "?" else b ∷ []) ++ rest)
by_less b rest true e p = less rest p
by_less b rest false e p = by_more b rest (b == 62) refl (eqb-false b 60 e) p

pub escaped_is_plain : EscapedIsPlain
escaped_is_plain [] = nothing
escaped_is_plain (b ∷ text) = by_less b (escaped_text text) (b == 60) refl (escaped_is_plain text)
