-- Where two texts differ that are the same before a place.
use Rattle.std.proofs.Common.{◌≡◌, ℕ, ◌<◌, min, List, length, take, slice_get, get_or, sym, ◌∙◌, arith}
use Rattle.std.proofs.lemmas.List.{take_all}
use Rattle.std.proofs.lemmas.Option.{slice_get-get_or, slice_get_cases, same_Some, none-some}
use Rattle.std.proofs.Common.{◌⊎◌, inl, inr}

-- inside both texts, where the bytes there are not the same
pub differs_in : (w g : List ℕ) (n : ℕ) → n < length w → n < length g → (get_or w n 0 ≡ get_or g n 0 → ⊥) → slice_get w n ≡ slice_get g n → ⊥
differs_in w g n in-w in-g differ e = differ (same_Some _ _ ((sym (slice_get-get_or w n 0 in-w) ∙ e) ∙ slice_get-get_or g n 0 in-g))

-- behind the shorter one
pub differs_behind : (w g : List ℕ) (n : ℕ) → (w ≡ g → ⊥) → take n w ≡ take n g → n ≡ min (length w) (length g) → slice_get w n ≡ slice_get g n → ⊥
differs_behind w g n differ same shorter e =
    elim ((slice_get_cases w n).1) [
      | inl a ↦ elim ((slice_get_cases g n).1) [
        | inl b ↦ let a-in : n < length w = a.1 in let b-in : n < length g = b.1 in omega arith
        | inr b ↦ none-some a.0 ((sym b.1 ∙ sym e) ∙ a.2)
      ]
      | inr a ↦ elim ((slice_get_cases g n).1) [
        | inl b ↦ none-some b.0 ((sym a.1 ∙ e) ∙ b.2)
        | inr b ↦ differ ((sym (take_all n w a.0) ∙ same) ∙ take_all n g b.0)
      ]
    ]
