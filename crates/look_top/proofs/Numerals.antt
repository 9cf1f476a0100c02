-- What the text of a turn says.
use Rattle.std.proofs.Common.{◌≡◌, ◌^◌, ◌&&◌, ℕ, Bool, List, [], ◌∷◌, length, None, Some, true, false, nat_lt, refl, subst}
use Rattle.std.specs.Prelude.{Result, Ok, Err}
use Rattle.std.specs.Char.{digit_value}
use Rattle.std.specs.List.{list_all}
use Rattle.std.specs.Str.Parse.{AllDigits, ParsesUnsigned, digits_value, without_leading_plus}
use Rattle.std.proofs.lemmas.Bool.{ltb-true, lt-ltb}
use Rattle.clap.specs.ValueTests.{is_numeral}
use Rattle.clap.proofs.WalkLemmas.{both}
use Rattle.look_top.specs.Asked.{number_in}

digits_pass : (ds : List ℕ) → AllDigits 10 ds → list_all (λ d. nat_lt (digit_value d) 10) ds ≡ true
digits_pass [] h = refl
digits_pass (d ∷ ds) h = rw (lt-ltb (digit_value d) 10 h.0) (digits_pass ds h.1)

digits_from : (ds : List ℕ) → list_all (λ d. nat_lt (digit_value d) 10) ds ≡ true → AllDigits 10 ds
digits_from [] e = tt
digits_from (d ∷ ds) e =
    let parts = both _ _ e in
    (ltb-true _ _ parts.0, digits_from ds parts.1)

abbrev is_number : List ℕ → Bool
is_number ds = is_numeral ds && nat_lt (digits_value 10 ds) (2 ^ 64)

number_read : (E : Type 0) (text : List ℕ) (n : ℕ) → ParsesUnsigned {E = E} 64 10 text (Ok n) → Some n ≡ number_in text
number_read E text n h =
    let ds = without_leading_plus text in
    rw (lt-ltb 0 (length ds) h.0.0.0, digits_pass ds h.0.0.1, lt-ltb (digits_value 10 ds) (2 ^ 64) h.0.1) (rw h.1 refl)

number_unread : {E : Type 0} (text : List ℕ) (why : E) → ParsesUnsigned 64 10 text (Err why) → None ≡ number_in text
number_unread text why h = go (is_number (without_leading_plus text)) refl
  where
    go : (b : Bool) → is_number (without_leading_plus text) ≡ b → None ≡ number_in text
    go false t = rw t refl
    go true t =
        let outer = both _ _ t in
        let inner = both _ _ outer.0 in
        absurd (h ((ltb-true _ _ inner.0, digits_from _ inner.1), ltb-true _ _ outer.1))

pub is_read : {E : Type 0} (text : List ℕ) (n : ℕ) (r : Result ℕ E) → r ≡ Ok n → ParsesUnsigned 64 10 text r → Some n ≡ number_in text
is_read {E = E} text n r e h = number_read E text n (subst (λ (x : Result ℕ E). ParsesUnsigned 64 10 text x) e h)

pub is_unread : {E : Type 0} (text : List ℕ) (why : E) (r : Result ℕ E) → r ≡ Err why → ParsesUnsigned 64 10 text r → None ≡ number_in text
is_unread {E = E} text why r e h = number_unread text why (subst (λ (x : Result ℕ E). ParsesUnsigned 64 10 text x) e h)
