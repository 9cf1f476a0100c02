-- The tokens of numbers.
use Rattle.std.proofs.Common.{◌≡◌, ℕ, pos, negsuc, suc, ◌+◌, ◌-◌, ◌*◌, ◌<◌, ◌≤◌, Bool, true, cond, List, [], ◌∷◌, ◌++◌, length, Some, None, refl, ap, ◌∙◌}
use Rattle.std.proofs.Common.{arith}
use Rattle.std.specs.List.{list_all}
use Rattle.std.specs.Option.{is_some}
use Rattle.std.specs.Fmt.{decimal}
use Rattle.std.specs.Char.{digit_value}
use Rattle.std.specs.Str.Parse.{AllDigits, digits_value_after}
use Rattle.std.proofs.lemmas.Bool.{le-leb, leb-true, and_from}
use Rattle.std.proofs.lemmas.Fmt.{decimal_is_IsNumeral}
use Rattle.std.proofs.lemmas.Str.Parse.{digit_from_value}
use Rattle.std.proofs.lemmas.Str.{digit_value_digit}
use Rattle.asl_lexer.specs.declared.token.TokKind.TheVariants as kind
use Rattle.asl_lexer.specs.Spelling.{is_digit}
use Rattle.asl_lexer.specs.Scan.{value_from}
use Rattle.asl_lexer.specs.Lexing.{is_allowed}
use Rattle.asl_lexer.specs.Seams.{Gives, Stop, NumbersGive, NumbersRead}
use Rattle.asl_lexer.specs.Bare.{number}
use Rattle.asl_lexer.proofs.Bytes.{both}
use Rattle.asl_lexer.proofs.Seams.{gives_number, then}
use Rattle.asl_lexer.proofs.SignTexts.{Free, digit_free, free_minus, minus}

all_digits : (ds : List ℕ) → AllDigits 10 ds → list_all is_digit ds ≡ true
all_digits [] d = refl
all_digits (c ∷ cs) d =
    let k = digit_from_value c d.0 in
    and_from (is_digit c) (list_all is_digit cs) (and_from _ _ (le-leb 48 c (omega (arith, k))) (le-leb c 57 (omega (arith, k)))) (all_digits cs d.1)

value_same : (v : ℕ) (ds : List ℕ) → AllDigits 10 ds → value_from v ds ≡ digits_value_after 10 v ds
value_same v [] d = refl
value_same v (c ∷ cs) d =
    let k = digit_from_value c d.0 in
    let e : v * 10 + (c - 48) ≡ v * 10 + digit_value c = omega (arith, digit_value_digit c k) in
    ap (λ (m : ℕ). value_from m cs) e ∙ value_same (v * 10 + digit_value c) cs d.1

pub numbers_read : NumbersRead
numbers_read n le =
    let h = decimal_is_IsNumeral n (omega arith) in
    let v : value_from 0 (decimal n) ≡ n = value_same 0 (decimal n) h.0.1 ∙ h.1 in
    ap (λ (b : Bool). cond b (Some (value_from 0 (decimal n))) None) (le-leb (value_from 0 (decimal n)) 9223372036854775807 (omega (arith, v))) ∙ ap Some v

allowed : (n : ℕ) → n ≤ 9223372036854775807 → is_allowed kind.Number (decimal n) ≡ true
allowed n le = ap is_some (numbers_read n le)

gives_digits : (ds : List ℕ) → 0 < length ds → list_all is_digit ds ≡ true → is_allowed kind.Number ds ≡ true
    → Gives Stop ds (record { kind = kind.Number; text = ds } ∷ [])
gives_digits [] lt d a = absurd (omega arith)
gives_digits (c ∷ cs) lt d a = let h = both (is_digit c) (list_all is_digit cs) d in gives_number c cs h.0 h.1 a

gives_decimal : (n : ℕ) → n ≤ 9223372036854775807 → Gives Stop (decimal n) (number n ∷ [])
gives_decimal n le = let h = decimal_is_IsNumeral n (omega arith) in gives_digits (decimal n) h.0.0 (all_digits (decimal n) h.0.1) (allowed n le)

digits_free : (ds rest : List ℕ) → 0 < length ds → list_all is_digit ds ≡ true → Free (ds ++ rest)
digits_free [] rest lt d = absurd (omega arith)
digits_free (c ∷ cs) rest lt d = digit_free c (both (is_digit c) (list_all is_digit cs) d).0

pub numbers_give : NumbersGive
numbers_give (pos n) w = gives_decimal n (leb-true n 9223372036854775807 w)
numbers_give (negsuc n) w =
    let le : suc n ≤ 9223372036854775807 = omega (arith, leb-true n 9223372036854775806 w) in
    let h = decimal_is_IsNumeral (suc n) (omega arith) in
    then minus (gives_decimal (suc n) le) (λ rest s. free_minus _ (digits_free (decimal (suc n)) rest h.0.0 (all_digits (decimal (suc n)) h.0.1)))
