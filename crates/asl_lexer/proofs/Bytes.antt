-- What stands at the front of bytes whose first token is known.
use Rattle.std.proofs.Common.{◌≡◌, ℕ, suc, ◌+◌, Bool, true, false, cond, List, [], ◌∷◌, ◌++◌, length, Some, refl, ap, ◌∙◌, arith}
use Rattle.std.specs.Prelude.{◌&&◌, ◌||◌, ◌==◌, not}
use Rattle.std.specs.List.{list_all, prefix_len}
use Rattle.std.proofs.lemmas.Bool.Decides.{nat_tests}
use Rattle.asl_lexer.specs.declared.token.TokKind.TheVariants.{Atom, Var, Inner, Number}
use Rattle.asl_lexer.specs.Spelling.{is_lower, is_upper, is_digit, is_word, is_blank}
use Rattle.asl_lexer.specs.Blanks.{begins_blank}
use Rattle.asl_lexer.specs.Scan.{token_at}
use Rattle.asl_lexer.specs.Seams.{stops}

-- ---- what goes on with no word

pub both : (a b : Bool) → (a && b) ≡ true → (a ≡ true) × (b ≡ true)
both true b e = (refl, e)
both false b e = absurd cc

pub not_true : (b : Bool) → not b ≡ true → b ≡ false
not_true true e = absurd cc
not_true false e = refl

pub word_front : (w rest : List ℕ) → list_all is_word w ≡ true → stops rest ≡ true → prefix_len is_word (w ++ rest) ≡ length w
word_front [] [] a s = refl
word_front [] (b ∷ rest) a s = go (is_word b) s
  where
    go : (x : Bool) → not x ≡ true → cond x (1 + prefix_len is_word rest) 0 ≡ 0
    go true e = absurd cc
    go false e = refl
word_front (b ∷ w) rest a s =
    let h = both (is_word b) (list_all is_word w) a in
    ap (λ (x : Bool). cond x (1 + prefix_len is_word (w ++ rest)) 0) h.0 ∙ omega (arith, word_front w rest h.1 s)

or_last : (a b : Bool) → b ≡ true → (a || b) ≡ true
or_last true b e = refl
or_last false b e = e

digit_word : (b : ℕ) → is_digit b ≡ true → is_word b ≡ true
digit_word b e = or_last (is_lower b || is_upper b) (is_digit b) e

no_word_digit : (b : ℕ) → not (is_word b) ≡ true → is_digit b ≡ false
no_word_digit b e = go (is_digit b) refl
  where
    go : (d : Bool) → is_digit b ≡ d → is_digit b ≡ false
    go true f = absurd (let g = digit_word b f in cc)
    go false f = f

pub digits_front : (w rest : List ℕ) → list_all is_digit w ≡ true → stops rest ≡ true → prefix_len is_digit (w ++ rest) ≡ length w
digits_front [] [] a s = refl
digits_front [] (b ∷ rest) a s = ap (λ (x : Bool). cond x (1 + prefix_len is_digit rest) 0) (no_word_digit b s)
digits_front (b ∷ w) rest a s =
    let h = both (is_digit b) (list_all is_digit w) a in
    ap (λ (x : Bool). cond x (1 + prefix_len is_digit (w ++ rest)) 0) h.0 ∙ omega (arith, digits_front w rest h.1 s)

-- ---- no blank

pub no_blank : (b : ℕ) (rest : List ℕ) → (b == 47) ≡ false → is_blank b ≡ false → begins_blank (b ∷ rest) ≡ false
no_blank b [] e f = f
no_blank b (c ∷ rest) e f = rw (e, f) refl

pub lower_no_blank : (b : ℕ) → is_lower b ≡ true → ((b == 47) ≡ false) × (is_blank b ≡ false)
lower_no_blank b e = (grind (arith, nat_tests), grind (arith, nat_tests))

pub upper_no_blank : (b : ℕ) → is_upper b ≡ true → ((b == 47) ≡ false) × (is_blank b ≡ false)
upper_no_blank b e = (grind (arith, nat_tests), grind (arith, nat_tests))

pub digit_no_blank : (b : ℕ) → is_digit b ≡ true → ((b == 47) ≡ false) × (is_blank b ≡ false)
digit_no_blank b e = (grind (arith, nat_tests), grind (arith, nat_tests))

upper_no_lower : (b : ℕ) → is_upper b ≡ true → is_lower b ≡ false
upper_no_lower b e = grind (arith, nat_tests)

digit_no_letter : (b : ℕ) → is_digit b ≡ true → (is_lower b ≡ false) × (is_upper b ≡ false)
digit_no_letter b e = (grind (arith, nat_tests), grind (arith, nat_tests))

-- ---- words and numbers

pub atom_at : (b : ℕ) (w rest : List ℕ) → is_lower b ≡ true → list_all is_word w ≡ true → stops rest ≡ true
    → token_at (b ∷ (w ++ rest)) ≡ Some (Atom, suc (length w))
unfolding token_at
atom_at b w rest l a s = rw l (ap (λ (n : ℕ). Some (Atom, n)) (omega (arith, word_front w rest a s)))

pub var_at : (b : ℕ) (w rest : List ℕ) → is_upper b ≡ true → list_all is_word w ≡ true → stops rest ≡ true
    → token_at (b ∷ (w ++ rest)) ≡ Some (Var, suc (length w))
unfolding token_at
var_at b w rest u a s = rw (upper_no_lower b u, u) (ap (λ (n : ℕ). Some (Var, n)) (omega (arith, word_front w rest a s)))

pub number_at : (b : ℕ) (w rest : List ℕ) → is_digit b ≡ true → list_all is_digit w ≡ true → stops rest ≡ true
    → token_at (b ∷ (w ++ rest)) ≡ Some (Number, suc (length w))
unfolding token_at
number_at b w rest d a s = let n = digit_no_letter b d in rw (n.0, n.1, d) (ap (λ (k : ℕ). Some (Number, k)) (omega (arith, digits_front w rest a s)))

pub inner_at : (b : ℕ) (w rest : List ℕ) → is_lower b ≡ true → list_all is_word w ≡ true → stops rest ≡ true
    → token_at (46 ∷ b ∷ (w ++ rest)) ≡ Some (Inner, suc (suc (length w)))
unfolding token_at
inner_at b w rest l a s =
    rw l (ap (λ (n : ℕ). Some (Inner, n)) (omega (arith, word_front w rest a s)))
