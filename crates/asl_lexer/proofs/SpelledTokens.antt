-- The texts of tokens are of their kinds.
use Rattle.std.proofs.Common.{◌≡◌, ℕ, Bool, true, false, cond, List, [], ◌∷◌, take, Some, Result, Ok, Err, refl, sym, subst, arith}
use Rattle.std.specs.Prelude.{All, ◌&&◌, ◌==◌}
use Rattle.std.specs.List.{list_all}
use Rattle.std.proofs.lemmas.Bool.{and_from, eqb-true}
use Rattle.std.proofs.lemmas.Bool.Decides.{nat_tests}
use Rattle.std.proofs.lemmas.List.Elements.{All-nil, All-cons}
use Rattle.asl_lexer.specs.declared.token.TokKind.{TokKind}
use Rattle.asl_lexer.specs.declared.token.TokKind.TheVariants as kind
use Rattle.asl_lexer.specs.declared.token.Tok.{Tok}
use Rattle.asl_lexer.specs.declared.token.Place.{Place}
use Rattle.asl_lexer.specs.declared.token.LexFault.{LexFault}
use Rattle.asl_lexer.specs.Spelling.{is_lower, is_upper, is_digit, is_word, is_plain, is_escaped, is_empty, is_sign, ends_string, given, after_dot, kind_of}
use Rattle.asl_lexer.specs.Scan.{content, meant}
use Rattle.asl_lexer.specs.Lexing.{tok_of, text_of, is_allowed, onto, Lexes, at_end, behind_blank, behind_token, stops}
use Rattle.asl_lexer.specs.Bare.{is_written_byte, is_spelled_token}
use Rattle.asl_lexer.specs.Bare.{IsSpelledToken, TokensSpelled}
use Rattle.asl_lexer.proofs.Bytes.{both}

-- ---- strings

plain_written : (b : ℕ) → is_plain b ≡ true → is_written_byte b ≡ true
plain_written b e = grind (arith, nat_tests)

meant_written : (b : ℕ) → is_escaped b ≡ true → is_written_byte (meant b) ≡ true
meant_written b e = go (b == 110) refl (b == 116) refl
  where
    other : (b == 110) ≡ false → (b == 116) ≡ false → is_written_byte b ≡ true
    other n t = grind (arith, nat_tests)

    go : (n : Bool) → (b == 110) ≡ n → (t : Bool) → (b == 116) ≡ t → is_written_byte (cond n 10 (cond t 9 b)) ≡ true
    go true n t s = refl
    go false n true s = refl
    go false n false s = other n s

all_written : (text : List ℕ) (escaped : Bool) → ends_string escaped text ≡ true → list_all is_written_byte (content escaped text) ≡ true
all_written [] escaped e = refl
all_written (b ∷ text) true e =
    let h = both (is_escaped b) (ends_string false text) e in
    and_from (is_written_byte (meant b)) (list_all is_written_byte (content false text)) (meant_written b h.0) (all_written text false h.1)
all_written (b ∷ text) false e = go (b == 34) (b == 92) e (all_written text true) (all_written text false)
  where
    go : (q s : Bool) → cond q (is_empty text) (cond s (ends_string true text) (is_plain b && ends_string false text)) ≡ true
        → (ends_string true text ≡ true → list_all is_written_byte (content true text) ≡ true)
        → (ends_string false text ≡ true → list_all is_written_byte (content false text) ≡ true)
        → list_all is_written_byte (cond q [] (cond s (content true text) (b ∷ content false text))) ≡ true
    go true s e f g = refl
    go false true e f g = f e
    go false false e f g =
        let h = both (is_plain b) (ends_string false text) e in
        and_from (is_written_byte b) (list_all is_written_byte (content false text)) (plain_written b h.0) (g h.1)

-- ---- one token

is_given : (b : Bool) (j k : TokKind) → given b j ≡ Some k → (j ≡ k) × (b ≡ true)
is_given true j k e = (cc, refl)
is_given false j k e = absurd cc

abbrev Good : List ℕ → TokKind → Type 0
Good spelled k = is_allowed k spelled ≡ true → is_spelled_token k (text_of k spelled) ≡ true

by_test : (spelled : List ℕ) (x : Bool) (j k : TokKind) → given x j ≡ Some k → (x ≡ true → Good spelled j) → Good spelled k
by_test spelled x j k e h = let g = is_given x j k e in subst (Good spelled) g.0 (h g.1)

dot_good : (b : ℕ) (text : List ℕ) (k : TokKind) → (b == 46) ≡ true → after_dot text ≡ Some k → Good (b ∷ text) k
dot_good b [] k o e =
    let same : kind.End ≡ k = cc in
    let dot : b ≡ 46 = eqb-true b 46 o in
    subst (Good (b ∷ [])) same (λ a. subst (λ (x : ℕ). is_spelled_token kind.End (x ∷ []) ≡ true) (sym dot) refl)
dot_good b (c ∷ text) k o e = by_test (b ∷ c ∷ text) (is_lower c && list_all is_word text) kind.Inner k e (λ x a. x)

token_good : (spelled : List ℕ) (k : TokKind) → kind_of spelled ≡ Some k → Good spelled k
token_good [] k e = absurd cc
token_good (b ∷ text) k e = go (is_lower b) refl (is_upper b) refl (is_digit b) refl (b == 46) refl (b == 34) e
  where
    go : (l : Bool) → is_lower b ≡ l → (u : Bool) → is_upper b ≡ u → (d : Bool) → is_digit b ≡ d → (o : Bool) → (b == 46) ≡ o → (q : Bool)
        → cond l (given (list_all is_word text) kind.Atom)
        (cond u (given (list_all is_word text) kind.Var)
        (cond d (given (list_all is_digit text) kind.Number)
        (cond o (after_dot text) (cond q (given (ends_string false text) kind.Str) (given (is_sign (b ∷ text)) kind.Sign))))) ≡ Some k → Good (b ∷ text) k
    go true e1 u e2 d e3 o e4 q e = by_test (b ∷ text) (list_all is_word text) kind.Atom k e (λ x a. and_from (is_lower b) (list_all is_word text) e1 x)
    go false e1 true e2 d e3 o e4 q e = by_test (b ∷ text) (list_all is_word text) kind.Var k e (λ x a. and_from (is_upper b) (list_all is_word text) e2 x)
    go false e1 false e2 true e3 o e4 q e = by_test (b ∷ text) (list_all is_digit text) kind.Number k e
        (λ x a. and_from (is_digit b && list_all is_digit text) _ (and_from (is_digit b) (list_all is_digit text) e3 x) a)
    go false e1 false e2 false e3 true e4 q e = dot_good b text k e4 e
    go false e1 false e2 false e3 false e4 true e = by_test (b ∷ text) (ends_string false text) kind.Str k e (λ x a. all_written text false x)
    go false e1 false e2 false e3 false e4 false e = by_test (b ∷ text) (is_sign (b ∷ text)) kind.Sign k e (λ x a. x)

-- ---- all tokens

abbrev AllGood : Result (List Tok) LexFault → Type 0
AllGood (Ok ts) = All IsSpelledToken ts
AllGood (Err fault) = Unit {0}

all_onto : (t : Tok) (r : Result (List Tok) LexFault) → IsSpelledToken t → AllGood r → AllGood (onto t r)
all_onto t (Ok ts) k h = All-cons IsSpelledToken t ts k h
all_onto t (Err fault) k h = tt

all : {p : Place} {bytes : List ℕ} {r : Result (List Tok) LexFault} → Lexes p bytes r → AllGood r
all at_end = All-nil IsSpelledToken
all (behind_blank n e h) = all h
all {p = p} {bytes = bytes} (behind_token {r = r} k n t a h q) =
    subst AllGood (sym q) (all_onto (tok_of k (take n bytes) p) r (token_good (take n bytes) k t.longest.spelled a) (all h))
all (stops f) = tt

pub tokens_spelled : TokensSpelled
tokens_spelled bytes ts h = all h
