-- Signs, dots and blanks before what cannot go on with them.
use Rattle.std.proofs.Common.{◌≡◌, ℕ, Bool, true, false, cond, List, [], ◌∷◌, ◌++◌, Some, refl, sym, ap, subst, ◌∙◌, arith}
use Rattle.std.specs.Prelude.{◌||◌, ◌==◌, not, codes}
use Rattle.std.specs.Option.{is_some}
use Rattle.std.proofs.lemmas.Bool.{eqb-true}
use Rattle.std.proofs.lemmas.Bool.Decides.{nat_tests}
use Rattle.asl_lexer.specs.declared.token.TokKind.TheVariants.{Sign, End}
use Rattle.asl_lexer.specs.declared.token.Sign as signs
use Rattle.asl_lexer.specs.declared.token.Sign.TheVariants as sign
use Rattle.asl_lexer.specs.Spelling.{is_lower, is_upper, is_digit, is_blank, is_sign, sign_of, sign_text}
use Rattle.asl_lexer.specs.Blanks.{blank_byte}
use Rattle.asl_lexer.specs.Scan.{token_at, sign_len, sign_at}
use Rattle.asl_lexer.specs.Bare.{mark, stop}
use Rattle.asl_lexer.specs.Seams.{Gives, Any, NoLonger, NoName, SignsGive, StopGives, BlanksGive}
use Rattle.asl_lexer.proofs.Bytes.{no_blank}
use Rattle.asl_lexer.proofs.Table.{spelled, not_sign}
use Rattle.asl_lexer.proofs.Seams.{bare_of, one_token, gives_blank, narrower, then}

-- ---- where a sign may begin

-- the byte begins a word, a number, a string, a comment, or is a dot or a blank
abbrev begins_other : ℕ → Bool
begins_other a = is_lower a || (is_upper a || (is_digit a || (a == 46 || (a == 34 || (a == 47 || is_blank a)))))

record BeginsSign (a : ℕ) : Type 0 where
  lower : is_lower a ≡ false
  upper : is_upper a ≡ false
  digit : is_digit a ≡ false
  dot : (a == 46) ≡ false
  quote : (a == 34) ≡ false
  slash : (a == 47) ≡ false
  blank : is_blank a ≡ false

neither : (a b : Bool) → (a || b) ≡ false → (a ≡ false) × (b ≡ false)
neither true b e = absurd cc
neither false b e = (refl, e)

begins : (a : ℕ) → begins_other a ≡ false → BeginsSign a
begins a e =
    let lower = neither (is_lower a) _ e in
    let upper = neither (is_upper a) _ lower.1 in
    let digit = neither (is_digit a) _ upper.1 in
    let dot = neither (a == 46) _ digit.1 in
    let quote = neither (a == 34) _ dot.1 in
    let slash = neither (a == 47) (is_blank a) quote.1 in
    record { lower = lower.0; upper = upper.0; digit = digit.0; dot = dot.0; quote = quote.0; slash = slash.0; blank = slash.1 }

sign_at_front : (a : ℕ) (text : List ℕ) → BeginsSign a → token_at (a ∷ text) ≡ sign_at (sign_len (a ∷ text))
unfolding token_at
sign_at_front a text h = rw (h.lower, h.upper, h.digit, h.dot, h.quote) refl

-- ---- how long the sign at the front is

three_of : (a b c : ℕ) → is_sign (a ∷ []) ≡ true → is_sign (a ∷ b ∷ c ∷ []) ≡ false
unfolding sign_of
three_of a b c one = go (a == 92) refl
  where
    slash : is_sign (92 ∷ []) ≡ false
    slash = refl

    go : (x : Bool) → (a == 92) ≡ x → is_sign (a ∷ b ∷ c ∷ []) ≡ false
    go true e = let f : is_sign (a ∷ []) ≡ false = subst (λ (x : ℕ). is_sign (x ∷ []) ≡ false) (sym (eqb-true a 92 e)) slash in absurd cc
    go false e = not_sign (a ∷ b ∷ c ∷ []) e

one_len : (a : ℕ) → is_sign (a ∷ []) ≡ true → (rest : List ℕ) → ((b : ℕ) (more : List ℕ) → rest ≡ b ∷ more → is_sign (a ∷ b ∷ []) ≡ false)
    → sign_len (a ∷ rest) ≡ 1
one_len a one [] two = ap (λ (x : Bool). cond x 1 0) one
one_len a one (b ∷ []) two = ap (λ (x : Bool). cond x 2 (cond (is_sign (a ∷ [])) 1 0)) (two b [] refl) ∙ ap (λ (x : Bool). cond x 1 0) one
one_len a one (b ∷ c ∷ rest) two =
    ap (λ (x : Bool). cond x 3 (cond (is_sign (a ∷ b ∷ [])) 2 (cond (is_sign (a ∷ [])) 1 0))) (three_of a b c one)
    ∙ ap (λ (x : Bool). cond x 2 (cond (is_sign (a ∷ [])) 1 0)) (two b (c ∷ rest) refl)
    ∙ ap (λ (x : Bool). cond x 1 0) one

two_len : (a b : ℕ) → is_sign (a ∷ b ∷ []) ≡ true → (rest : List ℕ) → ((c : ℕ) (more : List ℕ) → rest ≡ c ∷ more → is_sign (a ∷ b ∷ c ∷ []) ≡ false)
    → sign_len (a ∷ b ∷ rest) ≡ 2
two_len a b two [] three = ap (λ (x : Bool). cond x 2 (cond (is_sign (a ∷ [])) 1 0)) two
two_len a b two (c ∷ rest) three =
    ap (λ (x : Bool). cond x 3 (cond (is_sign (a ∷ b ∷ [])) 2 (cond (is_sign (a ∷ [])) 1 0))) (three c rest refl)
    ∙ ap (λ (x : Bool). cond x 2 (cond (is_sign (a ∷ [])) 1 0)) two

three_len : (a b c : ℕ) → is_sign (a ∷ b ∷ c ∷ []) ≡ true → (rest : List ℕ) → sign_len (a ∷ b ∷ c ∷ rest) ≡ 3
three_len a b c three rest = ap (λ (x : Bool). cond x 3 (cond (is_sign (a ∷ b ∷ [])) 2 (cond (is_sign (a ∷ [])) 1 0))) three

-- ---- all signs

-- what goes on makes no longer sign
longer : (s : signs.Sign) (text : List ℕ) → sign_text s ≡ text → (rest : List ℕ) → NoLonger s rest
    → (b : ℕ) (more : List ℕ) → rest ≡ b ∷ more → is_sign (text ++ b ∷ []) ≡ false
longer s text e [] q b more f = absurd cc
longer s text e (c ∷ rest) q b more f =
    let same : c ≡ b = cc in
    ap (λ (x : ℕ). is_sign (text ++ x ∷ [])) (sym same) ∙ ap (λ (t : List ℕ). is_sign (t ++ c ∷ [])) (sym e) ∙ q

-- one byte to three, of which the first begins a sign
abbrev is_whole : List ℕ → Bool
is_whole [] = false
is_whole (a ∷ b ∷ c ∷ d ∷ rest) = false
is_whole (a ∷ rest) = not (begins_other a)

all_whole : (s : signs.Sign) → is_whole (sign_text s) ≡ true
all_whole sign.Open = refl
all_whole _ = refl

no_other : (a : ℕ) → not (begins_other a) ≡ true → BeginsSign a
no_other a e = begins a (go (begins_other a) e)
  where
    go : (b : Bool) → not b ≡ true → b ≡ false
    go true e = absurd cc
    go false e = refl

of_text : (s : signs.Sign) (text : List ℕ) → sign_text s ≡ text → is_whole text ≡ true → is_sign text ≡ true
    → Gives (NoLonger s) text (bare_of Sign text ∷ [])
of_text s [] e w i = absurd cc
of_text s (a ∷ []) e w i =
    let h = no_other a w in
    one_token (NoLonger s) Sign (a ∷ []) (λ rest q. no_blank a rest h.slash h.blank)
    (λ rest q. sign_at_front a rest h ∙ ap sign_at (one_len a i rest (longer s (a ∷ []) e rest q))) refl
of_text s (a ∷ b ∷ []) e w i =
    let h = no_other a w in
    one_token (NoLonger s) Sign (a ∷ b ∷ []) (λ rest q. no_blank a (b ∷ rest) h.slash h.blank)
    (λ rest q. sign_at_front a (b ∷ rest) h ∙ ap sign_at (two_len a b i rest (longer s (a ∷ b ∷ []) e rest q))) refl
of_text s (a ∷ b ∷ c ∷ []) e w i =
    let h = no_other a w in
    one_token (NoLonger s) Sign (a ∷ b ∷ c ∷ []) (λ rest q. no_blank a (b ∷ c ∷ rest) h.slash h.blank)
    (λ rest q. sign_at_front a (b ∷ c ∷ rest) h ∙ ap sign_at (three_len a b c i rest)) refl
of_text s (a ∷ b ∷ c ∷ d ∷ rest) e w i = absurd cc

pub signs_give : SignsGive
signs_give s = of_text s (sign_text s) refl (all_whole s) (ap is_some (spelled s))

-- ---- each sign before what may follow it

anything : (s : signs.Sign) → ((b : ℕ) → is_sign (sign_text s ++ b ∷ []) ≡ false) → Gives Any (sign_text s) (mark s ∷ [])
anything s h = narrower (λ rest q. go rest) (signs_give s)
  where
    go : (rest : List ℕ) → NoLonger s rest
    go [] = tt
    go (b ∷ rest) = h b

pub round_open : Gives Any (codes "(") (mark sign.Open ∷ [])
unfolding sign_of
round_open = anything sign.Open (λ b. refl)

pub round_close : Gives Any (codes ")") (mark sign.Close ∷ [])
unfolding sign_of
round_close = anything sign.Close (λ b. refl)

pub square_open : Gives Any (codes "[") (mark sign.OpenSquare ∷ [])
unfolding sign_of
square_open = anything sign.OpenSquare (λ b. refl)

pub square_close : Gives Any (codes "]") (mark sign.CloseSquare ∷ [])
unfolding sign_of
square_close = anything sign.CloseSquare (λ b. refl)

pub comma : Gives Any (codes ",") (mark sign.Comma ∷ [])
unfolding sign_of
comma = anything sign.Comma (λ b. refl)

pub semicolon : Gives Any (codes ";") (mark sign.Semicolon ∷ [])
unfolding sign_of
semicolon = anything sign.Semicolon (λ b. refl)

pub question : Gives Any (codes "?") (mark sign.Question ∷ [])
unfolding sign_of
question = anything sign.Question (λ b. refl)

pub tilde : Gives Any (codes "~") (mark sign.Tilde ∷ [])
unfolding sign_of
tilde = anything sign.Tilde (λ b. refl)

pub at : Gives Any (codes "@") (mark sign.At ∷ [])
unfolding sign_of
at = anything sign.At (λ b. refl)

pub ampersand : Gives Any (codes "&") (mark sign.Ampersand ∷ [])
unfolding sign_of
ampersand = anything sign.Ampersand (λ b. refl)

pub bar : Gives Any (codes "|") (mark sign.Bar ∷ [])
unfolding sign_of
bar = anything sign.Bar (λ b. refl)

pub plus : Gives Any (codes "+") (mark sign.Plus ∷ [])
unfolding sign_of
plus = anything sign.Plus (λ b. refl)

pub star : Gives Any (codes "*") (mark sign.Star ∷ [])
unfolding sign_of
star = anything sign.Star (λ b. refl)

-- three bytes are no sign, unless the first is a backslash
pub bangs : Gives Any (codes "!!") (mark sign.Bangs ∷ [])
bangs = anything sign.Bangs (λ b. not_sign (33 ∷ 33 ∷ b ∷ []) refl)

pub minus_plus : Gives Any (codes "-+") (mark sign.MinusPlus ∷ [])
minus_plus = anything sign.MinusPlus (λ b. not_sign (45 ∷ 43 ∷ b ∷ []) refl)

pub less_eq : Gives Any (codes "<=") (mark sign.LessEq ∷ [])
less_eq = anything sign.LessEq (λ b. not_sign (60 ∷ 61 ∷ b ∷ []) refl)

pub more_eq : Gives Any (codes ">=") (mark sign.MoreEq ∷ [])
more_eq = anything sign.MoreEq (λ b. not_sign (62 ∷ 61 ∷ b ∷ []) refl)

pub same : Gives Any (codes "==") (mark sign.Same ∷ [])
same = anything sign.Same (λ b. not_sign (61 ∷ 61 ∷ b ∷ []) refl)

pub if_mark : Gives Any (codes ":-") (mark sign.If ∷ [])
if_mark = anything sign.If (λ b. not_sign (58 ∷ 45 ∷ b ∷ []) refl)

pub left_arrow : Gives Any (codes "<-") (mark sign.LeftArrow ∷ [])
left_arrow = anything sign.LeftArrow (λ b. not_sign (60 ∷ 45 ∷ b ∷ []) refl)

pub differ : Gives Any (codes "\\==") (mark sign.Differ ∷ [])
differ = anything sign.Differ (λ b. not_sign (92 ∷ 61 ∷ 61 ∷ b ∷ []) refl)

-- ---- signs of which longer ones begin

-- the byte is no second byte of a sign
pub record IsFree (b : ℕ) : Type 0 where
  pub bang : (b == 33) ≡ false
  pub plus : (b == 43) ≡ false
  pub minus : (b == 45) ≡ false
  pub same : (b == 61) ≡ false
  pub more : (b == 62) ≡ false

-- nothing follows that makes a sign longer
abbrev pub Free : List ℕ → Type 0
Free [] = Unit {0}
Free (b ∷ rest) = IsFree b

pub lower_free : (b : ℕ) → is_lower b ≡ true → IsFree b
lower_free b e = record {
  bang = grind (arith, nat_tests);
  plus = grind (arith, nat_tests);
  minus = grind (arith, nat_tests);
  same =
      grind (arith, nat_tests);
  more = grind (arith, nat_tests);
}

pub digit_free : (b : ℕ) → is_digit b ≡ true → IsFree b
digit_free b e = record {
  bang = grind (arith, nat_tests);
  plus = grind (arith, nat_tests);
  minus = grind (arith, nat_tests);
  same =
      grind (arith, nat_tests);
  more = grind (arith, nat_tests);
}

pub blank_free : IsFree 32
blank_free = record { bang = refl; plus = refl; minus = refl; same = refl; more = refl }

pub tilde_free : IsFree 126
tilde_free = record { bang = refl; plus = refl; minus = refl; same = refl; more = refl }

no_bang : (rest : List ℕ) → Free rest → NoLonger sign.Bang rest
unfolding sign_of
no_bang [] q = tt
no_bang (b ∷ rest) q = rw q.bang refl

pub bang : Gives Free (codes "!") (mark sign.Bang ∷ [])
bang = narrower no_bang (signs_give sign.Bang)

-- `->` and `-+` are longer
abbrev pub NoMinus : List ℕ → Type 0
NoMinus [] = Unit {0}
NoMinus (b ∷ rest) = ((b == 62) ≡ false) × ((b == 43) ≡ false)

no_minus : (rest : List ℕ) → NoMinus rest → NoLonger sign.Minus rest
unfolding sign_of
no_minus [] q = tt
no_minus (b ∷ rest) q = rw (q.0, q.1) refl

pub minus : Gives NoMinus (codes "-") (mark sign.Minus ∷ [])
minus = narrower no_minus (signs_give sign.Minus)

pub free_minus : (rest : List ℕ) → Free rest → NoMinus rest
free_minus [] q = tt
free_minus (b ∷ rest) q = (q.more, q.plus)

no_less : (rest : List ℕ) → Free rest → NoLonger sign.Less rest
unfolding sign_of
no_less [] q = tt
no_less (b ∷ rest) q = rw (q.minus, q.same) refl

pub less : Gives Free (codes "<") (mark sign.Less ∷ [])
less = narrower no_less (signs_give sign.Less)

no_more : (rest : List ℕ) → Free rest → NoLonger sign.More rest
unfolding sign_of
no_more [] q = tt
no_more (b ∷ rest) q = rw q.same refl

pub more : Gives Free (codes ">") (mark sign.More ∷ [])
more = narrower no_more (signs_give sign.More)

no_unify : (rest : List ℕ) → Free rest → NoLonger sign.Unify rest
unfolding sign_of
no_unify [] q = tt
no_unify (b ∷ rest) q = rw q.same refl

pub unify : Gives Free (codes "=") (mark sign.Unify ∷ [])
unify = narrower no_unify (signs_give sign.Unify)

no_colon : (rest : List ℕ) → Free rest → NoLonger sign.Colon rest
unfolding sign_of
no_colon [] q = tt
no_colon (b ∷ rest) q = rw q.minus refl

pub colon : Gives Free (codes ":") (mark sign.Colon ∷ [])
colon = narrower no_colon (signs_give sign.Colon)

-- ---- blanks and the dot

pub blanks_give : BlanksGive
blanks_give b e = gives_blank b (λ rest. blank_byte b rest refl e)

pub space : Gives Any (codes " ") []
space = blanks_give 32 refl

pub feed : Gives Any (codes "\n") []
feed = blanks_give 10 refl

dot_at : (rest : List ℕ) → NoName rest → token_at (46 ∷ rest) ≡ Some (End, 1)
unfolding token_at
dot_at rest q = rw q refl

pub stop_gives : StopGives
stop_gives = one_token NoName End (46 ∷ []) (λ rest q. no_blank 46 rest refl refl) (λ rest q. dot_at rest q) refl

pub line_end : Gives Any (codes ".\n") (stop ∷ [])
line_end = then stop_gives feed (λ rest q. refl)
