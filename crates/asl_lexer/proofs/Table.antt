-- The table of signs, read in both directions.
use Rattle.std.proofs.Common.{◌≡◌, ℕ, Bool, true, false, cond, List, [], ◌∷◌, Option, Some, None, refl, ap, ◌∙◌}
use Rattle.std.specs.Prelude.{◌&&◌, ◌==◌}
use Rattle.std.specs.List.{find}
use Rattle.std.specs.Option.{is_some, option_map_or}
use Rattle.std.specs.Str.{bytes_eq}
use Rattle.std.proofs.lemmas.Slice.Eq.{bytes_eq-Decides}
use Rattle.asl_lexer.specs.declared.token.Sign as signs
use Rattle.asl_lexer.specs.declared.token.Sign.TheVariants as sign
use Rattle.asl_lexer.specs.Spelling.{sign_text, all_signs, sign_of, is_sign, is_empty}
use Rattle.asl_lexer.specs.declared.token.Word.TheVariants as words
use Rattle.asl_lexer.specs.Bare.{mark, bare_word}
use Rattle.asl_lexer.specs.Seams.{SignsSpelled, SignsRead}

pub spelled : SignsSpelled
unfolding sign_of
spelled sign.Open = refl
spelled _ = refl

-- so that the token of a sign is that sign to a grammar
pub mark_word : (s : signs.Sign) → bare_word (mark s) ≡ words.Sign s
mark_word s = ap (λ (o : Option signs.Sign). option_map_or words.Sign o words.Other) (spelled s)

-- ---- what is found in a table has the text

found : (all : List signs.Sign) (text : List ℕ) (s : signs.Sign) → find (λ x. bytes_eq text (sign_text x)) all ≡ Some s → text ≡ sign_text s
found [] text s e = absurd cc
found (x ∷ all) text s e = go (bytes_eq text (sign_text x)) refl e (found all text s)
  where
    go : (b : Bool) → bytes_eq text (sign_text x) ≡ b → cond b (Some x) (find (λ x. bytes_eq text (sign_text x)) all) ≡ Some s
        → (find (λ x. bytes_eq text (sign_text x)) all ≡ Some s → text ≡ sign_text s) → text ≡ sign_text s
    go true f e h = let same : x ≡ s = cc in (bytes_eq-Decides text (sign_text x)).0 f ∙ ap sign_text same
    go false f e h = h e

pub read : SignsRead
unfolding sign_of
read text s e = found all_signs text s e

-- ---- what is no sign: more than three bytes, or three of which the first is no backslash

abbrev pub fits : List ℕ → Bool
fits (a ∷ b ∷ c ∷ rest) = is_empty rest && a == 92
fits _ = true

all_fit : (s : signs.Sign) → fits (sign_text s) ≡ true
all_fit sign.Open = refl
all_fit _ = refl

pub not_sign : (text : List ℕ) → fits text ≡ false → is_sign text ≡ false
not_sign text f = go (sign_of text) refl
  where
    go : (o : Option signs.Sign) → sign_of text ≡ o → is_some o ≡ false
    go None e = refl
    go (Some s) e = let g : fits text ≡ true = ap fits (read text s e) ∙ all_fit s in absurd cc
