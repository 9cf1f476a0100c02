-- The tokens of texts with commas between them.
use Rattle.std.proofs.Common.{◌≡◌, ℕ, true, List, [], ◌∷◌, ◌++◌, refl}
use Rattle.std.specs.Prelude.{not, codes}
use Rattle.std.specs.List.{flat_map}
use Rattle.asl_term.specs.Texts.{commas, between}
use Rattle.asl_lexer.specs.Spelling.{is_word}
use Rattle.asl_lexer.specs.declared.token.Sign as signs
use Rattle.asl_lexer.specs.declared.token.Sign.TheVariants as sign
use Rattle.asl_lexer.specs.Seams.{Gives, Any, Stop}
use Rattle.asl_lexer.specs.Bare.{Bare, mark}
use Rattle.asl_print.specs.Tokens.{comma_tokens, between_tokens}
use Rattle.asl_lexer.proofs.Seams.{gives_nothing, then, next, before_stop}
use Rattle.asl_lexer.proofs.SignTexts.{comma, round_open, round_close, square_open, square_close}

-- each text with its tokens
abbrev pub AllGive : List (List ℕ) → List (List Bare) → Type 0
AllGive [] [] = Unit {0}
AllGive (t ∷ ts) (x ∷ xs) = Gives Stop t x × AllGive ts xs
AllGive ts xs = ⊥

next_stops : (ts : List (List ℕ)) (rest : List ℕ) → Stop rest → Stop (flat_map (λ u. codes "," ++ u) ts ++ rest)
next_stops [] rest s = s
next_stops (t ∷ ts) rest s = refl

gives_next : (ts : List (List ℕ)) (xs : List (List Bare)) → AllGive ts xs
    → Gives Stop (flat_map (λ u. codes "," ++ u) ts) (flat_map (λ u. mark sign.Comma ∷ u) xs)
gives_next [] [] h = gives_nothing Stop
gives_next [] (x ∷ xs) h = absurd h
gives_next (t ∷ ts) [] h = absurd h
gives_next (t ∷ ts) (x ∷ xs) h = then (next comma h.0) (gives_next ts xs h.1) (next_stops ts)

pub gives_commas : (ts : List (List ℕ)) (xs : List (List Bare)) → AllGive ts xs → Gives Stop (commas ts) (comma_tokens xs)
gives_commas [] [] h = gives_nothing Stop
gives_commas [] (x ∷ xs) h = absurd h
gives_commas (t ∷ ts) [] h = absurd h
gives_commas (t ∷ ts) (x ∷ xs) h = then h.0 (gives_next ts xs h.1) (next_stops ts)

gives_between : (o c : ℕ) (f l : signs.Sign) → Gives Any (o ∷ []) (mark f ∷ []) → Gives Any (c ∷ []) (mark l ∷ []) → not (is_word c) ≡ true
    → (ts : List (List ℕ)) (xs : List (List Bare)) → AllGive ts xs → Gives Stop (between o c ts) (between_tokens f l xs)
gives_between o c f l first last s [] [] h = gives_nothing Stop
gives_between o c f l first last s [] (x ∷ xs) h = absurd h
gives_between o c f l first last s (t ∷ ts) [] h = absurd h
gives_between o c f l first last s (t ∷ ts) (x ∷ xs) h = before_stop (next first (then (gives_commas (t ∷ ts) (x ∷ xs) h) last (λ rest q. s)))

pub gives_round : (ts : List (List ℕ)) (xs : List (List Bare)) → AllGive ts xs → Gives Stop (between 40 41 ts) (between_tokens sign.Open sign.Close xs)
gives_round = gives_between 40 41 sign.Open sign.Close round_open round_close refl

pub gives_square : (ts : List (List ℕ)) (xs : List (List Bare)) → AllGive ts xs
    → Gives Stop (between 91 93 ts) (between_tokens sign.OpenSquare sign.CloseSquare xs)
gives_square = gives_between 91 93 sign.OpenSquare sign.CloseSquare square_open square_close refl

between_stops : (o c : ℕ) → not (is_word o) ≡ true → (ts : List (List ℕ)) (rest : List ℕ) → Stop rest → Stop (between o c ts ++ rest)
between_stops o c h [] rest s = s
between_stops o c h (t ∷ ts) rest s = h

pub round_stops : (ts : List (List ℕ)) (rest : List ℕ) → Stop rest → Stop (between 40 41 ts ++ rest)
round_stops = between_stops 40 41 refl

pub square_stops : (ts : List (List ℕ)) (rest : List ℕ) → Stop rest → Stop (between 91 93 ts ++ rest)
square_stops = between_stops 91 93 refl
