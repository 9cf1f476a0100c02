-- Tokens without their places, cut into pieces, and what they are to the grammar.
use Rattle.std.proofs.Common.{◌≡◌, ℕ, ◌+◌, Bool, true, false, cond, List, [], ◌∷◌, map, refl, ap}
use Rattle.asl_lexer.specs.declared.token.Tok.{Tok}
use Rattle.asl_lexer.specs.declared.token.Word.{Word}
use Rattle.asl_lexer.specs.Words as words
use Rattle.asl_lexer.specs.Bare.{Bare, bare, bare_word}
use Rattle.asl_parser_tree.specs.declared.lexeme.Lexeme.{Lexeme}
use Rattle.asl_parser_tree.specs.Lexemes.{lexeme_of, counts, lexemes_from}

-- ---- pieces

abbrev onto : Bare → List (List Bare) → List (List Bare)
onto x [] = (x ∷ []) ∷ []
onto x (p ∷ ps) = (x ∷ p) ∷ ps

abbrev pub cut : (Word → Bool) → List Bare → List (List Bare)
cut ends [] = []
cut ends (x ∷ xs) = cond (ends (bare_word x)) ((x ∷ []) ∷ cut ends xs) (onto x (cut ends xs))

map_onto : (t : Tok) (ps : List (List Tok)) (cs : List (List Bare)) → map (map bare) ps ≡ cs → map (map bare) (words.onto t ps) ≡ onto (bare t) cs
map_onto t [] [] e = refl
map_onto t [] (c ∷ cs) e = absurd cc
map_onto t (p ∷ ps) [] e = absurd cc
map_onto t (p ∷ ps) (c ∷ cs) e =
    let first : map bare p ≡ c = cc in
    let rest : map (map bare) ps ≡ cs = cc in
    λ i. (bare t ∷ first i) ∷ rest i

-- the pieces of tokens are those of the same without places
pub cut_same : (ends : Word → Bool) (ts : List Tok) → map (map bare) (words.pieces ends ts) ≡ cut ends (map bare ts)
unfolding words.pieces
cut_same ends [] = refl
cut_same ends (t ∷ ts) = go (ends (bare_word (bare t))) (cut_same ends ts)
  where
    go : (b : Bool) → map (map bare) (words.pieces ends ts) ≡ cut ends (map bare ts)
        → map (map bare) (cond b ((t ∷ []) ∷ words.pieces ends ts) (words.onto t (words.pieces ends ts)))
        ≡ cond b ((bare t ∷ []) ∷ cut ends (map bare ts)) (onto (bare t) (cut ends (map bare ts)))
    go true h = ap (λ cs. (bare t ∷ []) ∷ cs) h
    go false h = map_onto t (words.pieces ends ts) (cut ends (map bare ts)) h

-- ---- what they are to the grammar

abbrev pub lexed_from : ℕ → List Bare → List Lexeme
lexed_from k [] = []
lexed_from k (x ∷ xs) = lexeme_of k (bare_word x) x.text ∷ lexed_from (k + counts (bare_word x) x.text) xs

pub lexed_same : (k : ℕ) (ts : List Tok) → lexemes_from k ts ≡ lexed_from k (map bare ts)
unfolding lexemes_from
lexed_same k [] = refl
lexed_same k (t ∷ ts) = ap (λ ls. lexeme_of k (bare_word (bare t)) t.text ∷ ls) (lexed_same (k + counts (bare_word (bare t)) t.text) ts)
