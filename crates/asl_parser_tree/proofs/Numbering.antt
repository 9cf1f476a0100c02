-- Numbering unnamed variables, as a loop does.
use Rattle.std.proofs.Common.{◌≡◌, ℕ, ◌+◌, List, [], ◌∷◌, ◌++◌, length, sym, ◌∙◌, append_assoc, arith}
use Rattle.std.proofs.lemmas.List.{append-nil}
use Rattle.asl_lexer.specs.declared.token.Tok.{Tok}
use Rattle.asl_lexer.specs.Words as words
use Rattle.asl_parser_tree.specs.declared.lexeme.Lexeme.{Lexeme}
use Rattle.asl_parser_tree.specs.Lexemes.{lexeme_of, counts, lexemes_from}

pub one_more : (front : List Lexeme) (k : ℕ) (t : Tok) (ts : List Tok) (all : List Lexeme) → front ++ lexemes_from k (t ∷ ts) ≡ all → (front ++ lexeme_of k (words.word t) t.text ∷ []) ++ lexemes_from (k + counts (words.word t) t.text) ts ≡ all
unfolding lexemes_from
one_more front k t ts all h = append_assoc front (lexeme_of k (words.word t) t.text ∷ []) (lexemes_from (k + counts (words.word t) t.text) ts) ∙ h

pub none_left : (front : List Lexeme) (k : ℕ) (ts : List Tok) (all : List Lexeme) → length ts ≡ 0 → front ++ lexemes_from k ts ≡ all → front ≡ all
unfolding lexemes_from
none_left front k [] all e h = sym (append-nil front) ∙ h
none_left front k (t ∷ ts) all e h = absurd (omega arith)
