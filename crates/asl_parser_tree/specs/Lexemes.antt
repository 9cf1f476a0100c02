-- The tokens of a clause as the grammar sees them.
use Rattle.std.specs.Prelude.{ℕ, ◌+◌, true, false, List, [], ◌∷◌, ◌++◌, codes, if◌then◌else◌}
use Rattle.std.specs.Option.{option_map_or}
use Rattle.std.specs.Str.{bytes_eq}
use Rattle.std.specs.Fmt.{decimal}
use Rattle.asl_lexer.specs.declared.token.Tok.{Tok}
use Rattle.asl_lexer.specs.declared.token.Word.{Word}
use Rattle.asl_lexer.specs.declared.token.Word.TheVariants as word
use Rattle.asl_lexer.specs.Words as words
use Rattle.asl_lexer.specs.Scan.{value}
use Rattle.asl_parser_tree.specs.declared.lexeme.Lexeme.{Lexeme}
use Rattle.asl_parser_tree.specs.declared.lexeme.Lexeme.TheVariants.{Num, Str, Var, Inner, Atom, Truth, Not, Div, Mod, Sign, End, Other}

abbrev pub unnamed : List ℕ
unnamed = codes "_"

-- the k-th unnamed variable has a name that no token spells
abbrev pub name_of : ℕ → List ℕ → List ℕ
name_of k text = if bytes_eq text unnamed then codes "_ " ++ decimal k else text

-- a token, where an unnamed variable is the k-th of its clause
unfoldable pub lexeme_of : ℕ → Word → List ℕ → Lexeme
lexeme_of k word.Not text = Not
lexeme_of k word.Div text = Div
lexeme_of k word.Mod text = Mod
lexeme_of k word.True text = Truth true
lexeme_of k word.False text = Truth false
lexeme_of k word.Atom text = Atom text
lexeme_of k word.Var text = Var (name_of k text)
lexeme_of k word.Inner text = Inner text
lexeme_of k word.Number text = option_map_or Num (value text) Other
lexeme_of k word.Str text = Str text
lexeme_of k (word.Sign s) text = Sign s
lexeme_of k word.End text = End
lexeme_of k word.Other text = Other

-- how many unnamed variables a token is
abbrev pub counts : Word → List ℕ → ℕ
counts word.Var text = if bytes_eq text unnamed then 1 else 0
counts _ text = 0

-- tokens whose first unnamed variable is the k-th of its clause
unfoldable pub lexemes_from : ℕ → List Tok → List Lexeme
lexemes_from k [] = []
lexemes_from k (t ∷ ts) = lexeme_of k (words.word t) t.text ∷ lexemes_from (k + counts (words.word t) t.text) ts

-- rule: the tokens of a clause
abbrev pub lexemes : List Tok → List Lexeme
lexemes = lexemes_from 1
