-- What is true of the grammar of expressions.
use Rattle.std.specs.Prelude.{◌≡◌, ℕ, List, [], false}
use Rattle.asl_parser_tree.specs.declared.lexeme.Lexeme.{Lexeme}
use Rattle.asl_parser_tree.specs.declared.meaning.Meaning.{Meaning}
use Rattle.asl_parser_expr.specs.Grammar.{Reads, disjunction}
use Rattle.asl_parser_tree.specs.Limits.{most_brackets, too_deep}

-- whole tokens are an expression with one meaning at most
abbrev pub OneMeaning : Type 0
OneMeaning = (n : ℕ) (xs : List Lexeme) (l m : Meaning) → Reads n disjunction xs [] l → Reads n disjunction xs [] m → l ≡ m

-- an expression whose brackets are within the limit is read within it
abbrev pub WithinLimit : Type 0
WithinLimit = (m : ℕ) (xs ys : List Lexeme) (v : Meaning) → Reads m disjunction xs ys v → too_deep most_brackets 0 xs ≡ false
    → Reads most_brackets disjunction xs ys v
