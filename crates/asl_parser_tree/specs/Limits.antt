-- The limits of a clause: its brackets and its trees.
use Rattle.std.specs.Prelude.{ℕ, ◌+◌, ◌-◌, Bool, true, false, ◌&&◌, leb, nat_lt, List, [], ◌∷◌, if◌then◌else◌}
use Rattle.asl_lexer.specs.declared.token.Sign.TheVariants as sign
use Rattle.asl_term.specs.declared.syntax.LiteralOf.{LiteralOf}
use Rattle.asl_term.specs.declared.syntax.Term.{Term}
use Rattle.asl_term.specs.declared.syntax.Expr.{Expr}
use Rattle.asl_term.specs.Limits.{most_nodes, most_levels}
use Rattle.asl_term.specs.Trees as tree
use Rattle.asl_term.specs.Exprs.{size, depth, literal_size, literal_depth}
use Rattle.asl_parser_tree.specs.declared.lexeme.Lexeme.{Lexeme}
use Rattle.asl_parser_tree.specs.declared.lexeme.Lexeme.TheVariants.{Sign}

-- so many brackets are open at one place of a clause at most, as many as a term has levels
abbrev pub most_brackets : ℕ
most_brackets = most_levels

-- rule: whether more brackets are open at one place, where so many are open before; a closing one closes any
unfoldable pub too_deep : ℕ → ℕ → List Lexeme → Bool
too_deep limit count [] = false
too_deep limit count (Sign sign.Open ∷ ts) = if nat_lt count limit then too_deep limit (count + 1) ts else true
too_deep limit count (Sign sign.OpenSquare ∷ ts) = if nat_lt count limit then too_deep limit (count + 1) ts else true
too_deep limit count (Sign sign.Close ∷ ts) = too_deep limit (count - 1) ts
too_deep limit count (Sign sign.CloseSquare ∷ ts) = too_deep limit (count - 1) ts
too_deep limit count (t ∷ ts) = too_deep limit count ts

-- rule: no more nodes and no more levels than a tree may have
abbrev pub within : ℕ → ℕ → Bool
within nodes levels = leb nodes most_nodes && leb levels most_levels

abbrev pub within_term : Term → Bool
within_term t = within (tree.size t) (tree.depth t)

abbrev pub within_literal : LiteralOf Term → Bool
within_literal l = within (literal_size l) (literal_depth l)

abbrev pub within_expr : Expr → Bool
within_expr e = within (size e) (depth e)
