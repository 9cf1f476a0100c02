-- The limits of the trees of a clause.
use Rattle.std.specs.Prelude.{Bool, true, ◌&&◌, Option, Some, None}
use Rattle.std.specs.List.{list_all}
use Rattle.asl_term.specs.declared.syntax.Expr.{Expr}
use Rattle.asl_parser_tree.specs.Limits.{within_literal, within_expr}
use Rattle.env_file.specs.declared.statement.Effect.{Effect}
use Rattle.env_file.specs.declared.statement.Effect.TheVariants.{Added, Deleted, Dropped}
use Rattle.env_file.specs.declared.statement.Statement.{Statement}
use Rattle.env_file.specs.declared.statement.Statement.TheVariants as statement

abbrev pub within_guard : Option Expr → Bool
within_guard None = true
within_guard (Some e) = within_expr e

abbrev pub within_effect : Effect → Bool
within_effect (Added l) = within_literal l
within_effect (Deleted l) = within_literal l
within_effect (Dropped name) = true

-- each tree is within the limits
abbrev pub is_within : Statement → Bool
is_within (statement.Fact l) = within_literal l
is_within (statement.Hide name) = true
is_within (statement.Use name) = true
is_within (statement.Act a) = within_literal a.head && (within_guard a.guard && list_all within_effect a.effects)
