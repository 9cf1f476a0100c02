-- The parts of a guard: what `&` joins.
use Rattle.std.specs.Prelude.{List, [], ◌∷◌, ◌++◌, map, Option, Some, None, unwrap_or}
use Rattle.asl_term.specs.declared.syntax.Expr.{Expr}
use Rattle.asl_term.specs.declared.syntax.Expr.TheVariants as expr
use Rattle.asl_term.specs.declared.syntax.Expr.TheOpen.{Expr-F}
use Rattle.asl_term.specs.declared.syntax.Expr.TheOpen as layer
use Rattle.asl_term.specs.declared.syntax.Expr.TheFolds.{fold-Expr}
use Rattle.asl_parser_tree.specs.Meanings.{◌>>=◌}
use Rattle.env_file.specs.declared.statement.Part.{Part}
use Rattle.env_file.specs.declared.statement.Part.TheVariants.{Holds, Denied, Related}

-- `not` stands before one literal
abbrev pub denied : List Part → Option (List Part)
denied (Holds l ∷ []) = Some (Denied l ∷ [])
denied ps = None

abbrev pub both : Option (List Part) → Option (List Part) → Option (List Part)
both a b = a >>= λ ps. b >>= λ qs. Some (ps ++ qs)

abbrev pub parts_step : Expr-F (Option (List Part)) → Option (List Part)
parts_step (layer.Holds l) = Some (Holds l ∷ [])
parts_step (layer.Rel r) = Some (Related r ∷ [])
parts_step (layer.Not o) = o >>= denied
parts_step (layer.And a b) = both a b
parts_step other = None

-- rule: the parts of a formula, in order, if each is a literal, `not` before a literal, or a relation
abbrev pub parts : Expr → Option (List Part)
parts = fold-Expr (Option (List Part)) parts_step

-- an act without a guard has no parts
abbrev pub guard_parts : Option Expr → Option (List Part)
guard_parts None = Some []
guard_parts (Some e) = parts e

-- the parts of the guard of a clause, which has them
abbrev pub said_parts : Option Expr → List Part
said_parts g = unwrap_or (guard_parts g) []

abbrev pub expr_of : Part → Expr
expr_of (Holds l) = expr.Holds l
expr_of (Denied l) = expr.Not (expr.Holds l)
expr_of (Related r) = expr.Rel r

abbrev pub exprs_of : List Part → List Expr
exprs_of = map expr_of
