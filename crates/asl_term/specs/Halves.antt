-- Which expressions are conjunctions.
use Rattle.std.specs.Prelude.{Bool, true, false}
use Rattle.asl_term.specs.declared.syntax.Expr.{Expr}
use Rattle.asl_term.specs.declared.syntax.Expr.TheOpen.{Expr-F}
use Rattle.asl_term.specs.declared.syntax.Expr.TheOpen as layer
use Rattle.asl_term.specs.declared.syntax.Expr.TheViews.{out-Expr}

abbrev pub is_and : Expr-F Expr → Bool
is_and (layer.And left right) = true
is_and other = false

abbrev pub is_conjunction : Expr → Bool
is_conjunction e = is_and (out-Expr e)
