-- Formulas that are one literal, and conjunctions of simple parts.
use Rattle.std.specs.Prelude.{Bool, true, false, ◌&&◌}
use Rattle.asl_term.specs.declared.syntax.Expr.{Expr}
use Rattle.asl_term.specs.declared.syntax.Expr.TheOpen.{Expr-F}
use Rattle.asl_term.specs.declared.syntax.Expr.TheOpen as layer
use Rattle.asl_term.specs.declared.syntax.Expr.TheFolds.{fold-Expr}

-- whether a formula is one literal, and whether each part of it, of what `&` joins, is a literal, `not` before a literal, or a relation
pub record Parts : Type 0 where
  pub literal : Bool
  pub simple : Bool

abbrev pub no_parts : Parts
no_parts = record { literal = false; simple = false }

abbrev pub parts_step : Expr-F Parts → Parts
parts_step (layer.Holds l) = record { literal = true; simple = true }
parts_step (layer.Rel r) = record { literal = false; simple = true }
parts_step (layer.Not p) = record { literal = false; simple = p.literal }
parts_step (layer.And p q) = record { literal = false; simple = p.simple && q.simple }
parts_step other = no_parts

abbrev pub parts : Expr → Parts
parts = fold-Expr Parts parts_step

abbrev pub is_literal : Expr → Bool
is_literal e = (parts e).literal

abbrev pub has_parts : Expr → Bool
has_parts e = (parts e).simple
