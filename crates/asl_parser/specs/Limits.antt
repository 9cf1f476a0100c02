-- The limits of the trees of a clause.
use Rattle.std.specs.Prelude.{Bool, ◌&&◌}
use Rattle.std.specs.List.{list_all}
use Rattle.asl_term.specs.declared.syntax.Expr.TheVariants as expr
use Rattle.asl_term.specs.declared.syntax.Formula.{Formula}
use Rattle.asl_term.specs.declared.syntax.Formula.TheVariants as formula
use Rattle.asl_parser_tree.specs.Limits.{within_literal, within_expr}
use Rattle.asl_parser.specs.declared.sentence.Sentence.{Sentence}
use Rattle.asl_parser.specs.declared.sentence.Sentence.TheVariants as sentence

-- an item with a sign by its literal, another as an expression
abbrev pub within_formula : Formula → Bool
within_formula (formula.Achieve l) = within_literal l
within_formula (formula.Spawn l) = within_literal l
within_formula (formula.Test l) = within_literal l
within_formula (formula.Add l) = within_literal l
within_formula (formula.Del l) = within_literal l
within_formula (formula.Replace l) = within_literal l
within_formula (formula.Act l) = within_literal l
within_formula (formula.Inner c) = within_expr (expr.Inner c)
within_formula (formula.Rel r) = within_expr (expr.Rel r)

-- rule: each tree is within the limits
abbrev pub is_within : Sentence → Bool
is_within (sentence.Belief l) = within_literal l
is_within (sentence.Rule c) = within_literal c.head && within_expr c.body
is_within (sentence.Goal l) = within_literal l
is_within (sentence.Plan p) = within_literal p.trigger.lit && (within_expr p.context && list_all within_formula p.body)
