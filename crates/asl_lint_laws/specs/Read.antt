-- The source of an agent as a reader makes it: its variables have no numbers, no list ends in a list, beliefs have no variables, and
-- the calls that send have as many arguments as they take.
use Rattle.std.specs.Prelude.{◌≡◌, true, List}
use Rattle.std.specs.List.{AllByRecursion}
use Rattle.asl_term.specs.declared.syntax.AgentText.{AgentText}
use Rattle.asl_term.specs.declared.syntax.Formula.{Formula}
use Rattle.asl_term.specs.declared.syntax.Formula.TheVariants as formula
use Rattle.asl_term.specs.declared.syntax.LiteralOf.{LiteralOf}
use Rattle.asl_term.specs.declared.syntax.Plan.{Plan}
use Rattle.asl_term.specs.declared.syntax.Term.{Term}
use Rattle.asl_term.specs.Exprs.{is_ground_literal}
use Rattle.asl_unify.specs.Facts.{Rule}
use Rattle.asl_lint_laws.specs.Fresh.{ExprBelow, FactBelow}
use Rattle.asl_lint_laws.specs.Served.{HasWritten}
use Rattle.asl_lint_laws.specs.Linted.{IsMergedArg, HasArity}
use Rattle.asl_lint_laws.specs.Agendas.{IsMerged, IsOlder, FormulaBelow}

abbrev pub AreGround : List (LiteralOf Term) → Type 0
AreGround = AllByRecursion (λ b. is_ground_literal b ≡ true)

abbrev pub HasMerged : Formula → Type 0
HasMerged (formula.Achieve g) = IsMerged g
HasMerged (formula.Spawn g) = IsMerged g
HasMerged (formula.Test g) = IsMerged g
HasMerged (formula.Inner c) = AllByRecursion IsMergedArg c.args × HasArity c
HasMerged other = Unit {0}

pub record IsReadPlan (p : Plan) : Type 0 where
  pub trigger : HasWritten p
  pub context : ExprBelow 1 p.context
  pub below : AllByRecursion (FormulaBelow 1) p.body
  pub merged : AllByRecursion HasMerged p.body

pub record IsRead (t : AgentText) : Type 0 where
  pub beliefs : AreGround t.beliefs
  pub rules : AllByRecursion (λ c. FactBelow (Rule c)) t.rules
  pub goals : AllByRecursion (IsOlder 1) t.goals
  pub plans : AllByRecursion IsReadPlan t.plans
