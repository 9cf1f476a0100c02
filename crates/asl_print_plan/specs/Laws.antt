-- What is true of plans as texts.
use Rattle.std.specs.Prelude.{◌≡◌, ℕ, List, Some}
use Rattle.asl_term.specs.declared.syntax.Plan.{Plan}
use Rattle.asl_print.specs.Agents.{plan_line}
use Rattle.asl_print_plan.specs.Plans.{IsPlan, plan_in}

-- the plan that is found in bytes is the one that they are
abbrev pub FoundIsPlan : Type 0
FoundIsPlan = (bytes : List ℕ) (p : Plan) → plan_in bytes ≡ Some p → IsPlan bytes p

-- and where they are a plan, that is found
abbrev pub PlanIsFound : Type 0
PlanIsFound = (bytes : List ℕ) (p : Plan) → IsPlan bytes p → plan_in bytes ≡ Some p

-- what is written of a plan that was read is that plan again
abbrev pub WrittenIsPlan : Type 0
WrittenIsPlan = (bytes : List ℕ) (p : Plan) → plan_in bytes ≡ Some p → plan_in (plan_line p) ≡ Some p
