-- The plans that contents of messages are, and whether a reply says something.
use Rattle.std.specs.Prelude.{Bool, false, ◌&&◌, ◌==◌, cond, List, [], ◌∷◌, length, Option, None, Some, is_none, codes}
use Rattle.std.specs.Option.{option_map}
use Rattle.std.specs.Str.{bytes_eq}
use Rattle.asl_term.specs.declared.syntax.Term.{Term}
use Rattle.asl_term.specs.declared.syntax.Term.TheOpen.{Term-F}
use Rattle.asl_term.specs.declared.syntax.Term.TheOpen as layer
use Rattle.asl_term.specs.declared.syntax.Term.TheViews.{out-Term}
use Rattle.asl_term.specs.declared.syntax.Plan.{Plan}
use Rattle.asl_plans.specs.declared.entry.Which.{Which}
use Rattle.asl_plans.specs.declared.entry.Which.TheVariants as which
use Rattle.asl_print_plan.specs.Plans.{plan_in}
use Rattle.asl_exec_circumstance.specs.Contents.{before, is_atom}

abbrev pub plan_layer : Term-F Term → Option Plan
plan_layer (layer.Str s) = plan_in s
plan_layer other = None

-- a string that is a plan
abbrev pub plan_of : Term → Option Plan
plan_of t = plan_layer (out-Term t)

-- terms that all are strings which are plans
abbrev pub all_plans : List Term → Option (List Plan)
all_plans [] = Some []
all_plans (t ∷ ts) = before (plan_of t) (all_plans ts)

abbrev pub plans_layer : Term-F Term → Option (List Plan)
plans_layer (layer.Str s) = before (plan_in s) (Some [])
plans_layer (layer.List l) = cond (is_none l.tail) (all_plans l.items) None
plans_layer other = None

-- the plans that a string is, or a list of strings without a tail
abbrev pub plans_of : Term → Option (List Plan)
plans_of t = plans_layer (out-Term t)

-- ---- answers

abbrev pub nothing_layer : Term-F Term → Bool
nothing_layer (layer.Lit l) = is_atom l && bytes_eq l.functor (codes "false")
nothing_layer (layer.List l) = (length l.items == 0) && is_none l.tail
nothing_layer other = false

-- `false` or `[]`
abbrev pub is_nothing : Term → Bool
is_nothing t = nothing_layer (out-Term t)

-- ---- which plans are meant

abbrev pub which_layer : Term-F Term → Option Which
which_layer (layer.Str s) = option_map which.Same (plan_in s)
which_layer (layer.Lit l) = cond (is_atom l) (Some (which.Label l.functor)) None
which_layer other = None

-- the plan that a string is, or those with the label that an atom is
abbrev pub which_of : Term → Option Which
which_of t = which_layer (out-Term t)
