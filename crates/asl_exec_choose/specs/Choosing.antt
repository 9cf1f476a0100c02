-- Which plan an event gets: the first relevant one whose context is found.
use Rattle.std.specs.Prelude.{ℕ, List, [], ◌∷◌, map, Option, None, Some}
use Rattle.asl_term.specs.declared.syntax.Plan.{Plan}
use Rattle.asl_term.specs.declared.syntax.Trigger.{Trigger}
use Rattle.asl_unify.specs.declared.subst.Pair.{Pair}
use Rattle.asl_unify.specs.Renamed.{renamed_literal, renamed_formula, renamed_expr}
use Rattle.asl_beliefs.specs.Bases.{facts_of}
use Rattle.asl_resolve.specs.declared.answers.Answer.{Answer}
use Rattle.asl_resolve.specs.declared.answers.Answer.TheVariants as answer
use Rattle.asl_resolve.specs.Base.{base}
use Rattle.asl_resolve.specs.Marks.{marks, decide}
use Rattle.asl_plans.specs.declared.library.Choice.{Choice}
use Rattle.asl_plans.specs.Libraries.{plan_at}
use Rattle.asl_intend.specs.declared.entry.Means.{Means}
use Rattle.asl_exec_circumstance.specs.Circumstance.{Surroundings, Circumstance}
use Rattle.asl_exec_choose.specs.declared.chosen.Chosen.{Chosen}
use Rattle.asl_exec_choose.specs.declared.chosen.Chosen.TheVariants as chosen

abbrev pub renamed_trigger : ℕ → Trigger → Trigger
renamed_trigger n t = record { add = t.add; kind = t.kind; lit = renamed_literal n t.lit }

-- a plan's means, renamed
abbrev pub renamed_means : ℕ → Plan → Means
renamed_means n plan = record { trigger = renamed_trigger n plan.trigger; body = map (renamed_formula n) plan.body }

-- what the search for a plan's context answers, renamed, under the plan's match and from the counter
abbrev pub sought : Surroundings → Circumstance → ℕ → Plan → List Pair → Answer
sought k p n plan s = decide k.budgets.tries (marks (base (facts_of p.beliefs k.rules) k.solve) k.budgets.depth (renamed_expr n plan.context) s p.number)

-- rule: a context that is Found chooses its plan, one that is Spent ends the cycle, and all others lead to the next plan
abbrev pub choose_by : ℕ → Plan → Answer → Chosen → Chosen
choose_by n plan (answer.Found s m) rest = chosen.Plan (renamed_means n plan) s m
choose_by n plan (answer.Spent b) rest = chosen.Spent b
choose_by n plan other rest = rest

abbrev pub choose_at : Surroundings → Circumstance → ℕ → Option Plan → List Pair → Chosen → Chosen
choose_at k p n None s rest = rest
choose_at k p n (Some plan) s rest = choose_by n plan (sought k p n plan s) rest

-- rule: the first of the relevant plans whose context is found, those before it being neither found nor spent
abbrev pub choose : Surroundings → Circumstance → ℕ → List Choice → Chosen
choose k p n [] = chosen.Nothing
choose k p n (c ∷ choices) = choose_at k p n (plan_at k.plans c.plan) c.subst (choose k p n choices)
