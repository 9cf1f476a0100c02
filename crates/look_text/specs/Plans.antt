-- What is written of rules and plans.
use Rattle.std.specs.Prelude.{ℕ, zero, suc, ◌==◌, Bool, if◌then◌else◌, List, ◌++◌, codes}
use Rattle.std.specs.List.{flat_map, list_any}
use Rattle.asl_term.specs.declared.syntax.Clause.{Clause}
use Rattle.asl_term.specs.declared.syntax.Plan.{Plan}
use Rattle.asl_term.specs.Exprs.{literal_text, text}
use Rattle.asl_print.specs.Agents.{label_text, trigger_text, context_text}
use Rattle.asl_print.specs.Agents as print
use Rattle.asl_plans.specs.declared.entry.OwnedPlan.{OwnedPlan}
use Rattle.look_lines.specs.Lines.{line, name_of}

-- `HEAD :- BODY`
abbrev pub rule_line : Clause → List ℕ
rule_line r = line (literal_text r.head ++ codes " :- " ++ text r.body)

-- who a plan is from: `self` stands for the agent's own source
abbrev pub owner_name : List (List ℕ) → ℕ → List ℕ
owner_name names zero = codes "self"
owner_name names (suc a) = name_of names (suc a)

abbrev pub owners_text : List (List ℕ) → List ℕ → List ℕ
owners_text names owners = flat_map (λ o. codes " " ++ owner_name names o) owners

-- a plan without its body
unfoldable pub plan_head : Plan → List ℕ
plan_head p = label_text p.label ++ trigger_text p.trigger ++ context_text p.context

-- of a plan of the agent's own source its head is written; one that others alone told is written whole
abbrev pub is_own : List ℕ → Bool
is_own owners = list_any (λ o. o == 0) owners

unfoldable pub own_plan : List (List ℕ) → OwnedPlan → List ℕ
own_plan names e = codes "from" ++ owners_text names e.owners ++ codes "  " ++ plan_head e.plan

unfoldable pub told_plan : List (List ℕ) → OwnedPlan → List ℕ
told_plan names e = codes "told  from" ++ owners_text names e.owners ++ codes "  " ++ print.plan_line e.plan

unfoldable pub owned_plan : List (List ℕ) → OwnedPlan → List ℕ
owned_plan names e = if is_own e.owners then own_plan names e else told_plan names e

abbrev pub plan_line : List (List ℕ) → OwnedPlan → List ℕ
plan_line names e = line (owned_plan names e)

-- ---- the same in parts: with what the line begins, and what is shown of the plan

abbrev pub lead : Bool → List ℕ
lead own = if own then codes "  from" else codes "  told  from"

abbrev pub shown_plan : Bool → Plan → List ℕ
shown_plan own p = if own then plan_head p else print.plan_line p
