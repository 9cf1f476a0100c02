-- The line of a plan, in parts.
use Rattle.std.proofs.Common.{◌≡◌, Bool, true, false, cond, ℕ, List, ◌++◌, sym, ap, ◌∙◌, append_assoc}
use Rattle.std.specs.Prelude.{codes}
use Rattle.asl_plans.specs.declared.entry.OwnedPlan.{OwnedPlan}
use Rattle.look_lines.specs.Lines.{line}
use Rattle.look_text.specs.Plans.{is_own, lead, owners_text, owned_plan, own_plan, plan_line, shown_plan, told_plan}

in_parts : (own : Bool) (names : List (List ℕ)) (e : OwnedPlan) → line (cond own (own_plan names e) (told_plan names e))
    ≡ lead own ++ (owners_text names e.owners ++ (codes "  " ++ (shown_plan own e.plan ++ codes "\n")))
unfolding line own_plan told_plan
in_parts true names e =
    let owners = owners_text names e.owners in
    let plan = shown_plan true e.plan in
    ap (λ t. codes "  from" ++ t) (append_assoc (owners ++ codes "  ") plan (codes "\n") ∙ append_assoc owners (codes "  ") (plan ++ codes "\n"))
in_parts false names e =
    let owners = owners_text names e.owners in
    let plan = shown_plan false e.plan in
    ap (λ t. codes "  told  from" ++ t) (append_assoc (owners ++ codes "  ") plan (codes "\n") ∙ append_assoc owners (codes "  ") (plan ++ codes "\n"))

plan_parts : (names : List (List ℕ)) (e : OwnedPlan)
    → plan_line names e ≡ lead (is_own e.owners) ++ (owners_text names e.owners ++ (codes "  " ++ (shown_plan (is_own e.owners) e.plan ++ codes "\n")))
unfolding owned_plan
plan_parts names e = in_parts (is_own e.owners) names e

-- when they are put one behind the other
pub plan_put : (names : List (List ℕ)) (e : OwnedPlan) (old begun named apart shown new : List ℕ) → begun ≡ old ++ lead (is_own e.owners) →
    named ≡ begun ++ owners_text names e.owners → apart ≡ named ++ codes "  " → shown ≡ apart ++ shown_plan (is_own e.owners) e.plan →
    new ≡ shown ++ codes "\n" → new ≡ old ++ plan_line names e
plan_put names e old begun named apart shown new b n a s w =
    let first = lead (is_own e.owners) in
    let owners = owners_text names e.owners in
    let plan = shown_plan (is_own e.owners) e.plan in
    let end = codes "\n" in
    w ∙ ap (λ t. t ++ end) (s ∙ ap (λ t. t ++ plan) (a ∙ ap (λ t. t ++ codes "  ") (n ∙ ap (λ t. t ++ owners) b)))
    ∙ append_assoc (((old ++ first) ++ owners) ++ codes "  ") plan end ∙ append_assoc ((old ++ first) ++ owners) (codes "  ") (plan ++ end)
    ∙ append_assoc (old ++ first) owners (codes "  " ++ (plan ++ end)) ∙ append_assoc old first (owners ++ (codes "  " ++ (plan ++ end)))
    ∙ ap (λ t. old ++ t) (sym (plan_parts names e))
