use Rattle.std.proofs.Common.{rules, ◌≡◌, ◌∙◌, true, false}
use Rattle.std.proofs.lemmas.Result.{IfOk-weaker}
use Rattle.asl_intend.specs.Stacks.{trigger_at}
use Rattle.asl_fail.specs.Fails.{is_goal, any_way}
use Rattle.asl_fail.proofs.Frames.{top_raised, top_not_raised, top_no_goal}
use Rattle.asl_fail.proofs.failure.raised_top.Goals as goal

pub returns-then-not-is_goal : goal.returns-then-not-is_goal
returns-then-not-is_goal c =
    let no : is_goal c.in-Some.pushed.now ≡ false = search rules in
    top_no_goal c.args.lib.now.plans c.args.number c.args.e c.args.stack.now c.in-Some.pushed.now c.in-Some.ensures no

pub returns-then-not-there : goal.returns-then-not-there
returns-then-not-there c =
    let none : any_way c.args.number c.args.e c.args.lib.now.plans (trigger_at c.args.stack.now 0) ≡ false = search rules in
    top_not_raised c.args.lib.now.plans c.args.number c.args.e c.args.stack.now none

pub returns : goal.returns
returns c =
    let is : is_goal c.in-Some.pushed.now ≡ true = search rules in
    let some : any_way c.args.number c.args.e c.args.lib.now.plans (trigger_at c.args.stack.now 0) ≡ true = search rules in
    IfOk-weaker c.top_failure.result _ _
    (λ r p. p ∙ top_raised c.args.lib.now.plans c.args.number c.args.e c.args.stack.now c.in-Some.pushed.now c.in-Some.ensures is some)
    c.top_failure.ensures
