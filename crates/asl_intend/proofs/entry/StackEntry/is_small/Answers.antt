use Rattle.std.proofs.Common.{rules, arith, subst, Some, None}
use Rattle.std.proofs.lemmas.Grind.{common_steps}
use Rattle.asl_term.specs.declared.syntax.Term.TheVariants as term
use Rattle.asl_unify.specs.Applied.{put_literal}
use Rattle.asl_unify.specs.inner.Leaves.{LeavesOf}
use Rattle.asl_unify.specs.Turns.{value_in}
use Rattle.asl_intend.proofs.entry.StackEntry.is_small.Goals as goal

pub returns-in-Some : goal.returns-in-Some
returns-in-Some c =
    let s = c.args.self.now in
    let told = subst (λ rest. LeavesOf (term.Lit (put_literal (value_in s.own rest) s.trigger.lit)) 250 10000 (Some c.in-Some.field-0)) c.since-rest.ensures
    c.in-Some.ensures in
    let levels = told.0 in
    let nodes = told.1 in
    first_of (search (rules, arith), grind (arith, common_steps, levels, nodes))

pub returns-in-None : goal.returns-in-None
returns-in-None c =
    let s = c.args.self.now in
    let told = subst (λ rest. LeavesOf (term.Lit (put_literal (value_in s.own rest) s.trigger.lit)) 250 10000 None) c.since-rest.ensures c.in-None.ensures in
    first_of (search (rules, arith), grind (arith, common_steps, told))
