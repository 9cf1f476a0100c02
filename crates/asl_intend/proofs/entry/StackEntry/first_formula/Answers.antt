use Rattle.std.proofs.Common.{◌≡◌, ◌∙◌, ap, sym, subst, Some, []}
use Rattle.asl_unify.specs.Logs.{later}
use Rattle.asl_unify.specs.Limits.{Passes}
use Rattle.asl_unify.specs.Applied.{put_formula}
use Rattle.asl_unify.specs.Turns.{value_in}
use Rattle.asl_intend.specs.Entries.{seen}
use Rattle.asl_intend.specs.Stacks as stacks
use Rattle.asl_intend.proofs.Logs as logs
use Rattle.asl_intend.proofs.entry.StackEntry.first_formula.Goals as goal

pub returns-in-Err-clause-fault : goal.returns-in-Err-clause-fault
returns-in-Err-clause-fault c =
    let f = c.in-Some.f in
    let left = later c.since.result in
    let same : Some (put_formula (value_in c.no_subst-none.result left) f.formula) ≡ stacks.first (seen c.args.log.now c.args.self.now) =
    ap (λ own. Some (put_formula (value_in own left) f.formula)) c.no_subst-none.ensures
    ∙ ap (λ rest. Some (put_formula (value_in [] rest) f.formula)) c.since.ensures
    ∙ sym (logs.first_put c.args.log.now c.args.self.now f c.in-Some.is) in
    subst (λ o. Passes (stacks.is_bounded o) c.in-Err.e) same c.in-Err.ensures.fault
