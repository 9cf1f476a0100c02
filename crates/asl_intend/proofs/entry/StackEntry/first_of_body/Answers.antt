use Rattle.std.proofs.Common.{◌≡◌, ◌∙◌, ap, subst, drop, Some}
use Rattle.std.specs.Option.{option_map}
use Rattle.asl_unify.specs.Logs.{later}
use Rattle.asl_unify.specs.Limits.{Passes}
use Rattle.asl_unify.specs.Applied.{put_formula}
use Rattle.asl_unify.specs.Turns.{value_in}
use Rattle.asl_intend.specs.Entries as spec
use Rattle.asl_intend.specs.Stacks as stacks
use Rattle.asl_intend.proofs.entry.StackEntry.first_of_body.Goals as goal

pub returns-in-Err-clause-fault : goal.returns-in-Err-clause-fault
returns-in-Err-clause-fault c =
    let own = c.args.self.now.own in
    let same : Some (put_formula (value_in own (later c.since.result)) c.in-Some.f.now) ≡ spec.first_of_body c.args.log.now c.args.self.now =
    ap (λ rest. Some (put_formula (value_in own rest) c.in-Some.f.now)) c.since.ensures
    ∙ ap (option_map (put_formula (value_in own (drop c.args.self.now.since c.args.log.now)))) c.in-Some.ensures in
    subst (λ o. Passes (stacks.is_bounded o) c.in-Err.e) same c.in-Err.ensures.fault
