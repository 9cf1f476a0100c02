use Rattle.std.proofs.Common.{subst}
use Rattle.asl_unify.specs.Limits.{Passes}
use Rattle.asl_unify.specs.Applied.{put_literal, within_literal}
use Rattle.asl_unify.specs.Turns.{value_in}
use Rattle.asl_intend.proofs.entry.StackEntry.bounded_trigger.Goals as goal

pub returns-in-Err-clause-fault : goal.returns-in-Err-clause-fault
returns-in-Err-clause-fault c =
    let s = c.args.self.now in
    subst (λ rest. Passes (within_literal (put_literal (value_in s.own rest) s.trigger.lit)) c.in-Err.e) c.since.ensures c.in-Err.ensures.fault
