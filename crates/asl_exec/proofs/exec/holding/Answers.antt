use Rattle.std.proofs.Common.{◌≡◌, IfOk, subst}
use Rattle.std.specs.Prelude.{IfErr}
use Rattle.asl_unify.specs.Comparing.{holds, Gives, Refused}
use Rattle.asl_exec.proofs.exec.holding.Goals as goal

pub returns-clause-ok : goal.returns-clause-ok
returns-clause-ok c = subst (λ s. IfOk c.compare.result (λ o. holds c.args.r.now s ≡ Gives o)) c.no_subst.ensures c.compare.ensures.ok

pub returns-clause-fault : goal.returns-clause-fault
returns-clause-fault c = subst (λ s. IfErr c.compare.result (λ e. Refused (holds c.args.r.now s) e)) c.no_subst.ensures c.compare.ensures.fault
