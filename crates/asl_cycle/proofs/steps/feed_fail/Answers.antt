use Rattle.std.proofs.Common.{None, ap, ◌∙◌}
use Rattle.asl_intend.specs.declared.agenda.Agenda.{Agenda}
use Rattle.asl_intend.specs.declared.agenda.Error.TheVariants as error
use Rattle.asl_cycle.specs.inner.Acting.{falls_acting}
use Rattle.asl_cycle.proofs.Awaiting.{on_ok}
use Rattle.asl_cycle.proofs.steps.feed_fail.Goals as goal

pub returns-clause-free : goal.returns-clause-free
returns-clause-free g c =
    let a = c.args in
    on_ok c.put_fall.result (ap (λ (b : Agenda). b.acting) c.in_ok-fell.ensures.agenda
    ∙ falls_acting a.k.now.lib.plans a.p.now.number error.ActionFailed (record a.p.now.agenda { acting = None }) a.waits.stack)
