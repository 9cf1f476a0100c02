use Rattle.std.proofs.Common.{ap, ◌∙◌}
use Rattle.asl_intend.specs.declared.agenda.Agenda.{Agenda}
use Rattle.asl_cycle.specs.inner.Acting.{falls_acting}
use Rattle.asl_cycle.proofs.Awaiting.{on_ok}
use Rattle.asl_cycle.proofs.steps.no_plan.Goals as goal

pub returns-clause-acting : goal.returns-clause-acting
returns-clause-acting g c =
    let a = c.args in
    on_ok c.put_fall.result (ap (λ (b : Agenda). b.acting) c.in_ok-fell.ensures.agenda
    ∙ falls_acting a.k.now.lib.plans a.p.now.number c.error_of-error.result a.p.now.agenda c.in_ok-stack.stack)
