use Rattle.std.proofs.Common.{◌∙◌, ap, sym}
use Rattle.mas_mind.specs.declared.mind.Thought.{Thought}
use Rattle.mas_mind.specs.Minds.{Cycled}
use Rattle.mas_pool_task.proofs.Goings.{leaves}
use Rattle.mas_pool_task.proofs.going.answer.Goals as goal

pub returns-in-Ok-Spent-clause-went : goal.returns-in-Ok-Spent-clause-went
returns-in-Ok-Spent-clause-went g c =
    let thought : Thought → Cycled g.row.M.Denot = λ t. record { mind = c.think-thought.new.self; thought = t } in
    leaves g.M.Mind.kind c.args.baton.now c.args.going.now c.exchange_leave.new.seat c.args.input c.think-thought.new.self c.requires.asked c.requires.seat c.exchange_leave.ensures.seat
    (ap (λ (m : g.row.M.Denot). g.M.Mind.kind.cycle m c.args.input) (sym c.value_mut.ensures.value) ∙ c.in-Ok-Spent.ensures.made ∙ ap thought c.in-Ok-Spent.field-0-is) c.exchange_leave.ensures.left
