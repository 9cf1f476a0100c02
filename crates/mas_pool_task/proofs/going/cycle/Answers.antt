use Rattle.std.proofs.Common.{subst}
use Rattle.mas_baton.specs.Seats.{SenseExchanged, GivenIf}
use Rattle.mas_pool_task.proofs.Goings.{asked, answered, left}
use Rattle.mas_pool_task.proofs.going.cycle.Goals as goal

pub answer-requires-clause-asked : goal.answer-requires-clause-asked
answer-requires-clause-asked g c κs within =
    let i = c.in-Ok-Input in
    asked g.M.Mind.kind c.args.going.now c.exchange_sense.new.seat i.input c.requires.rests (subst (SenseExchanged c.args.going.now.seat c.exchange_sense.new.seat) i.field-0-is i.ensures.sensed)
    (subst (GivenIf c.args.going.now.seat) i.field-0-is i.ensures.given)

pub returns-in-Ok-Input-clause-went : goal.returns-in-Ok-Input-clause-went
returns-in-Ok-Input-clause-went g c =
    let i = c.in-Ok-Input in
    answered g.M.Mind.kind c.answer.result c.args.baton.now c.args.going.now c.answer.new.going c.exchange_sense.new.seat i.input c.requires.seat c.exchange_sense.ensures.seat
    (subst (SenseExchanged c.args.going.now.seat c.exchange_sense.new.seat) i.field-0-is i.ensures.sensed) c.answer.ensures.went

pub returns-in-Ok-Left-clause-went : goal.returns-in-Ok-Left-clause-went
returns-in-Ok-Left-clause-went g c =
    let i = c.in-Ok-Left in
    left g.M.Mind.kind c.args.baton.now c.args.going.now c.exchange_sense.new.seat i.field-0-0 c.requires.rests c.requires.seat c.exchange_sense.ensures.seat
    (subst (SenseExchanged c.args.going.now.seat c.exchange_sense.new.seat) i.field-0-is i.ensures.sensed)
