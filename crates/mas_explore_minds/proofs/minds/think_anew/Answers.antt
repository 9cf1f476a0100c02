use Rattle.std.proofs.Common.{◌≡◌, true, false}
use Rattle.mas_explore_minds.proofs.Fitting.{thinks_nothing, thinks_led}
use Rattle.mas_explore_minds.proofs.minds.think_anew.Goals as goal

pub returns-then-nothing-clause-comes : goal.returns-then-nothing-clause-comes
returns-then-nothing-clause-comes g c =
    let e : c.in_ok-thought.field-0.nothing ≡ true = cc in
    thinks_nothing g.M.Mind.kind (g.F.Fresh.first c.args.fresh.now) c.args.minds.now c.args.cycle c.in_ok-thought.field-0.thought c.in_ok-thought.field-0.nothing c.in_ok-thought.ensures e

pub returns-clause-comes : goal.returns-clause-comes
returns-clause-comes g c =
    let e : c.in_ok-thought.field-0.nothing ≡ false = cc in
    thinks_led g.M.Mind.kind (g.F.Fresh.first c.args.fresh.now) c.args.minds.now c.number_thought.new.minds c.number_linked.new.minds c.args.cycle c.in_ok-thought.field-0.thought
    c.in_ok-thought.field-0.nothing c.in_ok-thought-2.thought c.in_ok-mind.mind c.in_ok-thought.ensures e c.in_ok-thought-2.ensures.grown c.in_ok-thought-2.ensures.at c.in_ok-mind.ensures
