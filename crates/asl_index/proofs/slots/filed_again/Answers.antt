use Rattle.std.proofs.Common.{arith}
use Rattle.asl_index.proofs.Packs.{all_filed, all_listed}
use Rattle.asl_index.proofs.slots.filed_again.Goals as goal

pub returns-clause-filed : goal.returns-clause-filed
returns-clause-filed c =
    let l = c.loop-k in
    all_filed c.args.slots.now l.k l.n l.frames l.keys l.invariant (omega (arith, c.loop-k-test.false))

pub returns-clause-listed : goal.returns-clause-listed
returns-clause-listed c =
    let l = c.loop-k in
    all_listed c.args.slots.now l.k l.n l.frames l.keys l.invariant (omega (arith, c.loop-k-test.false))
