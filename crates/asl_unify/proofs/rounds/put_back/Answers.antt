use Rattle.std.proofs.Common.{rules, arith}
use Rattle.asl_unify.proofs.Repeats.{back_more, back_all}
use Rattle.asl_unify.proofs.rounds.put_back.Goals as goal

pub loop-b-preserved : goal.loop-b-preserved
loop-b-preserved c =
    back_more c.args.begun.now c.loop-b.b-index c.b-item.result c.b-item.result c.loop-b.all.items c.add_work.new.work.items c.loop-b.invariant (search rules) (search rules) (search rules)

pub returns-clause-ok : goal.returns-clause-ok
returns-clause-ok c =
    back_all c.args.begun.now c.loop-b.b-index c.args.work.now.items c.loop-b.all.items c.add_work-2.new.work.items c.loop-b.invariant (search (rules, arith)) (search rules)
