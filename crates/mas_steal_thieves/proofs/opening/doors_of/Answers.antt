use Rattle.std.proofs.Common.{rules}
use Rattle.mas_steal_thieves.proofs.Cuttings.{showing_more, showing_all}
use Rattle.mas_steal_thieves.proofs.opening.doors_of.Goals as goal

pub loop-own-preserved : goal.loop-own-preserved
loop-own-preserved g c = showing_more c.args.owners.now.items _ _ _ c.own-item.result _ c.loop-own.invariant (search rules) (search rules) c.in_ok-stealer.ensures.0 c.in_ok-stealer.ensures.1 c.in_ok-push.ensures.items

pub returns : goal.returns
returns g c = showing_all _ _ _ c.loop-own.invariant (search rules)
