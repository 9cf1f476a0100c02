use Rattle.mas_sites_scripts.proofs.OnTheWay.{none_on_the_way}
use Rattle.mas_sites_scripts.proofs.ways.open_ways.Goals as goal

pub invariant_of-result : goal.invariant_of-result
invariant_of-result c = rw c.loop-i.invariant (none_on_the_way c.loop-i.i)
