use Rattle.mas_top_sites.proofs.Shared.{next_put}
use Rattle.mas_top_sites.proofs.names.add_names.Goals as goal

pub loop-k-preserved : goal.loop-k-preserved
loop-k-preserved c =
    next_put c.args.names.now c.args.more.now c.loop-k.names c.number.new.names c.loop-k.k c.in-Some.name.now c.loop-k.invariant
    c.len-k-end.ensures.distinct c.requires.new c.in-Some.ensures c.in_ok-number.ensures.names
