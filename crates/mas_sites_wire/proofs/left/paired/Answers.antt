use Rattle.std.proofs.Common.{◌≡◌, ◌∙◌, length, map-id, ap, sym, rules}
use Rattle.std.proofs.lemmas.Iterator.Adapters.{YieldsList-from_vec}
use Rattle.std.proofs.lemmas.Iterator.Consumers.{YieldsList-end}
use Rattle.mas_sites_wire.proofs.Lefts.{none_paired, all_paired}
use Rattle.mas_sites_wire.proofs.left.paired.Goals as goal

pub loop-first-init : goal.loop-first-init
loop-first-init g c = none_paired _ _ c.args.two c.new-pairs.ensures c.reverse.ensures

pub returns : goal.returns
returns g c =
    let l = c.loop-first in
    let all = c.args.one in
    let i = c.into_iter-first-iterator.ensures.into_iter_gives in
    let n : c.into_iter-first-iterator.result.rest.len ≡ length c.into_vec-first-items.result.items = search rules in
    let items = c.into_vec-first-items.ensures in
    let t = YieldsList-end (YieldsList-from_vec all (i.0 ∙ items) (n ∙ ap length items)) l.yielded l.first-iterator l.yielded_by c.next.result c.next.new.self c.in-None.is c.next.ensures.steps in
    let whole : l.yielded ≡ all = sym (map-id l.yielded) ∙ t.0 in
    all_paired l.pairs l.yielded all l.two c.args.two l.invariant whole c.requires
