use Rattle.std.proofs.Common.{◌≡◌, ◌∙◌, length, map-id, sym, ap, rules}
use Rattle.std.proofs.lemmas.Iterator.Adapters.{YieldsList-from_vec}
use Rattle.std.proofs.lemmas.Iterator.Consumers.{YieldsList-end}
use Rattle.mas_pool_ready.proofs.Orders.{somes, row_some, row_none, in_order}
use Rattle.mas_pool_ready.proofs.ends.in_order.Goals as goal

pub loop-place-preserved-in-None-place : goal.loop-place-preserved-in-None-place
loop-place-preserved-in-None-place g c = row_none g.T.Numbered.number_of c.loop-place.yielded _ _ c.loop-place.invariant c.in-None-place.is

pub loop-place-preserved : goal.loop-place-preserved
loop-place-preserved g c = row_some g.T.Numbered.number_of c.loop-place.yielded _ _ _ _ c.loop-place.invariant c.in-Some-place.is c.in_ok-push-in-Some-place.ensures.ok

pub returns : goal.returns
returns g c =
    let l = c.loop-place in
    let shelf = c.in_ok-shelf.shelf in
    let i = c.into_iter-place-iterator.ensures.into_iter_gives in
    let n : c.into_iter-place-iterator.result.rest.len ≡ length c.into_vec-place-items.result.items = search rules in
    let items = c.into_vec-place-items.ensures in
    let t = YieldsList-end (YieldsList-from_vec shelf (i.0 ∙ items) (n ∙ ap length items)) l.yielded l.place-iterator l.yielded_by c.next.result c.next.new.self c.in-None.is c.next.ensures.steps in
    let whole : l.yielded ≡ shelf = sym (map-id l.yielded) ∙ t.0 in
    in_order g.T.Numbered.number_of c.args.count c.args.items shelf l.row c.in_ok-shelf.ensures (l.invariant ∙ ap somes whole)
