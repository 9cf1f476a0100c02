use Rattle.std.proofs.Common.{◌≡◌, ◌∙◌, List, length, replicate, None, map-id, sym, ap, rules, arith}
use Rattle.std.proofs.lemmas.Iterator.Adapters.{YieldsList-from_vec}
use Rattle.std.proofs.lemmas.Iterator.Consumers.{YieldsList-turn, YieldsList-end}
use Rattle.mas_pool_ready.proofs.Orders.{placed, is_number, shelf_next, shelf_length, shelved}
use Rattle.mas_pool_ready.proofs.ends.shelved.Goals as goal

pub overflow_sub-place : goal.overflow_sub-place
overflow_sub-place g c =
    let l = c.loop-item in
    let all = c.args.items in
    let i = c.into_iter-item-iterator.ensures.into_iter_gives in
    let n : c.into_iter-item-iterator.result.rest.len ≡ length c.into_vec-item-items.result.items = search rules in
    let items = c.into_vec-item-items.ensures in
    let t = YieldsList-turn (YieldsList-from_vec all (i.0 ∙ items) (n ∙ ap length items)) l.yielded l.item-iterator l.yielded_by c.next.result c.next.new.self c.in-Some.item c.in-Some.is c.next.ensures.steps in
    let h = is_number g.T.Numbered.number_of c.args.count all (length l.yielded) c.in-Some.item c.in-Some.item c.requires t.0 t.1 in
    let low = h.from_one in
    let e = c.number.ensures in
    omega arith

pub at_mut-requires : goal.at_mut-requires
at_mut-requires g c =
    let l = c.loop-item in
    let all = c.args.items in
    let i = c.into_iter-item-iterator.ensures.into_iter_gives in
    let n : c.into_iter-item-iterator.result.rest.len ≡ length c.into_vec-item-items.result.items = search rules in
    let items = c.into_vec-item-items.ensures in
    let t = YieldsList-turn (YieldsList-from_vec all (i.0 ∙ items) (n ∙ ap length items)) l.yielded l.item-iterator l.yielded_by c.next.result c.next.new.self c.in-Some.item c.in-Some.is c.next.ensures.steps in
    let h = is_number g.T.Numbered.number_of c.args.count all (length l.yielded) c.in-Some.item c.in-Some.item c.requires t.0 t.1 in
    let low = h.from_one in
    let high = h.within in
    let e = c.number.ensures in
    let size = shelf_length g.T.Numbered.number_of c.args.count l.shelf l.yielded l.invariant in
    omega arith

pub loop-item-preserved-in-Some : goal.loop-item-preserved-in-Some
loop-item-preserved-in-Some g c =
    shelf_next g.T.Numbered.number_of (replicate c.args.count None) c.loop-item.shelf c.loop-item.yielded c.in-Some.item c.number.result c.loop-item.invariant c.number.ensures

pub loop-item-preserved : goal.loop-item-preserved
loop-item-preserved g c =
    shelf_next g.T.Numbered.number_of (replicate c.args.count None) c.loop-item.shelf c.loop-item.yielded c.in-Some.item c.number.result c.loop-item.invariant c.number.ensures

pub returns : goal.returns
returns g c =
    let l = c.loop-item in
    let all = c.args.items in
    let i = c.into_iter-item-iterator.ensures.into_iter_gives in
    let n : c.into_iter-item-iterator.result.rest.len ≡ length c.into_vec-item-items.result.items = search rules in
    let items = c.into_vec-item-items.ensures in
    let t = YieldsList-end (YieldsList-from_vec all (i.0 ∙ items) (n ∙ ap length items)) l.yielded l.item-iterator l.yielded_by c.next.result c.next.new.self c.in-None.is c.next.ensures.steps in
    let whole : l.yielded ≡ all = sym (map-id l.yielded) ∙ t.0 in
    shelved g.T.Numbered.number_of c.args.count all l.shelf c.requires (l.invariant ∙ ap (placed g.T.Numbered.number_of (replicate c.args.count None)) whole)
