use Rattle.std.proofs.Common.{◌≡◌, ◌∙◌, length, ap, rules, arith}
use Rattle.std.proofs.lemmas.Iterator.Adapters.{YieldsList-from_vec}
use Rattle.std.proofs.lemmas.Iterator.Consumers.{YieldsList-turn}
use Rattle.mas_pool_ready.proofs.Splits.{number_at}
use Rattle.mas_pool_ready.proofs.queue.Ready.grow_all.Goals as goal

pub grow-requires-clause-number : goal.grow-requires-clause-number
grow-requires-clause-number g c =
    let l = c.loop-item in
    let all = c.args.items in
    let i = c.into_iter-item-iterator.ensures.into_iter_gives in
    let n : c.into_iter-item-iterator.result.rest.len ≡ length c.into_vec-item-items.result.items = search rules in
    let items = c.into_vec-item-items.ensures in
    let t = YieldsList-turn (YieldsList-from_vec all (i.0 ∙ items) (n ∙ ap length items)) l.yielded l.item-iterator l.yielded_by c.next.result c.next.new.self c.in-Some.item c.in-Some.is c.next.ensures.steps in
    let e = number_at g.T.Numbered.number_of all 1 (length all) (length l.yielded) c.in-Some.item c.in-Some.item c.requires.numbers t.0 t.1 in
    let same = ap length l.invariant.1 in
    omega arith
