use Rattle.std.proofs.Common.{◌<◌, length, refl, rules, arith}
use Rattle.mas_steal_thieves.proofs.Cuttings.{rowing_room, rowing_can, rowing_more, rowing_cut, rowing_row}
use Rattle.mas_steal_thieves.proofs.opening.cut_row.Goals as goal

pub another-key-requires-clause-open : goal.another-key-requires-clause-open
another-key-requires-clause-open g c =
    let room = rowing_room c.args.owners.now.items c.loop-place.place c.loop-place.owners.items c.loop-place.keys.items c.loop-place.invariant in
    let size = c.args.owners.now.ok.0 in
    let here : c.loop-place.place < length c.loop-place.owners.items = omega arith in
    (rowing_can c.args.owners.now.items c.loop-place.place c.loop-place.owners.items c.loop-place.keys.items c.index_mut.result.now c.loop-place.invariant c.requires here c.index_mut.ensures.value).begun

pub another-key-requires-clause-parts : goal.another-key-requires-clause-parts
another-key-requires-clause-parts g c =
    let room = rowing_room c.args.owners.now.items c.loop-place.place c.loop-place.owners.items c.loop-place.keys.items c.loop-place.invariant in
    let size = c.args.owners.now.ok.0 in
    let here : c.loop-place.place < length c.loop-place.owners.items = omega arith in
    (rowing_can c.args.owners.now.items c.loop-place.place c.loop-place.owners.items c.loop-place.keys.items c.index_mut.result.now c.loop-place.invariant c.requires here c.index_mut.ensures.value).parts

pub loop-place-preserved : goal.loop-place-preserved
loop-place-preserved g c =
    let room = rowing_room c.args.owners.now.items c.loop-place.place c.loop-place.owners.items c.loop-place.keys.items c.loop-place.invariant in
    let size = c.args.owners.now.ok.0 in
    let here : c.loop-place.place < length c.loop-place.owners.items = omega arith in
    let key = c.another-key.ensures in
    rowing_more c.args.owners.now.items c.loop-place.place c.loop-place.owners.items _ c.loop-place.keys.items _ c.index_mut.result.now c.another-key.new.own c.another-key.result c.loop-place.invariant here c.index_mut.ensures.value key.same.0
    key.rule.0 key.same.2 key.rule.1 refl c.in_ok-push.ensures.items

pub returns-clause-cut : goal.returns-clause-cut
returns-clause-cut g c = rowing_cut _ _ _ _ c.loop-place.invariant (search rules)

pub returns-clause-row : goal.returns-clause-row
returns-clause-row g c = rowing_row c.args.owners.now.items _ _ _ c.loop-place.invariant (search rules)
