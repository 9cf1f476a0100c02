use Rattle.std.proofs.Common.{◌≡◌, ◌∙◌, [], ◌∷◌, Some, slice_get, slice_index_or, length, map-id, refl, ap, sym, rules, arith}
use Rattle.std.proofs.lemmas.Iterator.Adapters.{YieldsList-from_vec}
use Rattle.std.proofs.lemmas.Iterator.Consumers.{YieldsList-turn, YieldsList-end}
use Rattle.std.proofs.lemmas.List.{length-append}
use Rattle.std.proofs.lemmas.Option.{slice_get_read}
use Rattle.mas_sites_wire.proofs.Lefts.{one_named, two_named, left_next, pairs_number, all_left}
use Rattle.mas_sites_wire.proofs.left.left_on_all.Goals as goal

pub offset_bounds-wires-place : goal.offset_bounds-wires-place
offset_bounds-wires-place g c =
    let l = c.loop-pair in
    let all = c.args.pairs in
    let i = c.into_iter-pair-iterator.ensures.into_iter_gives in
    let n : c.into_iter-pair-iterator.result.rest.len ≡ length c.into_vec-pair-items.result.items = search rules in
    let items = c.into_vec-pair-items.ensures in
    let t = YieldsList-turn (YieldsList-from_vec all (i.0 ∙ items) (n ∙ ap length items)) l.yielded l.pair-iterator l.yielded_by c.next.result c.next.new.self c.in-Some.pair c.in-Some.is c.next.ensures.steps in
    let place = l.invariant.0 in
    let here = t.0 in
    let number = pairs_number c.args.wires.now c.args.here.now all c.requires.one in
    omega (arith, place, here, number)

pub puts_at-lives-requires : goal.puts_at-lives-requires
puts_at-lives-requires g c =
    let l = c.loop-pair in
    let all = c.args.pairs in
    let i = c.into_iter-pair-iterator.ensures.into_iter_gives in
    let n : c.into_iter-pair-iterator.result.rest.len ≡ length c.into_vec-pair-items.result.items = search rules in
    let items = c.into_vec-pair-items.ensures in
    let t = YieldsList-turn (YieldsList-from_vec all (i.0 ∙ items) (n ∙ ap length items)) l.yielded l.pair-iterator l.yielded_by c.next.result c.next.new.self c.in-Some.pair c.in-Some.is c.next.ensures.steps in
    let place = l.invariant.0 in
    let here = t.0 in
    let number = pairs_number c.args.wires.now c.args.here.now all c.requires.one in
    let puts = c.requires.one.puts_are in
    omega (arith, place, here, number, puts)

pub left_at-requires-clause-one : goal.left_at-requires-clause-one
left_at-requires-clause-one g c =
    let l = c.loop-pair in
    let all = c.args.pairs in
    let i = c.into_iter-pair-iterator.ensures.into_iter_gives in
    let n : c.into_iter-pair-iterator.result.rest.len ≡ length c.into_vec-pair-items.result.items = search rules in
    let items = c.into_vec-pair-items.ensures in
    let t = YieldsList-turn (YieldsList-from_vec all (i.0 ∙ items) (n ∙ ap length items)) l.yielded l.pair-iterator l.yielded_by c.next.result c.next.new.self c.in-Some.pair c.in-Some.is c.next.ensures.steps in
    let place = l.invariant.0 in
    let here = t.0 in
    let number = pairs_number c.args.wires.now c.args.here.now all c.requires.one in
    let pair = c.in-Some.pair in
    let x_is : slice_get all l.place ≡ Some pair = slice_get_read all (length all) l.place pair refl (omega (arith, place, here)) (t.1 ∙ ap (λ k. slice_index_or all k pair) (sym place)) in
    let w_is = slice_get_read c.args.wires.now (length c.args.wires.now) l.place c.index-wires-place.result refl (omega (arith, place, here, number)) c.index-wires-place.is in
    one_named c.args.wires.now c.args.here.now all c.requires.one c.requires.two l.place pair _ _ x_is w_is c.puts_at-lives.ensures

pub left_at-requires-clause-two : goal.left_at-requires-clause-two
left_at-requires-clause-two g c =
    let l = c.loop-pair in
    let all = c.args.pairs in
    let i = c.into_iter-pair-iterator.ensures.into_iter_gives in
    let n : c.into_iter-pair-iterator.result.rest.len ≡ length c.into_vec-pair-items.result.items = search rules in
    let items = c.into_vec-pair-items.ensures in
    let t = YieldsList-turn (YieldsList-from_vec all (i.0 ∙ items) (n ∙ ap length items)) l.yielded l.pair-iterator l.yielded_by c.next.result c.next.new.self c.in-Some.pair c.in-Some.is c.next.ensures.steps in
    let place = l.invariant.0 in
    let here = t.0 in
    let number = pairs_number c.args.wires.now c.args.here.now all c.requires.one in
    let pair = c.in-Some.pair in
    let x_is : slice_get all l.place ≡ Some pair = slice_get_read all (length all) l.place pair refl (omega (arith, place, here)) (t.1 ∙ ap (λ k. slice_index_or all k pair) (sym place)) in
    let w_is = slice_get_read c.args.wires.now (length c.args.wires.now) l.place c.index-wires-place.result refl (omega (arith, place, here, number)) c.index-wires-place.is in
    two_named c.args.wires.now c.args.here.now all c.requires.one c.requires.two l.place pair _ _ x_is w_is c.puts_at-lives.ensures

pub loop-pair-preserved : goal.loop-pair-preserved
loop-pair-preserved g c =
    let l = c.loop-pair in
    let all = c.args.pairs in
    let i = c.into_iter-pair-iterator.ensures.into_iter_gives in
    let n : c.into_iter-pair-iterator.result.rest.len ≡ length c.into_vec-pair-items.result.items = search rules in
    let items = c.into_vec-pair-items.ensures in
    let t = YieldsList-turn (YieldsList-from_vec all (i.0 ∙ items) (n ∙ ap length items)) l.yielded l.pair-iterator l.yielded_by c.next.result c.next.new.self c.in-Some.pair c.in-Some.is c.next.ensures.steps in
    let place = l.invariant.0 in
    let here = t.0 in
    let number = pairs_number c.args.wires.now c.args.here.now all c.requires.one in
    let pair = c.in-Some.pair in
    let x_is : slice_get all l.place ≡ Some pair = slice_get_read all (length all) l.place pair refl (omega (arith, place, here)) (t.1 ∙ ap (λ k. slice_index_or all k pair) (sym place)) in
    let w_is = slice_get_read c.args.wires.now (length c.args.wires.now) l.place c.index-wires-place.result refl (omega (arith, place, here, number)) c.index-wires-place.is in
    let one = length-append l.yielded (pair ∷ []) in (
      omega (arith, one, place),
      left_next c.args.wires.now c.args.here.now all c.requires.one c.requires.two l.place pair _ _ x_is w_is c.puts_at-lives.ensures l.ways _ _ l.invariant.1 c.in_ok-way.ensures c.in_ok-push.ensures.ok,
    )

pub returns : goal.returns
returns g c =
    let l = c.loop-pair in
    let all = c.args.pairs in
    let i = c.into_iter-pair-iterator.ensures.into_iter_gives in
    let n : c.into_iter-pair-iterator.result.rest.len ≡ length c.into_vec-pair-items.result.items = search rules in
    let items = c.into_vec-pair-items.ensures in
    let t = YieldsList-end (YieldsList-from_vec all (i.0 ∙ items) (n ∙ ap length items)) l.yielded l.pair-iterator l.yielded_by c.next.result c.next.new.self c.in-None.is c.next.ensures.steps in
    let whole : l.yielded ≡ all = sym (map-id l.yielded) ∙ t.0 in
    let number = pairs_number c.args.wires.now c.args.here.now all c.requires.one in
    all_left l.place c.args.here.now _ _ l.ways l.invariant.1 (l.invariant.0 ∙ ap length whole ∙ number ∙ sym c.requires.one.puts_are)
