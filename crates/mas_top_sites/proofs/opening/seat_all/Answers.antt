use Rattle.std.proofs.Common.{◌≡◌, ◌∙◌, ◌+◌, [], ◌∷◌, length, ap, rules, arith}
use Rattle.std.proofs.lemmas.Iterator.Adapters.{YieldsList-from_vec}
use Rattle.std.proofs.lemmas.Iterator.Consumers.{YieldsList-turn}
use Rattle.std.proofs.lemmas.List.{length-append}
use Rattle.mas_top_sites.proofs.Seating.{seated_one, seated_two}
use Rattle.mas_top_sites.proofs.opening.seat_all.Goals as goal

pub overflow_add-agent : goal.overflow_add-agent
overflow_add-agent g c =
    let l = c.loop-mind in
    let all = c.args.minds in
    let i = c.into_iter-mind-iterator.ensures.into_iter_gives in
    let n : c.into_iter-mind-iterator.result.rest.len ≡ length c.into_vec-mind-items.result.items = search rules in
    let items = c.into_vec-mind-items.ensures in
    let t = YieldsList-turn (YieldsList-from_vec all (i.0 ∙ items) (n ∙ ap length items)) l.yielded l.mind-iterator l.yielded_by c.next.result c.next.new.self c.in-Some.mind c.in-Some.is c.next.ensures.steps in
    let few = c.requires.few in
    let number = c.requires.number in
    let place = l.invariant.0 in
    let here = t.0 in
    omega (arith, few, number, place, here)

pub stand-requires : goal.stand-requires
stand-requires g c =
    let l = c.loop-mind in
    let all = c.args.minds in
    let i = c.into_iter-mind-iterator.ensures.into_iter_gives in
    let n : c.into_iter-mind-iterator.result.rest.len ≡ length c.into_vec-mind-items.result.items = search rules in
    let items = c.into_vec-mind-items.ensures in
    let t = YieldsList-turn (YieldsList-from_vec all (i.0 ∙ items) (n ∙ ap length items)) l.yielded l.mind-iterator l.yielded_by c.next.result c.next.new.self c.in-Some.mind c.in-Some.is c.next.ensures.steps in
    let number = c.requires.number in
    let place = l.invariant.0 in
    let here = t.0 in
    record { from_one = omega arith; named = omega (arith, number, place, here) }

pub loop-mind-preserved : goal.loop-mind-preserved
loop-mind-preserved g c =
    let l = c.loop-mind in
    let m = c.in-Some.mind in
    let one = length-append l.yielded (m ∷ []) in
    let place = l.invariant.0 in
    let a : l.agent + 1 ≡ length l.yielded + 1 = ap (λ n. n + 1) place in (
      omega (arith, one, place),
      (
        seated_one c.args.names.now c.args.first l.yielded m (l.agent + 1) c.in_ok-there.there l.seats.one c.seat_one.new.seats.one l.invariant.1.0 a c.in_ok-there.ensures c.in_ok-seat_one.ensures.one,
        seated_two c.args.names.now c.args.first l.yielded m (l.agent + 1) c.in_ok-there.there l.seats.two c.seat_one.new.seats.two l.invariant.1.1 a c.in_ok-there.ensures c.in_ok-seat_one.ensures.two,
      ),
    )
