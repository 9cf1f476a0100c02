use Rattle.std.proofs.Common.{◌≡◌, ◌∙◌, [], ◌∷◌, length, ap, rules, arith}
use Rattle.std.proofs.lemmas.Iterator.Adapters.{YieldsList-from_vec}
use Rattle.std.proofs.lemmas.Iterator.Consumers.{YieldsList-turn}
use Rattle.std.proofs.lemmas.List.{length-append}
use Rattle.mas_sites.proofs.Listing.{next_of}
use Rattle.mas_sites.proofs.met.list_scripts.Goals as goal

pub overflow_add-agent : goal.overflow_add-agent
overflow_add-agent g c =
    let l = c.loop-script in
    let all = c.args.entries in
    let i = c.into_iter-script-iterator.ensures.into_iter_gives in
    let n : c.into_iter-script-iterator.result.rest.len ≡ length c.into_vec-script-items.result.items = search rules in
    let items = c.into_vec-script-items.ensures in
    let t = YieldsList-turn (YieldsList-from_vec all (i.0 ∙ items) (n ∙ ap length items)) l.yielded l.script-iterator l.yielded_by c.next.result c.next.new.self c.in-Some.script c.in-Some.is c.next.ensures.steps in
    let few = c.requires.few in
    let number = c.requires.number in
    let place = l.invariant.0 in
    let here = t.0 in
    omega (arith, few, number, place, here)

pub add_script-requires : goal.add_script-requires
add_script-requires g c =
    let l = c.loop-script in
    let all = c.args.entries in
    let i = c.into_iter-script-iterator.ensures.into_iter_gives in
    let n : c.into_iter-script-iterator.result.rest.len ≡ length c.into_vec-script-items.result.items = search rules in
    let items = c.into_vec-script-items.ensures in
    let t = YieldsList-turn (YieldsList-from_vec all (i.0 ∙ items) (n ∙ ap length items)) l.yielded l.script-iterator l.yielded_by c.next.result c.next.new.self c.in-Some.script c.in-Some.is c.next.ensures.steps in
    let number = c.requires.number in
    let place = l.invariant.0 in
    let here = t.0 in
    record { from_one = omega arith; named = omega (arith, number, place, here) }

pub loop-script-preserved : goal.loop-script-preserved
loop-script-preserved g c =
    let l = c.loop-script in
    let e = c.in-Some.script in
    let one = length-append l.yielded (e ∷ []) in
    let place = l.invariant.0 in (
      omega (arith, one, place),
      next_of c.args.site c.args.minds.now c.args.scripts.now l.yielded e l.agent l.scripts _ l.invariant c.in_ok-add_script.ensures,
    )
