use Rattle.std.proofs.Common.{◌≡◌, Some, get_or, sym, ap, ◌∙◌, arith}
use Rattle.std.specs.List.{slice_get}
use Rattle.std.proofs.lemmas.Option.{slice_get-get_or}
use Rattle.asl_index.proofs.Perceiving.{apart_in_number, one_same, one_other, all_compared}
use Rattle.asl_index.proofs.updating.are_at.Goals as goal

pub returns-then-ps-percepts : goal.returns-then-ps-percepts
returns-then-ps-percepts c =
    apart_in_number c.args.store.now c.args.percepts.now c.args.ps.now c.requires (λ e. omega (arith, c.if-ps-percepts.true, e))

pub loop-i-preserved : goal.loop-i-preserved
loop-i-preserved c =
    let ps = c.args.ps.now in
    let percepts = c.args.percepts.now in
    let i = c.loop-i.i in
    let p = c.index-percepts-i.result in
    let at : slice_get ps i ≡ Some (get_or ps i 0) = slice_get-get_or ps i 0 (omega (arith, c.loop-i-test.true)) in
    let here : slice_get percepts i ≡ Some p = slice_get-get_or percepts i p (omega (arith, c.loop-i-test.true, c.if-ps-percepts.false)) ∙ ap Some (sym c.index-percepts-i.is) in
    one_same c.args.store.now percepts ps c.requires i (get_or ps i 0) p at here (sym c.if-not-is_in_slot.false ∙ c.is_in_slot.ensures) c.loop-i.invariant

pub returns-then-not-is_in_slot : goal.returns-then-not-is_in_slot
returns-then-not-is_in_slot c =
    let ps = c.args.ps.now in
    let percepts = c.args.percepts.now in
    let i = c.loop-i.i in
    let p = c.index-percepts-i.result in
    let at : slice_get ps i ≡ Some (get_or ps i 0) = slice_get-get_or ps i 0 (omega (arith, c.loop-i-test.true)) in
    let here : slice_get percepts i ≡ Some p = slice_get-get_or percepts i p (omega (arith, c.loop-i-test.true, c.if-ps-percepts.false)) ∙ ap Some (sym c.index-percepts-i.is) in
    one_other c.args.store.now percepts ps c.requires i (get_or ps i 0) p at here (sym c.if-not-is_in_slot.true ∙ c.is_in_slot.ensures) c.loop-i.invariant

pub returns : goal.returns
returns c =
    all_compared c.args.store.now c.args.percepts.now c.args.ps.now c.requires c.loop-i.i c.loop-i-test.false c.if-ps-percepts.false c.loop-i.invariant
