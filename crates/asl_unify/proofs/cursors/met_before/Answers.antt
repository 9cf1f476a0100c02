use Rattle.std.proofs.Common.{arith, ◌≡◌, ◌-◌, Some, refl, sym, ◌∙◌}
use Rattle.std.specs.List.{slice_get}
use Rattle.std.proofs.lemmas.Option.{slice_get_read}
use Rattle.std.proofs.lemmas.Result.{IfOk-weaker}
use Rattle.asl_unify.proofs.Portions.{meets_is}
use Rattle.asl_unify.proofs.cursors.met_before.Goals as goal

pub returns : goal.returns
returns c =
    let a = c.args in
    let p = c.in-Some.p.now in
    let q = c.in-Some-get.q.now in
    let at = c.in-Some.ensures.lookup in
    let to = c.in-Some-get.ensures.lookup in
    let is : slice_get a.patterns.now a.level ≡ Some p = slice_get_read a.patterns.now _ a.level p refl at.3.0 at.1 in
    let met : slice_get a.held.now (a.place - 1) ≡ Some q = slice_get_read a.held.now _ (a.place - 1) q refl to.3.0 to.1 in
    let same = meets_is a.patterns.now a.held.now a.level (a.place - 1) a.place p q a.s.now is met (omega (arith, c.if-place-eq0.false)) in
    IfOk-weaker c.attempt.result _ _ (λ _ e. e ∙ sym same) c.attempt.ensures.value
