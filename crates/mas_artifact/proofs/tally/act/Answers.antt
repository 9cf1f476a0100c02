use Rattle.std.proofs.Common.{rules, ◌≡◌, true, Some, ap, refl, sym, ◌∙◌, arith, w64, to_z, of_z, FitsSigned}
use Rattle.std.proofs.lemmas.Int.{ints}
use Rattle.mas_mind.specs.declared.mind.Feedback.TheVariants.{Done}
use Rattle.mas_artifact.specs.States.{args_sum}
use Rattle.mas_artifact.proofs.Tallies.{adds, heard}
use Rattle.mas_artifact.proofs.tally.act.Goals as goal

pub returns-in-Some-clause-acted : goal.returns-in-Some-clause-acted
returns-in-Some-clause-acted c =
    let n = c.args.count.now in
    let m = c.in-Some.m in
    let fits : FitsSigned w64 m = search rules in
    let held : FitsSigned w64 n = search rules in
    let same : to_z w64 (of_z w64 m) ≡ m = omega (arith, ints, fits) in
    let kept : to_z w64 (of_z w64 n) ≡ n = omega (arith, ints, held) in
    let called : c.is_call.result ≡ true = search rules in
    let gives : args_sum n c.args.action.now.args ≡ Some m = sym (λ i. args_sum (kept i) (c.as_slice.ensures i)) ∙ sym c.in_ok-args_sum.ensures ∙ c.in-Some.is in
    ap (λ z. (Done, z)) same ∙ heard n c.args.action.now m (sym (c.is_call.ensures adds refl refl refl) ∙ called) gives
