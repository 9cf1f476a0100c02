use Rattle.std.proofs.Common.{subst}
use Rattle.asl_unify_early.specs.inner.Clashes.{HasClash}
use Rattle.asl_unify_early.proofs.Apart.{clashes_turned}
use Rattle.asl_unify_early.proofs.clashes.never_matched.Goals as goal

pub returns : goal.returns
returns c e =
    let p = c.args.p.now in
    let q = c.args.q.now in
    let xs = c.as_slice-xs in
    let ys = c.as_slice-ys in
    clashes_turned p q (subst (λ z. HasClash z p.args) xs.ensures (subst (λ z. HasClash xs.result.now z) ys.ensures (c.has_clash.ensures e)))
