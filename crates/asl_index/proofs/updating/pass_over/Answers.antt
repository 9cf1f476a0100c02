use Rattle.std.proofs.Common.{Some, None, subst, arith}
use Rattle.std.specs.Option.{option_copied}
use Rattle.asl_index.specs.Hits.{IsPassed}
use Rattle.asl_index.proofs.Quiet.{compared_next, compared_apart, compared_all}
use Rattle.asl_index.proofs.updating.pass_over.Goals as goal

pub loop-k-preserved : goal.loop-k-preserved
loop-k-preserved c =
    let ps = c.args.percepts.now in
    let n = c.loop-k.next in
    let m = c.in-Some.n in
    compared_next ps c.args.store.now c.loop-k.k n c.loop-k.invariant m (subst (λ z. IsPassed z ps n (Some m)) c.at.ensures c.in-Some.ensures)

pub returns : goal.returns
returns c =
    compared_all c.args.percepts.now c.args.store.now c.loop-k.k c.loop-k.next c.loop-k.invariant (omega (arith, c.loop-k-test.false, c.len-k-end.ensures))

pub returns-in_default : goal.returns-in_default
returns-in_default c =
    let ps = c.args.percepts.now in
    let n = c.loop-k.next in
    compared_apart ps c.args.store.now c.loop-k.k n c.loop-k.invariant
    (subst (λ z. IsPassed z ps n None) c.at.ensures (subst (λ r. IsPassed (option_copied c.at.result) ps n r) c.in_default.is c.passed.ensures))
