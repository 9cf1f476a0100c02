use Rattle.std.proofs.Common.{length, ap, arith}
use Rattle.asl_unify.specs.Compare.{same_frame}
use Rattle.asl_index.proofs.Heads.{rules_count, fewer}
use Rattle.asl_index.proofs.rules.count_rules.Goals as goal

pub returns-clause-count : goal.returns-clause-count
returns-clause-count c =
    let g = c.args.g.now in
    let all = rules_count g c.args.rules.now c.args.frames.now c.requires in
    let most = fewer (λ r. same_frame g r.head) c.args.rules.now in
    let size = ap length c.as_slice.ensures in
    omega (arith, c.min.ensures, c.count.ensures, all, most, size)
