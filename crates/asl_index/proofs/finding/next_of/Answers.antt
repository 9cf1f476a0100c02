use Rattle.std.proofs.Common.{subst, sym, arith}
use Rattle.std.specs.Prelude.{IfSome}
use Rattle.std.specs.List.{filter}
use Rattle.asl_unify.specs.Compare.{same_frame}
use Rattle.asl_unify.specs.Facts.{HasNoMatch}
use Rattle.asl_index_tables.specs.Slots.{kept}
use Rattle.asl_beliefs.proofs.Kth.{kth_belief}
use Rattle.asl_index.proofs.Passing.{item_at}
use Rattle.asl_index.proofs.finding.next_of.Goals as goal

pub returns-clause-between : goal.returns-clause-between
returns-clause-between c i le lt =
    let g = c.args.g.now in
    let bs = kept c.args.store.now in
    let within = c.next.ensures.within (omega (arith, le, lt)) in
    let x = item_at (filter (same_frame g) bs) i (omega (arith, lt, within)) in
    subst (λ o. IfSome o (HasNoMatch g)) (sym (kth_belief g bs c.args.rules.now i x.0 x.1)) (c.next.ensures.between i x.0 le lt x.1)
