use Rattle.std.proofs.Common.{[], ap, sym}
use Rattle.std.specs.Prelude.{slice_get}
use Rattle.asl_unify_early.proofs.clashes.renamed_first.Goals as goal

pub returns-then-never_matched : goal.returns-then-never_matched
returns-then-never_matched c =
    ap (λ z. slice_get z 0) (sym (c.never_matched.ensures c.if-never_matched.true c.args.number [] tt))
