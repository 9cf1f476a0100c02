use Rattle.asl_unify.specs.Renamed.{renamed_literal}
use Rattle.asl_unify.proofs.Portions.{none_left}
use Rattle.asl_unify_early.proofs.clashes.renamed_portion.Goals as goal

pub returns-then-never_match-clause-value : goal.returns-then-never_match-clause-value
returns-then-never_match-clause-value c =
    let s = c.args.s.now in
    none_left c.args.p.now (renamed_literal c.args.number c.args.q.now) s _ _ c.args.at.now c.no_portion.ensures.found
    ((c.never_match.ensures c.if-never_match.true).1 c.args.number s c.pairs.ensures.sound).1
