use Rattle.asl_unify.proofs.Portions.{none_left}
use Rattle.asl_unify_early.proofs.clashes.match_portion.Goals as goal

pub returns-then-never_match-clause-value : goal.returns-then-never_match-clause-value
returns-then-never_match-clause-value c =
    let s = c.args.s.now in
    none_left c.args.p.now c.args.q.now s _ _ c.args.at.now c.no_portion.ensures.found
    ((c.never_match.ensures c.if-never_match.true).0 s c.pairs.ensures.sound).1
