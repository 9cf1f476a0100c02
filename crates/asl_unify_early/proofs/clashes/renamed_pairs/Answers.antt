use Rattle.std.proofs.Common.{sym, ap, ◌∙◌}
use Rattle.asl_unify.specs.Matches.{behind}
use Rattle.asl_unify_early.proofs.clashes.renamed_pairs.Goals as goal

pub returns-then-never_match-clause-value : goal.returns-then-never_match-clause-value
returns-then-never_match-clause-value c =
    let s = c.args.s.now in
    ap (behind s) c.new.ensures ∙ sym (((c.never_match.ensures c.if-never_match.true).1 c.args.number s c.pairs.ensures.sound).0)
