use Rattle.std.proofs.Common.{sym, ◌∙◌}
use Rattle.asl_unify_early.proofs.Stays.{literal_stays}
use Rattle.asl_unify_early.proofs.plain.settled_literal.Goals as goal

pub returns-then-is_plain_literal-clause-ok : goal.returns-then-is_plain_literal-clause-ok
returns-then-is_plain_literal-clause-ok c = literal_stays c.args.l (sym c.is_plain_literal.ensures ∙ c.if-is_plain_literal.true)
