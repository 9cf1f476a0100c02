use Rattle.std.proofs.Common.{◌∙◌}
use Rattle.asl_unify.proofs.Binds.{find-back}
use Rattle.asl_unify_early.proofs.heads.may_be_bound.Goals as goal

pub returns-in-None-find_pair : goal.returns-in-None-find_pair
returns-in-None-find_pair c e = find-back c.args.s.now c.args.new.now c.args.x.now c.in-None.ensures ∙ c.in-None-find_pair.ensures
