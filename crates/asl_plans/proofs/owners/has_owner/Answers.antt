use Rattle.std.proofs.Common.{ap, ◌∙◌}
use Rattle.std.specs.Prelude.{◌==◌, not}
use Rattle.asl_plans.proofs.Owning.{any_owner}
use Rattle.asl_plans.proofs.owners.has_owner.Goals as goal

pub returns : goal.returns
returns c = ap (λ n. not (n == 0)) c.len.ensures ∙ any_owner c.args.e.now.owners
