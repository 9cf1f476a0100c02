use Rattle.std.proofs.Common.{rules, ap, ◌∙◌}
use Rattle.asl_unify.specs.Puts.{apply}
use Rattle.asl_unify.specs.Settling.{settle}
use Rattle.asl_unify_early.proofs.Settling.{for_number}
use Rattle.asl_unify_early.proofs.goals.argument.Goals as goal

pub returns-in-Some : goal.returns-in-Some
returns-in-Some c =
    let s = c.args.s.now in
    for_number (apply s c.args.t.now) _ c.in-Some.n (search rules) (ap (λ z. settle (apply s z)) c.in-Op.is ∙ c.in-Some.ensures.settles)
