use Rattle.std.proofs.Common.{ap, ◌∙◌}
use Rattle.asl_unify.specs.Comparing.{Gives}
use Rattle.asl_unify_early.proofs.Arithmetic.{nothing_more, nothing_sound}
use Rattle.asl_unify_early.proofs.numbers.compare_pairs.Goals as goal

pub returns-in-Some-clause-ok : goal.returns-in-Some-clause-ok
returns-in-Some-clause-ok c =
    c.in-Some.ensures ∙ ap Gives (nothing_more c.args.s.now c.in-Some.is_so c.nothing_more.result c.nothing_more.ensures)

pub returns-in-Some-clause-sound : goal.returns-in-Some-clause-sound
returns-in-Some-clause-sound c = nothing_sound c.args.s.now c.pairs.ensures.sound c.in-Some.is_so c.nothing_more.result c.nothing_more.ensures
