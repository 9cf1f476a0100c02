use Rattle.asl_resolve.specs.Calls.{terms}
use Rattle.asl_stdlib.proofs.Behind.{given_sound}
use Rattle.asl_stdlib.proofs.solving.pure_pairs.Goals as goal

pub returns-clause-sound : goal.returns-clause-sound
returns-clause-sound c =
    given_sound c.args.me.now c.args.c.now.name (terms c.args.c.now.args) c.args.s.now c.in_ok-r.r c.pairs.ensures.sound c.in_ok-r.ensures
