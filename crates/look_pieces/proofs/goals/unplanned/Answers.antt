use Rattle.look_pieces.proofs.Planless.{none_left_out}
use Rattle.look_pieces.proofs.goals.unplanned.Goals as goal

pub returns-clause-whole : goal.returns-clause-whole
returns-clause-whole c = none_left_out c.args.cs.now c.args.c.now c.in_ok-all.all c.in_ok-all.ensures
