use Rattle.std.proofs.Common.{arith}
use Rattle.look_lines.proofs.Changes.{all_put}
use Rattle.look_lines.proofs.change.change.Goals as goal

pub returns : goal.returns
returns c = all_put c.parts.out c.args.befores.now c.args.afters.now c.parts.at (omega arith) c.parts.invariant
