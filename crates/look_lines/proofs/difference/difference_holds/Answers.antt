use Rattle.look_lines.proofs.Differences.{leaves_the_rest, keeps_order}
use Rattle.look_lines.proofs.difference.difference_holds.Goals as goal

pub returns-clause-often : goal.returns-clause-often
returns-clause-often c = leaves_the_rest

pub returns-clause-order : goal.returns-clause-order
returns-clause-order c = keeps_order
