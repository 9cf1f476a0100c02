use Rattle.look_lines.proofs.Pieced.{all_put}
use Rattle.look_lines.proofs.pieces.put_pieces.Goals as goal

pub returns : goal.returns
returns c = all_put c.args.pieces.now c.pieces.piece-index c.args.out.now c.pieces.out c.pieces-test.false c.pieces.invariant
