use Rattle.std.proofs.Common.{◌≡◌, ◌++◌, take}
use Rattle.std.specs.List.{flat_map}
use Rattle.look_lines.specs.Pieces.{piece_text}
use Rattle.look_lines.proofs.pieces.put_pieces.Given as goal

abbrev pub invariant-pieces : goal.invariant-pieces
invariant-pieces l = l.out ≡ l.initial.out ++ flat_map piece_text (take l.piece-index l.pieces)
