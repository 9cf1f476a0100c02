-- A text in pieces.
use Rattle.std.specs.Prelude.{ℕ, List, [], ◌∷◌, ◌++◌, decimal}
use Rattle.asl_term.specs.Exprs.{literal_text}
use Rattle.asl_term.specs.Texts.{text}
use Rattle.look_lines.specs.declared.pieces.Piece.{Piece}
use Rattle.look_lines.specs.declared.pieces.Piece.TheVariants as piece

abbrev pub piece_text : Piece → List ℕ
piece_text (piece.Bytes b) = b.now
piece_text (piece.Number n) = decimal n
piece_text (piece.Literal l) = literal_text l.now
piece_text (piece.Term t) = text t.now

-- one behind the other
abbrev pub pieces_text : List Piece → List ℕ
pieces_text [] = []
pieces_text (p ∷ []) = piece_text p
pieces_text (p ∷ (q ∷ rest)) = piece_text p ++ pieces_text (q ∷ rest)
