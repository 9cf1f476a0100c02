-- Texts in pieces.
use Rattle.std.proofs.Common.{ℕ, ◌≡◌, ◌≤◌, List, [], ◌∷◌, ◌++◌, length, take, refl, ap, ◌∙◌, append-nil}
use Rattle.std.specs.List.{flat_map}
use Rattle.std.proofs.lemmas.List.{take_all}
use Rattle.look_lines.specs.declared.pieces.Piece.{Piece}
use Rattle.look_lines.specs.Pieces.{piece_text, pieces_text}

pieced : (ps : List Piece) → flat_map piece_text ps ≡ pieces_text ps
pieced [] = refl
pieced (p ∷ []) = append-nil (piece_text p)
pieced (p ∷ (q ∷ rest)) = ap (λ t. piece_text p ++ t) (pieced (q ∷ rest))

-- when all of them are put
pub all_put : (ps : List Piece) (i : ℕ) (old new : List ℕ) → length ps ≤ i → new ≡ old ++ flat_map piece_text (take i ps) → new ≡ old ++ pieces_text ps
all_put ps i old new l h = h ∙ ap (λ xs. old ++ flat_map piece_text xs) (take_all i ps l) ∙ ap (λ t. old ++ t) (pieced ps)
