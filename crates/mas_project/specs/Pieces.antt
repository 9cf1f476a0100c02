-- The pieces of a project, each read in its turn.
use Rattle.std.specs.Prelude.{Bool, true, false, List, [], ◌∷◌, Option, Some}
use Rattle.asl_lexer.specs.declared.token.Tok.{Tok}
use Rattle.asl_lexer.specs.declared.token.Word.{Word}
use Rattle.asl_lexer.specs.declared.token.Word.TheVariants as word
use Rattle.asl_lexer.specs.declared.token.Sign.TheVariants as sign
use Rattle.asl_lexer.specs.Words as words
use Rattle.mas_project.specs.declared.piece.PieceMeaning.{PieceMeaning}
use Rattle.mas_project.specs.declared.piece.NextPiece.{NextPiece}
use Rattle.mas_project.specs.Lexemes.{lexemes}
use Rattle.mas_project.specs.Grammar.{Reads, next_turn}

-- `{`, `;` and `}`
abbrev pub ends_piece : Word → Bool
ends_piece (word.Sign sign.OpenBrace) = true
ends_piece (word.Sign sign.Semicolon) = true
ends_piece (word.Sign sign.CloseBrace) = true
ends_piece _ = false

-- the tokens, cut after each of these
abbrev pub pieces : List Tok → List (List Tok)
pieces ts = words.pieces ends_piece ts

-- each piece reads in its turn, from one turn to another; where no piece comes any more, there is none
pub data ReadsAll : Option NextPiece → List (List Tok) → List PieceMeaning → Option NextPiece → Type 0 where
  none_left : {at : Option NextPiece} → ReadsAll at [] [] at
  next_piece : {at : NextPiece} {end : Option NextPiece} {piece : List Tok} {ps : List (List Tok)} {meant : PieceMeaning} {rest : List PieceMeaning}
      → Reads at (lexemes piece) meant → ReadsAll (next_turn meant) ps rest end → ReadsAll (Some at) (piece ∷ ps) (meant ∷ rest) end
