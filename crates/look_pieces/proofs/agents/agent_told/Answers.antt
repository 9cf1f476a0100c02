use Rattle.std.proofs.Common.{List, subst}
use Rattle.asl_lexer.specs.declared.token.Tok.{Tok}
use Rattle.asl_lexer.specs.Words.{pieces, is_end}
use Rattle.look_pieces.specs.Telling.{AreTold, refused}
use Rattle.look_pieces.proofs.Told.{told_pieces}
use Rattle.look_pieces.proofs.agents.agent_told.Goals as goal

-- the tokens are those of the bytes, and all of their pieces are told
pub returns-in-Ok-pieces_told : goal.returns-in-Ok-pieces_told
returns-in-Ok-pieces_told c =
    told_pieces c.args.bytes.now c.in-Ok.toks c.in-Ok-pieces_told.told c.in-Ok.ensures.ok
    (subst (λ (ts : List Tok). AreTold (refused 1 (pieces is_end ts)) c.in-Ok-pieces_told.told) c.as_slice.ensures c.in-Ok-pieces_told.ensures)
