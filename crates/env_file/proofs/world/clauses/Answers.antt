use Rattle.std.proofs.Common.{Err, rules}
use Rattle.asl_lexer.specs.Words.{is_end, IsCut}
use Rattle.env_file.specs.Answering.{Told, piece_at}
use Rattle.env_file.proofs.Answered.{stops}
use Rattle.env_file.proofs.world.clauses.Goals as goal

pub returns-in-Err : goal.returns-in-Err
returns-in-Err c =
    let cut : IsCut is_end c.pieces.rest.now c.in-Some.toks.now c.in-Some.behind.now = search rules in
    let told : Told (Err c.in-Err.fault) (piece_at c.args.artifacts.now c.pieces.text c.pieces.number c.in-Some.toks.now) = search rules in
    stops c.args.artifacts.now c.pieces.number c.pieces.text c.pieces.rest.now c.in-Some.toks.now c.in-Some.behind.now c.in-Err.fault _ c.pieces.invariant.same cut told
