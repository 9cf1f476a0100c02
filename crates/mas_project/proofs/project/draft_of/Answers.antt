use Rattle.std.proofs.Common.{◌≡◌, ◌+◌, ◌-◌, length, slice_get, [], None, rules}
use Rattle.asl_lexer.specs.Words.{IsCut}
use Rattle.mas_project.specs.Faults.{UnlessMemory, clause_at, IsRefusedPiece, FirstRefused}
use Rattle.mas_project.specs.Pieces.{ends_piece}
use Rattle.mas_project.proofs.Told.{stops, late, ends, misses}
use Rattle.mas_project.proofs.project.draft_of.Goals as goal

pub returns-in_default-turn-clause-err : goal.returns-in_default-turn-clause-err
returns-in_default-turn-clause-err c =
    let cut : IsCut ends_piece c.pieces.rest.now c.in-Some.piece.now c.in-Some.behind.now = search rules in
    let none : c.pieces.turn ≡ None = search rules in
    let same : c.clause.result ≡ clause_at (c.pieces.number + 1) (slice_get c.in-Some.piece.now 0) = search rules in
    late _ _ _ _ _ _ _ _ c.pieces.invariant.told none cut same

pub returns-in_err-said-clause-err : goal.returns-in_err-said-clause-err
returns-in_err-said-clause-err c =
    let cut : IsCut ends_piece c.pieces.rest.now c.in-Some.piece.now c.in-Some.behind.now = search rules in
    let why : UnlessMemory (IsRefusedPiece c.in-Some.piece.now (c.pieces.number + 1) c.pieces.turn) c.in_err-said.field-0.0 = search rules in
    let first : UnlessMemory (FirstRefused c.args.toks.now) c.in_err-said.field-0.0 = stops _ _ _ _ _ _ _ _ c.pieces.invariant.told cut why in
    search (first, rules)

pub returns-in-None-clause-ok : goal.returns-in-None-clause-ok
returns-in-None-clause-ok c =
    let no_rest : c.pieces.rest.now ≡ [] = search rules in
    ends _ _ _ _ _ c.pieces.invariant.told no_rest c.in-None.is

pub returns-in-Some-turn-2-clause-err : goal.returns-in-Some-turn-2-clause-err
returns-in-Some-turn-2-clause-err c =
    let no_rest : c.pieces.rest.now ≡ [] = search rules in
    let same : c.clause-in-Some-turn-2.result ≡ clause_at (c.pieces.number + 1) (slice_get c.args.toks.now (length c.args.toks.now - 1)) = search rules in
    misses _ _ _ _ _ _ _ c.pieces.invariant.told no_rest c.in-Some-turn-2.is same
