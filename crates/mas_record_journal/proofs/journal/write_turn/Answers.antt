use Rattle.std.proofs.Common.{◌+◌, ◌*◌, ◌/◌, ◌%◌, [], ◌∷◌, length, arith, length-append}
use Rattle.mas_record_journal.specs.Journals.{front, file_of, staged}
use Rattle.mas_record_journal.proofs.Blocks.{length-front}
use Rattle.mas_record_journal.proofs.Steps.{still_picked, then_staged, then_done, behind, opened, gate_writable}
use Rattle.mas_record_journal.proofs.journal.write_turn.Goals as goal

pub write_through-requires : goal.write_through-requires
write_through-requires g c =
    let turns = c.args.turns.now in
    let n = length-front turns in
    let k = length-append (front turns) (0 ∷ []) in
    gate_writable turns (file_of turns) (8 + 3 * length turns + 1) _ c.requires.picked c.requires.file (omega (arith, n, k))

pub returns-in_err-write_through-clause-ran : goal.returns-in_err-write_through-clause-ran
returns-in_err-write_through-clause-ran g c =
    let a = c.args.agent in
    behind c.args.turns.now (a / 256 ∷ a % 256 ∷ 0 ∷ []) a _ _ c.requires.file c.write_through.ensures.ran

pub write_through-requires-2 : goal.write_through-requires-2
write_through-requires-2 g c =
    let turns = c.args.turns.now in
    let a = c.args.agent in
    let is = then_staged turns a _ _ c.write_through.ensures.ran.told c.requires.file c.in_ok-write_through.ensures.done in
    let n = length-front turns in
    let k = length-append (front turns) (0 ∷ a / 256 ∷ a % 256 ∷ 0 ∷ []) in
    gate_writable turns (staged turns a) (8 + 3 * length turns) _ (still_picked _ _ _ c.write_through.ensures.ran c.requires.picked) is (omega (arith, n, k))

pub returns-in_err-write_through-2-clause-ran : goal.returns-in_err-write_through-2-clause-ran
returns-in_err-write_through-2-clause-ran g c =
    let turns = c.args.turns.now in
    let a = c.args.agent in
    let is = then_staged turns a _ _ c.write_through.ensures.ran.told c.requires.file c.in_ok-write_through.ensures.done in
    let first = behind turns (a / 256 ∷ a % 256 ∷ 0 ∷ []) a _ _ c.requires.file c.write_through.ensures.ran in
    opened turns a _ _ _ first is c.write_through-2.ensures.ran

pub returns-clause-ran : goal.returns-clause-ran
returns-clause-ran g c =
    let turns = c.args.turns.now in
    let a = c.args.agent in
    let is = then_staged turns a _ _ c.write_through.ensures.ran.told c.requires.file c.in_ok-write_through.ensures.done in
    let first = behind turns (a / 256 ∷ a % 256 ∷ 0 ∷ []) a _ _ c.requires.file c.write_through.ensures.ran in
    opened turns a _ _ _ first is c.write_through-2.ensures.ran

pub returns-clause-done : goal.returns-clause-done
returns-clause-done g c =
    let turns = c.args.turns.now in
    let a = c.args.agent in
    let is = then_staged turns a _ _ c.write_through.ensures.ran.told c.requires.file c.in_ok-write_through.ensures.done in
    then_done turns a _ _ c.write_through-2.ensures.ran.told is c.in_ok-write_through-2.ensures.done
