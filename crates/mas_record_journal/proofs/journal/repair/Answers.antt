use Rattle.std.proofs.Common.{◌+◌, ◌*◌, length, arith}
use Rattle.mas_record_journal.specs.Journals.{front}
use Rattle.mas_record_journal.proofs.Blocks.{length-front}
use Rattle.mas_record_journal.proofs.Steps.{still_picked, then_cut, then_closed, cut_ran, closed_ran, gate_writable}
use Rattle.mas_record_journal.proofs.journal.repair.Goals as goal

pub returns-in_err-cut_through-clause-ran : goal.returns-in_err-cut_through-clause-ran
returns-in_err-cut_through-clause-ran g c = cut_ran c.args.turns.now _ _ c.requires.file c.cut_through.ensures.ran

pub write_through-requires : goal.write_through-requires
write_through-requires g c =
    let turns = c.args.turns.now in
    let is = then_cut turns _ _ c.cut_through.ensures.ran.told c.requires.file c.in_ok-cut_through.ensures.done in
    let n = length-front turns in
    gate_writable turns (front turns) (8 + 3 * length turns) _ (still_picked _ _ _ c.cut_through.ensures.ran c.requires.picked) is (omega (arith, n))

pub returns-in_err-write_through-clause-ran : goal.returns-in_err-write_through-clause-ran
returns-in_err-write_through-clause-ran g c =
    let turns = c.args.turns.now in
    let is = then_cut turns _ _ c.cut_through.ensures.ran.told c.requires.file c.in_ok-cut_through.ensures.done in
    closed_ran turns _ _ _ (cut_ran turns _ _ c.requires.file c.cut_through.ensures.ran) is c.write_through.ensures.ran

pub returns-clause-ran : goal.returns-clause-ran
returns-clause-ran g c =
    let turns = c.args.turns.now in
    let is = then_cut turns _ _ c.cut_through.ensures.ran.told c.requires.file c.in_ok-cut_through.ensures.done in
    closed_ran turns _ _ _ (cut_ran turns _ _ c.requires.file c.cut_through.ensures.ran) is c.write_through.ensures.ran

pub returns-clause-done : goal.returns-clause-done
returns-clause-done g c =
    let turns = c.args.turns.now in
    let is = then_cut turns _ _ c.cut_through.ensures.ran.told c.requires.file c.in_ok-cut_through.ensures.done in
    then_closed turns _ _ c.write_through.ensures.ran.told is c.in_ok-write_through.ensures.done
