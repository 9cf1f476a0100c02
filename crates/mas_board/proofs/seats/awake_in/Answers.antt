use Rattle.std.proofs.Common.{arith, ◌∙◌}
use Rattle.mas_board.proofs.Surveys.{looked_at, rest_on}
use Rattle.mas_board.proofs.seats.awake_in.Goals as goal

pub returns-then-not-rests : goal.returns-then-not-rests
returns-then-not-rests c =
    let l = c.loop-i-test.true in
    let w = c.requires.within in
    record {
      there = omega arith;
      awake = looked_at _ _ _ c.loop-i.i _ _ _ (omega arith) c.requires.boxes c.count-unread.ensures c.rests.ensures ∙ c.if-not-rests.true;
    }

pub loop-i-preserved : goal.loop-i-preserved
loop-i-preserved c =
    let l = c.loop-i-test.true in
    let w = c.requires.within in
    rest_on _ _ _ _ c.loop-i.i c.loop-i.invariant
    (looked_at _ _ _ c.loop-i.i _ _ _ (omega arith) c.requires.boxes c.count-unread.ensures c.rests.ensures ∙ c.if-not-rests.false)
