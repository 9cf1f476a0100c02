use Rattle.std.proofs.Common.{List, ◌++◌, ◌∙◌, ap}
use Rattle.mas_pool_ready.proofs.Splits.{gathered_next}
use Rattle.mas_pool_ready.proofs.queue.Ready.gather.Goals as goal

pub loop-other-preserved : goal.loop-other-preserved
loop-other-preserved g c =
    let j = c.join.ensures in
    gathered_next _ _ c.in-Some.other _ _ _ _ _ _ c.loop-other.invariant j.pass j.kept j.both
    (c.in_ok-append_all.ensures.ok ∙ ap (λ (l : List g.row.T.Denot). c.loop-other.items ++ l) c.into_seq.ensures)
