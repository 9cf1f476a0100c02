use Rattle.std.proofs.Common.{arith}
use Rattle.mas_steal_thieves.proofs.Cuttings.{rows_none, rows_cut, rows_can, rows_more}
use Rattle.mas_steal_thieves.proofs.opening.cut_rows.Goals as goal

pub loop-cut-init : goal.loop-cut-init
loop-cut-init g c = rows_none _ _ c.new-rows.ensures.items

pub cut_row-requires : goal.cut_row-requires
cut_row-requires g c = rows_can _ _ c.args.hands _ _ c.loop-cut.invariant c.requires (omega arith)

pub loop-cut-preserved : goal.loop-cut-preserved
loop-cut-preserved g c = rows_more _ _ _ _ _ _ _ c.loop-cut.invariant c.in_ok-row.ensures.cut c.in_ok-row.ensures.row c.in_ok-push.ensures.items

pub returns-clause-cut : goal.returns-clause-cut
returns-clause-cut g c = rows_cut c.loop-cut.cut c.args.hands _ _ _ c.loop-cut.invariant (omega arith)
