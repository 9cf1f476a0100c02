use Rattle.std.proofs.Common.{◌≡◌, ◌≤◌, ◌++◌, ◌+◌, ◌-◌, length}
use Rattle.mas_report.specs.Report.{boxes_text, mail_text}
use Rattle.mas_free.specs.Free.{board_at_end}
use Rattle.mas_explore_space.specs.Held.{start_of}
use Rattle.mas_explore_space.specs.Rows.{free_of}
use Rattle.mas_explore_space.proofs.texts.put_boxes.Given as goal

abbrev pub invariant-boxes : goal.invariant-boxes
invariant-boxes g l =
    let k = g.M.Mind.kind in
    let f = free_of k (start_of (g.F.FreshWorld.agents l.fresh) (g.F.FreshWorld.start l.fresh) (g.F.Fresh.first l.fresh)) l.held l.row in
    record {
      most : l.place ≤ l.agents;
      number : l.agents ≡ length f.stages;
      text : l.out ++ boxes_text (board_at_end f) (l.place + 1) (l.agents + 1 - (l.place + 1)) ≡ l.fn.out ++ mail_text (board_at_end f);
    }

abbrev pub decreases-boxes : goal.decreases-boxes
decreases-boxes g l = l.agents - l.place
