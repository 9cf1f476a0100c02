use Rattle.std.proofs.Common.{◌≡◌, ◌≤◌, ◌++◌, ◌-◌, drop, length}
use Rattle.std.specs.List.{flat_map}
use Rattle.mas_board.specs.Boards.{box_of}
use Rattle.look_lines.specs.Outs.{unread_line}
use Rattle.look_run.proofs.view.put_box.Given as goal

abbrev pub invariant-letters : goal.invariant-letters
invariant-letters g l =
    let box = box_of l.b.state.boxes l.a in
    record {
      number : l.unread ≡ length box;
      most : l.k ≤ l.unread;
      text : l.out ++ flat_map (unread_line l.b.state.names) (drop l.k box) ≡ l.fn.out ++ flat_map (unread_line l.b.state.names) box;
    }

abbrev pub decreases-letters : goal.decreases-letters
decreases-letters g l = l.unread - l.k
