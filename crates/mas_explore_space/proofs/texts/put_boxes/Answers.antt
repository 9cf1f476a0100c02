use Rattle.std.proofs.Common.{◌≤◌, ◌+◌, arith, sym}
use Rattle.mas_free.specs.Free.{board_at_end}
use Rattle.mas_explore_space.specs.Held.{start_of}
use Rattle.mas_explore_space.specs.Rows.{free_of}
use Rattle.mas_explore_space.proofs.Sections.{letters_in, letters_next}
use Rattle.mas_explore_space.proofs.texts.put_boxes.Goals as goal

pub boxes-preserved : goal.boxes-preserved
boxes-preserved g c =
    let k = g.M.Mind.kind in
    let s = (start_of (g.F.FreshWorld.agents c.args.fresh.now) (g.F.FreshWorld.start c.args.fresh.now) (g.F.Fresh.first c.args.fresh.now)) in
    let h = c.args.held.now in
    let i = c.boxes.invariant in
    let place = c.boxes.place in
    let l : place + 1 ≤ c.len-agents.result = (let t = c.boxes-test.true in omega arith) in
    record {
      most = l;
      number = i.number;
      text =
          letters_next (board_at_end (free_of k s h c.args.row.now)) (place + 1) c.len-agents.result c.boxes.out c.put_letters.new.out _ l
          (letters_in k s h c.args.state c.args.row.now c.requires.stands c.names-in-boxes.result.now place c.in-Some.seat.now c.boxes.out c.put_letters.new.out c.names-in-boxes.ensures (sym c.in-Some.ensures)
          c.in_ok-put_letters.ensures) i.text;
    }
