use Rattle.std.proofs.Common.{rules, ◌≡◌, ◌≤◌, ◌++◌, ◌<◌, arith, subst, slice_get, Some}
use Rattle.mas_board.specs.Boards as board
use Rattle.look_lines.specs.Outs.{unread_line}
use Rattle.mas_report.proofs.Sections.{letters_next, letters_past}
use Rattle.look_run.proofs.view.put_box.Goals as goal

pub letters-preserved : goal.letters-preserved
letters-preserved g c =
    let i = c.letters.invariant in
    let s = c.args.b.now.state in
    let box = board.box_of s.boxes c.args.a in
    let k = c.letters.k in
    let m = c.in-Some.m.now in
    let l : k < c.unread-unread.result = search rules in
    let e : slice_get box k ≡ Some m = search rules in
    let f : c.put_unread.new.out ≡ c.letters.out ++ unread_line s.names m = search rules in
    record {
      number = i.number;
      most = omega (arith, l);
      text = letters_next (unread_line s.names) box k m c.letters.out c.put_unread.new.out _ e f i.text;
    }

pub returns : goal.returns
returns g c =
    let i = c.letters.invariant in
    let s = c.args.b.now.state in
    letters_past (unread_line s.names) (board.box_of s.boxes c.args.a) c.letters.k c.letters.out _
    (subst (λ n. n ≤ c.letters.k) i.number c.letters-test.false) i.text
