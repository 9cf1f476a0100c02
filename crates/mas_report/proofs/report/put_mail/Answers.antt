use Rattle.std.proofs.Common.{rules, ◌≡◌, ◌++◌, ◌≤◌, ◌+◌, arith}
use Rattle.mas_report.specs.Report as spec
use Rattle.mas_report.proofs.Sections.{boxes_next}
use Rattle.mas_report.proofs.report.put_mail.Goals as goal

pub boxes-preserved : goal.boxes-preserved
boxes-preserved g c =
    let i = c.boxes.invariant in
    let s = c.args.b.now.state in
    let a = c.boxes.a in
    let l : a ≤ c.len-agents.result = search rules in
    let e : c.put_box.new.out ≡ c.boxes.out ++ spec.box_text s a = search rules in
    record {
      from_one = omega arith;
      most = omega (arith, l);
      number = i.number;
      text = boxes_next s a c.len-agents.result c.boxes.out c.put_box.new.out _ l e i.text;
    }
