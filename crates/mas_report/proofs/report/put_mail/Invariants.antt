use Rattle.std.proofs.Common.{◌≡◌, ◌≤◌, ◌++◌, ◌+◌, ◌-◌, length, codes}
use Rattle.mas_report.specs.Report.{boxes_text, mail_text}
use Rattle.mas_report.proofs.report.put_mail.Given as goal

abbrev pub invariant-boxes : goal.invariant-boxes
invariant-boxes g l =
    let s = l.b.state in
    record {
      from_one : 1 ≤ l.a;
      most : l.a ≤ l.agents + 1;
      number : l.agents ≡ length s.seats;
      text : l.out ++ boxes_text s l.a (l.agents + 1 - l.a) ≡ l.fn.out ++ mail_text s;
    }

abbrev pub decreases-boxes : goal.decreases-boxes
decreases-boxes g l = l.agents + 1 - l.a
