use Rattle.std.proofs.Common.{codes, Some}
use Rattle.std.proofs.lemmas.Bool.Decides.{Decides-eqb}
use Rattle.std.proofs.lemmas.Slice.Eq.{strip_prefix_is}
use Rattle.mas_report_schedule.proofs.Lines.{counted}
use Rattle.mas_report_schedule.proofs.reading.count.Goals as goal

pub returns : goal.returns
returns c =
    let f = strip_prefix_is Decides-eqb c.args.bytes.now (codes "schedule ") (Some c.in_ok-digits.digits) c.in_ok-digits.ensures.cases in
    counted c.args.bytes.now c.in_ok-digits.digits.now c.count_before.result f c.count_before.ensures
