use Rattle.std.proofs.Common.{subst}
use Rattle.mas_report.specs.Report.{Decided}
use Rattle.mas_top_check.specs.Checking.{IsAllowed}
use Rattle.mas_top_check.proofs.Verdicts.{no_run, forbids_run}
use Rattle.mas_top_check.proofs.checking.told_in.Goals as goal

pub returns-in-None : goal.returns-in-None
returns-in-None c =
    let a = c.args in
    let read = c.in_ok-read_report in
    no_run a.source.now c.as_slice.result.now a.bytes.now read.field-0 c.as_slice.ensures read.ensures c.in-None.is

pub returns-else-is_allowed : goal.returns-else-is_allowed
returns-else-is_allowed c =
    let a = c.args in
    let read = c.in_ok-read_report in
    let t = c.in-Some.told in
    forbids_run a.source.now c.as_slice.result.now a.bytes.now read.field-0 c.as_slice.ensures read.ensures t c.in-Some.is
    (subst (Decided (IsAllowed a.source.now t.options)) c.if-is_allowed.false c.is_allowed.ensures)
