use Rattle.look_top.proofs.Outputs.{page_no_project, paged}
use Rattle.look_top.proofs.paging.page_output.Goals as goal

pub returns-in-Err-changes_of-clause-answer : goal.returns-in-Err-changes_of-clause-answer
returns-in-Err-changes_of-clause-answer g c =
    page_no_project _ _ _ _ _ c.args.words.now.project.now c.args.words.now.report.now _ _ _ c.report_bytes.ensures.same c.report_bytes.ensures.later
    c.in-Err-changes_of.ensures.answer

pub returns-clause-answer : goal.returns-clause-answer
returns-clause-answer g c =
    paged _ _ _ _ _ _ c.args.words.now.project.now c.args.words.now.report.now _ _ _ c.report_bytes.ensures.same c.in-Ok.ensures.answer
    c.in-Ok-changes_of.ensures.answer c.changes_output.ensures
