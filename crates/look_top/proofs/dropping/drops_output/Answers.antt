use Rattle.look_top.specs.Asked.{dropping_of}
use Rattle.look_top.proofs.Outputs.{drops_no_project, dropped_so}
use Rattle.look_top.proofs.dropping.drops_output.Goals as goal

pub returns-in-Err-drops_of-clause-answer : goal.returns-in-Err-drops_of-clause-answer
returns-in-Err-drops_of-clause-answer g c =
    drops_no_project _ _ _ _ _ (dropping_of c.args.words.now) _ _ _ c.report_bytes.ensures.same c.report_bytes.ensures.later
    c.in-Err-drops_of.ensures.answer

pub returns-clause-answer : goal.returns-clause-answer
returns-clause-answer g c =
    dropped_so _ _ _ _ _ _ (dropping_of c.args.words.now) _ _ _ c.report_bytes.ensures.same c.in-Ok.ensures.answer c.in-Ok-drops_of.ensures.answer
    c.entries_output.ensures
