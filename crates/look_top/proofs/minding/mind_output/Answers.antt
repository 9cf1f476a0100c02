use Rattle.look_top.specs.Asked.{minding_of}
use Rattle.look_top.proofs.Outputs.{mind_no_project, seen}
use Rattle.look_top.proofs.minding.mind_output.Goals as goal

pub returns-in-Err-look_of-clause-answer : goal.returns-in-Err-look_of-clause-answer
returns-in-Err-look_of-clause-answer g c =
    mind_no_project _ _ _ _ _ (minding_of c.args.words.now) _ _ _ c.report_bytes.ensures.same c.report_bytes.ensures.later
    c.in-Err-look_of.ensures.answer

pub returns-clause-answer : goal.returns-clause-answer
returns-clause-answer g c =
    seen _ _ _ _ _ _ (minding_of c.args.words.now) _ _ _ c.report_bytes.ensures.same c.in-Ok.ensures.answer c.in-Ok-look_of.ensures.answer
    c.look_output.ensures
