use Rattle.std.proofs.Common.{ap, ◌∙◌, drop}
use Rattle.std.proofs.lemmas.List.{drop-drop}
use Rattle.asl_goals.proofs.sweep.pop_all.Goals as goal

pub loop-preserved : goal.loop-preserved
loop-preserved c = c.pop.ensures.rest ∙ ap (drop 1) c.loop.invariant ∙ drop-drop 1 c.loop.counter c.args.stack.now
