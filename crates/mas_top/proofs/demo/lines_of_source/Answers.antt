use denote.Param.Send.{sendable}
use Rattle.asl_cycle.proofs.Sends.{agent_send}
use Rattle.mas_top_opening.specs.Opening.{objects_of}
use Rattle.mas_top_opening.proofs.Starts.{starts}
use Rattle.mas_top.proofs.demo.lines_of_source.Goals as goal

pub lines_of_run-requires-send-M : goal.lines_of_run-requires-send-M
lines_of_run-requires-send-M g c κs within = let t = agent_send in search sendable depth 12

pub lines_of_run-requires-clause-start : goal.lines_of_run-requires-clause-start
lines_of_run-requires-clause-start g c κs within =
    starts c.args.o.now (objects_of g.A.Artifact.named g.A.Artifact.table g.A.Artifact.facts c.args.artifacts.items) c.args.source
    c.in-Ok.opened.board c.in-Ok.opened.minds c.requires.can c.in-Ok.ensures.board c.in-Ok.ensures.minds
