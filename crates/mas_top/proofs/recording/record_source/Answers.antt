use denote.Param.Send.{sendable}
use Rattle.asl_cycle.proofs.Sends.{agent_send}
use Rattle.mas_top_opening.specs.Opening.{objects_of}
use Rattle.mas_top_opening.proofs.Starts.{starts}
use Rattle.mas_top.proofs.recording.record_source.Goals as goal

pub record_opened-requires-send-M : goal.record_opened-requires-send-M
record_opened-requires-send-M g c κs within = let t = agent_send in search sendable depth 12

pub record_opened-requires-clause-start : goal.record_opened-requires-clause-start
record_opened-requires-clause-start g c κs within =
    starts c.args.o.now (objects_of g.A.Artifact.named g.A.Artifact.table g.A.Artifact.facts c.args.artifacts.items) c.args.source
    c.in-Ok.opened.board c.in-Ok.opened.minds c.requires.can c.in-Ok.ensures.board c.in-Ok.ensures.minds
