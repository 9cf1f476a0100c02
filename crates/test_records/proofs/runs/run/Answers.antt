use Rattle.test_records.proofs.Starts.{starts}
use Rattle.test_records.proofs.runs.run.Goals as goal

pub record_run-requires-clause-start : goal.record_run-requires-clause-start
record_run-requires-clause-start g c κs within = starts c.in_ok-board.board c.in_ok-minds.minds c.in_ok-board.ensures c.in_ok-minds.ensures

pub resume_run-requires-clause-start : goal.resume_run-requires-clause-start
resume_run-requires-clause-start g c κs within = starts c.in_ok-board.board c.in_ok-minds.minds c.in_ok-board.ensures c.in_ok-minds.ensures
