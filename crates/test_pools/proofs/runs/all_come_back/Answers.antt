use Rattle.test_pools.proofs.Starts.{starts}
use Rattle.test_pools.proofs.runs.all_come_back.Goals as goal

pub round_robin-requires : goal.round_robin-requires
round_robin-requires g c = starts c.in_ok-board.board c.in_ok-minds.minds c.args.last c.in_ok-board.ensures c.in_ok-minds.ensures

pub run_pool-requires-clause-start : goal.run_pool-requires-clause-start
run_pool-requires-clause-start g c κs within = starts c.in_ok-board.board c.in_ok-minds.minds c.args.last c.in_ok-board.ensures c.in_ok-minds.ensures

pub run_stealing-requires-clause-start : goal.run_stealing-requires-clause-start
run_stealing-requires-clause-start g c κs within = starts c.in_ok-board.board c.in_ok-minds.minds c.args.last c.in_ok-board.ensures c.in_ok-minds.ensures
