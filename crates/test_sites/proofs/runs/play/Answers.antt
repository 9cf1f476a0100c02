use Rattle.test_sites.proofs.Starts.{start_one, start_two, fresh_one, fresh_two, apart}
use Rattle.test_sites.proofs.runs.play.Goals as goal

pub run_sites-requires-clause-one : goal.run_sites-requires-clause-one
run_sites-requires-clause-one g c κs within = start_one c.in_ok-board_one.board_one c.in_ok-minds_one.minds_one c.in_ok-board_one.ensures c.in_ok-minds_one.ensures

pub run_sites-requires-clause-two : goal.run_sites-requires-clause-two
run_sites-requires-clause-two g c κs within = start_two c.in_ok-board_two.board_two c.in_ok-minds_two.minds_two c.in_ok-board_two.ensures c.in_ok-minds_two.ensures

pub run_sites-requires-clause-fresh : goal.run_sites-requires-clause-fresh
run_sites-requires-clause-fresh g c κs within = (fresh_one c.in_ok-minds_one.minds_one c.in_ok-minds_one.ensures, fresh_two c.in_ok-minds_two.minds_two c.in_ok-minds_two.ensures)

pub run_sites-requires-clause-apart : goal.run_sites-requires-clause-apart
run_sites-requires-clause-apart g c κs within = apart c.in_ok-minds_one.minds_one c.in_ok-minds_two.minds_two c.in_ok-minds_one.ensures c.in_ok-minds_two.ensures
