use Rattle.test_pools.proofs.Starts.{no_facts}
use Rattle.test_pools.proofs.runs.board_of_three.Goals as goal

pub new-file-requires : goal.new-file-requires
new-file-requires c = no_facts c.new-3.result c.new-3.ensures
