use Rattle.std.proofs.Common.{◌≡◌, ◌++◌, map}
use Rattle.std.specs.List.{range_with_len}
use Rattle.mas_top_demo.specs.Files.{agent_file}
use Rattle.mas_top_demo.proofs.files.put_agents.Given as goal

abbrev pub invariant-loop-n : goal.invariant-loop-n
invariant-loop-n l = l.files ≡ l.fn.files ++ map agent_file (range_with_len 1 l.n)
