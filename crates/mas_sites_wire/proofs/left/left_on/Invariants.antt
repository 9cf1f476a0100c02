use Rattle.mas_sites_wire.specs.Ends.{log_of}
use Rattle.mas_sites_wire.proofs.Lefts.{HasLeft}
use Rattle.mas_sites_wire.proofs.left.left_on.Given as goal

abbrev pub invariant-loop : goal.invariant-loop
invariant-loop g l = HasLeft l.wire l.end (log_of l.fn.puts).sender (log_of l.fn.puts).agents (log_of l.fn.puts).put (log_of l.fn.gets).got l.left
