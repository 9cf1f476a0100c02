use Rattle.std.proofs.Common.{◌≡◌, ◌++◌}
use Rattle.asl_goals.specs.Sending.{to_others}
use Rattle.asl_goals.proofs.Spread.{from_on}
use Rattle.asl_goals.proofs.letter.to_others.Given as goal

-- the messages so far, and those that are still to come
abbrev pub invariant-loop-k : goal.invariant-loop-k
invariant-loop-k l = l.messages ++ from_on l.peers.me l.verb l.t l.peers.names l.k ≡ to_others l.peers.me l.verb l.t 1 l.peers.names
