use Rattle.std.proofs.Common.{◌≡◌, length, map}
use Rattle.mas_sites_wire.specs.Ends.{log_of}
use Rattle.mas_sites_wire.specs.Lefts.{firsts, seconds}
use Rattle.mas_sites_wire.proofs.Lefts.{AreLeftOf}
use Rattle.mas_sites_wire.proofs.left.left_on_all.Given as goal

abbrev pub invariant-loop-pair : goal.invariant-loop-pair
invariant-loop-pair g l = (l.place ≡ length l.yielded) × AreLeftOf l.place l.here (map log_of (firsts l.fn.pairs)) (map log_of (seconds l.fn.pairs)) l.ways
