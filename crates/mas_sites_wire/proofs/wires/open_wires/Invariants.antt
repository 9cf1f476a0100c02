use Rattle.std.proofs.Common.{length}
use Rattle.mas_sites_wire.proofs.Openings.{AreParted}
use Rattle.mas_sites_wire.proofs.wires.open_wires.Given as goal

abbrev pub invariant-loop-i : goal.invariant-loop-i
invariant-loop-i l = AreParted (length l.here) l.i l.wires.wires l.wires.one l.wires.two l.here
