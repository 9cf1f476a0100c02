use Rattle.mas_sites_wire.proofs.Lefts.{ArePaired}
use Rattle.mas_sites_wire.proofs.left.paired.Given as goal

abbrev pub invariant-loop-first : goal.invariant-loop-first
invariant-loop-first g l = ArePaired l.pairs l.yielded l.two l.fn.two
