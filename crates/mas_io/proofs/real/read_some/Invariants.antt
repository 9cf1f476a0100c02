use Rattle.std.proofs.Common.{◌+◌, ◌-◌, length}
use Rattle.std.specs.Io.KnownBytes.{Consumes}
use Rattle.mas_io.proofs.real.read_some.Given as goal

abbrev pub invariant-turns : goal.invariant-turns
invariant-turns g l = Consumes (g.F.Read.remaining l.initial.file) (g.F.Read.remaining l.file) l.text

abbrev pub decreases-turns : goal.decreases-turns
decreases-turns g l = (l.most + 1) - length l.text
