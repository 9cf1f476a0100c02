use Rattle.std.proofs.Common.{◌≡◌, length, take}
use Rattle.asl_term.proofs.name.short.Given as goal

abbrev pub invariant-loop-i : goal.invariant-loop-i
invariant-loop-i l = (length l.kept ≡ 22) × (take l.i l.kept ≡ take l.i l.bytes)
