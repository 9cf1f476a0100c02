use Rattle.std.proofs.Common.{◌≡◌, drop}
use Rattle.asl_index_tables.specs.Prints.{mixed}
use Rattle.asl_index_tables.proofs.prints.mix_text.Given as goal

abbrev pub invariant-loop-b : goal.invariant-loop-b
invariant-loop-b l = mixed l.n (drop l.b-index l.text) ≡ mixed l.first l.text
