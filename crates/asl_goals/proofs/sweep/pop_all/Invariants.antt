use Rattle.std.proofs.Common.{◌≡◌, drop}
use Rattle.asl_goals.proofs.sweep.pop_all.Given as goal

abbrev pub invariant-loop : goal.invariant-loop
invariant-loop l = l.stack ≡ drop l.counter l.initial.stack
