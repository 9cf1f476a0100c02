use Rattle.std.proofs.Common.{◌≡◌, ◌+◌, ◌++◌, drop}
use Rattle.look_text.specs.Agendas.{running_from}
use Rattle.look_text.proofs.agendas.put_each_running.Given as goal

abbrev pub invariant-stacks : goal.invariant-stacks
invariant-stacks l = l.out ++ running_from (l.before + l.k + 1) (drop l.k l.all) ≡ l.fn.out ++ running_from (l.before + 1) l.all
