use Rattle.std.proofs.Common.{◌≡◌, ◌++◌, drop}
use Rattle.look_text.specs.Stacks.{stack_text}
use Rattle.look_text.proofs.stacks.put_stack.Given as goal

abbrev pub invariant-means : goal.invariant-means
invariant-means l = l.out ++ stack_text (drop l.k l.stack) ≡ l.fn.out ++ stack_text l.stack
