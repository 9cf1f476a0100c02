use Rattle.std.proofs.Common.{◌<◌, ◌++◌, subst}
use Rattle.look_text.specs.Stacks.{stack_text}
use Rattle.look_text.proofs.Stacked.{stack_step}
use Rattle.look_text.proofs.stacks.put_stack.Goals as goal

pub means-preserved : goal.means-preserved
means-preserved c =
    stack_step c.args.stack.now c.means.k c.means.out c.put_means.new.out (c.args.out.now ++ stack_text c.args.stack.now)
    (subst (λ n. c.means.k < n) c.len-k-end.ensures c.means-test.true) c.in_ok-put_means.ensures c.means.invariant
