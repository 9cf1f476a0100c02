use Rattle.std.proofs.Common.{◌≡◌, ◌<◌, length, is_some, true, false, arith, rules}
use Rattle.asl_goals.proofs.Firsts.{stack_passed, stack_here}
use Rattle.asl_goals.proofs.lookup.stack_match.Goals as goal

pub returns-then-is_some : goal.returns-then-is_some
returns-then-is_some c =
    let there : is_some c.in_ok-found.found ≡ true = search rules in
    let low : c.loop-k.k < length c.args.stack.now = omega (arith, c.len-k-end.ensures) in
    stack_here c.args.g.now c.args.stack.now c.loop-k.k c.in_ok-found.found low c.in_ok-found.ensures there c.loop-k.invariant

pub loop-k-preserved : goal.loop-k-preserved
loop-k-preserved c =
    let none : is_some c.in_ok-found.found ≡ false = search rules in
    let low : c.loop-k.k < length c.args.stack.now = omega (arith, c.len-k-end.ensures) in
    stack_passed c.args.g.now c.args.stack.now c.loop-k.k c.in_ok-found.found low c.in_ok-found.ensures none c.loop-k.invariant
