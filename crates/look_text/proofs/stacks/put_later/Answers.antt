use Rattle.std.proofs.Common.{◌<◌, ◌++◌, drop, subst}
use Rattle.asl_intend.specs.Bodies.{body_at}
use Rattle.look_text.specs.Stacks.{later_text}
use Rattle.look_text.proofs.Stacked.{later_step}
use Rattle.look_text.proofs.stacks.put_later.Goals as goal

pub items-preserved : goal.items-preserved
items-preserved c =
    let body = body_at c.args.stack.now c.args.k in
    later_step body c.items.j c.items.out c.append.new.self c.put_item.new.out (c.args.out.now ++ later_text (drop 1 body))
    (subst (λ n. c.items.j < n) c.requires c.items-test.true) c.in_ok-append.ensures.ok c.in_ok-put_item.ensures c.items.invariant
