use Rattle.std.proofs.Common.{◌≡◌, ◌++◌, drop}
use Rattle.asl_intend.specs.Bodies.{body_at}
use Rattle.look_text.specs.Stacks.{later_text}
use Rattle.look_text.proofs.stacks.put_later.Given as goal

abbrev pub invariant-items : goal.invariant-items
invariant-items l =
    let body = body_at l.stack l.k in
    l.out ++ later_text (drop l.j body) ≡ l.fn.out ++ later_text (drop 1 body)
