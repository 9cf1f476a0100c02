use Rattle.std.proofs.Common.{rules, ◌≡◌, sym, ap, ◌∙◌}
use Rattle.asl_unify.specs.Puts.{apply}
use Rattle.asl_unify_early.specs.inner.Numbers.{computed}
use Rattle.asl_unify_early.proofs.Arithmetic.{of_value}
use Rattle.asl_unify_early.proofs.numbers.result_of.Goals as goal

pub returns : goal.returns
returns c =
    let s = c.args.s.now in
    let a = c.args.a.now in
    let told : c.computed.result ≡ computed a.op c.in_ok-left.left c.in_ok-right.right = search rules in
    of_value s a c.in_ok-left.left c.in_ok-right.right c.computed.result (ap (apply s) (sym c.get-first.ensures) ∙ c.in_ok-left.ensures)
    (ap (apply s) (sym c.get-second.ensures) ∙ c.in_ok-right.ensures) told
