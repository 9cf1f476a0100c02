use Rattle.std.proofs.Common.{rules, ◌≡◌, sym, subst}
use Rattle.std.specs.Prelude.{IfSome}
use Rattle.asl_unify_early.specs.inner.Numbers.{IsRelated, of_numbers}
use Rattle.asl_unify_early.proofs.Arithmetic.{if_related, numbers_relate}
use Rattle.asl_unify_early.proofs.numbers.by_numbers.Goals as goal

pub returns : goal.returns
returns c =
    let r = c.args.r.now in
    let m = c.in_ok-left.left in
    let n = c.in_ok-right.right in
    let told : c.numbers_related.result ≡ of_numbers r.op m n = search rules in
    if_related r c.args.s.now m n c.numbers_related.result c.in_ok-left.ensures c.in_ok-right.ensures
    (subst (λ o. IfSome o (λ b. IsRelated r.op m n b)) (sym told) (numbers_relate r.op m n))
