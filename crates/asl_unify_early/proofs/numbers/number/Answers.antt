use Rattle.std.proofs.Common.{rules, sym, ap, ◌∙◌}
use Rattle.asl_unify.specs.Puts.{apply, value_of}
use Rattle.asl_unify_early.proofs.Arithmetic.{put_num, number_at}
use Rattle.asl_unify_early.proofs.numbers.number.Goals as goal

pub returns-in-Num : goal.returns-in-Num
returns-in-Num c =
    let s = c.args.s.now in
    number_at s c.args.t.now c.in-Num.n _ (sym c.walk.ensures.same ∙ ap (apply s) c.in-Num.is ∙ put_num (value_of s) c.in-Num.n) (search rules)
