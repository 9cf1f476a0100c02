use Rattle.std.proofs.Common.{rules, sym, ap, ◌∙◌}
use Rattle.asl_unify.specs.Puts.{apply, value_of}
use Rattle.asl_term.specs.declared.syntax.Term.TheVariants as term
use Rattle.asl_unify_early.proofs.Arithmetic.{put_num, becomes_at, if_same}
use Rattle.asl_unify_early.proofs.numbers.settled_number.Goals as goal

pub returns-in-Num : goal.returns-in-Num
returns-in-Num c =
    let s = c.args.s.now in
    becomes_at s c.args.t.now c.in-Num.n _ (sym c.walk.ensures.same ∙ ap (apply s) c.in-Num.is ∙ put_num (value_of s) c.in-Num.n) (search rules)

pub returns-in-Op : goal.returns-in-Op
returns-in-Op c =
    let s = c.args.s.now in
    if_same s c.args.t.now (term.Op c.in-Op.a) c.result_of.result (sym (ap (apply s) c.in-Op.is) ∙ c.walk.ensures.same) c.result_of.ensures
