use Rattle.std.proofs.Common.{◌+◌, sym, ◌∙◌, refl}
use Rattle.asl_plans.specs.FiledPlaces.{plan_key}
use Rattle.asl_plans.proofs.Countings.{counted_same, counted_more}
use Rattle.asl_plans.proofs.index.put_next.Goals as goal

pub returns-then-not-is_kept : goal.returns-then-not-is_kept
returns-then-not-is_kept c =
    counted_same c.args.which.now c.args.owner c.args.e.now c.args.n c.args.filed.now c.args.keys.now (sym c.is_kept.ensures ∙ c.if-not-is_kept.true)

pub returns : goal.returns
returns c =
    counted_more c.args.which.now c.args.owner c.args.e.now c.args.n (c.args.n + 1) (plan_key c.args.e.now.plan) c.args.filed.now c.put.new.filed
    c.args.keys.now c.put.new.keys (sym c.is_kept.ensures ∙ c.if-not-is_kept.false) c.in_ok-put.ensures.filed refl c.in_ok-put.ensures.listed refl
