use Rattle.std.proofs.Common.{◌≡◌, length, sym, ap, ◌∙◌, arith}
use Rattle.std.specs.Option.{option_copied}
use Rattle.asl_unify.specs.Renamed.{renamed_literal}
use Rattle.asl_intend.specs.Stacks.{trigger_at, matched_at}
use Rattle.asl_fail.proofs.Frames.{filed_way, found_way, later_way, last_way, past_way}
use Rattle.asl_fail.proofs.failure.any_way.Goals as goal

pub loop-k-init : goal.loop-k-init
loop-k-init c e err = filed_way c.args.number e c.args.pushed.now (trigger_at c.args.stack.now 0) c.requires c.args.lib.now.plans

pub returns-then-branch : goal.returns-then-branch
returns-then-branch c e err =
    let top = trigger_at c.args.stack.now 0 in
    let entry = c.in-Some.entry.now in
    found_way c.args.number e c.args.pushed.now top c.requires c.args.lib.now.plans c.loop-k.k entry (sym c.in-Some.ensures)
    (sym c.if-branch.true ∙ c.in_ok-matches_top.ensures ∙ ap (λ l. matched_at (renamed_literal c.args.number entry.plan.trigger.lit) l top) err)
    (c.loop-k.invariant e err)

pub loop-k-preserved : goal.loop-k-preserved
loop-k-preserved c e err =
    let top = trigger_at c.args.stack.now 0 in
    let entry = c.in-Some.entry.now in
    later_way c.args.number e c.args.pushed.now top c.requires c.args.lib.now.plans c.loop-k.k entry (sym c.in-Some.ensures)
    (sym c.if-branch.false ∙ c.in_ok-matches_top.ensures ∙ ap (λ l. matched_at (renamed_literal c.args.number entry.plan.trigger.lit) l top) err)
    (c.loop-k.invariant e err)

pub returns-in_default : goal.returns-in_default
returns-in_default c e err =
    last_way c.args.number e c.args.pushed.now (trigger_at c.args.stack.now 0) c.requires c.args.lib.now.plans c.loop-k.k
    (sym c.filed_plan.ensures ∙ ap option_copied c.in_default.is) (c.loop-k.invariant e err)

pub returns : goal.returns
returns c e err =
    let plans = c.args.lib.now.plans in
    let same : length c.all-k-end.result.now ≡ length plans = ap length c.all-k-end.ensures in
    past_way c.args.number e c.args.pushed.now (trigger_at c.args.stack.now 0) c.requires plans c.loop-k.k
    (omega (arith, c.loop-k-test.false, same)) (c.loop-k.invariant e err)
