use Rattle.std.proofs.Common.{◌≡◌, ◌≤◌, ◌+◌, ◌-◌, suc, length, drop, Some, None, ℕ, arith, ap, sym, subst, ◌∙◌}
use Rattle.asl_goals.specs.Goals.{from_lowest}
use Rattle.asl_goals.proofs.Cuts as cuts
use Rattle.asl_goals.proofs.sweep.cut_to_goal.Goals as goal

pub returns-then-named-clause-has : goal.returns-then-named-clause-has
returns-then-named-clause-has c =
    let g = c.args.g.now in
    let l = c.loop-tested in
    let all = c.len-all.result in
    let above = all - 1 - l.tested in
    let long = ap length l.invariant.same in
    let next : all - l.tested ≡ suc above = omega arith in
    let within : all - l.tested ≤ length l.stack = omega arith in
    let cut = cuts.found g (all - l.tested) above l.stack c.in_ok-named.named next within l.invariant.none c.in_ok-named.ensures c.if-named.true in
    ap (from_lowest g) (sym l.invariant.same) ∙ cut ∙ ap (λ s. Some s) (sym c.pop_all.ensures)

pub loop-tested-preserved : goal.loop-tested-preserved
loop-tested-preserved c =
    let g = c.args.g.now in
    let l = c.loop-tested in
    let all = c.len-all.result in
    let above = all - 1 - l.tested in
    let long = ap length l.invariant.same in
    let next : all - l.tested ≡ suc above = omega arith in
    let within : all - l.tested ≤ length l.stack = omega arith in
    let none = cuts.missed g (all - l.tested) above l.stack c.in_ok-named.named next within l.invariant.none c.in_ok-named.ensures c.if-named.false in
    let place : above ≡ all - (l.tested + 1) = omega arith in
    record { same = l.invariant.same; none = subst (λ (k : ℕ). from_lowest g (drop k l.stack) ≡ None) place none }
