use Rattle.std.proofs.Common.{sym, ◌∙◌, arith}
use Rattle.asl_index_tables.specs.Keys.{listed}
use Rattle.asl_plans.proofs.Filings.{found_at, looked_next, not_past, none_left}
use Rattle.asl_plans.proofs.index.find.Goals as goal
use Rattle.asl_plans.proofs.index.find.Goals.{in-Some+else-is_at, in_default}

pub returns-then-is_at : goal.returns-then-is_at
returns-then-is_at c = found_at c.args.p.now c.args.entries.now c.in-Some.place (sym c.is_at.ensures ∙ c.if-is_at.true)

pub loop-k-preserved : goal.loop-k-preserved
loop-k-preserved c =
    let xs = listed c.args.keys.now c.plan_key-key.result in
    elim c.match-at.branch [
      | in-Some+else-is_at w ↦ looked_next c.args.p.now c.args.entries.now xs c.loop-k.k w.in-Some.place (sym c.at.ensures ∙ w.in-Some.is)
          (sym w.is_at.ensures ∙ w.if-is_at.false) c.loop-k.invariant
      | in_default w ↦ absurd (not_past xs c.loop-k.k (omega (arith, c.loop-k-test.true, c.count-k-end.ensures)) (sym c.at.ensures ∙ w.in_default.is))
    ]

pub returns : goal.returns
returns c =
    none_left c.args.p.now c.args.entries.now c.args.keys.now c.plan_key-key.result c.loop-k.k c.plan_key-key.ensures c.requires
    (omega (arith, c.loop-k-test.false, c.count-k-end.ensures)) c.loop-k.invariant
