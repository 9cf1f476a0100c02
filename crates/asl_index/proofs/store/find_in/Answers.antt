use Rattle.std.proofs.Common.{sym, ◌∙◌, arith}
use Rattle.asl_index.proofs.Finds.{other_next, not_past, none_found}
use Rattle.asl_index.proofs.store.find_in.Goals as goal
use Rattle.asl_index.proofs.store.find_in.Goals.{in-Some+else-is_at, in_default}

pub loop-k-preserved : goal.loop-k-preserved
loop-k-preserved c =
    let b = c.args.b.now in
    let slots = c.args.slots.now in
    let keys = c.args.keys.now in
    let n = c.literal_print-key.result in
    elim c.match-at.branch [
      | in-Some+else-is_at w ↦ other_next b slots keys n c.requires c.loop-k.k w.in-Some.slot (sym c.at.ensures ∙ w.in-Some.is)
          (sym w.is_at.ensures ∙ w.if-is_at.false) c.loop-k.invariant
      | in_default w ↦ absurd (not_past b slots keys n c.requires c.loop-k.k (omega (arith, c.loop-k-test.true, c.count-k-end.ensures)) (sym c.at.ensures ∙ w.in_default.is))
    ]

pub returns : goal.returns
returns c =
    none_found c.args.b.now c.args.slots.now c.args.keys.now c.literal_print-key.result c.requires c.loop-k.k
    (omega (arith, c.loop-k-test.false, c.count-k-end.ensures)) c.literal_print-key.ensures c.loop-k.invariant
