use Rattle.std.proofs.Common.{false, map, Some, sym, ap, ◌∙◌, arith}
use Rattle.std.specs.List.{list_any}
use Rattle.std.specs.Option.{option_map_or}
use Rattle.asl_index_tables.proofs.Slots.{kept_some}
use Rattle.asl_beliefs.specs.Changes.{same_belief}
use Rattle.asl_index.proofs.Finds.{other_next, not_past, none_found}
use Rattle.asl_index.proofs.Heads.{at_some}
use Rattle.asl_index.proofs.updating.is_among.Goals as goal
use Rattle.asl_index.proofs.updating.is_among.Goals.{in-Some+else-is_at, in_default}

pub loop-k-preserved : goal.loop-k-preserved
loop-k-preserved c =
    let b = c.args.b.now in
    let ls = c.args.ls.now in
    let keys = c.args.keys.now in
    let n = c.literal_print-key.result in
    elim c.match-at.branch [
      | in-Some+else-is_at w ↦ other_next b (map Some ls) keys n c.requires c.loop-k.k w.in-Some.i (sym c.at.ensures ∙ w.in-Some.is)
          (ap (λ z. option_map_or (same_belief b) z false) (at_some ls w.in-Some.i) ∙ sym w.is_at.ensures ∙ w.if-is_at.false) c.loop-k.invariant
      | in_default w ↦ absurd (not_past b (map Some ls) keys n c.requires c.loop-k.k (omega (arith, c.loop-k-test.true, c.count-k-end.ensures)) (sym c.at.ensures ∙ w.in_default.is))
    ]

pub returns : goal.returns
returns c =
    let b = c.args.b.now in
    let ls = c.args.ls.now in
    sym (ap (list_any (same_belief b)) (sym (kept_some ls))
    ∙ none_found b (map Some ls) c.args.keys.now c.literal_print-key.result c.requires c.loop-k.k
    (omega (arith, c.loop-k-test.false, c.count-k-end.ensures)) c.literal_print-key.ensures c.loop-k.invariant)
