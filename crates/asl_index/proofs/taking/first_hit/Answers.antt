use Rattle.std.proofs.Common.{sym, ap, ◌∙◌, arith}
use Rattle.std.specs.Option.{option_copied}
use Rattle.asl_index.proofs.Walking.{hit_found, unmatched_next, none_found, slot_filled, not_beyond}
use Rattle.asl_index.proofs.taking.first_hit.Goals as goal
use Rattle.asl_index.proofs.taking.first_hit.Goals.{in-Some+in-Some-at+in_ok-subst+in_default-2, in-Some+in_default-at, in_default}

pub returns-in-Some-2 : goal.returns-in-Some-2
returns-in-Some-2 c =
    hit_found c.args.p.now c.args.s.now c.args.store.now c.loop-k.k c.in-Some.slot c.in-Some-at.b.now c.in-Some-2.subst (sym c.slot.ensures ∙ c.in-Some.is)
    (sym c.in-Some-at.ensures) (sym c.in_ok-subst.ensures ∙ c.in-Some-2.is) c.loop-k.invariant

pub loop-k-preserved : goal.loop-k-preserved
loop-k-preserved c =
    let p = c.args.p.now in
    let s = c.args.s.now in
    let slots = c.args.store.now in
    let k = c.loop-k.k in
    elim c.match-slot.branch [
      | in-Some+in-Some-at+in_ok-subst+in_default-2 w ↦ unmatched_next p s slots k w.in-Some.slot w.in-Some-at.b.now (sym c.slot.ensures ∙ w.in-Some.is)
          (sym w.in-Some-at.ensures) (sym w.in_ok-subst.ensures ∙ w.in_default-2.is) c.loop-k.invariant
      | in-Some+in_default-at w ↦ absurd (slot_filled p slots k w.in-Some.slot (sym c.slot.ensures ∙ w.in-Some.is) (sym w.at.ensures ∙ ap option_copied w.in_default-at.is))
      | in_default w ↦ absurd (not_beyond p slots k (sym c.slot.ensures ∙ w.in_default.is) (omega (arith, c.loop-k-test.true, c.count-k-end.ensures.count)))
    ]

pub returns : goal.returns
returns c =
    none_found c.args.p.now c.args.s.now c.args.store.now c.loop-k.k (omega (arith, c.loop-k-test.false, c.count-k-end.ensures.count)) c.loop-k.invariant
