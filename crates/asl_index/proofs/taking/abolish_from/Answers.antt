use Rattle.std.proofs.Common.{◌<◌, ◌-◌, ◌++◌, ◌∷◌, [], length, subst, sym, ap, ◌∙◌, arith}
use Rattle.std.specs.Option.{is_some}
use Rattle.std.specs.List.{filter}
use Rattle.std.proofs.lemmas.Option.{slice_get_within}
use Rattle.asl_unify.specs.Compare.{same_frame}
use Rattle.asl_index_tables.specs.Slots.{kept}
use Rattle.asl_index_tables.proofs.Slots.{nth_slot}
use Rattle.asl_beliefs.specs.Bases.{AreBeliefs}
use Rattle.asl_index.proofs.Heads.{few}
use Rattle.asl_index.proofs.Steps.{sound_gone}
use Rattle.asl_index.proofs.Walking.{Walked, going_on, going_smaller, staying_on, staying_smaller, walked_all}
use Rattle.asl_index.proofs.taking.abolish_from.Goals as goal

pub drop_at-requires : goal.drop_at-requires
drop_at-requires c =
    ap is_some (nth_slot (same_frame c.args.p.now) c.loop-slot.store c.loop-slot.k c.in-Some.slot (sym c.slot.ensures ∙ c.in-Some.is)).at

pub loop-slot-smaller-in-Continue-branch-2 : goal.loop-slot-smaller-in-Continue-branch-2
loop-slot-smaller-in-Continue-branch-2 c =
    let p = c.args.p.now in
    let s = c.loop-slot.store in
    let e = sym c.slot.ensures ∙ c.in-Some.is in
    let q = nth_slot (same_frame p) s c.loop-slot.k c.in-Some.slot e in
    going_smaller p s c.loop-slot.k c.loop-slot.events c.args.store.now c.loop-slot.invariant c.in-Some.slot q.here e q.at
    (sym (c.in_ok-is_hit.ensures q.here q.at) ∙ c.if-branch.true) c.drop_at.new.store c.drop_at.ensures.slots

pub loop-slot-preserved-in-Continue-branch-2 : goal.loop-slot-preserved-in-Continue-branch-2
loop-slot-preserved-in-Continue-branch-2 c =
    let p = c.args.p.now in
    let s = c.loop-slot.store in
    let e = sym c.slot.ensures ∙ c.in-Some.is in
    let q = nth_slot (same_frame p) s c.loop-slot.k c.in-Some.slot e in
    going_on p s c.loop-slot.k c.loop-slot.events c.args.store.now c.loop-slot.invariant c.in-Some.slot q.here e q.at
    (sym (c.in_ok-is_hit.ensures q.here q.at) ∙ c.if-branch.true) c.drop_at.new.store c.drop_at.ensures.slots c.push.new.self
    (c.in_ok-push.ensures.ok ∙ ap (λ z. c.loop-slot.events ++ z ∷ []) (c.drop_at.ensures.event q.here q.at))

pub returns-in_err-push-clause-sound : goal.returns-in_err-push-clause-sound
returns-in_err-push-clause-sound c =
    let s = c.loop-slot.store in
    let q = nth_slot (same_frame c.args.p.now) s c.loop-slot.k c.in-Some.slot (sym c.slot.ensures ∙ c.in-Some.is) in
    subst (λ z. AreBeliefs (kept z)) (sym c.drop_at.ensures.slots) (sound_gone s c.in-Some.slot q.here c.loop-slot.invariant.sound q.at)

pub after-k-requires : goal.after-k-requires
after-k-requires c =
    let p = c.args.p.now in
    let s = c.loop-slot.store in
    let q = nth_slot (same_frame p) s c.loop-slot.k c.in-Some.slot (sym c.slot.ensures ∙ c.in-Some.is) in
    let within = slice_get_within (filter (same_frame p) (kept s)) c.loop-slot.k q.here q.nth in
    let most = few (same_frame p) s in
    omega (arith, within, most, c.len.ensures)

pub loop-slot-smaller : goal.loop-slot-smaller
loop-slot-smaller c =
    let p = c.args.p.now in
    let s = c.loop-slot.store in
    let e = sym c.slot.ensures ∙ c.in-Some.is in
    let q = nth_slot (same_frame p) s c.loop-slot.k c.in-Some.slot e in
    subst (λ m. length (filter (same_frame p) (kept s)) - m < length (filter (same_frame p) (kept s)) - c.loop-slot.k) (sym c.after-k.ensures)
    (staying_smaller p s c.loop-slot.k c.loop-slot.events c.args.store.now c.loop-slot.invariant c.in-Some.slot q.here e q.at)

pub loop-slot-preserved : goal.loop-slot-preserved
loop-slot-preserved c =
    let p = c.args.p.now in
    let s = c.loop-slot.store in
    let e = sym c.slot.ensures ∙ c.in-Some.is in
    let q = nth_slot (same_frame p) s c.loop-slot.k c.in-Some.slot e in
    subst (λ m. Walked p s m c.loop-slot.events c.args.store.now) (sym c.after-k.ensures)
    (staying_on p s c.loop-slot.k c.loop-slot.events c.args.store.now c.loop-slot.invariant c.in-Some.slot q.here e q.at
    (sym (c.in_ok-is_hit.ensures q.here q.at) ∙ c.if-branch.false))

pub returns-clause-beliefs : goal.returns-clause-beliefs
returns-clause-beliefs c =
    (walked_all c.args.p.now c.loop-slot.store c.loop-slot.k c.loop-slot.events c.args.store.now c.loop-slot.invariant (sym c.slot.ensures ∙ c.in_default.is)).0

pub returns-clause-events : goal.returns-clause-events
returns-clause-events c =
    (walked_all c.args.p.now c.loop-slot.store c.loop-slot.k c.loop-slot.events c.args.store.now c.loop-slot.invariant (sym c.slot.ensures ∙ c.in_default.is)).1
