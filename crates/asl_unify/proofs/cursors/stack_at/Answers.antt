use Rattle.std.proofs.Common.{arith, get_or}
use Rattle.std.proofs.lemmas.List.{drop_all}
use Rattle.std.proofs.lemmas.Option.{slice_get-get_or}
use Rattle.asl_unify.proofs.Portions.{climbs, climb_begins, climb_ends}
use Rattle.asl_unify.proofs.cursors.stack_at.Goals as goal

pub loop-place-init : goal.loop-place-init
loop-place-init c =
    let r = climb_begins c.args.patterns.now c.args.held.now c.args.first c.args.at.now c.new-stack.result.items c.new-stack.ensures.items in
    record { linked = r.0; left = r.1 }

pub loop-place-preserved : goal.loop-place-preserved
loop-place-preserved c =
    let a = c.args in
    let l = c.loop-place in
    let told = c.in_ok-top.ensures in
    let r =
    climbs a.patterns.now a.held.now a.first a.at.now l.place-index (get_or a.at.now l.place-index 0) l.stack.items c.climb.new.stack.items l.top
    c.in_ok-top.top
    (slice_get-get_or a.at.now l.place-index 0 (omega (arith, c.loop-place-test.true))) told.none told.next told.frame l.invariant.linked l.invariant.left in
    record { linked = r.0; left = r.1 }

pub returns-clause-linked : goal.returns-clause-linked
returns-clause-linked c = (c.loop-place.top, c.loop-place.invariant.linked)

pub returns-clause-left : goal.returns-clause-left
returns-clause-left c =
    let a = c.args in
    let l = c.loop-place in
    climb_ends a.patterns.now a.held.now a.first a.at.now l.place-index l.stack.items l.top (drop_all l.place-index a.at.now c.loop-place-test.false)
    l.invariant.left
