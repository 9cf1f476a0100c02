use Rattle.asl_plans.proofs.Changes.{found_is, found_within, found_new, found_ok, found_index, found_sound, none_is, new_new, new_ok, new_sound}
use Rattle.asl_plans.proofs.changing.add_to.Goals as goal

pub own_at-requires : goal.own_at-requires
own_at-requires c =
    let f = found_is c.args.p c.args.entries.now c.as_slice.result.now c.find.result c.in-Some.k c.as_slice.ensures c.in-Some.is c.find.ensures in
    found_within c.args.p c.args.entries.now c.in-Some.k f

pub returns-in-Some-clause-new : goal.returns-in-Some-clause-new
returns-in-Some-clause-new c =
    let f = found_is c.args.p c.args.entries.now c.as_slice.result.now c.find.result c.in-Some.k c.as_slice.ensures c.in-Some.is c.find.ensures in
    found_new c.args.p c.args.owner c.args.entries.now c.in-Some.k c.requires.sound f c.own_at.result c.own_at.ensures.new

pub returns-in-Some-clause-ok : goal.returns-in-Some-clause-ok
returns-in-Some-clause-ok c =
    let f = found_is c.args.p c.args.entries.now c.as_slice.result.now c.find.result c.in-Some.k c.as_slice.ensures c.in-Some.is c.find.ensures in
    found_ok c.args.p c.args.owner c.args.entries.now c.in-Some.k c.requires.sound f c.own_at.result c.own_at.new.entries c.own_at.ensures.ok

pub returns-in-Some-clause-index : goal.returns-in-Some-clause-index
returns-in-Some-clause-index c =
    let f = found_is c.args.p c.args.entries.now c.as_slice.result.now c.find.result c.in-Some.k c.as_slice.ensures c.in-Some.is c.find.ensures in
    found_index c.args.p c.args.owner c.args.entries.now c.in-Some.k c.requires.sound f c.own_at.result c.own_at.new.entries c.args.filed.now c.args.keys.now
    c.requires.index c.own_at.ensures.ok c.own_at.ensures.err

pub returns-in-Some-clause-sound : goal.returns-in-Some-clause-sound
returns-in-Some-clause-sound c =
    let f = found_is c.args.p c.args.entries.now c.as_slice.result.now c.find.result c.in-Some.k c.as_slice.ensures c.in-Some.is c.find.ensures in
    found_sound c.args.p c.args.owner c.args.entries.now c.in-Some.k c.requires.sound f c.own_at.result c.own_at.new.entries c.own_at.ensures.ok
    c.own_at.ensures.err

pub returns-in_ok-put_new-in-None-clause-new : goal.returns-in_ok-put_new-in-None-clause-new
returns-in_ok-put_new-in-None-clause-new c =
    new_new c.args.p c.args.owner c.args.entries.now
    (none_is c.args.p c.args.entries.now c.as_slice.result.now c.find.result c.as_slice.ensures c.in-None.is c.find.ensures)

pub returns-in_ok-put_new-in-None-clause-ok : goal.returns-in_ok-put_new-in-None-clause-ok
returns-in_ok-put_new-in-None-clause-ok c =
    new_ok c.args.p c.args.owner c.args.entries.now
    (none_is c.args.p c.args.entries.now c.as_slice.result.now c.find.result c.as_slice.ensures c.in-None.is c.find.ensures)
    c.put_new.new.entries c.in_ok-put_new-in-None.ensures.ok

pub returns-in_ok-put_new-in-None-clause-sound : goal.returns-in_ok-put_new-in-None-clause-sound
returns-in_ok-put_new-in-None-clause-sound c =
    new_sound c.args.p c.args.owner c.args.entries.now
    (none_is c.args.p c.args.entries.now c.as_slice.result.now c.find.result c.as_slice.ensures c.in-None.is c.find.ensures)
    c.put_new.new.entries c.requires.sound c.in_ok-put_new-in-None.ensures.ok
