use Rattle.std.proofs.Common.{rules, ◌≡◌, ap}
use Rattle.std.specs.Prelude.{option_to_list}
use Rattle.std.proofs.lemmas.Result.{on_ok_weaker, on_err_weaker, IfOk-weaker}
use Rattle.asl_index_tables.specs.Slots.{kept}
use Rattle.asl_beliefs.specs.Changes.{added}
use Rattle.asl_beliefs.proofs.Added.{any_differs, added_last, sound_added}
use Rattle.asl_beliefs.proofs.Sound.{sound_after, if_ok_both}
use Rattle.asl_beliefs.proofs.Believed.{nothing_told}
use Rattle.asl_index.specs.Store.{IsSlot}
use Rattle.asl_index.proofs.Changes.{grown_beliefs, grown_events}
use Rattle.asl_index.proofs.adding.add_to.Goals as goal

pub returns-in-None-clause-beliefs : goal.returns-in-None-clause-beliefs
returns-in-None-clause-beliefs c =
    let bs = kept c.args.store.now in
    let d = any_differs c.args.b.now bs (search rules) in
    let e = added_last c.args.b.now bs d in
    search rules

pub returns-in-None-clause-event : goal.returns-in-None-clause-event
returns-in-None-clause-event c =
    let bs = kept c.args.store.now in
    let d = any_differs c.args.b.now bs (search rules) in
    let e = added_last c.args.b.now bs d in
    search rules

pub returns-in-Some-clause-beliefs : goal.returns-in-Some-clause-beliefs
returns-in-Some-clause-beliefs c =
    let s = c.args.store.now in
    let p : IsSlot c.args.b.now s c.in-Some.k = search rules in
    on_ok_weaker c.grow_at.result (λ f. grown_beliefs s c.in-Some.k c.args.b.now c.requires.sound p c.grow_at.new.store f) c.grow_at.ensures.slots

pub returns-in-Some-clause-event : goal.returns-in-Some-clause-event
returns-in-Some-clause-event c =
    let s = c.args.store.now in
    let p : IsSlot c.args.b.now s c.in-Some.k = search rules in
    IfOk-weaker c.grow_at.result _ (λ e. option_to_list e ≡ (added c.args.b.now (kept s)).events)
    (λ e f. grown_events s c.in-Some.k c.args.b.now c.requires.sound p (option_to_list e) f) c.grow_at.ensures.event

pub returns-in-None-clause-sound : goal.returns-in-None-clause-sound
returns-in-None-clause-sound c =
    let b = c.args.b.now in
    let bs = kept c.args.store.now in
    sound_after c.put_last.result bs (kept c.put_last.new.store) (added b bs).beliefs (returns-in-None-clause-beliefs c) c.put_last.ensures.err
    c.requires.sound (sound_added b bs c.requires.no_variable c.requires.sound)

pub returns-in-Some-clause-sound : goal.returns-in-Some-clause-sound
returns-in-Some-clause-sound c =
    let b = c.args.b.now in
    let bs = kept c.args.store.now in
    sound_after c.grow_at.result bs (kept c.grow_at.new.store) (added b bs).beliefs (returns-in-Some-clause-beliefs c)
    (on_err_weaker c.grow_at.result (λ e. ap kept e) c.grow_at.ensures.err)
    c.requires.sound (sound_added b bs c.requires.no_variable c.requires.sound)

pub returns-in-None-clause-nothing : goal.returns-in-None-clause-nothing
returns-in-None-clause-nothing c =
    let b = c.args.b.now in
    let bs = kept c.args.store.now in
    if_ok_both c.put_last.result (λ e. option_to_list e ≡ (added b bs).events) (kept c.put_last.new.store ≡ (added b bs).beliefs) _
    (returns-in-None-clause-event c) (returns-in-None-clause-beliefs c) (nothing_told b bs (kept c.put_last.new.store))

pub returns-in-Some-clause-nothing : goal.returns-in-Some-clause-nothing
returns-in-Some-clause-nothing c =
    let b = c.args.b.now in
    let bs = kept c.args.store.now in
    if_ok_both c.grow_at.result (λ e. option_to_list e ≡ (added b bs).events) (kept c.grow_at.new.store ≡ (added b bs).beliefs) _
    (returns-in-Some-clause-event c) (returns-in-Some-clause-beliefs c) (nothing_told b bs (kept c.grow_at.new.store))
