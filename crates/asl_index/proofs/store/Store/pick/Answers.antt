use Rattle.std.proofs.Common.{◌≡◌, None, length, ap, subst, sym, ◌∙◌}
use Rattle.std.specs.List.{slice_get, filter}
use Rattle.asl_unify.specs.Compare.{same_frame}
use Rattle.asl_index_tables.specs.Slots.{kept, at_slot}
use Rattle.asl_index.proofs.Filing.{nth_filed, none_filed, count_filed}
use Rattle.asl_index.proofs.store.Store.pick.Goals as goal

pub returns-in-Some-clause-belief : goal.returns-in-Some-clause-belief
returns-in-Some-clause-belief c =
    let g = c.args.g.now in
    let k = c.args.k in
    let j = c.in-Some.slot in
    let f = c.self.inside in
    c.at.ensures
    ∙ subst (λ s. at_slot s j ≡ slice_get (filter (same_frame g) (kept s)) k) c.self.view_is
    (nth_filed g f.slots f.frames c.self.invariant.0 k j (sym c.pick-place.ensures.place ∙ c.in-Some.is))

pub returns-in-Some-clause-count : goal.returns-in-Some-clause-count
returns-in-Some-clause-count c =
    let g = c.args.g.now in
    let f = c.self.inside in
    c.pick-place.ensures.count
    ∙ count_filed g f.slots f.frames c.self.invariant.0 ∙ ap (λ s. length (filter (same_frame g) (kept s))) c.self.view_is

pub returns-in-None-clause-belief : goal.returns-in-None-clause-belief
returns-in-None-clause-belief c =
    let g = c.args.g.now in
    let k = c.args.k in
    let f = c.self.inside in
    sym (subst (λ s. slice_get (filter (same_frame g) (kept s)) k ≡ None) c.self.view_is
    (none_filed g f.slots f.frames c.self.invariant.0 k (sym c.pick-place.ensures.place ∙ c.in-None.is)))

pub returns-in-None-clause-count : goal.returns-in-None-clause-count
returns-in-None-clause-count c =
    let g = c.args.g.now in
    let f = c.self.inside in
    c.pick-place.ensures.count
    ∙ count_filed g f.slots f.frames c.self.invariant.0 ∙ ap (λ s. length (filter (same_frame g) (kept s))) c.self.view_is
