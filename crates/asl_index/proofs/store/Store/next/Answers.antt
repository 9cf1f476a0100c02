use Rattle.std.proofs.Common.{length, ap, ◌∙◌, subst, arith}
use Rattle.std.specs.List.{slice_get, filter}
use Rattle.asl_index_tables.specs.Firsts.{first_print, AreOther}
use Rattle.asl_index_tables.specs.Frames.{filed}
use Rattle.asl_index_tables.specs.Slots.{kept}
use Rattle.asl_unify.specs.Compare.{same_frame}
use Rattle.asl_index.proofs.Filing.{count_filed}
use Rattle.asl_index.proofs.Passing.{passed_apart}
use Rattle.asl_index.proofs.store.Store.next.Goals as goal

pub returns-clause-within : goal.returns-clause-within
returns-clause-within c lt =
    let g = c.args.g.now in
    let f = c.self.inside in
    let all = count_filed g f.slots f.frames c.self.invariant.0 in
    let whole = ap (λ s. length (filter (same_frame g) (kept s))) c.self.view_is in
    let within = c.next.ensures.within lt in
    omega (arith, within, all, whole)

pub returns-clause-between : goal.returns-clause-between
returns-clause-between c i b le lt e =
    let g = c.args.g.now in
    let f = c.self.inside in
    let k = c.args.k in
    let n = c.next.result in
    passed_apart g f.slots f.frames f.firsts k n c.self.invariant.0 c.self.invariant.1.1.1
    (subst (λ z. AreOther (first_print g) z (filed f.frames g.neg g.functor (length g.args)) k n) c.as_slice.ensures c.next.ensures.between) i b le lt
    (ap (λ s. slice_get (filter (same_frame g) (kept s)) i) c.self.view_is ∙ e)
