use Rattle.std.proofs.Common.{ℕ, ◌+◌, length, refl, ap, sym, subst}
use Rattle.mas_explore_minds.specs.Minds.{HasLinked}
use Rattle.mas_explore_minds.specs.declared.minds.Minds.{Minds}
use Rattle.mas_explore_minds.proofs.Fitting.{has_linked}
use Rattle.mas_explore_minds.proofs.minds.number_linked.Goals as goal

pub returns : goal.returns
returns g c =
    let k = g.M.Mind.kind in
    let first = g.F.Fresh.first c.args.fresh.now in
    let s : Minds = c.args.minds.now in
    let t : Minds = record s { links = c.enter.new.self } in
    let P = λ (n : ℕ). HasLinked k first s t c.args.from c.args.what n in
    subst P (ap (λ (n : ℕ). n + c.in_ok-place.place) (sym c.agents-agents.ensures))
    (has_linked k first s t (record { from = c.args.from; what = c.args.what }) c.in_ok-place.place c.requires.fits c.requires.may refl refl refl refl c.in_ok-place.ensures.entered)
