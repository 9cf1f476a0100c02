use Rattle.std.proofs.Common.{refl}
use Rattle.mas_explore_minds.proofs.Fitting.{stay_same, entered_stays, grown_more}
use Rattle.mas_explore_minds.proofs.minds.number_sight.Goals as goal

pub returns-clause-grown : goal.returns-clause-grown
returns-clause-grown g c =
    let k = g.M.Mind.kind in
    let first = g.F.Fresh.first c.args.fresh.now in
    grown_more k first c.args.minds.now (record c.args.minds.now { sights = c.enter.new.self }) c.requires.fits
    (entered_stays k first c.args.minds.now.sights c.enter.new.self c.args.sight c.in_ok-n.n c.in_ok-n.ensures.entered)
    (stay_same c.args.minds.now.boxes)
    (stay_same c.args.minds.now.thoughts) refl refl
