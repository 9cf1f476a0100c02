use Rattle.mas_explore_minds.proofs.Fitting.{remembered}
use Rattle.mas_explore_minds.proofs.minds.think.Goals as goal

pub returns-in-Some-clause-comes : goal.returns-in-Some-clause-comes
returns-in-Some-clause-comes g c = c.requires.fits.known c.args.cycle c.in-Some.known c.in-Some.ensures

pub returns-clause-grown : goal.returns-clause-grown
returns-clause-grown g c =
    (remembered g.M.Mind.kind (g.F.Fresh.first c.args.fresh.now) c.args.minds.now c.think_anew.new.minds c.args.cycle c.in_ok-comes.comes c.note.new.self
    c.in_ok-comes.ensures.grown c.in_ok-comes.ensures.comes c.in_ok-note.ensures).grown

pub returns-clause-comes : goal.returns-clause-comes
returns-clause-comes g c =
    (remembered g.M.Mind.kind (g.F.Fresh.first c.args.fresh.now) c.args.minds.now c.think_anew.new.minds c.args.cycle c.in_ok-comes.comes c.note.new.self
    c.in_ok-comes.ensures.grown c.in_ok-comes.ensures.comes c.in_ok-note.ensures).thinks
