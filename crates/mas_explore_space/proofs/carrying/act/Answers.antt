use Rattle.std.proofs.Common.{refl}
use Rattle.mas_explore_space.specs.Held.{start_of}
use Rattle.mas_explore_space.proofs.Helds.{grown_then, grown_acted, acted_on}
use Rattle.mas_explore_space.proofs.carrying.act.Goals as goal

pub returns-in-Some-clause-acted : goal.returns-in-Some-clause-acted
returns-in-Some-clause-acted g c = c.requires.fits.acted c.args.acting c.in-Some.known c.in-Some.ensures

pub returns-clause-grown : goal.returns-clause-grown
returns-clause-grown g c =
    let k = g.M.Mind.kind in
    let s = start_of (g.F.FreshWorld.agents c.args.fresh.now) (g.F.FreshWorld.start c.args.fresh.now) (g.F.Fresh.first c.args.fresh.now) in
    let mid = c.act_anew.new.held in
    let new = record mid { acted = c.note.new.self } in
    let x = c.in_ok-acted.ensures in
    grown_then k s c.args.held.now mid new x.grown (grown_acted k s mid new c.args.acting c.in_ok-acted.acted x.grown.fits x.acted c.in_ok-note.ensures refl refl refl)

pub returns-clause-acted : goal.returns-clause-acted
returns-clause-acted g c =
    let k = g.M.Mind.kind in
    let s = start_of (g.F.FreshWorld.agents c.args.fresh.now) (g.F.FreshWorld.start c.args.fresh.now) (g.F.Fresh.first c.args.fresh.now) in
    let mid = c.act_anew.new.held in
    let new = record mid { acted = c.note.new.self } in
    let x = c.in_ok-acted.ensures in
    acted_on k s mid new c.args.acting c.in_ok-acted.acted (grown_acted k s mid new c.args.acting c.in_ok-acted.acted x.grown.fits x.acted c.in_ok-note.ensures refl refl refl).grows x.acted
