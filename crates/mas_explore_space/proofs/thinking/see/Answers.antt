use Rattle.std.proofs.Common.{refl}
use Rattle.mas_explore_space.specs.Held.{start_of}
use Rattle.mas_explore_space.proofs.Helds.{grown_then, grown_seen, seen_on}
use Rattle.mas_explore_space.proofs.thinking.see.Goals as goal

pub returns-in-Some-clause-seen : goal.returns-in-Some-clause-seen
returns-in-Some-clause-seen g c = c.requires.fits.seen c.args.seeing c.in-Some.known c.in-Some.ensures

pub returns-clause-grown : goal.returns-clause-grown
returns-clause-grown g c =
    let k = g.M.Mind.kind in
    let s = start_of (g.F.FreshWorld.agents c.args.fresh.now) (g.F.FreshWorld.start c.args.fresh.now) (g.F.Fresh.first c.args.fresh.now) in
    let mid = c.see_anew.new.held in
    let new = record mid { seen = c.note.new.self } in
    let x = c.in_ok-sight.ensures in
    grown_then k s c.args.held.now mid new x.grown (grown_seen k s mid new c.args.seeing c.in_ok-sight.sight x.grown.fits x.seen c.in_ok-note.ensures refl refl refl)

pub returns-clause-seen : goal.returns-clause-seen
returns-clause-seen g c =
    let k = g.M.Mind.kind in
    let s = start_of (g.F.FreshWorld.agents c.args.fresh.now) (g.F.FreshWorld.start c.args.fresh.now) (g.F.Fresh.first c.args.fresh.now) in
    let mid = c.see_anew.new.held in
    let new = record mid { seen = c.note.new.self } in
    let x = c.in_ok-sight.ensures in
    seen_on k s mid new c.args.seeing c.in_ok-sight.sight (grown_seen k s mid new c.args.seeing c.in_ok-sight.sight x.grown.fits x.seen c.in_ok-note.ensures refl refl refl).grows x.seen
