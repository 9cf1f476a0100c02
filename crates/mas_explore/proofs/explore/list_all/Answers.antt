use Rattle.std.proofs.Common.{Bool, List, sym, subst}
use Rattle.mas_explore.specs.declared.listing.Shown.{Shown}
use Rattle.mas_explore.specs.Listings.{AreAllListed, HasListedEach}
use Rattle.mas_explore.proofs.Lists.{looked_again, were_listed}
use Rattle.mas_explore.proofs.explore.list_all.Goals as goal

pub returns-then-whole : goal.returns-then-whole
returns-then-whole g c =
    let k = g.M.Mind.kind in
    let s = g.R.Runs.start c.args.runs.now in
    let met = g.S.Space.met c.args.space.now in
    let P = λ (b : Bool). HasListedEach k c.args.view s met c.args.rests.now c.list_each.new.list b in
    were_listed k c.args.view met c.args.rests.now c.list_each.new.list s (subst P c.if-whole.true c.in_ok-whole.ensures)

pub returns : goal.returns
returns g c =
    let k = g.M.Mind.kind in
    let s = g.R.Runs.start c.args.runs.now in
    let met = g.S.Space.met c.args.space.now in
    let P = λ (xs : List Shown). AreAllListed k c.args.view met c.args.rests.now xs c.in_ok-listed.listed in
    looked_again k c.args.view met c.args.rests.now c.list_each.new.list s c.in_ok-whole.whole c.in_ok-listed.listed c.in_ok-whole.ensures
    (subst P c.as_slice.ensures c.in_ok-listed.ensures)
