use Rattle.std.proofs.Common.{ℕ, List, refl, sym, subst}
use Rattle.mas_explore.specs.declared.listing.Listing.{Listing}
use Rattle.mas_explore.specs.declared.listing.Extent.{Extent}
use Rattle.mas_explore.specs.Listings.{Reaches, HasListedAll}
use Rattle.mas_explore.proofs.Members.{all_below}
use Rattle.mas_explore.proofs.Lists.{reaches}
use Rattle.mas_explore.proofs.explore.explore.Goals as goal

pub list_all-requires-clause-there : goal.list_all-requires-clause-there
list_all-requires-clause-there g c = all_below c.follow_all.new.rests c.as_slice.result.now _ c.as_slice.ensures c.in_ok-followed.ensures.within

pub returns-clause-extent : goal.returns-clause-extent
returns-clause-extent g c =
    let k = g.M.Mind.kind in
    let s = g.R.Runs.start c.args.runs.now in
    let met = g.S.Space.met c.follow_all.new.space in
    let P = λ (xs : List ℕ). HasListedAll k c.args.view s met xs c.list_all.new.list c.in_ok-listed.listed in
    let listed = subst P c.as_slice.ensures c.in_ok-listed.ensures in
    let f : Listing = record { list = c.list_all.new.list; extent = c.extent_of.result; states = c.count.result } in
    let Q = λ (x : Extent). Reaches k c.args.view s c.args.most f x in
    subst Q (sym c.extent_of.ensures)
    (reaches k c.args.view s met c.follow_all.new.rests c.list_all.new.list (g.S.Space.met c.args.space.now) c.args.most c.in_ok-followed.followed c.in_ok-listed.listed f c.covers_runs.ensures.closed
    c.requires.start c.requires.first c.in_ok-followed.ensures listed refl c.count.ensures)
