use Rattle.mas_explore_listing.proofs.Moved.{distinct_still, shown_still}
use Rattle.mas_explore_listing.proofs.sorting.sorted_outcomes.Goals as goal

pub returns-clause-sound : goal.returns-clause-sound
returns-clause-sound g c =
    shown_still g.M.Mind.kind c.args.view (g.R.Runs.start c.args.runs.now) c.in_ok-found.found.list c.in_ok-list.list c.in_ok-list.ensures.same c.in_ok-found.ensures.sound

pub returns-clause-distinct : goal.returns-clause-distinct
returns-clause-distinct g c = distinct_still c.in_ok-found.found.list c.in_ok-list.list c.in_ok-list.ensures.same c.in_ok-found.ensures.distinct
