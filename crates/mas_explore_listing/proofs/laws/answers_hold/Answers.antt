use Rattle.mas_explore_listing.proofs.Answered.{holds_of_runs, fails_in_run}
use Rattle.mas_explore_listing.proofs.laws.answers_hold.Goals as goal

pub returns-clause-holds : goal.returns-clause-holds
returns-clause-holds g c = holds_of_runs g.M.Mind.kind

pub returns-clause-fails : goal.returns-clause-fails
returns-clause-fails g c = fails_in_run g.M.Mind.kind
