use Rattle.mas_free.proofs.Covers as covers
use Rattle.mas_free.proofs.laws.covers_runs.Goals as goal

pub returns-clause-runs : goal.returns-clause-runs
returns-clause-runs g c = covers.covers_runs g.M.Mind.kind g.met.M.Mind.quiet_sends_nothing g.met.M.Mind.quiet_again g.met.M.Steady.quiet_stays

pub returns-clause-closed : goal.returns-clause-closed
returns-clause-closed g c = covers.closed_covers g.M.Mind.kind g.met.M.Mind.quiet_sends_nothing g.met.M.Mind.quiet_again g.met.M.Steady.quiet_stays
