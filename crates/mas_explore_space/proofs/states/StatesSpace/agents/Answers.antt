use Rattle.std.proofs.Common.{length, subst}
use Rattle.mas_explore.specs.Searches.{AreSized}
use Rattle.mas_explore_space.specs.Spaces.{Searched}
use Rattle.mas_explore_space.specs.Held.{start_of}
use Rattle.mas_explore_space.proofs.Openings.{sized}
use Rattle.mas_explore_space.proofs.states.StatesSpace.agents.Goals as goal

pub returns-clause-sized : goal.returns-clause-sized
returns-clause-sized g c =
    let P = λ (z : Searched g.row.M.Denot). AreSized (length z.start.names) z.met in
    let x = c.self.inside in
    subst P c.self.view_is (sized g.M.Mind.kind (start_of (g.F.FreshWorld.agents x.fresh) (g.F.FreshWorld.start x.fresh) (g.F.Fresh.first x.fresh)) x.met.held x.met.rows c.self.invariant.space)
