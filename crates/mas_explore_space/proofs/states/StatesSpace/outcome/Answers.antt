use Rattle.std.proofs.Common.{sym, subst}
use Rattle.mas_explore.specs.Searches.{IsOutcomeAt}
use Rattle.mas_explore_space.specs.Spaces.{Searched}
use Rattle.mas_explore_space.specs.Held.{start_of}
use Rattle.mas_explore_space.proofs.Openings.{outcome_at}
use Rattle.mas_explore_space.proofs.states.StatesSpace.outcome.Goals as goal

pub returns : goal.returns
returns g c =
    let P = λ (z : Searched g.row.M.Denot). IsOutcomeAt g.M.Mind.kind c.args.view z.met c.args.state c.in_ok-text.text in
    let x = c.self.inside in
    subst P c.self.view_is
    (outcome_at g.M.Mind.kind c.args.view (start_of (g.F.FreshWorld.agents x.fresh) (g.F.FreshWorld.start x.fresh) (g.F.Fresh.first x.fresh)) x.met.held x.met.rows c.args.state c.in-Some.row.now c.in_ok-text.text (sym c.in-Some.ensures)
    c.in_ok-text.ensures)
