use Rattle.mas_pool.proofs.Openings.{are_seated}
use Rattle.mas_pool.proofs.ends.seated.Goals as goal

pub returns : goal.returns
returns g c =
    are_seated g.M.Mind.kind c.in_ok-baton.baton c.args.board c.in_ok-baton.seats c.args.minds c.in_ok-goings.goings c.holds.ensures.sound c.holds.ensures.opens c.requires c.in_ok-baton.ensures c.in_ok-goings.ensures
