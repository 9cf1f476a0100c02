use Rattle.mas_explore_likes.proofs.Standing.{made_within}
use Rattle.mas_explore_likes.proofs.likes.settle_anew.Goals as goal

pub mind_of-requires-clause-there : goal.mind_of-requires-clause-there
mind_of-requires-clause-there g c =
    made_within g.M.Mind.kind (g.F.Fresh.first c.args.fresh.now) c.args.minds.now c.args.liking.mind c.args.most c.requires.fits c.requires.made
