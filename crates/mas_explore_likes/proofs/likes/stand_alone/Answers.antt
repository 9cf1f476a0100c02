use Rattle.mas_explore_likes.proofs.Standing.{met_more, stands_self}
use Rattle.mas_explore_likes.proofs.likes.stand_alone.Goals as goal

pub returns-clause-met : goal.returns-clause-met
returns-clause-met g c =
    met_more g.M.Mind.kind (g.F.Fresh.first c.args.fresh.now) c.args.minds.now c.args.likes.now c.keep.new.likes c.args.mind (record { mind = c.args.liking.mind; most = c.args.most })
    c.requires.met c.requires.made c.requires.at c.in_ok-keep.ensures.met c.in_ok-keep.ensures.settled

pub returns-clause-stands : goal.returns-clause-stands
returns-clause-stands g c = stands_self g.M.Mind.kind (g.F.Fresh.first c.args.fresh.now) c.args.minds.now c.args.liking c.args.most c.requires.made
