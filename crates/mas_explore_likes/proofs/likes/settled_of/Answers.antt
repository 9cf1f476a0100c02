use Rattle.std.proofs.Common.{refl}
use Rattle.mas_explore_likes.proofs.Standing.{met_noted}
use Rattle.mas_explore_likes.proofs.likes.settled_of.Goals as goal

pub returns-in-Some-clause-stands : goal.returns-in-Some-clause-stands
returns-in-Some-clause-stands g c = c.requires.met.settled c.args.liking c.in-Some.settled c.in-Some.ensures

pub returns-clause-met : goal.returns-clause-met
returns-clause-met g c =
    met_noted g.M.Mind.kind (g.F.Fresh.first c.args.fresh.now) c.args.minds.now c.settle_anew.new.likes (record c.settle_anew.new.likes { settled = c.note.new.self }) c.args.liking c.in_ok-settled.settled
    c.in_ok-settled.ensures.met c.in_ok-settled.ensures.stands refl c.in_ok-note.ensures
