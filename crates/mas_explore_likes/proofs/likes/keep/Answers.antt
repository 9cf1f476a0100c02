use Rattle.std.proofs.Common.{refl}
use Rattle.mas_explore_likes.proofs.likes.keep.Goals as goal

pub returns-clause-met : goal.returns-clause-met
returns-clause-met g c = record {
  one = record { mind = c.args.mind; number = c.args.own.mind; most = c.args.own.most; before = c.last_of-before.result };
  mind = refl;
  number = refl;
  most = refl;
  new_is = c.in_ok-push.ensures.ok;
}
