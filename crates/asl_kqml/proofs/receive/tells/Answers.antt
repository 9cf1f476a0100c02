use Rattle.std.proofs.Common.{sym, subst}
use Rattle.asl_kqml.proofs.Grounds.{Closed, content_closed}
use Rattle.asl_kqml.proofs.receive.tells.Goals as goal

pub tell-requires : goal.tell-requires
tell-requires g c = subst Closed (sym c.in_ok-ls.ensures) (content_closed c.args.content.now)
