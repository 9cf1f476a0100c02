use Rattle.asl_cycle.proofs.Direct.{place_found}
use Rattle.asl_cycle.proofs.kept.take_kept.Goals as goal

pub take_at-requires : goal.take_at-requires
take_at-requires g c = place_found c.args.k.now.lib.plans c.args.p.now.number c.args.event.now.trigger c.in_ok-found.found c.in-Some.place c.in_ok-found.ensures c.in-Some.is
