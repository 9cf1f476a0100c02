use Rattle.std.proofs.Common.{refl}
use Rattle.asl_unify.proofs.Repeats.{kept_finish, same_finish}
use Rattle.asl_unify.proofs.rounds.finish.Goals as goal

pub returns-in-Ok-clause-keeps : goal.returns-in-Ok-clause-keeps
returns-in-Ok-clause-keeps c s h =
    let b = c.in-Some.last in
    kept_finish s c.args.begun.now.items c.pop.new.self.items c.args.known.now.items c.keep.new.known.items b (record { question = b.question; pairs = c.saturating_sub-pairs.result })
    b.rest.items c.args.count c.in-Some.ensures.items refl c.saturating_sub-pairs.ensures refl (c.in-Ok.ensures.ok s c.args.count) h

pub returns-in-Ok-clause-same : goal.returns-in-Ok-clause-same
returns-in-Ok-clause-same c e = same_finish c.args.begun.now.items c.pop.new.self.items c.in-Some.last c.in-Some.last.rest.items c.in-Some.ensures.items refl
