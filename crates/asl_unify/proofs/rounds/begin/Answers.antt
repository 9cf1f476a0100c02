use Rattle.std.proofs.Common.{refl, rules}
use Rattle.asl_unify.specs.declared.rounds.LongRound.{LongRound}
use Rattle.asl_unify.proofs.Repeats.{kept_begin, same_begin}
use Rattle.asl_unify.proofs.rounds.begin.Goals as goal

pub returns-clause-keeps : goal.returns-clause-keeps
returns-clause-keeps c s known h =
    let b : LongRound = record { question = c.args.q; rest = c.replace-rest.result; count = c.args.count } in
    kept_begin s c.args.begun.now.items c.push.new.self.items known c.args.q b c.args.work.now.items c.replace-rest.new.dest.items c.args.count refl refl (search rules) (search rules) (search rules) h

pub returns-clause-same : goal.returns-clause-same
returns-clause-same c =
    let b : LongRound = record { question = c.args.q; rest = c.replace-rest.result; count = c.args.count } in
    same_begin c.args.begun.now.items c.push.new.self.items b c.args.work.now.items c.replace-rest.new.dest.items (search rules) (search rules) (search rules)
