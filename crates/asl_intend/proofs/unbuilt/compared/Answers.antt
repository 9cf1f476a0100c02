use Rattle.std.proofs.lemmas.Result.{IfOk-weaker}
use Rattle.asl_unify.specs.Logs.{later}
use Rattle.asl_intend.proofs.Wholes.{decided_whole}
use Rattle.asl_intend.proofs.unbuilt.compared.Goals as goal

pub returns : goal.returns
returns c = IfOk-weaker c.decided.result _ _ (λ r d. decided_whole c.args.g.now c.args.l.now c.args.pairs.now (later c.args.rest) c.args.more.now
    c.in_ok-fill.ensures.sound c.requires.frame c.requires.tidy c.requires.more c.fill.new.p c.fill.new.q c.in_ok-fill.ensures.pattern
    c.in_ok-fill.ensures.target r d) c.decided.ensures
