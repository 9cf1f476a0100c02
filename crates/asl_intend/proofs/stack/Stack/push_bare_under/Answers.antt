use Rattle.std.proofs.Common.{◌∙◌, ◌∷◌, ap}
use Rattle.std.proofs.lemmas.Result.{IfOk-weaker}
use Rattle.asl_intend.specs.Entries.{seen}
use Rattle.asl_intend.proofs.Under.{bare_seen}
use Rattle.asl_intend.proofs.stack.Stack.push_bare_under.Goals as goal

pub returns-clause-done : goal.returns-clause-done
returns-clause-done c =
    let e = c.args.e.now in
    IfOk-weaker c.put_over.result _ _ (λ r done yes. bare_seen c.args.log.now e c.args.self.now _ (done yes ∙ ap (λ z. seen c.args.log.now z ∷ c.args.self.now) c.in_ok-entry.ensures)) c.put_over.ensures.done
