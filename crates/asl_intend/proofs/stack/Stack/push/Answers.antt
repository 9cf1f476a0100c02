use Rattle.std.proofs.Common.{◌∙◌, ◌∷◌}
use Rattle.std.proofs.lemmas.Result.{on_ok_weaker}
use Rattle.asl_intend.proofs.Logs as logs
use Rattle.asl_intend.proofs.stack.Stack.push.Goals as goal

pub returns-clause-ok : goal.returns-clause-ok
returns-clause-ok c =
    let log = c.self.inside.log in
    on_ok_weaker c.put_last.result (λ e. (
    logs.pushed log c.self.inside.entries.items c.put_last.new.entries.items _ e
    ∙ (λ i. logs.seen_pushed log c.args.own c.len-since.result c.args.m c.from_seq-body.result c.len-since.ensures c.from_seq-body.ensures i ∷ c.self.view_is i)
    )) c.put_last.ensures.ok
