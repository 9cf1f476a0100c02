use Rattle.std.proofs.Common.{reverse, map, ap, ◌∙◌, List, ◌++◌, ◌∷◌, []}
use Rattle.std.proofs.lemmas.Result.{on_ok_weaker}
use Rattle.asl_intend.specs.declared.entry.StackEntry.{StackEntry}
use Rattle.asl_intend.specs.Entries.{seen}
use Rattle.asl_intend.specs.Stacks as stacks
use Rattle.asl_intend.proofs.Logs as logs
use Rattle.asl_intend.proofs.stack.Stack.bind.Goals as goal

pub returns-clause-ok : goal.returns-clause-ok
returns-clause-ok c =
    let log = c.self.inside.log in
    let es : List StackEntry = reverse c.self.inside.entries.items in
    let next = c.in_ok-next.ensures.value in
    on_ok_weaker c.push.result (λ e. (
    ap (λ l. map (seen l) es) (e ∙ ap (λ s. log ++ s ∷ []) next)
    ∙ logs.all_bound log c.args.s.now es c.self.invariant
    ∙ ap (stacks.bound c.args.s.now) c.self.view_is
    )) c.push.ensures.ok
