use Rattle.std.proofs.Common.{reverse, sym, ap, ◌∙◌, slice_get, ◌≡◌, Some}
use Rattle.std.proofs.lemmas.Result.{IfOk-weaker}
use Rattle.asl_intend.specs.Entries.{seen}
use Rattle.asl_intend.specs.Stacks as stacks
use Rattle.asl_intend.proofs.Logs as logs
use Rattle.asl_intend.proofs.stack.Stack.goal_match.Goals as goal

pub returns-in-Some : goal.returns-in-Some
returns-in-Some c =
    let log = c.self.inside.log in
    let g = c.args.g.now in
    let at = ap (λ l. slice_get (reverse l) c.args.k) (sym c.deref.ensures.value) ∙ c.in-Some.ensures in
    let same : Some (seen log c.in-Some.e.now).trigger ≡ stacks.trigger_at c.args.self.now c.args.k =
    sym (logs.trigger_shown log
    (reverse c.self.inside.entries.items) c.args.k c.in-Some.e.now at) ∙ ap (λ l. stacks.trigger_at l c.args.k) c.self.view_is in
    IfOk-weaker c.entry_match.result _ (λ r. r ≡ stacks.match_at g (stacks.trigger_at c.args.self.now c.args.k))
    (λ r p. p ∙ ap (stacks.match_at g) same) c.entry_match.ensures
