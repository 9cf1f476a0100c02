use Rattle.std.proofs.Common.{reverse, sym, ap, ◌∙◌, slice_get, ◌≡◌, Some}
use Rattle.asl_intend.specs.Entries.{seen}
use Rattle.asl_intend.specs.Stacks as stacks
use Rattle.asl_intend.proofs.Logs as logs
use Rattle.asl_intend.proofs.stack.Stack.event_trigger.Goals as goal

pub returns-in_ok-r-in-Some : goal.returns-in_ok-r-in-Some
returns-in_ok-r-in-Some c =
    let log = c.self.inside.log in
    let at = ap (λ l. slice_get (reverse l) c.args.k) (sym c.deref.ensures.value) ∙ c.in-Some.ensures in
    let same : Some (seen log c.in-Some.e.now).trigger ≡ stacks.trigger_at c.args.self.now c.args.k =
    sym (logs.trigger_shown log
    (reverse c.self.inside.entries.items) c.args.k c.in-Some.e.now at) ∙ ap (λ l. stacks.trigger_at l c.args.k) c.self.view_is in
    ap (λ t. Some t) c.in_ok-r-in-Some.ensures ∙ same
