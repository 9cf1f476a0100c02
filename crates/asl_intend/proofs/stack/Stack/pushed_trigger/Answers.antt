use Rattle.std.proofs.Common.{reverse, sym, ap, ◌∙◌, slice_get, drop}
use Rattle.asl_unify.specs.Turns.{value_in}
use Rattle.asl_intend.specs.Stacks as stacks
use Rattle.asl_intend.proofs.Logs as logs
use Rattle.asl_intend.proofs.stack.Stack.pushed_trigger.Goals as goal

pub returns-in-Some : goal.returns-in-Some
returns-in-Some c =
    let log = c.self.inside.log in
    let e = c.in-Some.e.now in
    let at = ap (λ l. slice_get (reverse l) c.args.k) (sym c.deref.ensures.value) ∙ c.in-Some.ensures in (
      value_in e.own (drop e.since log),
      sym (ap (λ l. stacks.trigger_at l c.args.k) c.self.view_is)
          ∙ logs.trigger_shown log (reverse c.self.inside.entries.items) c.args.k e at,
    )
