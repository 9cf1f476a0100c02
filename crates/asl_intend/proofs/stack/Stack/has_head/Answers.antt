use Rattle.std.proofs.Common.{reverse, sym, ap, ◌∙◌, slice_get}
use Rattle.asl_intend.specs.Stacks as stacks
use Rattle.asl_intend.proofs.Logs as logs
use Rattle.asl_intend.proofs.stack.Stack.has_head.Goals as goal

pub returns-in-Some : goal.returns-in-Some
returns-in-Some c =
    let es = reverse c.self.inside.entries.items in
    let at = ap (λ l. slice_get (reverse l) 0) (sym c.deref.ensures.value) ∙ c.in-Some.ensures in
    c.has_first.ensures ∙ logs.top_at es c.in-Some.top.now at ∙ logs.shown_has c.self.inside.log es ∙ ap stacks.has_head c.self.view_is

pub returns-in-None : goal.returns-in-None
returns-in-None c =
    let es = reverse c.self.inside.entries.items in
    let at = ap (λ l. slice_get (reverse l) 0) (sym c.deref.ensures.value) ∙ c.in-None.ensures in
    logs.no_top es at ∙ logs.shown_has c.self.inside.log es ∙ ap stacks.has_head c.self.view_is
