use Rattle.std.proofs.Common.{reverse, sym, ap, ◌∙◌, slice_get, length}
use Rattle.asl_intend.specs.Bodies as bodies
use Rattle.asl_intend.proofs.Placed.{body_shown, no_body}
use Rattle.asl_intend.proofs.stack.Stack.left.Goals as goal

pub returns-in-Some : goal.returns-in-Some
returns-in-Some c =
    let log = c.self.inside.log in
    let at = ap (λ l. slice_get (reverse l) c.args.k) (sym c.deref.ensures.value) ∙ c.in-Some.ensures in
    c.left.ensures ∙ ap length (sym (body_shown log (reverse c.self.inside.entries.items) c.args.k c.in-Some.e.now at))
    ∙ ap (λ l. length (bodies.body_at l c.args.k)) c.self.view_is

pub returns-in-None : goal.returns-in-None
returns-in-None c =
    let log = c.self.inside.log in
    let at = ap (λ l. slice_get (reverse l) c.args.k) (sym c.deref.ensures.value) ∙ c.in-None.ensures in
    ap length (sym (no_body log (reverse c.self.inside.entries.items) c.args.k at))
    ∙ ap (λ l. length (bodies.body_at l c.args.k)) c.self.view_is
