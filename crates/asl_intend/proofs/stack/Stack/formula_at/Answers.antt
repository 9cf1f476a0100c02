use Rattle.std.proofs.Common.{reverse, sym, ap, subst, ◌∙◌, slice_get, ◌≡◌}
use Rattle.std.proofs.lemmas.Result.{IfOk-weaker, IfErr-weaker}
use Rattle.asl_unify.specs.Limits.{Passes}
use Rattle.asl_intend.specs.Entries.{seen}
use Rattle.asl_intend.specs.Bodies as bodies
use Rattle.asl_intend.specs.Stacks as stacks
use Rattle.asl_intend.proofs.Placed.{body_shown}
use Rattle.asl_intend.proofs.stack.Stack.formula_at.Goals as goal

pub returns-in-Some-clause-ok : goal.returns-in-Some-clause-ok
returns-in-Some-clause-ok c =
    let log = c.self.inside.log in
    let at = ap (λ l. slice_get (reverse l) c.args.k) (sym c.deref.ensures.value) ∙ c.in-Some.ensures in
    let same : slice_get (seen log c.in-Some.e.now).body c.args.j ≡ bodies.formula_at c.args.self.now c.args.k c.args.j =
    ap (λ b. slice_get b c.args.j) (sym (body_shown log
    (reverse c.self.inside.entries.items) c.args.k c.in-Some.e.now at)) ∙ ap (λ l. bodies.formula_at l c.args.k c.args.j) c.self.view_is in
    IfOk-weaker c.formula_at.result _ (λ r. (r ≡ bodies.formula_at c.args.self.now c.args.k c.args.j) × stacks.Bounded r)
    (λ r p. (p.0 ∙ same, p.1)) c.formula_at.ensures.ok

pub returns-in-Some-clause-fault : goal.returns-in-Some-clause-fault
returns-in-Some-clause-fault c =
    let log = c.self.inside.log in
    let at = ap (λ l. slice_get (reverse l) c.args.k) (sym c.deref.ensures.value) ∙ c.in-Some.ensures in
    let same : slice_get (seen log c.in-Some.e.now).body c.args.j ≡ bodies.formula_at c.args.self.now c.args.k c.args.j =
    ap (λ b. slice_get b c.args.j) (sym (body_shown log
    (reverse c.self.inside.entries.items) c.args.k c.in-Some.e.now at)) ∙ ap (λ l. bodies.formula_at l c.args.k c.args.j) c.self.view_is in
    IfErr-weaker c.formula_at.result _ (λ e. Passes (stacks.is_bounded (bodies.formula_at c.args.self.now c.args.k c.args.j)) e)
    (λ e p. subst (λ o. Passes (stacks.is_bounded o) e) same p) c.formula_at.ensures.fault
