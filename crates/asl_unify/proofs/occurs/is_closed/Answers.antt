use Rattle.std.proofs.Common.{◌≡◌, ◌&&◌, Some, None, sym, ap, ◌∙◌}
use Rattle.std.specs.Option.{option_map}
use Rattle.asl_term.specs.Trees.{or_true, is_ground}
use Rattle.asl_unify.specs.inner.Views.{seen, now_of, listed}
use Rattle.asl_unify.proofs.Closed.{ground_list}
use Rattle.asl_unify.proofs.occurs.is_closed.Goals as goal

pub returns-in-None : goal.returns-in-None
returns-in-None c =
    let xs = c.in-Rest.items.now in
    let e : seen c.args.t ≡ listed xs None = ap seen c.in-Rest.is ∙ ap (λ z. listed xs (now_of z)) c.in-None.is in
    sym (ap is_ground e ∙ ground_list xs None ∙ ap (λ b. b && or_true (option_map is_ground None)) (sym c.are_closed.ensures ∙ c.if-are_closed.true))

pub returns-in-Some : goal.returns-in-Some
returns-in-Some c =
    let xs = c.in-Rest.items.now in
    let t = c.in-Some.t.now in
    let e : seen c.args.t ≡ listed xs (Some t) = ap seen c.in-Rest.is ∙ ap (λ z. listed xs (now_of z)) c.in-Some.is in
    c.ground-in-Some.ensures ∙ sym (ap is_ground e ∙ ground_list xs (Some t) ∙ ap (λ b. b && is_ground t) (sym c.are_closed.ensures ∙ c.if-are_closed.true))

pub returns-else-are_closed : goal.returns-else-are_closed
returns-else-are_closed c =
    let xs = c.in-Rest.items.now in
    let t = now_of c.in-Rest.tail in
    c.if-are_closed.false
    ∙ sym (ap is_ground (ap seen c.in-Rest.is) ∙ ground_list xs t ∙ ap (λ b. b && or_true (option_map is_ground t)) (sym c.are_closed.ensures ∙ c.if-are_closed.false))
