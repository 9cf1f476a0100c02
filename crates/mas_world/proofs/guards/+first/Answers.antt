use Rattle.std.proofs.Common.{◌≡◌, List, ◌∙◌, sym, ap, subst, IfOk}
use Rattle.asl_unify.specs.declared.subst.Pair.{Pair}
use Rattle.mas_world.specs.Guards.{first_of, solutions}
use Rattle.mas_world.proofs.Firsts.{held}
use Rattle.mas_world.proofs.guards.+first.Goals as goal

pub first-returns-in-Some-2 : goal.first-returns-in-Some-2
first-returns-in-Some-2 t c =
    let P : List (List Pair) → Type 0 = λ z. IfOk c.first_held-found.result (λ r. r ≡ first_of z) in
    let whole = held c.args.facts.now c.in-Some.part.now c.in-Some.rest.now c.args.s.now c.in-Holds.l c.in-Some-2.g c.in-Holds.is (sym c.in-Some-2.is ∙ c.in_ok-ready-in-Holds.ensures) in
    subst P (sym (ap (λ z. solutions c.args.facts.now z c.args.s.now) c.in-Some.ensures.cases.0 ∙ whole)) c.first_held-found.ensures
