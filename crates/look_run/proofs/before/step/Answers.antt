use Rattle.look_run.proofs.Walking.{not_made, was_made}
use Rattle.look_run.proofs.before.step.Goals as goal

pub returns-then-not-turned : goal.returns-then-not-turned
returns-then-not-turned g c = not_made _ _ _ _ _ c.in_ok-turned.ensures c.if-not-turned.true

pub returns : goal.returns
returns g c =
    let made = was_made _ _ _ _ _ c.in_ok-turned.ensures c.if-not-turned.false in
    (made.0, made.1, c.in_ok-texts.ensures)
