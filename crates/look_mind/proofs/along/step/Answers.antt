use Rattle.std.proofs.Common.{ap, ◌∙◌}
use Rattle.look_lines.specs.Changes.{change}
use Rattle.look_run.specs.Before.{texts_at}
use Rattle.look_run.proofs.Walking.{not_made, was_made}
use Rattle.look_mind.proofs.along.step.Goals as goal

pub returns-then-not-turned : goal.returns-then-not-turned
returns-then-not-turned g c = not_made _ _ _ _ _ c.in_ok-turned.ensures c.if-not-turned.true

pub returns : goal.returns
returns g c =
    let made = was_made _ _ _ _ _ c.in_ok-turned.ensures c.if-not-turned.false in
    let afters = texts_at g.W.MindTexts.texts c.in_ok-turned.turned.play.platform c.args.a in
    (made.0, made.1, c.in_ok-lines.ensures ∙ ap (λ befores. change befores afters) (c.as_slice.ensures ∙ c.in_ok-befores.ensures))
