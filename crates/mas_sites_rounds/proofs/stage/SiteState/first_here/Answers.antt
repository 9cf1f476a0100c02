use Rattle.std.proofs.Common.{◌<◌, ◌+◌, length, drop, Some, sym, ap, ◌∙◌, if◌then◌else◌}
use Rattle.mas_core.specs.Platform.{first_here}
use Rattle.mas_core.proofs.Turns.{here_step}
use Rattle.mas_sites_rounds.proofs.stage.SiteState.first_here.Goals as goal

pub returns-then-not-has_left : goal.returns-then-not-has_left
returns-then-not-has_left g c =
    let seats = c.args.self.now.platform.board.seats in
    let i = c.loop-i.i in
    let l : i < length seats = rw (← c.agents-agents.ensures.number) c.loop-i-test.true in
    let e = sym c.has_left.ensures ∙ c.if-not-has_left.true in
    sym (here_step seats i l ∙ ap (λ t. if t then first_here (i + 1 + 1) (drop (i + 1) seats) else Some (i + 1)) e) ∙ c.loop-i.invariant

pub loop-i-preserved : goal.loop-i-preserved
loop-i-preserved g c =
    let seats = c.args.self.now.platform.board.seats in
    let i = c.loop-i.i in
    let l : i < length seats = rw (← c.agents-agents.ensures.number) c.loop-i-test.true in
    let e = sym c.has_left.ensures ∙ c.if-not-has_left.false in
    sym (here_step seats i l ∙ ap (λ t. if t then first_here (i + 1 + 1) (drop (i + 1) seats) else Some (i + 1)) e) ∙ c.loop-i.invariant
