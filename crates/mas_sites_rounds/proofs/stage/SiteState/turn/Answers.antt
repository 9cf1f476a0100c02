use Rattle.std.proofs.Common.{sym, ◌∙◌, refl}
use Rattle.mas_sites_stand.specs.Seats.{seated}
use Rattle.mas_sites_scripts.proofs.Steps.{was_finished, was_ahead, gone_turn}
use Rattle.mas_sites_rounds.proofs.stage.SiteState.turn.Goals as goal

pub returns-in_ok-stage-in-Busy-clause-made : goal.returns-in_ok-stage-in-Busy-clause-made
returns-in_ok-stage-in-Busy-clause-made g c =
    let busy = sym c.phase.ensures ∙ c.in-Busy.is in
    was_finished g.M.Mind.kind g.C.Carrier.got g.C.Carrier.put _ c.args.self _ c.args.a busy c.in_ok-stage-in-Busy.ensures

pub returns-in-Left-clause-made : goal.returns-in-Left-clause-made
returns-in-Left-clause-made g c =
    let gone = sym c.phase.ensures ∙ c.in-Left.is in
    was_ahead g.M.Mind.kind g.C.Carrier.got g.C.Carrier.put _ c.args.self c.args.self c.args.a refl (gone_turn (seated g.M.Mind.kind) c.args.self.platform c.args.a _ c.requires.agent gone)
