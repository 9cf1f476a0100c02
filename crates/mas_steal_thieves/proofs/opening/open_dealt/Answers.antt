use Rattle.std.proofs.Common.{◌∙◌, sym, ap}
use Rattle.std.specs.Int.{div_ceil}
use Rattle.mas_steal_thieves.proofs.Dealings.{dealt}
use Rattle.mas_steal_thieves.proofs.opening.open_dealt.Goals as goal

pub returns : goal.returns
returns g c =
    let block = c.div_ceil-block.ensures ∙ ap (λ n. div_ceil n c.args.workers) (c.len.ensures ∙ c.args.agents.ok.0) in
    dealt g.T.ReadyAgent.number g.T.ReadyAgent.home g.T.ReadyAgent.ready _ _ _ _ c.in-Some.first c.in_ok-owners.first _ _ _ _ (sym c.in_ok-rest.ensures ∙ c.in-Some.ensures.items) c.in_ok-push_front.ensures.items c.in_ok-owners.ensures.first c.requires.workers.0 block
    c.in_ok-owners.ensures.owners c.deal_all.ensures.has c.deal_all.ensures.deals
