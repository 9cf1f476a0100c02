use Rattle.mas_world.proofs.Deeds.{decided_all}
use Rattle.mas_world.proofs.Unchanged.{if_ok}
use Rattle.mas_world.proofs.segment.Segment.decided.Goals as goal

pub returns-clause-plain : goal.returns-clause-plain
returns-clause-plain c =
    if_ok c.decided.result (λ d e. decided_all c.as_slice.result.now c.as_slice-2.result.now c.args.agent.now c.args.action.now d e) c.decided.ensures
