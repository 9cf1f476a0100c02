use Rattle.mas_record.proofs.Exchanges.{is_agent, gone_if, returned}
use Rattle.mas_record.proofs.recorder.Recorder.has_left.Goals as goal

pub phase-phase-requires : goal.phase-phase-requires
phase-phase-requires g c = is_agent g.D.Disk.state c.args.ticket.now c.take-deck.new.ticket c.take-deck.result c.take-deck.ensures.met

pub returns-clause-left : goal.returns-clause-left
returns-clause-left g c =
    gone_if g.D.Disk.state c.args.ticket.now c.take-deck.new.ticket c.take-deck.result c.take-deck.ensures.met _ _ c.gone.ensures c.phase-phase.ensures

pub returns-clause-same : goal.returns-clause-same
returns-clause-same g c =
    returned g.D.Disk.state c.args.ticket.now c.take-deck.new.ticket c.give.new.ticket c.take-deck.result c.take-deck.ensures.met c.give.ensures.number
    c.requires.sits c.give.ensures.gave
