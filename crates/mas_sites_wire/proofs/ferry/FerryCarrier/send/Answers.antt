use Rattle.mas_sites_wire.proofs.Calls.{place_at, letter_at, has_put}
use Rattle.mas_sites_wire.proofs.ferry.FerryCarrier.send.Goals as goal

pub send_at-requires-clause-place : goal.send_at-requires-clause-place
send_at-requires-clause-place g c = place_at _ c.self.inside.wires.now c.self.inside.ends c.args.m.now.from c.self.view_is c.requires.from

pub send_at-requires-clause-message : goal.send_at-requires-clause-message
send_at-requires-clause-message g c =
    letter_at _ c.self.inside.wires.now c.self.inside.ends c.args.m.now c.in_ok-copied.copied c.self.view_is c.in_ok-copied.ensures c.requires.from c.requires.to

pub returns-clause-put : goal.returns-clause-put
returns-clause-put g c =
    has_put c.send_at.result _ c.self.inside.wires.now c.self.inside.ends _ c.args.m.now c.in_ok-copied.copied c.self.view_is c.in_ok-copied.ensures c.send_at.ensures.gone
