use Rattle.mas_sites_wire.proofs.Calls.{place_at, entry_at, has_got}
use Rattle.mas_sites_wire.proofs.ferry.FerryCarrier.next.Goals as goal

pub next_at-requires-clause-place : goal.next_at-requires-clause-place
next_at-requires-clause-place g c = place_at _ c.self.inside.wires.now c.self.inside.ends c.args.a c.self.view_is c.requires

pub returns-clause-entry : goal.returns-clause-entry
returns-clause-entry g c = entry_at _ c.self.inside.wires.now c.self.inside.ends c.args.a c.next_at.result c.self.view_is c.requires c.next_at.ensures.entry

pub returns-clause-got : goal.returns-clause-got
returns-clause-got g c = has_got _ c.self.inside.wires.now c.self.inside.ends _ c.args.a c.next_at.result c.self.view_is c.next_at.ensures.came
