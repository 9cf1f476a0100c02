use Rattle.mas_sites_wire.proofs.Steps.{joins}
use Rattle.mas_sites_wire.proofs.wire.Wire.join.Goals as goal

pub absorb-requires-clause-rule : goal.absorb-requires-clause-rule
absorb-requires-clause-rule c = joins _ _ _ _ c.requires.parts.0 c.requires.parts.1
