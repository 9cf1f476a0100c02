use Rattle.mas_sites_wire.proofs.Steps.{addressed}
use Rattle.mas_sites_wire.proofs.wire.Wire.address.Goals as goal

pub another-spare-requires-clause-rule : goal.another-spare-requires-clause-rule
another-spare-requires-clause-rule g c = addressed _ _ _ _ c.requires.blank
