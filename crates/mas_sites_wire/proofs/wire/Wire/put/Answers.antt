use Rattle.mas_sites_wire.proofs.Steps.{puts}
use Rattle.mas_sites_wire.proofs.wire.Wire.put.Goals as goal

pub push_as-requires-clause-rule : goal.push_as-requires-clause-rule
push_as-requires-clause-rule g c = λ n. puts n _ _ _ c.requires.may c.requires.from
