use Rattle.mas_sites_wire.proofs.Steps.{parts}
use Rattle.mas_sites_wire.proofs.wire.Wire.split.Goals as goal

pub another-pass-requires-clause-rule : goal.another-pass-requires-clause-rule
another-pass-requires-clause-rule c = parts _ _ c.requires.whole.0 c.requires.whole.1
