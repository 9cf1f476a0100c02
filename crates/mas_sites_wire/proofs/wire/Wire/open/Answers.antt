use Rattle.mas_sites_wire.proofs.Steps.{begins}
use Rattle.mas_sites_wire.proofs.wire.Wire.open.Goals as goal

pub with_rule-requires : goal.with_rule-requires
with_rule-requires c = begins
