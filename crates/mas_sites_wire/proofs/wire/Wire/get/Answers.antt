use Rattle.mas_sites_wire.proofs.Steps.{gets, is_left, answered}
use Rattle.mas_sites_wire.proofs.wire.Wire.get.Goals as goal

pub pop_as-requires-clause-rule : goal.pop_as-requires-clause-rule
pop_as-requires-clause-rule g c = (gets _ _ c.requires.may, is_left _ _ c.requires.may)

pub returns-clause-got : goal.returns-clause-got
returns-clause-got g c = answered _ _ _ _ c.pop_as.ensures.rule
