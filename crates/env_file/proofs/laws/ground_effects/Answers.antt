use Rattle.env_file.proofs.Unbound as unbound
use Rattle.env_file.proofs.laws.ground_effects.Goals as goal

pub returns-clause-bound : goal.returns-clause-bound
returns-clause-bound c = unbound.bound_effects

pub returns-clause-worlds : goal.returns-clause-worlds
returns-clause-worlds c = unbound.ground_effects
