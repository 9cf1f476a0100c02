use Rattle.mas_core_laws.proofs.Calms.{quiet_lasts}
use Rattle.mas_core_laws.proofs.Ends.{quiet_ends}
use Rattle.mas_core_laws.proofs.Goes.{quiet_goes_on}
use Rattle.mas_core_laws.proofs.quiet.quiet_is_sound.Goals as goal

pub returns-clause-lasts : goal.returns-clause-lasts
returns-clause-lasts g c = quiet_lasts g.M.Mind.kind g.met.M.Mind.quiet_sends_nothing g.met.M.Mind.quiet_again

pub returns-clause-goes_on : goal.returns-clause-goes_on
returns-clause-goes_on g c = quiet_goes_on g.M.Mind.kind g.met.M.Mind.quiet_sends_nothing g.met.M.Mind.quiet_again

pub returns-clause-ends : goal.returns-clause-ends
returns-clause-ends g c = quiet_ends g.M.Mind.kind g.met.M.Mind.quiet_sends_nothing
