use Rattle.mas_sites_scripts.proofs.Given.{own_stays, stand_gets}
use Rattle.mas_sites_scripts.proofs.giving.give_entry.Goals as goal

pub returns-in-Own : goal.returns-in-Own
returns-in-Own g c = own_stays _ _ _ _ _ c.at_mut.ensures.value c.in-Own.is

pub returns-in-Stand : goal.returns-in-Stand
returns-in-Stand g c = stand_gets _ _ _ _ _ _ _ c.at_mut.ensures.value c.in-Stand.is c.add_entry.ensures.ok
