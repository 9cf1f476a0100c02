use Rattle.mas_sites_scripts.proofs.Given.{noted}
use Rattle.mas_sites_scripts.proofs.giving.note_entry.Goals as goal

pub returns : goal.returns
returns c = noted _ _ _ _ _ _ c.at_mut-script.ensures.value c.push.ensures.ok
