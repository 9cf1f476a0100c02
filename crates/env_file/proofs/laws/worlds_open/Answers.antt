use Rattle.env_file.proofs.Opened.{good_facts, uses_known}
use Rattle.env_file.proofs.laws.worlds_open.Goals as goal

pub returns-clause-facts : goal.returns-clause-facts
returns-clause-facts c = good_facts

pub returns-clause-uses : goal.returns-clause-uses
returns-clause-uses c = uses_known
