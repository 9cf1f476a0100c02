use Rattle.asl_print_reread.proofs.Whole.{printed_is_read, nothing_else}
use Rattle.asl_print_reread.proofs.laws.printed_is_read.Goals as goal

pub returns-clause-agent : goal.returns-clause-agent
returns-clause-agent c = printed_is_read

pub returns-clause-only : goal.returns-clause-only
returns-clause-only c = nothing_else
