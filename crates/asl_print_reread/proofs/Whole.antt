-- What is printed is read again, and nothing else is.
use Rattle.asl_parser.proofs.Single.{one_agent}
use Rattle.asl_print.specs.Agents.{agent_text}
use Rattle.asl_print_reread.specs.Laws.{PrintedIsRead, PlanLinesAreRead, NothingElseIsRead}
use Rattle.asl_print_reread.proofs.Answered as answered
use Rattle.asl_print_reread.proofs.Counted.{counts}

pub printed_is_read : PrintedIsRead
printed_is_read = answered.printed_is_read counts

pub line_is_read : PlanLinesAreRead
line_is_read = answered.line_is_read counts

pub nothing_else : NothingElseIsRead
nothing_else bytes a b is other = one_agent (agent_text a) b a other (printed_is_read bytes a is)
