use Rattle.std.proofs.Common.{length}
use Rattle.mas_record_rounds.proofs.Dealings.{Dealing}
use Rattle.mas_record_rounds.proofs.dealing.deal.Given as goal

abbrev pub invariant-loop-ticket : goal.invariant-loop-ticket
invariant-loop-ticket g l = Dealing l.fn.tickets l.fn.waiting l.shares l.tickets l.waiting

abbrev pub decreases-loop-ticket : goal.decreases-loop-ticket
decreases-loop-ticket g l = length l.tickets
