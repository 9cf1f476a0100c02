use Rattle.std.proofs.Common.{length, reverse}
use Rattle.mas_record_rounds.specs.Dealing.{all_of}
use Rattle.mas_record_rounds.proofs.Dealings.{Parting}
use Rattle.mas_record_rounds.proofs.dealing.part.Given as goal

abbrev pub invariant-loop-share : goal.invariant-loop-share
invariant-loop-share g l = Parting (all_of l.fn.shares.items) (all_of (reverse l.left)) l.fn.tickets l.tickets l.fn.minds l.minds

abbrev pub decreases-loop-share : goal.decreases-loop-share
decreases-loop-share g l = length l.left
