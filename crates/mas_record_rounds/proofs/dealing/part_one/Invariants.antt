use Rattle.std.proofs.Common.{length, reverse}
use Rattle.mas_record_rounds.proofs.Dealings.{Parting}
use Rattle.mas_record_rounds.proofs.dealing.part_one.Given as goal

abbrev pub invariant-loop-sharer : goal.invariant-loop-sharer
invariant-loop-sharer g l = Parting l.fn.share.sharers (reverse l.sharers) l.initial.tickets l.tickets l.initial.minds l.minds

abbrev pub decreases-loop-sharer : goal.decreases-loop-sharer
decreases-loop-sharer g l = length l.sharers
