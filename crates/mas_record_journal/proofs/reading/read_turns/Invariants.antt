use Rattle.std.proofs.Common.{◌≡◌, ◌++◌, length}
use Rattle.mas_record_journal.specs.Journals.{blocks}
use Rattle.mas_record_journal.proofs.reading.read_turns.Given as goal

abbrev pub invariant-loop-rest : goal.invariant-loop-rest
invariant-loop-rest l = blocks l.turns ++ l.rest ≡ l.bytes

abbrev pub decreases-loop-rest : goal.decreases-loop-rest
decreases-loop-rest l = length l.rest
