use Rattle.mas_record_rounds.specs.Sharers.{Both}
use Rattle.mas_record_rounds.specs.Dealing.{all_of}
use Rattle.mas_record_rounds.specs.Rounds.{Led}
use Rattle.mas_record_rounds.proofs.rounds.rounds.Given as goal

abbrev pub invariant-loop : goal.invariant-loop
invariant-loop g l = Both (Led g.M.Mind.kind l.recorder) (all_of l.fn.shares.items) (all_of l.shares.items)
