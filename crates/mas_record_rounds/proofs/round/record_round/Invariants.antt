use Rattle.mas_record_rounds.proofs.SharedRounds.{Going}
use Rattle.mas_record_rounds.proofs.round.record_round.Given as goal

abbrev pub invariant-loop-k : goal.invariant-loop-k
invariant-loop-k g l = Going g.M.Mind.kind l.recorder l.initial.share l.share l.k l.here
