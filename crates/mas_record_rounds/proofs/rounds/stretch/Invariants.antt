use Rattle.mas_record_rounds.specs.Rounds.{AllCame}
use Rattle.mas_record_rounds.proofs.rounds.stretch.Given as goal

abbrev pub invariant-loop : goal.invariant-loop
invariant-loop g l = AllCame g.M.Mind.kind l.recorder l.fn.shares l.shares
