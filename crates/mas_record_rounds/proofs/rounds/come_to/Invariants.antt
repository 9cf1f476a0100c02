use Rattle.std.proofs.Common.{ℕ, ◌<◌}
use Rattle.std.specs.Prelude.{slice_index_or}
use Rattle.mas_record_rounds.specs.declared.share.Share.{Share}
use Rattle.mas_record_rounds.specs.Rounds.{CameSo}
use Rattle.mas_record_rounds.proofs.rounds.come_to.Given as goal

abbrev pub invariant-loop-k : goal.invariant-loop-k
invariant-loop-k g l = (i : ℕ) (d : Share g.row.M.Denot g.row.A.Denot g.row.D.Denot) → i < l.k → CameSo l.ended (slice_index_or l.shares i d).came
