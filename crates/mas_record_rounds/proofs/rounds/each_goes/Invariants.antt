use Rattle.std.proofs.Common.{◌≡◌, ℕ, ◌<◌, ◌≤◌, length}
use Rattle.std.specs.Prelude.{slice_index_or}
use Rattle.mas_record_rounds.specs.declared.share.Share.{Share}
use Rattle.mas_record_rounds.specs.Rounds.{HasCome}
use Rattle.mas_record_rounds.proofs.rounds.each_goes.Given as goal

abbrev pub invariant-loop-k : goal.invariant-loop-k
invariant-loop-k g l = record {
  count : length l.shares ≡ length l.initial.shares;
  came : (i : ℕ) (d : Share g.row.M.Denot g.row.A.Denot g.row.D.Denot) → i < l.k
      → HasCome g.M.Mind.kind l.recorder (slice_index_or l.initial.shares i d) (slice_index_or l.shares i d);
  left : (i : ℕ) (d : Share g.row.M.Denot g.row.A.Denot g.row.D.Denot) → l.k ≤ i → slice_index_or l.shares i d ≡ slice_index_or l.initial.shares i d;
}
