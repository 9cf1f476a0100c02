use Rattle.std.proofs.Common.{◌≡◌, ◌++◌, ◌+◌, ◌*◌, [], vec_len}
use Rattle.asl_unify.specs.Puts.{IsSubst}
use Rattle.asl_unify.specs.inner.Views.{fresh_pairs, asked, Led}
use Rattle.asl_unify.specs.inner.Repeats.{under, Kept}
use Rattle.asl_unify.specs.Unified.{question_costs}
use Rattle.asl_unify.proofs.rounds.long_round.Given as goal

abbrev pub invariant-pairs : goal.invariant-pairs
invariant-pairs l =
    let s = l.old ++ fresh_pairs l.fresh.items in
    record {
      sound : IsSubst s;
      leads : Led (asked l.initial.work.items []) (l.old ++ fresh_pairs l.initial.fresh.items) l.initial.count
          (asked l.work.items [] ++ under l.begun.items []) s l.count;
      kept : Kept s l.begun.items l.known.items (asked l.work.items []) l.count;
      start : l.start ≡ vec_len l.initial.fresh;
      still : vec_len l.fresh ≡ vec_len l.initial.fresh;
      same : l.fresh.items ≡ l.initial.fresh.items;
    }

abbrev pub decreases-pairs : goal.decreases-pairs
decreases-pairs l = 2 * question_costs (l.old ++ fresh_pairs l.fresh.items) (asked l.work.items [] ++ under l.begun.items []) + vec_len l.begun
