use Rattle.std.proofs.Common.{◌≡◌}
use Rattle.std.specs.Prelude.{map}
use Rattle.mas_steal_rack.specs.declared.hand.Hand.{Hand}
use Rattle.mas_steal_rack.specs.Racks.{all_kept}
use Rattle.mas_steal_thieves.proofs.closing.split_hands.Given as goal

abbrev pub invariant-loop-hand : goal.invariant-loop-hand
invariant-loop-hand g l = (l.owners.items ≡ map (λ (h : Hand g.row.T.Denot g.row.T-Home.Denot). h.own) l.yielded) × (l.rows.items ≡ map (λ (h : Hand g.row.T.Denot g.row.T-Home.Denot). h.keys) l.yielded) × (l.all.items ≡ all_kept l.yielded)
