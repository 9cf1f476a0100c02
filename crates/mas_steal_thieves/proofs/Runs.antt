-- The run of all workers, put together.
use Rattle.std.proofs.Common.{Global, ◌≡◌, ℕ, Option, List, length, sym, subst}
use Rattle.std.specs.Prelude.{map, All}
use Rattle.std.specs.declared.vec.Vec.{Vec}
use Rattle.crossbeam_deque.specs.declared.handles.Worker.{Worker}
use Rattle.crossbeam_deque.specs.Handles.{Pass}
use Rattle.mas_steal_rack.specs.declared.rule.DequeView.{DequeView}
use Rattle.mas_steal_rack.specs.declared.rule.DequeRule.{DequeRule}
use Rattle.mas_steal_rack.specs.declared.hand.Hand.{Hand}
use Rattle.mas_steal_rack.specs.declared.hand.Rack.{Rack}
use Rattle.mas_board_lists.specs.Lists.{Each}
use Rattle.mas_steal_rack.specs.Racks.{first_home, IsFresh, Dealt, IsWorked, AllWorked, Closed, Answered}
use Rattle.mas_steal_rack.proofs.Law.{all_of_each, all_done, all_worked, none_lost, all_answered, closed_ended}
use Rattle.mas_steal_thieves.specs.Closing.{IsOpenOwner, AllFit}
use Rattle.mas_steal_thieves.specs.Running.{Adds}
use Rattle.mas_steal_thieves.proofs.Whole.{hands_open, hands_fit}

module _ {T H : Type 0} (number : T → ℕ) (home_of : T → H) (is_ready : T → Type 0) where
  pub close_open : (home : Option H) (rack : Rack T H) (hands : List (Hand T H)) (owners : List (Worker T Global (DequeView H) (DequeRule T))) → IsWorked number home_of is_ready home rack hands → owners ≡ map (λ (h : Hand T H). h.own) hands
      → Each (λ own. IsOpenOwner own) owners
  close_open home rack hands owners w e = subst (Each (λ own. IsOpenOwner own)) (sym e) (hands_open number home_of is_ready rack hands w.hands_are)

  pub close_fit : (home : Option H) (rack : Rack T H) (hands : List (Hand T H)) (owners : List (Worker T Global (DequeView H) (DequeRule T))) (rows : List (Vec (Pass T (DequeView H) Global) Global)) → IsWorked number home_of is_ready home rack hands
      → owners ≡ map (λ (h : Hand T H). h.own) hands → rows ≡ map (λ (h : Hand T H). h.keys) hands → AllFit owners rows
  close_fit home rack hands owners rows w e f = subst (λ (t : List (Worker T Global (DequeView H) (DequeRule T)) × List (Vec (Pass T (DequeView H) Global) Global)). AllFit t.0 t.1) (λ i. (sym e i, sym f i)) (hands_fit number home_of is_ready home rack hands w)

  module _ (has_ended : T → Type 0) where
    pub run_fresh : (home : Option H) (agents : List T) (rack : Rack T H) (hands : List (Hand T H)) → first_home home_of agents ≡ home → Dealt number home_of is_ready agents rack hands → All (λ h. IsFresh number home_of is_ready home rack h) hands
    run_fresh home agents rack hands e d = all_of_each number home_of is_ready has_ended (λ h. IsFresh number home_of is_ready home rack h) hands (subst (λ z. Each (λ h. IsFresh number home_of is_ready z rack h) hands) e d.fresh)

    pub run_worked : (home : Option H) (agents : List T) (rack : Rack T H) (hands news : List (Hand T H)) → first_home home_of agents ≡ home → Dealt number home_of is_ready agents rack hands → length news ≡ length hands
        → AllWorked number home_of is_ready has_ended rack hands news → IsWorked number home_of is_ready home rack news
    run_worked home agents rack hands news e d l w = subst (λ z. IsWorked number home_of is_ready z rack news) e (all_worked number home_of is_ready has_ended agents rack hands news d (sym l) w)

    pub run_ended : (rack : Rack T H) (hands news : List (Hand T H)) (kept left : List T) → length news ≡ length hands → AllWorked number home_of is_ready has_ended rack hands news → Closed number news kept left → Each has_ended kept
    run_ended rack hands news kept left l w c = closed_ended number home_of is_ready has_ended hands news kept left (all_done number home_of is_ready has_ended rack hands news (sym l) w) c

    pub run_answers : (agents : List T) (rack : Rack T H) (hands news : List (Hand T H)) (kept left answered : List T) → Dealt number home_of is_ready agents rack hands → length news ≡ length hands → AllWorked number home_of is_ready has_ended rack hands news
        → Closed number news kept left → Adds number kept left answered → Each has_ended answered → Answered number has_ended agents answered
    run_answers agents rack hands news kept left answered d l w c s e =
        all_answered number home_of is_ready has_ended agents kept left answered
        (none_lost number home_of is_ready has_ended agents rack hands news kept left d (all_done number home_of is_ready has_ended rack hands news (sym l) w) c) s e
