-- The room of a hand stays where its lists do.
use Rattle.std.proofs.Common.{◌≡◌, ◌≤◌, ap, arith}
use Rattle.std.specs.Prelude.{vec_len, vec_capacity}
use Rattle.std.specs.VecDeque.{deque_len, deque_capacity}
use Rattle.mas_steal_rack.specs.declared.hand.Hand.{Hand}
use Rattle.mas_steal_rack.specs.Looks.{HasRoom}

module _ {T H : Type 0} where
  pub room_less : (old new : Hand T H) → deque_capacity new.list ≡ deque_capacity old.list → deque_len new.list ≤ deque_len old.list → new.kept ≡ old.kept → HasRoom old → HasRoom new
  room_less old new c l k h = let a = ap (λ v. vec_len v) k in let b = ap (λ v. vec_capacity v) k in (omega arith, omega arith)

  pub room_same : (old new : Hand T H) → new.list ≡ old.list → new.kept ≡ old.kept → HasRoom old → HasRoom new
  room_same old new e k h = room_less old new (ap (λ l. deque_capacity l) e) (let a = ap (λ l. deque_len l) e in omega arith) k h
