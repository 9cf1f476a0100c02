-- The board and the minds of an origin fit.
use Rattle.std.proofs.Common.{ℕ, zero, suc, ◌≡◌, ◌≤◌, ◌<◌, ◌-◌, ◌+◌, true, false, replicate, take, List, [], ◌∷◌, ◌++◌, length, Option, None, Some, IfSome, slice_get, refl, ap, sym, ◌∙◌, subst, arith}
use Rattle.std.proofs.lemmas.List.{length-replicate, take_more}
use Rattle.std.proofs.lemmas.Option.{slice_get_within, get_or_from_slice_get}
use Rattle.mas_mind.specs.Minds.{Kind, IsAgent}
use Rattle.mas_board.specs.Boards as boards
use Rattle.mas_core.specs.Fits.{Start as Starts, IsMindOf}
use Rattle.mas_free.specs.Covers.{Start}
use Rattle.mas_explore.specs.Origins.{IsFresh, IsOrigin}

true_false : true ≡ false → ⊥
true_false e = cc

seat_get : {A : Type 0} (n i : ℕ) (x : A) → i < n → slice_get (replicate n x) i ≡ Some x
seat_get zero i x l = absurd (omega arith)
seat_get (suc n) zero x l = refl
seat_get (suc n) (suc i) x l = let k : i < n = omega arith in seat_get n i x k

-- at the start every seat is one at which nothing has happened
fresh : (n a : ℕ) → IsAgent n a → boards.seat_of (replicate n boards.no_seat) a ≡ boards.no_seat
fresh n a i =
    let f = i.from_one in
    let l = i.named in
    let k : a - 1 < n = omega arith in
    ap boards.seat_or_none (seat_get n (a - 1) boards.no_seat k)

module _ {V : Type 0} (k : Kind V) (s : Start V) (cycles lead : ℕ) where
  abbrev state : boards.State
  state = boards.opening s.names s.world cycles lead

  seats_are : length state.seats ≡ length s.names
  seats_are = length-replicate (length s.names) boards.no_seat

  fits : (a : ℕ) (m : Option V) → (boards.seat_at state a).cycle ≡ 0 → ((x : V) → m ≡ Some x → IsFresh k (length s.names) a x) → IfSome m (IsMindOf k state a)
  fits a None c h = tt
  fits a (Some m) c h =
      let f = h m refl in
      record { me = f.me; agents = f.agents_are ∙ sym seats_are; made = f.made ∙ sym c; awaits = λ e. absurd (true_false (sym e ∙ f.awaits)) }

  each : IsOrigin k s → (a : ℕ) → IsAgent (length state.seats) a → IfSome (slice_get s.minds (a - 1)) (IsMindOf k state a)
  each o a i =
      let j : IsAgent (length s.names) a = subst (λ n. IsAgent n a) seats_are i in
      fits a (slice_get s.minds (a - 1)) (ap (λ seat. seat.cycle) (fresh (length s.names) a j)) (λ m e. o.fresh a m j e)

  here : IsOrigin k s → Starts k (record { state = state; schedule = []; halted = false }) s.minds
  here o = record {
    unplayed = refl;
    running = refl;
    fit = record { number = o.start.number ∙ sym seats_are; each = each o };
  }

  pub starts : (board : boards.Noted) (minds : List V) → IsOrigin k s → board ≡ record { state = state; schedule = []; halted = false } → minds ≡ s.minds → Starts k board minds
  starts board minds o b m = subst (λ x. Starts k x minds) (sym b) (subst (λ x. Starts k (record { state = state; schedule = []; halted = false }) x) (sym m) (here o))

-- one mind more, in order
pub one_more : {V : Type 0} (xs : List V) (i : ℕ) (m : V) (old new : List V) → slice_get xs (i + 1 - 1) ≡ Some m → old ≡ take i xs → new ≡ old ++ m ∷ [] → new ≡ take (i + 1) xs
one_more xs i m old new e o n =
    let same : i + 1 - 1 ≡ i = omega arith in
    let at : slice_get xs i ≡ Some m = ap (slice_get xs) (sym same) ∙ e in
    n ∙ ap (λ ys. ys ++ m ∷ []) o ∙ ap (λ y. take i xs ++ y ∷ []) (sym (get_or_from_slice_get xs i m m at)) ∙ sym (take_more xs i m (slice_get_within xs i m at))
