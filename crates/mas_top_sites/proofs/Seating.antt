-- Who sits at two sites.
use Rattle.std.proofs.Common.{ℕ, zero, suc, ◌≡◌, ◌<◌, ◌+◌, ◌-◌, Bool, true, false, not, nat_le, if◌then◌else◌, List, [], ◌∷◌, ◌++◌, length, replicate, slice_get, Some, IfSome, refl, ap, sym, ◌∙◌, subst, arith}
use Rattle.std.proofs.lemmas.List.{length-replicate}
use Rattle.std.proofs.lemmas.List.Elements.{All-nil, All-cons}
use Rattle.mas_mind.specs.Minds.{Kind, IsAgent}
use Rattle.mas_board.specs.Boards as boards
use Rattle.mas_core.specs.Fits.{IsMindOf}
use Rattle.mas_sites_stand.specs.declared.seated.Seated.{Seated}
use Rattle.mas_sites_stand.specs.declared.seated.Seated.TheVariants as seat
use Rattle.mas_sites_stand.specs.Seats.{seated}
use Rattle.mas_sites_stand.specs.Stands.{Standing, opening_stand}
use Rattle.mas_sites_scripts.specs.Giving.{is_own}
use Rattle.mas_sites_scripts.specs.Sites.{IsFresh, AreFresh}
use Rattle.mas_sites_rounds.specs.Between.{AreApart}
use Rattle.mas_world.specs.Worlds.{World}
use Rattle.mas_top_sites.specs.Opening.{at_one, at_two, seats_from, seats}

false_true : false ≡ true → ⊥
false_true e = cc

module _ {V : Type 0} (names : List (List ℕ)) where
  pub seats_length : (lives : ℕ → Bool) (a : ℕ) (minds : List V) → length (seats_from lives names a minds) ≡ length minds
  seats_length lives a [] = refl
  seats_length lives a (m ∷ minds) = ap (λ n. suc n) (seats_length lives (a + 1) minds)

  -- one more sits behind the others
  seats_more : (lives : ℕ → Bool) (a : ℕ) (minds : List V) (m : V) →
      seats_from lives names a (minds ++ m ∷ []) ≡
      seats_from lives names a minds ++ (if lives (a + length minds) then seat.Own m else seat.Stand (opening_stand (a + length minds) names)) ∷ []
  seats_more lives a [] m =
      let e : a ≡ a + 0 = omega arith in
      ap (λ n. (if lives n then seat.Own m else seat.Stand (opening_stand n names)) ∷ []) e
  seats_more lives a (x ∷ minds) m =
      let e : (a + 1) + length minds ≡ a + suc (length minds) = omega arith in
      let here : Seated V = if lives a then seat.Own x else seat.Stand (opening_stand a names) in
      ap (λ xs. here ∷ xs) (seats_more lives (a + 1) minds m
      ∙ ap (λ n. seats_from lives names (a + 1) minds ++ (if lives n then seat.Own m else seat.Stand (opening_stand n names)) ∷ []) e)

  pub seated_more : (lives : ℕ → Bool) (minds : List V) (m : V) (a : ℕ) (old new : List (Seated V)) → old ≡ seats lives names minds → a ≡ length minds + 1 →
      new ≡ old ++ (if lives a then seat.Own m else seat.Stand (opening_stand a names)) ∷ [] → new ≡ seats lives names (minds ++ m ∷ [])
  seated_more lives minds m a old new e f n =
      let g : a ≡ 1 + length minds = omega (arith, f) in
      n ∙ ap (λ xs. xs ++ (if lives a then seat.Own m else seat.Stand (opening_stand a names)) ∷ []) e
      ∙ ap (λ k. seats lives names minds ++ (if lives k then seat.Own m else seat.Stand (opening_stand k names)) ∷ []) g
      ∙ sym (seats_more lives 1 minds m)

  -- with the stand that was made
  pub seated_one : (first : ℕ) (minds : List V) (m : V) (a : ℕ) (there : Standing) (old new : List (Seated V)) → old ≡ seats (at_one first) names minds →
      a ≡ length minds + 1 → there ≡ opening_stand a names → new ≡ old ++ (if nat_le a first then seat.Own m else seat.Stand there) ∷ [] →
      new ≡ seats (at_one first) names (minds ++ m ∷ [])
  seated_one first minds m a there old new e f s n =
      seated_more (at_one first) minds m a old new e f (n ∙ ap (λ t. old ++ (if nat_le a first then seat.Own m else seat.Stand t) ∷ []) s)

  turn_if : (b : Bool) (x y : Seated V) → (if b then x else y) ≡ (if not b then y else x)
  turn_if true x y = refl
  turn_if false x y = refl

  pub seated_two : (first : ℕ) (minds : List V) (m : V) (a : ℕ) (there : Standing) (old new : List (Seated V)) → old ≡ seats (at_two first) names minds →
      a ≡ length minds + 1 → there ≡ opening_stand a names → new ≡ old ++ (if nat_le a first then seat.Stand there else seat.Own m) ∷ [] →
      new ≡ seats (at_two first) names (minds ++ m ∷ [])
  seated_two first minds m a there old new e f s n =
      seated_more (at_two first) minds m a old new e f
      (n ∙ ap (λ t. old ++ (if nat_le a first then seat.Stand t else seat.Own m) ∷ []) s
      ∙ ap (λ x. old ++ x ∷ []) (turn_if (nat_le a first) (seat.Stand (opening_stand a names)) (seat.Own m)))

  -- ---- who lives there

  own_here : (b : Bool) (m : V) (a : ℕ) → is_own (Some (if b then seat.Own m else seat.Stand (opening_stand a names))) ≡ b
  own_here true m a = refl
  own_here false m a = refl

  own_at : (lives : ℕ → Bool) (a : ℕ) (minds : List V) (i : ℕ) → i < length minds → is_own (slice_get (seats_from lives names a minds) i) ≡ lives (a + i)
  own_at lives a [] i l = absurd (omega arith)
  own_at lives a (m ∷ minds) zero l = let e : a ≡ a + 0 = omega arith in own_here (lives a) m a ∙ ap lives e
  own_at lives a (m ∷ minds) (suc i) l =
      let k : i < length minds = omega arith in
      let e : (a + 1) + i ≡ a + suc i = omega arith in
      own_at lives (a + 1) minds i k ∙ ap lives e

  pub apart : (first : ℕ) (minds : List V) → AreApart (seats (at_one first) names minds) (seats (at_two first) names minds)
  apart first minds = record {
    number = seats_length (at_two first) 1 minds ∙ sym (seats_length (at_one first) 1 minds);
    each = λ i l.
        let k : i < length minds = subst (λ n. i < n) (seats_length (at_one first) 1 minds) l in
        own_at (at_two first) 1 minds i k ∙ ap not (sym (own_at (at_one first) 1 minds i k));
  }

  -- ---- stands are fresh

  fresh_here : (b : Bool) (m : V) (a : ℕ) → IsFresh (if b then seat.Own m else seat.Stand (opening_stand a names))
  fresh_here true m a = tt
  fresh_here false m a = (refl, refl)

  fresh_from : (lives : ℕ → Bool) (a : ℕ) (minds : List V) → AreFresh (seats_from lives names a minds)
  fresh_from lives a [] = All-nil IsFresh
  fresh_from lives a (m ∷ minds) = All-cons IsFresh _ (seats_from lives names (a + 1) minds) (fresh_here (lives a) m a) (fresh_from lives (a + 1) minds)

  pub fresh : (lives : ℕ → Bool) (minds : List V) → AreFresh (seats lives names minds)
  fresh lives minds = fresh_from lives 1 minds

  -- ---- all fit the board

  module _ (k : Kind V) (s : boards.State) (number : length names ≡ length s.seats) (new : (j : ℕ) → (boards.seat_at s j).cycle ≡ 0) where
    fits_here : (b : Bool) (m : V) (a : ℕ) → IsMindOf k s a m → IsMindOf (seated k) s a (if b then seat.Own m else seat.Stand (opening_stand a names))
    fits_here true m a h = record { me = h.me; agents = h.agents; made = h.made; awaits = h.awaits }
    fits_here false m a h = record { me = refl; agents = number; made = sym (new a); awaits = λ e. absurd (false_true e) }

    fits_from : (lives : ℕ → Bool) (a : ℕ) (minds : List V) → ((i : ℕ) → i < length minds → IfSome (slice_get minds i) (IsMindOf k s (a + i))) →
        (i : ℕ) → i < length minds → IfSome (slice_get (seats_from lives names a minds) i) (IsMindOf (seated k) s (a + i))
    fits_from lives a [] h i l = absurd (omega arith)
    fits_from lives a (m ∷ minds) h zero l =
        let e : a + 0 ≡ a = omega arith in
        subst (λ n. IsMindOf (seated k) s n (if lives a then seat.Own m else seat.Stand (opening_stand a names))) (sym e)
        (fits_here (lives a) m a (subst (λ n. IsMindOf k s n m) e (h zero l)))
    fits_from lives a (m ∷ minds) h (suc i) l =
        let below : i < length minds = omega arith in
        let e : (a + 1) + i ≡ a + suc i = omega arith in
        subst (λ n. IfSome (slice_get (seats_from lives names (a + 1) minds) i) (IsMindOf (seated k) s n)) e
        (fits_from lives (a + 1) minds
        (λ j b.
        let f : a + suc j ≡ (a + 1) + j = omega arith in
        let c : suc j < suc (length minds) = omega arith in
        subst (λ n. IfSome (slice_get minds j) (IsMindOf k s n)) f (h (suc j) c)) i below)

    pub fits : (lives : ℕ → Bool) (minds : List V) → ((i : ℕ) → i < length minds → IfSome (slice_get minds i) (IsMindOf k s (1 + i))) → length minds ≡ length s.seats →
        (a : ℕ) → IsAgent (length s.seats) a → IfSome (slice_get (seats lives names minds) (a - 1)) (IsMindOf (seated k) s a)
    fits lives minds h n a i =
        let f = i.from_one in
        let l = i.named in
        let k1 : a - 1 < length minds = omega (arith, n, f, l) in
        let e : 1 + (a - 1) ≡ a = omega (arith, f) in
        subst (λ m. IfSome (slice_get (seats lives names minds) (a - 1)) (IsMindOf (seated k) s m)) e (fits_from lives 1 minds h (a - 1) k1)

-- ---- a board before its first turn

any_seat : (n i : ℕ) → boards.seat_or_none (slice_get (replicate n boards.no_seat) i) ≡ boards.no_seat
any_seat zero i = refl
any_seat (suc n) zero = refl
any_seat (suc n) (suc i) = any_seat n i

pub new_cycles : (names : List (List ℕ)) (w : World) (cycles lead j : ℕ) → (boards.seat_at (boards.opening names w cycles lead) j).cycle ≡ 0
new_cycles names w cycles lead j = ap (λ s. s.cycle) (any_seat (length names) (j - 1))

pub new_seats : (names : List (List ℕ)) (w : World) (cycles lead : ℕ) → length names ≡ length (boards.opening names w cycles lead).seats
new_seats names w cycles lead = sym (length-replicate (length names) boards.no_seat)
