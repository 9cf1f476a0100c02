-- Where each number from 1 on stands once, the items can be put in the order of their numbers.
use Rattle.std.proofs.Common.{◌≡◌, ◌≢◌, ℕ, zero, suc, ◌+◌, ◌-◌, ◌<◌, ◌≤◌, Option, Some, None, List, [], ◌∷◌, ◌++◌, length, replicate, sym, refl, ap, ◌∙◌, subst, append-nil, arith}
use Rattle.std.specs.Prelude.{slice_get, slice_set}
use Rattle.std.specs.List.{Contains}
use Rattle.std.proofs.lemmas.List.{length-set}
use Rattle.std.proofs.lemmas.List.Elements.{Contains-push, Contains-append_left, Contains-append_right}
use lib.ListN.{get_or}
use mathlib.Core.Logic.{dite}
use native.Mathlib.Decide.{dec_le, ℕ_discrete}
use Rattle.mas_board_lists.specs.Lists.{Each, times, numbers_from}
use Rattle.mas_pool_ready.specs.Rule.{numbers}
use Rattle.mas_pool_ready.specs.Orders.{StandsAt, AreShelved, AreInOrder}
use Rattle.mas_pool_ready.proofs.Counts.{times_here, times_else, in_from, below_from, past_from}
use Rattle.mas_board_lists.proofs.Sums.{each_map}

-- each item is put at the place of its number, from 1 on
abbrev pub placed : {T : Type 0} → (T → ℕ) → List (Option T) → List T → List (Option T)
placed number shelf [] = shelf
placed number shelf (x ∷ xs) = placed number (slice_set shelf (number x - 1) (Some x)) xs

-- the items that are there
abbrev pub somes : {T : Type 0} → List (Option T) → List T
somes [] = []
somes (None ∷ shelf) = somes shelf
somes (Some x ∷ shelf) = x ∷ somes shelf

-- one of n numbers from 1 on
pub record IsNumber (n a : ℕ) : Type 0 where
  pub from_one : 1 ≤ a
  pub within : a ≤ n

module _ {T : Type 0} where
  each_is_there : (xs : List T) → Each (Contains xs) xs
  each_is_there [] = tt
  each_is_there (x ∷ xs) = (
    Contains-append_left (x ∷ []) xs x (Contains-push [] x),
    each_map (Contains xs) (Contains (x ∷ xs)) xs (λ y h. Contains-append_right (x ∷ []) xs y h) (each_is_there xs),
  )

  at_each : (P : T → Type 0) (xs : List T) (k : ℕ) (x : T) → k < length xs → get_or xs k x ≡ x → Each P xs → P x
  at_each P [] k x l e h = absurd (omega arith)
  at_each P (y ∷ ys) zero x l e h = subst P e h.0
  at_each P (y ∷ ys) (suc k) x l e h = at_each P ys k x (omega arith) e h.1

  -- what holds of each item holds of each that is one of them
  pub each_among : (P : T → Type 0) (xs row : List T) → Each P xs → Each (Contains xs) row → Each P row
  each_among P xs row h a = each_map (Contains xs) P row (λ x c. at_each P xs c.0 x c.1 c.2 h) a

get_here : {A : Type 0} (xs : List A) (i : ℕ) (x : A) → i < length xs → slice_get (slice_set xs i x) i ≡ Some x
get_here [] i x l = absurd (omega arith)
get_here (y ∷ xs) zero x l = refl
get_here (y ∷ xs) (suc i) x l = get_here xs i x (omega arith)

get_else : {A : Type 0} (xs : List A) (i j : ℕ) (x : A) → i ≢ j → slice_get (slice_set xs i x) j ≡ slice_get xs j
get_else [] i j x n = refl
get_else (y ∷ xs) zero zero x n = absurd (n refl)
get_else (y ∷ xs) zero (suc j) x n = refl
get_else (y ∷ xs) (suc i) zero x n = refl
get_else (y ∷ xs) (suc i) (suc j) x n = get_else xs i j x (λ e. n (ap suc e))

module _ {T : Type 0} (number : T → ℕ) where
  pub placed_snoc : (shelf : List (Option T)) (xs : List T) (x : T) → placed number shelf (xs ++ x ∷ []) ≡ slice_set (placed number shelf xs) (number x - 1) (Some x)
  placed_snoc shelf [] x = refl
  placed_snoc shelf (y ∷ xs) x = placed_snoc (slice_set shelf (number y - 1) (Some y)) xs x

  pub length_placed : (shelf : List (Option T)) (xs : List T) → length (placed number shelf xs) ≡ length shelf
  length_placed shelf [] = refl
  length_placed shelf (x ∷ xs) = length_placed (slice_set shelf (number x - 1) (Some x)) xs ∙ length-set shelf (number x - 1) (Some x)

  -- at a place to which nothing is put stands what stood there
  place_stays : (shelf : List (Option T)) (xs : List T) (i : ℕ) → times 0 (numbers number xs) ≡ 0 → times (suc i) (numbers number xs) ≡ 0 → slice_get (placed number shelf xs) i ≡ slice_get shelf i
  place_stays shelf [] i z e = refl
  place_stays shelf (x ∷ xs) i z e =
      let some : number x ≢ 0 = (λ d. let h = times_here 0 (number x) (numbers number xs) d in absurd (omega arith)) in
      let other : number x ≢ suc i = (λ d. let h = times_here (suc i) (number x) (numbers number xs) d in absurd (omega arith)) in
      let hz = times_else 0 (number x) (numbers number xs) some in
      let he = times_else (suc i) (number x) (numbers number xs) other in
      place_stays (slice_set shelf (number x - 1) (Some x)) xs i (omega arith) (omega arith)
      ∙ get_else shelf (number x - 1) i (Some x) (λ d. other (omega arith))

  place_has : (P : T → Type 0) (shelf : List (Option T)) (xs : List T) (i : ℕ) → i < length shelf → times 0 (numbers number xs) ≡ 0 → times (suc i) (numbers number xs) ≡ 1 → Each P xs
      → StandsAt number P (placed number shelf xs) (suc i) i
  place_has P shelf [] i l z e h = absurd (omega arith)
  place_has P shelf (x ∷ xs) i l z e h =
      let some : number x ≢ 0 = (λ d. let t = times_here 0 (number x) (numbers number xs) d in absurd (omega arith)) in
      let hz = times_else 0 (number x) (numbers number xs) some in
      let next = slice_set shelf (number x - 1) (Some x) in
      dite (ℕ_discrete (number x) (suc i))
      (λ d.
      let t = times_here (suc i) (number x) (numbers number xs) d in
      let j : number x - 1 ≡ i = omega arith in
      record {
        item = x;
        at = place_stays next xs i (omega arith) (omega arith) ∙ ap (λ (k : ℕ). slice_get (slice_set shelf k (Some x)) i) j ∙ get_here shelf i (Some x) l;
        number_is = d;
        has = h.0;
      })
      (λ d.
      let t = times_else (suc i) (number x) (numbers number xs) d in
      place_has P next xs i (let n = length-set shelf (number x - 1) (Some x) in omega arith) (omega arith) (omega arith) h.1)

  record InOrder (P : T → Type 0) (k : ℕ) (n : ℕ) (row : List T) : Type 0 where
    pub numbers_are : numbers number row ≡ numbers_from k n
    pub each : Each P row

  head_of : (o : Option T) (shelf : List (Option T)) (x : T) → Some o ≡ Some (Some x) → somes (o ∷ shelf) ≡ x ∷ somes shelf
  head_of None shelf x e = cc
  head_of (Some y) shelf x e = let d : y ≡ x = cc in ap (λ (z : T). z ∷ somes shelf) d

  row_of : (P : T → Type 0) (k : ℕ) (shelf : List (Option T)) → ((i : ℕ) → i < length shelf → StandsAt number P shelf (k + i) i) → InOrder P k (length shelf) (somes shelf)
  row_of P k [] h = record { numbers_are = refl; each = tt }
  row_of P k (o ∷ shelf) h =
      let s = h 0 (omega arith) in
      let r = row_of P (suc k) shelf (λ i l. (
      let t = h (suc i) (omega arith) in
      record { item = t.item; at = t.at; number_is = t.number_is ∙ (let e : k + suc i ≡ suc k + i = omega arith in e); has = t.has }
      )) in
      let e = head_of o shelf s.item s.at in
      let n : number s.item ≡ k = s.number_is ∙ (let e : k + 0 ≡ k = omega arith in e) in
      record {
        numbers_are = ap (numbers number) e ∙ (λ j. n j ∷ r.numbers_are j);
        each = subst (Each P) (sym e) (s.has, r.each);
      }

  abbrev nothing : Option T
  nothing = None

  pub length_none : (n : ℕ) → length (replicate n nothing) ≡ n
  length_none zero = refl
  length_none (suc n) = ap suc (length_none n)

  -- ---- what the calls promise

  pub shelved : (n : ℕ) (xs : List T) (shelf : List (Option T)) → ((a : ℕ) → times a (numbers number xs) ≡ times a (numbers_from 1 n)) → shelf ≡ placed number (replicate n nothing) xs
      → AreShelved number n xs shelf
  shelved n xs shelf once e =
      let none = length_none n in
      let zero_out : times 0 (numbers number xs) ≡ 0 = once 0 ∙ below_from 0 1 n (omega arith) in
      subst (AreShelved number n xs) (sym e)
      record {
        size = length_placed (replicate n nothing) xs ∙ none;
        each = λ i l.
            let d : suc i ≡ 1 + i = omega arith in
            let one = once (suc i) ∙ in_from (suc i) 1 n (omega arith) (omega arith) in
            subst (λ (m : ℕ). StandsAt number (Contains xs) (placed number (replicate n nothing) xs) m i) d
            (place_has (Contains xs) (replicate n nothing) xs i (omega arith) zero_out one (each_is_there xs));
      }

  pub in_order : (n : ℕ) (xs : List T) (shelf : List (Option T)) (row : List T) → AreShelved number n xs shelf → row ≡ somes shelf → AreInOrder number n xs row
  in_order n xs shelf row s e =
      let size = s.size in
      let r = row_of (Contains xs) 1 shelf (λ i l. s.each i (omega arith)) in
      subst (AreInOrder number n xs) (sym e)
      record { numbers_are = r.numbers_are ∙ ap (numbers_from 1) size; among = r.each }

  -- an item whose number counts as often as one of n is one of n
  pub is_number : (n : ℕ) (xs : List T) (i : ℕ) (d x : T) → ((a : ℕ) → times a (numbers number xs) ≡ times a (numbers_from 1 n)) → i < length xs → x ≡ get_or xs i d → IsNumber n (number x)
  is_number n xs i d x once l g =
      let some = stands xs i d x l g in
      let e = once (number x) in
      record {
        from_one = dite (dec_le 1 (number x)) (λ h. h) (λ h. let z = below_from (number x) 1 n (omega arith) in absurd (omega arith));
        within = dite (dec_le (number x) n) (λ h. h) (λ h. let z = past_from (number x) 1 n (omega arith) in absurd (omega arith));
      }
    where
      stands : (ys : List T) (j : ℕ) (d x : T) → j < length ys → x ≡ get_or ys j d → 1 ≤ times (number x) (numbers number ys)
      stands [] j d x l g = absurd (omega arith)
      stands (y ∷ ys) zero d x l g = let h = times_here (number x) (number y) (numbers number ys) (ap number (sym g)) in omega arith
      stands (y ∷ ys) (suc j) d x l g = let h = stands ys j d x (omega arith) g in omega arith

  pub somes_snoc : (shelf : List (Option T)) (o : Option T) → somes (shelf ++ o ∷ []) ≡ somes shelf ++ somes (o ∷ [])
  somes_snoc [] o = refl
  somes_snoc (None ∷ shelf) o = somes_snoc shelf o
  somes_snoc (Some x ∷ shelf) o = ap (λ (l : List T). x ∷ l) (somes_snoc shelf o)

  -- ---- as the loops need them

  pub shelf_next : (shelf now : List (Option T)) (xs : List T) (x : T) (n : ℕ) → now ≡ placed number shelf xs → n ≡ number x → slice_set now (n - 1) (Some x) ≡ placed number shelf (xs ++ x ∷ [])
  shelf_next shelf now xs x n e d =
      ap (λ (l : List (Option T)). slice_set l (n - 1) (Some x)) e ∙ ap (λ (m : ℕ). slice_set (placed number shelf xs) (m - 1) (Some x)) d ∙ sym (placed_snoc shelf xs x)

  pub shelf_length : (n : ℕ) (now : List (Option T)) (xs : List T) → now ≡ placed number (replicate n nothing) xs → length now ≡ n
  shelf_length n now xs e = ap length e ∙ length_placed (replicate n nothing) xs ∙ length_none n

  pub row_some : (shelf : List (Option T)) (o : Option T) (x : T) (row more : List T) → row ≡ somes shelf → o ≡ Some x → more ≡ row ++ x ∷ [] → more ≡ somes (shelf ++ o ∷ [])
  row_some shelf o x row more e d m = m ∙ ap (λ (l : List T). l ++ x ∷ []) e ∙ ap (λ (p : Option T). somes shelf ++ somes (p ∷ [])) (sym d) ∙ sym (somes_snoc shelf o)

  pub row_none : (shelf : List (Option T)) (o : Option T) (row : List T) → row ≡ somes shelf → o ≡ None → row ≡ somes (shelf ++ o ∷ [])
  row_none shelf o row e d = e ∙ sym (append-nil (somes shelf)) ∙ ap (λ (p : Option T). somes shelf ++ somes (p ∷ [])) (sym d) ∙ sym (somes_snoc shelf o)
