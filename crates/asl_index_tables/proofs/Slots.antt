-- Where things stand in slots, and what a change of one slot makes of them.
use Rattle.std.proofs.Common.{◌≡◌, ◌≤◌, ◌<◌, ℕ, zero, suc, ◌+◌, ◌-◌, Bool, true, false, List, [], ◌∷◌, ◌++◌, map, length, take, drop, Option, Some, None, cond, refl, ap, sym, ◌∙◌, subst, arith}
use Rattle.std.specs.Prelude.{◌==◌, option_to_list}
use Rattle.std.specs.List.{slice_get, slice_set, filter}
use Rattle.std.proofs.lemmas.Bool.{eqb-true, eq-eqb}
use Rattle.asl_index_tables.specs.Frames.{without}
use Rattle.asl_index_tables.specs.Slots.{kept, places, at_slot, rank}

-- the k-th of those that pass a test, and its slot
pub record IsNth {A : Type 0} (test : A → Bool) (s : List (Option A)) (k i : ℕ) : Type 0 where
  pub here : A
  pub at : at_slot s i ≡ Some here
  pub nth : slice_get (filter test (kept s)) k ≡ Some here
  pub passes : test here ≡ true

not_equal : (m n : ℕ) → n < m → (m == n) ≡ false
not_equal m n e = go (m == n) refl where
  go : (t : Bool) → (m == n) ≡ t → t ≡ false
  go true u = absurd (let same = eqb-true m n u in omega (arith, e, same))
  go false u = refl

module _ {A : Type 0} where
  pub kept_append : (xs ys : List (Option A)) → kept (xs ++ ys) ≡ kept xs ++ kept ys
  kept_append [] ys = refl
  kept_append (None ∷ xs) ys = kept_append xs ys
  kept_append (Some x ∷ xs) ys = ap (λ z. x ∷ z) (kept_append xs ys)

  pub kept_some : (xs : List A) → kept (map Some xs) ≡ xs
  kept_some [] = refl
  kept_some (x ∷ xs) = ap (λ z. x ∷ z) (kept_some xs)

  kept_first : (y : Option A) (s : List (Option A)) → kept (y ∷ s) ≡ option_to_list y ++ kept s
  kept_first None s = refl
  kept_first (Some x) s = refl

  -- the place of a slot among what is kept
  pub rank_at : (s : List (Option A)) (k : ℕ) (b : A) → at_slot s k ≡ Some b → slice_get (kept s) (rank s k) ≡ Some b
  rank_at [] k b e = cc
  rank_at (x ∷ s) zero b e = ap (λ z. slice_get (kept (z ∷ s)) 0) e
  rank_at (None ∷ s) (suc k) b e = rank_at s k b e
  rank_at (Some x ∷ s) (suc k) b e = rank_at s k b e

  -- what is kept where a slot that has something gets something else, or nothing
  pub kept_set : (s : List (Option A)) (k : ℕ) (b : A) (y : Option A) → at_slot s k ≡ Some b
      → kept (slice_set s k y) ≡ take (rank s k) (kept s) ++ (option_to_list y ++ drop (suc (rank s k)) (kept s))
  kept_set [] k b y e = cc
  kept_set (x ∷ s) zero b y e = kept_first y s ∙ ap (λ z. option_to_list y ++ drop 1 (kept (z ∷ s))) (sym e)
  kept_set (None ∷ s) (suc k) b y e = kept_set s k b y e
  kept_set (Some x ∷ s) (suc k) b y e = ap (λ z. x ∷ z) (kept_set s k b y e)

  -- and where the last slot, which is empty, gets something
  pub kept_put : (s : List (Option A)) (k : ℕ) (b : A) → slice_get s k ≡ Some None → k + 1 ≡ length s → kept (slice_set s k (Some b)) ≡ kept s ++ b ∷ []
  kept_put [] k b e l = cc
  kept_put (x ∷ []) zero b e l = let is : x ≡ None = cc in ap (λ z. kept (z ∷ []) ++ b ∷ []) (sym is)
  kept_put (x ∷ y ∷ s) zero b e l = absurd (omega (arith, l))
  kept_put (None ∷ s) (suc k) b e l = kept_put s k b e (omega (arith, l))
  kept_put (Some x ∷ s) (suc k) b e l = ap (λ z. x ∷ z) (kept_put s k b e (omega (arith, l)))

  module _ (test : A → Bool) where
    pub nth_from : (n : ℕ) (s : List (Option A)) (k j : ℕ) → slice_get (places test n s) k ≡ Some j → (i : ℕ) × (j ≡ n + i) × IsNth test s k i
    nth_from n [] k j e = cc
    nth_from n (None ∷ s) k j e =
        let r = nth_from (suc n) s k j e in
        let p = r.2 in
        (suc r.0, omega (arith, r.1), record { here = p.here; at = p.at; nth = p.nth; passes = p.passes })
    nth_from n (Some x ∷ s) k j e = go (λ m. nth_from (suc n) s m j) (test x) refl k e where
      go : ((m : ℕ) → slice_get (places test (suc n) s) m ≡ Some j → (i : ℕ) × (j ≡ suc n + i) × IsNth test s m i)
          → (t : Bool) → test x ≡ t → (k : ℕ) → slice_get (cond t (n ∷ places test (suc n) s) (places test (suc n) s)) k ≡ Some j
          → (i : ℕ) × (j ≡ n + i) × IsNth test (Some x ∷ s) k i
      go more true u zero w =
          let is : n ≡ j = cc in
          (0, omega (arith, is), record { here = x; at = refl; nth = ap (λ z. slice_get (cond z (x ∷ filter test (kept s)) (filter test (kept s))) 0) u; passes = u })
      go more true u (suc k) w =
          let r = more k w in
          let p = r.2 in (
            suc r.0,
            omega (arith, r.1),
            record {
              here = p.here;
              at = p.at;
              passes = p.passes;
              nth = ap (λ z. slice_get (cond z (x ∷ filter test (kept s)) (filter test (kept s))) (suc k)) u ∙ p.nth;
            },
          )
      go more false u k w =
          let r = more k w in
          let p = r.2 in (
            suc r.0,
            omega (arith, r.1),
            record {
              here = p.here;
              at = p.at;
              passes = p.passes;
              nth = ap (λ z. slice_get (cond z (x ∷ filter test (kept s)) (filter test (kept s))) k) u ∙ p.nth;
            },
          )

    -- a slot that is found is that of the k-th that passes
    pub nth_slot : (s : List (Option A)) (k j : ℕ) → slice_get (places test 0 s) k ≡ Some j → IsNth test s k j
    nth_slot s k j e =
        let r = nth_from 0 s k j e in
        let same : r.0 ≡ j = omega (arith, r.1) in
        subst (IsNth test s k) same r.2

    pub length_places : (n : ℕ) (s : List (Option A)) → length (places test n s) ≡ length (filter test (kept s))
    length_places n [] = refl
    length_places n (None ∷ s) = length_places (suc n) s
    length_places n (Some x ∷ s) = go (test x) (length_places (suc n) s) where
      go : (t : Bool) → length (places test (suc n) s) ≡ length (filter test (kept s))
          → length (cond t (n ∷ places test (suc n) s) (places test (suc n) s)) ≡ length (cond t (x ∷ filter test (kept s)) (filter test (kept s)))
      go true e = ap suc e
      go false e = e

    get_none : {B : Type 0} → (xs : List B) (k : ℕ) → slice_get xs k ≡ None → length xs ≤ k
    get_none [] k e = omega arith
    get_none (x ∷ xs) zero e = cc
    get_none (x ∷ xs) (suc k) e = let more = get_none xs k e in omega (arith, more)

    none_get : {B : Type 0} → (xs : List B) (k : ℕ) → length xs ≤ k → slice_get xs k ≡ None
    none_get [] k e = refl
    none_get (x ∷ xs) zero e = absurd (omega (arith, e))
    none_get (x ∷ xs) (suc k) e = none_get xs k (omega (arith, e))

    pub nth_none : (s : List (Option A)) (k : ℕ) → slice_get (places test 0 s) k ≡ None → slice_get (filter test (kept s)) k ≡ None
    nth_none s k e =
        let long = get_none (places test 0 s) k e in
        let same = length_places 0 s in
        none_get (filter test (kept s)) k (omega (arith, long, same))

    -- a slot that has something of the same kind keeps its place
    pub places_same : (n : ℕ) (s : List (Option A)) (k : ℕ) (b c : A) → at_slot s k ≡ Some b → test c ≡ test b
        → places test n (slice_set s k (Some c)) ≡ places test n s
    places_same n [] k b c e t = cc
    places_same n (x ∷ s) zero b c e t =
        ap (λ z. cond z (n ∷ places test (suc n) s) (places test (suc n) s)) t ∙ ap (λ z. places test n (z ∷ s)) (sym e)
    places_same n (None ∷ s) (suc k) b c e t = places_same (suc n) s k b c e t
    places_same n (Some x ∷ s) (suc k) b c e t = ap (λ z. cond (test x) (n ∷ z) z) (places_same (suc n) s k b c e t)

    -- what is taken out of a slot is taken out of the places of its kind
    pub places_clear : (n : ℕ) (s : List (Option A)) (k : ℕ) (b : A) → at_slot s k ≡ Some b
        → places test n (slice_set s k None) ≡ cond (test b) (without (n + k) (places test n s)) (places test n s)
    places_clear n [] k b e = cc
    places_clear n (x ∷ s) zero b e =
        go (test b) ∙ ap (λ z. cond (test b) (without (n + 0) (places test n (z ∷ s))) (places test n (z ∷ s))) (sym e)
      where
        go : (t : Bool) → places test (suc n) s ≡ cond t (without (n + 0) (cond t (n ∷ places test (suc n) s) (places test (suc n) s))) (cond t (n ∷ places test (suc n) s) (places test (suc n) s))
        go true = sym (ap (λ z. cond z (places test (suc n) s) (n ∷ without (n + 0) (places test (suc n) s))) (eq-eqb (n + 0) n (omega arith)))
        go false = refl
    places_clear n (None ∷ s) (suc k) b e =
        let same : suc n + k ≡ n + suc k = omega arith in
        places_clear (suc n) s k b e ∙ ap (λ m. cond (test b) (without m (places test (suc n) s)) (places test (suc n) s)) same
    places_clear n (Some x ∷ s) (suc k) b e = go (test x) (test b) (places_clear (suc n) s k b e) where
      go : (t u : Bool) → places test (suc n) (slice_set s k None) ≡ cond u (without (suc n + k) (places test (suc n) s)) (places test (suc n) s)
          → cond t (n ∷ places test (suc n) (slice_set s k None)) (places test (suc n) (slice_set s k None))
          ≡ cond u (without (n + suc k) (cond t (n ∷ places test (suc n) s) (places test (suc n) s))) (cond t (n ∷ places test (suc n) s) (places test (suc n) s))
      go true true w =
          let same : suc n + k ≡ n + suc k = omega arith in
          ap (λ z. n ∷ z) (w ∙ ap (λ m. without m (places test (suc n) s)) same)
          ∙ sym (ap (λ z. cond z (places test (suc n) s) (n ∷ without (n + suc k) (places test (suc n) s))) (not_equal (n + suc k) n (omega arith)))
      go true false w = ap (λ z. n ∷ z) w
      go false true w = let same : suc n + k ≡ n + suc k = omega arith in w ∙ ap (λ m. without m (places test (suc n) s)) same
      go false false w = w

    -- what is put into the last slot, which is empty, has the last place of its kind
    pub places_put : (n : ℕ) (s : List (Option A)) (k : ℕ) (b : A) → slice_get s k ≡ Some None → k + 1 ≡ length s
        → places test n (slice_set s k (Some b)) ≡ cond (test b) (places test n s ++ (n + k) ∷ []) (places test n s)
    places_put n [] k b e l = cc
    places_put n (x ∷ []) zero b e l =
        let is : x ≡ None = cc in
        let same : n ≡ n + 0 = omega arith in
        ap (λ m. cond (test b) (m ∷ []) []) same ∙ ap (λ z. cond (test b) (places test n (z ∷ []) ++ (n + 0) ∷ []) (places test n (z ∷ []))) (sym is)
    places_put n (x ∷ y ∷ s) zero b e l = absurd (omega (arith, l))
    places_put n (None ∷ s) (suc k) b e l =
        let same : suc n + k ≡ n + suc k = omega arith in
        places_put (suc n) s k b e (omega (arith, l)) ∙ ap (λ m. cond (test b) (places test (suc n) s ++ m ∷ []) (places test (suc n) s)) same
    places_put n (Some x ∷ s) (suc k) b e l = go (test x) (test b) (places_put (suc n) s k b e (omega (arith, l))) where
      go : (t u : Bool) → places test (suc n) (slice_set s k (Some b)) ≡ cond u (places test (suc n) s ++ (suc n + k) ∷ []) (places test (suc n) s)
          → cond t (n ∷ places test (suc n) (slice_set s k (Some b))) (places test (suc n) (slice_set s k (Some b)))
          ≡ cond u (cond t (n ∷ places test (suc n) s) (places test (suc n) s) ++ (n + suc k) ∷ []) (cond t (n ∷ places test (suc n) s) (places test (suc n) s))
      go true true w = let same : suc n + k ≡ n + suc k = omega arith in ap (λ z. n ∷ z) (w ∙ ap (λ m. places test (suc n) s ++ m ∷ []) same)
      go true false w = ap (λ z. n ∷ z) w
      go false true w = let same : suc n + k ≡ n + suc k = omega arith in w ∙ ap (λ m. places test (suc n) s ++ m ∷ []) same
      go false false w = w

    -- an empty slot behind the others has no place
    pub places_empty : (n : ℕ) (s : List (Option A)) → places test n (s ++ None ∷ []) ≡ places test n s
    places_empty n [] = refl
    places_empty n (None ∷ s) = places_empty (suc n) s
    places_empty n (Some x ∷ s) = ap (λ z. cond (test x) (n ∷ z) z) (places_empty (suc n) s)

  -- one more that stands behind the others
  pub places_more : (test : A → Bool) (n : ℕ) (xs : List A) (i : ℕ) (x : A) → slice_get xs i ≡ Some x
      → places test n (map Some (take (suc i) xs)) ≡ cond (test x) (places test n (map Some (take i xs)) ++ (n + i) ∷ []) (places test n (map Some (take i xs)))
  places_more test n [] i x e = cc
  places_more test n (y ∷ xs) zero x e =
      let is : y ≡ x = cc in
      let same : n ≡ n + 0 = omega arith in
      ap (λ z. cond (test z) (n ∷ []) []) is ∙ ap (λ m. cond (test x) (m ∷ []) []) same
  places_more test n (y ∷ xs) (suc i) x e = go (test y) (test x) (places_more test (suc n) xs i x e) where
    go : (t u : Bool)
        → places test (suc n) (map Some (take (suc i) xs)) ≡ cond u (places test (suc n) (map Some (take i xs)) ++ (suc n + i) ∷ []) (places test (suc n) (map Some (take i xs)))
        → cond t (n ∷ places test (suc n) (map Some (take (suc i) xs))) (places test (suc n) (map Some (take (suc i) xs)))
        ≡ cond u (cond t (n ∷ places test (suc n) (map Some (take i xs))) (places test (suc n) (map Some (take i xs))) ++ (n + suc i) ∷ [])
        (cond t (n ∷ places test (suc n) (map Some (take i xs))) (places test (suc n) (map Some (take i xs))))
    go true true w = let same : suc n + i ≡ n + suc i = omega arith in ap (λ z. n ∷ z) (w ∙ ap (λ m. places test (suc n) (map Some (take i xs)) ++ m ∷ []) same)
    go true false w = ap (λ z. n ∷ z) w
    go false true w = let same : suc n + i ≡ n + suc i = omega arith in w ∙ ap (λ m. places test (suc n) (map Some (take i xs)) ++ m ∷ []) same
    go false false w = w
