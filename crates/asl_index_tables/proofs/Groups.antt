-- What stands among groups, and what is made of them.
use Rattle.std.proofs.Common.{◌≡◌, ◌<◌, ℕ, zero, suc, ◌+◌, ◌&&◌, Bool, true, false, List, [], ◌∷◌, ◌++◌, remove, Option, Some, None, cond, refl, ap, sym, ◌∙◌, subst, arith, rules, tests}
use Rattle.std.specs.Prelude.{◌==◌}
use Rattle.std.specs.List.{slice_get, slice_set}
use Rattle.std.specs.HashMap.{Updates}
use Rattle.std.proofs.lemmas.Bool.{false≢true, true≢false, eqb-true}
use Rattle.std.specs.Bool.{Decides}
use Rattle.asl_index_tables.specs.declared.frames.Group.{Group}
use Rattle.asl_unify.specs.Compare.{same_sign}
use Rattle.asl_index_tables.specs.Frames.{is_group, with_places, places_in, group_from, place_from, without, ArePut, AreTaken}

pub set_self : {A : Type 0} → (xs : List A) (k : ℕ) (x : A) → slice_get xs k ≡ Some x → slice_set xs k x ≡ xs
set_self [] k x e = refl
set_self (y ∷ xs) zero x e = let is : y ≡ x = cc in ap (λ z. z ∷ xs) (sym is)
set_self (y ∷ xs) (suc k) x e = ap (λ z. y ∷ z) (set_self xs k x e)

-- whether a sign and a number are these two
abbrev pub test : Bool → ℕ → Bool → ℕ → Bool
test neg count n c = same_sign n neg && (c == count)

sign_same : (a b : Bool) → same_sign a b ≡ true → a ≡ b
sign_same true b e = sym e
sign_same false true e = e
sign_same false false e = refl

pub test_true : (neg : Bool) (count : ℕ) (n : Bool) (c : ℕ) → test neg count n c ≡ true → (n ≡ neg) × (c ≡ count)
test_true neg count n c e = go (same_sign n neg) refl e where
  go : (s : Bool) → same_sign n neg ≡ s → (s && (c == count)) ≡ true → (n ≡ neg) × (c ≡ count)
  go true u w = (sign_same n neg u, eqb-true c count w)
  go false u w = absurd (false≢true w)

-- a group of the sign and number is that of another sign and number exactly where these are the same
same_test : (neg : Bool) (count : ℕ) (g : Group) (n : Bool) (c : ℕ) → is_group neg count g ≡ true → is_group n c g ≡ test neg count n c
same_test neg count g n c e =
    let both = test_true g.neg g.count neg count e in
    ap (λ s. same_sign n s && (c == g.count)) (sym both.0) ∙ ap (λ k. same_sign n neg && (c == k)) (sym both.1)

other_test : (neg : Bool) (count : ℕ) (g : Group) (n : Bool) (c : ℕ) → is_group neg count g ≡ false → test neg count n c ≡ true → is_group n c g ≡ false
other_test neg count g n c e t =
    let both = test_true neg count n c t in
    ap (λ s. same_sign s g.neg && (c == g.count)) both.0 ∙ ap (λ k. same_sign neg g.neg && (k == g.count)) both.1 ∙ e

-- the group at a place: what it has, and what is found when it gets other places
pub record IsGroupAt (neg : Bool) (count : ℕ) (gs : List Group) (k : ℕ) : Type 0 where
  pub here : Group
  pub at : slice_get gs k ≡ Some here
  pub held : (n : Bool) (c : ℕ) → test neg count n c ≡ true → places_in n c gs ≡ here.places
  pub made : (n : Bool) (c : ℕ) (xs : List ℕ) → places_in n c (slice_set gs k (with_places here xs)) ≡ cond (test neg count n c) xs (places_in n c gs)

first_made : (g : Group) (gs : List Group) (n : Bool) (c : ℕ) (xs : List ℕ) (t : Bool) → is_group n c g ≡ t
    → cond (is_group n c g) xs (places_in n c gs) ≡ cond t xs (cond (is_group n c g) g.places (places_in n c gs))
first_made g gs n c xs true e = ap (λ z. cond z xs (places_in n c gs)) e
first_made g gs n c xs false e = ap (λ z. cond z xs (places_in n c gs)) e ∙ sym (ap (λ z. cond z g.places (places_in n c gs)) e)

later_made : (g : Group) (old new xs : List ℕ) (t : Bool) (u : Bool) → (t ≡ true → u ≡ false) → new ≡ cond t xs old
    → cond u g.places new ≡ cond t xs (cond u g.places old)
later_made g old new xs true true o e = absurd (true≢false (o refl))
later_made g old new xs true false o e = e
later_made g old new xs false true o e = refl
later_made g old new xs false false o e = e

pub group_at : (i k : ℕ) (neg : Bool) (count : ℕ) (gs : List Group) → group_from i neg count gs ≡ Some k → (j : ℕ) × (k ≡ i + j) × IsGroupAt neg count gs j
group_at i k neg count [] e = cc
group_at i k neg count (g ∷ gs) e = go (group_at (suc i) k neg count gs) (is_group neg count g) refl e where
  go : (group_from (suc i) neg count gs ≡ Some k → (j : ℕ) × (k ≡ suc i + j) × IsGroupAt neg count gs j)
      → (r : Bool) → is_group neg count g ≡ r → cond r (Some i) (group_from (suc i) neg count gs) ≡ Some k
      → (j : ℕ) × (k ≡ i + j) × IsGroupAt neg count (g ∷ gs) j
  go more true u w =
      let at : i ≡ k = cc in (
        0,
        omega (arith, at),
        record {
          here = g;
          at = refl;
          held = λ n c t. ap (λ z. cond z g.places (places_in n c gs)) (same_test neg count g n c u ∙ t);
          made = λ n c xs. first_made g gs n c xs (test neg count n c) (same_test neg count g n c u);
        },
      )
  go more false u w =
      let found = more w in
      let p = found.2 in (
        suc found.0,
        omega (arith, found.1),
        record {
          here = p.here;
          at = p.at;
          held = λ n c t. ap (λ z. cond z g.places (places_in n c gs)) (other_test neg count g n c u t) ∙ p.held n c t;
          made = λ n c xs. later_made g (places_in n c gs) (places_in n c (slice_set gs found.0 (with_places p.here xs))) xs (test neg count n c) (is_group n c g)
              (other_test neg count g n c u) (p.made n c xs);
        },
      )

pub group_here : (k : ℕ) (neg : Bool) (count : ℕ) (gs : List Group) → group_from 0 neg count gs ≡ Some k → IsGroupAt neg count gs k
group_here k neg count gs e =
    let found = group_at 0 k neg count gs e in
    let same : found.0 ≡ k = omega (arith, found.1) in
    subst (IsGroupAt neg count gs) same found.2

-- where no group has the sign and number nothing is found, until one stands last
none_at : (i : ℕ) (neg : Bool) (count : ℕ) (gs : List Group) → group_from i neg count gs ≡ None
    → (n : Bool) (c : ℕ) → test neg count n c ≡ true → places_in n c gs ≡ []
none_at i neg count [] e n c t = refl
none_at i neg count (g ∷ gs) e n c t = go (none_at (suc i) neg count gs) (is_group neg count g) refl e where
  go : (group_from (suc i) neg count gs ≡ None → (n : Bool) (c : ℕ) → test neg count n c ≡ true → places_in n c gs ≡ [])
      → (r : Bool) → is_group neg count g ≡ r → cond r (Some i) (group_from (suc i) neg count gs) ≡ None → places_in n c (g ∷ gs) ≡ []
  go more true u w = cc
  go more false u w = ap (λ z. cond z g.places (places_in n c gs)) (other_test neg count g n c u t) ∙ more w n c t

-- groups with another one last
last_group : (i : ℕ) (g : Group) (gs : List Group) (n : Bool) (c : ℕ) → group_from i g.neg g.count gs ≡ None
    → places_in n c (gs ++ g ∷ []) ≡ cond (test g.neg g.count n c) g.places (places_in n c gs)
last_group i g [] n c e = refl
last_group i g (h ∷ gs) n c e = go (last_group (suc i) g gs n c) (is_group g.neg g.count h) refl e where
  go : (group_from (suc i) g.neg g.count gs ≡ None → places_in n c (gs ++ g ∷ []) ≡ cond (test g.neg g.count n c) g.places (places_in n c gs))
      → (r : Bool) → is_group g.neg g.count h ≡ r → cond r (Some i) (group_from (suc i) g.neg g.count gs) ≡ None
      → places_in n c (h ∷ gs ++ g ∷ []) ≡ cond (test g.neg g.count n c) g.places (places_in n c (h ∷ gs))
  go more true u w = cc
  go more false u w =
      later_made h (places_in n c gs) (places_in n c (gs ++ g ∷ [])) g.places (test g.neg g.count n c) (is_group n c h)
      (other_test g.neg g.count h n c u) (more w)

-- a place put last among these groups, where there is such a group and where there is none
pub put_here : (neg : Bool) (count place : ℕ) (old new : List Group) (k : ℕ) (p : IsGroupAt neg count old k)
    → new ≡ slice_set old k (with_places p.here (p.here.places ++ place ∷ [])) → ArePut neg count place old new
put_here neg count place old new k p e = λ n c.
    ap (places_in n c) e ∙ p.made n c (p.here.places ++ place ∷ []) ∙ go n c (test neg count n c) (p.held n c)
  where
    go : (n : Bool) (c : ℕ) (t : Bool) → (t ≡ true → places_in n c old ≡ p.here.places)
        → cond t (p.here.places ++ place ∷ []) (places_in n c old) ≡ cond t (places_in n c old ++ place ∷ []) (places_in n c old)
    go n c true h = ap (λ z. z ++ place ∷ []) (sym (h refl))
    go n c false h = refl

pub put_last : (neg : Bool) (count place : ℕ) (old : List Group) → group_from 0 neg count old ≡ None
    → ArePut neg count place old (old ++ record { neg = neg; count = count; places = place ∷ [] } ∷ [])
put_last neg count place old e = λ n c.
    last_group 0 (record { neg = neg; count = count; places = place ∷ [] }) old n c e ∙ go n c (test neg count n c) (none_at 0 neg count old e n c)
  where
    go : (n : Bool) (c : ℕ) (t : Bool) → (t ≡ true → places_in n c old ≡ [])
        → cond t (place ∷ []) (places_in n c old) ≡ cond t (places_in n c old ++ place ∷ []) (places_in n c old)
    go n c true h = ap (λ z. z ++ place ∷ []) (sym (h refl))
    go n c false h = refl

-- a place taken out
pub taken_here : (neg : Bool) (count place : ℕ) (old new : List Group) (k : ℕ) (p : IsGroupAt neg count old k)
    → new ≡ slice_set old k (with_places p.here (without place p.here.places)) → AreTaken neg count place old new
taken_here neg count place old new k p e = λ n c.
    ap (places_in n c) e ∙ p.made n c (without place p.here.places) ∙ go n c (test neg count n c) (p.held n c)
  where
    go : (n : Bool) (c : ℕ) (t : Bool) → (t ≡ true → places_in n c old ≡ p.here.places)
        → cond t (without place p.here.places) (places_in n c old) ≡ cond t (without place (places_in n c old)) (places_in n c old)
    go n c true h = ap (without place) (sym (h refl))
    go n c false h = refl

pub taken_none : (neg : Bool) (count place : ℕ) (old : List Group) → group_from 0 neg count old ≡ None → AreTaken neg count place old old
taken_none neg count place old e = λ n c. go n c (test neg count n c) (none_at 0 neg count old e n c) where
  go : (n : Bool) (c : ℕ) (t : Bool) → (t ≡ true → places_in n c old ≡ []) → places_in n c old ≡ cond t (without place (places_in n c old)) (places_in n c old)
  go n c true h = h refl ∙ ap (without place) (sym (h refl))
  go n c false h = refl

-- where a place stands
place_at : (i k place : ℕ) (xs : List ℕ) → place_from i place xs ≡ Some k → (j : ℕ) × (k ≡ i + j) × (remove xs j ≡ without place xs)
place_at i k place [] e = cc
place_at i k place (x ∷ xs) e = go (place_at (suc i) k place xs) (place == x) e where
  go : (place_from (suc i) place xs ≡ Some k → (j : ℕ) × (k ≡ suc i + j) × (remove xs j ≡ without place xs))
      → (r : Bool) → cond r (Some i) (place_from (suc i) place xs) ≡ Some k → (j : ℕ) × (k ≡ i + j) × (remove (x ∷ xs) j ≡ cond r xs (x ∷ without place xs))
  go more true w = let at : i ≡ k = cc in (0, omega (arith, at), refl)
  go more false w = let found = more w in (suc found.0, omega (arith, found.1), ap (λ z. x ∷ z) found.2)

pub place_out : (k place : ℕ) (xs : List ℕ) → place_from 0 place xs ≡ Some k → remove xs k ≡ without place xs
place_out k place xs e =
    let found = place_at 0 k place xs e in
    let same : found.0 ≡ k = omega (arith, found.1) in
    subst (λ j. remove xs j ≡ without place xs) same found.2

pub place_none : (i place : ℕ) (xs : List ℕ) → place_from i place xs ≡ None → xs ≡ without place xs
place_none i place [] e = refl
place_none i place (x ∷ xs) e = go (place_none (suc i) place xs) (place == x) e where
  go : (place_from (suc i) place xs ≡ None → xs ≡ without place xs) → (r : Bool) → cond r (Some i) (place_from (suc i) place xs) ≡ None
      → x ∷ xs ≡ cond r xs (x ∷ without place xs)
  go more true w = cc
  go more false w = ap (λ z. x ∷ z) (more w)
