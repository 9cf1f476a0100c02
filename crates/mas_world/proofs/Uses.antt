-- How the artifacts of a world are taken.
use Rattle.std.proofs.Common.{arith, ◌≡◌, ◌<◌, ◌≤◌, ◌+◌, ℕ, zero, suc, Bool, true, false, not, cond, if◌then◌else◌, List, [], ◌∷◌, ◌++◌, take, drop, remove, length, get_or, position, slice_get, Option, Some, None, refl, sym, ap, subst, ◌∙◌, append-nil}
use Rattle.std.specs.List.{AllByRecursion, IsDistinct, find, position_or_len}
use Rattle.std.specs.Option.{option_to_list}
use Rattle.std.specs.Str.{bytes_eq}
use Rattle.std.proofs.lemmas.Grind.{common_steps}
use Rattle.std.proofs.lemmas.List.{drop_more, take_more}
use Rattle.std.proofs.lemmas.List.Concat.{flat_map-append}
use Rattle.std.proofs.lemmas.List.Folds.{find_at}
use Rattle.std.proofs.lemmas.List.Quantifiers.{position-Some}
use Rattle.std.proofs.lemmas.Map.Keys.{IsDistinct-head}
use Rattle.std.proofs.lemmas.Option.{get_or_from_slice_get, slice_get-get_or, slice_get_past, slice_get_read, slice_get_within}
use Rattle.std.proofs.lemmas.Slice.Eq.{bytes_eq-Decides}
use Rattle.asl_term.specs.Names.{name_at}
use Rattle.mas_world.specs.inner.Artifacts.{without_named}
use Rattle.mas_world.specs.Worlds.{Used, named, taken}
use Rattle.mas_world.proofs.Sound.{both_all, distinct_drop}

-- ---- the first of a name, and its place

module _ (name : List ℕ) where
  abbrev has : Used → Bool
  has u = bytes_eq u.name name

  gone_next : (b : Bool) (u : Used) (us : List Used) (n : ℕ) → without_named us name ≡ remove us n → (if b then us else u ∷ without_named us name) ≡ remove (u ∷ us) (cond (not b) (1 + n) 0)
  gone_next true u us n e = refl
  gone_next false u us n e = ap (λ x. u ∷ x) e ∙ ap (remove (u ∷ us)) (up n) where
    up : (n : ℕ) → suc n ≡ 1 + n
    up n = omega arith

  gone_at : (us : List Used) → without_named us name ≡ remove us (position_or_len (λ u. bytes_eq u.name name) us)
  gone_at [] = refl
  gone_at (u ∷ us) = gone_next (has u) u us (position_or_len has us) (gone_at us)

  place : (b : Bool) (n k : ℕ) → cond b (Some n) None ≡ Some k → n ≡ k
  place true n k e = cc
  place false n k e = cc

  pub some_named : (us : List Used) (k : ℕ) → position (λ u. bytes_eq u.name name) us ≡ Some k → named us name ≡ slice_get us k
  some_named us k e = find_at has us ∙ ap (slice_get us) (place _ (position_or_len has us) k e)

  pub some_gone : (us : List Used) (k : ℕ) → position (λ u. bytes_eq u.name name) us ≡ Some k → without_named us name ≡ remove us k
  some_gone us k e = gone_at us ∙ ap (remove us) (place _ (position_or_len has us) k e)

  pub some_within : (us : List Used) (k : ℕ) (d : Used) → position (λ u. bytes_eq u.name name) us ≡ Some k → k < length us
  some_within us k d e = (position-Some has us k d e).0

  absent : (us : List Used) → position (λ u. bytes_eq u.name name) us ≡ None → length us ≤ position_or_len has us
  absent us e = grind (arith, common_steps)

  pub none_named : (us : List Used) → position (λ u. bytes_eq u.name name) us ≡ None → named us name ≡ None
  none_named us e = find_at has us ∙ slice_get_past us (position_or_len has us) (absent us e)

  past : (us : List Used) (n : ℕ) → length us ≤ n → remove us n ≡ us
  past [] n h = grind (arith, common_steps)
  past (u ∷ us) zero h = absurd (omega (arith, h))
  past (u ∷ us) (suc n) h = ap (λ x. u ∷ x) (past us n (omega (arith, h)))

  pub none_gone : (us : List Used) → position (λ u. bytes_eq u.name name) us ≡ None → without_named us name ≡ us
  none_gone us e = gone_at us ∙ past us (position_or_len has us) (absent us e)

  -- what a look for the name, of which there is none, leaves
  pub none_is : (found : Option ℕ) (slice items us : List Used) → found ≡ position (λ u. bytes_eq u.name name) slice → slice ≡ items → items ≡ us → found ≡ None → (None ≡ named us name) × (us ≡ without_named us name)
  none_is found slice items us f s i n =
      let e = sym (f ∙ ap (position has) (s ∙ i)) ∙ n in
      (sym (none_named us e), sym (none_gone us e))

  -- and one of which there is one
  pub some_is : (found : Option ℕ) (k : ℕ) (slice items us left : List Used) (u : Used) → found ≡ position (λ u. bytes_eq u.name name) slice → slice ≡ items → items ≡ us → found ≡ Some k → u ≡ get_or items k u → left ≡ remove items k → (Some u ≡ named us name) × (left ≡ without_named us name)
  some_is found k slice items us left u f s i n at l =
      let e = sym (f ∙ ap (position has) (s ∙ i)) ∙ n in
      let read = slice_get_read us (length us) k u refl (some_within us k u e) (at ∙ ap (λ xs. get_or xs k u) i) in
      (sym (some_named us k e ∙ read), l ∙ ap (λ xs. remove xs k) i ∙ sym (some_gone us k e))

-- ---- all of a list

pub all_done : {X : Type 0} (P : X → Type 0) (xs : List X) (i : ℕ) → length xs ≤ i → AllByRecursion P (take i xs) → AllByRecursion P xs
all_done P [] i h a = tt
all_done P (x ∷ xs) zero h a = absurd (omega (arith, h))
all_done P (x ∷ xs) (suc i) h a = (a.0, all_done P xs i (omega (arith, h)) a.1)

-- ---- one name after another

abbrev Same : List Used → List Used → List ℕ → Type 0
Same left all name = named left name ≡ named all name

-- the first of another name stays the first
another : (a c : Bool) (u : Used) (us rest : List Used) (n : List ℕ) → (a ≡ true → c ≡ false) → find (λ v. bytes_eq v.name n) rest ≡ find (λ v. bytes_eq v.name n) us → c ≡ bytes_eq u.name n → find (λ v. bytes_eq v.name n) (if a then us else u ∷ rest) ≡ cond c (Some u) (find (λ v. bytes_eq v.name n) us)
another true true u us rest n h e i = absurd (grind (arith, h refl))
another true false u us rest n h e i = refl
another false c u us rest n h e i = (λ j. cond (sym i j) (Some u) (e j))

still_named : (left : List Used) (name n : List ℕ) → bytes_eq name n ≡ false → named (without_named left name) n ≡ named left n
still_named [] name n h = refl
still_named (u ∷ us) name n h =
    another (bytes_eq u.name name) (bytes_eq u.name n) u us (without_named us name) n
    (λ e. ap (λ x. bytes_eq x n) ((bytes_eq-Decides u.name name).0 e) ∙ h) (still_named us name n h) refl

pub at_is : (uses : List (List ℕ)) (k : ℕ) → name_at uses (k + 1) ≡ slice_get uses k
at_is uses k = grind (arith, common_steps)

pub record Taking (uses : List (List ℕ)) (all : List Used) (k : ℕ) (used left : List Used) : Type 0 where
  pub used_is : used ≡ taken (take k uses) all
  pub left_is : AllByRecursion (λ name. named left name ≡ named all name) (drop k uses)

all_same : (all : List Used) (ns : List (List ℕ)) → AllByRecursion (Same all all) ns
all_same all [] = tt
all_same all (n ∷ ns) = (refl, all_same all ns)

pub taking_begins : (uses : List (List ℕ)) (all : List Used) → Taking uses all 0 [] all
taking_begins uses all = record { used_is = refl; left_is = all_same all uses }

pub one_taken : (uses : List (List ℕ)) (all : List Used) (k : ℕ) (name : List ℕ) (used0 left0 used1 left1 : List Used) → IsDistinct bytes_eq uses → Some name ≡ name_at uses (k + 1) → Taking uses all k used0 left0 → left1 ≡ without_named left0 name → used1 ≡ used0 ++ option_to_list (named left0 name) → Taking uses all (k + 1) used1 left1
one_taken uses all k name used0 left0 used1 left1 distinct at t l u =
    let read : slice_get uses k ≡ Some name = sym (at ∙ at_is uses k) in
    let within = slice_get_within uses k name read in
    let is = get_or_from_slice_get uses k name name read in
    let cut : drop k uses ≡ name ∷ drop (k + 1) uses = drop_more uses k name within ∙ ap (λ x. x ∷ drop (k + 1) uses) is in
    let P : List (List ℕ) → Type 0 = AllByRecursion (Same left0 all) in
    let now = subst P cut t.left_is in
    let D : List (List ℕ) → Type 0 = IsDistinct bytes_eq in
    let apart = IsDistinct-head bytes_eq name (drop (k + 1) uses) (subst D cut (distinct_drop bytes_eq uses k distinct)) in
    let front : take (k + 1) uses ≡ take k uses ++ name ∷ [] = take_more uses k name within ∙ ap (λ x. take k uses ++ x ∷ []) is in
    record {
      used_is =
          u ∙ (λ i. t.used_is i ++ option_to_list (now.0 i))
          ∙ ap (λ x. taken (take k uses) all ++ x) (sym (append-nil (option_to_list (named all name))))
          ∙ sym (flat_map-append (λ n. option_to_list (named all n)) (take k uses) (name ∷ []))
          ∙ ap (λ ns. taken ns all) (sym front);
      left_is =
          both_all (Same left0 all) (λ n. bytes_eq name n ≡ false) (Same left1 all)
          (λ n same other. ap (λ x. named x n) l ∙ still_named left0 name n other ∙ same) (drop (k + 1) uses) now.1 apart;
    }

pub none_missing : (uses : List (List ℕ)) (k : ℕ) → k < length uses → None ≡ name_at uses (k + 1) → ⊥
none_missing uses k h e = let f : None ≡ Some (get_or uses k []) = e ∙ at_is uses k ∙ slice_get-get_or uses k [] h in cc

pub all_taken : (uses : List (List ℕ)) (all : List Used) (k : ℕ) (used left : List Used) → length uses ≤ k → Taking uses all k used left → used ≡ taken uses all
all_taken uses all k used left h t = t.used_is ∙ ap (λ ns. taken ns all) (whole uses k h) where
  whole : (ns : List (List ℕ)) (n : ℕ) → length ns ≤ n → take n ns ≡ ns
  whole ns n h = grind (arith, common_steps)
