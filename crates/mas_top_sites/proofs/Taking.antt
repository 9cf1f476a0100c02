-- How artifacts are taken out.
use Rattle.std.proofs.Common.{ℕ, zero, suc, ◌≡◌, ◌≤◌, ◌<◌, ◌+◌, Bool, not, cond, nat_lt, List, [], ◌∷◌, ◌++◌, map, drop, remove, length, get_or, position, Option, None, Some, refl, sym, ap, ap₂, subst, ◌∙◌, append-nil}
use Rattle.std.specs.Option.{option_to_list}
use Rattle.std.specs.List.{IsDistinct, position_or_len}
use Rattle.std.specs.Str.{bytes_eq}
use Rattle.std.proofs.lemmas.List.{drop_all, drop_more, length-map, get_or-map}
use Rattle.std.proofs.lemmas.Option.{get_or_from_slice_get, slice_get_read, slice_get_within}
use Rattle.asl_term.specs.Names.{name_at}
use Rattle.mas_world.specs.inner.Artifacts.{without_named}
use Rattle.mas_world.specs.Worlds.{Used, named, taken}
use Rattle.mas_world.proofs.Uses as uses
use Rattle.mas_world.proofs.Uses.{Taking, taking_begins, all_taken, at_is}
use Rattle.mas_top_sites.specs.Artifacts.{without_all}

-- ---- the first of a name, among artifacts and among what contracts see of them

module _ {A : Type 0} (see : A → Used) (name : List ℕ) where
  abbrev has : Used → Bool
  has u = bytes_eq u.name name

  same_len : (items : List A) → position_or_len (λ a. has (see a)) items ≡ position_or_len has (map see items)
  same_len [] = refl
  same_len (a ∷ items) = ap (λ n. cond (not (has (see a))) (1 + n) 0) (same_len items)

  same_place : (items : List A) → position (λ a. has (see a)) items ≡ position has (map see items)
  same_place items = ap₂ (λ n l. cond (nat_lt n l) (Some n) None) (same_len items) (sym (length-map items see))

  without : (items : List A) (k : ℕ) → map see (remove items k) ≡ remove (map see items) k
  without [] zero = refl
  without [] (suc k) = refl
  without (a ∷ items) zero = refl
  without (a ∷ items) (suc k) = ap (λ us. see a ∷ us) (without items k)

  place : (found : Option ℕ) (slice items : List A) → found ≡ position (λ a. has (see a)) slice → slice ≡ items → position has (map see items) ≡ found
  place found slice items f s = sym (f ∙ ap (position (λ a. has (see a))) s ∙ same_place items)

  -- what a look for the name, of which there is none, leaves
  pub none_here : (found : Option ℕ) (slice items : List A) (kept : List Used) → found ≡ position (λ a. has (see a)) slice → slice ≡ items → found ≡ None →
      (map see items ≡ without_named (map see items) name) × (kept ≡ kept ++ option_to_list (named (map see items) name))
  none_here found slice items kept f s n =
      let e = place found slice items f s ∙ n in
      (sym (uses.none_gone name (map see items) e), sym (ap (λ o. kept ++ option_to_list o) (uses.none_named name (map see items) e) ∙ append-nil kept))

  -- and one of which there is one
  pub some_here : (found : Option ℕ) (k : ℕ) (slice items left : List A) (a : A) (kept next : List Used) → found ≡ position (λ a. has (see a)) slice → slice ≡ items →
      found ≡ Some k → a ≡ get_or items k a → left ≡ remove items k → next ≡ kept ++ see a ∷ [] →
      (map see left ≡ without_named (map see items) name) × (next ≡ kept ++ option_to_list (named (map see items) name))
  some_here found k slice items left a kept next f s n at l p =
      let us = map see items in
      let e = place found slice items f s ∙ n in
      let within = uses.some_within name us k (see a) e in
      let there = subst (λ n. k < n) (length-map items see) within in
      let same : see a ≡ get_or us k (see a) = ap see at ∙ sym (get_or-map see items k a (see a) there) in
      let read = slice_get_read us (length us) k (see a) refl within same in (
        ap (map see) l ∙ without items k ∙ sym (uses.some_gone name us k e),
        p ∙ ap (λ o. kept ++ option_to_list o) (sym (uses.some_named name us k e ∙ read)),
      )

-- ---- one name after another

-- those of so many names are taken, and these artifacts are left
pub record Left (names : List (List ℕ)) (all : List Used) (k : ℕ) (used left : List Used) : Type 0 where
  pub taking : Taking names all k used left
  pub rest : without_all (drop k names) left ≡ without_all names all

pub left_first : (names : List (List ℕ)) (all used : List Used) → used ≡ [] → Left names all 0 used all
left_first names all used e = subst (λ us. Left names all 0 us all) (sym e) (record { taking = taking_begins names all; rest = refl })

pub left_next : (names : List (List ℕ)) (all : List Used) (k : ℕ) (name : List ℕ) (used0 left0 used1 left1 : List Used) → IsDistinct bytes_eq names →
    Some name ≡ name_at names (k + 1) → Left names all k used0 left0 → left1 ≡ without_named left0 name → used1 ≡ used0 ++ option_to_list (named left0 name) →
    Left names all (k + 1) used1 left1
left_next names all k name used0 left0 used1 left1 distinct at h l u =
    let read = sym (at ∙ at_is names k) in
    let within = slice_get_within names k name read in
    let is = get_or_from_slice_get names k name name read in
    let cut : drop k names ≡ name ∷ drop (k + 1) names = drop_more names k name within ∙ ap (λ x. x ∷ drop (k + 1) names) is in
    record {
      taking = uses.one_taken names all k name used0 left0 used1 left1 distinct at h.taking l u;
      rest = ap (without_all (drop (k + 1) names)) l ∙ ap (λ ns. without_all ns left0) (sym cut) ∙ h.rest;
    }

-- all are taken
pub left_last : (names : List (List ℕ)) (all : List Used) (k : ℕ) (used left : List Used) → length names ≤ k → Left names all k used left →
    (used ≡ taken names all) × (left ≡ without_all names all)
left_last names all k used left l h = (
  all_taken names all k used left l h.taking,
  ap (λ ns. without_all ns left) (sym (drop_all k names l)) ∙ h.rest,
)
