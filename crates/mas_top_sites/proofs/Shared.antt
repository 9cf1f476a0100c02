-- Names that are among others, and names that are not.
use Rattle.std.proofs.Common.{ℕ, ◌≡◌, ◌≤◌, ◌<◌, ◌+◌, Bool, true, false, cond, not, ◌&&◌, ◌||◌, List, [], ◌∷◌, ◌++◌, take, drop, length, get_or, None, Some, is_some, refl, sym, ap, subst, ◌∙◌, append-nil, append_assoc, arith}
use Rattle.std.proofs.lemmas.List.{drop_more, take_more, take_all, take-append-drop, length-append, length-take-le}
use Rattle.std.proofs.lemmas.List.Folds.{list_any-append, list_all_more, list_all_at}
use Rattle.std.proofs.lemmas.Option.{get_or_from_slice_get, slice_get_within}
use Rattle.std.specs.List.{IsDistinct, list_any}
use Rattle.std.specs.Str.{bytes_eq}
use Rattle.asl_term.specs.Names.{place_of, with_name, name_at}
use Rattle.mas_project.proofs.Named.{found, apart}
use Rattle.mas_world.proofs.Uses.{at_is, none_missing}
use Rattle.mas_top_sites.specs.Pairs.{has_name, are_new, IsTaken}

-- ---- a name at a place

-- it stands behind so many others
pub record IsAt (names : List (List ℕ)) (k : ℕ) (name : List ℕ) : Type 0 where
  pub within : k < length names
  pub is : get_or names k name ≡ name
  pub parts : names ≡ take k names ++ name ∷ drop (k + 1) names

pub is_at : (names : List (List ℕ)) (k : ℕ) (name : List ℕ) → Some name ≡ name_at names (k + 1) → IsAt names k name
is_at names k name e =
    let read = sym (e ∙ at_is names k) in
    let within = slice_get_within names k name read in
    let is = get_or_from_slice_get names k name name read in
    record {
      within = within;
      is = is;
      parts = sym (take-append-drop k names) ∙ ap (λ ns. take k names ++ ns) (drop_more names k name within ∙ ap (λ n. n ∷ drop (k + 1) names) is);
    }

pub no_gap : (names : List (List ℕ)) (k : ℕ) → k < length names → None ≡ name_at names (k + 1) → ⊥
no_gap = none_missing

-- ---- names that are new

pub first_new : (earlier names : List (List ℕ)) → are_new earlier (take 0 names) ≡ true
first_new earlier names = refl

pub next_new : (earlier names : List (List ℕ)) (k : ℕ) (name : List ℕ) → are_new earlier (take k names) ≡ true → Some name ≡ name_at names (k + 1) →
    is_some (place_of earlier name) ≡ false → are_new earlier (take (k + 1) names) ≡ true
next_new earlier names k name h e f =
    let at = is_at names k name e in
    list_all_more (λ n. not (has_name earlier n)) names k name at.within
    ∙ ap (λ b. b && not (has_name earlier (get_or names k name))) h
    ∙ ap (λ n. not (has_name earlier n)) at.is
    ∙ ap not (sym (found earlier name) ∙ f)

pub one_taken : (earlier names : List (List ℕ)) (k number : ℕ) (name copied : List ℕ) → are_new earlier (take k names) ≡ true → Some name ≡ name_at names (k + 1) →
    is_some (place_of earlier name) ≡ true → number ≡ k + 1 → copied ≡ name → IsTaken earlier names number copied
one_taken earlier names k number name copied h e f n c =
    let at = is_at names k name e in
    let l = at.within in
    let long : length (take k names) ≡ k = length-take-le k names (omega arith) in
    subst (IsTaken earlier names number) (sym c) (record {
      before = take k names;
      behind = drop (k + 1) names;
      parts = at.parts;
      number_is = n ∙ ap (λ x. x + 1) (sym long);
      new = h;
      taken = sym (found earlier name) ∙ f;
    })

pub all_new : (earlier names : List (List ℕ)) (k : ℕ) → are_new earlier (take k names) ≡ true → length names ≤ k → are_new earlier names ≡ true
all_new earlier names k h l = ap (are_new earlier) (sym (take_all k names l)) ∙ h

-- ---- names that are put behind others

not_false : false ≡ true → ⊥
not_false e = cc

new_by : (old more : List (List ℕ)) (k : ℕ) (name : List ℕ) → k < length more → get_or more k name ≡ name → are_new old more ≡ true → (b : Bool) → has_name old name ≡ b → has_name old name ≡ false
new_by old more k name l is h false e = e
new_by old more k name l is h true e =
    let none : not (has_name old (get_or more k name)) ≡ false = ap (λ n. not (has_name old n)) is ∙ ap not e in
    absurd (not_false (sym (list_all_at (λ n. not (has_name old n)) more k name l none) ∙ h))

either_false : (a b : Bool) → a ≡ false → b ≡ false → (a || b) ≡ false
either_false a b p q = rw (p, q) refl

pub none_put : (old more : List (List ℕ)) → old ≡ old ++ take 0 more
none_put old more = sym (append-nil old)

pub next_put : (old more names next : List (List ℕ)) (k : ℕ) (name : List ℕ) → names ≡ old ++ take k more → IsDistinct bytes_eq more → are_new old more ≡ true →
    Some name ≡ name_at more (k + 1) → next ≡ with_name names name → next ≡ old ++ take (k + 1) more
next_put old more names next k name h d n e w =
    let at = is_at more k name e in
    let D : List (List ℕ) → Type 0 = IsDistinct bytes_eq in
    let behind : list_any (bytes_eq name) (take k more) ≡ false = apart (take k more) name (drop (k + 1) more) (subst D at.parts d) in
    let before = new_by old more k name at.within at.is n (has_name old name) refl in
    let none : has_name (old ++ take k more) name ≡ false =
    list_any-append (bytes_eq name) old (take k more) ∙ either_false (has_name old name) (list_any (bytes_eq name) (take k more)) before behind in
    let last : take k more ++ name ∷ [] ≡ take (k + 1) more = sym (take_more more k name at.within ∙ ap (λ x. take k more ++ x ∷ []) at.is) in
    w ∙ ap (λ ns. with_name ns name) h ∙ put none ∙ append_assoc old (take k more) (name ∷ []) ∙ ap (λ ns. old ++ ns) last
  where
    put : has_name (old ++ take k more) name ≡ false → with_name (old ++ take k more) name ≡ (old ++ take k more) ++ name ∷ []
    put none = ap (λ (b : Bool). cond b (old ++ take k more) ((old ++ take k more) ++ name ∷ [])) none

pub all_put : (old more names : List (List ℕ)) (k : ℕ) → names ≡ old ++ take k more → length more ≤ k → names ≡ old ++ more
all_put old more names k h l = h ∙ ap (λ ns. old ++ ns) (take_all k more l)

-- there is room for one more
pub few_put : (old more names : List (List ℕ)) (k : ℕ) → names ≡ old ++ take k more → k < length more → length old + length more ≤ 1024 → length names < 4294967295
few_put old more names k h l f =
    let n : length names ≡ length old + k = ap length h ∙ length-append old (take k more) ∙ ap (λ x. length old + x) (length-take-le k more (omega (arith, l))) in
    omega (arith, n, l, f)

-- ---- nothing is among no names

pub new_at_first : (names : List (List ℕ)) → are_new [] names ≡ true
new_at_first [] = refl
new_at_first (n ∷ names) = new_at_first names

-- what the turns of the two loops ask
pub ruleset taking = (first_new, next_new, one_taken, all_new, no_gap)

pub ruleset putting = (none_put, next_put, all_put, few_put, no_gap)
