-- How often an outcome is listed.
use Rattle.std.proofs.Common.{ℕ, zero, suc, ◌≡◌, ◌+◌, ◌≤◌, arith, Bool, true, false, ◌||◌, cond, List, [], ◌∷◌, ◌++◌, slice_get, Some, refl, ap, sym, ◌∙◌, subst}
use Rattle.std.specs.List.{list_any}
use Rattle.std.specs.Str.{bytes_eq}
use Rattle.std.proofs.lemmas.List.Sums.{sum_by-cons, sum_by_push}
use Rattle.std.proofs.lemmas.Option.{none-some, same_Some}
use Rattle.std.proofs.lemmas.Slice.Eq.{bytes_eq-Decides}
use Rattle.mas_free.specs.Covers.{IsMember}
use Rattle.mas_explore.specs.declared.listing.Shown.{Shown}
use Rattle.mas_explore.specs.Listings.{AreDistinct, IsListed, times}

abbrev has : List ℕ → Shown → Bool
has text e = bytes_eq e.text text

abbrev once : List ℕ → Shown → ℕ
once text e = cond (has text e) 1 0

same : (e : Shown) (text : List ℕ) → has text e ≡ true → e.text ≡ text
same e text h = (bytes_eq-Decides e.text text).0 h

itself : (text other : List ℕ) → text ≡ other → bytes_eq text other ≡ true
itself text other e = (bytes_eq-Decides text other).1 e

-- ---- whether it is listed

listed-cons : (x : Shown) (xs : List Shown) (text : List ℕ) (b : Bool) → has text x ≡ b → list_any (has text) (x ∷ xs) ≡ true →
    (list_any (has text) xs ≡ true → IsListed xs text) → IsListed (x ∷ xs) text
listed-cons x xs text true q e rest = record { entry = x; among = record { place = 0; at = refl }; text_is = same x text q }
listed-cons x xs text false q e rest =
    let l = rest (sym (ap (λ b. b || list_any (has text) xs) q) ∙ e) in
    record { entry = l.entry; among = record { place = suc l.among.place; at = l.among.at }; text_is = l.text_is }

listed-if : (list : List Shown) (text : List ℕ) → list_any (has text) list ≡ true → IsListed list text
listed-if [] text e = cc
listed-if (x ∷ xs) text e = listed-cons x xs text (has text x) refl e (λ r. listed-if xs text r)

pub listed_by : (list : List Shown) (text : List ℕ) → list_any (λ e. bytes_eq e.text text) list ≡ true → IsListed list text
listed_by list text e = listed-if list text e

or-true : (b : Bool) → (b || true) ≡ true
or-true true = refl
or-true false = refl

any-at : (list : List Shown) (text : List ℕ) (e : Shown) (i : ℕ) → slice_get list i ≡ Some e → has text e ≡ true → list_any (has text) list ≡ true
any-at [] text e i at h = absurd (none-some e at)
any-at (x ∷ xs) text e zero at h =
    let P = λ (y : Shown). has text y ≡ true in
    ap (λ b. b || list_any (has text) xs) (subst P (sym (same_Some x e at)) h)
any-at (x ∷ xs) text e (suc i) at h = ap (λ b. has text x || b) (any-at xs text e i at h) ∙ or-true (has text x)

pub unlisted_by : (list : List Shown) (text : List ℕ) → list_any (λ e. bytes_eq e.text text) list ≡ false → IsListed list text → ⊥
unlisted_by list text n l =
    let t : list_any (has text) list ≡ true = any-at list text l.entry l.among.place l.among.at (itself l.entry.text text l.text_is) in
    let f : true ≡ false = sym t ∙ n in
    cc

-- ---- how often

none-cons : (x : Shown) (xs : List Shown) (text : List ℕ) (b : Bool) → has text x ≡ b → list_any (has text) (x ∷ xs) ≡ false →
    (list_any (has text) xs ≡ false → times xs text ≡ 0) → times (x ∷ xs) text ≡ 0
none-cons x xs text true q n rest =
    let f : true ≡ false = sym (ap (λ b. b || list_any (has text) xs) q) ∙ n in
    cc
none-cons x xs text false q n rest =
    let none : times xs text ≡ 0 = rest (sym (ap (λ b. b || list_any (has text) xs) q) ∙ n) in
    let here : once text x ≡ 0 = ap (λ (b : Bool). cond b 1 0) q in
    let all : times (x ∷ xs) text ≡ once text x + times xs text = sum_by-cons (once text) x xs in
    omega arith

none-times : (list : List Shown) (text : List ℕ) → list_any (has text) list ≡ false → times list text ≡ 0
none-times [] text n = refl
none-times (x ∷ xs) text n = none-cons x xs text (has text x) refl n (λ r. none-times xs text r)

pub one_more_once : (list : List Shown) (x : Shown) (text : List ℕ) → x.text ≡ text → list_any (λ e. bytes_eq e.text text) list ≡ false → AreDistinct list →
    AreDistinct (list ++ x ∷ [])
one_more_once list x text e none d other = by (has other x) refl
  where
    all : times (list ++ x ∷ []) other ≡ times list other + once other x
    all = sum_by_push (once other) list x

    by : (b : Bool) → has other x ≡ b → times (list ++ x ∷ []) other ≤ 1
    by true q =
        let is : text ≡ other = sym e ∙ same x other q in
        let P = λ (t : List ℕ). times list t ≡ 0 in
        let none_yet : times list other ≡ 0 = subst P is (none-times list text none) in
        let here : once other x ≡ 1 = ap (λ (b : Bool). cond b 1 0) q in
        let pushed = all in
        omega arith
    by false q =
        let here : once other x ≡ 0 = ap (λ (b : Bool). cond b 1 0) q in
        let before = d other in
        let pushed = all in
        omega arith
