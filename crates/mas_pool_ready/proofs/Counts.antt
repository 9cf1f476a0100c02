-- How often numbers stand in lists, and how many there can be.
use Rattle.std.proofs.Common.{◌≡◌, ℕ, zero, suc, ◌+◌, ◌<◌, ◌≤◌, ◌≢◌, Bool, eq-eqb, ne_eqb, List, [], ◌∷◌, ◌++◌, length, sym, refl, ap, ◌∙◌, arith}
use mathlib.Core.Logic.{dite}
use native.Mathlib.Decide.{ℕ_discrete}
use mathlib.Core.Option.{some, some-injective, some-ne-none}
use lib.ListN.{get_elem?}
use Rattle.mas_board_lists.specs.Lists.{Each, total, times, numbers_from}
use Rattle.mas_board_lists.proofs.Sums.{at_total}
use Rattle.mas_board_lists.proofs.Times.{bit}

module _ {A : Type 0} where
  pub each_right : (P : A → Type 0) (l m : List A) → Each P (l ++ m) → Each P m
  each_right P [] m h = h
  each_right P (x ∷ l) m h = each_right P l m h.1

  -- where f is 0 of each of which g is 0, and one has all of g, it has all of f
  module _ (f g : A → ℕ) where
    all_zero : (l : List A) → ((j : ℕ) (u : A) → get_elem? l j ≡ some u → g u ≡ 0 → f u ≡ 0) → total g l ≡ 0 → total f l ≡ 0
    all_zero [] h e = refl
    all_zero (x ∷ xs) h e = let a = h 0 x refl (omega arith) in let b = all_zero xs (λ j u. h (suc j) u) (omega arith) in omega arith

    pub total_only : (l : List A) (p : ℕ) (v : A) → ((j : ℕ) (u : A) → get_elem? l j ≡ some u → g u ≡ 0 → f u ≡ 0) → get_elem? l p ≡ some v → total g l ≡ g v → total f l ≡ f v
    total_only [] p v h at e = absurd (some-ne-none v (sym at))
    total_only (x ∷ xs) zero v h at e =
        let i = some-injective x v at in let k = ap f i in let m = ap g i in let z = all_zero xs (λ j u. h (suc j) u) (omega arith) in omega arith
    total_only (x ∷ xs) (suc p) v h at e =
        let m = at_total g xs p v at in let k = h 0 x refl (omega arith) in let r = total_only xs p v (λ j u. h (suc j) u) at (omega arith) in omega arith

-- ---- how often numbers stand in a list

-- the first number counts once where it is this one, and else not at all
pub times_here : (a x : ℕ) (xs : List ℕ) → x ≡ a → times a (x ∷ xs) ≡ suc (times a xs)
times_here a x xs e = let h = ap (λ (b : Bool). bit b + times a xs) (eq-eqb x a e) in omega arith

pub times_else : (a x : ℕ) (xs : List ℕ) → x ≢ a → times a (x ∷ xs) ≡ times a xs
times_else a x xs n = let h = ap (λ (b : Bool). bit b + times a xs) (ne_eqb x a n) in omega arith

pub from_snoc : (k n : ℕ) → numbers_from k (suc n) ≡ numbers_from k n ++ (k + n) ∷ []
from_snoc k zero = ap (λ (a : ℕ). a ∷ []) (let e : k ≡ k + 0 = omega arith in e)
from_snoc k (suc n) = ap (λ (l : List ℕ). k ∷ l) (from_snoc (suc k) n ∙ ap (λ (a : ℕ). numbers_from (suc k) n ++ a ∷ []) (let e : suc k + n ≡ k + suc n = omega arith in e))

pub length_from : (k n : ℕ) → length (numbers_from k n) ≡ n
length_from k zero = refl
length_from k (suc n) = ap suc (length_from (suc k) n)

-- numbers below the first do not stand there
pub below_from : (a k n : ℕ) → a < k → times a (numbers_from k n) ≡ 0
below_from a k zero l = refl
below_from a k (suc n) l = times_else a k (numbers_from (suc k) n) (λ e. absurd (omega arith)) ∙ below_from a (suc k) n (omega arith)

pub past_from : (a k n : ℕ) → k + n ≤ a → times a (numbers_from k n) ≡ 0
past_from a k zero l = refl
past_from a k (suc n) l = times_else a k (numbers_from (suc k) n) (λ e. absurd (omega arith)) ∙ past_from a (suc k) n (omega arith)

pub once_from : (a k n : ℕ) → times a (numbers_from k n) ≤ 1
once_from a k zero = omega arith
once_from a k (suc n) = dite (ℕ_discrete k a)
    (λ e. let h = times_here a k (numbers_from (suc k) n) e in let z = below_from a (suc k) n (omega arith) in omega arith)
    (λ d. let h = times_else a k (numbers_from (suc k) n) d in let r = once_from a (suc k) n in omega arith)

pub in_from : (a k n : ℕ) → k ≤ a → a < k + n → times a (numbers_from k n) ≡ 1
in_from a k zero l m = absurd (omega arith)
in_from a k (suc n) l m = dite (ℕ_discrete k a)
    (λ e. let h = times_here a k (numbers_from (suc k) n) e in let z = below_from a (suc k) n (omega arith) in omega arith)
    (λ d. let h = times_else a k (numbers_from (suc k) n) d in let r = in_from a (suc k) n (omega arith) (omega arith) in omega arith)

-- ---- no more numbers than there are, where each stands at most once

-- how often the numbers ks stand in xs
abbrev all_times : List ℕ → List ℕ → ℕ
all_times ks xs = total (λ a. times a xs) ks

all_times_more : (ks xs : List ℕ) (x : ℕ) → all_times ks (x ∷ xs) ≡ times x ks + all_times ks xs
all_times_more [] xs x = omega arith
all_times_more (k ∷ ks) xs x =
    let r = all_times_more ks xs x in
    dite (ℕ_discrete x k)
    (λ e. let h = times_here k x xs e in let m = times_here x k ks (sym e) in omega arith)
    (λ d. let h = times_else k x xs d in let m = times_else x k ks (λ e. d (sym e)) in omega arith)

at_most_length : (ks xs : List ℕ) → ((a : ℕ) → times a xs ≤ 1) → all_times ks xs ≤ length ks
at_most_length [] xs h = omega arith
at_most_length (k ∷ ks) xs h = let r = at_most_length ks xs h in let m = h k in omega arith

at_least_length : (ks xs : List ℕ) → ((a : ℕ) → 1 ≤ times a xs → 1 ≤ times a ks) → length xs ≤ all_times ks xs
at_least_length ks [] h = omega arith
at_least_length ks (x ∷ xs) h =
    let e = all_times_more ks xs x in
    let m = h x (let i = times_here x x xs refl in omega arith) in
    let r = at_least_length ks xs (λ a l. h a (let i = more a in omega arith)) in
    omega arith
  where
    more : (a : ℕ) → times a xs ≤ times a (x ∷ xs)
    more a = omega arith

pub few : (xs : List ℕ) (k n : ℕ) → ((a : ℕ) → times a xs ≤ times a (numbers_from k n)) → length xs ≤ n
few xs k n h =
    let low = at_least_length (numbers_from k n) xs (λ a l. (let m = h a in omega arith)) in
    let high = at_most_length (numbers_from k n) xs (λ a. (let m = h a in let o = once_from a k n in omega arith)) in
    let e = length_from k n in
    omega arith
