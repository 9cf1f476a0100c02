-- How often a number stands in a list.
use Rattle.std.proofs.Common.{◌≡◌, ◌≢◌, ℕ, zero, suc, ◌+◌, ◌<◌, ◌≤◌, Bool, true, false, nat_eq, cond, List, [], ◌∷◌, ◌++◌, sym, refl, ap, ◌∙◌, arith, eq-eqb, ne_eqb}
use Rattle.std.proofs.lemmas.Bool.Decides.{nat_tests}
use Rattle.std.specs.Prelude.{nat_lt, nat_le, ◌&&◌}
use mathlib.Core.Logic.{dite}
use native.Mathlib.Decide.{dec_le, ℕ_discrete}
use Rattle.mas_board_lists.specs.Lists.{times, once_in, numbers_from}
use Rattle.mas_board_lists.proofs.Sums.{total_append}

abbrev pub bit : Bool → ℕ
bit b = cond b 1 0

bit_le : (b : Bool) → bit b ≤ 1
bit_le true = omega arith
bit_le false = omega arith

pub once_le : (a k n : ℕ) → once_in a k n ≤ 1
once_le a k n = bit_le (nat_le k a && nat_lt a (k + n))

pub once_in_is : (a k n : ℕ) → k ≤ a → a < k + n → once_in a k n ≡ 1
once_in_is a k n l m = let e : (nat_le k a && nat_lt a (k + n)) ≡ true = grind (arith, nat_tests) in ap bit e

pub once_out_is : (a k n : ℕ) → ((k ≤ a) → (a < k + n) → ⊥) → once_in a k n ≡ 0
once_out_is a k n f = dite (dec_le k a)
    (λ i. let l : k + n ≤ a = dite (dec_le (k + n) a) (λ j. j) (λ j. absurd (f i (omega arith))) in
    let e : (nat_le k a && nat_lt a (k + n)) ≡ false = grind (arith, nat_tests) in ap bit e)
    (λ i. let e : (nat_le k a && nat_lt a (k + n)) ≡ false = grind (arith, nat_tests) in ap bit e)

-- where it is one of them
pub once_some : (a k n : ℕ) → 1 ≤ once_in a k n → (k ≤ a) × (a < k + n)
once_some a k n h = dite (dec_le k a)
    (λ i. dite (dec_le (suc a) (k + n)) (λ j. (i, j)) (λ j. let z = once_out_is a k n (λ _ m. absurd (j m)) in absurd (omega arith)))
    (λ i. let z = once_out_is a k n (λ l _. absurd (i l)) in absurd (omega arith))

pub times_self : (a : ℕ) → times a (a ∷ []) ≡ 1
times_self a = let e : nat_eq a a ≡ true = grind (arith, nat_tests) in ap (λ b. cond b 1 0 + 0) e

pub times_other : (a c : ℕ) → a ≢ c → times c (a ∷ []) ≡ 0
times_other a c n = let e : nat_eq a c ≡ false = ne_eqb a c n in ap (λ b. cond b 1 0 + 0) e

pub times_append : (a : ℕ) (xs ys : List ℕ) → times a (xs ++ ys) ≡ times a xs + times a ys
times_append a xs ys = total_append (λ x. cond (nat_eq x a) 1 0) xs ys

low : (a k n : ℕ) → (a < suc k → times a (numbers_from (suc k) n) ≡ 0) → a < k → times a (numbers_from k (suc n)) ≡ 0
low a k n h l = let e : nat_eq k a ≡ false = ne_eqb k a (λ i. absurd (omega arith)) in ap (λ b. cond b 1 0 + times a (numbers_from (suc k) n)) e ∙ (let t = h (omega arith) in omega arith)

high : (a k n : ℕ) → (suc k + n ≤ a → times a (numbers_from (suc k) n) ≡ 0) → k + suc n ≤ a → times a (numbers_from k (suc n)) ≡ 0
high a k n h l = let e : nat_eq k a ≡ false = ne_eqb k a (λ i. absurd (omega arith)) in ap (λ b. cond b 1 0 + times a (numbers_from (suc k) n)) e ∙ (let t = h (omega arith) in omega arith)

mid : (a k n : ℕ) → (a < suc k → times a (numbers_from (suc k) n) ≡ 0) → (suc k ≤ a → a < suc k + n → times a (numbers_from (suc k) n) ≡ 1) → k ≤ a → a < k + suc n →
    times a (numbers_from k (suc n)) ≡ 1
mid a k n f g l m = dite (ℕ_discrete k a)
    (λ i. ap (λ b. cond b 1 0 + times a (numbers_from (suc k) n)) (eq-eqb k a i) ∙ (let t = f (omega arith) in omega arith))
    (λ i. ap (λ b. cond b 1 0 + times a (numbers_from (suc k) n)) (ne_eqb k a i) ∙ (let t = g (omega arith) (omega arith) in omega arith))

from_times : (a k n : ℕ) → (a < k → times a (numbers_from k n) ≡ 0) × (k + n ≤ a → times a (numbers_from k n) ≡ 0) × (k ≤ a → a < k + n → times a (numbers_from k n) ≡ 1)
from_times a k zero = ((λ _. refl), (λ _. refl), λ h i. absurd (omega arith))
from_times a k (suc n) = let h = from_times a (suc k) n in (low a k n h.0, high a k n h.1, mid a k n h.0 h.2)

-- n numbers from k on stand there once each
pub numbers_once : (a k n : ℕ) → times a (numbers_from k n) ≡ once_in a k n
numbers_once a k n = let h = from_times a k n in dite (dec_le k a)
    (λ i. dite (dec_le (suc a) (k + n)) (λ j. h.2 i j ∙ sym (once_in_is a k n i j)) (λ j. h.1 (omega arith) ∙ sym (once_out_is a k n (λ _ m. absurd (j m)))))
    (λ i. h.0 (omega arith) ∙ sym (once_out_is a k n (λ l _. absurd (i l))))
