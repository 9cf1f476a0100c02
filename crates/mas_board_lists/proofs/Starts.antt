-- Beginnings of lists.
use Rattle.std.proofs.Common.{◌≡◌, ℕ, ◌<◌, ◌≤◌, Bool, true, false, cond, List, [], ◌∷◌, ◌++◌, length, sym, refl, ap, ◌∙◌, append_assoc, append-nil, arith}
use Rattle.std.proofs.lemmas.Bool.Decides.{nat_tests}
use Rattle.std.specs.Prelude.{nat_le}
use Rattle.mas_board_lists.specs.Lists.{StartsWith, longer, times}
use Rattle.mas_board_lists.proofs.Times.{times_append}

module _ {A : Type 0} where
  pub starts_refl : (xs : List A) → StartsWith xs xs
  starts_refl xs = ([], sym (append-nil xs))

  pub starts_more : (xs ys zs : List A) → StartsWith xs ys → StartsWith (xs ++ zs) ys
  starts_more xs ys zs h = (h.0 ++ zs, ap (λ l. l ++ zs) h.1 ∙ append_assoc ys h.0 zs)

  pub shorter_starts : (n xs ys : List A) → StartsWith n xs → StartsWith n ys → length xs ≤ length ys → StartsWith ys xs
  shorter_starts n [] ys p q h = (ys, refl)
  shorter_starts n (x ∷ xs) [] p q h = absurd (omega arith)
  shorter_starts [] (x ∷ xs) (y ∷ ys) p q h = let e = p.1 in cc
  shorter_starts (m ∷ n) (x ∷ xs) (y ∷ ys) p q h =
      let ep = p.1 in
      let eq = q.1 in
      let tp : n ≡ xs ++ p.0 = cc in
      let tq : n ≡ ys ++ q.0 = cc in
      let e : y ≡ x = cc in
      let r = shorter_starts n xs ys (p.0, tp) (q.0, tq) (omega arith) in
      (r.0, λ i. e i ∷ r.1 i)

  either_starts : (b : Bool) (n xs ys : List A) → StartsWith n xs → StartsWith n ys → StartsWith n (cond b xs ys)
  either_starts true n xs ys p q = p
  either_starts false n xs ys p q = q

  -- the longer of two beginnings is one
  pub longer_starts : (n xs ys : List A) → StartsWith n xs → StartsWith n ys → StartsWith n (longer xs ys)
  longer_starts n xs ys p q = either_starts (nat_le (length ys) (length xs)) n xs ys p q

-- and has what the shorter one has

pub starts_times : (a : ℕ) (xs ys : List ℕ) → StartsWith xs ys → times a ys ≤ times a xs
starts_times a xs ys h = let e = ap (times a) h.1 in let t = times_append a ys h.0 in omega arith

squeezed : (a : ℕ) (n xs ys : List ℕ) → StartsWith n ys → StartsWith ys xs → times a xs ≡ times a n → times a ys ≡ times a n
squeezed a n xs ys q r e = let k = starts_times a n ys q in let l = starts_times a ys xs r in omega arith

le_true : (m n : ℕ) → nat_le m n ≡ true → m ≤ n
le_true m n e = grind (arith, nat_tests)

le_false : (m n : ℕ) → nat_le m n ≡ false → n < m
le_false m n e = grind (arith, nat_tests)

left_by : (b : Bool) (a : ℕ) (n xs ys : List ℕ) → nat_le (length ys) (length xs) ≡ b → StartsWith n xs → StartsWith n ys → times a xs ≡ times a n → times a (cond b xs ys) ≡ times a n
left_by true a n xs ys is p q e = e
left_by false a n xs ys is p q e = squeezed a n xs ys q (shorter_starts n xs ys p q (let l = le_false (length ys) (length xs) is in omega arith)) e

pub longer_left : (a : ℕ) (n xs ys : List ℕ) → StartsWith n xs → StartsWith n ys → times a xs ≡ times a n → times a (longer xs ys) ≡ times a n
longer_left a n xs ys p q e = left_by (nat_le (length ys) (length xs)) a n xs ys refl p q e

right_by : (b : Bool) (a : ℕ) (n xs ys : List ℕ) → nat_le (length ys) (length xs) ≡ b → StartsWith n xs → StartsWith n ys → times a ys ≡ times a n → times a (cond b xs ys) ≡ times a n
right_by true a n xs ys is p q e = squeezed a n ys xs p (shorter_starts n ys xs q p (le_true (length ys) (length xs) is)) e
right_by false a n xs ys is p q e = e

pub longer_right : (a : ℕ) (n xs ys : List ℕ) → StartsWith n xs → StartsWith n ys → times a ys ≡ times a n → times a (longer xs ys) ≡ times a n
longer_right a n xs ys p q e = right_by (nat_le (length ys) (length xs)) a n xs ys refl p q e
