-- Lists of lines without others: a step of each loop, and what is left.
use Rattle.std.proofs.Common.{◌≡◌, ℕ, suc, ◌+◌, ◌-◌, ◌<◌, Bool, true, false, not, if◌then◌else◌, List, [], ◌∷◌, length, get_or, take, drop, map, refl, sym, ap, ◌∙◌, arith}
use Rattle.std.specs.Str.{bytes_eq}
use Rattle.std.proofs.lemmas.List.{drop_more, drop-map, take_rest}
use Rattle.std.proofs.lemmas.Slice.Eq.{bytes_eq-Decides}
use Rattle.look_lines.specs.Differences.{without, minus, times, LeavesTheRest, IsPart, KeepsOrder}
use Rattle.look_lines.specs.Differences.IsPart.{nothing, kept, past}

-- ---- texts that are equal

same_by : (l line : List ℕ) → bytes_eq l line ≡ true → l ≡ line
same_by l line e = (bytes_eq-Decides l line).0 e

true_not_false : {b : Bool} → b ≡ true → b ≡ false → ⊥
true_not_false e f = cc

-- ---- a common front

out_of : (next line : List ℕ) (rest : List (List ℕ)) → bytes_eq next line ≡ true → without line (next ∷ rest) ≡ rest
out_of next line rest e = ap (λ x. if x then rest else next ∷ without line rest) e

from_there : {X : Type 0} (f : X → List ℕ) (xs : List X) (at : ℕ) (d : X) → at < length xs → drop at (map f xs) ≡ f (get_or xs at d) ∷ drop (at + 1) (map f xs)
from_there f xs at d less =
    drop-map f at xs ∙ ap (map f) (drop_more xs at d less) ∙ ap (λ ys. f (get_or xs at d) ∷ ys) (sym (drop-map f (at + 1) xs))

not_false : (b : Bool) → not b ≡ false → b ≡ true
not_false true e = refl
not_false false e = cc

pub both_go_on : {X : Type 0} (f : X → List ℕ) (xs ys : List X) (at : ℕ) (d e : X) → at < length xs → at < length ys →
    not (bytes_eq (f (get_or xs at d)) (f (get_or ys at e))) ≡ false → minus (drop at (map f xs)) (drop at (map f ys)) ≡ minus (map f xs) (map f ys) →
    minus (drop (at + 1) (map f xs)) (drop (at + 1) (map f ys)) ≡ minus (map f xs) (map f ys)
both_go_on f xs ys at d e less lower same so_far =
    let x = f (get_or xs at d) in
    let y = f (get_or ys at e) in
    let x_is_y : bytes_eq x y ≡ true = not_false (bytes_eq x y) same in
    sym (ap (λ a. minus a (drop at (map f ys))) (from_there f xs at d less) ∙ ap (λ b. minus (x ∷ drop (at + 1) (map f xs)) b) (from_there f ys at e lower)
    ∙ ap (λ a. minus a (drop (at + 1) (map f ys))) (out_of x y (drop (at + 1) (map f xs)) x_is_y)) ∙ so_far

-- what is left at first, and the others that are to come
pub behind_front : {X : Type 0} (f : X → List ℕ) (xs ys : List X) (n : ℕ) (left : List X) → left ≡ take (length xs - n) (drop n xs) →
    minus (drop n (map f xs)) (drop n (map f ys)) ≡ minus (map f xs) (map f ys) →
    minus (map f left) (map f (take (length ys - n) (drop n ys))) ≡ minus (map f xs) (map f ys)
behind_front f xs ys n left e same =
    ap (λ a. minus (map f a) (map f (take (length ys - n) (drop n ys)))) (e ∙ take_rest xs n) ∙ ap (λ b. minus (map f (drop n xs)) (map f b)) (take_rest ys n)
    ∙ ap (λ a. minus a (map f (drop n ys))) (sym (drop-map f n xs)) ∙ ap (λ b. minus (drop n (map f xs)) b) (sym (drop-map f n ys)) ∙ same

-- ---- what is left

module _ (line other : List ℕ) where
  -- the first line is taken out
  at_first : (l : List ℕ) (t : ℕ) → l ≡ other → t ≡ (if bytes_eq l line then suc t else t) - (if bytes_eq other line then 1 else 0)
  at_first l t e = go (bytes_eq l line) (bytes_eq other line) (ap (λ x. bytes_eq x line) e) where
    go : (b c : Bool) → b ≡ c → t ≡ (if b then suc t else t) - (if c then 1 else 0)
    go true true e = omega arith
    go false false e = omega arith
    go true false e = cc
    go false true e = cc

  -- it is not that one
  at_later : (l : List ℕ) (t : ℕ) → bytes_eq l other ≡ false →
      (if bytes_eq l line then suc (t - (if bytes_eq other line then 1 else 0)) else t - (if bytes_eq other line then 1 else 0))
      ≡ (if bytes_eq l line then suc t else t) - (if bytes_eq other line then 1 else 0)
  at_later l t differs = go (bytes_eq l line) (bytes_eq other line) refl refl where
    go : (b c : Bool) → bytes_eq l line ≡ b → bytes_eq other line ≡ c →
        (if b then suc (t - (if c then 1 else 0)) else t - (if c then 1 else 0)) ≡ (if b then suc t else t) - (if c then 1 else 0)
    go true true e f = absurd (true_not_false ((bytes_eq-Decides l other).1 (same_by l line e ∙ sym (same_by other line f))) differs)
    go true false e f = omega arith
    go false c e f = refl

  times_without : (lines : List (List ℕ)) → times line (without other lines) ≡ times line lines - (if bytes_eq other line then 1 else 0)
  times_without [] = omega arith
  times_without (l ∷ ls) = go (bytes_eq l other) refl (times_without ls) where
    go : (b : Bool) → bytes_eq l other ≡ b → times line (without other ls) ≡ times line ls - (if bytes_eq other line then 1 else 0) →
        times line (if b then ls else l ∷ without other ls) ≡ (if bytes_eq l line then suc (times line ls) else times line ls) - (if bytes_eq other line then 1 else 0)
    go true e so_far = at_first l (times line ls) (same_by l other e)
    go false e so_far =
        ap (λ t. if bytes_eq l line then suc t else t) so_far ∙ at_later l (times line ls) e

fewer : (b : Bool) (n m : ℕ) → (n - (if b then 1 else 0)) - m ≡ n - (if b then suc m else m)
fewer true n m = omega arith
fewer false n m = omega arith

pub leaves_the_rest : LeavesTheRest
leaves_the_rest lines [] line = omega arith
leaves_the_rest lines (other ∷ others) line =
    leaves_the_rest (without other lines) others line ∙ ap (λ t. t - times line others) (times_without line other lines)
    ∙ fewer (bytes_eq other line) (times line lines) (times line others)

all_kept : (lines : List (List ℕ)) → IsPart lines lines
all_kept [] = nothing
all_kept (l ∷ ls) = kept l ls ls (all_kept ls)

one_fewer : (other : List ℕ) (lines : List (List ℕ)) → IsPart (without other lines) lines
one_fewer other [] = nothing
one_fewer other (l ∷ ls) = go (bytes_eq l other) (one_fewer other ls) where
  go : (b : Bool) → IsPart (without other ls) ls → IsPart (if b then ls else l ∷ without other ls) (l ∷ ls)
  go true p = past l ls ls (all_kept ls)
  go false p = kept l (without other ls) ls p

part_of_part : {a b c : List (List ℕ)} → IsPart a b → IsPart b c → IsPart a c
part_of_part p nothing = p
part_of_part (kept l a b p) (kept m some all q) = kept l a all (part_of_part p q)
part_of_part (past l a b p) (kept m some all q) = past l a all (part_of_part p q)
part_of_part p (past l b all q) = past l _ all (part_of_part p q)

pub keeps_order : KeepsOrder
keeps_order lines [] = all_kept lines
keeps_order lines (other ∷ others) =
    part_of_part (keeps_order (without other lines) others) (one_fewer other lines)
