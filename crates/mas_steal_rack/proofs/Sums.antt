-- How often numbers stand in lists of agents.
use Rattle.std.proofs.Common.{◌≡◌, ℕ, ◌+◌, ◌<◌, List, [], ◌∷◌, ◌++◌, refl, ap, ◌∙◌, arith}
use Rattle.std.specs.Prelude.{map}
use Rattle.mas_board_lists.specs.Lists.{Each, times}
use Rattle.mas_board_lists.proofs.Sums.{each_map}
use Rattle.mas_board_lists.proofs.Times.{times_append, times_self}

pub map_append : {T : Type 0} (f : T → ℕ) (xs ys : List T) → map f (xs ++ ys) ≡ map f xs ++ map f ys
map_append f [] ys = refl
map_append f (x ∷ xs) ys = ap (λ l. f x ∷ l) (map_append f xs ys)

-- how often the numbers of two lists one after the other have a
pub times_both : {T : Type 0} (a : ℕ) (f : T → ℕ) (xs ys : List T) → times a (map f (xs ++ ys)) ≡ times a (map f xs) + times a (map f ys)
times_both a f xs ys = ap (times a) (map_append f xs ys) ∙ times_append a (map f xs) (map f ys)

-- a number stands at least once among those of a list that has it
pub each_counted : {T : Type 0} (f : T → ℕ) (xs : List T) → Each (λ x. 0 < times (f x) (map f xs)) xs
each_counted f [] = tt
each_counted f (x ∷ xs) = (
  let h = times_self (f x) in omega arith,
  each_map (λ y. 0 < times (f y) (map f xs)) (λ y. 0 < times (f y) (map f (x ∷ xs))) xs (λ y h. omega arith) (each_counted f xs),
)
