-- Substitutions one after another, with an index of the variables that they bind.
use Rattle.std.specs.Prelude.{◌≡◌, ◌<◌, ◌≤◌, ◌+◌, ℕ, suc, List, [], ◌∷◌, ◌++◌, length, drop, take, Some, None}
use Rattle.std.specs.List.{slice_get}
use Rattle.asl_term.specs.declared.syntax.Var.{Var}
use Rattle.asl_unify.specs.declared.subst.Pair.{Pair}
use Rattle.asl_unify.specs.declared.log.Index.{Index}
use Rattle.asl_unify.specs.Compare.{find}
use Rattle.asl_unify.specs.inner.Slots.{AreFirst}

-- those from one number to another do not bind the variable
abbrev pub PassesBy : List (List Pair) → Var → ℕ → ℕ → Type 0
PassesBy log x from end = (k : ℕ) (s : List Pair) → from ≤ k → k < end → slice_get log k ≡ Some s → find s x ≡ None

-- some of the first do not bind the variable, and the rest stands behind them
pub record IsNext (log : List (List Pair)) (x : Var) (rest : List (List Pair)) : Type 0 where
  pub skipped : ℕ
  pub parts : drop skipped log ≡ rest
  pub free : PassesBy log x 0 skipped

-- all pairs, in order
abbrev pub all_pairs : List (List Pair) → List Pair
all_pairs [] = []
all_pairs (s ∷ log) = s ++ all_pairs log

abbrev pub same_numbers : ℕ → List Pair → List ℕ
same_numbers k [] = []
same_numbers k (p ∷ s) = k ∷ same_numbers k s

-- for each pair the number of its substitution, where the first has number k
abbrev pub numbers : ℕ → List (List Pair) → List ℕ
numbers k [] = []
numbers k (s ∷ log) = same_numbers k s ++ numbers (suc k) log

-- how many pairs the first k substitutions have
abbrev pub start : List (List Pair) → ℕ → ℕ
start log k = length (all_pairs (take k log))

-- there is a pair i of the substitution k
abbrev pub IsPair : List (List Pair) → ℕ → ℕ → Type 0
IsPair log k i = (s : List Pair) × (slice_get log k ≡ Some s) × (i < length s)

-- the first n pairs are in the index
abbrev pub HasPairs : List (List Pair) → ℕ → Index → Type 0
HasPairs log n t = AreFirst (all_pairs log) n t.slots × (t.of.items ≡ take n (numbers 0 log))

-- those of the first k substitutions are, and i of the next
abbrev pub HasFirst : List (List Pair) → ℕ → ℕ → Index → Type 0
HasFirst log k i t = HasPairs log (start log k + i) t

abbrev pub HasAll : List (List Pair) → Index → Type 0
HasAll log t = HasPairs log (length (all_pairs log)) t
