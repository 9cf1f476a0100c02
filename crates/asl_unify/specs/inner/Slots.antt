-- The slots of bound variables: a number for each variable, and for each number the pairs of its variables.
use Rattle.std.specs.Prelude.{◌≡◌, ◌<◌, ℕ, zero, suc, eqb, ◌+◌, ◌*◌, ◌%◌, Bool, false, List, [], ◌∷◌, length, Option, Some, None, cond, slice_index_or}
use Rattle.std.specs.List.{slice_get}
use Rattle.asl_term.specs.declared.syntax.Var.{Var}
use Rattle.asl_unify.specs.declared.subst.Pair.{Pair}
use Rattle.asl_unify.specs.declared.slots.Slots.{Slots}

-- one number of two
abbrev pub mix : ℕ → ℕ → ℕ
mix a b = a % 4294967296 * 31 + b

abbrev pub mixed : ℕ → List ℕ → ℕ
mixed n [] = n
mixed n (b ∷ bs) = mixed (mix n b) bs

-- the slot of a variable among so many
abbrev pub slot : ℕ → Var → ℕ
slot count x = mixed x.number x.name % count

-- whether there is a pair, and its variable is in slot j
abbrev pub in_slot : (Var → ℕ) → ℕ → Option Pair → Bool
in_slot f j (Some p) = eqb (f p.var) j
in_slot f j None = false

-- the place behind the last of the first n pairs whose variable is in slot j, or 0
abbrev pub top : (Var → ℕ) → ℕ → List Pair → ℕ → ℕ
top f j s zero = 0
top f j s (suc n) = cond (in_slot f j (slice_get s n)) (suc n) (top f j s n)

-- the first n pairs are in their slots
pub record AreIn (f : Var → ℕ) (count : ℕ) (s : List Pair) (n : ℕ) (last before : List ℕ) : Type 0 where
  pub slots : length last ≡ count
  pub pairs : length before ≡ n
  -- for each slot the place behind its last pair
  pub tops : (j : ℕ) → j < count → slice_index_or last j 0 ≡ top f j s n
  -- for each pair the place behind the one before it in its slot
  pub links : (k : ℕ) (p : Pair) → k < n → slice_get s k ≡ Some p → slice_index_or before k 0 ≡ top f (f p.var) s k

abbrev pub AreSlots : List Pair → ℕ → List ℕ → List ℕ → Type 0
AreSlots s n last before = (0 < length last) × AreIn (slot (length last)) (length last) s n last before

abbrev pub AreFirst : List Pair → ℕ → Slots → Type 0
AreFirst s n t = AreSlots s n t.last.items t.before.items

-- all pairs are in their slots
abbrev pub ArePlaced : List Pair → Slots → Type 0
ArePlaced s t = AreFirst s (length s) t
