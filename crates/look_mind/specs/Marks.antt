-- The turns with which the cycles of failures began.
use Rattle.std.specs.Prelude.{ℕ, ◌≡◌, ◌≤◌, ◌<◌, ◌+◌, ◌-◌, ◌*◌, ◌^◌, nat_eq, nat_le, nat_lt, ◌&&◌, Bool, true, false, if◌then◌else◌}
use Rattle.std.specs.Prelude.{Option, None, Some, List, [], ◌∷◌, ◌++◌, All, length, get_or, slice_get, slice_set, unwrap_or}
use Rattle.look_lines.specs.declared.falls.FallLine.{FallLine}

abbrev pub is_digit : ℕ → Bool
is_digit b = nat_le 48 b && nat_le b 57

-- a number with one more digit, unless the byte is none or the number then has more than 63 bits
abbrev pub with_digit : ℕ → ℕ → Option ℕ
with_digit n b = if is_digit b && nat_lt (n * 10 + (b - 48)) (2 ^ 63) then Some (n * 10 + (b - 48)) else None

abbrev pub number_on : (ℕ → ℕ) → ℕ → Option ℕ → ℕ
number_on more n None = n
number_on more n (Some m) = more m

-- the number whose digits are at the front, behind those that are read
abbrev pub number_from : ℕ → List ℕ → ℕ
number_from n [] = n
number_from n (b ∷ bytes) = number_on (λ m. number_from m bytes) n (with_digit n b)

-- the cycle of a failure, which stands in front of its line
abbrev pub cycle_of : FallLine → ℕ
cycle_of f = number_from 0 f.line

-- the turn with which it began, of the turns of its agent: each cycle has two. 0 where there is none
abbrev pub turn_of : List ℕ → FallLine → ℕ
turn_of own f = unwrap_or (slice_get own ((cycle_of f - 1) * 2)) 0

-- ---- the turns of an agent, counted from 1, of which so many are read

abbrev pub own_from : ℕ → ℕ → List ℕ → List ℕ
own_from a t [] = []
own_from a t (b ∷ turns) = if nat_eq b a then (t + 1) ∷ own_from a (t + 1) turns else own_from a (t + 1) turns

-- of the agent at a place, counted from 0
abbrev pub own_turns : List ℕ → ℕ → List ℕ
own_turns turns k = own_from (k + 1) 0 turns

-- of so many agents
pub record AreOwn (turns : List ℕ) (agents : ℕ) (own : List (List ℕ)) : Type 0 where
  pub number : length own ≡ agents
  pub each : (k : ℕ) → k < agents → get_or own k [] ≡ own_turns turns k

-- one of these agents has one more turn
abbrev pub with_turn : List (List ℕ) → ℕ → ℕ → List (List ℕ)
with_turn own a t =
    if nat_le 1 a && nat_le a (length own) then slice_set own (a - 1) (get_or own (a - 1) [] ++ t ∷ []) else own

-- at a place; none where no agent has it
abbrev pub turns_at : List (List ℕ) → ℕ → List ℕ
turns_at own k = unwrap_or (slice_get own k) []

-- ---- the marks

-- a turn is marked, where there is one
abbrev pub IsMarked : List Bool → ℕ → Type 0
IsMarked marks turn = 1 ≤ turn → turn ≤ length marks → get_or marks (turn - 1) false ≡ true

-- as many as before, and each that was marked is
pub record Grows (old new : List Bool) : Type 0 where
  pub number : length new ≡ length old
  pub kept : (turn : ℕ) → IsMarked old turn → IsMarked new turn

-- this turn is marked too
pub record Marks (old new : List Bool) (turn : ℕ) : Type 0 where
  pub grows : Grows old new
  pub marked : IsMarked new turn

-- and that with which the cycle of each of an agent's failures began
pub record MarksAll (old new : List Bool) (own : List ℕ) (falls : List FallLine) : Type 0 where
  pub grows : Grows old new
  pub marked : All (λ f. IsMarked new (turn_of own f)) falls

-- of so many turns those with which the cycles of the failures of each agent began
pub record AreMarked (own : List (List ℕ)) (all : List (List FallLine)) (turns : ℕ) (marks : List Bool) : Type 0 where
  pub number : length marks ≡ turns
  pub each : (k : ℕ) (d : List FallLine) → k < length all → All (λ f. IsMarked marks (turn_of (turns_at own k) f)) (get_or all k d)
