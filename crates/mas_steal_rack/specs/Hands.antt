-- What a worker's hand has put and got over all deques.
use Rattle.std.specs.Prelude.{◌≡◌, ℕ, ◌+◌, ◌<◌, Option, Some, None, Result, Ok, Err, IsSome, MatchOption, MatchResult}
use Rattle.std.specs.Prelude.{List, [], ◌∷◌, ◌++◌, map, length, slice_get}
use Rattle.crossbeam_deque.specs.Handles.{Pass, view, IsPassOf, stealer_deque, stealer_flavor, worker_deque, worker_flavor, worker_view, worker_index}
use Rattle.crossbeam_deque.specs.declared.handles.Stealer.{Stealer}
use Rattle.crossbeam_deque.specs.declared.handles.Worker.{Worker}
use Rattle.mas_steal_rack.specs.declared.rule.DequeView.{DequeView}
use Rattle.mas_steal_rack.specs.declared.hand.Hand.{Hand}
use Rattle.mas_steal_rack.specs.declared.hand.Rack.{Rack}
use Rattle.mas_board_lists.specs.Lists.{Each, total, times}
use Rattle.mas_steal_rack.specs.Rule.{whole, Waits, with_put}
use Rattle.mas_steal_rack.specs.Turns.{MatchTurned}
use Rattle.mas_steal_rack.specs.declared.turns.AgentTurned.{AgentTurned}

-- the two lists are as long, and what stands at one place goes together
abbrev pub Both : {A B : Type 0} → (A → B → Type 0) → List A → List B → Type 0
Both P [] [] = Unit {0}
Both P [] (y ∷ ys) = ⊥
Both P (x ∷ xs) [] = ⊥
Both P (x ∷ xs) (y ∷ ys) = P x y × Both P xs ys

-- a pass of the deque behind this door, with one part, which knows the home
pub record IsKeyOf {T H A P : Type 0} (home : Option H) (door : Stealer T A (DequeView H) P) (key : Pass T (DequeView H) A) : Type 0 where
  pub door_is : IsPassOf (stealer_deque door) key
  pub fifo : stealer_flavor door ≡ 0
  pub home_is : (view key).home ≡ home
  pub parts : (view key).parts ≡ 1

-- how often these keys put a number, and how often they got it
abbrev pub keys_put : {T H A : Type 0} → ℕ → List (Pass T (DequeView H) A) → ℕ
keys_put {T} {H} {A} a keys = total (λ (k : Pass T (DequeView H) A). times a (view {V = DequeView H} k).put) keys

abbrev pub keys_got : {T H A : Type 0} → ℕ → List (Pass T (DequeView H) A) → ℕ
keys_got {T} {H} {A} a keys = total (λ (k : Pass T (DequeView H) A). times a (view {V = DequeView H} k).got) keys

-- the agent, if there is one
abbrev pub agent_of : {T E : Type 0} → Result T E → Option T
agent_of (Ok x) = Some x
agent_of (Err e) = None

-- an agent was put last, or it comes back and nothing has changed
abbrev pub Pushed : {T H A P : Type 0} → (T → ℕ) → (T → H) → Result (Unit {0}) T → T → Worker T A (DequeView H) P → Worker T A (DequeView H) P → Type 0
Pushed number home_of result x old new =
    MatchResult result
    (λ _. (worker_view new ≡ with_put number home_of (worker_view old) (x ∷ [])) × (worker_index new ≡ worker_index old + 1))
    (λ y. (y ≡ x) × (worker_view new ≡ worker_view old) × (worker_index new ≡ worker_index old))

module _ {T H : Type 0} where
  -- what the owner knows
  abbrev pub own_view : Hand T H → DequeView H
  own_view h = worker_view h.own

  -- the home of a hand's agents
  abbrev pub hand_home : Hand T H → Option H
  hand_home h = (own_view h).home

  -- how often a hand put a number, over all deques
  abbrev pub puts_of : ℕ → Hand T H → ℕ
  puts_of a h = times a (own_view h).put + keys_put a h.keys.items

  -- how often it got the number
  abbrev pub gets_of : ℕ → Hand T H → ℕ
  gets_of a h = times a (own_view h).got + keys_got a h.keys.items

module _ {T H : Type 0} (number : T → ℕ) where
  -- how often the number stands in its list
  abbrev pub listed : ℕ → Hand T H → ℕ
  listed a h = times a (map number h.list.items)

  -- a hand got the numbers that it put, those that its list gained, and those that left it, in exchange for those that came
  pub record Moved (old new : Hand T H) (came left : List ℕ) : Type 0 where
    pub place : new.place ≡ old.place
    pub home : hand_home new ≡ hand_home old
    pub kept : new.kept ≡ old.kept
    pub counts : (a : ℕ) → gets_of a new + puts_of a old + listed a old + times a came ≡ gets_of a old + puts_of a new + listed a new + times a left

  -- it keeps one agent more, and nothing else has changed
  pub record Keeps (x : T) (old new : Hand T H) : Type 0 where
    pub place : new.place ≡ old.place
    pub own : new.own ≡ old.own
    pub keys : new.keys ≡ old.keys
    pub list : new.list ≡ old.list
    pub kept : new.kept.items ≡ old.kept.items ++ x ∷ []

  -- an agent that goes on is put back, and one that has ended is kept
  abbrev pub Settled : AgentTurned T → Hand T H → Hand T H → Type 0
  Settled turned old new = MatchTurned turned (λ x. Moved old new (number x ∷ []) []) (λ x. Moved old new (number x ∷ []) []) (λ x. Keeps x old new)

module _ {T H : Type 0} (number : T → ℕ) (home_of : T → H) (is_ready : T → Type 0) where
  -- a hand of this rack: it owns the deque at its place, and has a key to each
  pub record IsHandOf (rack : Rack T H) (h : Hand T H) : Type 0 where
    pub place : h.place < length rack.doors.items
    pub own : slice_get (map stealer_deque rack.doors.items) h.place ≡ Some (worker_deque h.own)
    pub fifo : worker_flavor h.own ≡ 0
    pub begun : IsSome (hand_home h)
    pub parts : (own_view h).parts + length rack.doors.items ≡ whole
    pub few : length rack.doors.items < whole
    pub keys : Both (IsKeyOf (hand_home h)) rack.doors.items h.keys.items
    pub list : Each (Waits number home_of is_ready (hand_home h)) h.list.items

  -- nothing was found, or an agent that waits left the hand
  abbrev pub Took : Option T → Hand T H → Hand T H → Type 0
  Took result old new =
      MatchOption result (Moved number old new [] []) (λ x. Waits number home_of is_ready (hand_home old) x × Moved number old new [] (number x ∷ []))

-- between two moments of a call: what a hand has got is what it put, what its list gained and what it kept
pub record Working {T H : Type 0} (number : T → ℕ) (has_ended : T → Type 0) (old new : Hand T H) : Type 0 where
  pub place : new.place ≡ old.place
  pub home : hand_home new ≡ hand_home old
  pub counts : (a : ℕ) → gets_of a new + puts_of a old ≡ gets_of a old + puts_of a new + listed number a new + times a (map number new.kept.items)
  pub ended : Each has_ended new.kept.items

-- after the call: the agents that it got are those that it put and those that it kept, which have ended
pub record Worked {T H : Type 0} (number : T → ℕ) (has_ended : T → Type 0) (old new : Hand T H) : Type 0 where
  pub place : new.place ≡ old.place
  pub home : hand_home new ≡ hand_home old
  pub counts : (a : ℕ) → gets_of a new + puts_of a old ≡ gets_of a old + puts_of a new + times a (map number new.kept.items)
  pub ended : Each has_ended new.kept.items
  pub list : new.list.items ≡ []
