-- Where a worker looks for an agent, and what it finds.
use Rattle.std.specs.Prelude.{◌≡◌, ℕ, ◌+◌, ◌<◌, ◌≤◌, nat_lt, not, if◌then◌else◌, IsTrue, IsFalse}
use Rattle.std.specs.Prelude.{Option, IfSome, IsSomeAnd, IsSome, IsNone, [], drop, vec_len, vec_capacity}
use Rattle.std.specs.VecDeque.{deque_len, deque_capacity}
use Rattle.mas_steal_rack.specs.declared.looks.Dry.{Dry}
use Rattle.mas_steal_rack.specs.declared.looks.Round.{Round}
use Rattle.mas_steal_rack.specs.declared.looks.Look.{Look}
use Rattle.mas_steal_rack.specs.declared.hand.Hand.{Hand}

-- the place behind this one, of so many, and round
abbrev pub behind : ℕ → ℕ → ℕ
behind place doors = (if nat_lt (place + 1) doors then place + 1 else 0)

-- it tells of the deque at this place
abbrev pub IsDryAt : ℕ → Dry → Type 0
IsDryAt place dry = dry.place ≡ place

-- it tells of each deque but the one at this place, of so many: of all that are behind it and round
pub record TellsOfOthers (place number : ℕ) (round : Round) : Type 0 where
  pub first : round.first ≡ place
  pub doors : round.doors ≡ number
  pub found : round.found + 1 ≡ number

module _ {T : Type 0} where
  -- its own deque, at this place, had no agent, nor had any other, each at a step of this look
  abbrev pub AllDry : ℕ → ℕ → Look T → Type 0
  AllDry place doors look = IsSomeAnd look.own (IsDryAt place) × IsSomeAnd look.others (TellsOfOthers place doors)

  -- whichever deques a look tells of, they are its own, at this place, and each other one
  abbrev pub Tells : ℕ → ℕ → Look T → Type 0
  Tells place doors look = IfSome look.own (IsDryAt place) × IfSome look.others (TellsOfOthers place doors)

module _ {T H : Type 0} where
  -- ---- room

  -- what its list has it can keep
  abbrev pub CanKeep : Hand T H → Type 0
  CanKeep h = deque_len h.list + vec_len h.kept ≤ vec_capacity h.kept

  -- it can take one more agent: its list has a free place, and the agent can be kept beside those of the list
  abbrev pub HasRoom : Hand T H → Type 0
  HasRoom h = (deque_len h.list < deque_capacity h.list) × (deque_len h.list + vec_len h.kept < vec_capacity h.kept)

  -- it can take so many agents
  abbrev pub HasRoomFor : ℕ → Hand T H → Type 0
  HasRoomFor agents h = (agents ≤ deque_capacity h.list) × (agents ≤ vec_capacity h.kept)

  -- a worker has nothing to do: its list is empty, and either it has no room for another agent, or its last look found none
  pub record IsOver (place doors : ℕ) (h : Hand T H) (look : Look T) : Type 0 where
    pub list : h.list.items ≡ []
    pub dry : HasRoom h → AllDry place doors look

  -- ---- the order of a look

  -- what is its own stays
  pub record OwnStays (old new : Hand T H) : Type 0 where
    pub own : new.own ≡ old.own
    pub list : new.list ≡ old.list
    pub turn : new.list_is_next ≡ old.list_is_next

  -- its list and its deque are first by turns: the other one is asked only where the first has none
  pub record TakesInTurn (old new : Hand T H) (own : Option Dry) : Type 0 where
    pub turn : new.list_is_next ≡ not old.list_is_next
    pub list_first : IsTrue old.list_is_next → 0 < deque_len old.list → (new.own ≡ old.own) × (new.list.items ≡ drop 1 old.list.items)
    pub deque_first : IsFalse old.list_is_next → IsNone own → new.list ≡ old.list

  -- it looks at what is its own first, and steals only where that has none
  pub record OwnFirst (old new : Hand T H) (look : Look T) : Type 0 where
    pub turns : TakesInTurn old new look.own
    pub deque : IsNone look.own → new.keys ≡ old.keys
    pub list : 0 < deque_len old.list → new.keys ≡ old.keys

  -- the others are first: it takes what is its own only where they have none
  pub record OthersFirst (old new : Hand T H) (look : Look T) : Type 0 where
    pub stolen : IsNone look.others → OwnStays old new
    pub turns : IsSome look.others → TakesInTurn old new look.own

  -- after an agent that was ahead the others are first, else what is its own
  pub record LooksInOrder (old new : Hand T H) (look : Look T) : Type 0 where
    pub ahead : IsTrue old.ahead → OthersFirst old new look
    pub own : IsFalse old.ahead → OwnFirst old new look
