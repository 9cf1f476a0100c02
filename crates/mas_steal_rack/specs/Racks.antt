-- The deques of all workers: how they are opened, what all workers did, and that each agent comes back once.
use Rattle.std.specs.Prelude.{◌≡◌, ℕ, ◌+◌, ◌<◌, Option, Some, None, List, [], ◌∷◌, ◌++◌, map, length, slice_index_or}
use Rattle.crossbeam_deque.specs.Handles.{worker_deque, stealer_deque}
use Rattle.mas_steal_rack.specs.declared.hand.Hand.{Hand}
use Rattle.mas_steal_rack.specs.declared.hand.Rack.{Rack}
use Rattle.mas_board_lists.specs.Lists.{Each, total, times}
use Rattle.mas_steal_rack.specs.Rule.{Waits}
use Rattle.mas_steal_rack.specs.Hands.{IsHandOf, Worked, hand_home, puts_of, gets_of}
use Rattle.mas_steal_rack.specs.Looks.{HasRoomFor}

-- the home of the first agent
abbrev pub first_home : {T H : Type 0} → (T → H) → List T → Option H
first_home home_of [] = None
first_home home_of (x ∷ xs) = Some (home_of x)

-- all agents that these hands kept
abbrev pub all_kept : {T H : Type 0} → List (Hand T H) → List T
all_kept [] = []
all_kept (h ∷ hs) = h.kept.items ++ all_kept hs

module _ {T H : Type 0} (number : T → ℕ) (home_of : T → H) (is_ready : T → Type 0) where
  -- all wait, and are of one home
  abbrev pub AllWait : List T → Type 0
  AllWait xs = Each (Waits number home_of is_ready (first_home home_of xs)) xs

  -- a hand of this rack before its worker works
  pub record IsFresh (home : Option H) (rack : Rack T H) (h : Hand T H) : Type 0 where
    pub hand : IsHandOf number home_of is_ready rack h
    pub home_is : hand_home h ≡ home
    pub list : h.list.items ≡ []
    pub kept : h.kept.items ≡ []

  -- the agents lie in the deques of this rack, each once, and each hand has room for all of them
  pub record Dealt (agents : List T) (rack : Rack T H) (hands : List (Hand T H)) : Type 0 where
    pub number_is : length hands ≡ length rack.doors.items
    pub some : 0 < length hands
    pub order : map (λ (h : Hand T H). worker_deque h.own) hands ≡ map stealer_deque rack.doors.items
    pub fresh : Each (IsFresh (first_home home_of agents) rack) hands
    pub room : Each (HasRoomFor (length agents)) hands
    pub counts : (a : ℕ) → total (puts_of a) hands ≡ total (gets_of a) hands + times a (map number agents)

  -- the hands of a rack after all workers, in order
  pub record IsWorked (home : Option H) (rack : Rack T H) (hands : List (Hand T H)) : Type 0 where
    pub order : map (λ (h : Hand T H). worker_deque h.own) hands ≡ map stealer_deque rack.doors.items
    pub hands_are : Each (IsHandOf number home_of is_ready rack) hands
    pub homes : Each (λ (h : Hand T H). hand_home h ≡ home) hands
    pub lists : Each (λ (h : Hand T H). h.list.items ≡ []) hands

  -- what one worker did, which still has a hand of this rack
  pub record Done (has_ended : T → Type 0) (rack : Rack T H) (old new : Hand T H) : Type 0 where
    pub hand : IsHandOf number home_of is_ready rack new
    pub worked : Worked number has_ended old new

  -- what all workers did
  abbrev pub AllWorked : (T → Type 0) → Rack T H → List (Hand T H) → List (Hand T H) → Type 0
  AllWorked has_ended rack olds news = (i : ℕ) (d : Hand T H) → i < length olds → Done has_ended rack (slice_index_or olds i d) (slice_index_or news i d)

module _ {T H : Type 0} (number : T → ℕ) where
  -- of hands whose keys were joined and whose deques were emptied: what they put is what they got, and what was left
  pub record Closed (hands : List (Hand T H)) (kept left : List T) : Type 0 where
    pub kept_is : kept ≡ all_kept hands
    pub counts : (a : ℕ) → total (puts_of a) hands ≡ total (gets_of a) hands + times a (map number left)

-- each agent came back once, and has ended
pub record Answered {T : Type 0} (number : T → ℕ) (has_ended : T → Type 0) (agents answered : List T) : Type 0 where
  pub once : (a : ℕ) → times a (map number answered) ≡ times a (map number agents)
  pub ended : Each has_ended answered
