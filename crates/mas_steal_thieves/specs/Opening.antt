-- How the deques of all workers are opened and the agents are dealt.
use Rattle.std.specs.declared.alloc.Global.{Global}
use Rattle.std.specs.Prelude.{◌≡◌, ℕ, ◌+◌, ◌-◌, ◌*◌, ◌<◌, ◌≤◌, Option, Some, List, [], map, length, IsSome, slice_get}
use Rattle.crossbeam_deque.specs.declared.handles.Worker.{Worker}
use Rattle.std.specs.declared.vec.Vec.{Vec}
use Rattle.crossbeam_deque.specs.declared.handles.Stealer.{Stealer}
use Rattle.crossbeam_deque.specs.Handles.{Pass, view, IsPassOf, stealer_deque, stealer_flavor}
use Rattle.crossbeam_deque.specs.Handles.{worker_deque, worker_flavor, worker_view, worker_index, worker_capacity}
use Rattle.mas_steal_rack.specs.declared.rule.DequeView.{DequeView}
use Rattle.mas_steal_rack.specs.declared.rule.DequeRule.{DequeRule}
use Rattle.mas_board_lists.specs.Lists.{Each, times}
use Rattle.mas_steal_rack.specs.declared.hand.Hand.{Hand}
use Rattle.mas_steal_rack.specs.Rule.{whole, view_of, one_part}
use Rattle.mas_steal_rack.specs.Hands.{Both}
use Rattle.mas_steal_rack.specs.Racks.{first_home}
use Rattle.mas_steal_thieves.specs.Closing.{owners_put, owners_got}

-- a view with all parts, which got each agent that it put
pub record IsStarted {H : Type 0} (home : Option H) (v : DequeView H) : Type 0 where
  pub home_is : v.home ≡ home
  pub begun : IsSome home
  pub parts : v.parts ≡ whole
  pub settled : (a : ℕ) → times a v.put ≡ times a v.got

module _ {T H A P : Type 0} where
  -- an owner with so many parts
  pub record Has (parts : ℕ) (home : Option H) (own : Worker T A (DequeView H) P) : Type 0 where
    pub fifo : worker_flavor own ≡ 0
    pub home_is : (worker_view own).home ≡ home
    pub begun : IsSome home
    pub parts_are : (worker_view own).parts ≡ parts

  -- the deque has room for so many more agents
  abbrev pub HasRoom : ℕ → Worker T A (DequeView H) P → Type 0
  HasRoom room own = worker_index own + room ≤ worker_capacity own

  -- the agents that left the rest were put into the deque: a block, or all that were left
  pub record Deals (number : T → ℕ) (block : ℕ) (old new : Worker T A (DequeView H) P) (before after : List T) : Type 0 where
    pub counts : (a : ℕ) → times a (worker_view new).put + times a (map number after) ≡ times a (worker_view old).put + times a (map number before)
    pub got : (worker_view new).got ≡ (worker_view old).got
    pub left : length after ≡ length before - block

  -- the same of all deques
  pub record DealsAll (number : T → ℕ) (block : ℕ) (olds news : List (Worker T A (DequeView H) P)) (before after : List T) : Type 0 where
    pub counts : (a : ℕ) → owners_put a news + times a (map number after) ≡ owners_put a olds + times a (map number before)
    pub got : (a : ℕ) → owners_got a news ≡ owners_got a olds
    pub number_is : length news ≡ length olds
    pub left : length after ≡ length before - length olds * block

  -- as many deques, each opened with an agent that was got again, with room for a block
  pub record Opens (home : Option H) (workers block : ℕ) (owners : List (Worker T A (DequeView H) P)) : Type 0 where
    pub number_is : length owners ≡ workers
    pub has : Each (λ (w : Worker T A (DequeView H) P). Has whole home w) owners
    pub room : Each (λ (w : Worker T A (DequeView H) P). HasRoom block w) owners
    pub settled : (a : ℕ) → owners_put a owners ≡ owners_got a owners

  -- ---- doors and keys

  -- the door of this owner's deque
  pub record IsDoorOf (own : Worker T A (DequeView H) P) (door : Stealer T A (DequeView H) P) : Type 0 where
    pub deque : stealer_deque door ≡ worker_deque own
    pub flavor : stealer_flavor door ≡ worker_flavor own

  -- an owner of a deque that was opened, from which so many parts can be cut
  pub record CanCut (n : ℕ) (own : Worker T A (DequeView H) P) : Type 0 where
    pub begun : IsSome (worker_view own).home
    pub parts : n < (worker_view own).parts

  -- so many parts were cut off
  pub record HasCut (n : ℕ) (old new : Worker T A (DequeView H) P) : Type 0 where
    pub deque : worker_deque new ≡ worker_deque old
    pub flavor : worker_flavor new ≡ worker_flavor old
    pub view_is : worker_view new ≡ view_of (worker_view old).put (worker_view old).got ((worker_view old).parts - n) (worker_view old).home

  -- a key that was cut off this owner's parts
  pub record IsCutOff (own : Worker T A (DequeView H) P) (key : Pass T (DequeView H) A) : Type 0 where
    pub deque : IsPassOf (worker_deque own) key
    pub view_is : view {V = DequeView H} key ≡ one_part (worker_view own)

  -- a key of each of these deques, in order
  abbrev pub IsRow : {G : Type 0} → List (Worker T A (DequeView H) P) → Vec (Pass T (DequeView H) A) G → Type 0
  IsRow owners row = Both (λ (w : Worker T A (DequeView H) P) (k : Pass T (DequeView H) A). IsCutOff w k) owners row.items

-- a worker's own end of its deque
abbrev pub Owner : Type 0 → Type 0 → Type 0
Owner T H = Worker T Global (DequeView H) (DequeRule T)

module _ {T H : Type 0} where
  -- the hand of this owner, one of these, before its worker works
  pub record IsHandFor (owners : List (Owner T H)) (own : Owner T H) (h : Hand T H) : Type 0 where
    pub place : h.place < length owners
    pub at : slice_get (map worker_deque owners) h.place ≡ Some (worker_deque own)
    pub own_is : h.own ≡ own
    pub keys : IsRow owners h.keys
    pub list : h.list.items ≡ []
    pub kept : h.kept.items ≡ []

module _ {T H A P : Type 0} (number : T → ℕ) (home_of : T → H) where
  -- the deques in which these agents were dealt
  pub record AreDealt (agents : List T) (workers : ℕ) (owners : List (Worker T A (DequeView H) P)) : Type 0 where
    pub number_is : length owners ≡ workers
    pub has : Each (λ (w : Worker T A (DequeView H) P). Has whole (first_home home_of agents) w) owners
    pub counts : (a : ℕ) → owners_put a owners ≡ owners_got a owners + times a (map number agents)
