-- How the deques of all workers are closed.
use Rattle.std.specs.Prelude.{◌≡◌, ℕ, ◌+◌, ◌≤◌, Option, List, [], ◌∷◌, map, IsSome}
use Rattle.std.specs.declared.vec.Vec.{Vec}
use Rattle.crossbeam_deque.specs.declared.handles.Worker.{Worker}
use Rattle.crossbeam_deque.specs.Handles.{Pass, view, IsPassOf, worker_deque, worker_flavor, worker_view}
use Rattle.mas_steal_rack.specs.declared.rule.DequeView.{DequeView}
use Rattle.mas_board_lists.specs.Lists.{Each, total, times}
use Rattle.mas_steal_rack.specs.Rule.{whole, IsOpen}
use Rattle.mas_steal_rack.specs.Hands.{keys_put, keys_got}

-- what stands at one place goes together; the second list may be shorter
abbrev pub Beside : {A B : Type 0} → (A → B → Type 0) → List A → List B → Type 0
Beside P xs [] = Unit {0}
Beside P [] (y ∷ ys) = ⊥
Beside P (x ∷ xs) (y ∷ ys) = P x y × Beside P xs ys

abbrev pub keys_parts : {T H A : Type 0} → List (Pass T (DequeView H) A) → ℕ
keys_parts {T} {H} {A} keys = total (λ (k : Pass T (DequeView H) A). (view {V = DequeView H} k).parts) keys

module _ {T H A P : Type 0} where
  -- an owner of a deque that was opened
  pub record IsOpenOwner (own : Worker T A (DequeView H) P) : Type 0 where
    pub fifo : worker_flavor own ≡ 0
    pub opened : IsOpen (worker_view own)
    pub most : (worker_view own).parts ≤ whole

  -- an owner with all parts
  pub record IsWhole (home : Option H) (own : Worker T A (DequeView H) P) : Type 0 where
    pub fifo : worker_flavor own ≡ 0
    pub home_is : (worker_view own).home ≡ home
    pub begun : IsSome home
    pub parts : (worker_view own).parts ≡ whole

  -- sums over owners, and over keys
  abbrev pub owners_put : ℕ → List (Worker T A (DequeView H) P) → ℕ
  owners_put a owners = total (λ (w : Worker T A (DequeView H) P). times a (worker_view w).put) owners

  abbrev pub owners_got : ℕ → List (Worker T A (DequeView H) P) → ℕ
  owners_got a owners = total (λ (w : Worker T A (DequeView H) P). times a (worker_view w).got) owners

  abbrev pub owners_parts : List (Worker T A (DequeView H) P) → ℕ
  owners_parts owners = total (λ (w : Worker T A (DequeView H) P). (worker_view w).parts) owners

  -- the keys are of the first of these deques, in order
  abbrev pub Fit : List (Worker T A (DequeView H) P) → List (Pass T (DequeView H) A) → Type 0
  Fit owners keys = Beside (λ d (k : Pass T (DequeView H) A). IsPassOf d k) (map worker_deque owners) keys

  -- the owners keep their deques and homes, and are open
  pub record SameOwners (olds news : List (Worker T A (DequeView H) P)) : Type 0 where
    pub deques : map worker_deque news ≡ map worker_deque olds
    pub homes : map (λ (w : Worker T A (DequeView H) P). (worker_view w).home) news ≡ map (λ (w : Worker T A (DequeView H) P). (worker_view w).home) olds
    pub are_open : Each (λ (w : Worker T A (DequeView H) P). IsOpenOwner w) news

  -- the owners have the views of these keys too
  pub record Joins (olds : List (Worker T A (DequeView H) P)) (keys : List (Pass T (DequeView H) A)) (news : List (Worker T A (DequeView H) P)) : Type 0 where
    pub same : SameOwners olds news
    pub put : (a : ℕ) → owners_put a news ≡ owners_put a olds + keys_put a keys
    pub got : (a : ℕ) → owners_got a news ≡ owners_got a olds + keys_got a keys
    pub parts : owners_parts news ≡ owners_parts olds + keys_parts keys

  -- the same of the keys of all hands
  abbrev pub AllFit : {G : Type 0} → List (Worker T A (DequeView H) P) → List (Vec (Pass T (DequeView H) A) G) → Type 0
  AllFit {G} owners rows = Each (λ (r : Vec (Pass T (DequeView H) A) G). Fit owners r.items) rows

  pub record JoinsAll {G : Type 0} (olds : List (Worker T A (DequeView H) P)) (rows : List (Vec (Pass T (DequeView H) A) G))
      (news : List (Worker T A (DequeView H) P)) : Type 0 where
    pub same : SameOwners olds news
    pub put : (a : ℕ) → owners_put a news ≡ owners_put a olds + total (λ (r : Vec (Pass T (DequeView H) A) G). keys_put a r.items) rows
    pub got : (a : ℕ) → owners_got a news ≡ owners_got a olds + total (λ (r : Vec (Pass T (DequeView H) A) G). keys_got a r.items) rows
    pub parts : owners_parts news ≡ owners_parts olds + total (λ (r : Vec (Pass T (DequeView H) A) G). keys_parts r.items) rows

-- what is left has gained the agents that were put and not got
abbrev pub Drains : {T H : Type 0} → (T → ℕ) → DequeView H → List T → List T → Type 0
Drains number v before after = (a : ℕ) → times a v.put + times a (map number before) ≡ times a v.got + times a (map number after)

-- the same of all deques
abbrev pub DrainsAll : {T H A P : Type 0} → (T → ℕ) → List (Worker T A (DequeView H) P) → List T → Type 0
DrainsAll number owners left = (a : ℕ) → owners_put a owners ≡ owners_got a owners + times a (map number left)
