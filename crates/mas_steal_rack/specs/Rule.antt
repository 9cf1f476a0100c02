-- The rule of a deque of agents.
use Rattle.std.specs.Prelude.{◌≡◌, ℕ, ◌+◌, ◌-◌, ◌<◌, ◌⊎◌, Option, Some, None, List, [], ◌∷◌, ◌++◌, map, IsSome, MatchOption}
use Rattle.mas_steal_rack.specs.declared.rule.DequeView.{DequeView}
use Rattle.mas_board_lists.specs.Lists.{Each, Every, total, times}

-- all parts of a deque: one for its owner, and one for each of at most 64 hands
abbrev pub whole : ℕ
whole = 65

module _ {H : Type 0} where
  abbrev pub view_of : List ℕ → List ℕ → ℕ → Option H → DequeView H
  view_of put got parts home = record { put = put; got = got; parts = parts; home = home }

  -- the view of a deque that nothing was put into
  abbrev pub blank : DequeView H
  blank = view_of [] [] whole None

  -- the view of a pass that was joined into another
  abbrev pub spent : DequeView H
  spent = view_of [] [] 0 None

  abbrev pub less : DequeView H → DequeView H
  less v = view_of v.put v.got (v.parts - 1) v.home

  abbrev pub one_part : DequeView H → DequeView H
  one_part v = view_of [] [] 1 v.home

  abbrev pub both_of : DequeView H → DequeView H → DequeView H
  both_of v w = view_of (v.put ++ w.put) (v.got ++ w.got) (v.parts + w.parts) v.home

  -- where one view has all parts, each agent that was put was got
  abbrev pub IsDry : DequeView H → Type 0
  IsDry v = v.parts ≡ whole → (a : ℕ) → times a v.put ≡ times a v.got

  -- a pass of a deque that was opened, which is not joined into another
  pub record IsOpen (v : DequeView H) : Type 0 where
    pub begun : IsSome v.home
    pub parts : 0 < v.parts

-- a view after agents were got
abbrev pub with_got : {T H : Type 0} → (T → ℕ) → DequeView H → List T → DequeView H
with_got number v xs = view_of v.put (v.got ++ map number xs) v.parts v.home

-- a view after agents were put. The first of all opens it
abbrev pub with_put : {T H : Type 0} → (T → ℕ) → (T → H) → DequeView H → List T → DequeView H
with_put number home_of v [] = v
with_put number home_of v (x ∷ xs) = view_of (v.put ++ map number (x ∷ xs)) v.got v.parts (Some (home_of x))

module _ {T H : Type 0} (number : T → ℕ) (home_of : T → H) (is_ready : T → Type 0) where
  -- an agent that waits is of this home
  pub record Waits (home : Option H) (x : T) : Type 0 where
    pub at : home ≡ Some (home_of x)
    pub ready : is_ready x

  -- agents were got, which wait; where the view has all parts, they were put and not got before
  pub record Taken (v : DequeView H) (xs : List T) (w : DequeView H) : Type 0 where
    pub is : w ≡ with_got number v xs
    pub waits : Each (Waits v.home) xs
    pub known : v.parts ≡ whole → Each (λ x. times (number x) v.got < times (number x) v.put) xs

  -- an agent was got, or none was there and nothing has changed
  abbrev pub Found : Option T → DequeView H → DequeView H → Type 0
  Found result v w = MatchOption result ((w ≡ v) × IsDry v) (λ x. Taken v (x ∷ []) w)

  -- a pass that was joined into another is blank, and each other one knows the home
  pub record Fits (home : Option H) (v : DequeView H) : Type 0 where
    pub spent : v.parts ≡ 0 → (v.put ≡ []) × (v.got ≡ [])
    pub same : 0 < v.parts → v.home ≡ home

  -- the rule of a deque that was opened
  pub record Opened (items : List T) (views : List (DequeView H)) : Type 0 where
    pub home : Option H
    pub begun : IsSome home
    -- the numbers put are, each as often, the numbers got and those of the items
    pub counts : (a : ℕ) → total (λ (v : DequeView H). times a v.put) views ≡ total (λ (v : DequeView H). times a v.got) views + times a (map number items)
    -- each item waits
    pub waits : Each (Waits home) items
    -- the parts of all views add up to the whole
    pub parts : total (λ (v : DequeView H). v.parts) views ≡ whole
    pub fits : Every (Fits home) views

  -- a deque is blank, or was opened by its first put
  abbrev pub Holds : List T → List (DequeView H) → Type 0
  Holds items views = ((items ≡ []) × (views ≡ blank ∷ [])) ⊎ Opened items views
