-- A queue of numbered items: each of them waits in the queue, or one pass holds it. The passes share 64 parts, so that a
-- pass with all of them is the only one in use.
use Rattle.std.specs.Prelude.{◌≡◌, ℕ, ◌+◌, ◌-◌, ◌<◌, ◌≤◌, Some, List, [], ◌∷◌, ◌++◌, length, map, drop, slice_get}
use mathlib.Core.Option.{some}
use lib.ListN.{get_elem?}
use Rattle.mas_pool_ready.specs.declared.rule.ReadyView.{ReadyView}
use Rattle.mas_board_lists.specs.Lists.{Each, total, times, numbers_from}

-- ---- what a pass knows, and how each step changes it

module _ {T : Type 0} where
  abbrev pub hand : List ℕ → ℕ → List T → ReadyView T
  hand holds parts first = record { holds = holds; parts = parts; first = first }

  abbrev pub blank : ReadyView T
  blank = hand [] 64 []

  -- one more item was put at the opening
  abbrev pub grown : ReadyView T → T → ReadyView T
  grown v x = hand v.holds v.parts (v.first ++ x ∷ [])

  abbrev pub took : ReadyView T → ℕ → ReadyView T
  took v a = hand (a ∷ v.holds) v.parts v.first

  -- the item that was taken last is put back
  abbrev pub gave : ReadyView T → ReadyView T
  gave v = hand (drop 1 v.holds) v.parts v.first

  abbrev pub less : ReadyView T → ReadyView T
  less v = hand v.holds (v.parts - 1) v.first

  abbrev pub one_part : ReadyView T → ReadyView T
  one_part v = hand [] 1 v.first

  abbrev pub both_of : ReadyView T → ReadyView T → ReadyView T
  both_of v w = hand (v.holds ++ w.holds) (v.parts + w.parts) v.first

  abbrev pub spent : ReadyView T
  spent = hand [] 0 []

-- ---- the rule

abbrev pub numbers : {T : Type 0} → (T → ℕ) → List T → List ℕ
numbers number xs = map number xs

module _ {T : Type 0} (number : T → ℕ) (became : T → T → Type 0) where
  -- it became of the item that was put under its number at the opening
  pub record CameOf (first : List T) (x : T) : Type 0 where
    pub begun : T
    pub at : slice_get first (number x - 1) ≡ Some begun
    pub since : became begun x

  -- a pass without a part holds nothing; any other knows what was put at the opening
  pub record Knows (first : List T) (v : ReadyView T) : Type 0 where
    pub idle : v.parts ≡ 0 → v.holds ≡ []
    pub same : 0 < v.parts → v.first ≡ first

  pub record Holds (items : List T) (views : List (ReadyView T)) : Type 0 where
    pub first : List T
    -- each number stands once, among those that wait and those that are held
    pub once : (a : ℕ) → total (λ (v : ReadyView T). times a v.holds) views + times a (numbers number items) ≡ times a (numbers_from 1 (length first))
    pub waits : Each (CameOf first) items
    pub parts : total (λ (v : ReadyView T). v.parts) views ≡ 64
    pub knows : (pass : ℕ) (v : ReadyView T) → get_elem? views pass ≡ some v → Knows first v

  -- ---- what a step tells

  -- the item became of the one that was put under its number; no pass holds more than were put
  pub record Taken (v : ReadyView T) (x : T) (w : ReadyView T) : Type 0 where
    pub is : w ≡ took v (number x)
    pub came : CameOf v.first x
    pub few : length w.holds ≤ length v.first

  -- with all parts it holds all that do not wait
  abbrev pub Tells : ReadyView T → List T → Type 0
  Tells v items = v.parts ≡ 64 → (a : ℕ) → times a v.holds + times a (numbers number items) ≡ times a (numbers_from 1 (length v.first))

module _ {T : Type 0} where
  -- with all parts it holds all
  abbrev pub IsDry : ReadyView T → Type 0
  IsDry v = v.parts ≡ 64 → (a : ℕ) → times a v.holds ≡ times a (numbers_from 1 (length v.first))

  -- the item of this number was taken last
  pub record HasLast (v : ReadyView T) (a : ℕ) : Type 0 where
    pub rest : List ℕ
    pub holds : v.holds ≡ a ∷ rest
