-- Items in the order of their numbers.
use Rattle.std.specs.Prelude.{ℕ, ◌≡◌, ◌+◌, ◌<◌, List, length, Option, Some, slice_get}
use Rattle.std.specs.List.{Contains}
use Rattle.mas_board_lists.specs.Lists.{Each, numbers_from}
use Rattle.mas_pool_ready.specs.Rule.{numbers}

module _ {T : Type 0} (number : T → ℕ) where
  -- at this place stands an item of this number, of which P holds
  pub record StandsAt (P : T → Type 0) (shelf : List (Option T)) (n i : ℕ) : Type 0 where
    pub item : T
    pub at : slice_get shelf i ≡ Some (Some item)
    pub number_is : number item ≡ n
    pub has : P item

  -- so many places, from 1 on, at each of which stands one of the items, which has the number of the place
  pub record AreShelved (count : ℕ) (items : List T) (shelf : List (Option T)) : Type 0 where
    pub size : length shelf ≡ count
    pub each : (i : ℕ) → i < count → StandsAt (Contains items) shelf (1 + i) i

  -- some of the items, which have the numbers from 1 to the count, in order
  pub record AreInOrder (count : ℕ) (items row : List T) : Type 0 where
    pub numbers_are : numbers number row ≡ numbers_from 1 count
    pub among : Each (Contains items) row
