-- Boxes of messages, which are counted from 1.
use Rattle.std.specs.Prelude.{◌≡◌, ◌≢◌, ◌+◌, ◌-◌, ℕ, List, [], length, slice_get, Option, Some, None}
use Rattle.std.specs.List.{AllByRecursion}
use Rattle.asl_term.specs.Spare.{WithSpare}
use Rattle.mas_mind.specs.declared.mind.Message.{Message}

abbrev pub list_in : Option (WithSpare Message) → List Message
list_in (Some b) = b.list
list_in None = []

abbrev pub spare_in : Option (WithSpare Message) → ℕ
spare_in (Some b) = b.spare
spare_in None = 0

-- the messages in a box, the oldest first
abbrev pub messages : List (WithSpare Message) → ℕ → List Message
messages boxes a = list_in (slice_get boxes (a - 1))

-- the free places of a box
abbrev pub spare : List (WithSpare Message) → ℕ → ℕ
spare boxes a = spare_in (slice_get boxes (a - 1))

abbrev pub AreEmpty : List (WithSpare Message) → Type 0
AreEmpty boxes = (k : ℕ) → list_in (slice_get boxes k) ≡ []

-- every box but this one stays
pub record OthersStay (a : ℕ) (old new : List (WithSpare Message)) : Type 0 where
  pub number : length new ≡ length old
  pub stay : (k : ℕ) → k ≢ a - 1 → slice_get new k ≡ slice_get old k

-- a message to this agent
abbrev pub IsTo : ℕ → Message → Type 0
IsTo a m = m.to ≡ a

-- each message is to the agent of its box
pub record IsPost (boxes : List (WithSpare Message)) : Type 0 where
  pub addressed : (k : ℕ) → AllByRecursion (IsTo (k + 1)) (list_in (slice_get boxes k))
