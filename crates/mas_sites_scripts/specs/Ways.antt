-- The messages on the way between two sites that make their rounds in turns: of each agent those that it sent, the oldest first.
use Rattle.std.specs.Prelude.{ℕ, ◌≡◌, ◌-◌, List, [], ◌∷◌, ◌++◌, length, All, Option}
use Rattle.mas_mind.specs.declared.mind.Message.{Message}
use Rattle.mas_mind.specs.Minds.{IsAgent, IsFrom}
use Rattle.mas_board.specs.Boards.{box_of, oldest, later}
use Rattle.mas_sites_scripts.specs.Scripts.{change}

-- behind the others of its sender
abbrev pub put_last : Message → List Message → List Message
put_last m box = box ++ m ∷ []

abbrev pub with_put : List (List Message) → Message → List (List Message)
with_put ways m = change (m.from - 1) (put_last m) ways

abbrev pub without_oldest : List (List Message) → ℕ → List (List Message)
without_oldest ways a = change (a - 1) later ways

abbrev pub HasPut : List (List Message) → Message → List (List Message) → Type 0
HasPut old m new = new ≡ with_put old m

-- the oldest comes, or none where none is on the way
pub record HasGot (old : List (List Message)) (a : ℕ) (m : Option Message) (new : List (List Message)) : Type 0 where
  pub message : m ≡ oldest (box_of old a)
  pub rest : new ≡ without_oldest old a

-- each message is from the agent whose way it is on, to one of the agents
pub record AreWays (ways : List (List Message)) : Type 0 where
  pub each : (a : ℕ) → IsAgent (length ways) a → All (IsFrom a (length ways)) (box_of ways a)
