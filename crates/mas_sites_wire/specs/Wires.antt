-- A wire carries the messages of one agent to the other site. What was put on it is what was got from it and then what is
-- still on the way, in this order. One end at most may put, and knows what was put; one at most may get, and knows what was got.
use Rattle.std.specs.Prelude.{◌≡◌, ℕ, true, false, List, [], ◌∷◌, ◌++◌, length, slice_get, All, Option, None, Some}
use mathlib.Core.Option.{some}
use lib.ListN.{get_elem?}
use Rattle.mas_mind.specs.declared.mind.Message.{Message}
use Rattle.mas_mind.specs.Minds.{IsFrom}
use Rattle.mas_sites_wire.specs.declared.wire.Log.{Log}

-- ---- what an end knows

-- it may put and get
abbrev pub whole : ℕ → ℕ → List Message → List Message → Log
whole sender agents put got = record { sender = sender; agents = agents; puts = true; gets = true; put = put; got = got }

abbrev pub putting : ℕ → ℕ → List Message → Log
putting sender agents put = record { sender = sender; agents = agents; puts = true; gets = false; put = put; got = [] }

abbrev pub getting : ℕ → ℕ → List Message → Log
getting sender agents got = record { sender = sender; agents = agents; puts = false; gets = true; put = []; got = got }

-- it may do nothing
abbrev pub idle : Log
idle = record { sender = 0; agents = 0; puts = false; gets = false; put = []; got = [] }

-- the one end of a new wire
abbrev pub blank : Log
blank = whole 0 0 [] []

abbrev pub with_put : Log → Message → Log
with_put v m = record v { put = v.put ++ m ∷ [] }

abbrev pub with_got : Log → Message → Log
with_got v m = record v { got = v.got ++ m ∷ [] }

-- the oldest message that was put and not got
abbrev pub oldest : Log → Option Message
oldest v = slice_get v.put (length v.got)

-- ---- the rule

abbrev pub AreFrom : ℕ → ℕ → List Message → Type 0
AreFrom sender agents messages = All (IsFrom sender agents) messages

-- the end of this number is the one that puts, and knows what was put
pub record IsPutter (writer : ℕ) (put : List Message) (sender agents number : ℕ) (v : Log) : Type 0 where
  pub only : number ≡ writer
  pub all : v.put ≡ put
  pub of : v.sender ≡ sender
  pub to : v.agents ≡ agents

-- or the one that gets, and knows what was got
pub record IsGetter (reader : ℕ) (got : List Message) (sender agents number : ℕ) (v : Log) : Type 0 where
  pub only : number ≡ reader
  pub all : v.got ≡ got
  pub of : v.sender ≡ sender
  pub to : v.agents ≡ agents

pub record Knows (writer reader : ℕ) (put got : List Message) (sender agents number : ℕ) (v : Log) : Type 0 where
  pub puts : v.puts ≡ true → IsPutter writer put sender agents number v
  pub gets : v.gets ≡ true → IsGetter reader got sender agents number v

pub record IsWire (items : List Message) (views : List Log) : Type 0 where
  pub writer : ℕ
  pub reader : ℕ
  pub sender : ℕ
  pub agents : ℕ
  pub put : List Message
  pub got : List Message
  pub in_order : put ≡ got ++ items
  pub lawful : AreFrom sender agents put
  pub each : (number : ℕ) (v : Log) → get_elem? views number ≡ some v → Knows writer reader put got sender agents number v

-- ---- a message that was got, or none

-- it is from the sender to one of the agents; an end that also puts knows that it is the oldest
pub record HasGot (v : Log) (m : Message) (w : Log) : Type 0 where
  pub view : w ≡ with_got v m
  pub from : IsFrom v.sender v.agents m
  pub oldest : v.puts ≡ true → oldest v ≡ Some m

-- what an end that also puts knows of the messages that are on the way
abbrev pub IsLeft : Log → List Message → Type 0
IsLeft v items = v.puts ≡ true → v.put ≡ v.got ++ items

-- what an end knows after it asked for a message; where none was there, an end that also puts knows that all was got
abbrev pub HasAnswered : Log → Option Message → Log → Type 0
HasAnswered v (Some m) w = HasGot v m w
HasAnswered v None w = (w ≡ v) × (v.puts ≡ true → v.put ≡ v.got)
