-- The messages of one agent to another, along a run of the platform.
use Rattle.std.specs.Prelude.{ℕ, ◌≡◌, ◌-◌, nat_eq, ◌&&◌, if◌then◌else◌, List, [], ◌∷◌, ◌++◌, length, slice_get, filter, Option, None, Some}
use Rattle.std.specs.Option.{option_to_list}
use Rattle.mas_mind.specs.declared.mind.Message.{Message}
use Rattle.mas_mind.specs.declared.mind.Thought.{Thought}
use Rattle.mas_mind.specs.declared.mind.Thought.TheVariants.{Outs as Acts, Spent}
use Rattle.mas_mind.specs.Minds.{Kind, IsAgent}
use Rattle.mas_world.specs.Worlds.{World}
use Rattle.mas_board.specs.declared.seats.Phase.{Phase}
use Rattle.mas_board.specs.declared.seats.Phase.TheVariants.{Idle, Busy, Left as Gone}
use Rattle.mas_board.specs.declared.seats.Sensed.{Sensed}
use Rattle.mas_board.specs.declared.seats.Sensed.TheVariants.{Input as Given, Left}
use Rattle.mas_board.specs.Boards.{seat_at, box_of, sense, opening}
use Rattle.mas_core.specs.Platform.{Platform, turn, run, opening_platform}

-- ---- a turn

-- a busy agent posts the messages of its outs
abbrev pub messages_of : Option (Option Thought) → List Message
messages_of (Some (Some (Acts outs))) = outs.messages
messages_of (Some (Some Spent)) = []
messages_of (Some None) = []
messages_of None = []

abbrev pub posts_in : {V : Type 0} → Platform V → ℕ → Phase → List Message
posts_in p a Busy = messages_of (slice_get p.thoughts (a - 1))
posts_in p a Idle = []
posts_in p a (Gone end) = []

-- what the turn of an agent posts, in order
abbrev pub posts : {V : Type 0} → Platform V → ℕ → List Message
posts p a = posts_in p a (seat_at p.board a).phase

-- an idle agent takes the message of its input
abbrev pub message_of : Sensed → List Message
message_of (Given input) = option_to_list input.message
message_of (Left end) = []
message_of waits = []

abbrev pub takes_in : {V : Type 0} → Platform V → ℕ → Phase → List Message
takes_in p a Idle = message_of (sense p.board a).0
takes_in p a Busy = []
takes_in p a (Gone end) = []

-- what the turn of an agent takes
abbrev pub takes : {V : Type 0} → Platform V → ℕ → List Message
takes p a = takes_in p a (seat_at p.board a).phase

-- ---- a run

-- what the turns of a run give, one after another
abbrev pub and_along : {V : Type 0} → (Platform V → List Message) → Option (Platform V) → List Message
and_along f None = []
and_along f (Some q) = f q

abbrev pub along : {V : Type 0} → (Platform V → ℕ → List Message) → Kind V → Platform V → List ℕ → List Message
along f k p [] = []
along f k p (a ∷ names) = f p a ++ and_along (λ q. along f k q names) (turn k p a)

-- those of these messages that are from agent s to agent r
abbrev pub between : ℕ → ℕ → List Message → List Message
between s r messages = filter (λ m. nat_eq m.from s && nat_eq m.to r) messages

abbrev pub takes_as : {V : Type 0} → ℕ → Platform V → ℕ → List Message
takes_as r p a = if nat_eq a r then takes p a else []

-- the messages from s to r that are posted along a run
abbrev pub sent : {V : Type 0} → Kind V → Platform V → List ℕ → ℕ → ℕ → List Message
sent k p names s r = along (λ q a. between s r (posts q a)) k p names

-- those that r takes
abbrev pub taken : {V : Type 0} → Kind V → Platform V → List ℕ → ℕ → ℕ → List Message
taken k p names s r = along (λ q a. between s r (takes_as r q a)) k p names

-- those that lie in r's box
abbrev pub unread : {V : Type 0} → Platform V → ℕ → ℕ → List Message
unread p s r = between s r (box_of p.board.boxes r)

-- ---- the law

-- rule: what lay there and what was sent is what was taken and what lies there, in this order
abbrev pub MailInOrder : {V : Type 0} → Kind V → Type 0
MailInOrder {V} k =
    (p done : Platform V) (names : List ℕ) (s r : ℕ) → IsAgent (length p.board.boxes) r → run k p names ≡ Some done →
    unread p s r ++ sent k p names s r ≡ taken k p names s r ++ unread done s r

-- from the opening: what was sent is what was taken, and then what is not read yet
abbrev pub MailFromOpening : {V : Type 0} → Kind V → Type 0
MailFromOpening {V} k =
    (agents : List (List ℕ)) (w : World) (cycles lead : ℕ) (minds : List V) (done : Platform V) (names : List ℕ) (s r : ℕ) → IsAgent (length agents) r →
    let p = opening_platform (opening agents w cycles lead) minds in
    run k p names ≡ Some done → sent k p names s r ≡ taken k p names s r ++ unread done s r
