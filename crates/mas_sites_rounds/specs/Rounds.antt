-- The rounds of a site: in each of them all agents that have not left make their go, in order, which is a Sense, and an Emit
-- or a Leave where the Sense gave an input.
use Rattle.std.specs.Prelude.{ℕ, zero, suc, ◌≡◌, ◌+◌, ◌≤◌, ◌<◌, ◌⊎◌, true, false, length, replicate, List, [], Option, Some}
use Rattle.mas_mind.specs.declared.mind.Message.{Message}
use Rattle.mas_mind.specs.Minds.{Kind, IsAgent}
use Rattle.mas_board.specs.Boards.{seat_at, is_gone}
use Rattle.mas_core.specs.Rounds.{IsSized, Waits}
use Rattle.mas_sites_scripts.specs.Sites.{Sited, Turned, IsAlong, GoesAlong, KeepsUsedUp, opened, Before, After, IsClosed, RanWhole}
use Rattle.mas_sites_scripts.specs.Ways.{HasGot, HasPut}
use Rattle.mas_sites_scripts.specs.Meeting.{Meeting, meet, have_ended}
use Rattle.mas_sites_rounds.specs.Between.{AreApart, IsTallied, ArrivesInOrder}

-- ---- one agent's go; got and put are what passes between the site and the other one

-- one that has left makes none
pub record HasNoGo {V C : Type 0} (from to : C) (old new : Sited V) (a : ℕ) : Type 0 where
  pub gone : is_gone (seat_at old.platform.board a).phase ≡ true
  pub same : new ≡ old
  pub carrier : to ≡ from

-- one turn, with which it leaves
pub record WentOnce {V C : Type 0} (k : Kind V) (got : C → ℕ → Option Message → C → Type 0) (put : C → Message → C → Type 0)
    (from to : C) (old new : Sited V) (a : ℕ) : Type 0 where
  pub here : is_gone (seat_at old.platform.board a).phase ≡ false
  pub turn : Turned k got put from to old new a
  pub over : is_gone (seat_at new.platform.board a).phase ≡ true

-- or two
pub record WentTwice {V C : Type 0} (k : Kind V) (got : C → ℕ → Option Message → C → Type 0) (put : C → Message → C → Type 0)
    (from to : C) (old new : Sited V) (a : ℕ) : Type 0 where
  pub here : is_gone (seat_at old.platform.board a).phase ≡ false
  pub middle : Sited V
  pub between : C
  pub first : Turned k got put from between old middle a
  pub stays : is_gone (seat_at middle.platform.board a).phase ≡ false
  pub second : Turned k got put between to middle new a

pub record Went {V C : Type 0} (k : Kind V) (got : C → ℕ → Option Message → C → Type 0) (put : C → Message → C → Type 0)
    (from to : C) (old new : Sited V) (a : ℕ) : Type 0 where
  pub way : HasNoGo from to old new a ⊎ (WentOnce k got put from to old new a ⊎ WentTwice k got put from to old new a)
  pub along : GoesAlong k old new

-- ---- rounds

-- the goes of the first n agents, in order
abbrev pub Goes : {V C : Type 0} → Kind V → (C → ℕ → Option Message → C → Type 0) → (C → Message → C → Type 0) →
    ℕ → C → C → Sited V → Sited V → Type 0
Goes k got put zero from to old new = (new ≡ old) × (to ≡ from)
Goes {V} {C} k got put (suc n) from to old new =
    (middle : Sited V) × ((between : C) × (Goes k got put n from between old middle × Went k got put between to middle new (n + 1)))

-- a round at the cycle c, after the goes of the first i agents: each that has not left is idle, these at the cycle c + 1 and the
-- others at c
pub record InRound {V : Type 0} (limit c i : ℕ) (now : Sited V) : Type 0 where
  pub sized : IsSized limit now.platform
  pub went : (a : ℕ) → IsAgent (length now.platform.board.seats) a → a ≤ i → Waits limit (c + 1) (seat_at now.platform.board a)
  pub waits : (a : ℕ) → IsAgent (length now.platform.board.seats) a → i < a → Waits limit c (seat_at now.platform.board a)

-- a round may begin
abbrev pub MayRound : {V : Type 0} → Sited V → Type 0
MayRound now = (limit : ℕ) × ((c : ℕ) × InRound limit c 0 now)

-- ---- two sites on one thread

abbrev pub met : {V : Type 0} → Sited V → Sited V → List (List Message) → Meeting V
met one two ways = record { one = one; two = two; ways = ways }

-- the sites may make a round each
pub record MayMeet {V : Type 0} (m : Meeting V) : Type 0 where
  pub one : MayRound m.one
  pub two : MayRound m.two
  pub ways_one : length m.ways ≡ length m.one.platform.board.seats
  pub ways_two : length m.ways ≡ length m.two.platform.board.seats

-- site 1 made a round, and then site 2
pub record HasGoneOn {V : Type 0} (k : Kind V) (old new : Meeting V) : Type 0 where
  pub between : List (List Message)
  pub first : Goes k HasGot HasPut (length old.one.platform.board.seats) old.ways between old.one new.one
  pub second : Goes k HasGot HasPut (length old.two.platform.board.seats) between new.ways old.two new.two
  pub number : length new.ways ≡ length old.ways

-- two sites that have made no round
pub record IsOpening {V : Type 0} (m : Meeting V) : Type 0 where
  pub one : InRound m.one.platform.board.cycles 0 0 m.one
  pub two : InRound m.two.platform.board.cycles 0 0 m.two
  pub ways_one : length m.ways ≡ length m.one.platform.board.seats
  pub ways_two : length m.ways ≡ length m.two.platform.board.seats

-- from the one state to the other within n rounds
abbrev pub HasMet : {V : Type 0} → Kind V → ℕ → Meeting V → Meeting V → Type 0
HasMet k n first now = (j : ℕ) → meet k (n + j) first ≡ meet k j now

-- of each agent: what the stands at its site took of it is what came to the other site, and then what is on the way
pub record AreTallied {V : Type 0} (k : Kind V) (first second : Before V) (m : Meeting V) : Type 0 where
  pub one : IsTallied k first m.one m.two m.ways
  pub two : IsTallied k second m.two m.one m.ways
  pub number : length m.ways ≡ length first.minds

-- which rounds keep, from every opening
abbrev pub KeepsTally : {V : Type 0} → Kind V → Meeting V → Meeting V → Type 0
KeepsTally {V} k first now =
    (one two : Before V) → IsAlong k one.board one.minds first.one → IsAlong k two.board two.minds first.two → AreApart one.minds two.minds →
    AreTallied k one two first → AreTallied k one two now

-- two sites after c rounds of both
pub record IsMeeting {V : Type 0} (k : Kind V) (first now : Meeting V) (c : ℕ) : Type 0 where
  pub one : InRound first.one.platform.board.cycles c 0 now.one
  pub two : InRound first.two.platform.board.cycles c 0 now.two
  pub met : HasMet k c first now
  pub along_one : GoesAlong k first.one now.one
  pub along_two : GoesAlong k first.two now.two
  pub used_one : KeepsUsedUp first.one now.one
  pub used_two : KeepsUsedUp first.two now.two
  pub tally : KeepsTally k first now
  pub ways_one : length now.ways ≡ length now.one.platform.board.seats
  pub ways_two : length now.ways ≡ length now.two.platform.board.seats

-- what the runs of two sites come to that make their rounds in turns, from their opening, with what is then left on the way:
-- the last state of the fold
pub record RanInTurns {V : Type 0} (k : Kind V) (first second : Before V) (done_one done_two : After V) (left : List (List Message)) : Type 0 where
  pub one : RanWhole k first done_one
  pub two : RanWhole k second done_two
  pub rounds : ℕ
  pub last : Meeting V
  pub fold : meet k rounds (met (opened first.board first.minds) (opened second.board second.minds) (replicate (length first.minds) [])) ≡ Some last
  pub is_one : IsClosed last.one done_one
  pub is_two : IsClosed last.two done_two
  pub left_is : left ≡ last.ways
  pub in_order_one : ArrivesInOrder k first done_one done_two left
  pub in_order_two : ArrivesInOrder k second done_two done_one left

-- two sites whose turns are those of the fold, until both have ended
pub record HaveMet {V : Type 0} (k : Kind V) (first last : Meeting V) : Type 0 where
  pub rounds : ℕ
  pub met : meet k rounds first ≡ Some last
  pub ended : have_ended last ≡ true
  pub along_one : GoesAlong k first.one last.one
  pub along_two : GoesAlong k first.two last.two
  pub used_one : KeepsUsedUp first.one last.one
  pub used_two : KeepsUsedUp first.two last.two
  pub tally : KeepsTally k first last
