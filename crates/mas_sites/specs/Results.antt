-- What the runs of two sites give back.
use Rattle.std.specs.Prelude.{ℕ, zero, suc, ◌≡◌, ◌+◌, ◌-◌, ◌<◌, ◌^◌, Bool, true, false, List, [], ◌∷◌, ◌++◌, length, replicate, slice_get, Some}
use Rattle.std.specs.List.{flat_map}
use Rattle.mas_mind.specs.declared.mind.Message.{Message}
use Rattle.mas_mind.specs.Minds.{Kind, IsAgent}
use Rattle.mas_board.specs.Boards.{Noted, box_of}
use Rattle.mas_core_laws.specs.Mail as mail
use Rattle.mas_sites_stand.specs.declared.seated.Seated.{Seated}
use Rattle.mas_sites_stand.specs.Seats.{seated}
use Rattle.mas_sites_scripts.specs.Scripts.{Script as ScriptEntries}
use Rattle.mas_sites_scripts.specs.Giving.{is_own}
use Rattle.mas_sites_scripts.specs.Sites.{Before, After, after, opened, opening_with, IsClosed, RanWhole}
use Rattle.mas_sites_scripts.specs.Meeting.{Meeting, meet, have_ended}
use Rattle.mas_sites_rounds.specs.Between.{those_of, taken_of, messages_in, script_of}
use Rattle.mas_sites_rounds.specs.Rounds.{met}
use Rattle.mas_sites.specs.declared.met.Script.{Script}

-- ---- the scripts of stands, and what is left on the way

-- an agent that lives at the site has none
abbrev pub script_at : ℕ → ℕ → Bool → ScriptEntries → List Script
script_at site agent true entries = []
script_at site agent false entries = record { site = site; agent = agent; entries = entries } ∷ []

-- those of the stands of a site, by agent, from this number on
abbrev pub scripts_from : {V : Type 0} → ℕ → ℕ → List (Seated V) → List ScriptEntries → List Script
scripts_from site a minds [] = []
scripts_from site a minds (entries ∷ more) = script_at site a (is_own (slice_get minds (a - 1))) entries ++ scripts_from site (a + 1) minds more

-- entries for each of few minds
pub record AreListed {V : Type 0} (minds : List (Seated V)) (scripts : List ScriptEntries) : Type 0 where
  pub number : length scripts ≡ length minds
  pub few : length minds < 2 ^ 16

-- those of site 1, and then of site 2
abbrev pub all_scripts : {V : Type 0} → List (Seated V) → List ScriptEntries → List (Seated V) → List ScriptEntries → List Script
all_scripts one of_one two of_two = scripts_from 1 1 one of_one ++ scripts_from 2 1 two of_two

-- by sender and place
abbrev pub all_left : List (List Message) → List Message
all_left ways = flat_map (λ way. way) ways

-- of so many senders, from this number on: those of the one, and then those of the next
abbrev pub senders_from : ℕ → ℕ → List Message → List Message
senders_from a zero left = []
senders_from a (suc n) left = those_of a left ++ senders_from (a + 1) n left

-- those of agent 1, then those of agent 2, and so on to agent n, and no others
abbrev pub in_turn : ℕ → List Message → List Message
in_turn n left = senders_from 1 n left

-- ---- what arrives of an agent

-- the messages from y to an agent x of the other site: those that x's stand at y's site took are those in the script of y's
-- stand, and then those that are left on the way; those that y posted are those that x's stand took, and then those in its box
pub record ArrivesTo {V : Type 0} (k : Kind V) (near : Before V) (done : After V) (script : ScriptEntries) (left : List Message) (y x : ℕ) : Type 0 where
  pub came : mail.taken (seated k) (opening_with near.board near.minds done.scripts) done.board.schedule y x
      ≡ mail.between y x (messages_in script) ++ mail.between y x left
  pub posted : mail.sent (seated k) (opening_with near.board near.minds done.scripts) done.board.schedule y x
      ≡ mail.taken (seated k) (opening_with near.board near.minds done.scripts) done.board.schedule y x ++ mail.between y x (box_of done.board.state.boxes x)

-- of each agent y that lives at the site: what the stands there took of y, in the order of their Senses, is what is in the
-- script of y's stand at the other site, and then what is left on the way
pub record Arrives {V : Type 0} (k : Kind V) (near : Before V) (done : After V) (other : List ScriptEntries) (left : List Message) : Type 0 where
  pub in_order : (y : ℕ) → IsAgent (length near.minds) y → is_own (slice_get near.minds (y - 1)) ≡ true →
      taken_of k y (opening_with near.board near.minds done.scripts) done.board.schedule ≡ messages_in (script_of other y) ++ those_of y left
  pub as_sent : (y x : ℕ) → IsAgent (length near.minds) y → IsAgent (length near.minds) x → is_own (slice_get near.minds (y - 1)) ≡ true →
      is_own (slice_get near.minds (x - 1)) ≡ false → ArrivesTo k near done (script_of other y) left y x

-- ---- whole runs

-- a site in the end
pub record Ended (V : Type 0) : Type 0 where
  pub board : Noted
  pub minds : List (Seated V)

abbrev pub ended : {V : Type 0} → Noted → List (Seated V) → Ended V
ended board minds = record { board = board; minds = minds }

abbrev pub closed : {V : Type 0} → Ended V → List ScriptEntries → After V
closed e scripts = after e.board e.minds scripts

-- on any number of threads: each site ran along its own schedule until all had left, from the opening state in which each stand has
-- its whole script, which its cycles used up; what each agent sent to the other site arrives there in order, and what is left on
-- the way stands by sender
pub record HaveRun {V : Type 0} (k : Kind V) (first second : Before V) (one two : Ended V) (scripts : List Script) (between : List Message) : Type 0 where
  pub of_one : List ScriptEntries
  pub of_two : List ScriptEntries
  pub scripts_are : scripts ≡ all_scripts first.minds of_one second.minds of_two
  pub one_ran : RanWhole k first (closed one of_one)
  pub two_ran : RanWhole k second (closed two of_two)
  pub from_one : Arrives k first (closed one of_one) of_two between
  pub from_two : Arrives k second (closed two of_two) of_one between
  pub by_sender : between ≡ in_turn (length first.minds) between

-- on one thread: this is the last state of the fold
pub record IsFold {V : Type 0} (k : Kind V) (first second : Before V) (one two : Ended V) (scripts : List Script) (between : List Message) : Type 0 where
  pub rounds : ℕ
  pub last : Meeting V
  pub fold : meet k rounds (met (opened first.board first.minds) (opened second.board second.minds) (replicate (length first.minds) [])) ≡ Some last
  pub over : have_ended last ≡ true
  pub one_is : IsClosed last.one (closed one last.one.scripts)
  pub two_is : IsClosed last.two (closed two last.two.scripts)
  pub scripts_are : scripts ≡ all_scripts first.minds last.one.scripts second.minds last.two.scripts
  pub between_are : between ≡ all_left last.ways
