-- What always holds of a site during its run, and a cycle of one of its minds.
use Rattle.std.specs.Prelude.{ℕ, ◌≡◌, ◌-◌, ◌<◌, true, IfSome, List, length, slice_set, Option, Some}
use Rattle.mas_mind.specs.Limits.{most_cycles}
use Rattle.mas_mind.specs.declared.mind.Input.{Input}
use Rattle.mas_mind.specs.declared.mind.Message.{Message}
use Rattle.mas_mind.specs.declared.mind.Thought.{Thought}
use Rattle.mas_mind.specs.Minds.{Kind, IsAgent, IsFor, are_ground}
use Rattle.mas_board.specs.declared.seats.Phase.TheVariants.{Idle}
use Rattle.mas_board.specs.declared.seats.AgentPlace.{AgentPlace}
use Rattle.mas_board.specs.Boards.{Noted, seat_of}
use Rattle.mas_core.specs.Fits.{AllFit, IsPlay, HasThought}
use Rattle.mas_sites_stand.specs.declared.seated.Seated.{Seated}
use Rattle.mas_sites_stand.specs.Seats.{seated}
use Rattle.mas_sites_scripts.specs.Scripts.{Script}
use Rattle.mas_sites_scripts.specs.Giving.{Placed, IsGiven}

-- a list of entries for each mind, and what holds of a board with minds and thoughts
pub record IsStage {V : Type 0} (k : Kind V) (b : Noted) (minds : List (Seated V)) (thoughts : List (Option Thought)) (scripts : List Script) : Type 0 where
  pub number : length scripts ≡ length minds
  pub play : IsPlay (seated k) b minds thoughts

-- the mind of an idle agent may make a cycle on the input of its Sense
pub record MayCycle {V : Type 0} (k : Kind V) (old : Placed V) (thoughts : List (Option Thought)) (a : ℕ) (input : Input) : Type 0 where
  pub seats : List AgentPlace
  pub fit : AllFit (seated k) seats old.minds thoughts
  pub number : length old.scripts ≡ length old.minds
  pub agent : IsAgent (length seats) a
  pub idle : (seat_of seats a).phase ≡ Idle
  pub short : (seat_of seats a).cycle < most_cycles
  pub percepts : are_ground input.percepts ≡ true
  pub message : IfSome input.message (IsFor a (length seats))

-- it was given what came from the other site, and made one
pub record HasCycled {V C : Type 0} (k : Kind V) (got : C → ℕ → Option Message → C → Type 0) (put : C → Message → C → Type 0)
    (from to : C) (old new : Placed V) (was now : List (Option Thought)) (a : ℕ) (input : Input) : Type 0 where
  pub after : Placed V
  pub given : IsGiven got put from to old after a input.message
  pub scripts : new.scripts ≡ after.scripts
  pub thought : Thought
  pub thinks : HasThought (seated k) after.minds new.minds a input thought
  pub thoughts : now ≡ slice_set was (a - 1) (Some thought)
