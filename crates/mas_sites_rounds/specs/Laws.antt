-- Laws of the rounds of sites, over any meaning V of the agents' own minds.
use Rattle.std.specs.Prelude.{ℕ, ◌≡◌, ◌-◌, false, List, length, slice_get, Some}
use Rattle.mas_mind.specs.declared.mind.Message.{Message}
use Rattle.mas_mind.specs.declared.mind.End.TheVariants.{Quiet}
use Rattle.mas_mind.specs.Minds.{Kind, IsAgent}
use Rattle.mas_world.specs.Worlds.{World}
use Rattle.mas_board.specs.declared.seats.Phase.TheVariants.{Left as Gone}
use Rattle.mas_board.specs.Boards.{State, seat_at, is_gone, all_quiet, opening}
use Rattle.mas_core.specs.Platform.{Platform, run, opening_platform}
use Rattle.mas_sites_stand.specs.declared.seated.Seated.{Seated}
use Rattle.mas_sites_stand.specs.declared.seated.Seated.TheVariants.{Stand}
use Rattle.mas_sites_stand.specs.Stands.{Standing}
use Rattle.mas_sites_stand.specs.Seats.{seated}
use Rattle.mas_sites_scripts.specs.Sites.{Sited, Before, IsAlong}
use Rattle.mas_sites_scripts.specs.Ways.{HasGot, HasPut}
use Rattle.mas_sites_scripts.specs.Meeting.{Meeting, goes}
use Rattle.mas_sites_rounds.specs.Between.{AreApart}
use Rattle.mas_sites_rounds.specs.Rounds.{Goes, HasGoneOn, AreTallied}

-- with what is on the way between the sites in lists, the goes of the first n agents are those of the fold
abbrev pub RoundsFold : {V : Type 0} → Kind V → Type 0
RoundsFold {V} k =
    (n : ℕ) (from to : List (List Message)) (old new : Sited V) → Goes k HasGot HasPut n from to old new →
    goes k 1 n (record { site = old; ways = from }) ≡ Some (record { site = new; ways = to })

-- a round of both sites keeps the tally, from every opening
abbrev pub RoundsKeepTally : {V : Type 0} → Kind V → Type 0
RoundsKeepTally {V} k =
    (one two : Before V) (old new : Meeting V) → IsAlong k one.board one.minds old.one → IsAlong k two.board two.minds old.two → AreApart one.minds two.minds →
    HasGoneOn k old new → AreTallied k one two old → AreTallied k one two new

-- the stand in the place of this agent has not ended for quiet, and as long as it has not left nobody else can
pub record NeverQuiet (board : State) (a : ℕ) : Type 0 where
  pub stand : ¬ ((seat_at board a).phase ≡ Gone Quiet)
  pub others : is_gone (seat_at board a).phase ≡ false → all_quiet board ≡ false

-- wherever a run of a site comes to that has a stand in the place of an agent
abbrev pub NoSiteEndsQuiet : {V : Type 0} → Kind V → Type 0
NoSiteEndsQuiet {V} k =
    (agents : List (List ℕ)) (world : World) (cycles lead : ℕ) (minds : List (Seated V)) (stand : Standing) (a : ℕ) (names : List ℕ) (p : Platform (Seated V)) →
    IsAgent (length agents) a → slice_get minds (a - 1) ≡ Some (Stand stand) →
    run (seated k) (opening_platform (opening agents world cycles lead) minds) names ≡ Some p → NeverQuiet p.board a
