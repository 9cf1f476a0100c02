-- Laws of sites, over any meaning V of the agents' own minds.
use Rattle.std.specs.Prelude.{ℕ, ◌≡◌, List, Option, Some}
use Rattle.mas_mind.specs.declared.mind.Message.{Message}
use Rattle.mas_mind.specs.Minds.{Kind}
use Rattle.mas_board.specs.Boards.{State}
use Rattle.mas_sites_stand.specs.declared.seated.Seated.{Seated}
use Rattle.mas_sites_scripts.specs.Sites.{Sited, fed, IsAlong, Turned}
use Rattle.mas_sites_scripts.specs.Ways.{HasGot, HasPut}
use Rattle.mas_sites_scripts.specs.Meeting.{site_turn}

-- a run of a site from the opening state with its scripts is one from that with an entry more, whose stand is then still to send it
abbrev pub ScriptsMayGrow : {V : Type 0} → Kind V → Type 0
ScriptsMayGrow {V} k =
    (board : State) (minds : List (Seated V)) (now : Sited V) (a : ℕ) (e : Option Message) → IsAlong k board minds now →
    IsAlong k board minds (fed a e now)

-- with what is on the way between the sites in lists, a turn of a site is that of the fold
abbrev pub TurnsFold : {V : Type 0} → Kind V → Type 0
TurnsFold {V} k =
    (from to : List (List Message)) (old new : Sited V) (a : ℕ) → Turned k HasGot HasPut from to old new a →
    site_turn k (record { site = old; ways = from }) a ≡ Some (record { site = new; ways = to })
