-- The messages that went from a site to the other one, in order.
use Rattle.std.specs.Prelude.{ℕ, ◌≡◌, ◌<◌, ◌-◌, nat_eq, true, not, if◌then◌else◌, List, [], ◌∷◌, ◌++◌, length, slice_get, filter, Option, None, Some}
use Rattle.std.specs.Option.{option_to_list}
use Rattle.mas_mind.specs.declared.mind.Message.{Message}
use Rattle.mas_mind.specs.Minds.{Kind, IsAgent}
use Rattle.mas_board.specs.Boards.{box_of}
use Rattle.mas_core.specs.Platform.{Platform}
use Rattle.mas_core_laws.specs.Mail.{takes, along}
use Rattle.mas_sites_stand.specs.declared.seated.Seated.{Seated}
use Rattle.mas_sites_stand.specs.Seats.{seated}
use Rattle.mas_sites_scripts.specs.Scripts.{Script}
use Rattle.mas_sites_scripts.specs.Giving.{is_own}
use Rattle.mas_sites_scripts.specs.Sites.{Sited, opening_with, Before, After}

-- those that are from this agent
abbrev pub those_of : ℕ → List Message → List Message
those_of y messages = filter (λ m. nat_eq m.from y) messages

-- what the turn of an agent takes of y, where a stand sits in its place
abbrev pub stand_takes : {V : Type 0} → ℕ → Platform (Seated V) → ℕ → List Message
stand_takes y p a = if is_own (slice_get p.minds (a - 1)) then [] else those_of y (takes p a)

-- what the stands of a site take of y along a run, in the order of their Senses
abbrev pub taken_of : {V : Type 0} → Kind V → ℕ → Platform (Seated V) → List ℕ → List Message
taken_of k y p names = along (stand_takes y) (seated k) p names

abbrev pub messages_in : Script → List Message
messages_in [] = []
messages_in (e ∷ script) = option_to_list e ++ messages_in script

abbrev pub script_or_none : Option Script → Script
script_or_none None = []
script_or_none (Some script) = script

abbrev pub script_of : List Script → ℕ → Script
script_of scripts a = script_or_none (slice_get scripts (a - 1))

-- ---- what a site's stands took of an agent that lives there, what came to the other site of it, and what is on the way

-- as many agents, each of which lives at exactly one site
pub record AreApart {V : Type 0} (one two : List (Seated V)) : Type 0 where
  pub number : length two ≡ length one
  pub each : (i : ℕ) → i < length one → is_own (slice_get two i) ≡ not (is_own (slice_get one i))

-- during the run: what was taken is what is in the script of the agent's stand, and then what is on the way
abbrev pub IsTallied : {V : Type 0} → Kind V → Before V → Sited V → Sited V → List (List Message) → Type 0
IsTallied k near site other ways =
    (y : ℕ) → IsAgent (length near.minds) y → is_own (slice_get near.minds (y - 1)) ≡ true →
    taken_of k y (opening_with near.board near.minds site.scripts) site.schedule ≡ messages_in (script_of other.scripts y) ++ box_of ways y

-- the same in the end, of what is left
abbrev pub ArrivesInOrder : {V : Type 0} → Kind V → Before V → After V → After V → List (List Message) → Type 0
ArrivesInOrder k near done other left =
    (y : ℕ) → IsAgent (length near.minds) y → is_own (slice_get near.minds (y - 1)) ≡ true →
    taken_of k y (opening_with near.board near.minds done.scripts) done.board.schedule ≡ messages_in (script_of other.scripts y) ++ box_of left y
