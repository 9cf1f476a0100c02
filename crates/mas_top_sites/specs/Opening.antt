-- Two sites before their runs.
use Rattle.std.specs.Prelude.{ℕ, ◌≡◌, ◌≤◌, ◌+◌, Bool, true, false, nat_le, not, if◌then◌else◌, List, [], ◌∷◌, ◌++◌, length, Option, None, Some, IfSome}
use Rattle.std.specs.List.{list_all}
use Rattle.asl_cycle.specs.Agent.{Mindset}
use Rattle.mas_board.specs.Boards as boards
use Rattle.mas_sites_stand.specs.declared.seated.Seated.{Seated}
use Rattle.mas_sites_stand.specs.declared.seated.Seated.TheVariants as seat
use Rattle.mas_sites_stand.specs.Stands.{opening_stand}
use Rattle.mas_sites_scripts.specs.Sites.{Before, before}
use Rattle.mas_world.specs.declared.acts.WorldText.{WorldText}
use Rattle.mas_world.specs.Facts.{AreFacts}
use Rattle.mas_world.specs.Worlds.{World, Used, world, segment, taken}
use Rattle.mas_project.specs.Projects.{most_agents}
use Rattle.mas_report.specs.declared.options.Options.{Options}
use Rattle.mas_top_files.specs.declared.sources.Source.{Source}
use Rattle.mas_top_files.specs.Sources.{texts_of}
use Rattle.mas_top_opening.specs.Fits.{is_ground_role}
use Rattle.mas_top_opening.specs.Opening.{Setup, opening_minds}
use Rattle.mas_top_sites.specs.Artifacts.{uses_of, left_by}
use Rattle.mas_top_sites.specs.Pairs.{Pair, are_new}

-- the agents of both, those of the first project before those of the second
abbrev pub together : Pair → Source
together both = record { names = both.one.names ++ both.two.names; roles = both.one.roles ++ both.two.roles; world = None }

-- ---- who sits at a site

-- the first so many agents live at site 1
abbrev pub at_one : ℕ → ℕ → Bool
at_one first a = nat_le a first

-- the others live at site 2
abbrev pub at_two : ℕ → ℕ → Bool
at_two first a = not (nat_le a first)

-- of these agents, numbered from this one on, those that live at the site have their minds there, and the others stands
abbrev pub seats_from : {V : Type 0} → (ℕ → Bool) → List (List ℕ) → ℕ → List V → List (Seated V)
seats_from lives names a [] = []
seats_from lives names a (m ∷ minds) =
    (if lives a then seat.Own m else seat.Stand (opening_stand a names)) ∷ seats_from lives names (a + 1) minds

abbrev pub seats : {V : Type 0} → (ℕ → Bool) → List (List ℕ) → List V → List (Seated V)
seats lives names minds = seats_from lives names 1 minds

-- ---- the sites

-- the world of a file, where there is one, with the artifacts that it took
abbrev pub world_with : Option WorldText → List Used → World
world_with None used = world (segment [] []) [] used
world_with (Some text) used = world (segment text.acts text.facts) text.hidden used

-- each site has a board of its own with the names of all agents
abbrev pub site : Options → Pair → Option WorldText → List Used → (ℕ → Bool) → Before Mindset
site o both text used lives =
    let all = together both in
    before (boards.opening all.names (world_with text used) o.cycles o.lead) (seats lives all.names (opening_minds o all))

-- the world of the first project takes of all artifacts those that it uses, of two with one name the first
abbrev pub site_one : Setup → Pair → Before Mindset
site_one u both = site u.options both both.one.world (taken (uses_of both.one.world) u.objects) (at_one (length both.one.names))

-- that of the second takes in the same way of those that the first leaves
abbrev pub site_two : Setup → Pair → Before Mindset
site_two u both =
    site u.options both both.two.world (taken (uses_of both.two.world) (left_by both.one.world u.objects)) (at_two (length both.one.names))

-- ---- what sources bring with them

abbrev pub HasFacts : Option WorldText → Type 0
HasFacts text = IfSome text (λ t. AreFacts t.facts)

-- the names of two projects are few together, and no two are the same
pub record AreNames (one two : List (List ℕ)) : Type 0 where
  pub few : length one + length two ≤ most_agents
  pub new : are_new one two ≡ true

-- there is an agent, one for each name, and beliefs have no variables
pub record CanSit (source : Source) : Type 0 where
  pub some : 1 ≤ length source.names
  pub named : length source.names ≡ length (texts_of source.roles)
  pub ground : list_all is_ground_role source.roles ≡ true

pub record CanMeet (both : Pair) : Type 0 where
  pub names : AreNames both.one.names both.two.names
  pub sit : CanSit (together both)
  pub one : HasFacts both.one.world
  pub two : HasFacts both.two.world

-- ---- what the code holds

-- a board before its first turn
abbrev pub new_board : Options → List (List ℕ) → World → boards.Noted
new_board o names w = record { state = boards.opening names w o.cycles o.lead; schedule = []; halted = false }

-- a board and minds are those of the site
pub record IsSite (it : Before Mindset) (board : boards.Noted) (minds : List (Seated Mindset)) : Type 0 where
  pub board_is : board ≡ record { state = it.board; schedule = []; halted = false }
  pub minds_are : minds ≡ it.minds
