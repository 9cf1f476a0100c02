-- What the files of two projects describe, and which of them is refused first.
use Rattle.std.specs.Prelude.{ℕ, ◌≡◌, ◌⊎◌, ◌≤◌, ◌<◌, ◌+◌, ◌*◌, Bool, true, not, List, ◌∷◌, ◌++◌, length, Option, None, Some}
use Rattle.std.specs.List.{list_all, list_any}
use Rattle.std.specs.Str.{bytes_eq}
use Rattle.asl_term.specs.declared.syntax.Filed.{Filed}
use Rattle.mas_mind.specs.Limits.{most_cycles_together}
use Rattle.mas_world.specs.Worlds.{Used, taken}
use Rattle.mas_project.specs.declared.syntax.ProjectText.{ProjectText}
use Rattle.mas_project.specs.Names.{names_of}
use Rattle.mas_project.specs.Projects.{most_agents}
use Rattle.mas_top_files.specs.declared.sources.Source.{Source}
use Rattle.mas_top_status.specs.declared.status.Reason.TheVariants as reason
use Rattle.mas_top_status.specs.declared.status.Status.{Status}
use Rattle.mas_top_status.specs.declared.status.Status.TheVariants.{Refused, Limit}
use Rattle.mas_top_status.specs.declared.status.What.TheVariants as what
use Rattle.mas_top_files.specs.Known.{known}
use Rattle.mas_top_files.specs.Laws.{Surely}
use Rattle.mas_top_files.specs.Sources.{HasProject, Describe, ProjectRefused, PartRefused, UnlessMemory}
use Rattle.mas_top_sites.specs.Artifacts.{uses_of, left_by}

-- ---- what is asked for

-- two projects by their words, and how many cycles each agent may make
pub record Wish : Type 0 where
  pub first : List ℕ
  pub second : List ℕ
  pub cycles : ℕ

abbrev pub wish : List ℕ → List ℕ → ℕ → Wish
wish first second cycles = record { first = first; second = second; cycles = cycles }

-- ---- the agents of both together

abbrev pub has_name : List (List ℕ) → List ℕ → Bool
has_name names name = list_any (bytes_eq name) names

-- none of these names is among the earlier ones
abbrev pub are_new : List (List ℕ) → List (List ℕ) → Bool
are_new earlier names = list_all (λ name. not (has_name earlier name)) names

-- rule: the agents of these names are not too many together, nor are their cycles, and no two have one name
pub record Fit (cycles : ℕ) (one two : List (List ℕ)) : Type 0 where
  pub few : length one + length two ≤ most_agents
  pub short : (length one + length two) * cycles ≤ most_cycles_together
  pub new : are_new one two ≡ true

-- the first of these names that is among the earlier ones, and its number, counted from 1
pub record IsTaken (earlier names : List (List ℕ)) (number : ℕ) (name : List ℕ) : Type 0 where
  pub before : List (List ℕ)
  pub behind : List (List ℕ)
  pub parts : names ≡ before ++ name ∷ behind
  pub number_is : number ≡ length before + 1
  pub new : are_new earlier before ≡ true
  pub taken : has_name earlier name ≡ true

-- such a name, or that there is none
abbrev pub TellsTaken : List (List ℕ) → List (List ℕ) → Option (ℕ × List ℕ) → Type 0
TellsTaken earlier names None = are_new earlier names ≡ true
TellsTaken earlier names (Some x) = IsTaken earlier names x.0 x.1

-- the first test that fails, and its status: a name that an agent of the second project's file has again
pub data FailsTest (second : List ℕ) (cycles : ℕ) (one two : List (List ℕ)) : Status → Type 0 where
  many_agents : most_agents < length one + length two → FailsTest second cycles one two (Limit what.Agents (length one + length two))
  many_cycles : length one + length two ≤ most_agents → most_cycles_together < (length one + length two) * cycles
      → FailsTest second cycles one two (Limit what.Cycles ((length one + length two) * cycles))
  taken_name : {number : ℕ} {name : List ℕ} → length one + length two ≤ most_agents → (length one + length two) * cycles ≤ most_cycles_together
      → IsTaken one two number name → FailsTest second cycles one two (Refused second number (reason.Name name))

-- ---- what the files describe

-- the words stand for these projects
pub record AreProjects (held : Option (List Filed)) (one two : List ℕ) (p q : ProjectText) : Type 0 where
  pub first : HasProject held one p
  pub second : HasProject held two q

-- and their agents fit together
pub record AreAsked (held : Option (List Filed)) (wish : Wish) (p q : ProjectText) : Type 0 where
  pub are : AreProjects held wish.first wish.second p q
  pub fit : Fit wish.cycles (names_of p.agents) (names_of q.agents)

-- what the files of both describe
pub record Pair : Type 0 where
  pub one : Source
  pub two : Source

abbrev pub pair : Source → Source → Pair
pair one two = record { one = one; two = two }

-- rule: what the files of two projects describe; the world of the second may use what that of the first leaves
pub record HasPair (objects : List Used) (held : Option (List Filed)) (wish : Wish) (both : Pair) : Type 0 where
  pub first : ProjectText
  pub second : ProjectText
  pub asked : AreAsked held wish first second
  pub one : Describe (known objects) held first both.one
  pub two : Describe (known (left_by both.one.world objects)) held second both.two

-- ---- the first refusal: of the first project's file, of the second's, of their agents together, and then of the other files of
-- the first project and of the second, in each of these that of its world before those of its agents

pub record SecondRefused (held : Option (List Filed)) (one two : List ℕ) (before after : ℕ) (status : Status) : Type 0 where
  pub project : ProjectText
  pub first : HasProject held one project
  pub why : ProjectRefused held two before after status

abbrev pub ProjectsRefused : Option (List Filed) → List ℕ → List ℕ → ℕ → ℕ → Status → Type 0
ProjectsRefused held one two before after status = ProjectRefused held one before after status ⊎ SecondRefused held one two before after status

pub record TogetherRefused (held : Option (List Filed)) (wish : Wish) (status : Status) : Type 0 where
  pub first : ProjectText
  pub second : ProjectText
  pub are : AreProjects held wish.first wish.second first second
  pub fails : FailsTest wish.second wish.cycles (names_of first.agents) (names_of second.agents) status

-- of two projects' other files
pub record TwoRefused (objects : List Used) (held : Option (List Filed)) (first second : ProjectText) (before after : ℕ) (status : Status) : Type 0 where
  pub one : Source
  pub described : Describe (known objects) held first one
  pub why : PartRefused (known (left_by one.world objects)) second held before after status

abbrev pub PartsRefused : List Used → Option (List Filed) → ProjectText → ProjectText → ℕ → ℕ → Status → Type 0
PartsRefused objects held first second before after status =
    PartRefused (known objects) first held before after status ⊎ TwoRefused objects held first second before after status

pub data PairRefused (objects : List Used) (held : Option (List Filed)) (wish : Wish) (before after : ℕ) (status : Status) : Type 0 where
  projects_refused : ProjectsRefused held wish.first wish.second before after status → PairRefused objects held wish before after status
  together_refused : TogetherRefused held wish status → PairRefused objects held wish before after status
  parts_refused : (p q : ProjectText) → AreAsked held wish p q → PartsRefused objects held p q before after status
      → PairRefused objects held wish before after status

abbrev pub ArePairRefused : List Used → Option (List Filed) → Wish → ℕ → ℕ → Status → Type 0
ArePairRefused objects held wish before after status = UnlessMemory (PairRefused objects held wish before after) status

-- none of the files is refused
abbrev pub NoneRefused : List Used → List Filed → Wish → Type 0
NoneRefused objects files wish = (status : Status) → Surely (PairRefused objects (Some files) wish) status → ⊥

-- ---- what the code keeps beside it: the artifacts that a world takes

-- a project's files describe this source, where these artifacts are there; of them its world takes the ones and leaves the others
pub record IsBrought (objects : List Used) (held : Option (List Filed)) (p : ProjectText) (source : Source) (used left : List Used) : Type 0 where
  pub describe : Describe (known objects) held p source
  pub used_is : used ≡ taken (uses_of source.world) objects
  pub left_is : left ≡ left_by source.world objects

-- what two sources take of these artifacts
pub record AreTaken (objects : List Used) (both : Pair) (one two : List Used) : Type 0 where
  pub one_is : one ≡ taken (uses_of both.one.world) objects
  pub two_is : two ≡ taken (uses_of both.two.world) (left_by both.one.world objects)

-- the files of two projects describe these sources, with what these take
pub record AreBrought (objects : List Used) (held : Option (List Filed)) (p q : ProjectText) (both : Pair) (one two : List Used) : Type 0 where
  pub first : Describe (known objects) held p both.one
  pub second : Describe (known (left_by both.one.world objects)) held q both.two
  pub taken : AreTaken objects both one two

-- the same of two words
pub record AreRead (objects : List Used) (held : Option (List Filed)) (wish : Wish) (both : Pair) (one two : List Used) : Type 0 where
  pub has : HasPair objects held wish both
  pub taken : AreTaken objects both one two
