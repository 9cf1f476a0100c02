-- What words ask for.
use Rattle.std.specs.Prelude.{ℕ, ◌==◌, ◌&&◌, ◌||◌, ◌≤◌, Bool, true, false, not, List, [], ◌∷◌, ◌++◌, codes, if◌then◌else◌}
use Rattle.std.specs.Prelude.{Option, None, Some, option_map}
use Rattle.std.specs.List.{list_any}
use Rattle.std.specs.Str.{bytes_eq}
use Rattle.clap.specs.Faults.{fault_of}
use Rattle.clap.specs.Simple.{matches_of}
use Rattle.clap.specs.Walk.{Row, first_of, is_empty}
use Rattle.mas_explore.specs.Searches.{most_states}
use Rattle.mas_mind.specs.Limits.{most_tries}
use Rattle.mas_report.specs.Limits.{IsFrom, defaults, most_depth}
use Rattle.mas_top_words.specs.Asked.{number_for}
use Rattle.mas_explore_listing.specs.declared.answers.Claim.{Claim}
use Rattle.mas_explore_listing.specs.declared.answers.Claim.TheVariants.{Never, Always}
use Rattle.mas_explore_listing.specs.declared.answers.Question.{Question}
use Rattle.mas_explore_top.specs.declared.detail.Detail.{Detail}
use Rattle.mas_explore_top.specs.declared.detail.Detail.TheVariants.{Ends, Say, Acts}
use Rattle.mas_explore_top.specs.declared.words.Claimed as code_claimed
use Rattle.mas_explore_top.specs.declared.words.ExploreWords as code_words
use Rattle.mas_explore_top.specs.declared.words.ExploreAsked as code
use Rattle.mas_explore_top.specs.declared.words.ExploreAsked.TheVariants as code_variant
use Rattle.mas_explore_top.specs.Apps.{explore_app}
use Rattle.program_words.specs.Texts.{is_set}

-- the outcomes of all runs of a project: what they show, the limits of each search of an agent, how many states are followed at most, and what is claimed
pub record Exploring : Type 0 where
  pub project : List ℕ
  pub detail : Detail
  pub depth : ℕ
  pub tries : ℕ
  pub states : ℕ
  pub claimed : Option Question
  pub progress : Bool

pub data Asked : Type 0 where
  help : Asked
  version : Asked
  explore : Exploring → Asked

-- the numbers are those that the options permit
pub record IsPermitted (e : Exploring) : Type 0 where
  pub depth : IsFrom 1 most_depth e.depth
  pub tries : IsFrom 1 most_tries e.tries
  pub states : IsFrom 1 most_states e.states

abbrev pub ArePermitted : Asked → Type 0
ArePermitted help = Unit {0}
ArePermitted version = Unit {0}
ArePermitted (explore e) = IsPermitted e

-- ---- what the texts of options say; None where it is not permitted

abbrev pub detail_of : List ℕ → Option Detail
detail_of text =
    if bytes_eq text (codes "ends") then Some Ends else if bytes_eq text (codes "say") then Some Say
    else if bytes_eq text (codes "acts") then Some Acts else None

abbrev pub detail_for : Option (List ℕ) → Option Detail
detail_for None = Some Say
detail_for (Some text) = detail_of text

-- a text that has a byte and no line feed (10)
abbrev pub is_line : List ℕ → Bool
is_line text = not (is_empty text) && not (list_any (λ b. b == 10) text)

-- the line with its line feed
abbrev pub question : Claim → List ℕ → Question
question claim line = record { claim = claim; line = line ++ 10 ∷ [] }

abbrev pub claimed_in : Claim → List ℕ → Option (Option Question)
claimed_in claim text = if is_line text then Some (Some (question claim text)) else None

-- nothing, or one thing
abbrev pub claimed_for : Option (List ℕ) → Option (List ℕ) → Option (Option Question)
claimed_for None None = Some None
claimed_for None (Some text) = claimed_in Always text
claimed_for (Some text) None = claimed_in Never text
claimed_for (Some text) (Some other) = None

-- ---- what they ask for together

abbrev pub exploring_with : Option (List ℕ) → Option Detail → Option ℕ → Option ℕ → Option ℕ → Option (Option Question) → Bool → Option Exploring
exploring_with (Some project) (Some detail) (Some depth) (Some tries) (Some states) (Some claimed) progress = Some (record {
  project = project;
  detail = detail;
  depth = depth;
  tries = tries;
  states = states;
  claimed = claimed;
  progress = progress;
})
exploring_with _ _ _ _ _ _ progress = None

abbrev pub exploring_by : (List ℕ → Option (List ℕ)) → Option Exploring
exploring_by text = exploring_with
    (text (codes "project"))
    (detail_for (text (codes "level")))
    (number_for defaults.depth 1 most_depth (text (codes "depth")))
    (number_for defaults.tries 1 most_tries (text (codes "tries")))
    (number_for most_states 1 most_states (text (codes "states")))
    (claimed_for (text (codes "never")) (text (codes "always")))
    (is_set (text (codes "progress")))

-- ---- the words

-- a word alone, long or short
abbrev pub is_alone : List ℕ → List ℕ → List (List ℕ) → Bool
is_alone long short [] = false
is_alone long short (word ∷ []) = bytes_eq word long || bytes_eq word short
is_alone long short (word ∷ next ∷ words) = false

-- what clap's matches say
abbrev pub exploring_among : List Row → Option Exploring
exploring_among rows = exploring_by (λ id. first_of id rows)

-- where clap takes the words
abbrev pub exploring : List (List ℕ) → Option Exploring
exploring words = if is_empty (fault_of explore_app words) then exploring_among (matches_of explore_app words) else None

-- what the words ask for; None where they are not read
abbrev pub asked : List (List ℕ) → Option Asked
asked words =
    if is_alone (codes "--help") (codes "-h") words then Some help
    else if is_alone (codes "--version") (codes "-V") words then Some version
    else option_map explore (exploring words)

-- ---- how the code holds it

abbrev pub claimed_of : code_claimed.Claimed → Question
claimed_of c = question c.claim c.line.now

abbrev pub exploring_of : code_words.ExploreWords → Exploring
exploring_of w = record {
  project = w.project.now;
  detail = w.detail;
  depth = w.depth;
  tries = w.tries;
  states = w.states;
  claimed = option_map claimed_of w.claimed;
  progress = w.progress;
}

abbrev pub asked_of : code.ExploreAsked → Asked
asked_of code_variant.Help = help
asked_of code_variant.Version = version
asked_of (code_variant.Explore w) = explore (exploring_of w)
