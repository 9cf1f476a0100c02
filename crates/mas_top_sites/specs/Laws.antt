-- What is true of two sites: of what their files describe, and of their texts, over any meaning V of the agents' own minds.
use Rattle.std.specs.Prelude.{ℕ, ◌≡◌, ◌⊎◌, Bool, List, Some}
use Rattle.asl_term.specs.declared.syntax.Filed.{Filed}
use Rattle.mas_mind.specs.Minds.{Kind}
use Rattle.mas_report.specs.declared.options.Options.{Options}
use Rattle.mas_report.specs.Report.{latest, IsAnyReport}
use Rattle.mas_sites_stand.specs.Seats.{seated}
use Rattle.mas_world.specs.Worlds.{Used}
use Rattle.mas_top_status.specs.declared.status.Status.{Status}
use Rattle.mas_top_files.specs.Laws.{Surely}
use Rattle.mas_sites_scripts.specs.Scripts.{Script as ScriptEntries}
use Rattle.mas_sites_scripts.specs.Sites.{Before, opening_with}
use Rattle.mas_top_sites.specs.Pairs.{Wish, Pair, HasPair, PairRefused, NoneRefused}
use Rattle.mas_top_sites.specs.Texts.{sites_text, IsSitesText}

-- ---- what the files describe

-- files describe one pair at most
abbrev pub OnePair : Type 0
OnePair =
    (objects : List Used) (files : List Filed) (wish : Wish) (a b : Pair) → HasPair objects (Some files) wish a →
    HasPair objects (Some files) wish b → a ≡ b

-- files describe a pair, or one of them is refused first
abbrev pub SomePair : Type 0
SomePair =
    (objects : List Used) (files : List Filed) (wish : Wish) → ((both : Pair) × HasPair objects (Some files) wish both) ⊎
    ((status : Status) × Surely (PairRefused objects (Some files) wish) status)

-- so files of which none is refused describe a pair
abbrev pub UnrefusedDescribe : Type 0
UnrefusedDescribe =
    (objects : List Used) (files : List Filed) (wish : Wish) → NoneRefused objects files wish →
    (both : Pair) × HasPair objects (Some files) wish both

-- where files describe a pair, none of them is refused, unless the count of faults rose or memory lacked
abbrev pub NotRefused : Type 0
NotRefused =
    (objects : List Used) (files : List Filed) (wish : Wish) (both : Pair) → HasPair objects (Some files) wish both → NoneRefused objects files wish

-- files are refused with one status at most, unless the count of faults rose or memory lacked
abbrev pub OneRefusal : Type 0
OneRefusal =
    (objects : List Used) (files : List Filed) (wish : Wish) (a b : Status) → Surely (PairRefused objects (Some files) wish) a →
    Surely (PairRefused objects (Some files) wish) b → a ≡ b

-- ---- the texts

-- w has the report of a run of each site, as that of a run of one project: along the schedule that it prints, each turn legal, every
-- agent gone at the end. The run is from the opening state in which each stand has its whole script.
pub record HasReports {V : Type 0} (k : Kind V) (o : Options) (first second : Before V) (w : List ℕ) : Type 0 where
  pub one : List ℕ
  pub two : List ℕ
  pub between : List ℕ
  pub text : w ≡ sites_text one two between
  pub of_one : List ScriptEntries
  pub of_two : List ScriptEntries
  pub one_is : IsAnyReport (seated k) latest o (opening_with first.board first.minds of_one) one
  pub two_is : IsAnyReport (seated k) latest o (opening_with second.board second.minds of_two) two

-- so the text of two sites has the reports of both
abbrev pub SitesHaveReports : {V : Type 0} → Kind V → Type 0
SitesHaveReports {V} k =
    (o : Options) (first second : Before V) (workers : ℕ) (spent : Bool) (w : List ℕ) → IsSitesText k o first second workers spent w →
    HasReports k o first second w
