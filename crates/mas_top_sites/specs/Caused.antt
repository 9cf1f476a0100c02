-- The cause of each status of a run of two sites, and what follows of it.
use Rattle.std.specs.Prelude.{ℕ, ◌≡◌, ◌⊎◌, Bool, true, false, List, ◌++◌, Option, Some}
use Rattle.asl_term.specs.declared.syntax.Filed.{Filed}
use Rattle.asl_cycle.specs.Agent.{agent_kind}
use Rattle.mas_io.specs.Causes.{Rose}
use Rattle.mas_io.specs.Told.{Told, IsUnwritten}
use Rattle.mas_io.specs.Writing.{Wrote, WroteSome}
use Rattle.mas_top_status.specs.declared.status.Status.{Status}
use Rattle.mas_top_status.specs.declared.status.Status.TheVariants.{Ok, No, Usage, Missing, ReadFault, WriteFault, Refused, Limit, Budget, Memory, DiskFault}
use Rattle.mas_top_status.specs.Statuses.{whole}
use Rattle.mas_top_opening.specs.Opening.{Setup}
use Rattle.mas_top_sites.specs.Pairs.{Wish, wish, Pair, HasPair, PairRefused, NoneRefused}
use Rattle.mas_top_sites.specs.Opening.{site_one, site_two}
use Rattle.mas_top_sites.specs.Texts.{IsSitesText}
use Rattle.mas_top_sites.specs.declared.printing.Sites as code

-- two projects by their words, and by how many workers their sites run
pub record Sites : Type 0 where
  pub first : List ℕ
  pub second : List ℕ
  pub workers : ℕ

abbrev pub sites : List ℕ → List ℕ → ℕ → Sites
sites first second workers = record { first = first; second = second; workers = workers }

abbrev pub wish_of : Setup → Sites → Wish
wish_of u s = wish s.first s.second u.options.cycles

-- w is the text of a run of what both describe
abbrev pub IsTextOf : Setup → Sites → Bool → Pair → List ℕ → Type 0
IsTextOf u s spent both w = IsSitesText agent_kind u.options (site_one u both) (site_two u both) s.workers spent w

-- the files describe such sites, and w is the text of their runs
pub record ForPair (u : Setup) (held : Option (List Filed)) (s : Sites) (spent : Bool) (w : List ℕ) : Type 0 where
  pub both : Pair
  pub has : HasPair u.objects held (wish_of u s) both
  pub is : IsTextOf u s spent both w

-- some end is `budget`, or none is
pub record ForEnded (u : Setup) (held : Option (List Filed)) (s : Sites) (w : List ℕ) : Type 0 where
  pub spent : Bool
  pub gives : ForPair u held s spent w

-- a file is refused, and nothing was written
pub record IsRefusedPair (u : Setup) (s : Sites) (before after : Told) (status : Status) : Type 0 where
  pub why : PairRefused u.objects before.held (wish_of u s) before.shelf_faults after.shelf_faults status
  pub unwritten : IsUnwritten before after

-- want of memory alone is free
abbrev pub SitesCaused : Setup → Sites → Told → Told → Status → Type 0
SitesCaused u s before after Ok = Wrote (ForPair u before.held s false) before after
SitesCaused u s before after No = ⊥
SitesCaused u s before after Usage = ⊥
SitesCaused u s before after (Missing lacked) = IsRefusedPair u s before after (Missing lacked)
SitesCaused u s before after ReadFault = IsRefusedPair u s before after ReadFault
SitesCaused u s before after WriteFault = WroteSome (ForEnded u before.held s) before after
SitesCaused u s before after (Refused file place why) = IsRefusedPair u s before after (Refused file place why)
SitesCaused u s before after (Limit quantity count) = IsRefusedPair u s before after (Limit quantity count)
SitesCaused u s before after Budget = Wrote (ForPair u before.held s true) before after
SitesCaused u s before after Memory = IsUnwritten before after
SitesCaused u s before after DiskFault = ⊥

-- ---- what follows, where shelf and sink tell their bytes

-- what was written behind the old bytes is the text of runs of the sites that the files describe
pub record Reported (u : Setup) (s : Sites) (spent : Bool) (files : List Filed) (old new : List ℕ) : Type 0 where
  pub both : Pair
  pub described : HasPair u.objects (Some files) (wish_of u s) both
  pub text : List ℕ
  pub written : new ≡ old ++ text
  pub runs : IsTextOf u s spent both text

-- where it was written whole
abbrev pub ReportsSites : Setup → Sites → Told → Told → Status → Type 0
ReportsSites u s before after status =
    (spent : Bool) (files : List Filed) (old new : List ℕ) → status ≡ whole spent → before.held ≡ Some files →
    before.written ≡ Some old → after.written ≡ Some new → Reported u s spent files old new

-- where none of the files is refused, and neither count of faults rises, it was written whole, by Ok or Budget, or the status is Memory
abbrev pub AreSitesComplete : Setup → Sites → Told → Told → Status → Type 0
AreSitesComplete u s before after status =
    (files : List Filed) → before.held ≡ Some files → NoneRefused u.objects files (wish_of u s) →
    (Rose before.shelf_faults after.shelf_faults → ⊥) → (Rose before.sink_faults after.sink_faults → ⊥) →
    ((spent : Bool) × (status ≡ whole spent)) ⊎ (status ≡ Memory)

-- ---- how the code asks for it

abbrev pub sites_of : code.Sites → Sites
sites_of s = sites s.first.now s.second.now s.workers
