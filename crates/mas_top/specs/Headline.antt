-- What the top call promises, by its status.
use Rattle.std.specs.Prelude.{◌≡◌, ◌⊎◌, ℕ, Bool, List, ◌++◌, Some}
use Rattle.asl_term.specs.declared.syntax.Filed.{Filed}
use Rattle.asl_cycle.specs.Agent.{agent_kind}
use Rattle.mas_io.specs.Causes.{Rose}
use Rattle.mas_io.specs.Told.{Told, IsUnwritten}
use Rattle.mas_mind.specs.Minds.{Kind}
use Rattle.mas_core.specs.Platform.{Platform}
use Rattle.mas_report_schedule.specs.Schedule.{printed}
use Rattle.mas_report.specs.declared.options.Options.{Options}
use Rattle.mas_report.specs.Report.{latest, IsReport}
use Rattle.mas_top_status.specs.declared.status.Status.{Status}
use Rattle.mas_top_status.specs.declared.status.Status.TheVariants.{Usage, Memory}
use Rattle.mas_top_lint.specs.Linting.{LintCaused}
use Rattle.mas_top_sites.specs.Caused.{Sites, sites, SitesCaused}
use Rattle.mas_top_files.specs.Known.{known}
use Rattle.mas_top_status.specs.Statuses.{whole}
use Rattle.mas_top.specs.Caused.{Texts, FileCaused}
use Rattle.mas_top_words.specs.Asked as words
use Rattle.mas_top_words.specs.Plain.{AskForNothing, AskOnlyFor}
use Rattle.mas_world.specs.Worlds.{Used}
use Rattle.mas_report.specs.Limits.{defaults}
use Rattle.mas_top_check.specs.Checking.{whether, anew, Claim, claim, ClaimCaused}
use Rattle.mas_top.specs.Demo.{DemoCaused}
use Rattle.mas_top_record.specs.declared.keep.Keeping.TheVariants.{Anew, On}
use Rattle.mas_top_opening.specs.Opening.{Setup, setup, opening}
use Rattle.mas_top.specs.Recording.{Recorded, recorded, wanted_of, Lent, RecordCaused}
use Rattle.mas_top.specs.Runs.{by_workers, by_file, Wanted, wanted, Given, HasGiven, NoneRefused}
use Rattle.mas_top.specs.Ways.{Way, way_of, IsScheduled}

-- the text is the report of the run of what is given, in which some end is `budget` or none is
abbrev pub IsReportOf : Setup → Bool → Given → List ℕ → Type 0
IsReportOf u spent g w = IsReport agent_kind latest u.options (opening u g.source) spent w

-- the report of a run from p whose turns are made in this order
pub record IsRunReport {V : Type 0} (k : Kind V) (o : Options) (p : Platform V) (way : Way) (spent : Bool) (w : List ℕ) : Type 0 where
  pub report : IsReport k latest o p spent w
  pub scheduled : IsScheduled k p way (printed w)

-- that of what is given
abbrev pub IsRunReportOf : Setup → Bool → Given → List ℕ → Type 0
IsRunReportOf u spent g w = IsRunReport agent_kind u.options (opening u g.source) g.way spent w

-- ---- the headline, for what is asked for

-- what was written behind the old bytes is the report of the platform, stepped along the schedule that this report
-- prints, each turn legal, every agent gone at the end
pub record Reported (u : Setup) (wanted : Wanted) (spent : Bool) (files : List Filed) (old new : List ℕ) : Type 0 where
  pub given : Given
  pub described : HasGiven u (Some files) wanted given
  pub text : List ℕ
  pub written : new ≡ old ++ text
  pub report : IsReportOf u spent given text

-- where the report was written whole, and shelf and sink tell their bytes
abbrev pub IsHeadline : Setup → Wanted → Told → Told → Status → Type 0
IsHeadline u wanted before after status =
    (spent : Bool) (files : List Filed) (old new : List ℕ) → status ≡ whole spent → before.held ≡ Some files →
    before.written ≡ Some old → after.written ≡ Some new → Reported u wanted spent files old new

-- the report was written whole, the shelf tells that its files describe this, and the sink that this text was written
pub record WroteFor (u : Setup) (wanted : Wanted) (before after : Told) (status : Status) (g : Given) (text : List ℕ) : Type 0 where
  pub spent : Bool
  pub status_is : status ≡ whole spent
  pub files : List Filed
  pub held : before.held ≡ Some files
  pub described : HasGiven u (Some files) wanted g
  pub old : List ℕ
  pub old_is : before.written ≡ Some old
  pub new_is : after.written ≡ Some (old ++ text)

-- the schedule that is printed is that of the round robin where there is one worker, and the given one in a replay
abbrev pub PrintsSchedule : Setup → Wanted → Told → Told → Status → Type 0
PrintsSchedule u wanted before after status =
    (g : Given) (text : List ℕ) → WroteFor u wanted before after status g text → IsScheduled agent_kind (opening u g.source) g.way (printed text)

-- completeness: where the shelf tells files none of which is refused, and neither count of faults rises, the report was
-- written whole, by Ok or Budget, or the status is Memory
abbrev pub IsComplete : Setup → Wanted → Told → Told → Status → Type 0
IsComplete u wanted before after status =
    (files : List Filed) → before.held ≡ Some files → NoneRefused u files wanted →
    (Rose before.shelf_faults after.shelf_faults → ⊥) → (Rose before.sink_faults after.sink_faults → ⊥) →
    ((spent : Bool) × (status ≡ whole spent)) ⊎ (status ≡ Memory)

-- ---- what the words ask for

-- by what is promised of it: the report of a project's run, a run that is recorded, a claim that a report is that of a run, a demo
-- of so many agents, two projects as two sites, whether a project's goals are covered
pub data Request : Type 0 where
  to_report : Setup → Wanted → Request
  to_record : Setup → Recorded → Request
  to_claim : Claim → Request
  to_demo : Setup → ℕ → Way → Request
  to_meet : Setup → Sites → Request
  to_lint : List ℕ → Request

-- a row for each command
abbrev pub request : List Used → words.Asked → Request
request objects (words.run project options workers pool) = to_report (setup options objects) (wanted project (by_workers workers))
request objects (words.replay project schedule options) = to_report (setup options objects) (wanted project (by_file schedule))
request objects (words.record_to project file options workers) = to_record (setup options objects) (recorded project file Anew workers)
request objects (words.resume_from project file options workers) = to_record (setup options objects) (recorded project file On workers)
request objects (words.check project report) = to_claim (claim whether project report)
request objects (words.renew project report) = to_claim (claim anew project report)
request objects (words.demo count workers) = to_demo (setup defaults objects) count (way_of workers)
request objects (words.sites one two options workers) = to_meet (setup options objects) (sites one two workers)
request objects (words.lint project) = to_lint project

-- what holds of the files of a run or of a replay, where one is asked for
abbrev pub ForRuns : (Setup → Wanted → Type 0) → Request → Type 0
ForRuns Holds (to_report u files) = Holds u files
ForRuns Holds other = Unit {0}

-- of a run that is recorded in a file
abbrev pub ForRecords : (Setup → Recorded → Type 0) → Request → Type 0
ForRecords Holds (to_record u r) = Holds u r
ForRecords Holds other = Unit {0}

-- of the files of a run, a replay, and a run that is recorded
abbrev pub ForReports : (Setup → Wanted → Type 0) → Request → Type 0
ForReports Holds q = ForRuns Holds q × ForRecords (λ u r. Holds u (wanted_of r)) q

-- where nothing is recorded
abbrev pub ForOthers : Type 0 → Request → Type 0
ForOthers Holds (to_record u r) = Unit {0}
ForOthers Holds other = Holds

-- of a claim that a report is that of a run
abbrev pub ForClaims : (Claim → Type 0) → Request → Type 0
ForClaims Holds (to_claim c) = Holds c
ForClaims Holds other = Unit {0}

-- of a demo
abbrev pub ForDemos : (Setup → ℕ → Way → Type 0) → Request → Type 0
ForDemos Holds (to_demo u count way) = Holds u count way
ForDemos Holds other = Unit {0}

-- of two sites
abbrev pub ForSites : (Setup → Sites → Type 0) → Request → Type 0
ForSites Holds (to_meet u s) = Holds u s
ForSites Holds other = Unit {0}

-- of a project of which is asked whether its goals are covered
abbrev pub ForLints : (List ℕ → Type 0) → Request → Type 0
ForLints Holds (to_lint project) = Holds project
ForLints Holds other = Unit {0}

-- ---- the cause of each status

-- of what is asked for
abbrev pub AskedCaused : (Setup → Texts) → List Used → Lent → Told → Told → Status → Request → Type 0
AskedCaused Is objects l before after status (to_report u files) = FileCaused (Is u) u files before after status
AskedCaused Is objects l before after status (to_record u r) = RecordCaused l u r before after status
AskedCaused Is objects l before after status (to_claim c) = ClaimCaused objects c before after status
AskedCaused Is objects l before after status (to_demo u count way) = DemoCaused u count way before after status
AskedCaused Is objects l before after status (to_meet u s) = SitesCaused u s before after status
AskedCaused Is objects l before after status (to_lint project) = LintCaused (known objects) project before after status

-- the words are not read
pub record IsUsage (given : List (List ℕ)) (before after : Told) (status : Status) : Type 0 where
  pub status_is : status ≡ Usage
  pub not_read : AskForNothing given
  pub unwritten : IsUnwritten before after

-- the words ask for this alone, which is the cause
pub record HasCause (Is : Setup → Texts) (objects : List Used) (given : List (List ℕ)) (l : Lent) (before after : Told) (status : Status) : Type 0 where
  pub asked : words.Asked
  pub read : AskOnlyFor given asked
  pub permitted : words.IsPermitted asked
  pub caused : AskedCaused Is objects l before after status (request objects asked)

-- Usage exactly where the words are not read; else the cause for what they ask for
abbrev pub WordsCaused : (Setup → Texts) → List Used → List (List ℕ) → Lent → Told → Told → Status → Type 0
WordsCaused Is objects given l before after status = IsUsage given before after status ⊎ HasCause Is objects given l before after status
