-- What is true of what is asked for.
use Rattle.std.specs.Prelude.{ℕ, ◌≡◌, ◌≤◌, Bool, true, List, ◌++◌, length, Some}
use Rattle.asl_term.specs.declared.syntax.Filed.{Filed}
use Rattle.asl_cycle.specs.Agent.{Mindset, agent_kind}
use Rattle.mas_mind.specs.Minds.{IsAgent}
use Rattle.mas_board.specs.Boards.{all_quiet}
use Rattle.mas_board.specs.Seating.{AreLed}
use Rattle.mas_core.specs.Platform.{Platform, run}
use Rattle.mas_core_laws.specs.Mail.{sent, taken, unread}
use Rattle.mas_core_laws.specs.Quiet.{turn_on, run_on, IsQuietTurn}
use Rattle.mas_report_schedule.specs.Schedule.{IsVersion, schedule_text, printed}
use Rattle.mas_io.specs.Causes.{Rose}
use Rattle.mas_top_files.specs.declared.sources.Source.{Source}
use Rattle.mas_top_status.specs.declared.status.Status.{Status}
use Rattle.mas_top_status.specs.declared.status.Status.TheVariants.{Memory}
use Rattle.mas_top_files.specs.Files.{most_report_bytes}
use Rattle.mas_top_files.specs.Laws.{Surely}
use Rattle.mas_report.specs.Limits.{IsWithin}
use Rattle.mas_report.specs.Report.{latest, IsReport, IsRenewal}
use Rattle.mas_top_check.specs.Checking.{IsOwn}
use Rattle.mas_top_opening.specs.Opening.{Setup, opening}
use Rattle.mas_top.specs.Runs.{Wanted, Given, given, IsFollowed, HasGiven, FileRefused}
use Rattle.mas_top.specs.Headline.{IsReportOf, IsRunReportOf}
use Rattle.mas_top.specs.Ways.{along}

-- where files describe what is run, none of them is refused, unless the count of faults rose or memory lacked
abbrev pub NotRefused : Type 0
NotRefused =
    (u : Setup) (files : List Filed) (wanted : Wanted) (g : Given) (before after : ℕ) (status : Status) → HasGiven u (Some files) wanted g →
    (Rose before after → ⊥) → FileRefused u (Some files) wanted before after status → status ≡ Memory

-- the project or the schedule is refused with one status at most, unless the count of faults rose or memory lacked
abbrev pub OneRefusal : Type 0
OneRefusal =
    (u : Setup) (files : List Filed) (wanted : Wanted) (a b : Status) →
    Surely (FileRefused u (Some files) wanted) a → Surely (FileRefused u (Some files) wanted) b → a ≡ b

-- ---- a report can be repeated

-- its last two lines are such a file as a replay reads, along which the source runs to its end, and the report of that run is this one
pub record IsRepeatable (u : Setup) (source : Source) (spent : Bool) (w : List ℕ) : Type 0 where
  pub front : List ℕ
  pub ends : w ≡ front ++ schedule_text latest (printed w)
  pub short : length (schedule_text latest (printed w)) ≤ most_report_bytes
  pub followed : IsFollowed u source (schedule_text latest (printed w)) (printed w)
  pub again : (other : Bool) (v : List ℕ) → IsRunReportOf u other (given source (along (printed w))) v → (v ≡ w) × (other ≡ spent)

-- so is each report of what files describe
abbrev pub CanRepeat : Type 0
CanRepeat =
    (u : Setup) (files : List Filed) (wanted : Wanted) (g : Given) (spent : Bool) (w : List ℕ) → HasGiven u (Some files) wanted g →
    IsReportOf u spent g w → IsRepeatable u g.source spent w

-- ---- a report can be checked

-- each report of what files describe, of any version, with options within their limits, is that of the options and the schedule in it
abbrev pub CanCheck : Type 0
CanCheck =
    (u : Setup) (files : List Filed) (wanted : Wanted) (g : Given) (version : ℕ) (spent : Bool) (w : List ℕ) → IsWithin u.options →
    HasGiven u (Some files) wanted g → IsVersion version → IsReport agent_kind version u.options (opening u g.source) spent w → IsOwn u.objects g.source w

-- ---- a report can be renewed

-- the report anew of one that files describe is the report of the same run, and no other text is
abbrev pub CanRenew : Type 0
CanRenew =
    (u : Setup) (source : Source) (version : ℕ) (spent other : Bool) (w v x : List ℕ) → IsReport agent_kind version u.options (opening u source) spent w →
    IsReport agent_kind latest u.options (opening u source) other v → printed v ≡ printed w →
    IsRenewal agent_kind u.options (opening u source) (printed w) x → (x ≡ v) × (other ≡ spent)

-- ---- what is true of the run that a report tells

pub record KeepsLaws (u : Setup) (source : Source) (names : List ℕ) (done : Platform Mindset) : Type 0 where
  -- after no turn is an agent that has not left further ahead of another than the lead
  pub led : (front back : List ℕ) (q : Platform Mindset) → names ≡ front ++ back → run agent_kind (opening u source) front ≡ Some q →
      AreLed u.options.lead q.board.seats
  -- what one agent posted to another is what that one took and what it has not read, in this order
  pub mail : (s r : ℕ) → IsAgent (length source.names) r →
      sent agent_kind (opening u source) names s r ≡ taken agent_kind (opening u source) names s r ++ unread done s r
  -- nothing would have come of going on where all were quiet
  pub quiet : (front back more : List ℕ) (p q r : Platform Mindset) (a : ℕ) → names ≡ front ++ back →
      run agent_kind (opening u source) front ≡ Some p →
      all_quiet p.board ≡ true → run_on agent_kind p more ≡ Some q → turn_on agent_kind q a ≡ Some r → IsQuietTurn q a r

abbrev pub ReportsKeepLaws : Type 0
ReportsKeepLaws = (u : Setup) (g : Given) (spent : Bool) (w : List ℕ) (r : IsReportOf u spent g w) → KeepsLaws u g.source (printed w) r.done
