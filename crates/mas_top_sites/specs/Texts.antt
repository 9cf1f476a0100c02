-- What is written of the runs of two sites.
use Rattle.std.specs.Prelude.{ℕ, ◌≡◌, Bool, ◌||◌, List, ◌++◌, codes}
use Rattle.std.specs.List.{flat_map}
use Rattle.mas_mind.specs.declared.mind.Message.{Message}
use Rattle.mas_mind.specs.Minds.{Kind}
use Rattle.mas_report_schedule.specs.Schedule.{printed}
use Rattle.mas_report.specs.declared.options.Options.{Options}
use Rattle.mas_report.specs.Report.{latest, report_text, is_spent, message_line}
use Rattle.mas_sites_stand.specs.Seats.{seated}
use Rattle.mas_sites_scripts.specs.Sites.{Before}
use Rattle.mas_sites.specs.declared.met.Script.{Script}
use Rattle.mas_sites.specs.Results.{Ended, HaveRun, IsFold}

-- the report of a site in the end, which prints the schedule along which it ran
pub record IsSiteReport {V : Type 0} (k : Kind V) (o : Options) (site : Ended V) (w : List ℕ) : Type 0 where
  pub is : w ≡ report_text (seated k).lines latest o site.board.state site.minds site.board.schedule
  pub prints : printed w ≡ site.board.schedule

-- `for TO from FROM VERB CONTENT` for each message that is left on the way
abbrev pub between_text : List (List ℕ) → List Message → List ℕ
between_text names left = codes "between\n" ++ flat_map (message_line names) left

-- rule: the reports of both sites, and what is left between them
abbrev pub sites_text : List ℕ → List ℕ → List ℕ → List ℕ
sites_text one two between = codes "site 1\n" ++ (one ++ (codes "site 2\n" ++ (two ++ between)))

-- some end at one of the sites is `budget`
abbrev pub are_spent : {V : Type 0} → Ended V → Ended V → Bool
are_spent one two = is_spent one.board.state.seats || is_spent two.board.state.seats

-- w tells of these two sites in the end, of what is left between them, and spent whether some end is `budget`
pub record IsTold {V : Type 0} (k : Kind V) (o : Options) (one two : Ended V) (left : List Message) (spent : Bool) (w : List ℕ) : Type 0 where
  pub report_one : List ℕ
  pub report_two : List ℕ
  pub one_is : IsSiteReport k o one report_one
  pub two_is : IsSiteReport k o two report_two
  pub text : w ≡ sites_text report_one report_two (between_text one.board.state.names left)
  pub spent_is : spent ≡ are_spent one two

-- w is the text of runs of these two sites, each of them along the schedule that its report prints; what an agent sent to the
-- other site arrives there in order, and what did not arrive is left between; by one worker the sites make their rounds in turns
pub record IsSitesText {V : Type 0} (k : Kind V) (o : Options) (first second : Before V) (workers : ℕ) (spent : Bool) (w : List ℕ) : Type 0 where
  pub one : Ended V
  pub two : Ended V
  pub scripts : List Script
  pub left : List Message
  pub run : HaveRun k first second one two scripts left
  pub turns : workers ≡ 1 → IsFold k first second one two scripts left
  pub told : IsTold k o one two left spent w

-- behind the old text stands this line, and then the report of a site in the end
pub record PutsSite {V : Type 0} (k : Kind V) (o : Options) (site : Ended V) (line old new : List ℕ) : Type 0 where
  pub report : List ℕ
  pub is : IsSiteReport k o site report
  pub put : new ≡ old ++ (line ++ report)
