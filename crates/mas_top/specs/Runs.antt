-- What is run: a source, by workers or along the schedule of a file.
use Rattle.std.specs.Prelude.{ℕ, ◌≡◌, ◌⊎◌, List, Option, Some}
use Rattle.asl_term.specs.declared.syntax.Filed.{Filed}
use Rattle.asl_cycle.specs.Agent.{agent_kind}
use Rattle.mas_core.specs.Replay.{Faulted}
use Rattle.mas_core.specs.declared.replay.PlayFault.{PlayFault}
use Rattle.mas_core.specs.declared.replay.PlayFault.TheVariants as play
use Rattle.mas_report.specs.Limits.{IsFrom}
use Rattle.mas_report_schedule.specs.Reading.{IsSchedule, IsFaultAt}
use Rattle.mas_report_schedule.specs.declared.reading.LineFault.TheVariants as line
use Rattle.mas_top_files.specs.declared.sources.Source.{Source}
use Rattle.mas_top_status.specs.declared.status.Reason.TheVariants as reason
use Rattle.mas_top_status.specs.declared.status.Status.{Status}
use Rattle.mas_top_status.specs.declared.status.Status.TheVariants.{Refused, Memory}
use Rattle.mas_top_files.specs.Files.{HasFile, Reader, IsRefusal, most_report_bytes}
use Rattle.mas_top_files.specs.Known.{known}
use Rattle.mas_top_files.specs.Laws.{Surely}
use Rattle.mas_top_files.specs.Sources.{HasSource, FirstRefused, UnlessMemory}
use Rattle.mas_top_opening.specs.Opening.{Setup, opening}
use Rattle.mas_top.specs.Ways.{Way, alone, shared, along, way_of, Leads}
use Rattle.mas_top.specs.declared.playing.ScheduleFault.{ScheduleFault}
use Rattle.mas_top.specs.declared.playing.ScheduleFault.TheVariants as fault
use Rattle.mas_top.specs.declared.playing.How as code
use Rattle.mas_top.specs.declared.playing.How.TheVariants as code_variant

-- by so many workers, or along the schedule of the file of this name
pub data How : Type 0 where
  by_workers : ℕ → How
  by_file : List ℕ → How

-- what is wanted: the run of the project of a word
pub record Wanted : Type 0 where
  pub project : List ℕ
  pub how : How

abbrev pub wanted : List ℕ → How → Wanted
wanted project how = record { project = project; how = how }

-- a source, and the order of the turns of its run
pub record Given : Type 0 where
  pub source : Source
  pub way : Way

abbrev pub given : Source → Way → Given
given source way = record { source = source; way = way }

-- the bytes are a schedule of these numbers, along which the source runs to its end
pub record IsFollowed (u : Setup) (source : Source) (bytes names : List ℕ) : Type 0 where
  pub is : IsSchedule bytes names
  pub leads : Leads agent_kind (opening u source) names

-- that is the order of the turns of workers, or the file of this name is such a schedule
abbrev pub HasWay : Setup → Option (List Filed) → Source → How → Way → Type 0
HasWay u held source (by_workers count) way = way ≡ way_of count
HasWay u held source (by_file name) alone = ⊥
HasWay u held source (by_file name) shared = ⊥
HasWay u held source (by_file name) (along names) = HasFile most_report_bytes held name (λ bytes. IsFollowed u source bytes names)

-- the files describe this
pub record HasGiven (u : Setup) (held : Option (List Filed)) (wanted : Wanted) (g : Given) : Type 0 where
  pub source : HasSource (known u.objects) u.options.cycles held wanted.project g.source
  pub way : HasWay u held g.source wanted.how g.way

-- ---- what is refused of a schedule

-- the bytes are a schedule whose numbers are no run of the source
pub record IsStopped (u : Setup) (source : Source) (bytes : List ℕ) (why : PlayFault) : Type 0 where
  pub names : List ℕ
  pub is : IsSchedule bytes names
  pub stopped : Faulted agent_kind (opening u source) names why

-- why the source is not run along the bytes; memory may lack anywhere
abbrev pub IsUnfollowed : Setup → Source → List ℕ → ScheduleFault → Type 0
IsUnfollowed u source bytes (fault.Line why) = IsFaultAt bytes why
IsUnfollowed u source bytes (fault.Play why) = IsStopped u source bytes why

abbrev pub schedule_status : List ℕ → ScheduleFault → Status
schedule_status name (fault.Line line.Memory) = Memory
schedule_status name (fault.Line (line.BadLine number)) = Refused name number reason.Line
schedule_status name (fault.Play play.Memory) = Memory
schedule_status name (fault.Play (play.Illegal place)) = Refused name place reason.Illegal
schedule_status name (fault.Play (play.Unended agent)) = Refused name agent reason.Unended

-- the reader of a schedule along which this source is run
abbrev pub schedules : Setup → Source → Reader
schedules u source = record { most = most_report_bytes; Fault = ScheduleFault; faulty = IsUnfollowed u source; status_of = schedule_status }

-- the source is described, and the file of the schedule is refused
pub record ScheduleRefused (u : Setup) (held : Option (List Filed)) (wanted : Wanted) (before after : ℕ) (status : Status) : Type 0 where
  pub source : Source
  pub read : HasSource (known u.objects) u.options.cycles held wanted.project source
  pub name : List ℕ
  pub named : wanted.how ≡ by_file name
  pub why : IsRefusal (schedules u source) name held before after status

abbrev pub FileRefused : Setup → Option (List Filed) → Wanted → ℕ → ℕ → Status → Type 0
FileRefused u held wanted before after status =
    FirstRefused (known u.objects) u.options.cycles held wanted.project before after status ⊎
    ScheduleRefused u held wanted before after status

-- none of these files is refused
abbrev pub NoneRefused : Setup → List Filed → Wanted → Type 0
NoneRefused u files wanted = (status : Status) → Surely (FileRefused u (Some files) wanted) status → ⊥

-- the first refusal of the files that are asked for
abbrev pub GivenRefused : Setup → Option (List Filed) → Wanted → ℕ → ℕ → Status → Type 0
GivenRefused u held wanted before after status = UnlessMemory (FileRefused u held wanted before after) status

-- ---- how the code asks for it

-- from 1 to 64 workers
abbrev pub CanBe : How → Type 0
CanBe (by_workers count) = IsFrom 1 64 count
CanBe (by_file name) = Unit {0}

abbrev pub how_of : code.How → How
how_of (code_variant.Workers count pool) = by_workers count
how_of (code_variant.Schedule name) = by_file name.now
