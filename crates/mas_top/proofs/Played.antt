-- What is run of the files that are asked for.
use Rattle.std.proofs.Common.{ℕ, ◌≡◌, ◌≤◌, inl, inr, Bool, List, Option, refl}
use Rattle.asl_term.specs.declared.syntax.Filed.{Filed}
use Rattle.asl_cycle.specs.Agent.{agent_kind}
use Rattle.mas_world.specs.Worlds.{Used}
use Rattle.mas_core.specs.Replay.{Faulted}
use Rattle.mas_core.specs.declared.replay.PlayFault.{PlayFault}
use Rattle.mas_io.specs.declared.shelf.Fetched.TheVariants.{Bytes}
use Rattle.mas_report_schedule.specs.Reading.{IsSchedule}
use Rattle.mas_top_files.specs.declared.sources.Source.{Source}
use Rattle.mas_top_status.specs.declared.status.Status.{Status}
use Rattle.mas_top_files.specs.Files.{Has, HasFile, IsRefusal, unfetched, IsUnfetched, most_report_bytes}
use Rattle.mas_top_files.specs.Known.{known}
use Rattle.mas_top_files.specs.Sources.{HasSource, FirstRefused, AreRefused}
use Rattle.mas_top_files.proofs.Fetched.{refused_by, refusal_from}
use Rattle.mas_top_files.proofs.Unless.{unless, unless_as}
use Rattle.mas_report.specs.declared.options.Options.{Options}
use Rattle.mas_top_opening.specs.Opening.{Setup, setup, opening}
use Rattle.mas_top_opening.proofs.Able.{can_run}
use Rattle.mas_top.specs.Runs.{by_workers, by_file, Wanted, wanted, given, IsStopped, IsUnfollowed, schedule_status, schedules, FileRefused, GivenRefused}
use Rattle.mas_top.specs.declared.playing.ScheduleFault.{ScheduleFault}
use Rattle.mas_top.specs.Ways.{along, way_of}
use Rattle.mas_top.specs.Caused.{ForFiles}
use Rattle.mas_top.specs.Headline.{IsRunReport, IsRunReportOf}
use Rattle.mas_top.specs.Playing.{IsReplayed, ForSchedule}

-- ---- the bytes of a schedule

module _ (u : Setup) (source : Source) (bytes names : List ℕ) where
  pub followed : (spent : Bool) (w : List ℕ) → IsSchedule bytes names → IsReplayed agent_kind u.options (opening u source) names spent w → ForSchedule u source bytes spent w
  followed spent w h r = record { names = names; followed = record { is = h; leads = r.leads }; report = r.report }

  pub stopped : (why : PlayFault) → IsSchedule bytes names → Faulted agent_kind (opening u source) names why → IsStopped u source bytes why
  stopped why h r = record { names = names; is = h; stopped = r }

-- ---- its file

pub unread : (u : Setup) (source : Source) (name : List ℕ) (held : Option (List Filed)) (before after : ℕ) (status : Status) →
    IsUnfetched 268435456 name held before after status → IsRefusal (schedules u source) name held before after status
unread u source name held before after status h = unfetched h

pub replayed_file : (u : Setup) (source : Source) (held : Option (List Filed)) (name bytes : List ℕ) (spent : Bool) (w : List ℕ) → Has 268435456 held name (Bytes bytes) →
    ForSchedule u source bytes spent w → HasFile most_report_bytes held name (λ b. ForSchedule u source b spent w)
replayed_file u source held name bytes spent w h r = record { bytes = bytes; has = h; are = r }

pub not_replayed : (u : Setup) (source : Source) (name : List ℕ) (held : Option (List Filed)) (before after : ℕ) (bytes : List ℕ) (why : ScheduleFault) (status : Status) →
    Has 268435456 held name (Bytes bytes) → IsUnfollowed u source bytes why → status ≡ schedule_status name why → IsRefusal (schedules u source) name held before after status
not_replayed u source = refused_by (schedules u source)

-- ---- what is asked for

pub ran : (o : Options) (objects : List Used) (held : Option (List Filed)) (word : List ℕ) (source : Source) (workers : ℕ) (spent : Bool) (w : List ℕ) →
    HasSource (known objects) o.cycles held word source → IsRunReport agent_kind o (opening (setup o objects) source) (way_of workers) spent w →
    ForFiles (IsRunReportOf (setup o objects)) (setup o objects) held (wanted word (by_workers workers)) spent w
ran o objects held word source workers spent w h r = record { given = given source (way_of workers); has = record { source = h; way = refl }; is = r }

pub replayed : (o : Options) (objects : List Used) (held : Option (List Filed)) (word : List ℕ) (source : Source) (name : List ℕ) (spent : Bool) (w : List ℕ) →
    HasSource (known objects) o.cycles held word source → HasFile most_report_bytes held name (λ b. ForSchedule (setup o objects) source b spent w) →
    ForFiles (IsRunReportOf (setup o objects)) (setup o objects) held (wanted word (by_file name)) spent w
replayed o objects held word source name spent w h r =
    record {
      given = given source (along r.are.names);
      has = record { source = h; way = record { bytes = r.bytes; has = r.has; are = r.are.followed } };
      is = r.are.report;
    }

pub no_source : (o : Options) (objects : List Used) (held : Option (List Filed)) (a : Wanted) (before after : ℕ) (status : Status) →
    AreRefused (known objects) o.cycles held a.project before after status → GivenRefused (setup o objects) held a before after status
no_source o objects held a before after status r =
    unless_as (FirstRefused (known objects) o.cycles held a.project before after) (FileRefused (setup o objects) held a before after) (λ s h. inl h) status r

pub no_schedule : (o : Options) (objects : List Used) (held : Option (List Filed)) (word : List ℕ) (source : Source) (name : List ℕ) (first before after : ℕ) (status : Status) → first ≤ before →
    HasSource (known objects) o.cycles held word source → IsRefusal (schedules (setup o objects) source) name held before after status → GivenRefused (setup o objects) held (wanted word (by_file name)) first after status
no_schedule o objects held word source name first before after status l h r =
    unless (FileRefused (setup o objects) held (wanted word (by_file name)) first after) status
    (inr (record { source = source; read = h; name = name; named = refl; why = refusal_from (schedules (setup o objects) source) name held first before after status l r }))

-- what becomes of what is asked for
pub ruleset asked_for = (can_run, ran, replayed, no_source, no_schedule)
