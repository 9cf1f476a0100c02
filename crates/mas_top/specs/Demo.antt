-- What `demo K` writes, and the cause of its status.
use Rattle.std.specs.Prelude.{ℕ, ◌≡◌, ◌⊎◌, true, List, Option, Some, codes}
use Rattle.asl_term.specs.declared.syntax.Filed.{Filed}
use Rattle.asl_cycle.specs.Agent.{agent_kind}
use Rattle.mas_mind.specs.Minds.{Kind}
use Rattle.mas_core.specs.Platform.{Platform}
use Rattle.mas_top_demo.specs.Files.{demo_files}
use Rattle.mas_top_demo.specs.Lines.{demo_text}
use Rattle.env_file.specs.Worlds.{has_name}
use Rattle.mas_io.specs.Causes.{Rose}
use Rattle.mas_io.specs.Told.{Told, IsUnwritten}
use Rattle.mas_io.specs.Writing.{Wrote, WroteSome}
use Rattle.mas_top_files.specs.Known.{known}
use Rattle.mas_top_files.specs.Sources.{HasSource, FirstRefused}
use Rattle.mas_top_files.specs.declared.sources.Source.{Source}
use Rattle.mas_top_status.specs.declared.status.Status.{Status}
use Rattle.mas_top_status.specs.declared.status.Status.TheVariants.{Ok, No, Usage, Missing, ReadFault, WriteFault, Refused, Limit, Budget, Memory, DiskFault}
use Rattle.mas_top_opening.specs.Opening.{Setup, opening}
use Rattle.mas_top.specs.Ways.{Way, IsScheduled, Leads}

-- the demo's own files, of so many agents, describe this source
abbrev pub DemoHas : Setup → ℕ → Source → Type 0
DemoHas u k source = HasSource (known u.objects) u.options.cycles (Some (demo_files k)) (codes "demo.mas2j") source

-- w tells of a run from p, of k agents, whose turns are made in this order and after which every agent has left
pub record IsToldRun {V : Type 0} (kind : Kind V) (p : Platform V) (way : Way) (k : ℕ) (w : List ℕ) : Type 0 where
  pub names : List ℕ
  pub scheduled : IsScheduled kind p way names
  pub leads : Leads kind p names
  pub is : w ≡ demo_text k leads.done.board

-- that of the demo's source
pub record IsDemo (u : Setup) (k : ℕ) (way : Way) (w : List ℕ) : Type 0 where
  pub source : Source
  pub has : DemoHas u k source
  pub told : IsToldRun agent_kind (opening u source) way k w

-- why one of the demo's files is refused, as one is that uses an artifact which is not there
abbrev pub DemoRefused : Setup → ℕ → Status → Type 0
DemoRefused u k status = FirstRefused (known u.objects) u.options.cycles (Some (demo_files k)) (codes "demo.mas2j") 0 0 status

pub record IsRefusedDemo (u : Setup) (k : ℕ) (before after : Told) (status : Status) : Type 0 where
  pub why : DemoRefused u k status
  pub unwritten : IsUnwritten before after

-- completeness: where a tally is handed in, and the sink's count of faults does not rise, the lines were written whole, or
-- the status is Memory
abbrev pub IsDemoComplete : Setup → Told → Told → Status → Type 0
IsDemoComplete u before after status =
    has_name (known u.objects) (codes "tally") ≡ true → (Rose before.sink_faults after.sink_faults → ⊥) → (status ≡ Ok) ⊎ (status ≡ Memory)

-- what is told of a sink beside a shelf
abbrev pub beside : Option (List Filed) → ℕ → Option (List ℕ) → ℕ → Told
beside held shelf_faults written sink_faults = record { held = held; shelf_faults = shelf_faults; written = written; sink_faults = sink_faults }

-- the cause of a status of `demo`, which refuses no words and reads from a shelf of which no call fails
abbrev pub DemoCaused : Setup → ℕ → Way → Told → Told → Status → Type 0
DemoCaused u k way before after Ok = Wrote (IsDemo u k way) before after
DemoCaused u k way before after No = ⊥
DemoCaused u k way before after Usage = ⊥
DemoCaused u k way before after (Missing lacked) = IsRefusedDemo u k before after (Missing lacked)
DemoCaused u k way before after ReadFault = ⊥
DemoCaused u k way before after WriteFault = WroteSome (IsDemo u k way) before after
DemoCaused u k way before after (Refused file place why) = IsRefusedDemo u k before after (Refused file place why)
DemoCaused u k way before after (Limit quantity count) = IsRefusedDemo u k before after (Limit quantity count)
DemoCaused u k way before after Budget = ⊥
DemoCaused u k way before after Memory = IsUnwritten before after
DemoCaused u k way before after DiskFault = ⊥
