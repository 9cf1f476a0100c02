-- How a call ended, and the cause of each end.
use Rattle.std.specs.Prelude.{ℕ, ◌≡◌, List, Option, None, Some}
use Rattle.asl_term.specs.declared.syntax.Filed.{Filed}
use Rattle.mas_io.specs.Causes.{Rose}
use Rattle.mas_io.specs.Sink.{grown}
use Rattle.mas_io.specs.Told.{Told, IsUnwritten}
use Rattle.mas_io.specs.Writing.{IsCut, Wrote, WroteSome}
use Rattle.mas_report.specs.Limits.{defaults}
use Rattle.mas_world.specs.Worlds.{Used}
use Rattle.mas_top_files.specs.Known.{known}
use Rattle.mas_top_files.specs.Sources.{AreRefused}
use Rattle.mas_top_status.specs.declared.status.Status.{Status}
use Rattle.mas_top_status.specs.declared.status.Status.TheVariants.{Memory}
use Rattle.mas_top_status.specs.Statuses.{status_code}
use Rattle.mas_explore_top.specs.declared.ends.TheConstants.{USAGE, VERSION}
use Rattle.mas_explore_top.specs.declared.ends.ExploreEnd.{ExploreEnd}
use Rattle.mas_explore_top.specs.declared.ends.ExploreEnd.TheVariants.{Written, Refused, Cut, Usage}
use Rattle.mas_explore_top.specs.Asked.{Asked, Exploring, help, version, explore, asked}
use Rattle.mas_explore_top.specs.Explored.{IsToldIn}

abbrev pub end_code : ExploreEnd → ℕ
end_code (Written code) = code
end_code (Refused status) = status_code status
end_code Cut = 5
end_code Usage = 2

-- ---- what is asked for of all runs of a project, where there are artifacts of these kinds

module _ (objects : List Used) (e : Exploring) where
  -- this text is told of them, and the program ends with this status
  abbrev pub IsText : Option (List Filed) → ℕ → List ℕ → Type 0
  IsText held code text = IsToldIn objects held e (record { text = text; code = code })

  -- a file of the project is refused, and nothing is written
  pub record IsRefused (before after : Told) (status : Status) : Type 0 where
    pub why : AreRefused (known objects) defaults.cycles before.held e.project before.shelf_faults after.shelf_faults status
    pub unwritten : IsUnwritten before after

  pub record IsSomeText (held : Option (List Filed)) (text : List ℕ) : Type 0 where
    pub code : ℕ
    pub is : IsText held code text

  abbrev pub ExploreCaused : Told → Told → ExploreEnd → Type 0
  ExploreCaused before after (Written code) = Wrote (IsText before.held code) before after
  ExploreCaused before after (Refused status) = IsRefused before after status
  ExploreCaused before after Cut = WroteSome (IsSomeText before.held) before after
  ExploreCaused before after Usage = ⊥

-- ---- what the words ask for

-- a text was written as it is, or a part of it; or memory was wanting
abbrev pub WrotePlain : List ℕ → Option (List ℕ) → Option (List ℕ) → ℕ → ℕ → ExploreEnd → Type 0
WrotePlain text old new before now (Written code) = (code ≡ 0) × (new ≡ grown old text)
WrotePlain text old new before now (Refused status) = (status ≡ Memory) × (new ≡ old)
WrotePlain text old new before now Cut = Rose before now × IsCut old new text
WrotePlain text old new before now Usage = ⊥

-- of words that are not read
abbrev pub UsageCaused : Told → Told → ExploreEnd → Type 0
UsageCaused before after (Written code) = ⊥
UsageCaused before after (Refused status) = (status ≡ Memory) × IsUnwritten before after
UsageCaused before after Cut = ⊥
UsageCaused before after Usage = IsUnwritten before after

-- where the words ask for this
abbrev pub AskedCaused : List Used → Option Asked → Told → Told → ExploreEnd → Type 0
AskedCaused objects None before after end = UsageCaused before after end
AskedCaused objects (Some help) before after end = WrotePlain USAGE.now before.written after.written before.sink_faults after.sink_faults end
AskedCaused objects (Some version) before after end = WrotePlain VERSION.now before.written after.written before.sink_faults after.sink_faults end
AskedCaused objects (Some (explore e)) before after end = ExploreCaused objects e before after end

abbrev pub WordsCaused : List Used → List (List ℕ) → Told → Told → ExploreEnd → Type 0
WordsCaused objects words = AskedCaused objects (asked words)
