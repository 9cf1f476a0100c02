-- How a call of `jasonlook` ended, and the cause of each end.
use Rattle.std.specs.Prelude.{ℕ, ◌≡◌, Bool, List, Option, None, Some, Result, Ok, Err}
use Rattle.mas_io.specs.Causes.{Rose}
use Rattle.mas_io.specs.Sink.{grown}
use Rattle.mas_io.specs.Told.{Told, IsUnwritten}
use Rattle.mas_io.specs.Writing.{IsCut, Wrote, WroteSome}
use Rattle.mas_top_status.specs.declared.status.Status.TheVariants.{Memory}
use Rattle.mas_world.specs.Worlds.{Used}
use Rattle.look_answer.specs.declared.answer.LookFault.{LookFault}
use Rattle.look_answer.specs.declared.answer.LookFault.TheVariants.{Ended}
use Rattle.look_answer.specs.declared.answer.Output.{Output}
use Rattle.look_answer.specs.Answers.{found_code, fault_code}
use Rattle.look_top.specs.Asked.{Asked, asked}
use Rattle.look_top.specs.declared.ends.LookEnd.{LookEnd}
use Rattle.look_top.specs.declared.ends.LookEnd.TheVariants.{Written, Refused, Cut, Usage}
use Rattle.look_top.specs.Outputs.{IsOutput, Lacks}

abbrev pub end_code : LookEnd → ℕ
end_code (Written found) = found_code found
end_code (Refused fault) = fault_code fault
end_code Cut = 5
end_code Usage = 2

-- ---- of a command that writes such an output, and has none for such a fault

module _ (Is : Bool → List ℕ → Type 0) (Faulty : LookFault → Type 0) where
  -- there is no output, and nothing is written
  pub record IsRefused (before after : Told) (fault : LookFault) : Type 0 where
    pub why : Faulty fault
    pub unwritten : IsUnwritten before after

  pub record IsSome (text : List ℕ) : Type 0 where
    pub found : Bool
    pub is : Is found text

  abbrev pub Caused : Told → Told → LookEnd → Type 0
  Caused before after (Written found) = Wrote (Is found) before after
  Caused before after (Refused fault) = IsRefused before after fault
  Caused before after Cut = WroteSome IsSome before after
  Caused before after Usage = ⊥

-- ---- of the words

-- of words that are not read
abbrev pub UsageCaused : Told → Told → LookEnd → Type 0
UsageCaused before after (Written found) = ⊥
UsageCaused before after (Refused fault) = (fault ≡ Ended Memory) × IsUnwritten before after
UsageCaused before after Cut = ⊥
UsageCaused before after Usage = IsUnwritten before after

-- where the words ask for this, and there are these artifacts and this standard input
abbrev pub AskedCaused : List Used → Option (List ℕ) → Option Asked → Told → Told → LookEnd → Type 0
AskedCaused objects input None before after end = UsageCaused before after end
AskedCaused objects input (Some a) before after end =
    Caused
    (IsOutput objects input before.held before.shelf_faults after.shelf_faults a)
    (Lacks objects input before.held before.shelf_faults after.shelf_faults a)
    before after end

abbrev pub WordsCaused : List Used → Option (List ℕ) → List (List ℕ) → Told → Told → LookEnd → Type 0
WordsCaused objects input words = AskedCaused objects input (asked words)

-- ---- what is written of an output: all, or a part of it, or nothing where there is none

abbrev pub WroteOutput : Result Output LookFault → Option (List ℕ) → Option (List ℕ) → ℕ → ℕ → LookEnd → Type 0
WroteOutput (Ok o) old new before now (Written found) = (found ≡ o.found) × (new ≡ grown old o.text)
WroteOutput (Ok o) old new before now Cut = Rose before now × IsCut old new o.text
WroteOutput (Ok o) old new before now _ = ⊥
WroteOutput (Err why) old new before now (Refused fault) = (fault ≡ why) × (new ≡ old)
WroteOutput (Err why) old new before now _ = ⊥
