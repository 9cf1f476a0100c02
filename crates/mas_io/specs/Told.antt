-- What is told of a shelf and a sink.
use Rattle.std.specs.Prelude.{ℕ, ◌≡◌, ◌≤◌, List, Option}
use Rattle.asl_term.specs.declared.syntax.Filed.{Filed}

-- at one moment: what the shelf holds and what was written to the sink, where they tell it, and how often each
-- has failed
pub record Told : Type 0 where
  pub held : Option (List Filed)
  pub shelf_faults : ℕ
  pub written : Option (List ℕ)
  pub sink_faults : ℕ

-- by the meanings of a shelf and of a sink
abbrev pub told_of : {S K : Type 0} → (S → Option (List Filed)) → (S → ℕ) → (K → Option (List ℕ)) → (K → ℕ) → S → K → Told
told_of holds shelf_faults written sink_faults shelf sink = record {
  held = holds shelf;
  shelf_faults = shelf_faults shelf;
  written = written sink;
  sink_faults = sink_faults sink;
}

-- the shelf holds what it held, and neither count of faults fell
pub record IsKept (before after : Told) : Type 0 where
  pub held : after.held ≡ before.held
  pub shelf : before.shelf_faults ≤ after.shelf_faults
  pub sink : before.sink_faults ≤ after.sink_faults

-- nothing was written
abbrev pub IsUnwritten : Told → Told → Type 0
IsUnwritten before after = after.written ≡ before.written
