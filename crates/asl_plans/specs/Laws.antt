-- What is true of the plans of a library.
use Rattle.std.specs.Prelude.{◌≡◌, ℕ, true, List, Some}
use Rattle.std.specs.List.{slice_get}
use Rattle.asl_term.specs.declared.syntax.Plan.{Plan}
use Rattle.asl_plans.specs.declared.entry.OwnedPlan.{OwnedPlan}
use Rattle.asl_plans.specs.declared.entry.Which.{Which}
use Rattle.asl_plans.specs.Libraries.{is_owned, added, opened, dropped, AreEntries}

-- rule: what is from an owner stays from that owner
abbrev pub KeepsOwner : ℕ → List OwnedPlan → List OwnedPlan → Type 0
KeepsOwner o before after = (p : Plan) → is_owned p o before ≡ true → is_owned p o after ≡ true

-- a plan that is added takes nothing away
abbrev pub AddingKeeps : Type 0
AddingKeeps = (q : Plan) (r o : ℕ) (lib : List OwnedPlan) → KeepsOwner o lib (added q r lib)

-- who takes plans back takes nothing from another one
abbrev pub DroppingKeeps : Type 0
DroppingKeeps = (w : Which) (r o : ℕ) (lib : List OwnedPlan) → (o ≡ r → ⊥) → KeepsOwner o lib (dropped w r lib)

-- each plan of a source is from the source
abbrev pub SourceOwns : Type 0
SourceOwns = (plans : List Plan) (k : ℕ) (p : Plan) → slice_get plans k ≡ Some p → is_owned p 0 (opened plans) ≡ true

-- of a source, and whatever is added and dropped: no two plans are the same, and each is from someone

abbrev pub OpenedAreEntries : Type 0
OpenedAreEntries = (plans : List Plan) → AreEntries (opened plans)

abbrev pub AddedAreEntries : Type 0
AddedAreEntries = (p : Plan) (o : ℕ) (lib : List OwnedPlan) → AreEntries lib → AreEntries (added p o lib)

abbrev pub DroppedAreEntries : Type 0
DroppedAreEntries = (w : Which) (o : ℕ) (lib : List OwnedPlan) → AreEntries lib → AreEntries (dropped w o lib)
