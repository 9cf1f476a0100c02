-- A library: plans, each with those who it is from.
use Rattle.std.specs.Prelude.{◌≡◌, ℕ, Bool, true, false, not, ◌&&◌, ◌==◌, if◌then◌else◌, List, [], ◌∷◌, ◌++◌, map, filter, Option, None, Some}
use Rattle.std.specs.List.{list_all, list_any, slice_get}
use Rattle.std.specs.Option.{option_map}
use Rattle.asl_term.specs.declared.syntax.Plan.{Plan}
use Rattle.asl_plans.specs.declared.entry.OwnedPlan.{OwnedPlan}
use Rattle.asl_plans.specs.declared.entry.Which.{Which}
use Rattle.asl_plans.specs.declared.entry.Which.TheVariants as which
use Rattle.std.specs.Str.{bytes_eq}
use Rattle.asl_plans.specs.Same.{same_plan}

-- the plan at a place
abbrev pub plan_at : List OwnedPlan → ℕ → Option Plan
plan_at lib k = option_map (λ e. e.plan) (slice_get lib k)

-- whether a library has a plan
abbrev pub has_plan : Plan → List OwnedPlan → Bool
has_plan p lib = list_any (λ e. same_plan p e.plan) lib

-- whether a plan is from this owner, 0 for the source of the agent or the number of an agent
abbrev pub owns : ℕ → OwnedPlan → Bool
owns o e = list_any (λ x. x == o) e.owners

-- whether a library has a plan from this owner
abbrev pub is_owned : Plan → ℕ → List OwnedPlan → Bool
is_owned p o lib = list_any (λ e. same_plan p e.plan && owns o e) lib

-- ---- a plan is added

-- the owner goes last, unless it is there already
abbrev pub with_owner : ℕ → OwnedPlan → OwnedPlan
with_owner o e = if owns o e then e else record { plan = e.plan; owners = e.owners ++ o ∷ [] }

-- a plan with its first owner
abbrev pub entry : Plan → ℕ → OwnedPlan
entry p o = record { plan = p; owners = o ∷ [] }

-- rule: a plan that is there has one owner more, another goes last
abbrev pub added : Plan → ℕ → List OwnedPlan → List OwnedPlan
added p o [] = entry p o ∷ []
added p o (e ∷ more) = if same_plan p e.plan then with_owner o e ∷ more else e ∷ added p o more

-- plans that are added one after another
abbrev pub all_added : List Plan → ℕ → List OwnedPlan → List OwnedPlan
all_added [] o lib = lib
all_added (p ∷ more) o lib = all_added more o (added p o lib)

-- rule: the plans of a source, equal ones once
abbrev pub opened : List Plan → List OwnedPlan
opened plans = all_added plans 0 []

-- ---- plans are dropped

abbrev pub has_label : List ℕ → Option (List ℕ) → Bool
has_label l None = false
has_label l (Some label) = bytes_eq l label

-- that plan, or one with that label
abbrev pub is_meant : Which → Plan → Bool
is_meant (which.Same p) q = same_plan p q
is_meant (which.Label l) q = has_label l q.label

abbrev pub without_owner : ℕ → OwnedPlan → OwnedPlan
without_owner o e = record { plan = e.plan; owners = filter (λ x. not (x == o)) e.owners }

-- what is meant loses the owner
abbrev pub lost : Which → ℕ → OwnedPlan → OwnedPlan
lost w o e = if is_meant w e.plan then without_owner o e else e

abbrev pub has_owner : OwnedPlan → Bool
has_owner e = list_any (λ x. true) e.owners

-- rule: what is meant loses the owner, and what has no owner left goes
abbrev pub dropped : Which → ℕ → List OwnedPlan → List OwnedPlan
dropped w o lib = filter has_owner (map (lost w o) lib)

-- ---- no two entries have equal plans, and each plan is from someone

abbrev pub AreDistinct : List OwnedPlan → Type 0
AreDistinct [] = Unit {0}
AreDistinct (e ∷ more) = (has_plan e.plan more ≡ false) × AreDistinct more

pub record AreEntries (lib : List OwnedPlan) : Type 0 where
  pub distinct : AreDistinct lib
  pub owned : list_all has_owner lib ≡ true
