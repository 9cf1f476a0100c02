-- The event of a goal that a plan serves has a relevant plan.
use Rattle.std.proofs.Common.{◌≡◌, ℕ, Bool, true, false, ◌||◌, if◌then◌else◌, List, [], ◌∷◌, ◌++◌, refl, ap, codes}
use Rattle.asl_term.specs.declared.syntax.Kind.{Kind}
use Rattle.asl_term.specs.declared.syntax.LiteralOf.{LiteralOf}
use Rattle.asl_term.specs.declared.syntax.Term.{Term}
use Rattle.asl_term.specs.declared.syntax.Term.TheOpen as layer
use Rattle.asl_term.proofs.Terms.{out_made}
use Rattle.asl_beliefs.specs.Sources.{plain, is_source, layer_is_source, with_annots, with_source, names_source, source_self}
use Rattle.asl_lint_laws.specs.Fresh.{late, LiteralBelow}
use Rattle.asl_plans.specs.declared.entry.OwnedPlan.{OwnedPlan}
use Rattle.asl_lint_laws.specs.Written.{IsSourced}
use Rattle.asl_lint_laws.specs.Served.{here, further, AreSource, IsServed, goal_trigger}
use Rattle.asl_lint_laws.proofs.Instances.{instance_annots}
use Rattle.asl_lint_laws.proofs.Relevant.{served_is_relevant}
use Rattle.asl_lint_laws.specs.Agendas.{IsOlder, IsAnswered}
use Rattle.asl_lint_laws.proofs.Ages.{below_with, older_with, older_apart}
use Rattle.asl_lint_laws.proofs.Failing.{tag_weight, tag_merged, taken_by}
use Rattle.asl_lint_laws.specs.Rows.{GoalIsServed}

-- ---- with other annotations

pub served_annots : (k : Kind) (g : LiteralOf Term) (annots : List Term) (plans : List OwnedPlan) → IsServed k plans g → IsServed k plans (record g { annots = annots })
served_annots k g annots [] s = elim s [ ]
served_annots k g annots (p ∷ ps) (here s) = here (record {
  add = s.add;
  kind = s.kind;
  covered = record { instance = instance_annots p.plan.trigger.lit g annots s.covered.instance; any_source = s.covered.any_source };
})
served_annots k g annots (p ∷ ps) (further s) = further (served_annots k g annots ps s)

-- the last annotation names a source
pub last_source : (annots : List Term) (a : Term) → is_source a ≡ true → names_source (annots ++ a ∷ []) ≡ true
last_source [] a e = ap (λ b. b || false) e
last_source (x ∷ more) a e = go (is_source x) (last_source more a e) where
  go : (b : Bool) → names_source (more ++ a ∷ []) ≡ true → (b || names_source (more ++ a ∷ [])) ≡ true
  go true e = refl
  go false e = e

-- ---- default source

self_is_source : is_source source_self ≡ true
self_is_source = ap layer_is_source (out_made (layer.Lit (record { neg = false; functor = codes "source"; args = plain (codes "self") [] ∷ []; annots = [] })))

pub source_below : (n : ℕ) (g : LiteralOf Term) → LiteralBelow n g → LiteralBelow n (with_source g)
source_below n g b = go (names_source g.annots) where
  go : (d : Bool) → LiteralBelow n (if d then g else with_annots g (g.annots ++ source_self ∷ []))
  go true = b
  go false = below_with n g source_self b (tag_weight (late n) (codes "source") (codes "self"))

source_older : (n : ℕ) (g : LiteralOf Term) → IsOlder n g → IsOlder n (with_source g)
source_older n g o = go (names_source g.annots) where
  go : (d : Bool) → IsOlder n (if d then g else with_annots g (g.annots ++ source_self ∷ []))
  go true = o
  go false = older_with n g source_self o (tag_weight (late n) (codes "source") (codes "self")) (tag_merged (codes "source") (codes "self"))

source_named : (g : LiteralOf Term) → IsSourced (with_source g)
source_named g = go (names_source g.annots) refl where
  go : (d : Bool) → names_source g.annots ≡ d → IsSourced (if d then g else with_annots g (g.annots ++ source_self ∷ []))
  go true e = e
  go false e = last_source g.annots source_self self_is_source

source_served : (k : Kind) (g : LiteralOf Term) (plans : List OwnedPlan) → IsServed k plans g → IsServed k plans (with_source g)
source_served k g plans s = go (names_source g.annots) where
  go : (d : Bool) → IsServed k plans (if d then g else with_annots g (g.annots ++ source_self ∷ []))
  go true = s
  go false = served_annots k g (g.annots ++ source_self ∷ []) plans s

-- ---- the event

pub served_answered : (plans : List OwnedPlan) → AreSource plans → (n : ℕ) (k : Kind) (g : LiteralOf Term) → IsServed k plans g → IsOlder n g → IsSourced g
    → IsAnswered plans n (goal_trigger k g)
served_answered plans source n k g s o named m l = served_is_relevant plans k g m source s (older_apart n m l g o) named

pub goal_is_served : GoalIsServed
goal_is_served names texts plans source n k g stack s o below =
    let older = source_older n g o in record {
      below = older.below;
      taken = taken_by names texts plans n (goal_trigger k (with_source g)) k
          (served_answered plans source n k (with_source g) (source_served k g plans s) older (source_named g)) older.merged;
      stack = below;
    }
