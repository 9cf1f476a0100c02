-- What a source covers is served by the plans with which its agent begins.
use Rattle.std.proofs.Common.{◌≡◌, ℕ, Bool, true, false, ◌&&◌, ◌||◌, cond, List, [], ◌∷◌, ◌++◌, refl, sym, subst}
use Rattle.std.proofs.lemmas.Bool.{false≢true}
use Rattle.std.specs.List.{AllByRecursion, list_any}
use Rattle.asl_term.specs.declared.syntax.Kind.{Kind}
use Rattle.asl_term.specs.declared.syntax.Kind.TheVariants as kind
use Rattle.asl_term.specs.declared.syntax.LiteralOf.{LiteralOf}
use Rattle.asl_term.specs.declared.syntax.Plan.{Plan}
use Rattle.asl_term.specs.declared.syntax.Term.{Term}
use Rattle.asl_unify.proofs.General.{and_true}
use Rattle.asl_plans.specs.declared.entry.OwnedPlan.{OwnedPlan}
use Rattle.asl_plans.specs.Plans.{same_kind}
use Rattle.asl_plans.specs.Same.{same_plan}
use Rattle.asl_plans.specs.Libraries.{owns, with_owner, entry, added, all_added, opened}
use Rattle.asl_plans.proofs.OwnedPlans.{owner_plan}
use Rattle.asl_plans.proofs.SamePlans.{plan_true}
use Rattle.asl_lint.specs.Covers.{covers}
use Rattle.asl_lint.specs.Goals.{is_achieve, is_test, achieves, tests}
use Rattle.asl_lint.specs.Instances.{IsCovered, AreTidy, AreMerged}
use Rattle.asl_lint.proofs.Finding.{covers_tells}
use Rattle.asl_lint_laws.specs.Written.{IsWritten, AreWritten}
use Rattle.asl_lint_laws.specs.Served.{SomeEntry, here, further, HasWritten, AreSource, Serves, IsServed, SourceServes, SourceOpens}

-- ---- what holds of plans holds of the entries that begin with them

module _ (P : Plan → Type 0) where
  abbrev Some : List OwnedPlan → Type 0
  Some = SomeEntry (λ e. P e.plan)

  abbrev Each : List OwnedPlan → Type 0
  Each = AllByRecursion (λ e. P e.plan)

  -- a plan that is added is there
  some_new : (p : Plan) (o : ℕ) (lib : List OwnedPlan) → P p → Some (added p o lib)
  some_new p o [] h = here h
  some_new p o (e ∷ more) h = go (same_plan p e.plan) refl (some_new p o more h) where
    go : (b : Bool) → same_plan p e.plan ≡ b → Some (added p o more) → Some (cond b (with_owner o e ∷ more) (e ∷ added p o more))
    go true same s = here (subst P (sym (owner_plan o e)) (subst P (plan_true p e.plan same) h))
    go false same s = further s

  -- and the others stay
  some_added : (p : Plan) (o : ℕ) (lib : List OwnedPlan) → Some lib → Some (added p o lib)
  some_added p o [] s = elim s [ ]
  some_added p o (e ∷ more) (here h) = go (same_plan p e.plan) where
    go : (b : Bool) → Some (cond b (with_owner o e ∷ more) (e ∷ added p o more))
    go true = here (subst P (sym (owner_plan o e)) h)
    go false = here h
  some_added p o (e ∷ more) (further s) = go (same_plan p e.plan) (some_added p o more s) where
    go : (b : Bool) → Some (added p o more) → Some (cond b (with_owner o e ∷ more) (e ∷ added p o more))
    go true later = further s
    go false later = further later

  some_stays : (ps : List Plan) (o : ℕ) (lib : List OwnedPlan) → Some lib → Some (all_added ps o lib)
  some_stays [] o lib s = s
  some_stays (p ∷ ps) o lib s = some_stays ps o (added p o lib) (some_added p o lib s)

  -- a plan that passes a test is there once all are added
  some_opened : (f : Plan → Bool) → ((p : Plan) → HasWritten p → f p ≡ true → P p) → (ps : List Plan) (o : ℕ) (lib : List OwnedPlan) → AllByRecursion HasWritten ps
      → list_any f ps ≡ true → Some (all_added ps o lib)
  some_opened f serve [] o lib a e = absurd (false≢true e)
  some_opened f serve (p ∷ ps) o lib a e = go (f p) refl (some_opened f serve ps o (added p o lib) a.1) e where
    go : (b : Bool) → f p ≡ b → (list_any f ps ≡ true → Some (all_added ps o (added p o lib))) → (b || list_any f ps) ≡ true
        → Some (all_added ps o (added p o lib))
    go true d more e = some_stays ps o (added p o lib) (some_new p o lib (serve p a.0 d))
    go false d more e = more e

  each_added : (p : Plan) (o : ℕ) (lib : List OwnedPlan) → P p → Each lib → Each (added p o lib)
  each_added p o [] h a = (h, tt)
  each_added p o (e ∷ more) h a = go (same_plan p e.plan) (each_added p o more h a.1) where
    go : (b : Bool) → Each (added p o more) → Each (cond b (with_owner o e ∷ more) (e ∷ added p o more))
    go true later = (subst P (sym (owner_plan o e)) a.0, a.1)
    go false later = (a.0, later)

  each_opened : (ps : List Plan) (o : ℕ) (lib : List OwnedPlan) → AllByRecursion P ps → Each lib → Each (all_added ps o lib)
  each_opened [] o lib a e = e
  each_opened (p ∷ ps) o lib a e = each_opened ps o (added p o lib) a.1 (each_added p o lib a.0 e)

pub source_opens : SourceOpens
source_opens plans a = each_opened HasWritten plans 0 [] a tt

are_tidy : (ts : List Term) → AreWritten ts → AreTidy ts
are_tidy [] a = tt
are_tidy (t ∷ ts) a = (a.0.tidy, are_tidy ts a.1)

module _ (is : Kind → Bool) (k : Kind) (same : (j : Kind) → is j ≡ true → same_kind j k ≡ true) (g : LiteralOf Term) (merged : AreMerged g.args) where
  abbrev passes : Plan → Bool
  passes p = p.trigger.add && is p.trigger.kind && covers p.trigger.lit g

  serves : (p : Plan) → HasWritten p → passes p ≡ true → Serves k g p
  serves p w e =
      let a = and_true (p.trigger.add && is p.trigger.kind) _ e in
      let b = and_true p.trigger.add _ a.0 in
      record { add = b.0; kind = same p.trigger.kind b.1; covered = (covers_tells p.trigger.lit g (are_tidy p.trigger.lit.args w.args) merged).0 a.1 }

  served : (plans : List Plan) → AllByRecursion HasWritten plans → list_any passes plans ≡ true → IsServed k (opened plans) g
  served plans a e = some_opened (Serves k g) passes serves plans 0 [] a e

achieve_kind : (j : Kind) → is_achieve j ≡ true → same_kind j kind.Achieve ≡ true
achieve_kind kind.Achieve e = refl
achieve_kind kind.Belief e = absurd (false≢true e)
achieve_kind kind.Test e = absurd (false≢true e)

test_kind : (j : Kind) → is_test j ≡ true → same_kind j kind.Test ≡ true
test_kind kind.Test e = refl
test_kind kind.Belief e = absurd (false≢true e)
test_kind kind.Achieve e = absurd (false≢true e)

pub source_serves : SourceServes
source_serves plans g a merged =
    (served is_achieve kind.Achieve achieve_kind g merged plans a, served is_test kind.Test test_kind g merged plans a)
