-- The plans of a source stay as they are where no plans are told.
use Rattle.std.proofs.Common.{◌≡◌, ◌==◌, ℕ, Bool, true, false, not, cond, List, [], ◌∷◌, ◌++◌, filter, Option, Some, None, refl, sym, ap, ◌∙◌}
use Rattle.std.proofs.lemmas.Bool.{eqb-true}
use Rattle.asl_term.specs.declared.syntax.Plan.{Plan}
use Rattle.asl_term.specs.declared.syntax.Term.{Term}
use Rattle.asl_unify.specs.Renamed.{renamed}
use Rattle.asl_plans.specs.declared.entry.OwnedPlan.{OwnedPlan}
use Rattle.asl_plans.specs.declared.entry.Which.{Which}
use Rattle.asl_plans.specs.Same.{same_plan}
use Rattle.asl_plans.specs.Libraries.{owns, with_owner, added, all_added, is_meant, without_owner, lost, has_owner, dropped}
use Rattle.mas_mind.specs.declared.mind.Verb.{Verb}
use Rattle.mas_mind.specs.declared.mind.Verb.TheVariants as verb
use Rattle.asl_kqml.specs.Contents.{which_of}
use Rattle.asl_kqml.specs.Receive.{learns, learned, untell_how}
use Rattle.asl_lint_laws.specs.Messages.{AreOwn, IsSent}
use Rattle.asl_lint_laws.specs.Mail.{OpenedAreOwn, PlansStay}

-- ---- opened

abbrev IsOwn : OwnedPlan → Type 0
IsOwn e = e.owners ≡ 0 ∷ []

with_own : (e : OwnedPlan) → IsOwn e → IsOwn (with_owner 0 e)
with_own e i = ap (λ b. (cond b e (record { plan = e.plan; owners = e.owners ++ 0 ∷ [] })).owners) (ap (λ os. owns 0 (record e { owners = os })) i) ∙ i

added_own : (p : Plan) (lib : List OwnedPlan) → AreOwn lib → AreOwn (added p 0 lib)
added_own p [] a = (refl, tt)
added_own p (e ∷ more) a = go (same_plan p e.plan) (added_own p more a.1) where
  go : (b : Bool) → AreOwn (added p 0 more) → AreOwn (cond b (with_owner 0 e ∷ more) (e ∷ added p 0 more))
  go true later = (with_own e a.0, a.1)
  go false later = (a.0, later)

all_own : (ps : List Plan) (lib : List OwnedPlan) → AreOwn lib → AreOwn (all_added ps 0 lib)
all_own [] lib a = a
all_own (p ∷ ps) lib a = all_own ps (added p 0 lib) (added_own p lib a)

pub opened_own : OpenedAreOwn
opened_own plans = all_own plans [] tt

-- ---- what another takes back

not_zero : (o : ℕ) → (o ≡ 0 → ⊥) → (0 == o) ≡ false
not_zero o f = go (0 == o) refl where
  go : (b : Bool) → (0 == o) ≡ b → b ≡ false
  go true e = absurd (f (sym (eqb-true 0 o e)))
  go false e = refl

without_same : (o : ℕ) (e : OwnedPlan) → (o ≡ 0 → ⊥) → IsOwn e → without_owner o e ≡ e
without_same o e f i =
    let left : filter (λ x. not (x == o)) e.owners ≡ e.owners =
    ap (filter (λ x. not (x == o))) i ∙ ap (λ b. cond (not b) (0 ∷ []) []) (not_zero o f) ∙ sym i in
    (λ j. record { plan = e.plan; owners = left j })

lost_same : (w : Which) (o : ℕ) (e : OwnedPlan) → (o ≡ 0 → ⊥) → IsOwn e → lost w o e ≡ e
lost_same w o e f i = go (is_meant w e.plan) where
  go : (b : Bool) → cond b (without_owner o e) e ≡ e
  go true = without_same o e f i
  go false = refl

owned : (e : OwnedPlan) → IsOwn e → has_owner e ≡ true
owned e i = ap (λ os. has_owner (record e { owners = os })) i

dropped_same : (w : Which) (o : ℕ) (lib : List OwnedPlan) → (o ≡ 0 → ⊥) → AreOwn lib → dropped w o lib ≡ lib
dropped_same w o [] f a = refl
dropped_same w o (e ∷ lib) f a =
    ap (λ x. cond (has_owner x) (x ∷ dropped w o lib) (dropped w o lib)) (lost_same w o e f a.0)
    ∙ ap (λ b. cond b (e ∷ dropped w o lib) (dropped w o lib)) (owned e a.0)
    ∙ ap (λ es. e ∷ es) (dropped_same w o lib f a.1)

untold : (o : ℕ) (lib : List OwnedPlan) → (o ≡ 0 → ⊥) → AreOwn lib → (w : Option Which) → (untell_how o lib w).plans ≡ lib
untold o lib f a None = refl
untold o lib f a (Some w) = dropped_same w o lib f a

by_verb : (libs : List (List OwnedPlan)) (lib : List OwnedPlan) (from to : ℕ) (t sent : Term) → (from ≡ 0 → ⊥) → AreOwn lib → (v : Verb) → IsSent libs to v sent
    → (learns lib from t v).plans ≡ lib
by_verb libs lib from to t sent f a verb.TellHow s = absurd s
by_verb libs lib from to t sent f a verb.UntellHow s = untold from lib f a (which_of t)
by_verb libs lib from to t sent f a verb.AskHow s = refl
by_verb libs lib from to t sent f a verb.Tell s = refl
by_verb libs lib from to t sent f a verb.Untell s = refl
by_verb libs lib from to t sent f a verb.Achieve s = refl
by_verb libs lib from to t sent f a verb.Unachieve s = refl
by_verb libs lib from to t sent f a verb.AskOne s = refl
by_verb libs lib from to t sent f a verb.AskAll s = refl

pub plans_stay : PlansStay
unfolding learned
plans_stay libs plans n m a s = by_verb libs plans m.from m.to (renamed n m.content) m.content s.from a m.verb s.sent
