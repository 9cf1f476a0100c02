-- What fails raises an event that has a relevant plan.
use Rattle.std.proofs.Common.{◌≡◌, ◌+◌, ℕ, Bool, true, false, if◌then◌else◌, List, [], ◌∷◌, ◌++◌, refl, sym, ap, ◌∙◌, arith, codes}
use Rattle.std.proofs.lemmas.Bool.{false≢true}
use Rattle.std.specs.List.{AllByRecursion}
use Rattle.asl_term.specs.declared.syntax.AgentText.{AgentText}
use Rattle.asl_term.specs.declared.syntax.Kind.{Kind}
use Rattle.asl_term.specs.declared.syntax.Kind.TheVariants as kind
use Rattle.asl_term.specs.declared.syntax.LiteralOf.{LiteralOf}
use Rattle.asl_term.specs.declared.syntax.Term.{Term}
use Rattle.asl_term.specs.declared.syntax.Term.TheVariants as term
use Rattle.asl_term.specs.declared.syntax.Trigger.{Trigger}
use Rattle.asl_term.specs.declared.syntax.Var.{Var}
use Rattle.asl_term.proofs.Terms.{fold_lit}
use Rattle.asl_unify.specs.inner.Costs.{weight, weight_step}
use Rattle.asl_unify.specs.Puts.{put}
use Rattle.asl_unify.proofs.General.{put-lit}
use Rattle.asl_lint_laws.specs.Fresh.{late}
use Rattle.asl_plans.specs.declared.entry.OwnedPlan.{OwnedPlan}
use Rattle.asl_plans.specs.declared.library.Choice.{Choice}
use Rattle.asl_plans.specs.Plans.{relevant}
use Rattle.asl_intend.specs.declared.entry.Means.{Means}
use Rattle.asl_intend.specs.declared.agenda.Error.{Error}
use Rattle.asl_intend.specs.declared.agenda.Event.{Event}
use Rattle.asl_intend.specs.declared.agenda.Agenda.{Agenda}
use Rattle.asl_intend.specs.Stacks.{has_means}
use Rattle.asl_fail.specs.Fails.{error_name, error_term, fails, failure, failure_event, with_error, is_goal, is_raised, any_choice, posted, raised, dropped, popped_one, plain}
use Rattle.asl_lint_laws.specs.Served.{AreSource, IsSome}
use Rattle.asl_lint_laws.proofs.Raised.{relevance_stays}
use Rattle.asl_lint_laws.specs.Agendas.{IsOlder, IsMerged, IsAnswered, MeansServed, StackServed, TakenServed, EventServed, AgendaServed}
use Rattle.asl_lint_laws.specs.Keeps.{FailureKeeps}
use Rattle.asl_lint_laws.proofs.Ages.{older_with, older_apart}

-- ---- annotations that the rules add: f(g)

atom_weight : (f : Var → ℕ) (g : List ℕ) → weight f (plain g []) ≡ 0
atom_weight f g = fold_lit ℕ (weight_step f) (record { neg = false; functor = g; args = []; annots = [] })

pub tag_weight : (f : Var → ℕ) (a g : List ℕ) → weight f (plain a (plain g [] ∷ [])) ≡ 0
tag_weight f a g =
    let w = atom_weight f g in
    fold_lit ℕ (weight_step f) (record { neg = false; functor = a; args = plain g [] ∷ []; annots = [] }) ∙ ap (λ n. (n + 0) + 0) w

atom_merged : (g : List ℕ) → put term.Var (plain g []) ≡ plain g []
atom_merged g = put-lit term.Var (record { neg = false; functor = g; args = []; annots = [] })

pub tag_merged : (a g : List ℕ) → put term.Var (plain a (plain g [] ∷ [])) ≡ plain a (plain g [] ∷ [])
tag_merged a g =
    put-lit term.Var (record { neg = false; functor = a; args = plain g [] ∷ []; annots = [] })
    ∙ (λ i. term.Lit (record { neg = false; functor = a; args = atom_merged g i ∷ []; annots = [] }))

older_error : (n : ℕ) (e : Error) (g : LiteralOf Term) → IsOlder n g → IsOlder n (with_error e g)
older_error n e g o = older_with n g (error_term e) o (tag_weight (late n) (codes "error") (error_name e)) (tag_merged (codes "error") (error_name e))

-- ---- what fails

is_some : (choices : List Choice) → any_choice choices ≡ true → IsSome choices
is_some [] e = absurd (false≢true e)
is_some (c ∷ choices) e = tt

raised_now : (plans : List OwnedPlan) (n : ℕ) (e : Error) (t : Trigger) → is_raised plans n e t ≡ true → IsSome (relevant plans n (failure e t))
raised_now plans n e t d = go (is_goal t) d where
  go : (b : Bool) → (if b then any_choice (relevant plans n (failure e t)) else false) ≡ true → IsSome (relevant plans n (failure e t))
  go true d = is_some (relevant plans n (failure e t)) d
  go false d = absurd (false≢true d)

pub all_last : {A : Type 0} (P : A → Type 0) (xs : List A) (y : A) → AllByRecursion P xs → P y → AllByRecursion P (xs ++ y ∷ [])
all_last P [] y a p = (p, tt)
all_last P (x ∷ xs) y a p = (a.0, all_last P xs y a.1 p)

module _ (names : List (List ℕ)) (texts : List AgentText) (plans : List OwnedPlan) (n : ℕ) where
  pub taken_by : (t : Trigger) (b : Kind) → IsAnswered plans n t → IsMerged t.lit → TakenServed names texts plans n t b
  taken_by t kind.Belief a o = tt
  taken_by t kind.Achieve a o = (a, o)
  taken_by t kind.Test a o = (a, o)

  pub posted_served : (a : Agenda) (v : Event) → AgendaServed names texts plans n a → EventServed names texts plans n v → AgendaServed names texts plans n (posted a v)
  posted_served a v s d = record {
    events = all_last (EventServed names texts plans n) a.events v s.events d;
    running = s.running;
    acting = s.acting;
    asks = s.asks;
  }

-- some plan is relevant for an older event later too
pub answered_later : (plans : List OwnedPlan) → AreSource plans → (n : ℕ) (t : Trigger) → IsOlder n t.lit → IsSome (relevant plans n t) → IsAnswered plans n t
answered_later plans source n t o s m l = relevance_stays plans t n m source (older_apart n m l t.lit o) s

module _ (names : List (List ℕ)) (texts : List AgentText) (plans : List OwnedPlan) (source : AreSource plans) (n : ℕ) (e : Error) where
  raised_served : (m : Means) (below : List Means) → is_raised plans n e m.trigger ≡ true → MeansServed names texts plans n m → StackServed names texts plans n below
      → EventServed names texts plans n (failure_event e m.trigger below)
  raised_served m below d s b =
      let older = older_error n e m.trigger.lit s.trigger in
      record {
        below = older.below;
        taken = taken_by names texts plans n (failure e m.trigger) m.trigger.kind
            (answered_later plans source n (failure e m.trigger) older (raised_now plans n e m.trigger d)) older.merged;
        stack = b;
      }

  -- the agenda after a failure
  pub fails_served : (a : Agenda) (stack : List Means) → AgendaServed names texts plans n a → StackServed names texts plans n stack
      → AgendaServed names texts plans n (fails plans n e a stack).agenda
  fails_served a [] s t = s
  fails_served a (m ∷ below) s t = go (is_raised plans n e m.trigger) refl (fails_served a below s t.1) where
    rest : (b : Bool) → AgendaServed names texts plans n (fails plans n e a below).agenda
        → AgendaServed names texts plans n (if b then popped_one (fails plans n e a below) else dropped a).agenda
    rest true r = r
    rest false r = s

    go : (b : Bool) → is_raised plans n e m.trigger ≡ b → AgendaServed names texts plans n (fails plans n e a below).agenda
        → AgendaServed names texts plans n (if b then raised e a m below else (if has_means below then popped_one (fails plans n e a below) else dropped a)).agenda
    go true d r = posted_served names texts plans n a (failure_event e m.trigger below) s (raised_served m below d t.0 t.1)
    go false d r = rest (has_means below) r

pub failure_keeps : FailureKeeps
failure_keeps names texts plans source n e a stack s t = fails_served names texts plans source n e a stack s t
