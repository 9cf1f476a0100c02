-- The verdict is yes exactly where all hold.
use Rattle.std.proofs.Common.{◌≡◌, ◌+◌, ℕ, Bool, true, false, ◌&&◌, List, [], ◌∷◌, Option, Some, None, refl, sym, ap, ◌∙◌}
use Rattle.std.proofs.lemmas.Bool.{false≢true}
use Rattle.std.specs.List.{list_all}
use Rattle.asl_term.specs.declared.syntax.Plan.{Plan}
use Rattle.asl_term.specs.declared.syntax.AgentText.{AgentText}
use Rattle.asl_lint.specs.declared.lint.Verdict.{Verdict}
use Rattle.asl_lint.specs.declared.lint.Verdict.TheVariants.{Yes, Goal, Item}
use Rattle.asl_lint.specs.Goals.{achieves}
use Rattle.asl_lint.specs.Items.{item_holds}
use Rattle.asl_lint.specs.Lints.{or_else, first_found, unless, goals_verdict, plan_verdict, agent_verdict, or_yes, verdict, goals_hold, plans_hold, all_hold, IsYes}

-- nothing was found
quiet : Option Verdict → Bool
quiet None = true
quiet (Some v) = false

is_yes : Verdict → Bool
is_yes Yes = true
is_yes (Goal a n) = false
is_yes (Item a n i) = false

-- no yes was found
abbrev Loud : Option Verdict → Type 0
Loud o = is_yes (or_yes o) ≡ quiet o

quiet_or : (a b : Option Verdict) → quiet (or_else a b) ≡ (quiet a && quiet b)
unfolding quiet
quiet_or None b = refl
quiet_or (Some v) b = refl

quiet_unless : (b : Bool) (v : Verdict) → quiet (unless b v) ≡ b
unfolding quiet
quiet_unless true v = refl
quiet_unless false v = refl

loud_or : (a b : Option Verdict) → Loud a → Loud b → Loud (or_else a b)
loud_or None b p q = q
loud_or (Some v) b p q = p

loud_unless : (b : Bool) (v : Verdict) → is_yes v ≡ false → Loud (unless b v)
unfolding quiet is_yes
loud_unless true v e = refl
loud_unless false v e = e

module _ {A : Type 0} (f : ℕ → A → Option Verdict) where
  quiet_all : (test : A → Bool) → ((n : ℕ) (x : A) → quiet (f n x) ≡ test x) → (n : ℕ) (xs : List A) → quiet (first_found f n xs) ≡ list_all test xs
  unfolding quiet
  quiet_all test e n [] = refl
  quiet_all test e n (x ∷ xs) =
      let one = e n x in
      let more = quiet_all test e (n + 1) xs in
      quiet_or (f n x) (first_found f (n + 1) xs) ∙ (λ i. one i && more i)

  loud_all : ((n : ℕ) (x : A) → Loud (f n x)) → (n : ℕ) (xs : List A) → Loud (first_found f n xs)
  unfolding quiet is_yes
  loud_all e n [] = refl
  loud_all e n (x ∷ xs) = loud_or (f n x) (first_found f (n + 1) xs) (e n x) (loud_all e (n + 1) xs)

goal_is_no : (a n : ℕ) → is_yes (Goal a n) ≡ false
unfolding is_yes
goal_is_no a n = refl

item_is_no : (a n i : ℕ) → is_yes (Item a n i) ≡ false
unfolding is_yes
item_is_no a n i = refl

is_yes_true : (v : Verdict) → is_yes v ≡ true → v ≡ Yes
unfolding is_yes
is_yes_true Yes e = refl
is_yes_true (Goal a n) e = absurd (false≢true e)
is_yes_true (Item a n i) e = absurd (false≢true e)

yes_is_true : is_yes Yes ≡ true
unfolding is_yes
yes_is_true = refl

module _ (names : List (List ℕ)) (texts : List AgentText) where
  goals_quiet : (a : ℕ) (t : AgentText) → quiet (goals_verdict a t) ≡ goals_hold t
  goals_quiet a t = quiet_all (λ n g. unless (achieves t.plans g) (Goal a n)) (achieves t.plans) (λ n g. quiet_unless (achieves t.plans g) (Goal a n)) 1 t.goals

  goals_loud : (a : ℕ) (t : AgentText) → Loud (goals_verdict a t)
  goals_loud a t = loud_all (λ n g. unless (achieves t.plans g) (Goal a n)) (λ n g. loud_unless (achieves t.plans g) (Goal a n) (goal_is_no a n)) 1 t.goals

  plan_quiet : (a : ℕ) (t : AgentText) (n : ℕ) (p : Plan) → quiet (plan_verdict names texts a t n p) ≡ list_all (item_holds names texts t.plans) p.body
  plan_quiet a t n p =
      quiet_all (λ i f. unless (item_holds names texts t.plans f) (Item a n i)) (item_holds names texts t.plans)
      (λ i f. quiet_unless (item_holds names texts t.plans f) (Item a n i)) 1 p.body

  plan_loud : (a : ℕ) (t : AgentText) (n : ℕ) (p : Plan) → Loud (plan_verdict names texts a t n p)
  plan_loud a t n p =
      loud_all (λ i f. unless (item_holds names texts t.plans f) (Item a n i))
      (λ i f. loud_unless (item_holds names texts t.plans f) (Item a n i) (item_is_no a n i)) 1 p.body

  agent_quiet : (a : ℕ) (t : AgentText) → quiet (agent_verdict names texts a t) ≡ (goals_hold t && plans_hold names texts t)
  agent_quiet a t =
      let goals = goals_quiet a t in
      let plans = quiet_all (plan_verdict names texts a t) (λ p. list_all (item_holds names texts t.plans) p.body) (plan_quiet a t) 1 t.plans in
      quiet_or (goals_verdict a t) (first_found (plan_verdict names texts a t) 1 t.plans) ∙ (λ i. goals i && plans i)

  agent_loud : (a : ℕ) (t : AgentText) → Loud (agent_verdict names texts a t)
  agent_loud a t =
      loud_or (goals_verdict a t) (first_found (plan_verdict names texts a t) 1 t.plans) (goals_loud a t)
      (loud_all (plan_verdict names texts a t) (plan_loud a t) 1 t.plans)

  decided : is_yes (verdict names texts) ≡ all_hold names texts
  decided =
      loud_all (agent_verdict names texts) agent_loud 1 texts
      ∙ quiet_all (agent_verdict names texts) (λ t. goals_hold t && plans_hold names texts t) agent_quiet 1 texts

  pub yes_decides : IsYes names texts (verdict names texts)
  yes_decides = (λ e. sym decided ∙ ap is_yes e ∙ yes_is_true, λ e. is_yes_true (verdict names texts) (decided ∙ e))
