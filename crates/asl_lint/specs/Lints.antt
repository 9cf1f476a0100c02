-- The first goal or item that fails.
use Rattle.std.specs.Prelude.{◌≡◌, ◌↔◌, ℕ, ◌+◌, Bool, true, false, ◌&&◌, List, [], ◌∷◌, Option, Some, None}
use Rattle.std.specs.List.{list_all}
use Rattle.asl_term.specs.declared.syntax.Plan.{Plan}
use Rattle.asl_term.specs.declared.syntax.AgentText.{AgentText}
use Rattle.asl_lint.specs.Goals.{achieves}
use Rattle.asl_lint.specs.Items.{item_holds}
use Rattle.asl_lint.specs.declared.lint.Verdict.{Verdict}
use Rattle.asl_lint.specs.declared.lint.Verdict.TheVariants.{Yes, Goal, Item}

-- ---- the verdict

abbrev pub or_else : Option Verdict → Option Verdict → Option Verdict
or_else (Some v) rest = Some v
or_else None rest = rest

-- the first verdict on the items of a list, the first of which has the number n
abbrev pub first_found : {A : Type 0} → (ℕ → A → Option Verdict) → ℕ → List A → Option Verdict
first_found f n [] = None
first_found f n (x ∷ xs) = or_else (f n x) (first_found f (n + 1) xs)

abbrev pub unless : Bool → Verdict → Option Verdict
unless true v = None
unless false v = Some v

abbrev pub goals_verdict : ℕ → AgentText → Option Verdict
goals_verdict agent text = first_found (λ n g. unless (achieves text.plans g) (Goal agent n)) 1 text.goals

module _ (names : List (List ℕ)) (texts : List AgentText) where
  abbrev pub plan_verdict : ℕ → AgentText → ℕ → Plan → Option Verdict
  plan_verdict agent text n p = first_found (λ i f. unless (item_holds names texts text.plans f) (Item agent n i)) 1 p.body

  -- the goals of an agent before its plans
  abbrev pub agent_verdict : ℕ → AgentText → Option Verdict
  agent_verdict agent text = or_else (goals_verdict agent text) (first_found (plan_verdict agent text) 1 text.plans)

abbrev pub or_yes : Option Verdict → Verdict
or_yes None = Yes
or_yes (Some v) = v

-- rule: the first failure, by agents, then goals, then plans and their items
abbrev pub verdict : List (List ℕ) → List AgentText → Verdict
verdict names texts = or_yes (first_found (agent_verdict names texts) 1 texts)

-- ---- what a yes says

abbrev pub goals_hold : AgentText → Bool
goals_hold text = list_all (achieves text.plans) text.goals

abbrev pub plans_hold : List (List ℕ) → List AgentText → AgentText → Bool
plans_hold names texts text = list_all (λ p. list_all (item_holds names texts text.plans) p.body) text.plans

-- every initial goal and every item of every agent holds
abbrev pub all_hold : List (List ℕ) → List AgentText → Bool
all_hold names texts = list_all (λ text. goals_hold text && plans_hold names texts text) texts

-- the verdict is yes exactly where all hold
abbrev pub IsYes : List (List ℕ) → List AgentText → Verdict → Type 0
IsYes names texts v = (v ≡ Yes) ↔ (all_hold names texts ≡ true)
