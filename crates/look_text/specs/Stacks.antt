-- What is written of a stack of means: of each, the top first, its trigger, and what is left of its body.
use Rattle.std.specs.Prelude.{ℕ, slice_get, Option, Some, None, if◌then◌else◌, List, [], ◌∷◌, ◌++◌, codes}
use Rattle.std.specs.List.{flat_map}
use Rattle.asl_term.specs.declared.syntax.Formula.{Formula}
use Rattle.asl_term.specs.declared.syntax.Trigger.{Trigger}
use Rattle.asl_term.specs.Exprs.{formula_text}
use Rattle.asl_print.specs.Agents.{trigger_text}
use Rattle.asl_unify.specs.Applied.{within_literal, within_formula}
use Rattle.asl_intend.specs.declared.entry.Means.{Means}
use Rattle.asl_intend.specs.Bodies.{body_at}
use Rattle.asl_intend.specs.Stacks.{trigger_at}

-- what passes the limits of a term is not written out
abbrev pub item_text : Formula → List ℕ
item_text f = if within_formula f then formula_text f else codes ".."

abbrev pub goal_text : Trigger → List ℕ
goal_text t = if within_literal t.lit then trigger_text t else codes ".."

abbrev pub later_text : List Formula → List ℕ
later_text fs = flat_map (λ f. codes "; " ++ item_text f) fs

-- what is left, with `;` between the formulas; no line where nothing is
abbrev pub left_text : List Formula → List ℕ
left_text [] = []
left_text (f ∷ fs) = codes "      left " ++ (item_text f ++ (later_text fs ++ codes "\n"))

unfoldable pub means_text : Means → List ℕ
means_text m = codes "    " ++ (goal_text m.trigger ++ (codes "\n" ++ left_text m.body))

abbrev pub stack_text : List Means → List ℕ
stack_text stack = flat_map means_text stack

-- ---- the same by places

abbrev pub item_or_none : Option Formula → List ℕ
item_or_none None = []
item_or_none (Some f) = item_text f

abbrev pub item_at : List Formula → ℕ → List ℕ
item_at fs j = item_or_none (slice_get fs j)

abbrev pub goal_or_none : Option Trigger → List ℕ
goal_or_none None = []
goal_or_none (Some t) = goal_text t

abbrev pub goal_at : List Means → ℕ → List ℕ
goal_at stack k = goal_or_none (trigger_at stack k)

unfoldable pub means_at : List Means → ℕ → List ℕ
means_at stack k = codes "    " ++ (goal_at stack k ++ (codes "\n" ++ left_text (body_at stack k)))
