-- What stands at the places of a stack.
use Rattle.std.proofs.Common.{ℕ, zero, suc, ◌≡◌, ◌<◌, ◌+◌, true, false, cond, List, [], ◌∷◌, ◌++◌, drop, length, Option, Some, None, refl, sym, ap, ◌∙◌, arith, append_assoc, append-nil, ◌≤◌}
use Rattle.std.specs.Prelude.{codes}
use Rattle.std.proofs.lemmas.Bool.{false≢true}
use Rattle.std.proofs.lemmas.List.{at_drop_all}
use Rattle.asl_term.specs.declared.syntax.Formula.{Formula}
use Rattle.asl_term.specs.declared.syntax.Trigger.{Trigger}
use Rattle.asl_term.specs.Exprs.{formula_text}
use Rattle.asl_print.specs.Agents.{trigger_text}
use Rattle.asl_unify.specs.Applied.{within_formula}
use Rattle.asl_intend.specs.declared.entry.Means.{Means}
use Rattle.asl_intend.specs.Stacks.{is_bounded, is_bounded_at, is_bounded_trigger}
use Rattle.look_text.specs.Stacks.{item_text, goal_text, later_text, left_text, means_text, stack_text, item_or_none, item_at, goal_or_none, means_at}

pub small_item : (f : Formula) → within_formula f ≡ true → formula_text f ≡ item_text f
small_item f h = sym (ap (λ b. cond b (formula_text f) (codes "..")) h)

pub large_item : (o : Option Formula) → is_bounded o ≡ false → item_or_none o ≡ codes ".."
large_item None h = absurd (false≢true (sym h))
large_item (Some f) h = ap (λ b. cond b (formula_text f) (codes "..")) h

pub small_goal : (t : Trigger) → is_bounded_trigger t ≡ true → trigger_text t ≡ goal_text t
small_goal t h = sym (ap (λ b. cond b (trigger_text t) (codes "..")) h)

pub large_goal : (o : Option Trigger) → is_bounded_at o ≡ false → goal_or_none o ≡ codes ".."
large_goal None h = absurd (false≢true (sym h))
large_goal (Some t) h = ap (λ b. cond b (trigger_text t) (codes "..")) h

pub nothing_left : (fs : List Formula) → length fs ≡ 0 → left_text fs ≡ []
nothing_left [] h = refl
nothing_left (f ∷ fs) h = absurd (omega (arith, h))

pub something_left : (fs : List Formula) → 0 < length fs
    → left_text fs ≡ codes "      left " ++ (item_at fs 0 ++ (later_text (drop 1 fs) ++ codes "\n"))
something_left [] h = absurd (omega (arith, h))
something_left (f ∷ fs) h = refl

-- a piece more, and what is still to come
onward : (out grown piece rest all total : List ℕ) → grown ≡ out ++ piece → all ≡ piece ++ rest → out ++ all ≡ total → grown ++ rest ≡ total
onward out grown piece rest all total g e h = ap (λ x. x ++ rest) g ∙ append_assoc out piece rest ∙ sym (ap (λ x. out ++ x) e) ∙ h

pub later_next : (fs : List Formula) (j : ℕ) → j < length fs → later_text (drop j fs) ≡ (codes "; " ++ item_at fs j) ++ later_text (drop (j + 1) fs)
later_next [] j h = absurd (omega (arith, h))
later_next (f ∷ fs) zero h = refl
later_next (f ∷ fs) (suc j) h =
    let same : suc (j + 1) ≡ suc j + 1 = omega arith in
    later_next fs j (omega (arith, h)) ∙ ap (λ n. (codes "; " ++ item_at fs j) ++ later_text (drop n (f ∷ fs))) same

means_is : (m : Means) (below : List Means) → means_at (m ∷ below) 0 ≡ means_text m
unfolding means_at means_text
means_is m below = refl

means_below : (m : Means) (below : List Means) (k : ℕ) → means_at (m ∷ below) (suc k) ≡ means_at below k
unfolding means_at
means_below m below k = refl

pub stack_next : (stack : List Means) (k : ℕ) → k < length stack → stack_text (drop k stack) ≡ means_at stack k ++ stack_text (drop (k + 1) stack)
stack_next [] k h = absurd (omega (arith, h))
stack_next (m ∷ below) zero h = ap (λ t. t ++ stack_text below) (sym (means_is m below))
stack_next (m ∷ below) (suc k) h =
    let same : suc (k + 1) ≡ suc k + 1 = omega arith in
    stack_next below k (omega (arith, h)) ∙ ap (λ t. t ++ stack_text (drop (k + 1) below)) (sym (means_below m below k))
    ∙ ap (λ n. means_at (m ∷ below) (suc k) ++ stack_text (drop n (m ∷ below))) same

drop_past : {A : Type 0} (xs : List A) (k : ℕ) → length xs ≤ k → drop k xs ≡ []
drop_past xs k h = at_drop_all (λ x. x) xs k h

-- ---- what loops keep

pub later_step : (fs : List Formula) (j : ℕ) (out dotted grown total : List ℕ) → j < length fs → dotted ≡ out ++ codes "; " → grown ≡ dotted ++ item_at fs j →
    out ++ later_text (drop j fs) ≡ total → grown ++ later_text (drop (j + 1) fs) ≡ total
later_step fs j out dotted grown total h d g e =
    onward out grown (codes "; " ++ item_at fs j) _ _ total (g ∙ ap (λ x. x ++ item_at fs j) d ∙ append_assoc out (codes "; ") (item_at fs j)) (later_next fs j h) e

pub later_end : (fs : List Formula) (j : ℕ) (out total : List ℕ) → length fs ≤ j → out ++ later_text (drop j fs) ≡ total → out ≡ total
later_end fs j out total h e = sym (append-nil out) ∙ sym (ap (λ x. out ++ later_text x) (drop_past fs j h)) ∙ e

pub stack_step : (stack : List Means) (k : ℕ) (out grown total : List ℕ) → k < length stack → grown ≡ out ++ means_at stack k →
    out ++ stack_text (drop k stack) ≡ total → grown ++ stack_text (drop (k + 1) stack) ≡ total
stack_step stack k out grown total h g e = onward out grown (means_at stack k) _ _ total g (stack_next stack k h) e

pub stack_end : (stack : List Means) (k : ℕ) (out total : List ℕ) → length stack ≤ k → out ++ stack_text (drop k stack) ≡ total → out ≡ total
stack_end stack k out total h e = sym (append-nil out) ∙ sym (ap (λ x. out ++ stack_text x) (drop_past stack k h)) ∙ e
