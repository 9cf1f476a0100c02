-- The lowest means whose goal a literal names, sought from below.
use Rattle.std.proofs.Common.{◌≡◌, ◌<◌, ◌≤◌, ℕ, zero, suc, Bool, true, false, cond, List, [], ◌∷◌, drop, length, Some, None, sym, subst, ap, ◌∙◌, arith}
use Rattle.asl_term.specs.declared.syntax.LiteralOf.{LiteralOf}
use Rattle.asl_term.specs.declared.syntax.Term.{Term}
use Rattle.asl_intend.specs.declared.entry.Means.{Means}
use Rattle.asl_intend.specs.Stacks.{names_goal, names_at, trigger_at}
use Rattle.asl_goals.specs.Goals.{or_else, from_lowest}

module _ (g : LiteralOf Term) where
  -- where some means below a place are the lowest, they are the lowest of all
  lower : (n : ℕ) (stack cut : List Means) → from_lowest g (drop n stack) ≡ Some cut → from_lowest g stack ≡ Some cut
  lower zero stack cut e = e
  lower (suc n) [] cut e = e
  lower (suc n) (m ∷ below) cut e = ap (λ o. or_else o (cond (names_goal g m.trigger) (Some (m ∷ below)) None)) (lower n below cut e)

  -- whether those at a place are the lowest, where none below them are
  tested : (k : ℕ) (stack : List Means) (b : Bool) → k < length stack → from_lowest g (drop (suc k) stack) ≡ None
      → b ≡ names_at g (trigger_at stack k) → from_lowest g (drop k stack) ≡ cond b (Some (drop k stack)) None
  tested k [] b l none h = absurd (omega arith)
  tested zero (m ∷ below) b l none h = λ i. or_else (none i) (cond (sym h i) (Some (m ∷ below)) None)
  tested (suc k) (m ∷ below) b l none h = tested k below b (omega arith) none h

  at_place : (n k : ℕ) (stack : List Means) (b : Bool) → n ≡ suc k → n ≤ length stack → from_lowest g (drop n stack) ≡ None
      → b ≡ names_at g (trigger_at stack k) → from_lowest g (drop k stack) ≡ cond b (Some (drop k stack)) None
  at_place n k stack b e l none h = tested k stack b (omega arith) (subst (λ (i : ℕ). from_lowest g (drop i stack) ≡ None) e none) h

  pub found : (n k : ℕ) (stack : List Means) (b : Bool) → n ≡ suc k → n ≤ length stack → from_lowest g (drop n stack) ≡ None
      → b ≡ names_at g (trigger_at stack k) → b ≡ true → from_lowest g stack ≡ Some (drop k stack)
  found n k stack b e l none h t =
      lower k stack (drop k stack) (at_place n k stack b e l none h ∙ ap (λ c. cond c (Some (drop k stack)) None) t)

  pub missed : (n k : ℕ) (stack : List Means) (b : Bool) → n ≡ suc k → n ≤ length stack → from_lowest g (drop n stack) ≡ None
      → b ≡ names_at g (trigger_at stack k) → b ≡ false → from_lowest g (drop k stack) ≡ None
  missed n k stack b e l none h t = at_place n k stack b e l none h ∙ ap (λ c. cond c (Some (drop k stack)) None) t
