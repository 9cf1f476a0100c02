-- What two terms at one place tell of their comparison.
use Rattle.std.specs.Prelude.{◌≡◌, ℕ, List, [], ◌++◌, drop}
use Rattle.asl_term.specs.declared.syntax.Term.{Term}
use Rattle.asl_unify.specs.declared.subst.Pair.{Pair}
use Rattle.asl_unify.specs.Compare.{Question, Go, ask, asks, counted, step}
use Rattle.asl_unify.specs.Puts.{IsSubst}
use Rattle.asl_unify.specs.inner.Views.{Led}

-- one step of the comparison, which makes these of the pairs behind those of a substitution and asks nothing more
abbrev pub StepsTo : List Pair → Term → Term → List Pair → List Pair → Type 0
StepsTo s a b old new = (w : List Question) (n : ℕ) → step (ask a b) w (s ++ old) n ≡ Go w (s ++ new) (counted n)

-- the steps of the terms before a place have made these pairs
pub record Reached (s : List Pair) (xs ys : List Term) (i : ℕ) (new : List Pair) : Type 0 where
  pub count : ℕ
  pub led : Led (asks xs ys []) s 0 (asks (drop i xs) (drop i ys) []) (s ++ new) count
  pub sound : IsSubst (s ++ new)
