-- What a search, a match and a relation find has variables below the next number.
use Rattle.std.proofs.Common.{◌≡◌, ◌≤◌, ℕ, List, [], ◌∷◌, map, slice_get, Option, Some, None, refl, sym, subst, arith}
use Rattle.std.specs.List.{AllByRecursion}
use Rattle.asl_term.specs.declared.syntax.AgentText.{AgentText}
use Rattle.asl_term.specs.declared.syntax.Clause.{Clause}
use Rattle.asl_term.specs.declared.syntax.Expr.{Expr}
use Rattle.asl_term.specs.declared.syntax.Expr.TheVariants as expr
use Rattle.asl_term.specs.declared.syntax.LiteralOf.{LiteralOf}
use Rattle.asl_term.specs.declared.syntax.Relation.{Relation}
use Rattle.asl_term.specs.declared.syntax.Term.{Term}
use Rattle.asl_term.specs.declared.syntax.Var.{Var}
use Rattle.asl_unify.specs.declared.subst.Pair.{Pair}
use Rattle.asl_unify.specs.inner.Costs.{weight}
use Rattle.asl_unify.specs.Comparing.{Gives, holds}
use Rattle.asl_unify.specs.Compare.{Outcome, Unified, Failed, asks}
use Rattle.asl_unify.specs.Facts.{Belief, Rule}
use Rattle.asl_unify.specs.Matches.{matches, agreed}
use Rattle.asl_unify.specs.Unified.{unified, question_sum}
use Rattle.asl_beliefs.specs.declared.removed.Removed.{Removed}
use Rattle.asl_beliefs.specs.Bases.{facts_of}
use Rattle.asl_beliefs.specs.Changes.{removed, by_match}
use Rattle.asl_resolve.specs.declared.answers.Answer.TheVariants as answer
use Rattle.asl_resolve.specs.Base.{Base, base}
use Rattle.asl_resolve.specs.Marks.{marks, decide}
use Rattle.asl_resolve.specs.Solves.{One}
use Rattle.asl_resolve.specs.Solves as so
use Rattle.asl_resolve.proofs.Solves.{solved}
use Rattle.asl_lint_laws.specs.Fresh.{late, terms_count, TermsBelow, LiteralBelow, ExprBelow, SubstBelow, FactBelow}
use Rattle.asl_lint_laws.proofs.FreshMatching.{unified_keeps, matches_below}
use Rattle.asl_lint_laws.proofs.Solutions.{solutions_below}
use Rattle.asl_plans.specs.declared.entry.OwnedPlan.{OwnedPlan}
use Rattle.asl_exec_circumstance.specs.Circumstance.{Surroundings, Circumstance}
use Rattle.asl_exec_circumstance.specs.Sought.{sought}
use Rattle.asl_lint_laws.specs.Read.{AreGround}
use Rattle.asl_lint_laws.specs.RowsServed.{AroundServed, PartsServed}
use Rattle.asl_lint_laws.proofs.Beliefs.{all_append}
use Rattle.asl_lint_laws.proofs.Grounds.{literal_ground}

-- ---- clauses

beliefs_below : (bs : List (LiteralOf Term)) → AreGround bs → AllByRecursion FactBelow (map Belief bs)
beliefs_below [] a = tt
beliefs_below (b ∷ bs) a = (literal_ground (late 0) b a.0, beliefs_below bs a.1)

rules_below : (rs : List Clause) → AllByRecursion (λ c. FactBelow (Rule c)) rs → AllByRecursion FactBelow (map Rule rs)
rules_below [] a = tt
rules_below (r ∷ rs) a = (a.0, rules_below rs a.1)

facts_below : (bs : List (LiteralOf Term)) (rs : List Clause) → AreGround bs → AllByRecursion (λ c. FactBelow (Rule c)) rs → AllByRecursion FactBelow (facts_of bs rs)
facts_below bs rs a b = all_append FactBelow (map Belief bs) (map Rule rs) (beliefs_below bs a) (rules_below rs b)

-- ---- searches

module _ (names : List (List ℕ)) (texts : List AgentText) (k : Surroundings) (around : AroundServed names texts k) (plans : List OwnedPlan) (p : Circumstance) (parts : PartsServed names texts plans p) where
  abbrev asked : Base
  asked = base (facts_of p.beliefs k.rules) k.solve

  one_below : (e : Expr) (s t : List Pair) (n : ℕ) → ExprBelow p.number e → SubstBelow p.number s → One asked e s p.number t n → (p.number ≤ n) × SubstBelow n t
  one_below e s t n b d o = solutions_below asked e s t p.number n (facts_below p.beliefs k.rules parts.beliefs around.rules) around.solve b d o

  -- a solution of an expression, under a substitution
  pub found_below : (e : Expr) (s t : List Pair) (n tries depth : ℕ) → ExprBelow p.number e → SubstBelow p.number s
      → decide tries (marks asked depth e s p.number) ≡ answer.Found t n → (p.number ≤ n) × SubstBelow n t
  found_below e s t n tries depth b d q = one_below e s t n b d (solved asked depth tries e s p.number (answer.Found t n) (sym q))

  pub sought_below : (e : Expr) (t : List Pair) (n : ℕ) → ExprBelow p.number e → sought k p e ≡ answer.Found t n → (p.number ≤ n) × SubstBelow n t
  sought_below e t n b q = found_below e [] t n k.budgets.tries k.budgets.depth b refl q

  -- what a relation gives
  pub related_below : (r : Relation) (t : List Pair) → ExprBelow p.number (expr.Rel r) → holds r [] ≡ Gives (Some t) → SubstBelow p.number t
  related_below r t b q = (one_below (expr.Rel r) [] t p.number b refl (so.relation q)).1

-- ---- matches

abbrev pub RemovedBelow : ℕ → Option Removed → Type 0
RemovedBelow n None = Unit {0}
RemovedBelow n (Some r) = SubstBelow n r.subst

-- the match of what is removed
pub removed_below : (n : ℕ) (l : LiteralOf Term) → LiteralBelow n l → (bs : List (LiteralOf Term)) → AreGround bs → RemovedBelow n (removed l [] bs).removed
removed_below n l b [] a = tt
removed_below n l b (c ∷ more) a =
    go (matches l c []) (matches_below n l c [] b (literal_ground (late n) c a.0) refl) (removed_below n l b more a.1) where
      go : (xs : List (List Pair)) → AllByRecursion (SubstBelow n) xs → RemovedBelow n (removed l [] more).removed
          → RemovedBelow n (by_match l c more (removed l [] more) (slice_get xs 0)).removed
      go [] m later = later
      go (x ∷ xs) m later = m.0

-- ---- unifiers

asks_sum : (f : Var → ℕ) (xs ys : List Term) → terms_count f xs ≡ 0 → terms_count f ys ≡ 0 → question_sum (weight f) (asks xs ys []) ≡ 0
asks_sum f [] [] e d = refl
asks_sum f [] (y ∷ ys) e d = refl
asks_sum f (x ∷ xs) [] e d = refl
asks_sum f (x ∷ xs) (y ∷ ys) e d = let more = asks_sum f xs ys (omega (arith, e)) (omega (arith, d)) in omega (arith, e, d, more)

pub agreed_below : (n : ℕ) (xs ys : List Term) (t : List Pair) → TermsBelow n xs → TermsBelow n ys → agreed (unified [] (asks xs ys [])) ≡ Some t → SubstBelow n t
agreed_below n xs ys t a b e = go (unified [] (asks xs ys [])) refl e where
  go : (o : Outcome) → unified [] (asks xs ys []) ≡ o → agreed o ≡ Some t → SubstBelow n t
  go (Failed f) u e = cc
  go (Unified s) u e =
      let is : s ≡ t = cc in
      subst (SubstBelow n) is (unified_keeps (late n) [] s (asks xs ys []) (asks_sum (late n) xs ys a b) refl u)
