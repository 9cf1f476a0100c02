-- A substitution put into a stack.
use Rattle.std.proofs.Common.{◌≡◌, ◌≤◌, ℕ, List, [], ◌∷◌, map, refl, sym, ap, ◌∙◌}
use Rattle.std.specs.List.{AllByRecursion}
use Rattle.asl_term.specs.declared.syntax.AgentText.{AgentText}
use Rattle.asl_term.specs.declared.syntax.ArgOf.{ArgOf}
use Rattle.asl_term.specs.declared.syntax.ArgOf.TheVariants.{Plain, Logic}
use Rattle.asl_term.specs.declared.syntax.CallOf.{CallOf}
use Rattle.asl_term.specs.declared.syntax.Expr.{Expr}
use Rattle.asl_term.specs.declared.syntax.Formula.{Formula}
use Rattle.asl_term.specs.declared.syntax.Formula.TheVariants as formula
use Rattle.asl_term.specs.declared.syntax.Kind.{Kind}
use Rattle.asl_term.specs.declared.syntax.LiteralOf.{LiteralOf}
use Rattle.asl_term.specs.declared.syntax.Plan.{Plan}
use Rattle.asl_term.specs.declared.syntax.Term.{Term}
use Rattle.asl_term.specs.declared.syntax.Term.TheVariants as term
use Rattle.asl_term.specs.declared.syntax.Var.{Var}
use Rattle.asl_unify.specs.declared.subst.Pair.{Pair}
use Rattle.asl_unify.specs.inner.Costs.{weight}
use Rattle.asl_unify.specs.Puts.{put, value_of}
use Rattle.asl_unify.specs.Applied.{put_literal, put_formula, put_args}
use Rattle.asl_unify.proofs.General.{flat-value}
use Rattle.asl_unify.proofs.Laws.{flat-put, FlatValues}
use Rattle.asl_unify.proofs.Puts.{put-put}
use Rattle.asl_lint_laws.specs.Fresh.{late, SubstBelow, TermsBelow, LiteralBelow}
use Rattle.asl_lint_laws.proofs.Counts.{apply_none}
use Rattle.asl_plans.specs.declared.entry.OwnedPlan.{OwnedPlan}
use Rattle.asl_intend.specs.declared.entry.Means.{Means}
use Rattle.asl_intend.specs.Means.{applied_means}
use Rattle.asl_intend.specs.Stacks.{bound}
use Rattle.asl_lint.specs.Instances.{AreMerged}
use Rattle.asl_lint_laws.specs.Served.{SomeEntry, here, further, Serves, IsServed}
use Rattle.asl_lint_laws.proofs.Instances.{instance_put}
use Rattle.asl_lint_laws.specs.Linted.{ArgsBy, IsLinted}
use Rattle.asl_lint_laws.specs.Agendas.{IsMerged, IsOlder, FormulaBelow, GoalServed, FormulaServed, MeansServed, StackServed}
use Rattle.asl_lint_laws.specs.Keeps.{BoundKeeps}
use Rattle.asl_lint_laws.proofs.Ages.{literal_later, formula_later, literal_by_below, formula_by_below}

-- ---- what is put is merged

module _ (h : Var → Term) (flat : FlatValues h) where
  puts_merged : (ts : List Term) → AreMerged (map (put h) ts)
  puts_merged [] = refl
  puts_merged (t ∷ ts) = let one = flat-put h flat t in let more = puts_merged ts in (λ i. one i ∷ more i)

  pub put_merged : (g : LiteralOf Term) → IsMerged (put_literal h g)
  put_merged g = record { args = puts_merged g.args; annots = puts_merged g.annots }

-- ---- goals and calls

pub served_put : (h : Var → Term) (k : Kind) (g : LiteralOf Term) (plans : List OwnedPlan) → IsServed k plans g → IsServed k plans (put_literal h g)
served_put h k g [] s = elim s [ ]
served_put h k g (e ∷ es) (here s) = here (record {
  add = s.add;
  kind = s.kind;
  covered = record { instance = instance_put h e.plan.trigger.lit g s.covered.instance; any_source = s.covered.any_source };
})
served_put h k g (e ∷ es) (further s) = further (served_put h k g es s)

args_put : (h v : Var → Term) (args others : List (ArgOf Expr)) → ArgsBy v args others → ArgsBy (λ x. put h (v x)) args (put_args h others)
args_put h v [] [] a = tt
args_put h v [] (o ∷ others) a = absurd a
args_put h v (Plain t ∷ args) [] a = absurd a
args_put h v (Logic e ∷ args) [] a = absurd a
args_put h v (Plain t ∷ args) (Plain u ∷ others) a = (sym (put-put h v t) ∙ ap (put h) a.0, args_put h v args others a.1)
args_put h v (Plain t ∷ args) (Logic e ∷ others) a = absurd a
args_put h v (Logic e ∷ args) (Plain u ∷ others) a = absurd a
args_put h v (Logic e ∷ args) (Logic f ∷ others) a = args_put h v args others a

module _ (names : List (List ℕ)) (texts : List AgentText) (plans : List OwnedPlan) (h : Var → Term) (flat : FlatValues h) where
  goal_put : (f : Formula) → GoalServed names texts plans f → GoalServed names texts plans (put_formula h f)
  goal_put (formula.Achieve g) s = (served_put h _ g plans s.0, put_merged h flat g)
  goal_put (formula.Spawn g) s = (served_put h _ g plans s.0, put_merged h flat g)
  goal_put (formula.Test g) s = (served_put h _ g plans s.0, put_merged h flat g)
  goal_put (formula.Add g) s = tt
  goal_put (formula.Del g) s = tt
  goal_put (formula.Replace g) s = tt
  goal_put (formula.Act g) s = tt
  goal_put (formula.Inner c) s = record {
    source = s.source;
    holds = s.holds;
    merged = s.merged;
    arity = s.arity;
    name = s.name;
    values = λ x. put h (s.values x);
    flat = λ x. flat-put h flat (s.values x);
    args = args_put h s.values s.source.args c.args s.args;
  }
  goal_put (formula.Rel r) s = tt

  module _ (n m : ℕ) (l : n ≤ m) (z : (t : Term) → weight (late m) t ≡ 0 → weight (late m) (put h t) ≡ 0) where
    pub formula_put : (f : Formula) → FormulaServed names texts plans n f → FormulaServed names texts plans m (put_formula h f)
    formula_put f s = record { below = formula_by_below m m (put h) z f (formula_later n m l f s.below); goal = goal_put f s.goal }

    all_put : (fs : List Formula) → AllByRecursion (FormulaServed names texts plans n) fs → AllByRecursion (FormulaServed names texts plans m) (map (put_formula h) fs)
    all_put [] a = tt
    all_put (f ∷ fs) a = (formula_put f a.0, all_put fs a.1)

    pub older_put : (g : LiteralOf Term) → LiteralBelow n g → IsOlder m (put_literal h g)
    older_put g b = record { below = literal_by_below m m (put h) z g (literal_later n m l g b); merged = put_merged h flat g }

-- ---- stacks

module _ (names : List (List ℕ)) (texts : List AgentText) (plans : List OwnedPlan) (n m : ℕ) (l : n ≤ m) (s : List Pair) (below : SubstBelow m s) where
  pub means_bound : (x : Means) → MeansServed names texts plans n x → MeansServed names texts plans m (applied_means s x)
  means_bound x a = record {
    trigger = older_put names texts plans (value_of s) (flat-value s) n m l (λ t e. apply_none (late m) s t below e) x.trigger.lit a.trigger.below;
    body = all_put names texts plans (value_of s) (flat-value s) n m l (λ t e. apply_none (late m) s t below e) x.body a.body;
  }

  pub stack_bound : (stack : List Means) → StackServed names texts plans n stack → StackServed names texts plans m (bound s stack)
  stack_bound [] a = tt
  stack_bound (x ∷ xs) a = (means_bound x a.0, stack_bound xs a.1)

pub bound_keeps : BoundKeeps
bound_keeps names texts plans n m l s stack below a = stack_bound names texts plans n m l s below stack a
