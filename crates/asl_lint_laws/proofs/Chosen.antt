-- The means that an event gets.
use Rattle.std.proofs.Common.{◌≡◌, ◌≤◌, ◌+◌, ℕ, zero, suc, Bool, true, false, if◌then◌else◌, List, [], ◌∷◌, map, slice_get, Option, Some, None, refl, sym, ap, ◌∙◌, subst, arith}
use Rattle.std.proofs.lemmas.Bool.{eq-eqb}
use Rattle.std.specs.List.{AllByRecursion}
use Rattle.std.specs.Option.{option_map}
use Rattle.asl_term.specs.declared.syntax.AgentText.{AgentText}
use Rattle.asl_term.specs.declared.syntax.ArgOf.{ArgOf}
use Rattle.asl_term.specs.declared.syntax.ArgOf.TheVariants.{Plain, Logic}
use Rattle.asl_term.specs.declared.syntax.Expr.{Expr}
use Rattle.asl_term.specs.declared.syntax.Formula.{Formula}
use Rattle.asl_term.specs.declared.syntax.Formula.TheVariants as formula
use Rattle.asl_term.specs.declared.syntax.Kind.{Kind}
use Rattle.asl_term.specs.declared.syntax.LiteralOf.{LiteralOf}
use Rattle.asl_term.specs.declared.syntax.Plan.{Plan}
use Rattle.asl_term.specs.declared.syntax.Term.{Term}
use Rattle.asl_term.specs.declared.syntax.Term.TheVariants as term
use Rattle.asl_term.specs.declared.syntax.Trigger.{Trigger}
use Rattle.asl_term.specs.declared.syntax.Var.{Var}
use Rattle.asl_term.proofs.Terms.{fold_var}
use Rattle.asl_unify.specs.declared.subst.Pair.{Pair}
use Rattle.asl_unify.specs.inner.Costs.{weight, weight_step}
use Rattle.asl_unify.specs.Applied.{put_literal, put_args, put_formula}
use Rattle.asl_unify.specs.Mapped.{literal_by, args_by}
use Rattle.asl_unify.specs.Matches.{matches}
use Rattle.asl_unify.specs.Puts.{put, value_of}
use Rattle.asl_unify.specs.Renamed.{with_vars, numbered, renamed, renamed_literal, renamed_expr, renamed_formula}
use Rattle.asl_unify.proofs.General.{flat-value}
use Rattle.asl_unify.proofs.Laws.{flat-put}
use Rattle.asl_unify.proofs.Puts.{put-put}
use Rattle.asl_resolve.specs.declared.answers.Answer.{Answer}
use Rattle.asl_resolve.specs.declared.answers.Answer.TheVariants as answer
use Rattle.asl_lint_laws.specs.Fresh.{late, LiteralBelow, ExprBelow, SubstBelow}
use Rattle.asl_lint_laws.proofs.Counts.{less, with_terms_weigh, pairs_less, apply_none}
use Rattle.asl_lint_laws.proofs.Exprs.{literal_mapped, expr_mapped, expr_less}
use Rattle.asl_lint_laws.proofs.FreshMatching.{matches_below}
use Rattle.asl_plans.specs.declared.entry.OwnedPlan.{OwnedPlan}
use Rattle.asl_plans.specs.declared.library.Choice.{Choice}
use Rattle.asl_plans.specs.Plans.{alike, kept, relevant_from, relevant}
use Rattle.asl_intend.specs.Means.{applied_means}
use Rattle.asl_exec_circumstance.specs.Circumstance.{Surroundings, Circumstance}
use Rattle.asl_exec_choose.specs.declared.chosen.Chosen.{Chosen}
use Rattle.asl_exec_choose.specs.Choosing.{renamed_means, sought, choose_by, choose_at, choose}
use Rattle.asl_lint.specs.Instances.{AreMerged}
use Rattle.asl_lint_laws.specs.Served.{here, further, HasWritten, AreSource, IsServed}
use Rattle.asl_lint_laws.proofs.Instances.{instance_varied}
use Rattle.asl_lint_laws.proofs.Varied.{put-vars}
use Rattle.asl_lint_laws.specs.Linted.{ArgsBy}
use Rattle.asl_lint_laws.specs.Agendas.{GoalServed, FormulaServed, MeansServed}
use Rattle.asl_lint_laws.proofs.Ages.{late_below, below_late, later, formula_later, formula_by_below}
use Rattle.asl_lint_laws.proofs.Bound.{put_merged, served_put, older_put}
use Rattle.asl_lint_laws.specs.RowsServed.{PlanServed, AroundServed, PartsServed}
use Rattle.asl_lint_laws.specs.Rows.{ChosenServed, ChoiceKeeps}
use Rattle.asl_lint_laws.proofs.Failed.{are_source}
use Rattle.asl_lint_laws.proofs.Places.{written_below}
use Rattle.asl_lint_laws.proofs.Solved.{found_below}

-- ---- renamed by n, what has the number 0 is below n + 1

numbered_below : (n : ℕ) (x : Var) → late 1 x ≡ 0 → late (n + 1) (numbered n x) ≡ 0
numbered_below n x e =
    let a = late_below 1 x e in
    let zero_is : x.number ≡ 0 = omega (arith, a) in
    ap (λ b. late (n + 1) (if b then record x { number = n } else x)) (eq-eqb x.number 0 zero_is)
    ∙ below_late (n + 1) (record x { number = n }) (omega arith)

pub renamed_below : (n : ℕ) (t : Term) → weight (late 1) t ≡ 0 → weight (late (n + 1)) (renamed n t) ≡ 0
renamed_below n t e =
    with_terms_weigh (late (n + 1)) (λ v. term.Var (numbered n v)) t
    ∙ less (late 1) (λ x. weight (late (n + 1)) (term.Var (numbered n x))) (λ x d. fold_var ℕ (weight_step (late (n + 1))) (numbered n x) ∙ numbered_below n x d) t e

pub literal_renamed : (n : ℕ) (g : LiteralOf Term) → LiteralBelow 1 g → LiteralBelow (n + 1) (renamed_literal n g)
literal_renamed n g b = literal_mapped (late 1) (late (n + 1)) (renamed n) (renamed_below n) g b

-- ---- the relevant plans

has_written : (p : Plan) → HasWritten p → LiteralBelow 1 p.trigger.lit
has_written p w =
    let one = written_below p.trigger.lit.args w.args in
    let two = written_below p.trigger.lit.annots w.annots in omega (arith, one, two)

abbrev ChoicesBelow : ℕ → List Choice → Type 0
ChoicesBelow n = AllByRecursion (λ c. SubstBelow n c.subst)

choices_below : (n : ℕ) (t : Trigger) → LiteralBelow (n + 1) t.lit → (j : ℕ) (es : List OwnedPlan) → AreSource es → ChoicesBelow (n + 1) (relevant_from j es n t)
choices_below n t b j [] a = tt
choices_below n t b j (e ∷ es) a = go (alike e.plan.trigger t) (choices_below n t b (j + 1) es a.1) where
  by_match : (xs : List (List Pair)) → AllByRecursion (SubstBelow (n + 1)) xs → ChoicesBelow (n + 1) (relevant_from (j + 1) es n t)
      → ChoicesBelow (n + 1) (kept j (slice_get xs 0) (relevant_from (j + 1) es n t))
  by_match [] m later = later
  by_match (x ∷ xs) m later = (m.0, later)

  go : (d : Bool) → ChoicesBelow (n + 1) (relevant_from (j + 1) es n t)
      → ChoicesBelow (n + 1) (kept j (slice_get (if d then matches (renamed_literal n e.plan.trigger.lit) t.lit [] else []) 0) (relevant_from (j + 1) es n t))
  go true later =
      by_match (matches (renamed_literal n e.plan.trigger.lit) t.lit [])
      (matches_below (n + 1) (renamed_literal n e.plan.trigger.lit) t.lit [] (literal_renamed n e.plan.trigger.lit (has_written e.plan a.0)) b refl) later
  go false later = later

-- ---- a plan's means

pub served_varied : (f : Var → Var) (k : Kind) (g : LiteralOf Term) (plans : List OwnedPlan) → AreMerged g.args → IsServed k plans g
    → IsServed k plans (literal_by (with_vars f) g)
served_varied f k g [] m s = elim s [ ]
served_varied f k g (p ∷ ps) m (here s) = here (record {
  add = s.add;
  kind = s.kind;
  covered = record { instance = instance_varied f p.plan.trigger.lit g m s.covered.instance; any_source = s.covered.any_source };
})
served_varied f k g (p ∷ ps) m (further s) = further (served_varied f k g ps m s)

args_twice : (h v : Var → Term) (f : Var → Var) (args others : List (ArgOf Expr)) → ArgsBy v args others
    → ArgsBy (λ x. put (λ y. h (f y)) (v x)) args (put_args h (args_by (with_vars f) others))
args_twice h v f [] [] a = tt
args_twice h v f [] (o ∷ others) a = absurd a
args_twice h v f (Plain t ∷ args) [] a = absurd a
args_twice h v f (Logic e ∷ args) [] a = absurd a
args_twice h v f (Plain t ∷ args) (Plain u ∷ others) a =
    (sym (put-put (λ y. h (f y)) v t) ∙ ap (put (λ y. h (f y))) a.0 ∙ sym (put-vars h f u), args_twice h v f args others a.1)
args_twice h v f (Plain t ∷ args) (Logic e ∷ others) a = absurd a
args_twice h v f (Logic e ∷ args) (Plain u ∷ others) a = absurd a
args_twice h v f (Logic e ∷ args) (Logic g ∷ others) a = args_twice h v f args others a

module _ (names : List (List ℕ)) (texts : List AgentText) (plans : List OwnedPlan) (n m : ℕ) (l : n + 1 ≤ m) (s : List Pair) (b : SubstBelow m s) where
  goal_put : (g : LiteralOf Term) (k : Kind) → AreMerged g.args → IsServed k plans g → IsServed k plans (put_literal (value_of s) (renamed_literal n g))
  goal_put g k i a = served_put (value_of s) k (renamed_literal n g) plans (served_varied (numbered n) k g plans i a)

  goal_served : (f : Formula) → GoalServed names texts plans f → GoalServed names texts plans (put_formula (value_of s) (renamed_formula n f))
  goal_served (formula.Achieve g) a = (goal_put g _ a.1.args a.0, put_merged (value_of s) (flat-value s) (renamed_literal n g))
  goal_served (formula.Spawn g) a = (goal_put g _ a.1.args a.0, put_merged (value_of s) (flat-value s) (renamed_literal n g))
  goal_served (formula.Test g) a = (goal_put g _ a.1.args a.0, put_merged (value_of s) (flat-value s) (renamed_literal n g))
  goal_served (formula.Add g) a = tt
  goal_served (formula.Del g) a = tt
  goal_served (formula.Replace g) a = tt
  goal_served (formula.Act g) a = tt
  goal_served (formula.Inner c) a = record {
    source = a.source;
    holds = a.holds;
    merged = a.merged;
    arity = a.arity;
    name = a.name;
    values = λ x. put (λ y. value_of s (numbered n y)) (a.values x);
    flat = λ x. flat-put (λ y. value_of s (numbered n y)) (λ y. flat-value s (numbered n y)) (a.values x);
    args = args_twice (value_of s) a.values (numbered n) a.source.args c.args a.args;
  }
  goal_served (formula.Rel r) a = tt

  put_below : (t : Term) → weight (late m) t ≡ 0 → weight (late m) (put (value_of s) t) ≡ 0
  put_below t e = apply_none (late m) s t b e

  formula_served : (f : Formula) → FormulaServed names texts plans 1 f → FormulaServed names texts plans m (put_formula (value_of s) (renamed_formula n f))
  formula_served f a = record {
    below = formula_by_below m m (put (value_of s)) put_below (renamed_formula n f)
        (formula_later (n + 1) m l (renamed_formula n f) (formula_by_below 1 (n + 1) (renamed n) (renamed_below n) f a.below));
    goal = goal_served f a.goal;
  }

  body_served : (fs : List Formula) → AllByRecursion (FormulaServed names texts plans 1) fs
      → AllByRecursion (FormulaServed names texts plans m) (map (put_formula (value_of s)) (map (renamed_formula n) fs))
  body_served [] a = tt
  body_served (f ∷ fs) a = (formula_served f a.0, body_served fs a.1)

  means_served : (p : Plan) → PlanServed names texts plans p → MeansServed names texts plans m (applied_means s (renamed_means n p))
  means_served p a = record {
    trigger = older_put names texts plans (value_of s) (flat-value s) (n + 1) m l put_below (renamed_literal n p.trigger.lit)
        (literal_renamed n p.trigger.lit (has_written p a.trigger));
    body = body_served p.body a.body;
  }

-- ---- the choice

entry_at : (P : OwnedPlan → Type 0) (lib : List OwnedPlan) → AllByRecursion P lib → (j : ℕ) (e : OwnedPlan) → slice_get lib j ≡ Some e → P e
entry_at P [] a j e q = cc
entry_at P (d ∷ lib) a zero e q = let is : d ≡ e = cc in subst P is a.0
entry_at P (d ∷ lib) a (suc j) e q = entry_at P lib a.1 j e q

module _ (names : List (List ℕ)) (texts : List AgentText) (k : Surroundings) (around : AroundServed names texts k) (p : Circumstance) (parts : PartsServed names texts k.plans p)
    (n : ℕ) (l : n + 1 ≤ p.number) where
  abbrev Served : Chosen → Type 0
  Served = ChosenServed names texts k.plans p.number

  by_plan : (plan : Plan) → PlanServed names texts k.plans plan → (s : List Pair) → SubstBelow (n + 1) s → (rest : Chosen) → Served rest
      → Served (choose_by n plan (sought k p n plan s) rest)
  by_plan plan a s b rest r = go (sought k p n plan s) refl where
    context : ExprBelow p.number (renamed_expr n plan.context)
    context =
        expr_less (late (n + 1)) (late p.number) (later (n + 1) p.number l) (renamed_expr n plan.context)
        (expr_mapped (late 1) (late (n + 1)) (renamed n) (renamed_below n) plan.context a.context)

    go : (x : Answer) → sought k p n plan s ≡ x → Served (choose_by n plan x rest)
    go (answer.Found t m) e =
        let f = found_below names texts k around k.plans p parts (renamed_expr n plan.context) s t m k.budgets.tries k.budgets.depth context
        (pairs_less (late (n + 1)) (late p.number) (later (n + 1) p.number l) s b) e in
        let first = f.0 in
        (f.0, means_served names texts k.plans n m (omega (arith, l, first)) t f.1 plan a)
    go (answer.Spent x) e = tt
    go answer.Nothing e = r
    go answer.Arith e = r
    go answer.TermLimit e = r

  at_place : (o : Option OwnedPlan) (j : ℕ) → slice_get k.plans j ≡ o → (s : List Pair) → SubstBelow (n + 1) s → (rest : Chosen) → Served rest
      → Served (choose_at k p n (option_map (λ e. e.plan) o) s rest)
  at_place None j q s b rest r = r
  at_place (Some e) j q s b rest r = by_plan e.plan (entry_at (λ e. PlanServed names texts k.plans e.plan) k.plans around.plans j e q) s b rest r

  choices_served : (cs : List Choice) → ChoicesBelow (n + 1) cs → Served (choose k p n cs)
  choices_served [] b = tt
  choices_served (c ∷ cs) b = at_place (slice_get k.plans c.plan) c.plan refl c.subst b.0 (choose k p n cs) (choices_served cs b.1)

pub choice_keeps : ChoiceKeeps
choice_keeps names texts k p n t around parts l b =
    choices_served names texts k around p parts n l (relevant k.plans n t) (choices_below n t b 0 k.plans (are_source names texts k around))
