-- The platform begins so.
use Rattle.std.proofs.Common.{◌≡◌, ◌+◌, ◌-◌, ℕ, zero, suc, true, List, [], ◌∷◌, map, length, slice_get, Some, IfSome, refl, ap, ◌∙◌, subst, arith}
use Rattle.std.specs.List.{AllByRecursion}
use Rattle.asl_term.specs.declared.syntax.AgentText.{AgentText}
use Rattle.asl_plans.specs.declared.entry.OwnedPlan.{OwnedPlan}
use Rattle.asl_plans.specs.Libraries.{opened}
use Rattle.asl_resolve.specs.declared.answers.Budgets.{Budgets}
use Rattle.mas_mind.specs.declared.mind.Level.{Level}
use Rattle.asl_lint.proofs.Verdicts.{yes_decides}
use Rattle.asl_lint.specs.Lints.{all_hold}
use Rattle.asl_lint_laws.specs.Served.{HasWritten}
use Rattle.mas_top_laws.specs.Read.{IsSource}
use Rattle.mas_top_laws.proofs.Clauses.{sources_are_read}
use Rattle.asl_lint_laws.proofs.Later.{each_weaker, some_weaker}
use Rattle.asl_lint_laws.specs.Read.{IsReadPlan, IsRead}
use Rattle.asl_lint_laws.proofs.Openings.{opens_served}
use Rattle.mas_top_laws.specs.Runs.{Each, MindServed, BoxServed, OnItsWay, minds_from, LintedNever, SourcesNever}
use Rattle.mas_top_laws.proofs.Sets.{replicate_each}
use Rattle.mas_top_laws.proofs.Turns.{run_never}

abbrev libs_of : List AgentText → List (List OwnedPlan)
libs_of texts = map (λ t. opened t.plans) texts

module _ (names : List (List ℕ)) (texts : List AgentText) (k : Budgets) (level : Level) (reads : AllByRecursion IsRead texts) (holds : all_hold names texts ≡ true) where
  -- the agents from number i + 1 on
  minds_at : (i : ℕ) (rest : List AgentText) → ((j : ℕ) (t : AgentText) → slice_get rest j ≡ Some t → slice_get texts (i + j) ≡ Some t) → (j : ℕ)
      → IfSome (slice_get (minds_from names k level (i + 1) rest) j) (MindServed texts (libs_of texts) (i + j))
  minds_at i [] f j = tt
  minds_at i (t ∷ rest) f zero =
      let at : slice_get texts ((i + 1) - 1) ≡ Some t = ap (slice_get texts) (omega arith) ∙ f 0 t refl in
      record { served = opens_served names texts (i + 1) t k level reads holds (λ e. omega (arith, e)) at; place = omega arith }
  minds_at i (t ∷ rest) f (suc j) =
      let same : (i + 1) + j ≡ i + suc j = omega arith in
      some_weaker (MindServed texts (libs_of texts) ((i + 1) + j)) (MindServed texts (libs_of texts) (i + suc j))
      (λ m s. subst (λ n. MindServed texts (libs_of texts) n m) same s) (slice_get (minds_from names k level ((i + 1) + 1) rest) j)
      (minds_at (i + 1) rest (λ l u e. ap (slice_get texts) (omega arith) ∙ f (suc l) u e) j)

  minds_served : Each (MindServed texts (libs_of texts)) (minds_from names k level 1 texts)
  minds_served j =
      let none : 0 + j ≡ j = omega arith in
      some_weaker (MindServed texts (libs_of texts) (0 + j)) (MindServed texts (libs_of texts) j) (λ m s. subst (λ n. MindServed texts (libs_of texts) n m) none s)
      (slice_get (minds_from names k level 1 texts) j) (from_zero j)
    where
      from_zero : (j : ℕ) → IfSome (slice_get (minds_from names k level (0 + 1) texts) j) (MindServed texts (libs_of texts) (0 + j))
      from_zero j = minds_at 0 texts (λ l u e. ap (slice_get texts) (omega arith) ∙ e) j

written : (texts : List AgentText) → AllByRecursion IsRead texts → AllByRecursion (λ t. AllByRecursion HasWritten t.plans) texts
written texts a = each_weaker IsRead (λ t. AllByRecursion HasWritten t.plans) (λ t s. each_weaker IsReadPlan HasWritten (λ p r. r.trigger) t.plans s.plans) texts a

pub linted_never : LintedNever
linted_never names texts w cycles lead k level schedule facts reads said =
    let holds = (yes_decides names texts).0 said in
    run_never texts (libs_of texts) (record { opened = refl; written = written texts reads }) schedule _
    (record {
      world = facts;
      minds = minds_served names texts k level reads holds;
      boxes = replicate_each (BoxServed texts (libs_of texts)) (length names) [] (λ j. tt);
      thoughts = replicate_each (OnItsWay texts (libs_of texts)) _ _ (λ j. tt);
    })

pub sources_never : SourcesNever
sources_never names texts w cycles lead k level schedule facts sources said =
    linted_never names texts w cycles lead k level schedule facts (each_weaker IsSource IsRead sources_are_read texts sources) said
