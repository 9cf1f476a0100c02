-- A settled formula of a body is served as it was.
use Rattle.std.proofs.Common.{◌≡◌, ℕ, List, [], ◌∷◌, map, Ok, refl, sym, ◌∙◌, subst, arith}
use Rattle.asl_term.specs.declared.syntax.AgentText.{AgentText}
use Rattle.asl_term.specs.declared.syntax.ArgOf.{ArgOf}
use Rattle.asl_term.specs.declared.syntax.ArgOf.TheVariants.{Plain, Logic}
use Rattle.asl_term.specs.declared.syntax.CallOf.{CallOf}
use Rattle.asl_term.specs.declared.syntax.Expr.{Expr}
use Rattle.asl_term.specs.declared.syntax.Expr.TheVariants as expr
use Rattle.asl_term.specs.declared.syntax.Formula.{Formula}
use Rattle.asl_term.specs.declared.syntax.Formula.TheVariants as formula
use Rattle.asl_term.specs.declared.syntax.Kind.{Kind}
use Rattle.asl_term.specs.declared.syntax.Kind.TheVariants as kind
use Rattle.asl_term.specs.declared.syntax.LiteralOf.{LiteralOf}
use Rattle.asl_term.specs.declared.syntax.Term.{Term}
use Rattle.asl_term.specs.declared.syntax.Var.{Var}
use Rattle.asl_term.specs.Exprs.{map_arg}
use Rattle.asl_unify.specs.inner.Costs.{total}
use Rattle.asl_unify.specs.Settling.{and_then, each, settle, settle_literal, settle_relation, settle_arg, settle_call, settle_formula}
use Rattle.asl_lint_laws.specs.Fresh.{late, arg_count, expr_count, LiteralBelow, ExprBelow}
use Rattle.asl_lint_laws.proofs.Exprs.{count_rel, count_inner}
use Rattle.asl_lint_laws.proofs.FreshSettles.{settle_stays, literal_stays, relation_stays}
use Rattle.asl_plans.specs.declared.entry.OwnedPlan.{OwnedPlan}
use Rattle.asl_lint_laws.specs.Served.{here, further, AreSource, IsServed}
use Rattle.asl_lint_laws.proofs.Flattens.{merged_settled}
use Rattle.asl_lint_laws.proofs.Instances.{instance_settled}
use Rattle.asl_lint_laws.proofs.Settles.{settled_parts}
use Rattle.asl_lint_laws.proofs.Settling.{goes, ok_is}
use Rattle.asl_lint_laws.specs.Agendas.{IsMerged, IsOlder, FormulaServed}
use Rattle.asl_lint_laws.specs.RowsServed.{CallServed}

-- ---- variables

module _ (f : Var → ℕ) where
  abbrev args_count : List (ArgOf Expr) → ℕ
  args_count args = total (map (arg_count f) (map (map_arg (expr_count f)) args))

  args_stay : (args others : List (ArgOf Expr)) → each (map settle_arg args) ≡ Ok others → args_count args ≡ 0 → args_count others ≡ 0
  args_stay [] others e d = subst (λ z. args_count z ≡ 0) (ok_is [] others e) refl
  args_stay (Plain t ∷ args) others e d =
      let a = goes (settle_arg (Plain t)) (λ x. and_then (each (map settle_arg args)) (λ xs. Ok (x ∷ xs))) others e in
      let b = goes (settle t) (λ x. Ok (Plain x)) a.value a.is in
      let c = goes (each (map settle_arg args)) (λ xs. Ok (a.value ∷ xs)) others a.rest in
      let one = settle_stays f t b.value b.is (omega (arith, d)) in
      let more = args_stay args c.value c.is (omega (arith, d)) in
      let both : args_count (Plain b.value ∷ c.value) ≡ 0 = omega (arith, one, more) in
      subst (λ z. args_count z ≡ 0) (ok_is (a.value ∷ c.value) others c.rest)
      (subst (λ z. args_count (z ∷ c.value) ≡ 0) (ok_is (Plain b.value) a.value b.rest) both)
  args_stay (Logic x ∷ args) others e d =
      let c = goes (each (map settle_arg args)) (λ xs. Ok (Logic x ∷ xs)) others e in
      let more = args_stay args c.value c.is (omega (arith, d)) in
      let both : args_count (Logic x ∷ c.value) ≡ 0 = omega (arith, d, more) in
      subst (λ z. args_count z ≡ 0) (ok_is (Logic x ∷ c.value) others c.rest) both

  call_stays : (c d : CallOf Expr) → settle_call c ≡ Ok d → expr_count f (expr.Inner c) ≡ 0 → expr_count f (expr.Inner d) ≡ 0
  call_stays c d e b =
      let a = goes (each (map settle_arg c.args)) (λ xs. Ok (record { name = c.name; args = xs })) d e in
      let stays = args_stay c.args a.value a.is (sym (count_inner f c) ∙ b) in
      let made : CallOf Expr = record { name = c.name; args = a.value } in
      subst (λ z. expr_count f (expr.Inner z) ≡ 0) (ok_is made d a.rest) (count_inner f made ∙ stays)

-- ---- goals

pub served_settled : (k : Kind) (g m : LiteralOf Term) (plans : List OwnedPlan) → AreSource plans → IsMerged g → settle_literal g ≡ Ok m → IsServed k plans g → IsServed k plans m
served_settled k g m [] a i e s = elim s [ ]
served_settled k g m (p ∷ ps) a i e (here s) = here (record {
  add = s.add;
  kind = s.kind;
  covered = record {
    instance = instance_settled p.plan.trigger.lit g m a.0.args i.args s.covered.instance e;
    any_source = s.covered.any_source;
  };
})
served_settled k g m (p ∷ ps) a i e (further s) = further (served_settled k g m ps a.1 i e s)

pub merged_literal : (g m : LiteralOf Term) → IsMerged g → settle_literal g ≡ Ok m → IsMerged m
merged_literal g m i e =
    let s = settled_parts g m e in
    record { args = merged_settled g.args m.args s.args i.args; annots = merged_settled g.annots m.annots s.annots i.annots }

-- ---- formulas

module _ (names : List (List ℕ)) (texts : List AgentText) (plans : List OwnedPlan) (n : ℕ) where
  abbrev pub Ready : Formula → Type 0
  Ready (formula.Achieve g) = IsServed kind.Achieve plans g × IsOlder n g
  Ready (formula.Spawn g) = IsServed kind.Achieve plans g × IsOlder n g
  Ready (formula.Test g) = IsServed kind.Test plans g × IsOlder n g
  Ready (formula.Add l) = LiteralBelow n l
  Ready (formula.Del l) = LiteralBelow n l
  Ready (formula.Replace l) = LiteralBelow n l
  Ready (formula.Act l) = LiteralBelow n l
  Ready (formula.Inner c) = CallServed names texts plans n c
  Ready (formula.Rel r) = ExprBelow n (expr.Rel r)

  module _ (source : AreSource plans) where
    goal_ready : (k : Kind) (g m : LiteralOf Term) → IsServed k plans g → IsMerged g → LiteralBelow n g → settle_literal g ≡ Ok m → IsServed k plans m × IsOlder n m
    goal_ready k g m s i b e =
        (served_settled k g m plans source i e s, record { below = literal_stays (late n) g m e b; merged = merged_literal g m i e })

    pub ready : (f m : Formula) → FormulaServed names texts plans n f → settle_formula f ≡ Ok m → Ready m
    ready (formula.Achieve g) m s e =
        let a = goes (settle_literal g) (λ x. Ok (formula.Achieve x)) m e in
        subst Ready (ok_is (formula.Achieve a.value) m a.rest) (goal_ready kind.Achieve g a.value s.goal.0 s.goal.1 s.below a.is)
    ready (formula.Spawn g) m s e =
        let a = goes (settle_literal g) (λ x. Ok (formula.Spawn x)) m e in
        subst Ready (ok_is (formula.Spawn a.value) m a.rest) (goal_ready kind.Achieve g a.value s.goal.0 s.goal.1 s.below a.is)
    ready (formula.Test g) m s e =
        let a = goes (settle_literal g) (λ x. Ok (formula.Test x)) m e in
        subst Ready (ok_is (formula.Test a.value) m a.rest) (goal_ready kind.Test g a.value s.goal.0 s.goal.1 s.below a.is)
    ready (formula.Add l) m s e =
        let a = goes (settle_literal l) (λ x. Ok (formula.Add x)) m e in
        subst Ready (ok_is (formula.Add a.value) m a.rest) (literal_stays (late n) l a.value a.is s.below)
    ready (formula.Del l) m s e =
        let a = goes (settle_literal l) (λ x. Ok (formula.Del x)) m e in
        subst Ready (ok_is (formula.Del a.value) m a.rest) (literal_stays (late n) l a.value a.is s.below)
    ready (formula.Replace l) m s e =
        let a = goes (settle_literal l) (λ x. Ok (formula.Replace x)) m e in
        subst Ready (ok_is (formula.Replace a.value) m a.rest) (literal_stays (late n) l a.value a.is s.below)
    ready (formula.Act l) m s e =
        let a = goes (settle_literal l) (λ x. Ok (formula.Act x)) m e in
        subst Ready (ok_is (formula.Act a.value) m a.rest) (literal_stays (late n) l a.value a.is s.below)
    ready (formula.Inner c) m s e =
        let a = goes (settle_call c) (λ x. Ok (formula.Inner x)) m e in
        subst Ready (ok_is (formula.Inner a.value) m a.rest)
        (record { below = call_stays (late n) c a.value a.is s.below; source = c; linted = s.goal; settled = a.is })
    ready (formula.Rel r) m s e =
        let a = goes (settle_relation r) (λ x. Ok (formula.Rel x)) m e in
        subst Ready (ok_is (formula.Rel a.value) m a.rest)
        (count_rel (late n) a.value ∙ relation_stays (late n) r a.value a.is (sym (count_rel (late n) r) ∙ s.below))
