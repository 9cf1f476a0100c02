-- Literals and formulas whose variables have numbers below one.
use Rattle.std.proofs.Common.{◌≡◌, ◌<◌, ◌≤◌, ◌+◌, ℕ, Bool, true, false, cond, List, [], ◌∷◌, ◌++◌, map, refl, sym, ap, ◌∙◌, arith}
use Rattle.std.proofs.lemmas.Bool.{ltb-true, lt-ltb}
use Rattle.std.specs.Prelude.{nat_lt}
use Rattle.std.specs.List.{AllByRecursion}
use Rattle.std.proofs.lemmas.List.{map-append}
use Rattle.asl_term.specs.declared.syntax.Var.{Var}
use Rattle.asl_term.specs.declared.syntax.LiteralOf.{LiteralOf}
use Rattle.asl_term.specs.declared.syntax.Expr.{Expr}
use Rattle.asl_term.specs.declared.syntax.Expr.TheVariants as expr
use Rattle.asl_term.specs.declared.syntax.Formula.{Formula}
use Rattle.asl_term.specs.declared.syntax.Formula.TheVariants as formula
use Rattle.asl_term.specs.declared.syntax.Term.{Term}
use Rattle.asl_term.specs.declared.syntax.Term.TheVariants as term
use Rattle.asl_term.specs.Variables.{occurs}
use Rattle.asl_term.proofs.Exprs.{fold_inner, fold_rel}
use Rattle.asl_unify.specs.inner.Costs.{weight}
use Rattle.asl_unify.specs.Mapped.{literal_by, expr_step_by, expr_by, call_by, relation_by, formula_by}
use Rattle.asl_unify.specs.Puts.{put}
use Rattle.asl_unify.proofs.Marks.{weighs-inside}
use Rattle.asl_lint_laws.specs.Fresh.{late, terms_count, literal_count, expr_count, TermsBelow, LiteralBelow, ExprBelow}
use Rattle.asl_lint_laws.proofs.Counts.{terms_less}
use Rattle.asl_lint_laws.proofs.Exprs.{literal_less, expr_less, literal_mapped, expr_mapped}
use Rattle.asl_lint.specs.Instances.{AreMerged}
use Rattle.asl_lint_laws.specs.Written.{AreFresh, IsApart}
use Rattle.asl_lint_laws.specs.Agendas.{IsMerged, IsOlder, FormulaBelow}

pub late_below : (n : ℕ) (x : Var) → late n x ≡ 0 → x.number < n
late_below n x e = go (nat_lt x.number n) refl e where
  go : (b : Bool) → nat_lt x.number n ≡ b → ◌≡◌ {A = ℕ} (cond b 0 1) 0 → x.number < n
  go true d e = ltb-true x.number n d
  go false d e = absurd (omega (arith, e))

pub below_late : (n : ℕ) (x : Var) → x.number < n → late n x ≡ 0
below_late n x h = ap (λ b. cond b 0 1) (lt-ltb x.number n h)

-- ---- a greater number

pub later : (n m : ℕ) → n ≤ m → (x : Var) → late n x ≡ 0 → late m x ≡ 0
later n m h x e = let a = late_below n x e in below_late m x (omega (arith, a, h))

module _ (n m : ℕ) (l : n ≤ m) where
  pub terms_later : (ts : List Term) → TermsBelow n ts → TermsBelow m ts
  terms_later ts b = terms_less (late n) (late m) (later n m l) ts b

  pub literal_later : (g : LiteralOf Term) → LiteralBelow n g → LiteralBelow m g
  literal_later g b = literal_less (late n) (late m) (later n m l) g b

  pub older_later : (g : LiteralOf Term) → IsOlder n g → IsOlder m g
  older_later g o = record { below = literal_later g o.below; merged = o.merged }

  expr_later : (e : Expr) → ExprBelow n e → ExprBelow m e
  expr_later e b = expr_less (late n) (late m) (later n m l) e b

  pub formula_later : (f : Formula) → FormulaBelow n f → FormulaBelow m f
  formula_later (formula.Achieve g) b = literal_later g b
  formula_later (formula.Spawn g) b = literal_later g b
  formula_later (formula.Test g) b = literal_later g b
  formula_later (formula.Add g) b = literal_later g b
  formula_later (formula.Del g) b = literal_later g b
  formula_later (formula.Replace g) b = literal_later g b
  formula_later (formula.Act g) b = literal_later g b
  formula_later (formula.Inner c) b = expr_later (expr.Inner c) b
  formula_later (formula.Rel r) b = expr_later (expr.Rel r) b

-- ---- a function of terms that keeps what is below one number below another

module _ (n m : ℕ) (k : Term → Term) (z : (t : Term) → weight (late n) t ≡ 0 → weight (late m) (k t) ≡ 0) where
  pub literal_by_below : (g : LiteralOf Term) → LiteralBelow n g → LiteralBelow m (literal_by k g)
  literal_by_below g b = literal_mapped (late n) (late m) k z g b

  pub formula_by_below : (f : Formula) → FormulaBelow n f → FormulaBelow m (formula_by k f)
  formula_by_below (formula.Achieve g) b = literal_by_below g b
  formula_by_below (formula.Spawn g) b = literal_by_below g b
  formula_by_below (formula.Test g) b = literal_by_below g b
  formula_by_below (formula.Add g) b = literal_by_below g b
  formula_by_below (formula.Del g) b = literal_by_below g b
  formula_by_below (formula.Replace g) b = literal_by_below g b
  formula_by_below (formula.Act g) b = literal_by_below g b
  formula_by_below (formula.Inner c) b =
      ap (expr_count (late m)) (sym (fold_inner Expr (expr_step_by k) c)) ∙ expr_mapped (late n) (late m) k z (expr.Inner c) b
  formula_by_below (formula.Rel r) b =
      ap (expr_count (late m)) (sym (fold_rel Expr (expr_step_by k) r)) ∙ expr_mapped (late n) (late m) k z (expr.Rel r) b

-- ---- apart from what is renamed

fresh : (n m : ℕ) → n ≤ m → (ts : List Term) → TermsBelow n ts → AreFresh m ts
fresh n m l [] b = tt
fresh n m l (t ∷ ts) b = (one, fresh n m l ts (omega (arith, b))) where
  one : (x : Var) → occurs x t ≡ true → x.number ≡ m → ⊥
  one x o e =
      let w = weighs-inside (late n) x t o in
      let a = late_below n x (omega (arith, w, b)) in omega (arith, l, a, e)

pub older_apart : (n m : ℕ) → n ≤ m → (g : LiteralOf Term) → IsOlder n g → IsApart m g
older_apart n m l g o =
    let b = o.below in record {
      args = fresh n m l g.args (omega (arith, b));
      annots = fresh n m l g.annots (omega (arith, b));
      merged_args = o.merged.args;
      merged_annots = o.merged.annots;
    }

-- ---- one more annotation

terms_last : (f : Var → ℕ) (xs : List Term) (y : Term) → terms_count f xs ≡ 0 → weight f y ≡ 0 → terms_count f (xs ++ y ∷ []) ≡ 0
terms_last f [] y a b = omega (arith, b)
terms_last f (x ∷ xs) y a b = let more = terms_last f xs y (omega (arith, a)) b in omega (arith, a, more)

merged_last : (xs : List Term) (y : Term) → AreMerged xs → put term.Var y ≡ y → AreMerged (xs ++ y ∷ [])
merged_last xs y a e = map-append (put term.Var) xs (y ∷ []) ∙ (λ i. a i ++ e i ∷ [])

pub below_with : (n : ℕ) (g : LiteralOf Term) (a : Term) → LiteralBelow n g → weight (late n) a ≡ 0 → LiteralBelow n (record g { annots = g.annots ++ a ∷ [] })
below_with n g a b w = let last = terms_last (late n) g.annots a (omega (arith, b)) w in omega (arith, b, last)

pub older_with : (n : ℕ) (g : LiteralOf Term) (a : Term) → IsOlder n g → weight (late n) a ≡ 0 → put term.Var a ≡ a → IsOlder n (record g { annots = g.annots ++ a ∷ [] })
older_with n g a o w e = record {
  below = below_with n g a o.below w;
  merged = record { args = o.merged.args; annots = merged_last g.annots a o.merged.annots e };
}
