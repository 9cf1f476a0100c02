-- Where the variables of an expression count nothing: by another count, and with other variables.
use Rattle.std.proofs.Common.{◌≡◌, ℕ, ◌+◌, List, [], ◌∷◌, map, refl, sym, ap, ◌∙◌, arith}
use Rattle.std.specs.List.{AllByRecursion}
use Rattle.asl_term.specs.declared.syntax.Var.{Var}
use Rattle.asl_term.specs.declared.syntax.LiteralOf.{LiteralOf}
use Rattle.asl_term.specs.declared.syntax.Term.{Term}
use Rattle.asl_term.specs.declared.syntax.ArgOf.{ArgOf}
use Rattle.asl_term.specs.declared.syntax.ArgOf.TheVariants.{Plain, Logic}
use Rattle.asl_term.specs.declared.syntax.CallOf.{CallOf}
use Rattle.asl_term.specs.declared.syntax.Relation.{Relation}
use Rattle.asl_term.specs.declared.syntax.Expr.{Expr}
use Rattle.asl_term.specs.declared.syntax.Expr.TheVariants as expr
use Rattle.asl_term.specs.Exprs.{map_arg}
use Rattle.asl_term.proofs.Exprs.{OfArg, by_cases, fold_true, fold_false, fold_holds, fold_rel, fold_inner, fold_not, fold_and, fold_or}
use Rattle.asl_unify.specs.inner.Costs.{total, weight}
use Rattle.asl_unify.specs.Mapped.{literal_by, relation_by, arg_by, expr_step_by, expr_by}
use Rattle.asl_lint_laws.specs.Fresh.{terms_count, literal_count, arg_count, expr_count_step, expr_count}
use Rattle.asl_lint_laws.proofs.Counts.{less, terms_less}

-- what an expression counts, at each variant

module _ (f : Var → ℕ) where
  pub count_holds : (l : LiteralOf Term) → expr_count f (expr.Holds l) ≡ literal_count f l
  count_holds l = fold_holds ℕ (expr_count_step f) l

  pub count_rel : (r : Relation) → expr_count f (expr.Rel r) ≡ weight f r.left + weight f r.right
  count_rel r = fold_rel ℕ (expr_count_step f) r

  pub count_inner : (c : CallOf Expr) → expr_count f (expr.Inner c) ≡ total (map (arg_count f) (map (map_arg (expr_count f)) c.args))
  count_inner c = fold_inner ℕ (expr_count_step f) c

  pub count_not : (a : Expr) → expr_count f (expr.Not a) ≡ expr_count f a
  count_not a = fold_not ℕ (expr_count_step f) a

  pub count_and : (a b : Expr) → expr_count f (expr.And a b) ≡ expr_count f a + expr_count f b
  count_and a b = fold_and ℕ (expr_count_step f) a b

  pub count_or : (a b : Expr) → expr_count f (expr.Or a b) ≡ expr_count f a + expr_count f b
  count_or a b = fold_or ℕ (expr_count_step f) a b

-- ---- where each term counts nothing, with other terms in place of them

module _ (f g : Var → ℕ) (k : Term → Term) (z : (t : Term) → weight f t ≡ 0 → weight g (k t) ≡ 0) where
  mapped : (ts : List Term) → terms_count f ts ≡ 0 → terms_count g (map k ts) ≡ 0
  mapped [] e = refl
  mapped (t ∷ ts) e = let one = z t (omega (arith, e)) in let more = mapped ts (omega (arith, e)) in omega (arith, one, more)

  pub literal_mapped : (l : LiteralOf Term) → literal_count f l ≡ 0 → literal_count g (literal_by k l) ≡ 0
  literal_mapped l e = let one = mapped l.args (omega (arith, e)) in let two = mapped l.annots (omega (arith, e)) in omega (arith, one, two)

  abbrev Mapped : Expr → Type 0
  Mapped e = expr_count f e ≡ 0 → expr_count g (expr_by k e) ≡ 0

  args_mapped : (args : List (ArgOf Expr)) → AllByRecursion (OfArg Mapped) args → total (map (arg_count f) (map (map_arg (expr_count f)) args)) ≡ 0
      → total (map (arg_count g) (map (map_arg (expr_count g)) (map (arg_by k) (map (map_arg (expr_by k)) args)))) ≡ 0
  args_mapped [] a e = refl
  args_mapped (Plain t ∷ args) a e =
      let one = z t (omega (arith, e)) in
      let more = args_mapped args a.1 (omega (arith, e)) in omega (arith, one, more)
  args_mapped (Logic x ∷ args) a e =
      let one = a.0 (omega (arith, e)) in
      let more = args_mapped args a.1 (omega (arith, e)) in omega (arith, one, more)

  pub expr_mapped : (e : Expr) → Mapped e
  expr_mapped = by_cases Mapped (record {
    at_true = λ e. ap (expr_count g) (fold_true Expr (expr_step_by k)) ∙ fold_true ℕ (expr_count_step g);
    at_false = λ e. ap (expr_count g) (fold_false Expr (expr_step_by k)) ∙ fold_false ℕ (expr_count_step g);
    at_holds = λ l e.
        ap (expr_count g) (fold_holds Expr (expr_step_by k) l) ∙ count_holds g (literal_by k l)
        ∙ literal_mapped l (sym (count_holds f l) ∙ e);
    at_rel = λ r e.
        let d = count_rel f r in
        let one = z r.left (omega (arith, d, e)) in
        let two = z r.right (omega (arith, d, e)) in
        ap (expr_count g) (fold_rel Expr (expr_step_by k) r) ∙ count_rel g (relation_by k r) ∙ omega (arith, one, two);
    at_inner = λ c h e.
        ap (expr_count g) (fold_inner Expr (expr_step_by k) c)
        ∙ count_inner g (record { name = c.name; args = map (arg_by k) (map (map_arg (expr_by k)) c.args) })
        ∙ args_mapped c.args h (sym (count_inner f c) ∙ e);
    at_not = λ a h e. ap (expr_count g) (fold_not Expr (expr_step_by k) a) ∙ count_not g (expr_by k a) ∙ h (sym (count_not f a) ∙ e);
    at_and = λ a b h i e.
        let d = count_and f a b in
        let one = h (omega (arith, d, e)) in
        let two = i (omega (arith, d, e)) in
        ap (expr_count g) (fold_and Expr (expr_step_by k) a b) ∙ count_and g (expr_by k a) (expr_by k b) ∙ omega (arith, one, two);
    at_or = λ a b h i e.
        let d = count_or f a b in
        let one = h (omega (arith, d, e)) in
        let two = i (omega (arith, d, e)) in
        ap (expr_count g) (fold_or Expr (expr_step_by k) a b) ∙ count_or g (expr_by k a) (expr_by k b) ∙ omega (arith, one, two);
  })

-- ---- by another count

module _ (f g : Var → ℕ) (i : (x : Var) → f x ≡ 0 → g x ≡ 0) where
  abbrev Less : Expr → Type 0
  Less e = expr_count f e ≡ 0 → expr_count g e ≡ 0

  pub literal_less : (l : LiteralOf Term) → literal_count f l ≡ 0 → literal_count g l ≡ 0
  literal_less l e =
      let one = terms_less f g i l.args (omega (arith, e)) in
      let two = terms_less f g i l.annots (omega (arith, e)) in omega (arith, one, two)

  args_less : (args : List (ArgOf Expr)) → AllByRecursion (OfArg Less) args → total (map (arg_count f) (map (map_arg (expr_count f)) args)) ≡ 0
      → total (map (arg_count g) (map (map_arg (expr_count g)) args)) ≡ 0
  args_less [] a e = refl
  args_less (Plain t ∷ args) a e =
      let one = less f g i t (omega (arith, e)) in
      let more = args_less args a.1 (omega (arith, e)) in omega (arith, one, more)
  args_less (Logic x ∷ args) a e =
      let one = a.0 (omega (arith, e)) in
      let more = args_less args a.1 (omega (arith, e)) in omega (arith, one, more)

  pub expr_less : (e : Expr) → Less e
  expr_less = by_cases Less (record {
    at_true = λ e. fold_true ℕ (expr_count_step g);
    at_false = λ e. fold_false ℕ (expr_count_step g);
    at_holds = λ l e. count_holds g l ∙ literal_less l (sym (count_holds f l) ∙ e);
    at_rel = λ r e.
        let d = count_rel f r in
        let one = less f g i r.left (omega (arith, d, e)) in
        let two = less f g i r.right (omega (arith, d, e)) in
        count_rel g r ∙ omega (arith, one, two);
    at_inner = λ c h e. count_inner g c ∙ args_less c.args h (sym (count_inner f c) ∙ e);
    at_not = λ a h e. count_not g a ∙ h (sym (count_not f a) ∙ e);
    at_and = λ a b h j e.
        let d = count_and f a b in
        let one = h (omega (arith, d, e)) in
        let two = j (omega (arith, d, e)) in
        count_and g a b ∙ omega (arith, one, two);
    at_or = λ a b h j e.
        let d = count_or f a b in
        let one = h (omega (arith, d, e)) in
        let two = j (omega (arith, d, e)) in
        count_or g a b ∙ omega (arith, one, two);
  })
