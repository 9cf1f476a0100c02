-- Numbers of variables: where none is a given number or greater.
use Rattle.std.specs.Prelude.{◌≡◌, ◌≤◌, ℕ, ◌+◌, nat_lt, cond, List, [], ◌∷◌, map}
use Rattle.std.specs.List.{AllByRecursion}
use Rattle.asl_term.specs.declared.syntax.Var.{Var}
use Rattle.asl_term.specs.declared.syntax.LiteralOf.{LiteralOf}
use Rattle.asl_term.specs.declared.syntax.Term.{Term}
use Rattle.asl_term.specs.declared.syntax.ArgOf.{ArgOf}
use Rattle.asl_term.specs.declared.syntax.ArgOf.TheVariants as arg
use Rattle.asl_term.specs.declared.syntax.Expr.{Expr}
use Rattle.asl_term.specs.declared.syntax.Expr.TheOpen.{Expr-F}
use Rattle.asl_term.specs.declared.syntax.Expr.TheOpen as layer
use Rattle.asl_term.specs.declared.syntax.Expr.TheFolds.{fold-Expr}
use Rattle.asl_unify.specs.declared.subst.Pair.{Pair}
use Rattle.asl_unify.specs.inner.Costs.{total, weight}
use Rattle.asl_unify.specs.Facts.{Fact, Belief, Rule}
use Rattle.asl_unify.specs.Matches.{matches}
use Rattle.asl_resolve.specs.declared.actions.Inner.TheVariants.{Sols}
use Rattle.asl_resolve.specs.Base.{Base, Solve}
use Rattle.asl_resolve.specs.Solves.{Among, One}
use Rattle.asl_stdlib.specs.Solving.{solve as standard}

-- one for a variable whose number is n or greater
abbrev pub late : ℕ → Var → ℕ
late n x = cond (nat_lt x.number n) 0 1

-- ---- sums over the variables of a term, one for each place, by what each variable counts

abbrev pub terms_count : (Var → ℕ) → List Term → ℕ
terms_count f ts = total (map (weight f) ts)

abbrev pub literal_count : (Var → ℕ) → LiteralOf Term → ℕ
literal_count f l = terms_count f l.args + terms_count f l.annots

-- of an argument whose expression, if it has one, is counted
abbrev pub arg_count : (Var → ℕ) → ArgOf ℕ → ℕ
arg_count f (arg.Plain t) = weight f t
arg_count f (arg.Logic n) = n

abbrev pub expr_count_step : (Var → ℕ) → Expr-F ℕ → ℕ
expr_count_step f layer.True = 0
expr_count_step f layer.False = 0
expr_count_step f (layer.Holds l) = literal_count f l
expr_count_step f (layer.Rel r) = weight f r.left + weight f r.right
expr_count_step f (layer.Inner c) = total (map (arg_count f) c.args)
expr_count_step f (layer.Not a) = a
expr_count_step f (layer.And a b) = a + b
expr_count_step f (layer.Or a b) = a + b

abbrev pub expr_count : (Var → ℕ) → Expr → ℕ
expr_count f = fold-Expr ℕ (expr_count_step f)

-- of a substitution, its variables and what they are
abbrev pub pairs_count : (Var → ℕ) → List Pair → ℕ
pairs_count f [] = 0
pairs_count f (p ∷ s) = f p.var + weight f p.term + pairs_count f s

-- ---- no variable has the number n or a greater one

abbrev pub TermsBelow : ℕ → List Term → Type 0
TermsBelow n ts = terms_count (late n) ts ≡ 0

abbrev pub LiteralBelow : ℕ → LiteralOf Term → Type 0
LiteralBelow n l = literal_count (late n) l ≡ 0

abbrev pub ExprBelow : ℕ → Expr → Type 0
ExprBelow n e = expr_count (late n) e ≡ 0

abbrev pub SubstBelow : ℕ → List Pair → Type 0
SubstBelow n s = pairs_count (late n) s ≡ 0

-- a belief has no variables, and those of a rule have the number 0
abbrev pub FactBelow : Fact → Type 0
FactBelow (Belief l) = LiteralBelow 0 l
FactBelow (Rule c) = LiteralBelow 1 c.head × ExprBelow 1 c.body

-- internal actions bring no other variables
abbrev pub SolvesBelow : Solve → Type 0
SolvesBelow solve =
    (n : ℕ) (name : List ℕ) (args : List Term) (s t : List Pair) (ts : List (List Pair)) → TermsBelow n args → SubstBelow n s → solve name args s ≡ Sols ts →
    Among t ts → SubstBelow n t

-- ---- the laws

abbrev pub MatchesBelow : Type 0
MatchesBelow =
    (n : ℕ) (p q : LiteralOf Term) (s : List Pair) → LiteralBelow n p → LiteralBelow n q → SubstBelow n s → AllByRecursion (SubstBelow n) (matches p q s)

abbrev pub SolutionsBelow : Type 0
SolutionsBelow =
    (b : Base) (e : Expr) (s t : List Pair) (n m : ℕ) → AllByRecursion FactBelow b.facts → SolvesBelow b.solve → ExprBelow n e → SubstBelow n s →
    One b e s n t m → (n ≤ m) × SubstBelow m t

-- so it is of the internal actions of formulas
abbrev pub StandardBelow : Type 0
StandardBelow = (me : List ℕ) → SolvesBelow (standard me)
