-- Folds of expressions at each variant, and induction by variants.
use Rattle.std.proofs.Common.{◌≡◌, List, [], ◌∷◌, map, refl, ap, sym, ◌∙◌, subst}
use Rattle.std.specs.List.{AllByRecursion}
use Rattle.asl_term.specs.declared.syntax.LiteralOf.{LiteralOf}
use Rattle.asl_term.specs.declared.syntax.Relation.{Relation}
use Rattle.asl_term.specs.declared.syntax.ArgOf.{ArgOf}
use Rattle.asl_term.specs.declared.syntax.ArgOf.TheVariants.{Plain, Logic}
use Rattle.asl_term.specs.declared.syntax.CallOf.{CallOf}
use Rattle.asl_term.specs.declared.syntax.Term.{Term}
use Rattle.asl_term.specs.declared.syntax.Expr.{Expr}
use Rattle.asl_term.specs.declared.syntax.Expr.TheVariants as expr
use Rattle.asl_term.specs.declared.syntax.Expr.TheVariants.{rolls-True, rolls-False, rolls-Holds, rolls-Rel, rolls-Inner, rolls-Not, rolls-And, rolls-Or}
use Rattle.asl_term.specs.declared.syntax.Expr.TheShapes.{former-Expr-Inner-0-at-3}
use Rattle.asl_term.specs.declared.syntax.Expr.TheOpen.{Expr-F}
use Rattle.asl_term.specs.declared.syntax.Expr.TheOpen as layer
use Rattle.asl_term.specs.declared.syntax.Expr.TheViews.{roll-Expr}
use Rattle.asl_term.specs.declared.syntax.Expr.TheFolds.{fold-Expr, ind-Expr, fold-roll-Expr, map-Expr}
use Rattle.asl_term.specs.Exprs.{map_arg}

-- what a fold makes of the arguments, by cases
pub args_mapped : {A B : Type 0} (f : A → B) (args : List (ArgOf A)) → map ((former-Expr-Inner-0-at-3).map A B f) args ≡ map (map_arg f) args
args_mapped f [] = refl
args_mapped f (Plain t ∷ args) = ap (λ r. Plain t ∷ r) (args_mapped f args)
args_mapped f (Logic e ∷ args) = ap (λ r. Logic (f e) ∷ r) (args_mapped f args)

-- one layer of a call, with a function of the expressions in it
abbrev pub map_call : {A B : Type 0} → (A → B) → CallOf A → CallOf B
map_call f c = record { name = c.name; args = map (map_arg f) c.args }

module _ (A : Type 0) (step : Expr-F A → A) where
  abbrev f : Expr → A
  f = fold-Expr A step

  pub fold_true : fold-Expr A step expr.True ≡ step layer.True
  fold_true = ap f (sym rolls-True) ∙ fold-roll-Expr A step layer.True

  pub fold_false : fold-Expr A step expr.False ≡ step layer.False
  fold_false = ap f (sym rolls-False) ∙ fold-roll-Expr A step layer.False

  pub fold_holds : (l : LiteralOf Term) → fold-Expr A step (expr.Holds l) ≡ step (layer.Holds l)
  fold_holds l = ap f (sym (rolls-Holds l)) ∙ fold-roll-Expr A step (layer.Holds l)

  pub fold_rel : (r : Relation) → fold-Expr A step (expr.Rel r) ≡ step (layer.Rel r)
  fold_rel r = ap f (sym (rolls-Rel r)) ∙ fold-roll-Expr A step (layer.Rel r)

  pub fold_inner : (c : CallOf Expr) → fold-Expr A step (expr.Inner c) ≡ step (layer.Inner (map_call (fold-Expr A step) c))
  fold_inner c =
      ap f (sym (rolls-Inner c))
      ∙ fold-roll-Expr A step (layer.Inner c)
      ∙ ap (λ args. step (layer.Inner (record { name = c.name; args = args }))) (args_mapped f c.args)

  pub fold_not : (a : Expr) → fold-Expr A step (expr.Not a) ≡ step (layer.Not (fold-Expr A step a))
  fold_not a = ap f (sym (rolls-Not a)) ∙ fold-roll-Expr A step (layer.Not a)

  pub fold_and : (a b : Expr) → fold-Expr A step (expr.And a b) ≡ step (layer.And (fold-Expr A step a) (fold-Expr A step b))
  fold_and a b = ap f (sym (rolls-And a b)) ∙ fold-roll-Expr A step (layer.And a b)

  pub fold_or : (a b : Expr) → fold-Expr A step (expr.Or a b) ≡ step (layer.Or (fold-Expr A step a) (fold-Expr A step b))
  fold_or a b = ap f (sym (rolls-Or a b)) ∙ fold-roll-Expr A step (layer.Or a b)

-- P of the expression in an argument
abbrev pub OfArg : {E : Type 0} → (E → Type 0) → ArgOf E → Type 0
OfArg P (Plain t) = Unit {0}
OfArg P (Logic e) = P e

pub record Cases (P : Expr → Type 0) : Type 0 where
  pub at_true : P expr.True
  pub at_false : P expr.False
  pub at_holds : (l : LiteralOf Term) → P (expr.Holds l)
  pub at_rel : (r : Relation) → P (expr.Rel r)
  pub at_inner : (c : CallOf Expr) → AllByRecursion (OfArg P) c.args → P (expr.Inner c)
  pub at_not : (a : Expr) → P a → P (expr.Not a)
  pub at_and : (a b : Expr) → P a → P b → P (expr.And a b)
  pub at_or : (a b : Expr) → P a → P b → P (expr.Or a b)

module _ (P : Expr → Type 0) (cases : Cases P) where
  abbrev Part : Type 0
  Part = (e : Expr) × P e

  abbrev part : Part → Expr
  part e = e.0

  each : (args : List (ArgOf Part)) → AllByRecursion (OfArg P) (map ((former-Expr-Inner-0-at-3).map Part Expr part) args)
  each [] = tt
  each (Plain t ∷ args) = (tt, each args)
  each (Logic e ∷ args) = (e.1, each args)

  of_layer : (y : Expr-F Part) → P (roll-Expr (map-Expr Part Expr part y))
  of_layer layer.True = subst P (sym rolls-True) cases.at_true
  of_layer layer.False = subst P (sym rolls-False) cases.at_false
  of_layer (layer.Holds l) = subst P (sym (rolls-Holds l)) (cases.at_holds l)
  of_layer (layer.Rel r) = subst P (sym (rolls-Rel r)) (cases.at_rel r)
  of_layer (layer.Inner c) = subst P (sym (rolls-Inner _)) (cases.at_inner (record { name = c.name; args = map ((former-Expr-Inner-0-at-3).map Part Expr part) c.args }) (each c.args))
  of_layer (layer.Not a) = subst P (sym (rolls-Not _)) (cases.at_not a.0 a.1)
  of_layer (layer.And a b) = subst P (sym (rolls-And _ _)) (cases.at_and a.0 b.0 a.1 b.1)
  of_layer (layer.Or a b) = subst P (sym (rolls-Or _ _)) (cases.at_or a.0 b.0 a.1 b.1)

  -- induction
  pub by_cases : (e : Expr) → P e
  by_cases = ind-Expr P (λ x y is. let Q : Expr-F Expr → Type 0 = λ z. P (roll-Expr z) in subst Q is (of_layer y))
