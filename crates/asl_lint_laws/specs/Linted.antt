-- Calls that come from one of which lint says that it holds.
use Rattle.std.specs.Prelude.{◌≡◌, ℕ, true, List, [], ◌∷◌, length, Some}
use Rattle.std.specs.List.{AllByRecursion}
use Rattle.asl_term.specs.declared.syntax.AgentText.{AgentText}
use Rattle.asl_term.specs.declared.syntax.ArgOf.{ArgOf}
use Rattle.asl_term.specs.declared.syntax.ArgOf.TheVariants.{Plain, Logic}
use Rattle.asl_term.specs.declared.syntax.CallOf.{CallOf}
use Rattle.asl_term.specs.declared.syntax.Expr.{Expr}
use Rattle.asl_term.specs.declared.syntax.Term.{Term}
use Rattle.asl_term.specs.declared.syntax.Term.TheVariants as term
use Rattle.asl_term.specs.declared.syntax.Var.{Var}
use Rattle.asl_term_actions.specs.declared.action.Action.TheVariants as action
use Rattle.asl_term_actions.specs.declared.action.Deed.TheVariants as deed
use Rattle.asl_term_actions.specs.Actions.{named, takes}
use Rattle.asl_unify.specs.Puts.{put}
use Rattle.asl_lint.specs.Items.{call_holds}

-- these values in place of variables make the terms among the arguments those of others
abbrev pub ArgsBy : (Var → Term) → List (ArgOf Expr) → List (ArgOf Expr) → Type 0
ArgsBy v [] [] = Unit {0}
ArgsBy v (Plain t ∷ more) (Plain u ∷ others) = (put v t ≡ u) × ArgsBy v more others
ArgsBy v (Logic e ∷ more) (Logic f ∷ others) = ArgsBy v more others
ArgsBy v args others = ⊥

-- no list in a term among the arguments ends in a list
abbrev pub IsMergedArg : ArgOf Expr → Type 0
IsMergedArg (Plain t) = put term.Var t ≡ t
IsMergedArg (Logic e) = Unit {0}

-- the calls that send have as many arguments as their actions take
pub record HasArity (c : CallOf Expr) : Type 0 where
  pub send : named c.name ≡ Some (action.Does deed.Send) → takes (action.Does deed.Send) (length c.args) ≡ true
  pub broadcast : named c.name ≡ Some (action.Does deed.Broadcast) → takes (action.Does deed.Broadcast) (length c.args) ≡ true

-- lint says of a call in some source that it holds; with these values it is the call
pub record IsLinted (names : List (List ℕ)) (texts : List AgentText) (c : CallOf Expr) : Type 0 where
  pub source : CallOf Expr
  pub holds : call_holds names texts source ≡ true
  pub merged : AllByRecursion IsMergedArg source.args
  pub arity : HasArity source
  pub name : c.name ≡ source.name
  pub values : Var → Term
  pub flat : (x : Var) → put term.Var (values x) ≡ values x
  pub args : ArgsBy values source.args c.args
