-- When some terms for the variables of a trigger make it the trigger of a goal.
use Rattle.std.specs.Prelude.{◌≡◌, ◌↔◌, true, List, map}
use Rattle.std.specs.List.{AllByRecursion}
use Rattle.asl_term.specs.declared.syntax.Var.{Var}
use Rattle.asl_term.specs.declared.syntax.LiteralOf.{LiteralOf}
use Rattle.asl_term.specs.declared.syntax.Term.{Term}
use Rattle.asl_term.specs.declared.syntax.Term.TheVariants as term
use Rattle.asl_unify.specs.Puts.{put}
use Rattle.asl_unify.specs.Unifiers.{is_tidy}
use Rattle.asl_lint.specs.Covers.{from_any, covers}

-- sign and functor agree, and these terms in place of the variables of h make its arguments those of g
pub record IsInstance (h g : LiteralOf Term) : Type 0 where
  pub sign : h.neg ≡ g.neg
  pub functor : h.functor ≡ g.functor
  pub values : Var → Term
  pub args : map (put values) h.args ≡ g.args

-- rule: the trigger of a plan takes a goal from any source, and the goal is an instance of it
pub record IsCovered (h g : LiteralOf Term) : Type 0 where
  pub instance : IsInstance h g
  pub any_source : from_any h.args h.annots ≡ true

-- no list in these terms has a tail and no items
abbrev pub AreTidy : List Term → Type 0
AreTidy = AllByRecursion (λ t. is_tidy t ≡ true)

-- no list in these terms ends in a list
abbrev pub AreMerged : List Term → Type 0
AreMerged ts = map (put term.Var) ts ≡ ts

-- of literals as a reader gives them, 'covers' tells which goals are covered
abbrev pub CoversTells : Type 0
CoversTells = (h g : LiteralOf Term) → AreTidy h.args → AreMerged g.args → (covers h g ≡ true) ↔ IsCovered h g
