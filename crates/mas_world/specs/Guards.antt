-- The solutions of a guard over a list of facts, part by part from left to right.
use Rattle.std.specs.Prelude.{Bool, true, false, List, [], ◌∷◌, Option, Some, None, cond}
use Rattle.std.specs.List.{flat_map}
use Rattle.std.specs.Option.{option_to_list}
use Rattle.std.specs.Result.{result_ok}
use Rattle.asl_term.specs.declared.syntax.LiteralOf.{LiteralOf}
use Rattle.asl_term.specs.declared.syntax.Term.{Term}
use Rattle.asl_term.specs.declared.syntax.Expr.{Expr}
use Rattle.asl_term.specs.declared.syntax.Expr.TheOpen.{Expr-F}
use Rattle.asl_term.specs.declared.syntax.Expr.TheOpen as layer
use Rattle.asl_term.specs.declared.syntax.Expr.TheViews.{out-Expr}
use Rattle.asl_unify.specs.declared.subst.Pair.{Pair}
use Rattle.asl_unify.specs.Applied.{applied_literal, within_literal}
use Rattle.asl_unify.specs.Settling.{settle_literal}
use Rattle.asl_unify.specs.Comparing.{Holding, Gives, Fails, Passes, holds}
use Rattle.asl_unify.specs.Matches.{matches}

-- the first item, where there is one
abbrev pub first_of : {A : Type 0} → List A → Option A
first_of [] = None
first_of (x ∷ xs) = Some x

abbrev pub if_so : Bool → List Pair → List (List Pair)
if_so true s = s ∷ []
if_so false s = []

-- a literal under a substitution, its operations made numbers: nothing where it passes the limits or an operation fails
abbrev pub ready : List Pair → LiteralOf Term → Option (LiteralOf Term)
ready s l = cond (within_literal (applied_literal s l)) (result_ok (settle_literal (applied_literal s l))) None

-- the matches with the facts, in their order
abbrev pub found : List (LiteralOf Term) → List Pair → LiteralOf Term → List (List Pair)
found facts s g = flat_map (λ f. matches g f s) facts

abbrev pub if_none : List (List Pair) → List Pair → List (List Pair)
if_none [] s = s ∷ []
if_none (t ∷ more) s = []

abbrev pub if_ready : (LiteralOf Term → List (List Pair)) → Option (LiteralOf Term) → List (List Pair)
if_ready f (Some g) = f g
if_ready f None = []

abbrev pub if_holds : Holding → List (List Pair)
if_holds (Gives o) = option_to_list o
if_holds (Fails e) = []
if_holds Passes = []

-- a literal that no fact may match: it binds nothing, and what is not ready has no solution either
abbrev pub refuted : List (LiteralOf Term) → List Pair → Expr-F Expr → List (List Pair)
refuted facts s (layer.Holds l) = if_ready (λ g. if_none (found facts s g) s) (ready s l)
refuted facts s other = []

-- the solutions of one part: a literal, `not` before a literal, or a relation
abbrev pub part_solutions : List (LiteralOf Term) → List Pair → Expr-F Expr → List (List Pair)
part_solutions facts s (layer.Holds l) = if_ready (found facts s) (ready s l)
part_solutions facts s (layer.Not e) = refuted facts s (out-Expr e)
part_solutions facts s (layer.Rel r) = if_holds (holds r s)
part_solutions facts s other = []

-- rule: the solutions of a guard, part by part from the left: the first part varies slowest
abbrev pub solutions : List (LiteralOf Term) → List Expr → List Pair → List (List Pair)
solutions facts [] s = s ∷ []
solutions facts (p ∷ more) s = flat_map (solutions facts more) (part_solutions facts s (out-Expr p))
