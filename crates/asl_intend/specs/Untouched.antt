-- Substitutions that leave means as they are, since nothing that they bind stands in these.
use Rattle.std.specs.Prelude.{◌≡◌, Bool, true, ◌||◌, not, List, [], ◌∷◌, map, Option, Some, None}
use Rattle.std.specs.List.{list_any}
use Rattle.asl_term.specs.Trees.{same_var}
use Rattle.asl_term.specs.declared.syntax.Formula.{Formula}
use Rattle.asl_term.specs.declared.syntax.Var.{Var}
use Rattle.asl_unify.specs.Applied.{put_formula, put_trigger}
use Rattle.asl_unify.specs.Turns.{value_in}
use Rattle.asl_unify.specs.declared.subst.Pair.{Pair}
use Rattle.asl_intend.specs.declared.entry.First.{First}
use Rattle.asl_intend.specs.declared.entry.Means.{Means}
use Rattle.asl_intend.specs.declared.entry.StackEntry.{StackEntry}
use Rattle.asl_intend.specs.Apart.{in_levels, stands_apart}
use Rattle.asl_intend.specs.Means.{put_means}
use Rattle.asl_intend.specs.Stacks.{bound}
use Rattle.asl_term.specs.declared.syntax.LiteralOf.{LiteralOf}
use Rattle.asl_term.specs.declared.syntax.Term.{Term}

-- whether something binds a variable

abbrev pub binds : Var → List Pair → Bool
binds x = list_any (λ p. same_var p.var x)

abbrev pub some_binds : Var → List (List Pair) → Bool
some_binds x = list_any (binds x)

-- whether a variable that is bound stands in other substitutions

abbrev pub stands_bound : List (List Pair) → List Pair → Bool
stands_bound others = list_any (λ p. in_levels p.var others)

abbrev pub some_stands : List (List Pair) → List (List Pair) → Bool
some_stands others = list_any (stands_bound others)

-- none stands in the others, and the other way round
abbrev pub are_disjoint : List (List Pair) → List (List Pair) → Bool
are_disjoint a b = not (some_stands b a || some_stands a b)

-- a formula that was put in the place of another, as it was put there
abbrev pub pushed_first : Option First → List Formula
pushed_first None = []
pushed_first (Some f) = f.formula ∷ []

-- an entry as it is kept
abbrev pub LeavesEntry : List Pair → List (List Pair) → StackEntry → Type 0
LeavesEntry own rest e = let h = value_in own rest in
    (are_disjoint (e.own ∷ []) (own ∷ rest) ≡ true) × (put_trigger h e.trigger ≡ e.trigger)
    × (map (put_formula h) (pushed_first e.first) ≡ pushed_first e.first) × (map (put_formula h) e.body ≡ e.body)

-- a literal of variables that stand nowhere else, and means that are left as they are
abbrev pub StaysUnder : LiteralOf Term → LiteralOf Term → List Pair → List (List Pair) → List Means → Type 0
StaysUnder g l own rest stack = (stands_apart g l (own ∷ rest) ≡ true) × (map (put_means (value_in own rest)) stack ≡ stack)

-- substitutions put into all means, one after another
abbrev pub bound_each : List (List Pair) → List Means → List Means
bound_each [] stack = stack
bound_each (s ∷ rest) stack = bound_each rest (bound s stack)
