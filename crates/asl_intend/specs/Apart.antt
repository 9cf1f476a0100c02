-- A literal whose arguments are variables that stand nowhere else. Its match with another one binds each of them to the argument
-- in its place, however large that is.
use Rattle.std.specs.Prelude.{◌≡◌, Bool, true, false, ◌&&◌, ◌||◌, not, List, [], ◌∷◌, map, Option, Some, None}
use Rattle.std.specs.List.{list_any}
use Rattle.asl_term.specs.Trees.{same_var}
use Rattle.asl_term.specs.Variables.{any, occurs}
use Rattle.asl_term.specs.declared.syntax.LiteralOf.{LiteralOf}
use Rattle.asl_term.specs.declared.syntax.Term.{Term}
use Rattle.asl_term.specs.declared.syntax.Trigger.{Trigger}
use Rattle.asl_term.specs.declared.syntax.Var.{Var}
use Rattle.asl_unify.specs.declared.subst.Pair.{Pair}
use Rattle.asl_unify.specs.Compare.{same_frame, var_of}
use Rattle.asl_unify.specs.Matches.{matches}
use Rattle.asl_unify.specs.Turns.{value_in}
use Rattle.asl_intend.specs.declared.entry.Means.{Means}
use Rattle.asl_intend.specs.declared.entry.StackEntry.{StackEntry}
use Rattle.asl_intend.specs.Entries.{seen}
use Rattle.asl_intend.specs.Means.{put_means, applied_means}

-- each variable with the term in its place

abbrev pub with_bound : Option Var → Term → List Pair → List Pair
with_bound (Some v) t more = record { var = v; term = t } ∷ more
with_bound None t more = more

abbrev pub bound_to : List Term → List Term → List Pair
bound_to (x ∷ xs) (t ∷ ts) = with_bound (var_of x) t (bound_to xs ts)
bound_to xs ts = []

-- whether a variable stands in terms, and in substitutions

abbrev pub stands : Var → List Term → Bool
stands v ts = any (map (occurs v) ts)

abbrev pub in_pair : Var → Pair → Bool
in_pair v p = same_var p.var v || occurs v p.term

abbrev pub in_pairs : Var → List Pair → Bool
in_pairs v = list_any (in_pair v)

abbrev pub in_levels : Var → List (List Pair) → Bool
in_levels v = list_any (in_pairs v)

-- whether these are variables, no two of them are one, and none stands in terms or in substitutions

abbrev pub is_apart : List Term → List (List Pair) → List Term → Option Var → Bool
is_apart us levels xs None = false
is_apart us levels xs (Some v) = not (stands v xs || (stands v us || in_levels v levels))

abbrev pub are_apart : List Term → List (List Pair) → List Term → Bool
are_apart us levels [] = true
are_apart us levels (x ∷ xs) = is_apart us levels xs (var_of x) && are_apart us levels xs

abbrev pub is_bare : List Term → Bool
is_bare [] = true
is_bare (t ∷ ts) = false

-- a literal of such variables, without annotations, that has the frame of another one
abbrev pub stands_apart : LiteralOf Term → LiteralOf Term → List (List Pair) → Bool
stands_apart g l levels = same_frame g l && is_bare g.annots && are_apart l.args levels g.args

-- a literal has one match alone, which binds each of its arguments to the one in its place
abbrev pub HasOneMatch : LiteralOf Term → LiteralOf Term → Type 0
HasOneMatch g l = matches g l [] ≡ bound_to g.args l.args ∷ []

-- the arguments of means stand apart, and what is still to be put into a trigger leaves the means as they are
abbrev pub StaysApart : Means → StackEntry → List (List Pair) → Type 0
StaysApart m e rest = (stands_apart m.trigger.lit e.trigger.lit (e.own ∷ rest) ≡ true) × (put_means (value_in e.own rest) m ≡ m)

-- with all put in, an entry has the means with what their trigger binds in a trigger
pub record IsUnder (m : Means) (e : StackEntry) (log : List (List Pair)) (made : StackEntry) : Type 0 where
  pub one : HasOneMatch m.trigger.lit (seen log e).trigger.lit
  pub means : seen log made ≡ applied_means (bound_to m.trigger.lit.args (seen log e).trigger.lit.args) m
  pub since : made.since ≡ e.since
  pub first : made.first ≡ None

-- means are on top of a stack, with what their trigger binds in a trigger, which is the one match of the two
pub record PushedBy (m : Means) (t : Trigger) (old new : List Means) : Type 0 where
  pub one : HasOneMatch m.trigger.lit t.lit
  pub stack : new ≡ applied_means (bound_to m.trigger.lit.args t.lit.args) m ∷ old
