-- The formulas that are left of means, by their places.
use Rattle.std.specs.Prelude.{ℕ, List, [], drop, slice_get, Option, None, Some}
use Rattle.std.specs.Option.{option_map}
use Rattle.asl_term.specs.declared.syntax.Formula.{Formula}
use Rattle.asl_unify.specs.declared.subst.Pair.{Pair}
use Rattle.asl_unify.specs.Applied.{put_formula}
use Rattle.asl_unify.specs.Turns.{value_in}
use Rattle.asl_intend.specs.declared.entry.Means.{Means}
use Rattle.asl_intend.specs.declared.entry.StackEntry.{StackEntry}

abbrev pub body_of : Option Means → List Formula
body_of None = []
body_of (Some m) = m.body

-- what is left of the means at a place, the top being 0
abbrev pub body_at : List Means → ℕ → List Formula
body_at stack k = body_of (slice_get stack k)

-- the formula at a place of it
abbrev pub formula_at : List Means → ℕ → ℕ → Option Formula
formula_at stack k j = slice_get (body_at stack k) j

-- the same of the formulas that were pushed with the means
abbrev pub pushed_formula : List (List Pair) → StackEntry → ℕ → Option Formula
pushed_formula log e j = option_map (put_formula (value_in e.own (drop e.since log))) (slice_get e.body j)
