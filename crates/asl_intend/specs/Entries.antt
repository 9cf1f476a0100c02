-- What a stack keeps: means and substitutions that are still to be put into them.
use Rattle.std.specs.Option.{option_map}
use Rattle.std.specs.Prelude.{◌≤◌, ℕ, Bool, true, false, ◌&&◌, ◌||◌, cond, List, [], ◌∷◌, ◌++◌, map, drop, slice_get, Option, None, Some, is_some}
use Rattle.asl_term.specs.declared.syntax.LiteralOf.{LiteralOf}
use Rattle.asl_term.specs.declared.syntax.Term.{Term}
use Rattle.asl_term.specs.declared.syntax.Formula.{Formula}
use Rattle.asl_term.specs.declared.syntax.Kind.{Kind}
use Rattle.asl_term.specs.declared.syntax.Kind.TheVariants as kind
use Rattle.asl_term.specs.declared.syntax.Trigger.{Trigger}
use Rattle.asl_unify.specs.Compare.{same_frame}
use Rattle.asl_unify.specs.declared.subst.Pair.{Pair}
use Rattle.asl_unify.specs.Applied.{put_trigger, put_formula}
use Rattle.asl_unify.specs.Turns.{value_in}
use Rattle.asl_intend.specs.declared.entry.Means.{Means}
use Rattle.asl_intend.specs.declared.entry.First.{First}
use Rattle.asl_intend.specs.declared.entry.StackEntry.{StackEntry}

-- the first formula, where it was put in the place of another: it has what was bound since then put into it
abbrev pub seen_first : List (List Pair) → Option First → List Formula
seen_first log None = []
seen_first log (Some f) = put_formula (value_in [] (drop f.since log)) f.formula ∷ []

-- means have their own substitution put into them, and then what was bound since they were pushed
abbrev pub seen : List (List Pair) → StackEntry → Means
seen log e = let h = value_in e.own (drop e.since log) in record {
  trigger = put_trigger h e.trigger;
  body = seen_first log e.first ++ map
      (put_formula h) e.body;
}

-- the first of the formulas that were pushed with the means
abbrev pub first_of_body : List (List Pair) → StackEntry → Option Formula
first_of_body log e = option_map (put_formula (value_in e.own (drop e.since log))) (slice_get e.body 0)

abbrev pub FirstSince : ℕ → Option First → Type 0
FirstSince n None = Unit {0}
FirstSince n (Some f) = f.since ≤ n

-- what an entry counts stands in a log of n substitutions
abbrev pub Since : ℕ → StackEntry → Type 0
Since n e = (e.since ≤ n) × FirstSince n e.first

-- without the first formula

abbrev pub has_first : StackEntry → Bool
has_first e = is_some e.first || is_some (slice_get e.body 0)

abbrev pub without_in : StackEntry → Option First → StackEntry
without_in e (Some f) = record e { first = None }
without_in e None = record e { body = drop 1 e.body }

abbrev pub without_first : StackEntry → StackEntry
without_first e = without_in e e.first

-- with a formula in its place
abbrev pub with_first : Formula → ℕ → StackEntry → StackEntry
with_first f n e = cond (has_first e) (record (without_first e) { first = Some (record { formula = f; since = n }) }) e

-- the same of the top

abbrev pub top_has : List StackEntry → Bool
top_has [] = false
top_has (e ∷ below) = has_first e

abbrev pub on_top : (StackEntry → StackEntry) → List StackEntry → List StackEntry
on_top f [] = []
on_top f (e ∷ below) = f e ∷ below

-- what substitutions leave of the question whether a literal names the goal of a trigger

abbrev pub is_achieve : Kind → Bool
is_achieve kind.Achieve = true
is_achieve kind.Belief = false
is_achieve kind.Test = false

abbrev pub can_name : LiteralOf Term → Trigger → Bool
can_name g t = t.add && is_achieve t.kind && same_frame g t.lit
