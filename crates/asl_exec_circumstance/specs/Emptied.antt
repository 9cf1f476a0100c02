-- The rows for a stack whose top is done, in the order in which they are asked: ClrLimit before ClrInt2.
use Rattle.std.specs.Prelude.{cond, List, [], ◌∷◌, Option, None, Some}
use Rattle.asl_term.specs.declared.syntax.LiteralOf.{LiteralOf}
use Rattle.asl_term.specs.declared.syntax.Term.{Term}
use Rattle.asl_term.specs.declared.syntax.Formula.{Formula}
use Rattle.asl_term.specs.declared.syntax.Formula.TheVariants as formula
use Rattle.asl_unify.specs.declared.subst.Pair.{Pair}
use Rattle.asl_unify.specs.Compare.{same_frame, asks}
use Rattle.asl_unify.specs.Unified.{unified}
use Rattle.asl_unify.specs.Matches.{agreed}
use Rattle.asl_intend.specs.declared.entry.Means.{Means}
use Rattle.asl_intend.specs.declared.agenda.Error.TheVariants as error
use Rattle.asl_intend.specs.Stacks.{bound, head, without_head, is_bounded, is_bounded_trigger}
use Rattle.asl_exec_circumstance.specs.declared.rows.Row.TheVariants as row
use Rattle.asl_exec_circumstance.specs.declared.went.Went.TheVariants as went
use Rattle.asl_exec_circumstance.specs.Circumstance.{Surroundings, Circumstance, Made, made, failed}

-- what unifies two literals without annotations
abbrev pub unifier : LiteralOf Term → LiteralOf Term → Option (List Pair)
unifier l m = cond (same_frame l m) (agreed (unified [] (asks l.args m.args []))) None

-- the trigger's literal with the goal that stands below
abbrev pub answer : LiteralOf Term → Option Formula → Option (List Pair)
answer l (Some (formula.Achieve g)) = unifier l g
answer l (Some (formula.Test g)) = unifier l g
answer l other = None

abbrev pub bound_by : Option (List Pair) → List Means → List Means
bound_by None below = below
bound_by (Some s) below = bound s below

-- rule ClrInt2: the goal below is done, with what the trigger brings back
abbrev pub done_below : Circumstance → LiteralOf Term → List Means → Made
done_below p l below = made p (without_head (bound_by (answer l (head below)) below)) (went.Row row.ClrInt2)

-- rule ClrLimit, ClrInt2: the top is popped whose literal this is: ClrLimit where the head below passes the limits, else ClrInt2
abbrev pub popped : Surroundings → Circumstance → LiteralOf Term → List Means → Made
popped k p l below = cond (is_bounded (head below)) (done_below p l below) (failed k row.ClrLimit error.TermLimit p below)

-- ClrLimit too where that literal itself passes them
abbrev pub emptied_top : Surroundings → Circumstance → Means → List Means → Made
emptied_top k p m [] = made p [] (went.Row row.ClrInt1)
emptied_top k p m (n ∷ below) = cond (is_bounded_trigger m.trigger) (popped k p m.trigger.lit (n ∷ below)) (failed k row.ClrLimit error.TermLimit p (n ∷ below))

-- rule ClrInt1, ClrLimit: a stack whose top has an empty body: ClrInt1 where nothing stands below, ClrLimit where the literal of the top
-- passes the limits
abbrev pub emptied : Surroundings → Circumstance → List Means → Made
emptied k p [] = made p [] (went.Row row.ClrInt1)
emptied k p (m ∷ below) = emptied_top k p m below
