-- The rows for the first formula of the current stack, in the order in which they are asked.
use Rattle.std.specs.Prelude.{ℕ, cond, List, [], Option, None, Some, Ok, Err}
use Rattle.asl_term.specs.declared.syntax.LiteralOf.{LiteralOf}
use Rattle.asl_term.specs.declared.syntax.Term.{Term}
use Rattle.asl_term.specs.declared.syntax.Kind.{Kind}
use Rattle.asl_term.specs.declared.syntax.Kind.TheVariants as kind
use Rattle.asl_term.specs.declared.syntax.Relation.{Relation}
use Rattle.asl_term.specs.declared.syntax.CallOf.{CallOf}
use Rattle.asl_term.specs.declared.syntax.Expr.{Expr}
use Rattle.asl_term.specs.declared.syntax.Expr.TheVariants as expr
use Rattle.asl_term.specs.declared.syntax.Formula.{Formula}
use Rattle.asl_term.specs.declared.syntax.Formula.TheVariants as formula
use Rattle.asl_term.specs.Exprs.{is_ground_literal}
use Rattle.asl_term_actions.specs.declared.action.Action.{Action}
use Rattle.asl_term_actions.specs.declared.action.Action.TheVariants as action
use Rattle.asl_term_actions.specs.Actions.{named}
use Rattle.asl_unify.specs.declared.subst.Pair.{Pair}
use Rattle.asl_unify.specs.Applied.{within_formula}
use Rattle.asl_unify.specs.Settling.{Settled, settle_formula}
use Rattle.asl_unify.specs.Comparing.{Holding, Gives, Fails, Passes, holds}
use Rattle.asl_beliefs.specs.declared.removed.Removed.{Removed}
use Rattle.asl_beliefs.specs.Sources.{with_source}
use Rattle.asl_beliefs.specs.Changes.{Changed, Removal, added, removed, replaced, removed_events}
use Rattle.asl_resolve.specs.declared.answers.Answer.{Answer}
use Rattle.asl_resolve.specs.declared.answers.Answer.TheVariants as answer
use Rattle.asl_intend.specs.declared.entry.Means.{Means}
use Rattle.asl_intend.specs.declared.agenda.Error.TheVariants as error
use Rattle.asl_intend.specs.Stacks.{bound, head, without_head, with_head}
use Rattle.asl_exec_circumstance.specs.declared.rows.Row.{Row}
use Rattle.asl_exec_circumstance.specs.declared.rows.Row.TheVariants as row
use Rattle.asl_exec_circumstance.specs.declared.went.Went.TheVariants as went
use Rattle.asl_exec_circumstance.specs.Sought.{sought}
use Rattle.asl_exec.specs.Said.{print_text}
use Rattle.asl_exec_circumstance.specs.Circumstance.{Surroundings, Circumstance, Made, made, with_agenda, with_number, post, goal_event, believing, failed}

-- Action: the current stack waits as acting; ExecFree where the action has a variable
abbrev pub waiting : Circumstance → List Means → LiteralOf Term → Circumstance
waiting p cur l = with_agenda p (record p.agenda { acting = Some (record { stack = cur; action = l }) })

-- rule Action, ExecFree: the current stack waits for its action, which the thought has; ExecFree where the literal has a variable
abbrev pub act : Surroundings → Circumstance → List Means → LiteralOf Term → Made
act k p cur l = cond (is_ground_literal l) (made (waiting p cur l) [] (went.Action l)) (failed k row.ExecFree error.NotGround p cur)

-- the current stack waits below the event of a goal, with this head, applied and settled
abbrev pub waits : Row → Circumstance → List Means → Formula → Kind → LiteralOf Term → Made
waits r p cur h k g = made (post p (goal_event k g (with_head h cur))) [] (went.Row r)

-- rule AchvGl: the event of the goal, over the current stack, whose head stays
abbrev pub achieve : Circumstance → List Means → LiteralOf Term → Made
achieve p cur g = waits row.AchvGl p cur (formula.Achieve g) kind.Achieve g

-- rule AchvNew: an external event, and the head is removed
abbrev pub spawn : Circumstance → List Means → LiteralOf Term → Made
spawn p cur g = made (post p (goal_event kind.Achieve g [])) (without_head cur) (went.Row row.AchvNew)

-- a solution: it is applied, the counter becomes its next number, and the head is removed
abbrev pub solved : Row → Circumstance → List Means → List Pair → ℕ → Made
solved r p cur s n = made (with_number p n) (without_head (bound s cur)) (went.Row r)

-- rule TestGl1, TestGl2, TestErr, TestSpent: by the answer of the search: a solution, none, a fault, a spent budget
abbrev pub tested : Surroundings → Circumstance → List Means → LiteralOf Term → Answer → Made
tested k p cur g (answer.Found s n) = solved row.TestGl1 p cur s n
tested k p cur g answer.Nothing = waits row.TestGl2 p cur (formula.Test g) kind.Test g
tested k p cur g answer.Arith = failed k row.TestErr error.Arith p cur
tested k p cur g answer.TermLimit = failed k row.TestErr error.TermLimit p cur
tested k p cur g (answer.Spent s) = made p cur (went.Spent row.TestSpent s)

abbrev pub test : Surroundings → Circumstance → List Means → LiteralOf Term → Made
test k p cur g = tested k p cur g (sought k p (expr.Holds g))

-- AddBel and RepBel: the change, and the head is removed
abbrev pub changed : Row → Circumstance → List Means → Changed → Made
changed r p cur c = made (believing p c.beliefs c.events) (without_head cur) (went.Row r)

-- rule AddBel, ExecFree: a belief is added, with default source; ExecFree where the literal has a variable
abbrev pub add : Surroundings → Circumstance → List Means → LiteralOf Term → Made
add k p cur b = cond (is_ground_literal b) (changed row.AddBel p cur (added b p.beliefs)) (failed k row.ExecFree error.NotGround p cur)

-- rule RepBel, ExecFree: a belief is replaced, with default source; ExecFree where the literal has a variable
abbrev pub replace : Surroundings → Circumstance → List Means → LiteralOf Term → Made
replace k p cur b = cond (is_ground_literal b) (changed row.RepBel p cur (replaced b p.beliefs)) (failed k row.ExecFree error.NotGround p cur)

-- the substitution of the match, where there is one, applied
abbrev pub bound_by : Option Removed → List Means → List Means
bound_by None cur = cur
bound_by (Some r) cur = bound r.subst cur

-- rule DelBel: remove, the substitution of the match applied, and the head is removed
abbrev pub deleted : Circumstance → List Means → Removal → Made
deleted p cur r = made (believing p r.beliefs (removed_events r.removed)) (without_head (bound_by r.removed cur)) (went.Row row.DelBel)

abbrev pub delete : Circumstance → List Means → LiteralOf Term → Made
delete p cur b = deleted p cur (removed b [] p.beliefs)

-- rule RelYes, RelNo: whether the relation holds; the sides of a head are within the limits and settled, so the two last lines are not met
abbrev pub related : Surroundings → Circumstance → List Means → Holding → Made
related k p cur (Gives (Some s)) = made p (without_head (bound s cur)) (went.Row row.RelYes)
related k p cur (Gives None) = failed k row.RelNo error.TestFailed p cur
related k p cur (Fails e) = failed k row.ExecArith error.Arith p cur
related k p cur Passes = failed k row.ExecLimit error.TermLimit p cur

abbrev pub relation : Surroundings → Circumstance → List Means → Relation → Made
relation k p cur r = related k p cur (holds r [])

-- rule ExecArith, IaBig, IaSpent, IaFail, IaOk: of an internal action that changes nothing, by the answer of the search
abbrev pub answered : Surroundings → Circumstance → List Means → Answer → Made
answered k p cur answer.Arith = failed k row.ExecArith error.Arith p cur
answered k p cur answer.TermLimit = failed k row.IaBig error.TermLimit p cur
answered k p cur (answer.Spent s) = made p cur (went.Spent row.IaSpent s)
answered k p cur answer.Nothing = failed k row.IaFail error.IaFailed p cur
answered k p cur (answer.Found s n) = solved row.IaOk p cur s n

abbrev pub searched : Surroundings → Circumstance → List Means → CallOf Expr → Made
searched k p cur c = answered k p cur (sought k p (expr.Inner c))

-- rule .print, .fail: `.print` says its arguments, `.fail` has no solution, and a deed is still to be done; the others are searched for
abbrev pub of_action : Surroundings → Circumstance → List Means → CallOf Expr → Option Action → Made
of_action k p cur c (Some action.Print) = made p (without_head cur) (went.Say (print_text c.args))
of_action k p cur c (Some action.Fail) = failed k row.IaFail error.IaFailed p cur
of_action k p cur c (Some (action.Does d)) = made p cur (went.Outer c)
of_action k p cur c other = searched k p cur c

abbrev pub inner : Surroundings → Circumstance → List Means → CallOf Expr → Made
inner k p cur c = of_action k p cur c (named c.name)

-- the row of a formula, applied and settled
abbrev pub of_formula : Surroundings → Circumstance → List Means → Formula → Made
of_formula k p cur (formula.Act l) = act k p cur l
of_formula k p cur (formula.Achieve g) = achieve p cur g
of_formula k p cur (formula.Spawn g) = spawn p cur g
of_formula k p cur (formula.Test g) = test k p cur g
of_formula k p cur (formula.Add b) = add k p cur (with_source b)
of_formula k p cur (formula.Del b) = delete p cur (with_source b)
of_formula k p cur (formula.Replace b) = replace k p cur (with_source b)
of_formula k p cur (formula.Rel r) = relation k p cur r
of_formula k p cur (formula.Inner c) = inner k p cur c

-- rule ExecArith: where the head does not settle
abbrev pub of_settled : Surroundings → Circumstance → List Means → Settled Formula → Made
of_settled k p cur (Err e) = failed k row.ExecArith error.Arith p cur
of_settled k p cur (Ok f) = of_formula k p cur f

-- rule Exec0, ExecLimit: Exec0 where there is no head; ExecLimit where it passes the limits
abbrev pub of_head : Surroundings → Circumstance → List Means → Option Formula → Made
of_head k p cur None = made p cur (went.Row row.Exec0)
of_head k p cur (Some f) = cond (within_formula f) (of_settled k p cur (settle_formula f)) (failed k row.ExecLimit error.TermLimit p cur)

-- (shut, so that proofs above do not look inside)
unfoldable pub exec : Surroundings → Circumstance → List Means → Made
exec k p cur = of_head k p cur (head cur)
