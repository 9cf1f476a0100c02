-- The rows for the first formula of the current stack.
use Rattle.std.proofs.Common.{◌≡◌, ◌≤◌, ℕ, Bool, true, false, cond, List, [], ◌∷◌, Option, Some, None, Ok, Err, IfSome, refl, sym, ◌∙◌, subst}
use Rattle.std.specs.List.{AllByRecursion}
use Rattle.asl_term.specs.declared.syntax.AgentText.{AgentText}
use Rattle.asl_term.specs.declared.syntax.CallOf.{CallOf}
use Rattle.asl_term.specs.declared.syntax.Expr.{Expr}
use Rattle.asl_term.specs.declared.syntax.Expr.TheVariants as expr
use Rattle.asl_term.specs.declared.syntax.Formula.{Formula}
use Rattle.asl_term.specs.declared.syntax.Formula.TheVariants as formula
use Rattle.asl_term.specs.declared.syntax.Kind.TheVariants as kind
use Rattle.asl_term.specs.declared.syntax.LiteralOf.{LiteralOf}
use Rattle.asl_term.specs.declared.syntax.Relation.{Relation}
use Rattle.asl_term.specs.declared.syntax.Term.{Term}
use Rattle.asl_term.specs.declared.syntax.Term.TheVariants as term
use Rattle.asl_term.specs.Exprs.{is_ground_literal}
use Rattle.asl_term_actions.specs.declared.action.Action.{Action}
use Rattle.asl_term_actions.specs.declared.action.Action.TheVariants as action
use Rattle.asl_term_actions.specs.Actions.{named}
use Rattle.asl_unify.specs.declared.subst.Pair.{Pair}
use Rattle.asl_unify.specs.Applied.{put_literal, merged_formula, within_formula}
use Rattle.asl_unify.specs.Comparing.{Holding, Gives, Fails, Passes, holds}
use Rattle.asl_unify.specs.Settling.{Settled, settle_formula}
use Rattle.asl_beliefs.specs.Changes.{added, removed, replaced, without_match}
use Rattle.asl_beliefs.specs.declared.removed.Removed.{Removed}
use Rattle.asl_beliefs.specs.Sources.{with_source}
use Rattle.asl_lint_laws.specs.Fresh.{late, LiteralBelow, ExprBelow, SubstBelow}
use Rattle.asl_lint_laws.proofs.Exprs.{count_holds}
use Rattle.asl_resolve.specs.declared.answers.Answer.{Answer}
use Rattle.asl_resolve.specs.declared.answers.Answer.TheVariants as answer
use Rattle.asl_intend.specs.declared.entry.Means.{Means}
use Rattle.asl_intend.specs.declared.agenda.Error.TheVariants as error
use Rattle.asl_intend.specs.Stacks.{bound, head, with_head, without_head}
use Rattle.asl_exec_circumstance.specs.declared.rows.Row.{Row}
use Rattle.asl_exec_circumstance.specs.declared.rows.Row.TheVariants as row
use Rattle.asl_exec_circumstance.specs.declared.went.Went.TheVariants as went
use Rattle.asl_exec.specs.Said.{print_text}
use Rattle.asl_exec_circumstance.specs.Circumstance.{Surroundings, Circumstance, Made, made, goal_event, failed}
use Rattle.asl_exec_circumstance.specs.Sought.{sought}
use Rattle.asl_exec.specs.Exec.{act, waiting, achieve, spawn, test, tested, solved, waits, changed, add, replace, bound_by, delete, related, relation, answered, searched, of_action, inner, of_formula, of_settled, of_head, exec}
use Rattle.asl_lint_laws.specs.Served.{IsServed}
use Rattle.asl_lint_laws.specs.Agendas.{IsOlder, FormulaServed, StackServed}
use Rattle.asl_lint_laws.proofs.Bound.{stack_bound}
use Rattle.asl_lint_laws.specs.RowsServed.{IsOther, AroundServed, PartsServed, CallServed, MadeServed}
use Rattle.asl_lint_laws.specs.Rows.{ExecKeeps}
use Rattle.asl_lint_laws.proofs.Beliefs.{added_change, replaced_change, removed_change, without_match_change}
use Rattle.asl_lint_laws.proofs.Failed.{are_source, stay, stack_rest, stack_with, parts_believing, parts_later, parts_posted, failed_served, either}
use Rattle.asl_lint_laws.proofs.RowGoals.{goal_is_served, source_below}
use Rattle.asl_lint_laws.proofs.Settled.{Ready, ready}
use Rattle.asl_lint_laws.proofs.Solved.{sought_below, related_below, RemovedBelow, removed_below}

merged_same : (n : ℕ) (g : LiteralOf Term) → IsOlder n g → put_literal term.Var g ≡ g
merged_same n g o = (λ i. record { neg = g.neg; functor = g.functor; args = o.merged.args i; annots = o.merged.annots i })

module _ (names : List (List ℕ)) (texts : List AgentText) (k : Surroundings) (around : AroundServed names texts k) (p : Circumstance) (parts : PartsServed names texts k.plans p)
    (cur : List Means) (stack : StackServed names texts k.plans p.number cur) where
  abbrev Keeps : Made → Type 0
  Keeps m = MadeServed names texts k.plans p.number m

  -- ---- goals

  achieve_head : (g : LiteralOf Term) → IsServed kind.Achieve k.plans g → IsOlder p.number g → FormulaServed names texts k.plans p.number (merged_formula (formula.Achieve g))
  achieve_head g s o =
      subst (λ z. FormulaServed names texts k.plans p.number (formula.Achieve z)) (sym (merged_same p.number g o)) (record { below = o.below; goal = (s, o.merged) })

  test_head : (g : LiteralOf Term) → IsServed kind.Test k.plans g → IsOlder p.number g → FormulaServed names texts k.plans p.number (merged_formula (formula.Test g))
  test_head g s o =
      subst (λ z. FormulaServed names texts k.plans p.number (formula.Test z)) (sym (merged_same p.number g o)) (record { below = o.below; goal = (s, o.merged) })

  achieve_served : (g : LiteralOf Term) → IsServed kind.Achieve k.plans g → IsOlder p.number g → Keeps (achieve p cur g)
  achieve_served g s o = record {
    number = stay p.number;
    parts = parts_posted names texts k.plans p (goal_event kind.Achieve g (with_head (formula.Achieve g) cur)) parts
        (goal_is_served names texts k.plans (are_source names texts k around) p.number kind.Achieve g (with_head (formula.Achieve g) cur) s o
        (stack_with names texts k.plans p.number (formula.Achieve g) cur (achieve_head g s o) stack));
    cur = tt;
    went = refl;
  }

  spawn_served : (g : LiteralOf Term) → IsServed kind.Achieve k.plans g → IsOlder p.number g → Keeps (spawn p cur g)
  spawn_served g s o = record {
    number = stay p.number;
    parts = parts_posted names texts k.plans p (goal_event kind.Achieve g []) parts
        (goal_is_served names texts k.plans (are_source names texts k around) p.number kind.Achieve g [] s o tt);
    cur = stack_rest names texts k.plans p.number cur stack;
    went = refl;
  }

  test_waits : (g : LiteralOf Term) → IsServed kind.Test k.plans g → IsOlder p.number g → Keeps (waits row.TestGl2 p cur (formula.Test g) kind.Test g)
  test_waits g s o = record {
    number = stay p.number;
    parts = parts_posted names texts k.plans p (goal_event kind.Test g (with_head (formula.Test g) cur)) parts
        (goal_is_served names texts k.plans (are_source names texts k around) p.number kind.Test g (with_head (formula.Test g) cur) s o
        (stack_with names texts k.plans p.number (formula.Test g) cur (test_head g s o) stack));
    cur = tt;
    went = refl;
  }

  -- ---- solutions

  solved_served : (r : Row) → IsOther r → (s : List Pair) (n : ℕ) → p.number ≤ n → SubstBelow n s → Keeps (solved r p cur s n)
  solved_served r o s n l b = record {
    number = l;
    parts = parts_later names texts k.plans p n l parts;
    cur = stack_rest names texts k.plans n (bound s cur) (stack_bound names texts k.plans p.number n l s b cur stack);
    went = o;
  }

  test_served : (g : LiteralOf Term) → IsServed kind.Test k.plans g → IsOlder p.number g → Keeps (test k p cur g)
  test_served g s o = go (sought k p (expr.Holds g)) refl where
    go : (a : Answer) → sought k p (expr.Holds g) ≡ a → Keeps (tested k p cur g a)
    go (answer.Found t n) e =
        let f = sought_below names texts k around k.plans p parts (expr.Holds g) t n (count_holds (late p.number) g ∙ o.below) e in
        solved_served row.TestGl1 refl t n f.0 f.1
    go answer.Nothing e = test_waits g s o
    go answer.Arith e = failed_served names texts k around row.TestErr refl error.Arith p cur parts stack
    go answer.TermLimit e = failed_served names texts k around row.TestErr refl error.TermLimit p cur parts stack
    go (answer.Spent b) e = record { number = stay p.number; parts = parts; cur = stack; went = refl }

  -- ---- beliefs

  act_served : (l : LiteralOf Term) → Keeps (act k p cur l)
  act_served l = either names texts k around p.number (is_ground_literal l) (made (waiting p cur l) [] (went.Action l)) (failed k row.ExecFree error.NotGround p cur)
      (record {
        number = stay p.number;
        parts = record {
          beliefs = parts.beliefs;
          agenda = record { events = parts.agenda.events; running = parts.agenda.running; acting = stack; asks = parts.agenda.asks };
        };
        cur = tt;
        went = tt;
      })
      (failed_served names texts k around row.ExecFree refl error.NotGround p cur parts stack)

  add_served : (b : LiteralOf Term) → Keeps (add k p cur b)
  add_served b = go (is_ground_literal b) refl where
    go : (d : Bool) → is_ground_literal b ≡ d → Keeps (cond d (changed row.AddBel p cur (added b p.beliefs)) (failed k row.ExecFree error.NotGround p cur))
    go true g = record {
      number = stay p.number;
      parts = parts_believing names texts k.plans p (added b p.beliefs) parts (added_change b p.beliefs g parts.beliefs);
      cur = stack_rest names texts k.plans p.number cur stack;
      went = refl;
    }
    go false g = failed_served names texts k around row.ExecFree refl error.NotGround p cur parts stack

  replace_served : (b : LiteralOf Term) → Keeps (replace k p cur b)
  replace_served b = go (is_ground_literal b) refl where
    go : (d : Bool) → is_ground_literal b ≡ d → Keeps (cond d (changed row.RepBel p cur (replaced b p.beliefs)) (failed k row.ExecFree error.NotGround p cur))
    go true g = record {
      number = stay p.number;
      parts = parts_believing names texts k.plans p (replaced b p.beliefs) parts (replaced_change b p.beliefs g parts.beliefs);
      cur = stack_rest names texts k.plans p.number cur stack;
      went = refl;
    }
    go false g = failed_served names texts k around row.ExecFree refl error.NotGround p cur parts stack

  bound_served : (o : Option Removed) → RemovedBelow p.number o → StackServed names texts k.plans p.number (bound_by o cur)
  bound_served None b = stack
  bound_served (Some r) b = stack_bound names texts k.plans p.number p.number (stay p.number) r.subst b cur stack

  delete_served : (b : LiteralOf Term) → LiteralBelow p.number b → Keeps (delete p cur b)
  delete_served b l =
      let r = removed b [] p.beliefs in record {
        number = stay p.number;
        parts = parts_believing names texts k.plans p (without_match r) parts (without_match_change r (removed_change b [] p.beliefs parts.beliefs));
        cur = stack_rest names texts k.plans p.number (bound_by r.removed cur) (bound_served r.removed (removed_below p.number b l p.beliefs parts.beliefs));
        went = refl;
      }

  -- ---- relations and internal actions

  relation_served : (r : Relation) → ExprBelow p.number (expr.Rel r) → Keeps (relation k p cur r)
  relation_served r b = go (holds r []) refl where
    go : (o : Holding) → holds r [] ≡ o → Keeps (related k p cur o)
    go (Gives (Some s)) e = record {
      number = stay p.number;
      parts = parts;
      cur = stack_rest names texts k.plans p.number (bound s cur)
          (stack_bound names texts k.plans p.number p.number (stay p.number) s (related_below names texts k around k.plans p parts r s b e) cur stack);
      went = refl;
    }
    go (Gives None) e = failed_served names texts k around row.RelNo refl error.TestFailed p cur parts stack
    go (Fails f) e = failed_served names texts k around row.ExecArith refl error.Arith p cur parts stack
    go Passes e = failed_served names texts k around row.ExecLimit refl error.TermLimit p cur parts stack

  searched_served : (c : CallOf Expr) → ExprBelow p.number (expr.Inner c) → Keeps (searched k p cur c)
  searched_served c b = go (sought k p (expr.Inner c)) refl where
    go : (a : Answer) → sought k p (expr.Inner c) ≡ a → Keeps (answered k p cur a)
    go (answer.Found t n) e =
        let f = sought_below names texts k around k.plans p parts (expr.Inner c) t n b e in
        solved_served row.IaOk refl t n f.0 f.1
    go answer.Nothing e = failed_served names texts k around row.IaFail refl error.IaFailed p cur parts stack
    go answer.Arith e = failed_served names texts k around row.ExecArith refl error.Arith p cur parts stack
    go answer.TermLimit e = failed_served names texts k around row.IaBig refl error.TermLimit p cur parts stack
    go (answer.Spent s) e = record { number = stay p.number; parts = parts; cur = stack; went = refl }

  print_served : (c : CallOf Expr) → Keeps (made p (without_head cur) (went.Say (print_text c.args)))
  print_served c = record { number = stay p.number; parts = parts; cur = stack_rest names texts k.plans p.number cur stack; went = tt }

  action_served : (c : CallOf Expr) (o : Option Action) → CallServed names texts k.plans p.number c → Keeps (of_action k p cur c o)
  action_served c (Some action.Print) s = print_served c
  action_served c (Some action.Fail) s = failed_served names texts k around row.IaFail refl error.IaFailed p cur parts stack
  action_served c (Some (action.Does d)) s = record { number = stay p.number; parts = parts; cur = stack; went = s }
  action_served c other s = searched_served c s.below

  inner_served : (c : CallOf Expr) → CallServed names texts k.plans p.number c → Keeps (inner k p cur c)
  inner_served c s = action_served c (named c.name) s

  -- ---- formulas

  formula_served : (f : Formula) → Ready names texts k.plans p.number f → Keeps (of_formula k p cur f)
  formula_served (formula.Act l) r = act_served l
  formula_served (formula.Achieve g) r = achieve_served g r.0 r.1
  formula_served (formula.Spawn g) r = spawn_served g r.0 r.1
  formula_served (formula.Test g) r = test_served g r.0 r.1
  formula_served (formula.Add b) r = add_served (with_source b)
  formula_served (formula.Del b) r = delete_served (with_source b) (source_below p.number b r)
  formula_served (formula.Replace b) r = replace_served (with_source b)
  formula_served (formula.Rel r) b = relation_served r b
  formula_served (formula.Inner c) r = inner_served c r

  settled_served : (f : Formula) → FormulaServed names texts k.plans p.number f → Keeps (of_settled k p cur (settle_formula f))
  settled_served f s = go (settle_formula f) refl where
    go : (o : Settled Formula) → settle_formula f ≡ o → Keeps (of_settled k p cur o)
    go (Err x) e = failed_served names texts k around row.ExecArith refl error.Arith p cur parts stack
    go (Ok m) e = formula_served m (ready names texts k.plans p.number (are_source names texts k around) f m s e)

  head_served : (cur : List Means) → StackServed names texts k.plans p.number cur → IfSome (head cur) (FormulaServed names texts k.plans p.number)
  head_served [] s = tt
  head_served (m ∷ below) s = go m.body s.0.body where
    go : (body : List Formula) → AllByRecursion (FormulaServed names texts k.plans p.number) body → IfSome (head (record m { body = body } ∷ below)) (FormulaServed names texts k.plans p.number)
    go [] b = tt
    go (f ∷ body) b = b.0

  of_head_served : (o : Option Formula) → IfSome o (FormulaServed names texts k.plans p.number) → Keeps (of_head k p cur o)
  of_head_served None s = record { number = stay p.number; parts = parts; cur = stack; went = refl }
  of_head_served (Some f) s =
      either names texts k around p.number (within_formula f) (of_settled k p cur (settle_formula f)) (failed k row.ExecLimit error.TermLimit p cur)
      (settled_served f s) (failed_served names texts k around row.ExecLimit refl error.TermLimit p cur parts stack)

  exec_served : Keeps (exec k p cur)
  unfolding exec
  exec_served = of_head_served (head cur) (head_served cur stack)

pub exec_keeps : ExecKeeps
exec_keeps names texts k p cur around parts stack = exec_served names texts k around p parts cur stack
