-- The rows for what is left of a stack.
use Rattle.std.proofs.Common.{◌≡◌, ℕ, Bool, true, false, cond, List, [], ◌∷◌, Option, Some, None, IfSome, refl, arith}
use Rattle.std.specs.List.{AllByRecursion}
use Rattle.asl_term.specs.declared.syntax.AgentText.{AgentText}
use Rattle.asl_term.specs.declared.syntax.Formula.{Formula}
use Rattle.asl_term.specs.declared.syntax.Formula.TheVariants as formula
use Rattle.asl_term.specs.declared.syntax.LiteralOf.{LiteralOf}
use Rattle.asl_term.specs.declared.syntax.Term.{Term}
use Rattle.asl_unify.specs.declared.subst.Pair.{Pair}
use Rattle.asl_unify.specs.Compare.{same_frame, asks}
use Rattle.asl_unify.specs.Matches.{agreed}
use Rattle.asl_unify.specs.Unified.{unified}
use Rattle.asl_lint_laws.specs.Fresh.{LiteralBelow, SubstBelow}
use Rattle.asl_plans.specs.declared.entry.OwnedPlan.{OwnedPlan}
use Rattle.asl_intend.specs.declared.entry.Means.{Means}
use Rattle.asl_intend.specs.declared.agenda.Error.TheVariants as error
use Rattle.asl_intend.specs.Stacks.{head, has_head, is_bounded, is_bounded_trigger}
use Rattle.asl_exec_circumstance.specs.declared.rows.Row.TheVariants as row
use Rattle.asl_exec_circumstance.specs.declared.went.Went.TheVariants as went
use Rattle.asl_exec_circumstance.specs.Circumstance.{Surroundings, Circumstance, Made, made, failed}
use Rattle.asl_exec_circumstance.specs.Emptied.{unifier, answer, bound_by, done_below, popped, emptied_top, emptied}
use Rattle.asl_exec.specs.Clear.{waits, clear}
use Rattle.asl_lint_laws.specs.Agendas.{FormulaServed, MeansServed, StackServed}
use Rattle.asl_lint_laws.proofs.Bound.{stack_bound}
use Rattle.asl_lint_laws.specs.RowsServed.{AroundServed, PartsServed, MadeServed}
use Rattle.asl_lint_laws.specs.Rows.{ClearKeeps}
use Rattle.asl_lint_laws.proofs.Failed.{stay, stack_rest, agenda_running, failed_served, either}
use Rattle.asl_lint_laws.proofs.Solved.{agreed_below}

-- ---- what a goal's literal answers

unifier_below : (n : ℕ) (l m : LiteralOf Term) (s : List Pair) → LiteralBelow n l → LiteralBelow n m → unifier l m ≡ Some s → SubstBelow n s
unifier_below n l m s a b e = go (same_frame l m) e where
  go : (d : Bool) → cond d (agreed (unified [] (asks l.args m.args []))) None ≡ Some s → SubstBelow n s
  go true e = agreed_below n l.args m.args s (omega (arith, a)) (omega (arith, b)) e
  go false e = cc

module _ (names : List (List ℕ)) (texts : List AgentText) (plans : List OwnedPlan) (n : ℕ) where
  answer_below : (l : LiteralOf Term) → LiteralBelow n l → (o : Option Formula) → IfSome o (FormulaServed names texts plans n) → (s : List Pair) → answer l o ≡ Some s
      → SubstBelow n s
  answer_below l a None f s e = cc
  answer_below l a (Some (formula.Achieve g)) f s e = unifier_below n l g s a f.below e
  answer_below l a (Some (formula.Test g)) f s e = unifier_below n l g s a f.below e
  answer_below l a (Some (formula.Spawn g)) f s e = cc
  answer_below l a (Some (formula.Add g)) f s e = cc
  answer_below l a (Some (formula.Del g)) f s e = cc
  answer_below l a (Some (formula.Replace g)) f s e = cc
  answer_below l a (Some (formula.Act g)) f s e = cc
  answer_below l a (Some (formula.Inner c)) f s e = cc
  answer_below l a (Some (formula.Rel r)) f s e = cc

  head_served : (cur : List Means) → StackServed names texts plans n cur → IfSome (head cur) (FormulaServed names texts plans n)
  head_served [] s = tt
  head_served (m ∷ below) s = go m.body s.0.body where
    go : (body : List Formula) → AllByRecursion (FormulaServed names texts plans n) body → IfSome (head (record m { body = body } ∷ below)) (FormulaServed names texts plans n)
    go [] b = tt
    go (f ∷ body) b = b.0

  bound_served : (below : List Means) (o : Option (List Pair)) → ((s : List Pair) → o ≡ Some s → SubstBelow n s) → StackServed names texts plans n below
      → StackServed names texts plans n (bound_by o below)
  bound_served below None f s = s
  bound_served below (Some t) f s = stack_bound names texts plans n n (stay n) t (f t refl) below s

-- ---- the rows

module _ (names : List (List ℕ)) (texts : List AgentText) (k : Surroundings) (around : AroundServed names texts k) (p : Circumstance) (parts : PartsServed names texts k.plans p) where
  abbrev Keeps : Made → Type 0
  Keeps m = MadeServed names texts k.plans p.number m

  abbrev Stack : List Means → Type 0
  Stack = StackServed names texts k.plans p.number

  waits_served : (cur : List Means) → Stack cur → Keeps (waits p cur)
  waits_served cur s = record {
    number = stay p.number;
    parts = record { beliefs = parts.beliefs; agenda = agenda_running names texts k.plans p.number p.agenda cur parts.agenda s };
    cur = tt;
    went = refl;
  }

  gone_served : Keeps (made p [] (went.Row row.ClrInt1))
  gone_served = record { number = stay p.number; parts = parts; cur = tt; went = refl }

  done_served : (l : LiteralOf Term) (below : List Means) → LiteralBelow p.number l → Stack below → Keeps (done_below p l below)
  done_served l below b s = record {
    number = stay p.number;
    parts = parts;
    cur = stack_rest names texts k.plans p.number (bound_by (answer l (head below)) below)
        (bound_served names texts k.plans p.number below (answer l (head below))
        (answer_below names texts k.plans p.number l b (head below) (head_served names texts k.plans p.number below s)) s);
    went = refl;
  }

  popped_served : (l : LiteralOf Term) (below : List Means) → LiteralBelow p.number l → Stack below → Keeps (popped k p l below)
  popped_served l below b s =
      either names texts k around p.number (is_bounded (head below)) (done_below p l below) (failed k row.ClrLimit error.TermLimit p below)
      (done_served l below b s) (failed_served names texts k around row.ClrLimit refl error.TermLimit p below parts s)

  top_served : (m : Means) (below : List Means) → MeansServed names texts k.plans p.number m → Stack below → Keeps (emptied_top k p m below)
  top_served m [] t s = gone_served
  top_served m (n ∷ below) t s =
      either names texts k around p.number (is_bounded_trigger m.trigger) (popped k p m.trigger.lit (n ∷ below)) (failed k row.ClrLimit error.TermLimit p (n ∷ below))
      (popped_served m.trigger.lit (n ∷ below) t.trigger.below s) (failed_served names texts k around row.ClrLimit refl error.TermLimit p (n ∷ below) parts s)

  pub emptied_served : (cur : List Means) → Stack cur → Keeps (emptied k p cur)
  emptied_served [] s = gone_served
  emptied_served (m ∷ below) s = top_served m below s.0 s.1

  clear_served : (cur : List Means) → Stack cur → Keeps (clear k p cur)
  unfolding clear
  clear_served cur s = either names texts k around p.number (has_head cur) (waits p cur) (emptied k p cur) (waits_served cur s) (emptied_served cur s)

pub clear_keeps : ClearKeeps
clear_keeps names texts k p cur around parts stack = clear_served names texts k around p parts cur stack
