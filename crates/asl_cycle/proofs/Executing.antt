-- What becomes of the current stack by the row of its first formula.
use Rattle.std.proofs.Common.{◌≡◌, ℕ, ◌+◌, Bool, true, false, cond, List, [], ◌∷◌, Option, None, Some, Ok, Err, refl, ap, arith}
use Rattle.asl_term.specs.declared.syntax.LiteralOf.{LiteralOf}
use Rattle.asl_term.specs.declared.syntax.CallOf.{CallOf}
use Rattle.asl_term.specs.declared.syntax.Term.{Term}
use Rattle.asl_term.specs.declared.syntax.Trigger.{Trigger}
use Rattle.asl_term.specs.declared.syntax.Expr.{Expr}
use Rattle.asl_term.specs.declared.syntax.Expr.TheVariants as expr
use Rattle.asl_term.specs.declared.syntax.Formula.{Formula}
use Rattle.asl_term.specs.declared.syntax.Formula.TheVariants as formula
use Rattle.asl_term.specs.declared.syntax.Kind.{Kind}
use Rattle.asl_term.specs.declared.syntax.Kind.TheVariants as kind
use Rattle.asl_term.specs.Exprs.{is_ground_literal}
use Rattle.asl_term_actions.specs.declared.action.Action.{Action}
use Rattle.asl_term_actions.specs.declared.action.Action.TheVariants as action
use Rattle.asl_term_actions.specs.Actions as actions
use Rattle.asl_unify.specs.declared.subst.Pair.{Pair}
use Rattle.asl_unify.specs.Applied.{within_formula}
use Rattle.asl_unify.specs.Comparing.{Holding, Gives, Fails, Passes, holds}
use Rattle.asl_unify.specs.Settling.{Settled, settle_formula}
use Rattle.asl_beliefs.specs.declared.removed.Removed.{Removed}
use Rattle.asl_beliefs.specs.Changes.{Changed, added, removed, replaced, removed_events}
use Rattle.asl_beliefs.specs.Sources.{with_source}
use Rattle.asl_resolve.specs.declared.answers.Answer.{Answer}
use Rattle.asl_resolve.specs.declared.answers.Answer.TheVariants as answer
use Rattle.asl_intend.specs.declared.entry.Means.{Means}
use Rattle.asl_intend.specs.declared.agenda.Error.{Error}
use Rattle.asl_intend.specs.declared.agenda.Error.TheVariants as error
use Rattle.asl_intend.specs.Stacks.{head, without_head, with_head}
use Rattle.asl_fail.specs.Fails.{posted}
use Rattle.asl_exec_circumstance.specs.declared.rows.Row.{Row}
use Rattle.asl_exec_circumstance.specs.declared.rows.Row.TheVariants as row
use Rattle.asl_exec_circumstance.specs.declared.went.Went.{Went}
use Rattle.asl_exec_circumstance.specs.declared.went.Went.TheVariants as went
use Rattle.asl_exec_circumstance.specs.Emptied.{bound_by}
use Rattle.asl_exec_circumstance.specs.Circumstance.{Surroundings, Circumstance, Made, made, failed, goal_event, told}
use Rattle.asl_exec.specs.Exec as spec
use Rattle.asl_exec_circumstance.specs.Sought.{sought}
use Rattle.asl_cycle.specs.declared.config.After.{After}
use Rattle.asl_cycle.specs.declared.config.After.TheVariants as after
use Rattle.asl_cycle.specs.Steps.{after_of}
use Rattle.asl_cycle.specs.Turns.{dropped_by_call, dropped_by_settled, dropped_by_head}
use Rattle.asl_cycle.specs.Intentions.{Intention, Heap, held, total_acting, begin, Becomes, Clears, Executed}
use Rattle.asl_cycle.proofs.Sums.{posted_held, told_held, becomes}
use Rattle.asl_cycle.proofs.Failing.{fell_as}

-- with this current stack a row of s goes on to Clr: only external events have begun, and what becomes of it is what becomes of s
pub record Onward (k : Surroundings) (s t : List Means) (before after : Heap) : Type 0 where
  pub begun : List Trigger
  pub sums : (f : Intention → ℕ) → after f ≡ before f + begin f begun
  pub fate : (n : ℕ) (x : Option Intention) → Clears k.plans n t x → Executed k.plans s x

-- it leads there, or what becomes of s is there
abbrev pub Leads : Surroundings → (s t : List Means) → Heap → Heap → After → Type 0
Leads k s t from to after.Clears = Onward k s t from to
Leads k s t from to after.Ends = Becomes (Executed k.plans s) from to
Leads k s t from to (after.Acts l) = Becomes (Executed k.plans s) from to
Leads k s t from to after.Spends = Unit {0}

-- an internal action on goals or others is still to be made
pub record Unchanged (s : List Means) (c : CallOf Expr) (p : Circumstance) (x : Made) : Type 0 where
  pub parts : x.parts ≡ p
  pub cur : x.cur ≡ s
  pub named : dropped_by_head (head s) ≡ dropped_by_call c

abbrev pub Rows : Surroundings → List Means → Circumstance → Made → Went → Type 0
Rows k s p x (went.Outer c) = Unchanged s c p x
Rows k s p x (went.Row r) = Leads k s x.cur (held p.agenda) (held x.parts.agenda) (after_of (went.Row r))
Rows k s p x (went.Say text) = Leads k s x.cur (held p.agenda) (held x.parts.agenda) after.Clears
Rows k s p x (went.Action l) = Becomes (Executed k.plans s) (held p.agenda) (held x.parts.agenda)
Rows k s p x (went.Failed r fall) = Becomes (Executed k.plans s) (held p.agenda) (held x.parts.agenda)
Rows k s p x (went.Spent r b) = Unit {0}

pick : {A : Type 0} (P : A → Type 0) (b : Bool) {x y : A} → P x → P y → P (cond b x y)
pick P true h g = h
pick P false h g = g

module _ (k : Surroundings) (p : Circumstance) (cur : List Means) (none : p.agenda.acting ≡ None) where
  abbrev Kept : Made → Type 0
  Kept x = Rows k cur p x x.went

  abbrev Fate : Option Intention → Type 0
  Fate = Executed k.plans cur

  fallen : (e : Error) → Becomes Fate (held p.agenda) (held (failed k row.Exec0 e p cur).parts.agenda)
  fallen e = fell_as Fate k.plans p.number e p.agenda cur (λ x h. Executed.Fails p.number e x h)

  -- the head is done
  done : (bind : Option (List Pair)) (begun : List Trigger) (after : Heap) → ((f : Intention → ℕ) → after f ≡ held p.agenda f + begin f begun)
      → Onward k cur (without_head (bound_by bind cur)) (held p.agenda) after
  done bind begun after e = record { begun = begun; sums = e; fate = λ n x h. Executed.Done n bind x h }

  same : (f : Intention → ℕ) → held p.agenda f ≡ held p.agenda f + begin f []
  same f = omega arith

  waits : (h : Formula) (kd : Kind) (g : LiteralOf Term) → Becomes Fate (held p.agenda) (held (posted p.agenda (goal_event kd g (with_head h cur))))
  waits h kd g =
      let v = goal_event kd g (with_head h cur) in
      becomes Fate (Some (Intention.Waits v)) (held p.agenda) (held (posted p.agenda v)) (Executed.Posts h kd g) (λ f. posted_held f p.agenda v)

  acts : (l : LiteralOf Term) → Becomes Fate (held p.agenda) (held (spec.waiting p cur l).agenda)
  acts l =
      becomes Fate (Some (Intention.Acts (record { stack = cur; action = l }))) (held p.agenda) (held (spec.waiting p cur l).agenda) (Executed.Acts l)
      (λ f. let e : total_acting f p.agenda.acting ≡ 0 = ap (total_acting f) none in omega (arith, e))

  acts_by : (l : LiteralOf Term) (b : Bool) → Kept (cond b (made (spec.waiting p cur l) [] (went.Action l)) (failed k row.ExecFree error.NotGround p cur))
  acts_by l true = acts l
  acts_by l false = fallen error.NotGround

  spawns : (g : LiteralOf Term) → Kept (spec.spawn p cur g)
  spawns g =
      let v = goal_event kind.Achieve g [] in
      done None (v.trigger ∷ []) (held (posted p.agenda v)) (λ f. let e = posted_held f p.agenda v in omega arith)

  tests : (g : LiteralOf Term) (a : Answer) → Kept (spec.tested k p cur g a)
  tests g (answer.Found s n) = done (Some s) [] (held p.agenda) same
  tests g answer.Nothing = waits (formula.Test g) kind.Test g
  tests g answer.Arith = fallen error.Arith
  tests g answer.TermLimit = fallen error.TermLimit
  tests g (answer.Spent s) = tt

  changes : (r : Row) (c : Changed) → Onward k cur (without_head cur) (held p.agenda) (held (told p.agenda c.events))
  changes r c = done None c.events (held (told p.agenda c.events)) (λ f. told_held f p.agenda c.events)

  adds : (b : LiteralOf Term) → Kept (spec.add k p cur b)
  adds b = pick Kept (is_ground_literal b) (changes row.AddBel (added b p.beliefs)) (fallen error.NotGround)

  replaces : (b : LiteralOf Term) → Kept (spec.replace k p cur b)
  replaces b = pick Kept (is_ground_literal b) (changes row.RepBel (replaced b p.beliefs)) (fallen error.NotGround)

  deletes : (r : Option Removed) → Onward k cur (without_head (spec.bound_by r cur)) (held p.agenda) (held (told p.agenda (removed_events r)))
  deletes None = done None (removed_events None) (held (told p.agenda (removed_events None))) (λ f. told_held f p.agenda (removed_events None))
  deletes (Some r) =
      done (Some r.subst) (removed_events (Some r)) (held (told p.agenda (removed_events (Some r)))) (λ f. told_held f p.agenda (removed_events (Some r)))

  relates : (h : Holding) → Kept (spec.related k p cur h)
  relates (Gives (Some s)) = done (Some s) [] (held p.agenda) same
  relates (Gives None) = fallen error.TestFailed
  relates (Fails e) = fallen error.Arith
  relates Passes = fallen error.TermLimit

  answers : (a : Answer) → Kept (spec.answered k p cur a)
  answers answer.Arith = fallen error.Arith
  answers answer.TermLimit = fallen error.TermLimit
  answers (answer.Spent s) = tt
  answers answer.Nothing = fallen error.IaFailed
  answers (answer.Found s n) = done (Some s) [] (held p.agenda) same

  inners_by : (c : CallOf Expr) (o : Option Action) → dropped_by_head (head cur) ≡ dropped_by_call c → Kept (spec.of_action k p cur c o)
  inners_by c (Some action.Print) is = done None [] (held p.agenda) same
  inners_by c (Some action.Fail) is = fallen error.IaFailed
  inners_by c (Some (action.Does d)) is = record { parts = refl; cur = refl; named = is }
  inners_by c other is = answers (sought k p (expr.Inner c))

  inners : (c : CallOf Expr) → dropped_by_head (head cur) ≡ dropped_by_call c → Kept (spec.inner k p cur c)
  inners c is = inners_by c (actions.named c.name) is

  formulas : (f : Formula) → dropped_by_head (head cur) ≡ dropped_by_settled (Ok f) → Kept (spec.of_formula k p cur f)
  formulas (formula.Act l) is = acts_by l (is_ground_literal l)
  formulas (formula.Achieve g) is = waits (formula.Achieve g) kind.Achieve g
  formulas (formula.Spawn g) is = spawns g
  formulas (formula.Test g) is = tests g (sought k p (expr.Holds g))
  formulas (formula.Add b) is = adds (with_source b)
  formulas (formula.Del b) is = deletes (removed (with_source b) [] p.beliefs).removed
  formulas (formula.Replace b) is = replaces (with_source b)
  formulas (formula.Rel r) is = relates (holds r [])
  formulas (formula.Inner c) is = inners c is

  settles : (s : Settled Formula) → dropped_by_head (head cur) ≡ dropped_by_settled s → Kept (spec.of_settled k p cur s)
  settles (Err e) is = fallen error.Arith
  settles (Ok f) is = formulas f is

  heads : (o : Option Formula) → dropped_by_head (head cur) ≡ dropped_by_head o → Kept (spec.of_head k p cur o)
  heads None is = record { begun = []; sums = same; fate = λ n x h. Executed.Idle n x h }
  heads (Some f) is = pick Kept (within_formula f) (settles (settle_formula f) is) (fallen error.TermLimit)

  pub executes : Kept (spec.exec k p cur)
  unfolding spec.exec
  executes = heads (head cur) refl
