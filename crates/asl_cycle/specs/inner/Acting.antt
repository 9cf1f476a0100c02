-- What the rows for the current stack keep: an action that they hand on has no variable, the stacks that run stay, and one
-- waits for its action exactly where they hand one on.
use Rattle.std.specs.Prelude.{◌≡◌, ℕ, Bool, true, false, cond, if◌then◌else◌, refl, List, [], ◌∷◌, ◌++◌, Option, None, Some, is_some, Ok, Err}
use Rattle.std.proofs.Common.{sym, ap, ◌∙◌}
use Rattle.asl_term.specs.declared.syntax.LiteralOf.{LiteralOf}
use Rattle.asl_term.specs.declared.syntax.CallOf.{CallOf}
use Rattle.asl_plans.specs.declared.entry.OwnedPlan.{OwnedPlan}
use Rattle.asl_term.specs.declared.syntax.Term.{Term}
use Rattle.asl_term.specs.declared.syntax.Expr.{Expr}
use Rattle.asl_term.specs.declared.syntax.Expr.TheVariants as expr
use Rattle.asl_term.specs.declared.syntax.Formula.{Formula}
use Rattle.asl_term.specs.declared.syntax.Formula.TheVariants as formula
use Rattle.asl_term.specs.Exprs.{is_ground_literal}
use Rattle.asl_term_actions.specs.declared.action.Action.{Action}
use Rattle.asl_term_actions.specs.declared.action.Action.TheVariants as action
use Rattle.asl_term_actions.specs.Actions as actions
use Rattle.asl_unify.specs.Applied.{within_formula}
use Rattle.asl_unify.specs.Comparing.{Holding, Gives, Fails, Passes, holds}
use Rattle.asl_unify.specs.Settling.{Settled, settle_formula}
use Rattle.asl_beliefs.specs.Changes.{added, replaced}
use Rattle.asl_beliefs.specs.Sources.{with_source}
use Rattle.asl_resolve.specs.declared.answers.Answer.{Answer}
use Rattle.asl_resolve.specs.declared.answers.Answer.TheVariants as answer
use Rattle.asl_intend.specs.declared.entry.Means.{Means}
use Rattle.asl_intend.specs.declared.agenda.Error.{Error}
use Rattle.asl_intend.specs.declared.agenda.Error.TheVariants as error
use Rattle.asl_intend.specs.declared.agenda.Agenda.{Agenda}
use Rattle.asl_fail.specs.Fails.{fails, is_raised, raised, popped_one, dropped}
use Rattle.asl_intend.specs.Stacks.{head, has_head, has_means, is_bounded, is_bounded_trigger}
use Rattle.asl_exec_circumstance.specs.declared.rows.Row.{Row}
use Rattle.asl_exec_circumstance.specs.declared.rows.Row.TheVariants as row
use Rattle.asl_exec_circumstance.specs.declared.went.Went.{Went}
use Rattle.asl_exec_circumstance.specs.declared.went.Went.TheVariants as went
use Rattle.asl_exec_circumstance.specs.Circumstance.{Surroundings, Circumstance, Made, made, failed}
use Rattle.asl_exec.specs.Exec as spec
use Rattle.asl_exec_circumstance.specs.Sought.{sought}
use Rattle.asl_exec.specs.Clear as clearing
use Rattle.asl_exec_circumstance.specs.Emptied as emptying
use Rattle.asl_exec_circumstance.specs.declared.peers.Peers.{Peers}
use Rattle.asl_goals.specs.declared.acted.Acted.{Acted}
use Rattle.asl_goals.specs.declared.acted.Acted.TheVariants as acted
use Rattle.asl_goals.specs.Inside.{Did, act_inside}
use Rattle.asl_cycle.specs.declared.config.After.{After}
use Rattle.asl_cycle.specs.declared.config.After.TheVariants as after
use Rattle.asl_cycle.specs.declared.rows.Sofar.{Sofar}
use Rattle.asl_cycle.specs.Turns.{dropped_by_call, dropped_by_settled, dropped_by_head}
use Rattle.asl_cycle.specs.Steps.{after_row, after_of, acts, of_acted, deed, exec_by, exec_step, clear_step}

nothing_behind : {A : Type 0} (xs : List A) → xs ++ [] ≡ xs
nothing_behind [] = refl
nothing_behind (x ∷ xs) = ap (λ ys. x ∷ ys) (nothing_behind xs)

abbrev pub IsGround : After → Type 0
IsGround (after.Acts l) = is_ground_literal l ≡ true
IsGround after.Clears = Unit {0}
IsGround after.Ends = Unit {0}
IsGround after.Spends = Unit {0}

-- what a row did, where an action has no variable, and a deed is to drop the goal of this literal or none
abbrev pub IsSound : Option (LiteralOf Term) → Went → Type 0
IsSound named (went.Action l) = is_ground_literal l ≡ true
IsSound named (went.Row r) = IsGround (after_row r)
IsSound named (went.Say text) = Unit {0}
IsSound named (went.Outer c) = named ≡ dropped_by_call c
IsSound named (went.Failed r fall) = Unit {0}
IsSound named (went.Spent r b) = Unit {0}

leads : (named : Option (LiteralOf Term)) (w : Went) → IsSound named w → IsGround (after_of w)
leads named (went.Row r) h = h
leads named (went.Say text) h = tt
leads named (went.Action l) h = h
leads named (went.Outer c) h = tt
leads named (went.Failed r fall) h = tt
leads named (went.Spent r b) h = tt

either : {A : Type 0} (P : A → Type 0) (b : Bool) (x y : A) → P x → P y → P (cond b x y)
either P true x y h g = h
either P false x y h g = g

-- the stacks that run are not touched by a failure
pub falls : (k : Surroundings) (n : ℕ) (e : Error) (a : Agenda) (stack : List Means) → (fails k.plans n e a stack).agenda.running ≡ a.running
falls k n e a [] = refl
falls k n e a (m ∷ below) = falls_by (is_raised k.plans n e m.trigger) (has_means below) (falls k n e a below) where
  falls_by : (raises more : Bool) → (fails k.plans n e a below).agenda.running ≡ a.running
      → (if raises then raised e a m below else (if more then popped_one (fails k.plans n e a below) else dropped a)).agenda.running ≡ a.running
  falls_by true more h = refl
  falls_by false true h = h
  falls_by false false h = refl

-- nor is the one that waits for its action
pub falls_acting : (plans : List OwnedPlan) (n : ℕ) (e : Error) (a : Agenda) (stack : List Means) → (fails plans n e a stack).agenda.acting ≡ a.acting
falls_acting plans n e a [] = refl
falls_acting plans n e a (m ∷ below) = falls_by (is_raised plans n e m.trigger) (has_means below) (falls_acting plans n e a below) where
  falls_by : (raises more : Bool) → (fails plans n e a below).agenda.acting ≡ a.acting
      → (if raises then raised e a m below else (if more then popped_one (fails plans n e a below) else dropped a)).agenda.acting ≡ a.acting
  falls_by true more h = refl
  falls_by false true h = h
  falls_by false false h = refl

-- where none waited before, one does where the row hands an action on
abbrev pub IsHeld : Circumstance → Made → Type 0
IsHeld p x = p.agenda.acting ≡ None → is_some x.parts.agenda.acting ≡ acts (after_of x.went)

-- a row of the parts p
record Keeps (named : Option (LiteralOf Term)) (p : Circumstance) (x : Made) : Type 0 where
  sound : IsSound named x.went
  running : x.parts.agenda.running ≡ p.agenda.running
  held : IsHeld p x

module _ (k : Surroundings) (p : Circumstance) (cur : List Means) where
  -- the goal that the head drops or ends
  abbrev pub Named : Option (LiteralOf Term)
  Named = dropped_by_head (head cur)

  abbrev Kept : Made → Type 0
  Kept = Keeps Named p

  none_held : p.agenda.acting ≡ None → is_some p.agenda.acting ≡ false
  none_held none = ap (λ a. is_some a) none

  fell_held : (r : Row) (e : Error) (stack : List Means) → IsHeld p (failed k r e p stack)
  fell_held r e stack none = ap (λ a. is_some a) (falls_acting k.plans p.number e p.agenda stack ∙ none)

  fallen : (r : Row) (e : Error) → IsSound Named (went.Row r) → Kept (failed k r e p cur)
  fallen r e h = record { sound = tt; running = falls k p.number e p.agenda cur; held = fell_held r e cur }

  acts_by : (l : LiteralOf Term) (b : Bool) → is_ground_literal l ≡ b
      → Kept (cond b (made (spec.waiting p cur l) [] (went.Action l)) (failed k row.ExecFree error.NotGround p cur))
  acts_by l true h = record { sound = h; running = refl; held = λ none. refl }
  acts_by l false h = fallen row.ExecFree error.NotGround tt

  tests : (g : LiteralOf Term) (a : Answer) → Kept (spec.tested k p cur g a)
  tests g (answer.Found s n) = record { sound = tt; running = refl; held = none_held }
  tests g answer.Nothing = record { sound = tt; running = refl; held = none_held }
  tests g answer.Arith = fallen row.TestErr error.Arith tt
  tests g answer.TermLimit = fallen row.TestErr error.TermLimit tt
  tests g (answer.Spent s) = record { sound = tt; running = refl; held = none_held }

  relates : (h : Holding) → Kept (spec.related k p cur h)
  relates (Gives (Some s)) = record { sound = tt; running = refl; held = none_held }
  relates (Gives None) = fallen row.RelNo error.TestFailed tt
  relates (Fails e) = fallen row.ExecArith error.Arith tt
  relates Passes = fallen row.ExecLimit error.TermLimit tt

  answers : (a : Answer) → Kept (spec.answered k p cur a)
  answers answer.Arith = fallen row.ExecArith error.Arith tt
  answers answer.TermLimit = fallen row.IaBig error.TermLimit tt
  answers (answer.Spent s) = record { sound = tt; running = refl; held = none_held }
  answers answer.Nothing = fallen row.IaFail error.IaFailed tt
  answers (answer.Found s n) = record { sound = tt; running = refl; held = none_held }

  adds : (b : LiteralOf Term) → Kept (spec.add k p cur b)
  adds b = either Kept (is_ground_literal b) (spec.changed row.AddBel p cur (added b p.beliefs)) (failed k row.ExecFree error.NotGround p cur)
      (record { sound = tt; running = refl; held = none_held }) (fallen row.ExecFree error.NotGround tt)

  replaces : (b : LiteralOf Term) → Kept (spec.replace k p cur b)
  replaces b = either Kept (is_ground_literal b) (spec.changed row.RepBel p cur (replaced b p.beliefs)) (failed k row.ExecFree error.NotGround p cur)
      (record { sound = tt; running = refl; held = none_held }) (fallen row.ExecFree error.NotGround tt)

  inners_by : (c : CallOf Expr) (o : Option Action) → Named ≡ dropped_by_call c → Kept (spec.of_action k p cur c o)
  inners_by c (Some action.Print) is = record { sound = tt; running = refl; held = none_held }
  inners_by c (Some action.Fail) is = fallen row.IaFail error.IaFailed tt
  inners_by c (Some (action.Does d)) is = record { sound = is; running = refl; held = none_held }
  inners_by c other is = answers (sought k p (expr.Inner c))

  inners : (c : CallOf Expr) → Named ≡ dropped_by_call c → Kept (spec.inner k p cur c)
  inners c is = inners_by c (actions.named c.name) is

  formulas : (f : Formula) → Named ≡ dropped_by_settled (Ok f) → Kept (spec.of_formula k p cur f)
  formulas (formula.Act l) is = acts_by l (is_ground_literal l) refl
  formulas (formula.Achieve g) is = record { sound = tt; running = refl; held = none_held }
  formulas (formula.Spawn g) is = record { sound = tt; running = refl; held = none_held }
  formulas (formula.Test g) is = tests g (sought k p (expr.Holds g))
  formulas (formula.Add b) is = adds (with_source b)
  formulas (formula.Del b) is = record { sound = tt; running = refl; held = none_held }
  formulas (formula.Replace b) is = replaces (with_source b)
  formulas (formula.Rel r) is = relates (holds r [])
  formulas (formula.Inner c) is = inners c is

  settles : (s : Settled Formula) → Named ≡ dropped_by_settled s → Kept (spec.of_settled k p cur s)
  settles (Err e) is = fallen row.ExecArith error.Arith tt
  settles (Ok f) is = formulas f is

  heads : (o : Option Formula) → Named ≡ dropped_by_head o → Kept (spec.of_head k p cur o)
  heads None is = record { sound = tt; running = refl; held = none_held }
  heads (Some f) is = either Kept (within_formula f) (spec.of_settled k p cur (settle_formula f)) (failed k row.ExecLimit error.TermLimit p cur)
      (settles (settle_formula f) is) (fallen row.ExecLimit error.TermLimit tt)

  exec_keeps : Kept (spec.exec k p cur)
  unfolding spec.exec
  exec_keeps = heads (head cur) refl

  pub exec_running : (spec.exec k p cur).parts.agenda.running ≡ p.agenda.running
  exec_running = exec_keeps.running

  pub exec_held : IsHeld p (spec.exec k p cur)
  exec_held = exec_keeps.held

  exec_leads : IsGround (after_of (spec.exec k p cur).went)
  exec_leads = leads Named (spec.exec k p cur).went exec_keeps.sound

  pub exec_sound : IsSound Named (spec.exec k p cur).went
  exec_sound = exec_keeps.sound

  -- Clr: the stack goes to the back, or the stacks that run stay
  abbrev pub Back : Made → Type 0
  Back x = IsSound Named x.went × ((back : List (List Means)) × (x.parts.agenda.running ≡ p.agenda.running ++ back))

  stays : (x : Made) → IsSound Named x.went → x.parts.agenda.running ≡ p.agenda.running → Back x
  stays x h e = (h, ([], e ∙ sym (nothing_behind p.agenda.running)))

  fell_back : (below : List Means) → Back (failed k row.ClrLimit error.TermLimit p below)
  fell_back below = stays (failed k row.ClrLimit error.TermLimit p below) tt (falls k p.number error.TermLimit p.agenda below)

  pops : (below : List Means) (l : LiteralOf Term) → Back (emptying.popped k p l below)
  pops below l = either Back (is_bounded (head below)) (emptying.done_below p l below) (failed k row.ClrLimit error.TermLimit p below)
      (stays (emptying.done_below p l below) tt refl) (fell_back below)

  empties : (c : List Means) → Back (emptying.emptied k p c)
  empties [] = stays (emptying.emptied k p []) tt refl
  empties (m ∷ []) = stays (emptying.emptied k p (m ∷ [])) tt refl
  empties (m ∷ n ∷ below) = either Back (is_bounded_trigger m.trigger) (emptying.popped k p m.trigger.lit (n ∷ below))
      (failed k row.ClrLimit error.TermLimit p (n ∷ below)) (pops (n ∷ below) m.trigger.lit) (fell_back (n ∷ below))

  clear_keeps : Back (clearing.clear k p cur)
  unfolding clearing.clear
  clear_keeps = either Back (has_head cur) (clearing.waits p cur) (emptying.emptied k p cur) (tt, (cur ∷ [], refl)) (empties cur)

  -- Clr hands no action on
  pops_held : (below : List Means) (l : LiteralOf Term) → IsHeld p (emptying.popped k p l below)
  pops_held below l = either (IsHeld p) (is_bounded (head below)) (emptying.done_below p l below) (failed k row.ClrLimit error.TermLimit p below)
      none_held (fell_held row.ClrLimit error.TermLimit below)

  empties_held : (c : List Means) → IsHeld p (emptying.emptied k p c)
  empties_held [] = none_held
  empties_held (m ∷ []) = none_held
  empties_held (m ∷ n ∷ below) = either (IsHeld p) (is_bounded_trigger m.trigger) (emptying.popped k p m.trigger.lit (n ∷ below))
      (failed k row.ClrLimit error.TermLimit p (n ∷ below)) (pops_held (n ∷ below) m.trigger.lit) (fell_held row.ClrLimit error.TermLimit (n ∷ below))

  pub clear_held : IsHeld p (clearing.clear k p cur)
  unfolding clearing.clear
  clear_held = either (IsHeld p) (has_head cur) (clearing.waits p cur) (emptying.emptied k p cur) none_held (empties_held cur)

  pub clear_ground : IsGround (clear_step k p cur).next.after
  clear_ground = leads Named (clearing.clear k p cur).went clear_keeps.0

  pub clear_back : (back : List (List Means)) × ((clear_step k p cur).parts.agenda.running ≡ p.agenda.running ++ back)
  clear_back = clear_keeps.1

-- ---- the row of Exec

module _ (k : Surroundings) (peers : Peers) (s : Sofar) where
  acted_ground : (d : Did) (a : Acted) → IsGround (of_acted k peers s d a).next.after
  acted_ground d (acted.Failed e) = tt
  acted_ground d (acted.Asked m) = tt
  acted_ground d (acted.Gone fs) = tt
  acted_ground d (acted.Ok fs) = tt
  acted_ground d (acted.Sent messages) = tt
  acted_ground d acted.Stop = tt

module _ (k : Surroundings) (peers : Peers) (s : Sofar) where
  deed_ground : (d : Did) → IsGround (deed k peers s d).next.after
  deed_ground d = acted_ground k peers (record s { asks = d.asks }) d d.acted

  by_ground : (x : Made) (w : Went) → IsGround (after_of x.went) → IsGround (exec_by k peers s x w).next.after
  by_ground x (went.Outer c) h = deed_ground (act_inside k peers s.asks x.parts x.cur c)
  by_ground x (went.Row r) h = h
  by_ground x (went.Say text) h = h
  by_ground x (went.Action l) h = h
  by_ground x (went.Failed r fall) h = h
  by_ground x (went.Spent r b) h = h

  pub exec_ground : (p : Circumstance) (cur : List Means) → IsGround (exec_step k peers p s cur).next.after
  exec_ground p cur = let x = spec.exec k p cur in by_ground x x.went (exec_leads k p cur)
