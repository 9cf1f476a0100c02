-- What an internal action on goals, beliefs or other agents leaves of the stacks that run. The one that waits for its action stays.
use Rattle.std.proofs.Common.{◌≡◌, ℕ, Bool, true, false, ◌||◌, cond, List, [], ◌∷◌, ◌++◌, slice_get, Option, None, Some, Result, Ok, Err, refl, sym, ap, subst, ◌∙◌, append_assoc}
use Rattle.std.proofs.lemmas.List.{append-nil}
use Rattle.asl_term.specs.declared.syntax.LiteralOf.{LiteralOf}
use Rattle.asl_term.specs.declared.syntax.Term.{Term}
use Rattle.asl_term.specs.declared.syntax.Expr.{Expr}
use Rattle.asl_term.specs.declared.syntax.ArgOf.{ArgOf}
use Rattle.asl_term.specs.declared.syntax.ArgOf.TheVariants as arg
use Rattle.asl_term.specs.declared.syntax.CallOf.{CallOf}
use Rattle.asl_term_actions.specs.declared.action.Action.{Action}
use Rattle.asl_term_actions.specs.declared.action.Action.TheVariants as action
use Rattle.asl_term_actions.specs.declared.action.Deed.TheVariants as deed
use Rattle.asl_term_actions.specs.declared.action.LiteralDeed.{LiteralDeed}
use Rattle.asl_term_actions.specs.declared.action.LiteralDeed.TheVariants as literal_deed
use Rattle.asl_term_actions.specs.Actions as actions
use Rattle.asl_unify.specs.declared.subst.Pair.{Pair}
use Rattle.asl_intend.specs.declared.entry.Means.{Means}
use Rattle.asl_intend.specs.declared.agenda.Event.{Event}
use Rattle.asl_intend.specs.declared.agenda.Ask.{Ask}
use Rattle.asl_intend.specs.declared.agenda.Agenda.{Agenda}
use Rattle.asl_intend.specs.declared.agenda.Error.TheVariants as error
use Rattle.asl_intend.specs.Stacks.{has_goal, names_goal, is_bounded, is_bounded_trigger, head}
use Rattle.asl_intend.specs.Agendas.{without, without_intentions, without_desires}
use Rattle.asl_exec_circumstance.specs.declared.rows.Fall.{Fall}
use Rattle.asl_exec_circumstance.specs.declared.rows.Row.TheVariants as row
use Rattle.asl_exec_circumstance.specs.Circumstance.{Surroundings, Circumstance, Made, failed}
use Rattle.asl_exec_circumstance.specs.Emptied.{emptied, popped, done_below}
use Rattle.mas_mind.specs.declared.mind.Message.{Message}
use Rattle.asl_exec_circumstance.specs.declared.peers.Peers.{Peers}
use Rattle.asl_exec_circumstance.specs.Contents.{literal_of}
use Rattle.asl_goals.specs.declared.acted.Why.{Why}
use Rattle.asl_goals.specs.declared.acted.Why.TheVariants as why
use Rattle.asl_goals.specs.declared.letter.Letter.{Letter}
use Rattle.asl_goals.specs.declared.sweep.Way.{Way}
use Rattle.asl_goals.specs.declared.sweep.Way.TheVariants as way
use Rattle.asl_goals.specs.Goals as goals
use Rattle.asl_goals.specs.Goals.{Swept}
use Rattle.asl_goals.specs.Sending.{term_at, letter, is_ask, spread}
use Rattle.asl_goals.specs.Inside as spec
use Rattle.asl_goals.specs.Inside.{Did}
use Rattle.asl_cycle.specs.Turns.{Left, is_ending, ends_goals, goal_of, dropped_by_call}
use Rattle.asl_cycle.specs.inner.Acting.{falls, falls_acting}
use Rattle.asl_cycle.proofs.Lefts.{Stacks, without_left}
use Rattle.asl_cycle.proofs.Leaving.{Leaves, leaves_all, leaves_some, leaves_then, leaves_same}

-- ---- stacks with a goal

named_by : (n more : Bool) (x : List Means) (o : Option (List Means)) → ((cut : List Means) → o ≡ Some cut → more ≡ true)
    → (cut : List Means) → goals.or_else o (cond n (Some x) None) ≡ Some cut → (n || more) ≡ true
named_by true more x o h cut e = refl
named_by false more x (Some c) h cut e = h c refl
named_by false more x None h cut e = cc

-- a stack that has a lowest means of the goal has the goal
named : (g : LiteralOf Term) (s cut : List Means) → goals.from_lowest g s ≡ Some cut → has_goal g s ≡ true
named g [] cut e = cc
named g (m ∷ below) cut e = named_by (names_goal g m.trigger) (has_goal g below) (m ∷ below) (goals.from_lowest g below) (named g below) cut e

-- ---- what becomes of one stack

either : {A : Type 0} (P : A → Type 0) (b : Bool) (x y : A) → P x → P y → P (cond b x y)
either P true x y h g = h
either P false x y h g = g

-- the stacks that run stay
abbrev Runs : Circumstance → Made → Type 0
Runs p x = x.parts.agenda.running ≡ p.agenda.running

module _ (k : Surroundings) where
  popped_runs : (p : Circumstance) (l : LiteralOf Term) (below : List Means) → Runs p (popped k p l below)
  popped_runs p l below = either (Runs p) (is_bounded (head below)) (done_below p l below) (failed k row.ClrLimit error.TermLimit p below)
      refl (falls k p.number error.TermLimit p.agenda below)

  emptied_runs : (p : Circumstance) (stack : List Means) → Runs p (emptied k p stack)
  emptied_runs p [] = refl
  emptied_runs p (m ∷ []) = refl
  emptied_runs p (m ∷ n ∷ below) =
      either (Runs p) (is_bounded_trigger m.trigger) (popped k p m.trigger.lit (n ∷ below)) (failed k row.ClrLimit error.TermLimit p (n ∷ below))
      (popped_runs p m.trigger.lit (n ∷ below)) (falls k p.number error.TermLimit p.agenda (n ∷ below))

  treated_runs : (w : Way) (p : Circumstance) (stack : List Means) → Runs p (goals.treated k w p stack)
  treated_runs way.Succeed p stack = emptied_runs p stack
  treated_runs way.Fail p stack = falls k p.number error.IaFailed p.agenda stack

-- the one that waits for its action stays
abbrev Waits : Circumstance → Made → Type 0
Waits p x = x.parts.agenda.acting ≡ p.agenda.acting

module _ (k : Surroundings) where
  popped_waits : (p : Circumstance) (l : LiteralOf Term) (below : List Means) → Waits p (popped k p l below)
  popped_waits p l below = either (Waits p) (is_bounded (head below)) (done_below p l below) (failed k row.ClrLimit error.TermLimit p below)
      refl (falls_acting k.plans p.number error.TermLimit p.agenda below)

  emptied_waits : (p : Circumstance) (stack : List Means) → Waits p (emptied k p stack)
  emptied_waits p [] = refl
  emptied_waits p (m ∷ []) = refl
  emptied_waits p (m ∷ n ∷ below) =
      either (Waits p) (is_bounded_trigger m.trigger) (popped k p m.trigger.lit (n ∷ below)) (failed k row.ClrLimit error.TermLimit p (n ∷ below))
      (popped_waits p m.trigger.lit (n ∷ below)) (falls_acting k.plans p.number error.TermLimit p.agenda (n ∷ below))

  treated_waits : (w : Way) (p : Circumstance) (stack : List Means) → Waits p (goals.treated k w p stack)
  treated_waits way.Succeed p stack = emptied_waits p stack
  treated_waits way.Fail p stack = falls_acting k.plans p.number error.IaFailed p.agenda stack

-- ---- the fold

sweep_waits : {S : Type 0} (one : Circumstance → S → Swept S) → ((p : Circumstance) (x : S) → (one p x).parts.agenda.acting ≡ p.agenda.acting)
    → (p : Circumstance) (xs : List S) → (goals.sweep one p xs).parts.agenda.acting ≡ p.agenda.acting
sweep_waits one h p [] = refl
sweep_waits one h p (x ∷ more) = let a = one p x in sweep_waits one h a.parts more ∙ h p x

-- some go behind them
abbrev Back : Circumstance → Circumstance → Type 0
Back p q = (back : Stacks) × (q.agenda.running ≡ p.agenda.running ++ back)

none_back : (p q : Circumstance) → q.agenda.running ≡ p.agenda.running → Back p q
none_back p q e = ([], e ∙ sym (append-nil p.agenda.running))

back_then : (p q r : Circumstance) → Back p q → Back q r → Back p r
back_then p q r h g = (h.0 ++ g.0, g.1 ∙ (ap (λ xs. xs ++ g.0) h.1 ∙ append_assoc p.agenda.running h.0 g.0))

sweep_back : {S : Type 0} (one : Circumstance → S → Swept S) → ((p : Circumstance) (x : S) → Back p (one p x).parts)
    → (p : Circumstance) (xs : List S) → Back p (goals.sweep one p xs).parts
sweep_back one h p [] = none_back p p refl
sweep_back one h p (x ∷ more) =
    let a = one p x in
    back_then p a.parts (goals.sweep one a.parts more).parts (h p x) (sweep_back one h a.parts more)

module _ (k : Surroundings) (w : Way) (g : LiteralOf Term) where
  lost_or_changed : (s t : List Means) (before after : Stacks) → has_goal g s ≡ true → Left (Some g) before after
      → Left (Some g) (s ∷ before) (goals.what_is_left t ++ after)
  lost_or_changed s [] before after e h = Left.Lost g s before after refl e h
  lost_or_changed s (m ∷ below) before after e h = Left.Changed g s (m ∷ below) before after refl e h

  in_place_left : (p : Circumstance) (s : List Means) (before after : Stacks) (o : Option (List Means)) → goals.from_lowest g s ≡ o → Left (Some g) before after
      → Left (Some g) (s ∷ before) ((goals.in_place k w g p s o).left ++ after)
  in_place_left p s before after None e h = Left.Same s before after h
  in_place_left p s before after (Some cut) e h = lost_or_changed s (goals.treated k w p cut).cur before after (named g s cut e) h

  abbrev one_running : Circumstance → List Means → Swept (List Means)
  one_running q stack = goals.in_place k w g q stack (goals.from_lowest g stack)

  running_left : (p : Circumstance) (xs : Stacks) → Left (Some g) xs (goals.sweep one_running p xs).left
  running_left p [] = Left.Empty
  running_left p (s ∷ more) =
      let a = one_running p s in
      in_place_left p s more (goals.sweep one_running a.parts more).left (goals.from_lowest g s) refl (running_left a.parts more)

  taken_out_back : {S : Type 0} (p : Circumstance) (x : S) (o : Option (List Means)) → Back p (goals.taken_out k w g p x o).parts
  taken_out_back p x None = none_back p p refl
  taken_out_back p x (Some cut) =
      let y = goals.treated k w p cut in
      (goals.what_is_left y.cur, ap (λ xs. xs ++ goals.what_is_left y.cur) (treated_runs k w p cut))

  events_back : (p : Circumstance) → Back p (goals.events_swept k w g p)
  events_back p =
      sweep_back (λ q (e : Event). goals.taken_out k w g q e (goals.from_lowest g e.stack))
      (λ q e. taken_out_back q e (goals.from_lowest g e.stack)) (goals.with_events p []) p.agenda.events

  asks_back : (p : Circumstance) → Back p (goals.asks_swept k w g p)
  asks_back p =
      sweep_back (λ q (a : Ask). goals.taken_out k w g q a (goals.from_lowest g a.stack))
      (λ q a. taken_out_back q a (goals.from_lowest g a.stack)) (goals.with_asks p []) p.agenda.asks

  in_place_waits : (p : Circumstance) (s : List Means) (o : Option (List Means)) → (goals.in_place k w g p s o).parts.agenda.acting ≡ p.agenda.acting
  in_place_waits p s None = refl
  in_place_waits p s (Some cut) = treated_waits k w p cut

  taken_out_waits : {S : Type 0} (p : Circumstance) (x : S) (o : Option (List Means)) → (goals.taken_out k w g p x o).parts.agenda.acting ≡ p.agenda.acting
  taken_out_waits p x None = refl
  taken_out_waits p x (Some cut) = treated_waits k w p cut

  swept_waits : (p : Circumstance) → (goals.all_swept k w g p).agenda.acting ≡ p.agenda.acting
  swept_waits p =
      let a = goals.running_swept k w g p in
      let b = goals.events_swept k w g a in
      let running = sweep_waits one_running (λ q s. in_place_waits q s (goals.from_lowest g s)) (goals.with_running p []) p.agenda.running in
      let events = sweep_waits (λ q (e : Event). goals.taken_out k w g q e (goals.from_lowest g e.stack))
      (λ q e. taken_out_waits q e (goals.from_lowest g e.stack)) (goals.with_events a []) a.agenda.events in
      let asks = sweep_waits (λ q (x : Ask). goals.taken_out k w g q x (goals.from_lowest g x.stack))
      (λ q x. taken_out_waits q x (goals.from_lowest g x.stack)) (goals.with_asks b []) b.agenda.asks in
      asks ∙ (events ∙ running)

  swept_leaves : (p : Circumstance) → Leaves (Some g) p.agenda.running (goals.all_swept k w g p).agenda.running
  swept_leaves p =
      let a = goals.running_swept k w g p in
      let b = goals.events_swept k w g a in
      let c = goals.asks_swept k w g b in
      let h = back_then a b c (events_back a) (asks_back b) in
      leaves_then (Some g) p.agenda.running a.agenda.running c.agenda.running h.0
      (leaves_some (Some g) p.agenda.running a.agenda.running (running_left (goals.with_running p []) p.agenda.running)) h.1

-- ---- the actions

record Acts (named : Option (LiteralOf Term)) (p : Circumstance) (d : Did) : Type 0 where
  leaves : Leaves named p.agenda.running d.parts.agenda.running
  waits : d.parts.agenda.acting ≡ p.agenda.acting

module _ (named : Option (LiteralOf Term)) (k : Surroundings) (asks : ℕ) (p : Circumstance) (cur : List Means) where
  stays : (d : Did) → d.parts.agenda.running ≡ p.agenda.running → d.parts.agenda.acting ≡ p.agenda.acting → Acts named p d
  stays d e h = record { leaves = leaves_all named p.agenda.running d.parts.agenda.running e; waits = h }

  refuses : (e : Why) → Acts named p (spec.refused k asks p cur e)
  refuses e = stays (spec.refused k asks p cur e) refl refl

  drops : (a : Agenda) (b : Bool) → Left named p.agenda.running a.running → a.acting ≡ p.agenda.acting → Acts named p (spec.dropped k asks p cur a b)
  drops a true h e = record { leaves = leaves_some named p.agenda.running a.running h; waits = e }
  drops a false h e = record { leaves = leaves_some named p.agenda.running a.running h; waits = e }

  looks : (o : Option (List Pair)) → Acts named p (spec.matched k asks p cur o)
  looks None = refuses why.NoMatch
  looks (Some s) = stays (spec.matched k asks p cur (Some s)) refl refl

  current_left : (q : Circumstance) (stack : List Means) (fs : List Fall) → Leaves named p.agenda.running q.agenda.running
      → q.agenda.acting ≡ p.agenda.acting → Acts named p (spec.current_left k asks p cur q stack fs)
  current_left q [] fs h e = record { leaves = h; waits = e }
  current_left q (m ∷ below) fs h e = record { leaves = h; waits = e }

  current : (w : Way) (q : Circumstance) (fs : List Fall) (o : Option (List Means)) → Leaves named p.agenda.running q.agenda.running
      → q.agenda.acting ≡ p.agenda.acting → Acts named p (spec.current k asks p cur w q fs o)
  current w q fs None h e = record { leaves = h; waits = e }
  current w q fs (Some cut) h e =
      let x = goals.treated k w q cut in
      current_left x.parts x.cur (fs ++ goals.falls_of x.went)
      (leaves_same named p.agenda.running q.agenda.running x.parts.agenda.running h (treated_runs k w q cut)) (treated_waits k w q cut ∙ e)

  ends : (w : Way) (g : LiteralOf Term) → named ≡ Some g → Acts named p (spec.ended k asks p cur w g)
  ends w g e =
      let q = goals.all_swept k w g p in
      current w q (goals.all_falls k w g p) (goals.from_lowest g cur)
      (subst (λ n. Leaves n p.agenda.running q.agenda.running) (sym e) (swept_leaves k w g p)) (swept_waits k w g p)

  drops_named : (g : LiteralOf Term) (a : Agenda) → a.running ≡ without (has_goal g) p.agenda.running → a.acting ≡ p.agenda.acting → named ≡ Some g
      → Acts named p (spec.dropped k asks p cur a (has_goal g cur))
  drops_named g a is same e =
      drops a (has_goal g cur) (subst (λ xs. Left named p.agenda.running xs) (sym is)
      (subst (λ n. Left n p.agenda.running (without (has_goal g) p.agenda.running)) (sym e) (without_left g p.agenda.running))) same

  sends_asking : (me : ℕ) (l : Letter) (o : Option (ArgOf Expr)) → Acts named p (spec.sent_asking k asks p cur me l o)
  sends_asking me l None = stays (spec.sent_asking k asks p cur me l None) refl refl
  sends_asking me l (Some (arg.Plain a)) =
      either (Acts named p) (is_ask l.verb) (spec.asked k asks p cur me l a) (spec.refused k asks p cur (why.Argument 3))
      (stays (spec.asked k asks p cur me l a) refl refl) (refuses (why.Argument 3))
  sends_asking me l (Some (arg.Logic e)) = refuses (why.Argument 3)

  sends : (me : ℕ) (args : List (ArgOf Expr)) (r : Result Letter Why) → Acts named p (spec.sent_letter k asks p cur me args r)
  sends me args (Err e) = refuses e
  sends me args (Ok l) = sends_asking me l (slice_get args 3)

  sends_all : (r : Result (List Message) Why) → Acts named p (spec.sent_all k asks p cur r)
  sends_all (Err e) = refuses e
  sends_all (Ok ms) = stays (spec.sent_all k asks p cur (Ok ms)) refl refl

  -- the first four name the goal that they drop or end
  about : (d : LiteralDeed) (g : LiteralOf Term) → named ≡ cond (is_ending d) (Some g) None → Acts named p (spec.about k asks p cur d g)
  about literal_deed.DropIntention g is = drops_named g (without_intentions g p.agenda) refl refl is
  about literal_deed.DropDesire g is = drops_named g (without_desires g p.agenda) refl refl is
  about literal_deed.SucceedGoal g is = ends way.Succeed g is
  about literal_deed.FailGoal g is = ends way.Fail g is
  about literal_deed.Intend g is = looks (goals.first_goal false g p.agenda cur)
  about literal_deed.Desire g is = looks (goals.first_goal true g p.agenda cur)
  about literal_deed.Abolish g is = stays (spec.abolish k asks p cur g) refl refl

  about_literal : (d : LiteralDeed) (o : Option (LiteralOf Term)) → named ≡ cond (is_ending d) o None
      → Acts named p (spec.about_literal k asks p cur d o)
  about_literal d None is = refuses (why.Argument 0)
  about_literal d (Some g) is = about d g is

  about_term : (d : LiteralDeed) (o : Option Term) → named ≡ cond (is_ending d) (goal_of o) None → Acts named p (spec.about_term k asks p cur d o)
  about_term d None is = refuses (why.Argument 0)
  about_term d (Some t) is = about_literal d (literal_of t) is

  acts_by : (peers : Peers) (args : List (ArgOf Expr)) (o : Option Action) → named ≡ cond (ends_goals o) (goal_of (term_at args 0)) None
      → Acts named p (spec.act_by k asks p cur peers args o)
  acts_by peers args (Some (action.Does (deed.OnLiteral d))) is = about_term d (term_at args 0) is
  acts_by peers args (Some (action.Does deed.Send)) is = sends peers.me args (letter peers.names args)
  acts_by peers args (Some (action.Does deed.Broadcast)) is = sends_all (spread peers args)
  acts_by peers args (Some (action.Does deed.StopMas)) is = stays (spec.stop k asks p cur) refl refl
  acts_by peers args other is = refuses (why.Argument 0)

  acts : (peers : Peers) (c : CallOf Expr) → named ≡ dropped_by_call c → Acts named p (spec.act k asks p cur peers c)
  acts peers c is = acts_by peers c.args (actions.named c.name) is

pub deed_waits : (k : Surroundings) (peers : Peers) (asks : ℕ) (p : Circumstance) (cur : List Means) (c : CallOf Expr)
    → (spec.act_inside k peers asks p cur c).parts.agenda.acting ≡ p.agenda.acting
unfolding spec.act_inside
deed_waits k peers asks p cur c = (acts (dropped_by_call c) k asks p cur peers c refl).waits

pub deed_leaves : (k : Surroundings) (peers : Peers) (asks : ℕ) (p : Circumstance) (cur : List Means) (c : CallOf Expr)
    → Leaves (dropped_by_call c) p.agenda.running (spec.act_inside k peers asks p cur c).parts.agenda.running
unfolding spec.act_inside
deed_leaves k peers asks p cur c = (acts (dropped_by_call c) k asks p cur peers c refl).leaves
