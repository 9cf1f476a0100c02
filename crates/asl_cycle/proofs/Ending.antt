-- What becomes of intentions by an internal action on goals, beliefs or other agents.
use Rattle.std.proofs.Common.{◌≡◌, ℕ, ◌+◌, Bool, true, false, cond, if◌then◌else◌, List, [], ◌∷◌, ◌++◌, slice_get, Option, None, Some, Result, Ok, Err, refl, sym, ap, ◌∙◌, arith}
use Rattle.asl_term.specs.declared.syntax.LiteralOf.{LiteralOf}
use Rattle.asl_term.specs.declared.syntax.Term.{Term}
use Rattle.asl_term.specs.declared.syntax.Trigger.{Trigger}
use Rattle.asl_term.specs.declared.syntax.Expr.{Expr}
use Rattle.asl_term.specs.declared.syntax.ArgOf.{ArgOf}
use Rattle.asl_term.specs.declared.syntax.ArgOf.TheVariants as arg
use Rattle.asl_term.specs.declared.syntax.CallOf.{CallOf}
use Rattle.asl_plans.specs.declared.entry.OwnedPlan.{OwnedPlan}
use Rattle.asl_term_actions.specs.declared.action.Action.{Action}
use Rattle.asl_term_actions.specs.declared.action.Action.TheVariants as action
use Rattle.asl_term_actions.specs.declared.action.Deed.TheVariants as deed
use Rattle.asl_term_actions.specs.declared.action.LiteralDeed.{LiteralDeed}
use Rattle.asl_term_actions.specs.declared.action.LiteralDeed.TheVariants as literal_deed
use Rattle.asl_term_actions.specs.Actions as actions
use Rattle.asl_unify.specs.declared.subst.Pair.{Pair}
use Rattle.asl_beliefs.specs.Changes.{Changed, abolished}
use Rattle.asl_intend.specs.declared.entry.Means.{Means}
use Rattle.asl_intend.specs.declared.agenda.Agenda.{Agenda}
use Rattle.asl_intend.specs.declared.agenda.Ask.{Ask}
use Rattle.asl_intend.specs.declared.agenda.Error.{Error}
use Rattle.asl_intend.specs.declared.agenda.Error.TheVariants as error
use Rattle.asl_intend.specs.declared.agenda.Event.{Event}
use Rattle.asl_intend.specs.Agendas.{without, without_intentions, without_desires, without_wanted}
use Rattle.asl_intend.specs.Means.{applied_means}
use Rattle.asl_intend.specs.Stacks.{bound, has_goal, has_means, head, is_bounded, is_bounded_trigger, names_goal, without_first, without_head}
use Rattle.asl_fail.specs.Fails.{fails, is_raised, raised, popped_one, dropped, posted}
use Rattle.asl_exec_circumstance.specs.declared.rows.Fall.{Fall}
use Rattle.asl_exec_circumstance.specs.declared.rows.Row.TheVariants as row
use Rattle.asl_exec_circumstance.specs.declared.went.Went.{Went}
use Rattle.asl_exec_circumstance.specs.declared.went.Went.TheVariants as went
use Rattle.asl_exec_circumstance.specs.Emptied.{answer, bound_by, done_below}
use Rattle.asl_exec_circumstance.specs.Circumstance.{Surroundings, Circumstance, Made, made, failed, told}
use Rattle.mas_mind.specs.declared.mind.Message.{Message}
use Rattle.asl_exec_circumstance.specs.declared.peers.Peers.{Peers}
use Rattle.asl_exec_circumstance.specs.Contents.{literal_of}
use Rattle.asl_goals.specs.declared.acted.Acted.{Acted}
use Rattle.asl_goals.specs.declared.acted.Acted.TheVariants as acted
use Rattle.asl_goals.specs.declared.acted.Why.{Why}
use Rattle.asl_goals.specs.declared.acted.Why.TheVariants as why
use Rattle.asl_goals.specs.declared.letter.Letter.{Letter}
use Rattle.asl_goals.specs.declared.sweep.Way.{Way}
use Rattle.asl_goals.specs.declared.sweep.Way.TheVariants as way
use Rattle.asl_goals.specs.Goals as goals
use Rattle.asl_goals.specs.Goals.{Swept, from_lowest}
use Rattle.asl_goals.specs.Inside as spec
use Rattle.asl_goals.specs.Inside.{Did}
use Rattle.asl_goals.specs.Sending.{term_at, letter, is_ask, spread}
use Rattle.asl_cycle.specs.Turns.{is_ending, ends_goals, goal_of, dropped_by_call, dropped_by_head}
use Rattle.asl_cycle.specs.Intentions.{Intention, Heap, total, held, one_or_none, begin, Becomes, Over, GoesOn, Outcome, Cut, searched, Ended, End, Executed}
use Rattle.asl_cycle.proofs.Sums.{total_append, ready_held, told_held, becomes}
use Rattle.asl_cycle.proofs.Failing.{fell}
use Rattle.asl_cycle.proofs.Executing.{Onward}

-- ---- intentions that end, one after another

pub end_as : {plans : List OwnedPlan} {named : Option (LiteralOf Term)} (a b c d : Heap) → ((f : Intention → ℕ) → c f ≡ a f) → ((f : Intention → ℕ) → d f ≡ b f)
    → End plans named a b → End plans named c d
end_as _ _ c d e g (End.Same a b h) = End.Same c d (λ f. let i = e f in let j = g f in let l = h f in omega arith)
end_as _ _ c d e g (End.One a rest next b x y h fate i t) =
    End.One c rest next d x y (λ f. let j = e f in let l = h f in omega arith) fate i (end_as next b next d (λ f. refl) g t)

pub end_then : {plans : List OwnedPlan} {named : Option (LiteralOf Term)} (a b c : Heap) → End plans named a b → End plans named b c → End plans named a c
end_then _ _ c (End.Same a b h) t = end_as b c a c (λ f. sym (h f)) (λ f. refl) t
end_then _ _ c (End.One a rest next b x y h fate i s) t = End.One a rest next c x y h fate i (end_then next b c s t)

module _ (plans : List OwnedPlan) (named : Option (LiteralOf Term)) where
  -- ---- those that pass a test

  module _ {S : Type 0} (i : S → Intention) (test : S → Bool) (ends : (x : S) → test x ≡ true → Ended plans named (i x) None) where
    abbrev all : (Intention → ℕ) → List S → ℕ
    all f = total (λ x. f (i x))

    abbrev Drops : List S → List S → Type 0
    Drops xs ys = (r : Heap) → End plans named (λ f. r f + all f xs) (λ f. r f + all f ys)

    one_dropped : (x : S) (xs ys : List S) (b : Bool) → test x ≡ b → Drops xs ys → Drops (x ∷ xs) (cond b ys (x ∷ ys))
    one_dropped x xs ys true e h r =
        End.One (λ f. r f + (f (i x) + all f xs)) (λ f. r f + all f xs) (λ f. r f + all f xs) (λ f. r f + all f ys) (i x) None (λ f. omega arith) (ends x e)
        (λ f. omega arith) (h r)
    one_dropped x xs ys false e h r =
        end_as (λ f. (r f + f (i x)) + all f xs) (λ f. (r f + f (i x)) + all f ys) (λ f. r f + (f (i x) + all f xs)) (λ f. r f + (f (i x) + all f ys))
        (λ f. omega arith) (λ f. omega arith) (h (λ f. r f + f (i x)))

    pub dropped_all : (xs : List S) → Drops xs (without test xs)
    dropped_all [] r = End.Same (λ f. r f + 0) (λ f. r f + 0) (λ f. refl)
    dropped_all (x ∷ xs) r = one_dropped x xs (without test xs) (test x) refl (dropped_all xs) r

  module _ (g : LiteralOf Term) (is : named ≡ Some g) where
    pub intentions_end : (a : Agenda) → End plans named (held a) (held (without_intentions g a))
    intentions_end a =
        let e = without (λ v. has_goal g v.stack) a.events in
        let r = without (has_goal g) a.running in
        let q = without (λ x. has_goal g x.stack) a.asks in
        let b : Agenda = record a { events = e } in
        let c : Agenda = record b { running = r } in
        let d : Agenda = record c { asks = q } in
        let waits = dropped_all (λ v. Intention.Waits v) (λ v. has_goal g v.stack) (λ v h. Ended.Drops g (Intention.Waits v) is h) a.events
        (λ f. held (record a { events = [] }) f) in
        let runs = dropped_all (λ s. Intention.Runs s) (has_goal g) (λ s h. Ended.Drops g (Intention.Runs s) is h) a.running
        (λ f. held (record b { running = [] }) f) in
        let asks = dropped_all (λ x. Intention.Asks x) (λ x. has_goal g x.stack) (λ x h. Ended.Drops g (Intention.Asks x) is h) a.asks
        (λ f. held (record c { asks = [] }) f) in
        end_then (held a) (held b) (held d) (end_as _ _ (held a) (held b) (λ f. omega arith) (λ f. omega arith) waits)
        (end_then (held b) (held c) (held d) (end_as _ _ (held b) (held c) (λ f. omega arith) (λ f. omega arith) runs)
        (end_as _ _ (held c) (held d) (λ f. omega arith) (λ f. omega arith) asks))

    wanted_end : (a : Agenda) → End plans named (held a) (held (without_wanted g a))
    wanted_end a =
        end_as _ _ (held a) (held (without_wanted g a)) (λ f. omega arith) (λ f. omega arith)
        (dropped_all (λ v. Intention.Waits v) (λ v. names_goal g v.trigger) (λ v h. Ended.Wanted g v is h) a.events (λ f. held (record a { events = [] }) f))

    pub desires_end : (a : Agenda) → End plans named (held a) (held (without_desires g a))
    desires_end a =
        let b = without_wanted g a in end_then (held a) (held b) (held (without_desires g a)) (wanted_end a) (intentions_end b)

-- ---- a stack that is cut down to a goal

-- what a failure leaves alone
falls_keep : {A : Type 0} (get : Agenda → A) → ((a : Agenda) (v : Event) → get (posted a v) ≡ get a)
    → (plans : List OwnedPlan) (n : ℕ) (e : Error) (a : Agenda) (s : List Means) → get (fails plans n e a s).agenda ≡ get a
falls_keep get keeps plans n e a [] = refl
falls_keep get keeps plans n e a (m ∷ below) = by (is_raised plans n e m.trigger) (has_means below) (falls_keep get keeps plans n e a below) where
  by : (raises more : Bool) → get (fails plans n e a below).agenda ≡ get a
      → get (if raises then raised e a m below else (if more then popped_one (fails plans n e a below) else dropped a)).agenda ≡ get a
  by true more h = keeps a _
  by false true h = h
  by false false h = refl

pick : {A : Type 0} (P : A → Type 0) (b : Bool) {x y : A} → P x → P y → P (cond b x y)
pick P true h g = h
pick P false h g = g

module _ (k : Surroundings) where
  treated_keeps : {A : Type 0} (get : Agenda → A) → ((a : Agenda) (v : Event) → get (posted a v) ≡ get a)
      → (w : Way) (q : Circumstance) (cut : List Means) → get (goals.treated k w q cut).parts.agenda ≡ get q.agenda
  treated_keeps get keeps way.Fail q cut = falls_keep get keeps k.plans q.number error.IaFailed q.agenda cut
  treated_keeps get keeps way.Succeed q [] = refl
  treated_keeps get keeps way.Succeed q (m ∷ []) = refl
  treated_keeps get keeps way.Succeed q (m ∷ c ∷ below) =
      let P : Made → Type 0 = λ x. get x.parts.agenda ≡ get q.agenda in
      let limit = falls_keep get keeps k.plans q.number error.TermLimit q.agenda (c ∷ below) in
      pick P (is_bounded_trigger m.trigger) (pick P (is_bounded (head (c ∷ below))) refl limit) limit

module _ (k : Surroundings) (named : Option (LiteralOf Term)) (g : LiteralOf Term) (is : named ≡ Some g) where
  -- it ends there, or goes on from there
  abbrev EndsBy : (Made → Type 0) → Circumstance → List Means → Type 0
  EndsBy P q s =
      (r : Circumstance) (w : Went) (x : Option Intention) → Cut k.plans named s (Outcome.Ends x)
      → ((f : Intention → ℕ) → held r.agenda f ≡ held q.agenda f + one_or_none f x) → P (made r [] w)

  abbrev GoesBy : (Made → Type 0) → Circumstance → List Means → Type 0
  GoesBy P q s = (m : Means) (t : List Means) (w : Went) → Cut k.plans named s (Outcome.Goes (m ∷ t)) → P (made q (m ∷ t) w)

  goes_by : (P : Made → Type 0) (q : Circumstance) (s : List Means) (m c : Means) (below : List Means) (b : Option (List Pair)) (w : Went)
      → from_lowest g s ≡ Some (m ∷ c ∷ below) → GoesBy P q s → P (made q (without_head (bound_by b (c ∷ below))) w)
  goes_by P q s m c below None w from goes =
      goes (without_first c) below w (Cut.Succeeds g (m ∷ c ∷ below) (without_head (c ∷ below)) is from (GoesOn.Pops m c below None))
  goes_by P q s m c below (Some b) w from goes =
      goes (without_first (applied_means b c)) (bound b below) w
      (Cut.Succeeds g (m ∷ c ∷ below) (without_head (bound b (c ∷ below))) is from (GoesOn.Pops m c below (Some b)))

  treat : (P : Made → Type 0) (w : Way) (q : Circumstance) (s cut : List Means) → from_lowest g s ≡ Some cut → EndsBy P q s → GoesBy P q s
      → P (goals.treated k w q cut)
  treat P way.Fail q s cut from ends goes =
      let h = fell k.plans q.number error.IaFailed q.agenda cut in
      let x = failed k row.IaFail error.IaFailed q cut in
      ends x.parts x.went h.is (Cut.Fails g cut q.number h.is is from h.fate) h.sums
  treat P way.Succeed q s [] from ends goes =
      ends q (went.Row row.ClrInt1) None (Cut.Stops g [] q.number None is from Over.Empty) (λ f. omega arith)
  treat P way.Succeed q s (m ∷ []) from ends goes =
      ends q (went.Row row.ClrInt1) None (Cut.Stops g (m ∷ []) q.number None is from (Over.Last m)) (λ f. omega arith)
  treat P way.Succeed q s (m ∷ c ∷ below) from ends goes =
      let h = fell k.plans q.number error.TermLimit q.agenda (c ∷ below) in
      let x = failed k row.ClrLimit error.TermLimit q (c ∷ below) in
      let limit : P x = ends x.parts x.went h.is (Cut.Stops g (m ∷ c ∷ below) q.number h.is is from (Over.Limit m c below h.is h.fate)) h.sums in
      let goes_on : P (done_below q m.trigger.lit (c ∷ below)) =
      goes_by P q s m c below (answer m.trigger.lit (head (c ∷ below))) (went.Row row.ClrInt2) from goes in
      pick P (is_bounded_trigger m.trigger) (pick P (is_bounded (head (c ∷ below))) goes_on limit) limit

  -- ---- the fold over the others

  abbrev Sweeps : {S : Type 0} → (S → Intention) → Circumstance → S → Swept S → Type 0
  Sweeps i q x a =
      (r : Heap) → End k.plans named (λ f. r f + (held q.agenda f + f (i x))) (λ f. r f + (held a.parts.agenda f + total (λ y. f (i y)) a.left))

  stays_there : {S : Type 0} (i : S → Intention) (q : Circumstance) (x : S) → Sweeps i q x (goals.untouched q x)
  stays_there i q x r = End.Same (λ f. r f + (held q.agenda f + f (i x))) (λ f. r f + (held q.agenda f + (f (i x) + 0))) (λ f. omega arith)

  -- one is taken out, and what became of it is there
  replaced : (q : Circumstance) (x : Intention) (y : Option Intention) (r after : Heap) → Ended k.plans named x y
      → ((f : Intention → ℕ) → after f ≡ r f + (held q.agenda f + one_or_none f y))
      → End k.plans named (λ f. r f + (held q.agenda f + f x)) after
  replaced q x y r after h e =
      End.One (λ f. r f + (held q.agenda f + f x)) (λ f. r f + held q.agenda f) (λ f. (r f + held q.agenda f) + one_or_none f y) after x y
      (λ f. omega arith) h (λ f. refl) (End.Same (λ f. (r f + held q.agenda f) + one_or_none f y) after (λ f. let i = e f in omega arith))

  in_place : (w : Way) (q : Circumstance) (s : List Means) (o : Option (List Means)) → from_lowest g s ≡ o
      → Sweeps (λ t. Intention.Runs t) q s (goals.in_place k w g q s o)
  in_place w q s None from = stays_there (λ t. Intention.Runs t) q s
  in_place w q s (Some cut) from =
      treat (λ x. Sweeps (λ t. Intention.Runs t) q s (goals.swept x.parts (goals.what_is_left x.cur) (goals.falls_of x.went))) w q s cut from
      (λ p v x c e r. replaced q (Intention.Runs s) x r (λ f. r f + (held p.agenda f + 0)) (Ended.Cuts (Intention.Runs s) x c) (λ f. let i = e f in omega arith))
      (λ m t v c r. replaced q (Intention.Runs s) (Some (Intention.Runs (m ∷ t))) r (λ f. r f + (held q.agenda f + (f (Intention.Runs (m ∷ t)) + 0)))
      (Ended.Runs (Intention.Runs s) (m ∷ t) c) (λ f. omega arith))

  taken_out : {S : Type 0} (i : S → Intention) (w : Way) (q : Circumstance) (x : S) (o : Option (List Means)) → from_lowest g (searched (i x)) ≡ o
      → Sweeps i q x (goals.taken_out k w g q x o)
  taken_out i w q x None from = stays_there i q x
  taken_out i w q x (Some cut) from =
      treat (λ y. Sweeps i q x (goals.swept (goals.to_back y.parts y.cur) [] (goals.falls_of y.went))) w q (searched (i x)) cut from
      (λ p v y c e r. replaced q (i x) y r (λ f. r f + (held (goals.to_back p []).agenda f + 0)) (Ended.Cuts (i x) y c)
      (λ f. let j = e f in let l = ready_held f p.agenda [] in omega arith))
      (λ m t v c r. replaced q (i x) (Some (Intention.Runs (m ∷ t))) r (λ f. r f + (held (goals.to_back q (m ∷ t)).agenda f + 0))
      (Ended.Runs (i x) (m ∷ t) c) (λ f. let l = ready_held f q.agenda ((m ∷ t) ∷ []) in omega arith))

  -- all of them
  sweeps : {S : Type 0} (i : S → Intention) (one : Circumstance → S → Swept S) → ((q : Circumstance) (x : S) → Sweeps i q x (one q x))
      → (q : Circumstance) (xs : List S) (r : Heap)
      → End k.plans named (λ f. r f + (held q.agenda f + total (λ x. f (i x)) xs))
      (λ f. r f + (held (goals.sweep one q xs).parts.agenda f + total (λ x. f (i x)) (goals.sweep one q xs).left))
  sweeps i one h q [] r = End.Same (λ f. r f + (held q.agenda f + 0)) (λ f. r f + (held q.agenda f + 0)) (λ f. refl)
  sweeps i one h q (x ∷ more) r =
      let a = one q x in
      let b = goals.sweep one a.parts more in
      let first = h q x (λ f. r f + total (λ x. f (i x)) more) in
      let others = sweeps i one h a.parts more (λ f. r f + total (λ x. f (i x)) a.left) in
      end_then (λ f. r f + (held q.agenda f + (f (i x) + total (λ x. f (i x)) more)))
      (λ f. (r f + total (λ x. f (i x)) a.left) + (held a.parts.agenda f + total (λ x. f (i x)) more))
      (λ f. r f + (held b.parts.agenda f + total (λ x. f (i x)) (a.left ++ b.left)))
      (end_as _ _ (λ f. r f + (held q.agenda f + (f (i x) + total (λ x. f (i x)) more)))
      (λ f. (r f + total (λ x. f (i x)) a.left) + (held a.parts.agenda f + total (λ x. f (i x)) more)) (λ f. omega arith) (λ f. omega arith) first)
      (end_as _ _ (λ f. (r f + total (λ x. f (i x)) a.left) + (held a.parts.agenda f + total (λ x. f (i x)) more))
      (λ f. r f + (held b.parts.agenda f + total (λ x. f (i x)) (a.left ++ b.left))) (λ f. omega arith)
      (λ f. let e = total_append (λ x. f (i x)) a.left b.left in omega arith) others)

  -- the three lists, one after another
  module _ (w : Way) (p : Circumstance) where
    abbrev one_running : Circumstance → List Means → Swept (List Means)
    one_running q s = goals.in_place k w g q s (from_lowest g s)

    abbrev one_event : Circumstance → Event → Swept Event
    one_event q e = goals.taken_out k w g q e (from_lowest g e.stack)

    abbrev one_ask : Circumstance → Ask → Swept Ask
    one_ask q a = goals.taken_out k w g q a (from_lowest g a.stack)

    sweep_keeps : {A S : Type 0} (get : Agenda → A) (one : Circumstance → S → Swept S) → ((q : Circumstance) (x : S) → get (one q x).parts.agenda ≡ get q.agenda)
        → (q : Circumstance) (xs : List S) → get (goals.sweep one q xs).parts.agenda ≡ get q.agenda
    sweep_keeps get one h q [] = refl
    sweep_keeps get one h q (x ∷ more) = let a = one q x in sweep_keeps get one h a.parts more ∙ h q x

    in_place_keeps : (q : Circumstance) (s : List Means) (o : Option (List Means)) → (goals.in_place k w g q s o).parts.agenda.running ≡ q.agenda.running
    in_place_keeps q s None = refl
    in_place_keeps q s (Some cut) = treated_keeps k (λ a. a.running) (λ a v. refl) w q cut

    taken_out_keeps : (q : Circumstance) (x : Ask) (o : Option (List Means)) → (goals.taken_out k w g q x o).parts.agenda.asks ≡ q.agenda.asks
    taken_out_keeps q x None = refl
    taken_out_keeps q x (Some cut) = treated_keeps k (λ a. a.asks) (λ a v. refl) w q cut

    running_swept : End k.plans named (held p.agenda) (held (goals.running_swept k w g p).agenda)
    running_swept =
        let q = goals.with_running p [] in
        let s = goals.sweep one_running q p.agenda.running in
        let none : s.parts.agenda.running ≡ [] =
        sweep_keeps (λ a. a.running) one_running (λ r x. in_place_keeps r x (from_lowest g x)) q p.agenda.running in
        end_as _ _ (held p.agenda) (held (goals.running_swept k w g p).agenda) (λ f. omega arith)
        (λ f. let e = ap (total (λ x. f (Intention.Runs x))) none in omega arith)
        (sweeps (λ t. Intention.Runs t) one_running (λ r x. in_place w r x (from_lowest g x) refl) q p.agenda.running (λ f. 0))

    events_swept : End k.plans named (held p.agenda) (held (goals.events_swept k w g p).agenda)
    events_swept =
        let q = goals.with_events p [] in
        let s = goals.sweep one_event q p.agenda.events in
        end_as _ _ (held p.agenda) (held (goals.events_swept k w g p).agenda) (λ f. omega arith)
        (λ f. let e = total_append (λ v. f (Intention.Waits v)) s.left s.parts.agenda.events in omega arith)
        (sweeps (λ v. Intention.Waits v) one_event (λ r x. taken_out (λ v. Intention.Waits v) w r x (from_lowest g x.stack) refl) q p.agenda.events (λ f. 0))

    asks_swept : End k.plans named (held p.agenda) (held (goals.asks_swept k w g p).agenda)
    asks_swept =
        let q = goals.with_asks p [] in
        let s = goals.sweep one_ask q p.agenda.asks in
        let none : s.parts.agenda.asks ≡ [] =
        sweep_keeps (λ a. a.asks) one_ask (λ r x. taken_out_keeps r x (from_lowest g x.stack)) q p.agenda.asks in
        end_as _ _ (held p.agenda) (held (goals.asks_swept k w g p).agenda) (λ f. omega arith)
        (λ f. let e = ap (total (λ x. f (Intention.Asks x))) none in omega arith)
        (sweeps (λ a. Intention.Asks a) one_ask (λ r x. taken_out (λ a. Intention.Asks a) w r x (from_lowest g x.stack) refl) q p.agenda.asks (λ f. 0))

  all_swept : (w : Way) (p : Circumstance) → End k.plans named (held p.agenda) (held (goals.all_swept k w g p).agenda)
  all_swept w p =
      let a = goals.running_swept k w g p in
      let b = goals.events_swept k w g a in
      let c = goals.asks_swept k w g b in
      end_then (held p.agenda) (held a.agenda) (held c.agenda) (running_swept w p)
      (end_then (held a.agenda) (held b.agenda) (held c.agenda) (events_swept w a) (asks_swept w b))

-- ---- the actions

-- what the action did to the current stack s, where some of the others have ended and these are left
abbrev pub Does : Surroundings → List Means → Heap → Did → Acted → Type 0
Does k s left d (acted.Failed e) = ((f : Intention → ℕ) → held d.parts.agenda f ≡ left f) × (d.cur ≡ s)
Does k s left d (acted.Asked m) = Becomes (Executed k.plans s) left (held d.parts.agenda)
Does k s left d (acted.Gone fs) = Becomes (Executed k.plans s) left (held d.parts.agenda)
Does k s left d (acted.Ok fs) = Onward k s d.cur left (held d.parts.agenda)
Does k s left d (acted.Sent ms) = Onward k s d.cur left (held d.parts.agenda)
Does k s left d acted.Stop = Onward k s d.cur left (held d.parts.agenda)

pub record Deeds (k : Surroundings) (s : List Means) (p : Circumstance) (d : Did) : Type 0 where
  pub left : Heap
  pub ended : End k.plans (dropped_by_head (head s)) (held p.agenda) left
  pub does : Does k s left d d.acted

module _ (k : Surroundings) (asks : ℕ) (p : Circumstance) (s : List Means) where
  abbrev Named : Option (LiteralOf Term)
  Named = dropped_by_head (head s)

  abbrev Did_it : Did → Type 0
  Did_it d = Deeds k s p d

  alone : (d : Did) → Does k s (held p.agenda) d d.acted → Did_it d
  alone d h = record { left = held p.agenda; ended = End.Same (held p.agenda) (held p.agenda) (λ f. refl); does = h }

  refuses : (e : Why) → Did_it (spec.refused k asks p s e)
  refuses e = alone (spec.refused k asks p s e) ((λ f. refl), refl)

  -- the head is done
  on : (bind : Option (List Pair)) (begun : List Trigger) (left after : Heap) → ((f : Intention → ℕ) → after f ≡ left f + begin f begun)
      → Onward k s (without_head (bound_by bind s)) left after
  on bind begun left after e = record { begun = begun; sums = e; fate = λ n x h. Executed.Done n bind x h }

  just : (a : Heap) (f : Intention → ℕ) → a f ≡ a f + begin f []
  just a f = omega arith

  drops : (g : LiteralOf Term) (a : Agenda) (b : Bool) → has_goal g s ≡ b → Named ≡ Some g → End k.plans Named (held p.agenda) (held a)
      → Did_it (spec.dropped k asks p s a b)
  drops g a true has is h = record {
    left = held a;
    ended = h;
    does = becomes (Executed k.plans s) None (held a) (held a) (Executed.Drops g is has) (λ f. omega arith);
  }
  drops g a false has is h = record { left = held a; ended = h; does = on None [] (held a) (held a) (just (held a)) }

  looks : (o : Option (List Pair)) → Did_it (spec.matched k asks p s o)
  looks None = refuses why.NoMatch
  looks (Some b) = alone (spec.matched k asks p s (Some b)) (on (Some b) [] (held p.agenda) (held p.agenda) (just (held p.agenda)))

  current : (w : Way) (g : LiteralOf Term) (q : Circumstance) (fs : List Fall) (o : Option (List Means)) → from_lowest g s ≡ o → Named ≡ Some g
      → End k.plans Named (held p.agenda) (held q.agenda) → Did_it (spec.current k asks p s w q fs o)
  current w g q fs None from is h = record { left = held q.agenda; ended = h; does = on None [] (held q.agenda) (held q.agenda) (just (held q.agenda)) }
  current w g q fs (Some cut) from is h =
      treat k Named g is (λ x. Did_it (spec.current_left k asks p s x.parts x.cur (fs ++ goals.falls_of x.went))) w q s cut from
      (λ r v x c e. record { left = held q.agenda; ended = h; does = becomes (Executed k.plans s) x (held q.agenda) (held r.agenda) (Executed.Cuts x c) e })
      (λ m t v c. record {
        left = held q.agenda;
        ended = h;
        does = record { begun = []; sums = just (held q.agenda); fate = λ n x l. Executed.Goes n (m ∷ t) x c l };
      })

  ends : (w : Way) (g : LiteralOf Term) → Named ≡ Some g → Did_it (spec.ended k asks p s w g)
  ends w g is =
      let q = goals.all_swept k w g p in
      current w g q (goals.all_falls k w g p) (from_lowest g s) refl is (all_swept k Named g is w p)

  abolishes : (c : Changed) → Did_it (spec.changed k asks p s c)
  abolishes c = alone (spec.changed k asks p s c) (on None c.events (held p.agenda) (held (told p.agenda c.events)) (λ f. told_held f p.agenda c.events))

  asks_it : (me : ℕ) (l : Letter) (a : Term) → Did_it (spec.asked k asks p s me l a)
  asks_it me l a =
      let x : Ask = record { number = asks; answer = a; stack = s } in
      let d = spec.asked k asks p s me l a in
      alone d (becomes (Executed k.plans s) (Some (Intention.Asks x)) (held p.agenda) (held d.parts.agenda) (Executed.Asks asks a)
      (λ f. let e = total_append (λ y. f (Intention.Asks y)) p.agenda.asks (x ∷ []) in omega arith))

  sent : (ms : List Message) → Did_it (spec.sent k asks p s ms)
  sent ms = alone (spec.sent k asks p s ms) (on None [] (held p.agenda) (held p.agenda) (just (held p.agenda)))

  sends_asking : (me : ℕ) (l : Letter) (o : Option (ArgOf Expr)) → Did_it (spec.sent_asking k asks p s me l o)
  sends_asking me l None = sent _
  sends_asking me l (Some (arg.Plain a)) = pick Did_it (is_ask l.verb) (asks_it me l a) (refuses (why.Argument 3))
  sends_asking me l (Some (arg.Logic e)) = refuses (why.Argument 3)

  sends_letter : (me : ℕ) (args : List (ArgOf Expr)) (r : Result Letter Why) → Did_it (spec.sent_letter k asks p s me args r)
  sends_letter me args (Err e) = refuses e
  sends_letter me args (Ok l) = sends_asking me l (slice_get args 3)

  sends_all : (r : Result (List Message) Why) → Did_it (spec.sent_all k asks p s r)
  sends_all (Err e) = refuses e
  sends_all (Ok ms) = sent ms

  stops : Did_it (spec.stop k asks p s)
  stops = alone (spec.stop k asks p s) (on None [] (held p.agenda) (held p.agenda) (just (held p.agenda)))

  -- the first four name the goal that they drop or end
  about : (d : LiteralDeed) (g : LiteralOf Term) → Named ≡ cond (is_ending d) (Some g) None → Did_it (spec.about k asks p s d g)
  about literal_deed.DropIntention g is = drops g (without_intentions g p.agenda) (has_goal g s) refl is (intentions_end k.plans Named g is p.agenda)
  about literal_deed.DropDesire g is = drops g (without_desires g p.agenda) (has_goal g s) refl is (desires_end k.plans Named g is p.agenda)
  about literal_deed.SucceedGoal g is = ends way.Succeed g is
  about literal_deed.FailGoal g is = ends way.Fail g is
  about literal_deed.Intend g is = looks (goals.first_goal false g p.agenda s)
  about literal_deed.Desire g is = looks (goals.first_goal true g p.agenda s)
  about literal_deed.Abolish g is = abolishes (abolished g p.beliefs)

  about_literal : (d : LiteralDeed) (o : Option (LiteralOf Term)) → Named ≡ cond (is_ending d) o None → Did_it (spec.about_literal k asks p s d o)
  about_literal d None is = refuses (why.Argument 0)
  about_literal d (Some g) is = about d g is

  about_term : (d : LiteralDeed) (o : Option Term) → Named ≡ cond (is_ending d) (goal_of o) None → Did_it (spec.about_term k asks p s d o)
  about_term d None is = refuses (why.Argument 0)
  about_term d (Some t) is = about_literal d (literal_of t) is

  acts_by : (peers : Peers) (args : List (ArgOf Expr)) (o : Option Action) → Named ≡ cond (ends_goals o) (goal_of (term_at args 0)) None
      → Did_it (spec.act_by k asks p s peers args o)
  acts_by peers args (Some (action.Does (deed.OnLiteral d))) is = about_term d (term_at args 0) is
  acts_by peers args (Some (action.Does deed.Send)) is = sends_letter peers.me args (letter peers.names args)
  acts_by peers args (Some (action.Does deed.Broadcast)) is = sends_all (spread peers args)
  acts_by peers args (Some (action.Does deed.StopMas)) is = stops
  acts_by peers args other is = refuses (why.Argument 0)

  acts : (peers : Peers) (c : CallOf Expr) → Named ≡ dropped_by_call c → Did_it (spec.act k asks p s peers c)
  acts peers c is = acts_by peers c.args (actions.named c.name) is

pub deeds : (k : Surroundings) (peers : Peers) (asks : ℕ) (p : Circumstance) (s : List Means) (c : CallOf Expr) → dropped_by_head (head s) ≡ dropped_by_call c
    → Deeds k s p (spec.act_inside k peers asks p s c)
unfolding spec.act_inside
deeds k peers asks p s c is = acts k asks p s peers c is
