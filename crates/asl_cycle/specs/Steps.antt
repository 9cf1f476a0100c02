-- The steps of a cycle. Each is a table: its rows are asked from above, and the first whose condition holds applies.
use Rattle.std.specs.Prelude.{ℕ, ◌≡◌, ◌+◌, ◌-◌, Bool, true, false, List, [], ◌∷◌, ◌++◌, map, replicate, Option, None, Some, option_to_list}
use Rattle.std.specs.List.{flat_map}
use Rattle.asl_term.specs.declared.syntax.LiteralOf.{LiteralOf}
use Rattle.asl_term.specs.declared.syntax.Term.{Term}
use Rattle.asl_term.specs.declared.syntax.Kind.{Kind}
use Rattle.asl_term.specs.declared.syntax.Kind.TheVariants as kind
use Rattle.asl_term.specs.declared.syntax.Trigger.{Trigger}
use Rattle.asl_beliefs.specs.Changes.{Changed, updated}
use Rattle.asl_plans.specs.declared.library.Choice.{Choice}
use Rattle.asl_plans.specs.declared.entry.OwnedPlan.{OwnedPlan}
use Rattle.asl_plans.specs.Plans.{relevant}
use Rattle.asl_intend.specs.declared.entry.Means.{Means}
use Rattle.asl_intend.specs.declared.agenda.Error.{Error}
use Rattle.asl_intend.specs.declared.agenda.Error.TheVariants as error
use Rattle.asl_intend.specs.declared.agenda.Event.{Event}
use Rattle.asl_intend.specs.declared.agenda.Acting.{Acting}
use Rattle.asl_intend.specs.Stacks.{without_head}
use Rattle.asl_intend.specs.Means.{applied_means}
use Rattle.asl_fail.specs.declared.fail.Fell.{Fell}
use Rattle.asl_fail.specs.declared.fail.Fell.TheVariants.{Raised, Dropped}
use Rattle.asl_fail.specs.Fails.{fails}
use Rattle.asl_exec_circumstance.specs.declared.rows.Row.{Row}
use Rattle.asl_exec_circumstance.specs.declared.rows.Fall.{Fall}
use Rattle.asl_exec_circumstance.specs.declared.rows.Row.TheVariants as row
use Rattle.asl_exec_circumstance.specs.declared.went.Went.{Went}
use Rattle.asl_exec_circumstance.specs.declared.went.Went.TheVariants as went
use Rattle.asl_exec_circumstance.specs.Circumstance.{Surroundings, Circumstance, Made, with_agenda, with_number, running, believing, failed}
use Rattle.asl_exec.specs.Exec.{exec}
use Rattle.asl_exec.specs.Clear.{clear}
use Rattle.mas_mind.specs.declared.mind.Message.{Message}
use Rattle.mas_mind.specs.declared.mind.Feedback.{Feedback}
use Rattle.mas_mind.specs.declared.mind.Feedback.TheVariants as feedback
use Rattle.asl_exec_circumstance.specs.declared.peers.Peers.{Peers}
use Rattle.asl_kqml.specs.declared.took.Took.{Took}
use Rattle.asl_kqml.specs.declared.took.Took.TheVariants as took
use Rattle.asl_exec_circumstance.specs.Contents.{agent_name}
use Rattle.asl_kqml.specs.Receive.{Received, receive, learned}
use Rattle.asl_goals.specs.declared.acted.Acted.{Acted}
use Rattle.asl_goals.specs.declared.acted.Acted.TheVariants as acted
use Rattle.asl_goals.specs.Inside.{Did, act_inside}
use Rattle.asl_exec_choose.specs.declared.chosen.Chosen.{Chosen}
use Rattle.asl_exec_choose.specs.declared.chosen.Chosen.TheVariants as chosen
use Rattle.asl_exec_choose.specs.Choosing.{choose}
use Rattle.asl_cycle.specs.declared.rows.Mail.{Mail}
use Rattle.asl_cycle.specs.declared.rows.TraceLine.{TraceLine}
use Rattle.asl_cycle.specs.declared.rows.TraceLine.TheVariants as line
use Rattle.asl_cycle.specs.declared.rows.Sofar.{Sofar}
use Rattle.asl_cycle.specs.declared.config.Related.{Related}
use Rattle.asl_cycle.specs.declared.config.Intended.{Intended}
use Rattle.asl_cycle.specs.declared.config.Applied.{Applied}
use Rattle.asl_cycle.specs.declared.config.Applied.TheVariants as applied
use Rattle.asl_cycle.specs.declared.config.After.{After}
use Rattle.asl_cycle.specs.declared.config.After.TheVariants as after

-- the row that a step makes: its change, its lines behind that of its own name, and what the next step is given
pub record Stepped (N : Type 0) : Type 0 where
  pub row : Row
  pub parts : Circumstance
  pub lines : List TraceLine
  pub next : N

abbrev pub by : {N : Type 0} → Row → Circumstance → List TraceLine → N → Stepped N
by r p lines next = record { row = r; parts = p; lines = lines; next = next }

-- the lines so far, and behind them that of a row's name and its others
abbrev pub written : {N : Type 0} → Sofar → Stepped N → Sofar
written s w = record s { lines = s.lines ++ line.Rule w.row ∷ w.lines }

-- what the code of a step leaves and answers
pub record Wrought {N : Type 0} (w : Stepped N) (p : Circumstance) (before after : Sofar) (next : N) : Type 0 where
  pub changed : p ≡ w.parts
  pub wrote : after ≡ written before w
  pub goes : next ≡ w.next

-- a step that may send messages: its change, what the cycle has written and asked for with it, and what the next step is given
pub record Moved (N : Type 0) : Type 0 where
  pub parts : Circumstance
  pub sofar : Sofar
  pub next : N

abbrev pub moved : {N : Type 0} → Circumstance → Sofar → N → Moved N
moved p s next = record { parts = p; sofar = s; next = next }

-- it sends none
abbrev pub writing : {N : Type 0} → Sofar → Stepped N → Moved N
writing s w = moved w.parts (written s w) w.next

-- ---- what fails

-- so many rows Fail2
abbrev pub pops : ℕ → List TraceLine
pops n = replicate n (line.Rule row.Fail2)

-- rule Fail1, Fail2, Fail3: the rows of a failure: Fail2 for each means that is popped, and then Fail1 or Fail3
abbrev pub fall_lines : Error → Fell → List TraceLine
fall_lines e (Raised n) = pops (n - 1) ++ line.Rule row.Fail1 ∷ []
fall_lines e (Dropped n) = pops n ++ line.Rule row.Fail3 ∷ line.Drops e ∷ []

-- those of several, one after another
abbrev pub falls_lines : List Fall → List TraceLine
falls_lines = flat_map (λ f. fall_lines f.error f.fell)

-- the stack of an event, under virtual means: those have the event's trigger, with nothing put into it, and no body
abbrev pub virtual : Event → List Means
virtual v = applied_means [] (record { trigger = v.trigger; body = [] }) ∷ v.stack

-- the event's own error, where it has one
abbrev pub error_of : Option Error → Error → Error
error_of (Some own) other = own
error_of None other = other

-- an event for which there is no plan: its stack fails
abbrev pub no_plan : {N : Type 0} → Surroundings → Row → Circumstance → Event → Error → N → Stepped N
no_plan k r p v other next =
    let e = error_of v.error other in
    let f = fails k.plans p.number e p.agenda (virtual v) in
    by r (with_agenda p f.agenda) (fall_lines e f.fell) next

-- an event of a belief is dropped
abbrev pub dropped_or_fails : {N : Type 0} → Surroundings → (ofBelief other : Row) → Circumstance → Event → Kind → Error → N → Stepped N
dropped_or_fails k b r p v kind.Belief e next = by b p [] next
dropped_or_fails k b r p v kind.Achieve e next = no_plan k r p v e next
dropped_or_fails k b r p v kind.Test e next = no_plan k r p v e next

-- ---- Percept

abbrev pub percept_row : List Trigger → Row
percept_row [] = row.Percept0
percept_row (e ∷ events) = row.Percept1

abbrev pub percept_on : Circumstance → Changed → Stepped (Unit {0})
percept_on p c = by (percept_row c.events) (believing p c.beliefs c.events) [] tt

-- rule Percept0, Percept1: the percepts change no belief, or some
abbrev pub percept : Circumstance → List (LiteralOf Term) → Stepped (Unit {0})
percept p percepts = percept_on p (updated percepts p.beliefs)

-- ---- Feed: what became of the action for which a stack waits, where that was told

-- no stack waits for an action
abbrev pub none_acting : Circumstance → Circumstance
none_acting p = with_agenda p (record p.agenda { acting = None })

-- rule FeedDone: the head of the stack is done, and the stack runs on
abbrev pub feed_done : Circumstance → Acting → Stepped (Unit {0})
feed_done p a = by row.FeedDone (running (none_acting p) (without_head a.stack)) (line.Done a.action ∷ []) tt

-- rule FeedFail: the stack fails
abbrev pub feed_fail : Surroundings → Circumstance → Acting → Stepped (Unit {0})
feed_fail k p a =
    let f = fails k.plans p.number error.ActionFailed (none_acting p).agenda a.stack in
    by row.FeedFail (with_agenda p f.agenda) (line.Failed a.action ∷ fall_lines error.ActionFailed f.fell) tt

abbrev pub fed : Surroundings → Circumstance → Feedback → Acting → Stepped (Unit {0})
fed k p feedback.Done a = feed_done p a
fed k p feedback.Failed a = feed_fail k p a

-- (feedback is told where a stack waits, and nowhere else)
abbrev pub feed_on : Surroundings → Circumstance → Feedback → Option Acting → Stepped (Unit {0})
feed_on k p f (Some a) = fed k p f a
feed_on k p f None = by row.Feed0 p [] tt

-- rule Feed0: no feedback was told; else FeedDone or FeedFail
abbrev pub feed : Surroundings → Circumstance → Option Feedback → Stepped (Unit {0})
feed k p None = by row.Feed0 p [] tt
feed k p (Some f) = feed_on k p f p.agenda.acting

-- ---- Msg: the row of a message, with its line and its reply

-- a message as a line tells it, with the name of the other agent
abbrev pub mail : Peers → ℕ → Message → Mail
mail peers other m = record { who = agent_name peers.names other; verb = m.verb; content = m.content }

abbrev pub sends_line : Peers → Message → TraceLine
sends_line peers m = line.Sends (mail peers m.to m)

-- (the content is shown as it came)
abbrev pub took_line : Peers → Message → TraceLine
took_line peers m = line.Took (mail peers m.from m)

-- rule AskSpent: whether the cycle goes on: AskSpent ends it
abbrev pub took_row : Peers → Sofar → Message → Circumstance → Took → Moved Bool
took_row peers s m p (took.Row r reply falls) =
    let lines = map (sends_line peers) (option_to_list reply) ++ falls_lines falls in
    moved p (record s { lines = s.lines ++ line.Rule r ∷ took_line peers m ∷ lines; messages = s.messages ++ option_to_list reply }) true
took_row peers s m p (took.Spent b) =
    moved p (record s { lines = s.lines ++ line.Rule row.AskSpent ∷ took_line peers m ∷ line.Spent b ∷ [] }) false

abbrev pub reads : Peers → Sofar → Message → Received → Moved Bool
reads peers s m r = took_row peers s m r.parts r.took

-- rule Msg0: there is no message; else the row of the message, with its lines and its reply
abbrev pub msg : Surroundings → Peers → Circumstance → Sofar → Option Message → Moved Bool
msg k peers p s None = writing s (by row.Msg0 p [] true)
msg k peers p s (Some m) = reads peers s m (receive k peers p m)

-- rule: the plans after a message, where there is one; no other step changes them
abbrev pub plans_after : List OwnedPlan → ℕ → Option Message → List OwnedPlan
plans_after lib n None = lib
plans_after lib n (Some m) = learned lib n m

-- what the rows behind a message look at: these plans, and all else as before
abbrev pub taught : Surroundings → ℕ → Option Message → Surroundings
taught k n message = record k { plans = plans_after k.plans n message }

-- ---- SelEv: the oldest event, where there is one

abbrev pub sel_ev_on : Circumstance → List Event → Stepped (Option Event)
sel_ev_on p (v ∷ events) = by row.SelEv1 (with_agenda p (record p.agenda { events = events })) [] (Some v)
sel_ev_on p [] = by row.SelEv2 p [] None

-- rule SelEv1, SelEv2: the oldest event is taken, or there is none
abbrev pub sel_ev : Circumstance → Stepped (Option Event)
sel_ev p = sel_ev_on p p.agenda.events

-- ---- RelPl: the event with its relevant plans, where there are any. These are renamed by the counter, which rises by one

-- the error of an event without a relevant plan
abbrev pub irrelevant : Bool → Kind → Error
irrelevant true kind.Test = error.TestFailed
irrelevant add other = error.NoRelevant

abbrev pub rel_pl_on : Surroundings → Circumstance → Event → List Choice → Stepped (Option Related)
rel_pl_on k p v (c ∷ choices) = by row.Rel1 (with_number p (p.number + 1)) [] (Some record { event = v; choices = c ∷ choices; number = p.number })
rel_pl_on k p v [] = dropped_or_fails k row.Rel2 row.Rel3 p v v.trigger.kind (irrelevant v.trigger.add v.trigger.kind) None

-- rule Rel1, Rel2, Rel3: some plan is relevant, and the counter rises; none is for an event of a belief, which is dropped; none is, and the
-- event's stack fails
abbrev pub rel_pl : Surroundings → Circumstance → Event → Stepped (Option Related)
rel_pl k p v = rel_pl_on k p v (relevant k.plans p.number v.trigger)

-- ---- ApplPl: the first plan whose context is found

abbrev pub appl_pl_on : Surroundings → Circumstance → Event → Chosen → Stepped Applied
appl_pl_on k p v (chosen.Plan m s n) = by row.Appl1 p [] (applied.Plan record { event = v; means = m; subst = s; next = n })
appl_pl_on k p v chosen.Nothing = dropped_or_fails k row.Appl2 row.Appl3 p v v.trigger.kind error.NoApplicable applied.Nothing
appl_pl_on k p v (chosen.Spent b) = by row.ApplSpent p (line.Spent b ∷ []) applied.Spent

-- rule Appl1, Appl2, Appl3, ApplSpent: a plan is chosen; none is for an event of a belief, which is dropped; none is, and the event's stack
-- fails; a context is spent
abbrev pub appl_pl : Surroundings → Circumstance → Related → Stepped Applied
appl_pl k p r = appl_pl_on k p r.event (choose k p r.number r.choices)

-- ---- SelAppl: that plan with its solution, whose next number the counter becomes

-- rule SelAppl: the counter becomes the next number of the solution
abbrev pub sel_appl : Circumstance → Intended → Stepped (Unit {0})
sel_appl p i = by row.SelAppl (with_number p i.next) [] tt

-- ---- AddIM: the means of an external event are a stack of their own, others go on top of the event's

abbrev pub add_im_row : List Means → Row
add_im_row [] = row.ExtEv
add_im_row (m ∷ below) = row.IntEv

-- rule ExtEv, IntEv: the means are a new stack, or stand on top of the event's own; only the chosen means have the solution applied
abbrev pub add_im : Circumstance → Intended → Stepped (Unit {0})
add_im p i = by (add_im_row i.event.stack) (running p (applied_means i.subst i.means ∷ i.event.stack)) [] tt

-- ---- SelInt: the first of the stacks that run, where there is one

abbrev pub sel_int_on : Circumstance → List (List Means) → Stepped (Option (List Means))
sel_int_on p (s ∷ stacks) = by row.SelInt1 (with_agenda p (record p.agenda { running = stacks })) [] (Some s)
sel_int_on p [] = by row.SelInt2 p [] None

-- rule SelInt1, SelInt2: the first stack that runs is taken, or none runs, and the cycle ends
abbrev pub sel_int : Circumstance → Stepped (Option (List Means))
sel_int p = sel_int_on p p.agenda.running

-- ---- Exec and Clr: the row of an answer, its lines, and where it leads

abbrev pub row_of : Went → Row
row_of (went.Row r) = r
row_of (went.Say text) = row.IaOk
row_of (went.Action l) = row.Action
row_of (went.Outer c) = row.IaOk
row_of (went.Failed r fall) = r
row_of (went.Spent r b) = r

abbrev pub lines_of : Went → List TraceLine
lines_of (went.Row r) = []
lines_of (went.Say text) = line.Say text ∷ []
lines_of (went.Action l) = line.Does l ∷ []
lines_of (went.Outer c) = []
lines_of (went.Failed r fall) = fall_lines fall.error fall.fell
lines_of (went.Spent r b) = line.Spent b ∷ []

-- rule: the rows that lead to Clr, and the others, which end the cycle
abbrev pub after_row : Row → After
after_row row.Exec0 = after.Clears
after_row row.AchvNew = after.Clears
after_row row.TestGl1 = after.Clears
after_row row.AddBel = after.Clears
after_row row.DelBel = after.Clears
after_row row.RepBel = after.Clears
after_row row.RelYes = after.Clears
after_row row.IaOk = after.Clears
after_row row.ClrInt2 = after.Clears
after_row other = after.Ends

-- whether a row hands an action on
abbrev pub acts : After → Bool
acts (after.Acts l) = true
acts other = false

abbrev pub after_of : Went → After
after_of (went.Row r) = after_row r
after_of (went.Say text) = after.Clears
after_of (went.Action l) = after.Acts l
after_of (went.Outer c) = after.Ends
after_of (went.Failed r fall) = after.Ends
after_of (went.Spent r b) = after.Spends

-- the current stack, and where a row leads
pub record Onward : Type 0 where
  pub cur : List Means
  pub after : After

abbrev pub onward : List Means → After → Onward
onward cur a = record { cur = cur; after = a }

abbrev pub of_made : Made → Stepped Onward
of_made x = by (row_of x.went) x.parts (lines_of x.went) (onward x.cur (after_of x.went))

-- rule IaFail, AskOut, IaGone, IaOk: the row of an internal action on goals, beliefs or other agents, by what it did
abbrev pub of_acted : Surroundings → Peers → Sofar → Did → Acted → Moved Onward
of_acted k peers s d (acted.Failed e) = writing s (of_made (failed k row.IaFail error.IaFailed d.parts d.cur))
of_acted k peers s d (acted.Asked m) =
    let t = record s { lines = s.lines ++ line.Rule row.AskOut ∷ sends_line peers m ∷ []; messages = s.messages ++ m ∷ [] } in
    moved d.parts t (onward d.cur after.Ends)
of_acted k peers s d (acted.Gone falls) = writing s (by row.IaGone d.parts (falls_lines falls) (onward d.cur after.Ends))
of_acted k peers s d (acted.Ok falls) = writing s (by row.IaOk d.parts (falls_lines falls) (onward d.cur after.Clears))
of_acted k peers s d (acted.Sent messages) =
    let t = record s { lines = s.lines ++ line.Rule row.IaOk ∷ map (sends_line peers) messages; messages = s.messages ++ messages } in
    moved d.parts t (onward d.cur after.Clears)
of_acted k peers s d acted.Stop =
    let t = record s { lines = s.lines ++ line.Rule row.IaOk ∷ line.Stops ∷ []; stop = true } in
    moved d.parts t (onward d.cur after.Clears)

abbrev pub deed : Surroundings → Peers → Sofar → Did → Moved Onward
deed k peers s d = of_acted k peers (record s { asks = d.asks }) d d.acted

abbrev pub exec_by : Surroundings → Peers → Sofar → Made → Went → Moved Onward
exec_by k peers s x (went.Outer c) = deed k peers s (act_inside k peers s.asks x.parts x.cur c)
exec_by k peers s x other = writing s (of_made x)

abbrev pub exec_step : Surroundings → Peers → Circumstance → Sofar → List Means → Moved Onward
exec_step k peers p s cur = let x = exec k p cur in exec_by k peers s x x.went

abbrev pub clear_step : Surroundings → Circumstance → List Means → Stepped Onward
clear_step k p cur = of_made (clear k p cur)
