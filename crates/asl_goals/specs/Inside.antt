-- What the internal actions of bodies do: those on goals, on beliefs and on other agents.
use Rattle.std.specs.Prelude.{ℕ, ◌+◌, Bool, true, false, cond, List, [], ◌∷◌, ◌++◌, slice_get, Option, None, Some, Result, Ok, Err}
use Rattle.asl_term.specs.declared.syntax.ArgOf.{ArgOf}
use Rattle.asl_term.specs.declared.syntax.ArgOf.TheVariants as arg
use Rattle.asl_term.specs.declared.syntax.CallOf.{CallOf}
use Rattle.asl_term.specs.declared.syntax.Expr.{Expr}
use Rattle.asl_term.specs.declared.syntax.LiteralOf.{LiteralOf}
use Rattle.asl_term.specs.declared.syntax.Term.{Term}
use Rattle.asl_term_actions.specs.declared.action.Action.{Action}
use Rattle.asl_term_actions.specs.declared.action.Action.TheVariants as action
use Rattle.asl_term_actions.specs.declared.action.Deed.{Deed}
use Rattle.asl_term_actions.specs.declared.action.Deed.TheVariants as deed
use Rattle.asl_term_actions.specs.declared.action.LiteralDeed.{LiteralDeed}
use Rattle.asl_term_actions.specs.declared.action.LiteralDeed.TheVariants as literal_deed
use Rattle.asl_term_actions.specs.Actions.{named}
use Rattle.asl_unify.specs.declared.subst.Pair.{Pair}
use Rattle.asl_beliefs.specs.Changes.{Changed, abolished}
use Rattle.asl_intend.specs.declared.entry.Means.{Means}
use Rattle.asl_intend.specs.declared.agenda.Agenda.{Agenda}
use Rattle.asl_intend.specs.Agendas.{without_intentions, without_desires}
use Rattle.asl_intend.specs.Stacks.{bound, has_goal, without_head}
use Rattle.asl_exec_circumstance.specs.declared.rows.Fall.{Fall}
use Rattle.asl_exec_circumstance.specs.Circumstance.{Surroundings, Circumstance, with_agenda, believing}
use Rattle.mas_mind.specs.declared.mind.Message.{Message}
use Rattle.asl_exec_circumstance.specs.declared.peers.Peers.{Peers}
use Rattle.asl_exec_circumstance.specs.Contents.{literal_of}
use Rattle.asl_goals.specs.declared.acted.Acted.{Acted}
use Rattle.asl_goals.specs.declared.acted.Acted.TheVariants as acted
use Rattle.asl_goals.specs.declared.acted.Why.{Why}
use Rattle.asl_goals.specs.declared.acted.Why.TheVariants as why
use Rattle.asl_goals.specs.declared.letter.Letter.{Letter}
use Rattle.asl_goals.specs.declared.sweep.Way.{Way}
use Rattle.asl_goals.specs.declared.sweep.Way.TheVariants as way
use Rattle.asl_goals.specs.Goals.{first_goal, from_lowest, treated, falls_of, all_swept, all_falls}
use Rattle.asl_goals.specs.Sending.{term_at, letter, posted, is_ask, spread}

-- what an action leaves, the number of the next ask among it, and what it did
pub record Did : Type 0 where
  pub parts : Circumstance
  pub asks : ℕ
  pub cur : List Means
  pub acted : Acted

abbrev pub did : Circumstance → ℕ → List Means → Acted → Did
did p asks cur a = record { parts = p; asks = asks; cur = cur; acted = a }

module _ (k : Surroundings) (asks : ℕ) (p : Circumstance) (cur : List Means) where
  -- nothing is changed
  abbrev pub refused : Why → Did
  refused e = did p asks cur (acted.Failed e)

  -- it is done, and the head is removed
  abbrev pub done : Circumstance → Did
  done q = did q asks (without_head cur) (acted.Ok [])

  -- ---- `.drop_intention` and `.drop_desire`: the current stack goes too where it has the goal

  abbrev pub dropped : Agenda → Bool → Did
  dropped a true = did (with_agenda p a) asks [] (acted.Gone [])
  dropped a false = done (with_agenda p a)

  -- rule .drop_intention: the stacks that have the goal go; so does the current one
  abbrev pub drop_intention : LiteralOf Term → Did
  drop_intention g = dropped (without_intentions g p.agenda) (has_goal g cur)

  -- rule .drop_desire: such events and stacks go; so does the current one that has the goal
  abbrev pub drop_desire : LiteralOf Term → Did
  drop_desire g = dropped (without_desires g p.agenda) (has_goal g cur)

  -- ---- `.intend` and `.desire`: the substitution of the first match is applied

  abbrev pub matched : Option (List Pair) → Did
  matched None = refused why.NoMatch
  matched (Some s) = did p asks (without_head (bound s cur)) (acted.Ok [])

  -- rule .intend, .desire: the substitution of the first match is applied to the current stack; refused where there is none
  abbrev pub looked_up : Bool → LiteralOf Term → Did
  looked_up desired g = matched (first_goal desired g p.agenda cur)

  -- ---- `.succeed_goal` and `.fail_goal`: the current stack after all others

  -- what is left of it goes on to Clr; its head was popped
  abbrev pub current_left : Circumstance → List Means → List Fall → Did
  current_left q [] falls = did q asks [] (acted.Gone falls)
  current_left q (m ∷ below) falls = did q asks (m ∷ below) (acted.Ok falls)

  abbrev pub current : Way → Circumstance → List Fall → Option (List Means) → Did
  current w q falls None = did q asks (without_head cur) (acted.Ok falls)
  current w q falls (Some cut) = let x = treated k w q cut in current_left x.parts x.cur (falls ++ falls_of x.went)

  -- rule .succeed_goal, .fail_goal: one fold over the stacks, the current one after all others
  abbrev pub ended : Way → LiteralOf Term → Did
  ended w g = current w (all_swept k w g p) (all_falls k w g p) (from_lowest g cur)

  -- ---- `.abolish`

  abbrev pub changed : Changed → Did
  changed c = done (believing p c.beliefs c.events)

  -- rule .abolish: the beliefs that match go, with their events
  abbrev pub abolish : LiteralOf Term → Did
  abolish g = changed (abolished g p.beliefs)

  -- ---- `.send`, `.broadcast` and `.stopMAS`

  abbrev pub sent : List Message → Did
  sent messages = did p asks (without_head cur) (acted.Sent messages)

  -- rule: an ask with a fourth argument: the current stack waits for the answer, its head stays, and the number of the next ask rises
  abbrev pub asked : ℕ → Letter → Term → Did
  asked me l a = did
      (with_agenda p (record p.agenda { asks = p.agenda.asks ++ record { number = asks; answer = a; stack = cur } ∷ [] }))
      (asks + 1) [] (acted.Asked (posted me asks l))

  abbrev pub sent_asking : ℕ → Letter → Option (ArgOf Expr) → Did
  sent_asking me l None = sent (posted me 0 l ∷ [])
  sent_asking me l (Some (arg.Plain a)) = cond (is_ask l.verb) (asked me l a) (refused (why.Argument 3))
  sent_asking me l (Some (arg.Logic e)) = refused (why.Argument 3)

  abbrev pub sent_letter : ℕ → List (ArgOf Expr) → Result Letter Why → Did
  sent_letter me args (Err e) = refused e
  sent_letter me args (Ok l) = sent_asking me l (slice_get args 3)

  -- rule .send: a letter, and the head is removed; with a fourth argument the verb has to ask
  abbrev pub send : Peers → List (ArgOf Expr) → Did
  send peers args = sent_letter peers.me args (letter peers.names args)

  abbrev pub sent_all : Result (List Message) Why → Did
  sent_all (Err e) = refused e
  sent_all (Ok messages) = sent messages

  -- rule .broadcast: the same letter to every other agent, and the head is removed
  abbrev pub broadcast : Peers → List (ArgOf Expr) → Did
  broadcast peers args = sent_all (spread peers args)

  -- rule .stopMAS: the run is to stop, and the head is removed
  abbrev pub stop : Did
  stop = did p asks (without_head cur) acted.Stop

  -- ---- the deed of a name

  -- those about a literal
  abbrev pub about : LiteralDeed → LiteralOf Term → Did
  about literal_deed.DropIntention g = drop_intention g
  about literal_deed.DropDesire g = drop_desire g
  about literal_deed.SucceedGoal g = ended way.Succeed g
  about literal_deed.FailGoal g = ended way.Fail g
  about literal_deed.Intend g = looked_up false g
  about literal_deed.Desire g = looked_up true g
  about literal_deed.Abolish g = abolish g

  abbrev pub about_literal : LiteralDeed → Option (LiteralOf Term) → Did
  about_literal d None = refused (why.Argument 0)
  about_literal d (Some g) = about d g

  abbrev pub about_term : LiteralDeed → Option Term → Did
  about_term d None = refused (why.Argument 0)
  about_term d (Some t) = about_literal d (literal_of t)

  abbrev pub deed_done : Peers → List (ArgOf Expr) → Deed → Did
  deed_done peers args (deed.OnLiteral d) = about_term d (term_at args 0)
  deed_done peers args deed.Send = send peers args
  deed_done peers args deed.Broadcast = broadcast peers args
  deed_done peers args deed.StopMas = stop

  -- (no other action comes here)
  abbrev pub act_by : Peers → List (ArgOf Expr) → Option Action → Did
  act_by peers args (Some (action.Does d)) = deed_done peers args d
  act_by peers args other = refused (why.Argument 0)

  abbrev pub act : Peers → CallOf Expr → Did
  act peers c = act_by peers c.args (named c.name)

-- (shut, so that proofs above do not look inside)
unfoldable pub act_inside : Surroundings → Peers → ℕ → Circumstance → List Means → CallOf Expr → Did
act_inside k peers asks p cur c = act k asks p cur peers c
