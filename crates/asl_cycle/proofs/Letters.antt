-- What a message leaves of the stacks that run. The one that waits for its action stays.
use Rattle.std.proofs.Common.{◌≡◌, ℕ, ◌+◌, Bool, true, false, cond, eqb, List, [], ◌∷◌, Option, None, Some, refl}
use Rattle.asl_term.specs.declared.syntax.LiteralOf.{LiteralOf}
use Rattle.asl_term.specs.declared.syntax.Term.{Term}
use Rattle.asl_unify.specs.declared.subst.Pair.{Pair}
use Rattle.asl_unify.specs.Compare.{ask}
use Rattle.asl_unify.specs.Matches.{agreed}
use Rattle.asl_unify.specs.Renamed.{renamed}
use Rattle.asl_unify.specs.Unified.{unified}
use Rattle.asl_resolve.specs.declared.answers.Answer.{Answer}
use Rattle.asl_resolve.specs.declared.answers.Answer.TheVariants as answer
use Rattle.asl_resolve.specs.declared.answers.Answers.{Answers}
use Rattle.asl_resolve.specs.declared.answers.Answers.TheVariants as answers
use Rattle.asl_term.specs.declared.syntax.Expr.TheVariants as expr
use Rattle.asl_intend.specs.declared.entry.Means.{Means}
use Rattle.asl_intend.specs.declared.agenda.Ask.{Ask}
use Rattle.asl_intend.specs.declared.agenda.Error.TheVariants as error
use Rattle.asl_intend.specs.Stacks.{bound, without_head}
use Rattle.asl_intend.specs.Agendas.{ask_of, without_ask}
use Rattle.asl_exec_circumstance.specs.Circumstance.{Surroundings, Circumstance, with_agenda, with_number}
use Rattle.asl_exec_circumstance.specs.Sought.{sought}
use Rattle.mas_mind.specs.declared.mind.Message.{Message}
use Rattle.mas_mind.specs.declared.mind.Verb.{Verb}
use Rattle.mas_mind.specs.declared.mind.Verb.TheVariants as verb
use Rattle.asl_exec_circumstance.specs.declared.peers.Peers.{Peers}
use Rattle.asl_exec_circumstance.specs.Contents.{agent_name, literal_of, literals_of, ground_literals}
use Rattle.asl_kqml.specs.Receive as spec
use Rattle.asl_kqml.specs.Receive.{Received}
use Rattle.asl_cycle.specs.Turns.{dropped_by_verb, dropped_by_message}
use Rattle.asl_cycle.specs.inner.Acting.{falls, falls_acting}
use Rattle.asl_cycle.proofs.Lefts.{without_left}
use Rattle.asl_cycle.proofs.Leaving.{Leaves, leaves_all, leaves_front, leaves_some}

record Reads (named : Option (LiteralOf Term)) (p : Circumstance) (r : Received) : Type 0 where
  leaves : Leaves named p.agenda.running r.parts.agenda.running
  acting : r.parts.agenda.acting ≡ p.agenda.acting

stays : {named : Option (LiteralOf Term)} (p : Circumstance) (r : Received) → r.parts.agenda.running ≡ p.agenda.running
    → r.parts.agenda.acting ≡ p.agenda.acting → Reads named p r
stays {named} p r e h = record { leaves = leaves_all named p.agenda.running r.parts.agenda.running e; acting = h }

tell : (name : List ℕ) (p : Circumstance) (o : Option (List (LiteralOf Term))) → Reads None p (spec.tell name p o)
tell name p None = stays p (spec.ignored p) refl refl
tell name p (Some ls) = stays p (spec.tell name p (Some ls)) refl refl

untell : (name : List ℕ) (p : Circumstance) (o : Option (List (LiteralOf Term))) → Reads None p (spec.untell name p o)
untell name p None = stays p (spec.ignored p) refl refl
untell name p (Some ls) = stays p (spec.untell name p (Some ls)) refl refl

achieve : (name : List ℕ) (p : Circumstance) (o : Option (LiteralOf Term)) → Reads None p (spec.achieve name p o)
achieve name p None = stays p (spec.ignored p) refl refl
achieve name p (Some g) = stays p (spec.achieve name p (Some g)) refl refl

-- the stacks with the goal go
unachieve : (p : Circumstance) (o : Option (LiteralOf Term)) → Reads o p (spec.unachieve p o)
unachieve p None = stays p (spec.ignored p) refl refl
unachieve p (Some g) = record {
  leaves = leaves_some (Some g) p.agenda.running (spec.unachieve p (Some g)).parts.agenda.running (without_left g p.agenda.running);
  acting = refl;
}

module _ (me : ℕ) (m : Message) (p : Circumstance) where
  ask_one : (g : LiteralOf Term) (a : Answer) → Reads None p (spec.ask_one me m p g a)
  ask_one g (answer.Spent b) = stays p (spec.ask_one me m p g (answer.Spent b)) refl refl
  ask_one g (answer.Found s n) = stays p (spec.ask_one me m p g (answer.Found s n)) refl refl
  ask_one g answer.Nothing = stays p (spec.ask_one me m p g answer.Nothing) refl refl
  ask_one g answer.Arith = stays p (spec.ask_one me m p g answer.Arith) refl refl
  ask_one g answer.TermLimit = stays p (spec.ask_one me m p g answer.TermLimit) refl refl

  ask_all : (g : LiteralOf Term) (a : Answers) → Reads None p (spec.ask_all me m p g a)
  ask_all g (answers.Spent b) = stays p (spec.ask_all me m p g (answers.Spent b)) refl refl
  ask_all g (answers.All found) = stays p (spec.ask_all me m p g (answers.All found)) refl refl
  ask_all g answers.Arith = stays p (spec.ask_all me m p g answers.Arith) refl refl
  ask_all g answers.TermLimit = stays p (spec.ask_all me m p g answers.TermLimit) refl refl

  asks_one : (k : Surroundings) (o : Option (LiteralOf Term)) → Reads None p (spec.asks_one k me m p o)
  asks_one k None = stays p (spec.ignored p) refl refl
  asks_one k (Some g) = ask_one g (sought k p (expr.Holds g))

  asks_all : (k : Surroundings) (o : Option (LiteralOf Term)) → Reads None p (spec.asks_all k me m p o)
  asks_all k None = stays p (spec.ignored p) refl refl
  asks_all k (Some g) = ask_all g (spec.sought_all k p g)

  asks_how : (k : Surroundings) (o : Option (LiteralOf Term)) → Reads None p (spec.asks_how k me m p o)
  asks_how k None = stays p (spec.ignored p) refl refl
  asks_how k (Some g) = stays p (spec.asks_how k me m p (Some g)) refl refl

module _ (k : Surroundings) where
  -- the stack that waited for the answer goes to the back, or fails
  answered : (p : Circumstance) (stack : List Means) (o : Option (List Pair)) → Reads None p (spec.answered k p stack o)
  answered p stack None =
      stays p (spec.answered k p stack None) (falls k p.number error.IaFailed p.agenda stack) (falls_acting k.plans p.number error.IaFailed p.agenda stack)
  answered p stack (Some s) = record {
    leaves = leaves_front None p.agenda.running (spec.answered k p stack (Some s)).parts.agenda.running (without_head (bound s stack) ∷ []) refl;
    acting = refl;
  }

  answers_ask : (p : Circumstance) (n : ℕ) (content : Term) (o : Option Ask) → Reads None p (spec.answers_ask k p n content o)
  answers_ask p n content None = stays p (spec.ignored p) refl refl
  answers_ask p n content (Some a) =
      let q = with_agenda p (record p.agenda { asks = without_ask n p.agenda.asks }) in
      let h = answered q a.stack (agreed (unified [] (ask a.answer content ∷ []))) in
      record { leaves = h.leaves; acting = h.acting }

  tells : (name : List ℕ) (p : Circumstance) (m : Message) (content : Term) (b : Bool)
      → Reads None p (cond b (spec.tell name p (ground_literals content)) (spec.answers_ask k p m.reply content (ask_of m.reply p.agenda.asks)))
  tells name p m content true = tell name p (ground_literals content)
  tells name p m content false = answers_ask p m.reply content (ask_of m.reply p.agenda.asks)

  verbs : (me : ℕ) (name : List ℕ) (p : Circumstance) (m : Message) (content : Term) (v : Verb)
      → Reads (dropped_by_verb v (literal_of content)) p (spec.of_verb k me name p m content v)
  verbs me name p m content verb.Tell = tells name p m content (eqb m.reply 0)
  verbs me name p m content verb.Untell = untell name p (literals_of content)
  verbs me name p m content verb.Achieve = achieve name p (literal_of content)
  verbs me name p m content verb.Unachieve = unachieve p (literal_of content)
  verbs me name p m content verb.AskOne = asks_one me m p k (literal_of content)
  verbs me name p m content verb.AskAll = asks_all me m p k (literal_of content)
  verbs me name p m content verb.TellHow = stays p (spec.by (spec.learns k.plans m.from content verb.TellHow).row p) refl refl
  verbs me name p m content verb.UntellHow = stays p (spec.by (spec.learns k.plans m.from content verb.UntellHow).row p) refl refl
  verbs me name p m content verb.AskHow = asks_how me m p k (literal_of content)

  reads : (peers : Peers) (p : Circumstance) (m : Message) → Reads (dropped_by_message p.number (Some m)) p (spec.receive k peers p m)
  unfolding spec.receive
  reads peers p m =
      let q = with_number p (p.number + 1) in
      let h = verbs peers.me (agent_name peers.names m.from) q m (renamed p.number m.content) m.verb in
      record { leaves = h.leaves; acting = h.acting }

  pub reads_leave : (peers : Peers) (p : Circumstance) (m : Message)
      → Leaves (dropped_by_message p.number (Some m)) p.agenda.running (spec.receive k peers p m).parts.agenda.running
  reads_leave peers p m = (reads peers p m).leaves

  pub reads_acting : (peers : Peers) (p : Circumstance) (m : Message) → (spec.receive k peers p m).parts.agenda.acting ≡ p.agenda.acting
  reads_acting peers p m = (reads peers p m).acting
