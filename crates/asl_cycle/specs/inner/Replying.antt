-- The reply to a message is from its receiver, and to its sender.
use Rattle.std.specs.Prelude.{ℕ, ◌+◌, Bool, true, false, ◌&&◌, cond, eqb, refl, List, [], ◌∷◌, length, Option, None, Some, IfSome}
use Rattle.asl_term.specs.declared.syntax.LiteralOf.{LiteralOf}
use Rattle.asl_term.specs.declared.syntax.Term.{Term}
use Rattle.asl_term.specs.declared.syntax.Expr.TheVariants as expr
use Rattle.asl_unify.specs.declared.subst.Pair.{Pair}
use Rattle.asl_unify.specs.Compare.{ask}
use Rattle.asl_unify.specs.Matches.{agreed}
use Rattle.asl_unify.specs.Renamed.{renamed}
use Rattle.asl_unify.specs.Sealed.{sealed}
use Rattle.asl_unify.specs.Unified.{unified}
use Rattle.asl_resolve.specs.declared.answers.Answer.{Answer}
use Rattle.asl_resolve.specs.declared.answers.Answer.TheVariants as answer
use Rattle.asl_resolve.specs.declared.answers.Answers.{Answers}
use Rattle.asl_resolve.specs.declared.answers.Answers.TheVariants as answers
use Rattle.asl_intend.specs.declared.entry.Means.{Means}
use Rattle.asl_intend.specs.declared.agenda.Ask.{Ask}
use Rattle.asl_intend.specs.Agendas.{ask_of, without_ask}
use Rattle.asl_exec_circumstance.specs.declared.rows.Row.{Row}
use Rattle.asl_exec_circumstance.specs.declared.rows.Row.TheVariants as row
use Rattle.asl_exec_circumstance.specs.Circumstance.{Surroundings, Circumstance, with_agenda, with_number}
use Rattle.asl_exec_circumstance.specs.Sought.{sought}
use Rattle.mas_mind.specs.declared.mind.Message.{Message}
use Rattle.mas_mind.specs.declared.mind.Verb.{Verb}
use Rattle.mas_mind.specs.declared.mind.Verb.TheVariants as verb
use Rattle.mas_mind.specs.Minds.{IsAgent, IsFrom}
use Rattle.asl_exec_circumstance.specs.declared.peers.Peers.{Peers}
use Rattle.asl_kqml.specs.declared.took.Took.{Took}
use Rattle.asl_kqml.specs.declared.took.Took.TheVariants as took
use Rattle.asl_exec_circumstance.specs.Contents.{agent_name, literal_of, literals_of, ground_literals}
use Rattle.asl_kqml.specs.Contents.{is_nothing}
use Rattle.asl_kqml.specs.Receive as spec
use Rattle.asl_kqml.specs.Receive.{Received}

-- what a row sends
abbrev pub IsReplyFrom : ℕ → ℕ → Took → Type 0
IsReplyFrom me n (took.Row r reply fs) = IfSome reply (IsFrom me n)
IsReplyFrom me n (took.Spent b) = Unit {0}

module _ (me n : ℕ) (m : Message) (sender : IsAgent n m.from) where
  abbrev Fit : Received → Type 0
  Fit r = IsReplyFrom me n r.took

  reply_by : (v : Verb) (b : Bool) (t : Term) → IfSome (cond b None
      (Some (record { from = me; to = m.from; verb = v; content = sealed t; ask = 0; reply = m.ask }))) (IsFrom me n)
  reply_by v true t = tt
  reply_by v false t = record { from_me = refl; receiver = sender }

  replies : (r : Row) (p : Circumstance) (t : Term) → Fit (spec.replies r p (spec.reply me m t))
  replies r p t = reply_by verb.Tell (eqb m.ask 0 && is_nothing t) t

  tell : (name : List ℕ) (p : Circumstance) (o : Option (List (LiteralOf Term))) → Fit (spec.tell name p o)
  tell name p None = tt
  tell name p (Some ls) = tt

  untell : (name : List ℕ) (p : Circumstance) (o : Option (List (LiteralOf Term))) → Fit (spec.untell name p o)
  untell name p None = tt
  untell name p (Some ls) = tt

  achieve : (name : List ℕ) (p : Circumstance) (o : Option (LiteralOf Term)) → Fit (spec.achieve name p o)
  achieve name p None = tt
  achieve name p (Some g) = tt

  unachieve : (p : Circumstance) (o : Option (LiteralOf Term)) → Fit (spec.unachieve p o)
  unachieve p None = tt
  unachieve p (Some g) = tt

  ask_one : (p : Circumstance) (g : LiteralOf Term) (a : Answer) → Fit (spec.ask_one me m p g a)
  ask_one p g (answer.Spent b) = tt
  ask_one p g (answer.Found s k) = replies row.AskOne p (spec.one_answer g (answer.Found s k))
  ask_one p g answer.Nothing = replies row.AskOne p (spec.one_answer g answer.Nothing)
  ask_one p g answer.Arith = replies row.AskOne p (spec.one_answer g answer.Arith)
  ask_one p g answer.TermLimit = replies row.AskOne p (spec.one_answer g answer.TermLimit)

  ask_all : (p : Circumstance) (g : LiteralOf Term) (a : Answers) → Fit (spec.ask_all me m p g a)
  ask_all p g (answers.Spent b) = tt
  ask_all p g (answers.All found) = replies row.AskAll p (spec.all_answer g (answers.All found))
  ask_all p g answers.Arith = replies row.AskAll p (spec.all_answer g answers.Arith)
  ask_all p g answers.TermLimit = replies row.AskAll p (spec.all_answer g answers.TermLimit)

  module _ (k : Surroundings) where
    asks_one : (p : Circumstance) (o : Option (LiteralOf Term)) → Fit (spec.asks_one k me m p o)
    asks_one p None = tt
    asks_one p (Some g) = ask_one p g (sought k p (expr.Holds g))

    asks_all : (p : Circumstance) (o : Option (LiteralOf Term)) → Fit (spec.asks_all k me m p o)
    asks_all p None = tt
    asks_all p (Some g) = ask_all p g (spec.sought_all k p g)

    asks_how : (p : Circumstance) (o : Option (LiteralOf Term)) → Fit (spec.asks_how k me m p o)
    asks_how p None = tt
    asks_how p (Some g) = let t = spec.how_answer k.plans p.number g in reply_by (spec.how_verb m) (eqb m.ask 0 && is_nothing t) t

    answered : (p : Circumstance) (stack : List Means) (o : Option (List Pair)) → Fit (spec.answered k p stack o)
    answered p stack None = tt
    answered p stack (Some s) = tt

    answers_ask : (p : Circumstance) (number : ℕ) (content : Term) (o : Option Ask) → Fit (spec.answers_ask k p number content o)
    answers_ask p number content None = tt
    answers_ask p number content (Some a) =
        answered (with_agenda p (record p.agenda { asks = without_ask number p.agenda.asks })) a.stack (agreed (unified [] (ask a.answer content ∷ [])))

    tells : (name : List ℕ) (p : Circumstance) (content : Term) (b : Bool)
        → Fit (cond b (spec.tell name p (ground_literals content)) (spec.answers_ask k p m.reply content (ask_of m.reply p.agenda.asks)))
    tells name p content true = tell name p (ground_literals content)
    tells name p content false = answers_ask p m.reply content (ask_of m.reply p.agenda.asks)

    verbs : (name : List ℕ) (p : Circumstance) (content : Term) (v : Verb) → Fit (spec.of_verb k me name p m content v)
    verbs name p content verb.Tell = tells name p content (eqb m.reply 0)
    verbs name p content verb.Untell = untell name p (literals_of content)
    verbs name p content verb.Achieve = achieve name p (literal_of content)
    verbs name p content verb.Unachieve = unachieve p (literal_of content)
    verbs name p content verb.AskOne = asks_one p (literal_of content)
    verbs name p content verb.AskAll = asks_all p (literal_of content)
    verbs name p content verb.TellHow = tt
    verbs name p content verb.UntellHow = tt
    verbs name p content verb.AskHow = asks_how p (literal_of content)

pub reply_fits : (k : Surroundings) (peers : Peers) (p : Circumstance) (m : Message) → IsAgent (length peers.names) m.from
    → IsReplyFrom peers.me (length peers.names) (spec.receive k peers p m).took
unfolding spec.receive
reply_fits k peers p m sender =
    verbs peers.me (length peers.names) m sender k (agent_name peers.names m.from) (with_number p (p.number + 1)) (renamed p.number m.content) m.verb
