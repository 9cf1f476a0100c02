-- What becomes of intentions by a message.
use Rattle.std.proofs.Common.{◌≡◌, ℕ, ◌+◌, Bool, true, false, cond, eqb, List, [], ◌∷◌, ◌++◌, Option, None, Some, refl, ap, subst, ◌∙◌, arith}
use Rattle.asl_term.specs.declared.syntax.Expr.TheVariants as expr
use Rattle.asl_term.specs.declared.syntax.Kind.TheVariants as kind
use Rattle.asl_term.specs.declared.syntax.LiteralOf.{LiteralOf}
use Rattle.asl_term.specs.declared.syntax.Term.{Term}
use Rattle.asl_term.specs.declared.syntax.Trigger.{Trigger}
use Rattle.asl_unify.specs.declared.subst.Pair.{Pair}
use Rattle.asl_unify.specs.Compare.{ask}
use Rattle.asl_unify.specs.Matches.{agreed}
use Rattle.asl_unify.specs.Renamed.{renamed}
use Rattle.asl_unify.specs.Unified.{unified}
use Rattle.asl_resolve.specs.declared.answers.Answer.{Answer}
use Rattle.asl_resolve.specs.declared.answers.Answer.TheVariants as answer
use Rattle.asl_resolve.specs.declared.answers.Answers.{Answers}
use Rattle.asl_resolve.specs.declared.answers.Answers.TheVariants as answers
use Rattle.asl_intend.specs.declared.agenda.Ask.{Ask}
use Rattle.asl_intend.specs.declared.agenda.Error.TheVariants as error
use Rattle.asl_intend.specs.Agendas.{ask_of, external_event, without_ask}
use Rattle.asl_intend.specs.Stacks.{bound, without_head}
use Rattle.asl_fail.specs.Fails.{posted}
use Rattle.asl_exec_circumstance.specs.Sought.{sought}
use Rattle.asl_exec_circumstance.specs.Circumstance.{Surroundings, Circumstance, with_agenda, with_number, told}
use Rattle.mas_mind.specs.declared.mind.Message.{Message}
use Rattle.mas_mind.specs.declared.mind.Verb.{Verb}
use Rattle.mas_mind.specs.declared.mind.Verb.TheVariants as verb
use Rattle.asl_exec_circumstance.specs.declared.peers.Peers.{Peers}
use Rattle.asl_exec_circumstance.specs.Contents.{agent_name, literal_of, literals_of, ground_literals}
use Rattle.asl_kqml.specs.Receive as spec
use Rattle.asl_kqml.specs.Receive.{Received}
use Rattle.asl_cycle.specs.Turns.{dropped_by_message, dropped_by_verb}
use Rattle.asl_cycle.specs.Intentions.{Intention, held, Becomes, Answered, Reads}
use Rattle.asl_cycle.proofs.Sums.{posted_held, ready_held, told_held, becomes, begins}
use Rattle.asl_cycle.proofs.Failing.{fell_as}
use Rattle.asl_cycle.proofs.Ending.{desires_end}

-- ---- the ask of a number

record Found (n : ℕ) (asks : List Ask) (q : Ask) : Type 0 where
  front : List Ask
  back : List Ask
  all : asks ≡ front ++ q ∷ back
  others : without_ask n asks ≡ front ++ back

found_by : (n : ℕ) (a q : Ask) (asks : List Ask) (b : Bool) → eqb a.number n ≡ b → cond b (Some a) (ask_of n asks) ≡ Some q
    → (ask_of n asks ≡ Some q → Found n asks q) → Found n (a ∷ asks) q
found_by n a q asks true same e h = record {
  front = [];
  back = asks;
  all = let is : a ≡ q = cc in ap (λ x. x ∷ asks) is;
  others = ap (λ b. cond b asks (a ∷ without_ask n asks)) same;
}
found_by n a q asks false same e h =
    let g = h e in
    record {
      front = a ∷ g.front;
      back = g.back;
      all = ap (λ xs. a ∷ xs) g.all;
      others = ap (λ b. cond b asks (a ∷ without_ask n asks)) same ∙ ap (λ xs. a ∷ xs) g.others;
    }

found : (n : ℕ) (asks : List Ask) (q : Ask) → ask_of n asks ≡ Some q → Found n asks q
found n [] q e = cc
found n (a ∷ asks) q e = found_by n a q asks (eqb a.number n) refl e (found n asks q)

module _ (k : Surroundings) (named : Option (LiteralOf Term)) where
  abbrev Reads_it : Circumstance → Received → Type 0
  Reads_it p r = Reads k.plans named p.agenda r.parts.agenda

  same : (p q : Circumstance) → q.agenda ≡ p.agenda → Reads k.plans named p.agenda q.agenda
  same p q e = Reads.Begins (begins (held p.agenda) (held q.agenda) [] (λ f. let h = ap (λ a. held a f) e in omega arith))

  changes : (p : Circumstance) (ts : List Trigger) → Reads k.plans named p.agenda (told p.agenda ts)
  changes p ts = Reads.Begins (begins (held p.agenda) (held (told p.agenda ts)) ts (λ f. told_held f p.agenda ts))

  tell : (name : List ℕ) (p : Circumstance) (o : Option (List (LiteralOf Term))) → Reads_it p (spec.tell name p o)
  tell name p None = same p p refl
  tell name p (Some ls) = changes p _

  untell : (name : List ℕ) (p : Circumstance) (o : Option (List (LiteralOf Term))) → Reads_it p (spec.untell name p o)
  untell name p None = same p p refl
  untell name p (Some ls) = changes p _

  achieve : (name : List ℕ) (p : Circumstance) (o : Option (LiteralOf Term)) → Reads_it p (spec.achieve name p o)
  achieve name p None = same p p refl
  achieve name p (Some g) =
      let t : Trigger = record { add = true; kind = kind.Achieve; lit = spec.sourced name g } in
      Reads.Begins (begins (held p.agenda) (held (posted p.agenda (external_event t))) (t ∷ [])
      (λ f. let e = posted_held f p.agenda (external_event t) in omega arith))

  unachieve : (p : Circumstance) (o : Option (LiteralOf Term)) → named ≡ o → Reads_it p (spec.unachieve p o)
  unachieve p None is = same p p refl
  unachieve p (Some g) is = Reads.Drops (desires_end k.plans named g is p.agenda)

  module _ (me : ℕ) (m : Message) (p : Circumstance) where
    ask_one : (g : LiteralOf Term) (a : Answer) → Reads_it p (spec.ask_one me m p g a)
    ask_one g (answer.Spent b) = same p p refl
    ask_one g (answer.Found s n) = same p p refl
    ask_one g answer.Nothing = same p p refl
    ask_one g answer.Arith = same p p refl
    ask_one g answer.TermLimit = same p p refl

    ask_all : (g : LiteralOf Term) (a : Answers) → Reads_it p (spec.ask_all me m p g a)
    ask_all g (answers.Spent b) = same p p refl
    ask_all g (answers.All found) = same p p refl
    ask_all g answers.Arith = same p p refl
    ask_all g answers.TermLimit = same p p refl

    asks_one : (o : Option (LiteralOf Term)) → Reads_it p (spec.asks_one k me m p o)
    asks_one None = same p p refl
    asks_one (Some g) = ask_one g (sought k p (expr.Holds g))

    asks_all : (o : Option (LiteralOf Term)) → Reads_it p (spec.asks_all k me m p o)
    asks_all None = same p p refl
    asks_all (Some g) = ask_all g (spec.sought_all k p g)

    asks_how : (o : Option (LiteralOf Term)) → Reads_it p (spec.asks_how k me m p o)
    asks_how None = same p p refl
    asks_how (Some g) = same p p refl

  -- the stack that waited for the answer goes to the back, or fails
  answered : (p : Circumstance) (q : Ask) (o : Option (List Pair)) → Becomes (Answered k.plans q) (held p.agenda) (held (spec.answered k p q.stack o).parts.agenda)
  answered p q (Some s) =
      let t = without_head (bound s q.stack) in
      becomes (Answered k.plans q) (Some (Intention.Runs t)) (held p.agenda) (held (record p.agenda { running = p.agenda.running ++ t ∷ [] }))
      (Answered.Takes s) (λ f. let e = ready_held f p.agenda (t ∷ []) in omega arith)
  answered p q None =
      fell_as (Answered k.plans q) k.plans p.number error.IaFailed p.agenda q.stack (λ x h. Answered.Fails p.number x h)

  answers_ask : (p : Circumstance) (n : ℕ) (content : Term) (o : Option Ask) → ask_of n p.agenda.asks ≡ o → Reads_it p (spec.answers_ask k p n content o)
  answers_ask p n content None e = same p p refl
  answers_ask p n content (Some q) e =
      let h = found n p.agenda.asks q e in
      let o = agreed (unified [] (ask q.answer content ∷ [])) in
      let r : List Ask → Circumstance = λ asks. with_agenda p (record p.agenda { asks = asks }) in
      Reads.Answers h.front h.back q h.all
      (subst (λ asks. Becomes (Answered k.plans q) (held (r asks).agenda) (held (spec.answered k (r (without_ask n p.agenda.asks)) q.stack o).parts.agenda))
      h.others (answered (r (without_ask n p.agenda.asks)) q o))

  tells : (name : List ℕ) (p : Circumstance) (m : Message) (content : Term) (b : Bool)
      → Reads_it p (cond b (spec.tell name p (ground_literals content)) (spec.answers_ask k p m.reply content (ask_of m.reply p.agenda.asks)))
  tells name p m content true = tell name p (ground_literals content)
  tells name p m content false = answers_ask p m.reply content (ask_of m.reply p.agenda.asks) refl

  verbs : (me : ℕ) (name : List ℕ) (p : Circumstance) (m : Message) (content : Term) (v : Verb) → named ≡ dropped_by_verb v (literal_of content)
      → Reads_it p (spec.of_verb k me name p m content v)
  verbs me name p m content verb.Tell is = tells name p m content (eqb m.reply 0)
  verbs me name p m content verb.Untell is = untell name p (literals_of content)
  verbs me name p m content verb.Achieve is = achieve name p (literal_of content)
  verbs me name p m content verb.Unachieve is = unachieve p (literal_of content) is
  verbs me name p m content verb.AskOne is = asks_one me m p (literal_of content)
  verbs me name p m content verb.AskAll is = asks_all me m p (literal_of content)
  verbs me name p m content verb.TellHow is = same p p refl
  verbs me name p m content verb.UntellHow is = same p p refl
  verbs me name p m content verb.AskHow is = asks_how me m p (literal_of content)

pub hears : (k : Surroundings) (peers : Peers) (p : Circumstance) (m : Message)
    → Reads k.plans (dropped_by_message p.number (Some m)) p.agenda (spec.receive k peers p m).parts.agenda
unfolding spec.receive
hears k peers p m =
    verbs k (dropped_by_message p.number (Some m)) peers.me (agent_name peers.names m.from) (with_number p (p.number + 1)) m (renamed p.number m.content) m.verb refl
