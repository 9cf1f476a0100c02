-- What a message does. The rows are asked in the order of Tell, Untell, Achieve, Unachieve, AskOne, AskAll, AskSpent, Reply,
-- ReplyFail, TellHow, UntellHow, AskHow, Ignore; the first whose condition holds applies.
use Rattle.std.specs.Prelude.{ℕ, ◌+◌, ◌&&◌, not, cond, eqb, List, [], ◌∷◌, ◌++◌, map, filter, Option, None, Some, codes}
use Rattle.std.specs.List.{list_all, flat_map}
use Rattle.std.specs.Option.{option_map, option_to_list}
use Rattle.asl_term.specs.declared.syntax.LiteralOf.{LiteralOf}
use Rattle.asl_term.specs.declared.syntax.Term.{Term}
use Rattle.asl_term.specs.declared.syntax.Term.TheVariants as term
use Rattle.asl_term.specs.declared.syntax.Kind.TheVariants as kind
use Rattle.asl_term.specs.declared.syntax.Plan.{Plan}
use Rattle.asl_term.specs.declared.syntax.Expr.TheVariants as expr
use Rattle.asl_unify.specs.declared.subst.Pair.{Pair}
use Rattle.asl_unify.specs.Applied.{applied_literal, within_literal}
use Rattle.asl_unify.specs.Compare.{ask}
use Rattle.asl_unify.specs.Limits.{within}
use Rattle.asl_unify.specs.Matches.{agreed}
use Rattle.asl_unify.specs.Puts.{nil}
use Rattle.asl_unify.specs.Renamed.{renamed}
use Rattle.asl_unify.specs.Sealed.{sealed}
use Rattle.asl_unify.specs.Unified.{unified}
use Rattle.asl_beliefs.specs.Bases.{facts_of}
use Rattle.asl_beliefs.specs.Changes.{Changed, followed, without_match, removed, all_added}
use Rattle.asl_beliefs.specs.Sources.{plain, source, is_source, with_annots}
use Rattle.asl_resolve.specs.declared.answers.Answer.{Answer}
use Rattle.asl_resolve.specs.declared.answers.Answer.TheVariants as answer
use Rattle.asl_resolve.specs.declared.answers.Answers.{Answers}
use Rattle.asl_resolve.specs.declared.answers.Answers.TheVariants as answers
use Rattle.asl_resolve.specs.Base.{base}
use Rattle.asl_resolve.specs.Marks.{marks, every}
use Rattle.asl_intend.specs.declared.entry.Means.{Means}
use Rattle.asl_intend.specs.declared.agenda.Ask.{Ask}
use Rattle.asl_intend.specs.declared.agenda.Error.TheVariants as error
use Rattle.asl_intend.specs.Stacks.{bound, without_head}
use Rattle.asl_intend.specs.Agendas.{external_event, ask_of, without_ask, without_desires}
use Rattle.asl_fail.specs.Fails.{fails}
use Rattle.asl_exec_circumstance.specs.declared.rows.Row.{Row}
use Rattle.asl_exec_circumstance.specs.declared.rows.Row.TheVariants as row
use Rattle.asl_exec_circumstance.specs.Circumstance.{Surroundings, Circumstance, with_agenda, with_number, post, running, goal_trigger, believing}
use Rattle.asl_exec_circumstance.specs.Sought.{sought}
use Rattle.mas_mind.specs.declared.mind.Message.{Message}
use Rattle.mas_mind.specs.declared.mind.Verb.{Verb}
use Rattle.mas_mind.specs.declared.mind.Verb.TheVariants as verb
use Rattle.asl_exec_circumstance.specs.declared.peers.Peers.{Peers}
use Rattle.asl_kqml.specs.declared.took.Took.{Took}
use Rattle.asl_kqml.specs.declared.took.Took.TheVariants as took
use Rattle.asl_plans.specs.declared.entry.OwnedPlan.{OwnedPlan}
use Rattle.asl_plans.specs.declared.entry.Which.{Which}
use Rattle.asl_plans.specs.declared.library.Choice.{Choice}
use Rattle.asl_plans.specs.Plans.{relevant}
use Rattle.asl_plans.specs.Libraries.{plan_at}
use Rattle.asl_plans.specs.Libraries as plans
use Rattle.asl_print.specs.Agents.{plan_line}
use Rattle.asl_exec_circumstance.specs.Contents.{agent_name, literal_of, literals_of, ground_literals}
use Rattle.asl_kqml.specs.Contents.{is_nothing, plans_of, which_of}

-- what a message leaves, and what it did
pub record Received : Type 0 where
  pub parts : Circumstance
  pub took : Took

abbrev pub received : Circumstance → Took → Received
received p t = record { parts = p; took = t }

-- a row with neither a reply nor a failure
abbrev pub by : Row → Circumstance → Received
by r p = received p (took.Row r None [])

-- rule Ignore: anything else changes nothing but the counter
abbrev pub ignored : Circumstance → Received
ignored = by row.Ignore

-- ---- Tell and Untell

-- rule: a literal that is told: without its sources, and with the sender as the last
abbrev pub sourced : List ℕ → LiteralOf Term → LiteralOf Term
sourced name l = with_annots l (filter (λ a. not (is_source a)) l.annots ++ source name ∷ [])

-- with no annotation but this source
abbrev pub only_from : List ℕ → LiteralOf Term → LiteralOf Term
only_from name l = with_annots l (source name ∷ [])

-- each is removed, one after another
abbrev pub all_removed : List (LiteralOf Term) → List (LiteralOf Term) → Changed
all_removed [] bs = record { beliefs = bs; events = [] }
all_removed (l ∷ more) bs = followed (without_match (removed l [] bs)) (all_removed more)

abbrev pub changed : Row → Circumstance → Changed → Received
changed r p c = by r (believing p c.beliefs c.events)

-- rule Tell: literals are added, each from the sender
abbrev pub tell : List ℕ → Circumstance → Option (List (LiteralOf Term)) → Received
tell name p None = ignored p
tell name p (Some ls) = changed row.Tell p (all_added (map (sourced name) ls) p.beliefs)

-- rule Untell: literals are removed, each with no annotation but the sender
abbrev pub untell : List ℕ → Circumstance → Option (List (LiteralOf Term)) → Received
untell name p None = ignored p
untell name p (Some ls) = changed row.Untell p (all_removed (map (only_from name) ls) p.beliefs)

-- ---- Achieve and Unachieve

-- rule Achieve: an external event of the goal, from the sender
abbrev pub achieve : List ℕ → Circumstance → Option (LiteralOf Term) → Received
achieve name p None = ignored p
achieve name p (Some g) = by row.Achieve (post p (external_event (goal_trigger kind.Achieve (sourced name g))))

-- rule Unachieve: the events and stacks of the goal are dropped
abbrev pub unachieve : Circumstance → Option (LiteralOf Term) → Received
unachieve p None = ignored p
unachieve p (Some g) = by row.Unachieve (with_agenda p (without_desires g p.agenda))

-- ---- AskOne, AskAll, AskSpent

-- rule: the reply to a message carries the number of the ask; to an ask without one it is sent only where it says something
abbrev pub reply_by : Verb → ℕ → Message → Term → Option Message
reply_by v me m t = cond (eqb m.ask 0 && is_nothing t) None
    (Some (record { from = me; to = m.from; verb = v; content = sealed t; ask = 0; reply = m.ask }))

abbrev pub reply : ℕ → Message → Term → Option Message
reply = reply_by verb.Tell

abbrev pub replies : Row → Circumstance → Option Message → Received
replies r p m = received p (took.Row r m [])

-- `false`
abbrev pub no : Term
no = plain (codes "false") []

-- a result past the limits counts as a fault
abbrev pub one_answer : LiteralOf Term → Answer → Term
one_answer g (answer.Found s n) = cond (within_literal (applied_literal s g)) (term.Lit (applied_literal s g)) no
one_answer g other = no

-- rule AskOne, AskSpent: the reply is the literal with the first solution, or `false` where there is none, it passes the limits, or the
-- search has a fault
abbrev pub ask_one : ℕ → Message → Circumstance → LiteralOf Term → Answer → Received
ask_one me m p g (answer.Spent b) = received p (took.Spent b)
ask_one me m p g other = replies row.AskOne p (reply me m (one_answer g other))

abbrev pub list : List (LiteralOf Term) → Term
list ls = term.List (record { items = map term.Lit ls; tail = None })

abbrev pub limited_list : List (LiteralOf Term) → Term
limited_list ls = cond (list_all within_literal ls && within (list ls)) (list ls) nil

abbrev pub all_answer : LiteralOf Term → Answers → Term
all_answer g (answers.All found) = limited_list (map (λ s. applied_literal s g) found)
all_answer g other = nil

-- rule AskAll, AskSpent: the reply is the list of the literal with each solution, empty where it passes the limits or the search has a
-- fault
abbrev pub ask_all : ℕ → Message → Circumstance → LiteralOf Term → Answers → Received
ask_all me m p g (answers.Spent b) = received p (took.Spent b)
ask_all me m p g other = replies row.AskAll p (reply me m (all_answer g other))

-- what the search for all solutions answers
abbrev pub sought_all : Surroundings → Circumstance → LiteralOf Term → Answers
sought_all k p g = every k.budgets.tries [] (marks (base (facts_of p.beliefs k.rules) k.solve) k.budgets.depth (expr.Holds g) [] p.number)

abbrev pub asks_one : Surroundings → ℕ → Message → Circumstance → Option (LiteralOf Term) → Received
asks_one k me m p None = ignored p
asks_one k me m p (Some g) = ask_one me m p g (sought k p (expr.Holds g))

abbrev pub asks_all : Surroundings → ℕ → Message → Circumstance → Option (LiteralOf Term) → Received
asks_all k me m p None = ignored p
asks_all k me m p (Some g) = ask_all me m p g (sought_all k p g)

-- ---- Reply and ReplyFail

-- rule Reply, ReplyFail: the stack goes on behind its head, with what the answer unified; it fails where that does not unify
abbrev pub answered : Surroundings → Circumstance → List Means → Option (List Pair) → Received
answered k p stack (Some s) = by row.Reply (running p (without_head (bound s stack)))
answered k p stack None =
    let f = fails k.plans p.number error.IaFailed p.agenda stack in
    received (with_agenda p f.agenda) (took.Row row.ReplyFail None (record { error = error.IaFailed; fell = f.fell } ∷ []))

-- rule: an ask is answered once: the term that takes the answer is the left one
abbrev pub answers_ask : Surroundings → Circumstance → ℕ → Term → Option Ask → Received
answers_ask k p n content None = ignored p
answers_ask k p n content (Some a) =
    answered k (with_agenda p (record p.agenda { asks = without_ask n p.agenda.asks })) a.stack (agreed (unified [] (ask a.answer content ∷ [])))

-- ---- TellHow and UntellHow

-- what a message makes of the plans, and its row
pub record Learned : Type 0 where
  pub plans : List OwnedPlan
  pub row : Row

abbrev pub learned_by : Row → List OwnedPlan → Learned
learned_by r lib = record { plans = lib; row = r }

-- rule TellHow: plans that the sender tells are added one after another, from it
abbrev pub tell_how : ℕ → List OwnedPlan → Option (List Plan) → Learned
tell_how from lib None = learned_by row.Ignore lib
tell_how from lib (Some ps) = learned_by row.TellHow (plans.all_added ps from lib)

-- rule UntellHow: plans that it takes back are no longer from it
abbrev pub untell_how : ℕ → List OwnedPlan → Option Which → Learned
untell_how from lib None = learned_by row.Ignore lib
untell_how from lib (Some w) = learned_by row.UntellHow (plans.dropped w from lib)

abbrev pub learns : List OwnedPlan → ℕ → Term → Verb → Learned
learns lib from content verb.TellHow = tell_how from lib (plans_of content)
learns lib from content verb.UntellHow = untell_how from lib (which_of content)
learns lib from content other = learned_by row.Ignore lib

-- rule: the plans after a message (no other verb changes them)
unfoldable pub learned : List OwnedPlan → ℕ → Message → List OwnedPlan
learned lib n m = (learns lib m.from (renamed n m.content) m.verb).plans

-- ---- AskHow

-- the text of a chosen plan
abbrev pub choice_text : List OwnedPlan → Choice → Option (List ℕ)
choice_text lib c = option_map plan_line (plan_at lib c.plan)

abbrev pub texts_of : List OwnedPlan → List Choice → List (List ℕ)
texts_of lib choices = flat_map (λ c. option_to_list (choice_text lib c)) choices

abbrev pub string_items : List (List ℕ) → List Term
string_items texts = map term.Str texts

abbrev pub string_list : List (List ℕ) → Term
string_list texts = term.List (record { items = string_items texts; tail = None })

-- a list past the limits is empty
abbrev pub limited_strings : List (List ℕ) → Term
limited_strings texts = cond (within (string_list texts)) (string_list texts) nil

-- the texts of the plans that are relevant for +!g, in order
abbrev pub how_answer : List OwnedPlan → ℕ → LiteralOf Term → Term
how_answer lib n g = limited_strings (texts_of lib (relevant lib n (goal_trigger kind.Achieve g)))

-- to an ask without a number they are told as plans
abbrev pub how_verb : Message → Verb
how_verb m = cond (eqb m.ask 0) verb.TellHow verb.Tell

-- rule AskHow: the reply has the texts of the plans that are relevant for +!g, in order
abbrev pub asks_how : Surroundings → ℕ → Message → Circumstance → Option (LiteralOf Term) → Received
asks_how k me m p None = ignored p
asks_how k me m p (Some g) = replies row.AskHow p (reply_by (how_verb m) me m (how_answer k.plans p.number g))

-- ---- the row of a message

-- rule: a `tell` that replies answers the ask of its number; any other adds literals without variables
abbrev pub tells : Surroundings → List ℕ → Circumstance → Message → Term → Received
tells k name p m content = cond (eqb m.reply 0) (tell name p (ground_literals content)) (answers_ask k p m.reply content (ask_of m.reply p.agenda.asks))

-- rule: the row of a message, by its verb and what its content is
abbrev pub of_verb : Surroundings → ℕ → List ℕ → Circumstance → Message → Term → Verb → Received
of_verb k me name p m content verb.Tell = tells k name p m content
of_verb k me name p m content verb.Untell = untell name p (literals_of content)
of_verb k me name p m content verb.Achieve = achieve name p (literal_of content)
of_verb k me name p m content verb.Unachieve = unachieve p (literal_of content)
of_verb k me name p m content verb.AskOne = asks_one k me m p (literal_of content)
of_verb k me name p m content verb.AskAll = asks_all k me m p (literal_of content)
of_verb k me name p m content verb.TellHow = by (learns k.plans m.from content verb.TellHow).row p
of_verb k me name p m content verb.UntellHow = by (learns k.plans m.from content verb.UntellHow).row p
of_verb k me name p m content verb.AskHow = asks_how k me m p (literal_of content)

-- rule: the content is renamed by the counter, which rises by one (shut, so that proofs above do not look inside)
unfoldable pub receive : Surroundings → Peers → Circumstance → Message → Received
receive k peers p m = of_verb k peers.me (agent_name peers.names m.from) (with_number p (p.number + 1)) m (renamed p.number m.content) m.verb
