-- The row of a message.
use Rattle.std.proofs.Common.{◌≡◌, ◌≤◌, ◌+◌, ◌-◌, ◌&&◌, eqb, ℕ, Bool, true, false, not, cond, List, [], ◌∷◌, ◌++◌, map, filter, slice_get, Option, Some, None, IfSome, refl, sym, ap, ◌∙◌, subst, arith, codes}
use Rattle.std.specs.Option.{option_map}
use Rattle.asl_term.specs.declared.syntax.AgentText.{AgentText}
use Rattle.asl_term.specs.declared.syntax.Kind.TheVariants as kind
use Rattle.asl_term.specs.declared.syntax.LiteralOf.{LiteralOf}
use Rattle.asl_term.specs.declared.syntax.Var.{Var}
use Rattle.asl_term.specs.declared.syntax.Term.{Term}
use Rattle.asl_term.specs.declared.syntax.Term.TheVariants as term
use Rattle.asl_term.specs.declared.syntax.Term.TheOpen.{Term-F}
use Rattle.asl_term.specs.declared.syntax.Term.TheOpen as layer
use Rattle.asl_term.specs.declared.syntax.Term.TheViews.{out-Term}
use Rattle.asl_term.specs.Layers.{made}
use Rattle.asl_term.specs.Trees.{with_terms_step}
use Rattle.asl_term.specs.Exprs.{is_ground_literal}
use Rattle.asl_term.proofs.Terms.{made_out, out_made, fold_num, fold_str, fold_var, fold_lit, fold_list, fold_op}
use Rattle.asl_unify.specs.declared.subst.Pair.{Pair}
use Rattle.asl_unify.specs.inner.Costs.{weight, weight_step}
use Rattle.asl_unify.specs.Compare.{ask}
use Rattle.asl_unify.specs.Matches.{agreed}
use Rattle.asl_unify.specs.Mapped.{literal_by}
use Rattle.asl_unify.specs.Puts.{put}
use Rattle.asl_unify.specs.Renamed.{with_vars, numbered, renamed}
use Rattle.asl_unify.specs.Sealed.{sealed}
use Rattle.asl_unify.specs.Unified.{unified}
use Rattle.asl_unify.proofs.General.{and_true}
use Rattle.asl_beliefs.specs.Bases.{all_ground}
use Rattle.asl_beliefs.specs.Changes.{Changed, without_match, removed, all_added}
use Rattle.asl_beliefs.specs.Sources.{plain, source, is_source, layer_is_source}
use Rattle.asl_lint_laws.specs.Fresh.{late, terms_count, literal_count, TermsBelow, SubstBelow}
use Rattle.asl_plans.specs.declared.entry.OwnedPlan.{OwnedPlan}
use Rattle.asl_plans.specs.declared.entry.Which.{Which}
use Rattle.asl_resolve.specs.declared.answers.Answer.{Answer}
use Rattle.asl_resolve.specs.declared.answers.Answer.TheVariants as answer
use Rattle.asl_resolve.specs.declared.answers.Answers.{Answers}
use Rattle.asl_resolve.specs.declared.answers.Answers.TheVariants as answers
use Rattle.asl_intend.specs.declared.agenda.Ask.{Ask}
use Rattle.asl_intend.specs.declared.agenda.Error.TheVariants as error
use Rattle.asl_intend.specs.Agendas.{external_event, ask_of, without_ask}
use Rattle.asl_intend.specs.Stacks.{bound, without_head}
use Rattle.asl_exec_circumstance.specs.declared.rows.Row.{Row}
use Rattle.asl_exec_circumstance.specs.declared.rows.Row.TheVariants as row
use Rattle.asl_exec_circumstance.specs.Circumstance.{Surroundings, Circumstance, with_agenda, with_number}
use Rattle.mas_mind.specs.declared.mind.Message.{Message}
use Rattle.mas_mind.specs.declared.mind.Verb.{Verb}
use Rattle.mas_mind.specs.declared.mind.Verb.TheVariants as verb
use Rattle.asl_exec_circumstance.specs.declared.peers.Peers.{Peers}
use Rattle.asl_exec_circumstance.specs.Contents.{agent_name, literal_layer, literal_of, literals_of, ground_literals}
use Rattle.asl_kqml.specs.Contents.{is_nothing, which_of}
use Rattle.asl_kqml.specs.Receive as receive
use Rattle.asl_kqml.specs.Receive.{Received}
use Rattle.asl_kqml.proofs.Grounds.{content_closed, all_sourced_ground}
use Rattle.asl_lint.specs.Instances.{AreMerged}
use Rattle.asl_lint_laws.specs.Served.{IsServed, goal_trigger}
use Rattle.asl_lint_laws.proofs.Varied.{merged_varied}
use Rattle.asl_lint_laws.specs.Agendas.{IsMerged, IsOlder, AskServed, AgendaServed}
use Rattle.asl_lint_laws.proofs.Bound.{stack_bound}
use Rattle.asl_lint_laws.proofs.Failing.{tag_weight, tag_merged, fails_served}
use Rattle.asl_lint_laws.proofs.Ages.{older_with}
use Rattle.asl_lint_laws.specs.Read.{AreGround}
use Rattle.asl_lint_laws.specs.RowsServed.{IsOther, AroundServed, PartsServed}
use Rattle.asl_lint_laws.proofs.Beliefs.{IsChange, all_added_change, followed_change, removed_change, without_match_change}
use Rattle.asl_lint_laws.proofs.Chosen.{renamed_below, served_varied}
use Rattle.asl_lint_laws.proofs.Failed.{are_source, stay, stack_rest, agenda_running, parts_believing, parts_later, parts_posted}
use Rattle.asl_lint_laws.proofs.RowGoals.{served_annots, last_source, served_answered}
use Rattle.asl_lint_laws.proofs.Solved.{agreed_below}
use Rattle.asl_lint_laws.specs.Messages.{GoalSent, IsSent, MessageServed, ReceivedServed}
use Rattle.asl_lint_laws.specs.Mail.{ReceiveKeeps}
use Rattle.asl_lint_laws.proofs.Dropped.{ask_at, asks_rest, desires_served}
use Rattle.asl_lint_laws.proofs.Seals.{content_below}

-- ---- literals

pub lit_is : (l : LiteralOf Term) → literal_of (term.Lit l) ≡ Some l
lit_is l = ap literal_layer (out_made (layer.Lit l))

-- a term of which this is the literal
literal_term : (t : Term) (l : LiteralOf Term) → literal_of t ≡ Some l → t ≡ term.Lit l
literal_term t l e = sym (made_out t) ∙ go (out-Term t) e where
  go : (y : Term-F Term) → literal_layer y ≡ Some l → made y ≡ term.Lit l
  go (layer.Lit m) d = let is : m ≡ l = cc in ap term.Lit is
  go (layer.Num m) d = cc
  go (layer.Str m) d = cc
  go (layer.Var m) d = cc
  go (layer.List m) d = cc
  go (layer.Op m) d = cc

pub literal_count_is : (f : Var → ℕ) (t : Term) (l : LiteralOf Term) → literal_of t ≡ Some l → weight f t ≡ 0 → literal_count f l ≡ 0
literal_count_is f t l e w = sym (fold_lit ℕ (weight_step f) l) ∙ ap (weight f) (sym (literal_term t l e)) ∙ w

-- a literal with other variables was one before
pub record Varied (f : Var → Var) (t : Term) (m : LiteralOf Term) : Type 0 where
  pub lit : LiteralOf Term
  pub at : literal_of t ≡ Some lit
  pub is : literal_by (with_vars f) lit ≡ m

varied_layer : (f : Var → Var) (y : Term-F Term) (m : LiteralOf Term) → literal_of (with_vars f (made y)) ≡ Some m → Varied f (made y) m
varied_layer f (layer.Lit l) m e =
    let same : Some (literal_by (with_vars f) l) ≡ Some m = sym (ap literal_of (fold_lit Term (with_terms_step (λ v. term.Var (f v))) l) ∙ lit_is (literal_by (with_vars f) l)) ∙ e in
    record { lit = l; at = lit_is l; is = cc }
varied_layer f (layer.Num n) m e =
    let d : None ≡ Some m = sym (ap literal_of (fold_num Term (with_terms_step (λ v. term.Var (f v))) n) ∙ ap literal_layer (out_made (layer.Num n))) ∙ e in cc
varied_layer f (layer.Str n) m e =
    let d : None ≡ Some m = sym (ap literal_of (fold_str Term (with_terms_step (λ v. term.Var (f v))) n) ∙ ap literal_layer (out_made (layer.Str n))) ∙ e in cc
varied_layer f (layer.Var x) m e =
    let d : None ≡ Some m = sym (ap literal_of (fold_var Term (with_terms_step (λ v. term.Var (f v))) x) ∙ ap literal_layer (out_made (layer.Var (f x)))) ∙ e in cc
varied_layer f (layer.List l) m e =
    let d : None ≡ Some m = sym (ap literal_of (fold_list Term (with_terms_step (λ v. term.Var (f v))) l)
    ∙ ap literal_layer (out_made (layer.List (record { items = map (with_vars f) l.items; tail = option_map (with_vars f) l.tail })))) ∙ e in cc
varied_layer f (layer.Op a) m e =
    let d : None ≡ Some m = sym (ap literal_of (fold_op Term (with_terms_step (λ v. term.Var (f v))) a)
    ∙ ap literal_layer (out_made (layer.Op (record a { left = with_vars f a.left; right = with_vars f a.right })))) ∙ e in cc

pub literal_varied : (f : Var → Var) (t : Term) (m : LiteralOf Term) → literal_of (with_vars f t) ≡ Some m → Varied f t m
literal_varied f t m e =
    subst (λ z. Varied f z m) (made_out t) (varied_layer f (out-Term t) m (ap (λ z. literal_of (with_vars f z)) (made_out t) ∙ e))

pub varied_merged : (f : Var → Var) (l : LiteralOf Term) → IsMerged l → IsMerged (literal_by (with_vars f) l)
varied_merged f l i = record { args = merged_varied f l.args i.args; annots = merged_varied f l.annots i.annots }

-- ---- sources

filter_count : (f : Var → ℕ) (p : Term → Bool) (ts : List Term) → terms_count f ts ≡ 0 → terms_count f (filter p ts) ≡ 0
filter_count f p [] e = refl
filter_count f p (t ∷ ts) e = go (p t) (filter_count f p ts (omega (arith, e))) where
  go : (b : Bool) → terms_count f (filter p ts) ≡ 0 → terms_count f (cond b (t ∷ filter p ts) (filter p ts)) ≡ 0
  go true more = omega (arith, e, more)
  go false more = more

filter_merged : (p : Term → Bool) (ts : List Term) → AreMerged ts → AreMerged (filter p ts)
filter_merged p [] e = refl
filter_merged p (t ∷ ts) e =
    let one : put term.Var t ≡ t = cc in
    let more : AreMerged ts = cc in
    go (p t) one (filter_merged p ts more) where
      go : (b : Bool) → put term.Var t ≡ t → AreMerged (filter p ts) → AreMerged (cond b (t ∷ filter p ts) (filter p ts))
      go true one r = (λ i. one i ∷ r i)
      go false one r = r

source_is : (name : List ℕ) → is_source (source name) ≡ true
source_is name = ap layer_is_source (out_made (layer.Lit (record { neg = false; functor = codes "source"; args = plain name [] ∷ []; annots = [] })))

abbrev others : LiteralOf Term → List Term
others g = filter (λ a. not (is_source a)) g.annots

sourced_older : (n : ℕ) (name : List ℕ) (g : LiteralOf Term) → IsOlder n g → IsOlder n (receive.sourced name g)
sourced_older n name g o =
    let b = o.below in
    let kept = filter_count (late n) (λ a. not (is_source a)) g.annots (omega (arith, b)) in
    let older : IsOlder n (record g { annots = filter (λ a. not (is_source a)) g.annots }) = record {
      below = omega (arith, b, kept);
      merged = record { args = o.merged.args; annots = filter_merged (λ a. not (is_source a)) g.annots o.merged.annots };
    } in
    older_with n (record g { annots = filter (λ a. not (is_source a)) g.annots }) (source name) older (tag_weight (late n) (codes "source") name) (tag_merged (codes "source") name)

-- ---- the rows

grounds : (ls : List (LiteralOf Term)) → all_ground ls ≡ true → AreGround ls
grounds [] e = tt
grounds (l ∷ ls) e = let s = and_true (is_ground_literal l) _ e in (s.0, grounds ls s.1)

removed_all : (ls bs : List (LiteralOf Term)) → AreGround bs → IsChange (receive.all_removed ls bs)
removed_all [] bs a = record { beliefs = a; events = tt }
removed_all (l ∷ ls) bs a =
    followed_change (without_match (removed l [] bs)) (receive.all_removed ls) (without_match_change (removed l [] bs) (removed_change l [] bs a))
    (λ c. removed_all ls (removed l [] bs).beliefs c)

module _ (names : List (List ℕ)) (texts : List AgentText) (libs : List (List OwnedPlan)) (k : Surroundings) (around : AroundServed names texts k) (me : ℕ) (mine : me ≡ 0 → ⊥)
    (m : Message) (served : MessageServed libs m) (name : List ℕ) (p : Circumstance) (parts : PartsServed names texts k.plans p) where
  abbrev Keeps : Received → Type 0
  Keeps r = ReceivedServed libs names texts k.plans p.number r

  by_row : (r : Row) → IsOther r → Keeps (receive.by r p)
  by_row r o = record { number = stay p.number; parts = parts; took = (o, tt) }

  changed_served : (r : Row) → IsOther r → (c : Changed) → IsChange c → Keeps (receive.changed r p c)
  changed_served r o c i = record { number = stay p.number; parts = parts_believing names texts k.plans p c parts i; took = (o, tt) }

  tell_served : (t : Term) → Keeps (receive.tell name p (ground_literals t))
  tell_served t = go (ground_literals t) (content_closed t) where
    go : (o : Option (List (LiteralOf Term))) → IfSome o (λ ls. all_ground ls ≡ true) → Keeps (receive.tell name p o)
    go None c = by_row row.Ignore refl
    go (Some ls) c =
        changed_served row.Tell refl (all_added (map (receive.sourced name) ls) p.beliefs)
        (all_added_change (map (receive.sourced name) ls) p.beliefs (grounds (map (receive.sourced name) ls) (all_sourced_ground name ls c)) parts.beliefs)

  untell_served : (o : Option (List (LiteralOf Term))) → Keeps (receive.untell name p o)
  untell_served None = by_row row.Ignore refl
  untell_served (Some ls) =
      changed_served row.Untell refl (receive.all_removed (map (receive.only_from name) ls) p.beliefs) (removed_all (map (receive.only_from name) ls) p.beliefs parts.beliefs)

  goal_served : (g : LiteralOf Term) → IsServed kind.Achieve k.plans g → IsOlder p.number g → Keeps (receive.achieve name p (Some g))
  goal_served g s o =
      let older = sourced_older p.number name g o in
      let annots = filter (λ a. not (is_source a)) g.annots ++ source name ∷ [] in
      let again = served_annots kind.Achieve g annots k.plans s in
      let answered = served_answered k.plans (are_source names texts k around) p.number kind.Achieve (receive.sourced name g) again older
      (last_source (filter (λ a. not (is_source a)) g.annots) (source name) (source_is name)) in
      let event = external_event (goal_trigger kind.Achieve (receive.sourced name g)) in
      record {
        number = stay p.number;
        parts = parts_posted names texts k.plans p event parts (record { below = older.below; taken = (answered, older.merged); stack = tt });
        took = (refl, tt);
      }

  unachieve_served : (o : Option (LiteralOf Term)) → Keeps (receive.unachieve p o)
  unachieve_served None = by_row row.Ignore refl
  unachieve_served (Some g) = record {
    number = stay p.number;
    parts = record { beliefs = parts.beliefs; agenda = desires_served names texts k.plans p.number g p.agenda parts.agenda };
    took = (refl, tt);
  }

  -- ---- replies

  reply_served : (t : Term) → IfSome (receive.reply me m t) (MessageServed libs)
  reply_served t = go (eqb m.ask 0 && is_nothing t) where
    go : (b : Bool) → IfSome (cond b None (Some (record { from = me; to = m.from; verb = verb.Tell; content = sealed t; ask = 0; reply = m.ask }))) (MessageServed libs)
    go true = tt
    go false = record { from = mine; below = content_below t; sent = tt }

  replies_served : (r : Row) → IsOther r → (t : Term) → Keeps (receive.replies r p (receive.reply me m t))
  replies_served r o t = record { number = stay p.number; parts = parts; took = (o, reply_served t) }

  one_served : (g : LiteralOf Term) (a : Answer) → Keeps (receive.ask_one me m p g a)
  one_served g (answer.Spent b) = record { number = stay p.number; parts = parts; took = tt }
  one_served g (answer.Found s n) = replies_served row.AskOne refl _
  one_served g answer.Nothing = replies_served row.AskOne refl _
  one_served g answer.Arith = replies_served row.AskOne refl _
  one_served g answer.TermLimit = replies_served row.AskOne refl _

  all_served : (g : LiteralOf Term) (a : Answers) → Keeps (receive.ask_all me m p g a)
  all_served g (answers.Spent b) = record { number = stay p.number; parts = parts; took = tt }
  all_served g (answers.All ts) = replies_served row.AskAll refl _
  all_served g answers.Arith = replies_served row.AskAll refl _
  all_served g answers.TermLimit = replies_served row.AskAll refl _

  asks_one_served : (o : Option (LiteralOf Term)) → Keeps (receive.asks_one k me m p o)
  asks_one_served None = by_row row.Ignore refl
  asks_one_served (Some g) = one_served g _

  asks_all_served : (o : Option (LiteralOf Term)) → Keeps (receive.asks_all k me m p o)
  asks_all_served None = by_row row.Ignore refl
  asks_all_served (Some g) = all_served g _

  -- ---- answers

  -- without the ask
  abbrev without : ℕ → Circumstance
  without n = with_agenda p (record p.agenda { asks = without_ask n p.agenda.asks })

  answers_served : (n : ℕ) (content : Term) → TermsBelow p.number (content ∷ []) → Keeps (receive.answers_ask k p n content (ask_of n p.agenda.asks))
  answers_served n content b = go (ask_of n p.agenda.asks) (ask_at (AskServed names texts k.plans p.number) n p.agenda.asks parts.agenda.asks) where
    rest : AgendaServed names texts k.plans p.number (record p.agenda { asks = without_ask n p.agenda.asks })
    rest = record {
      events = parts.agenda.events;
      running = parts.agenda.running;
      acting = parts.agenda.acting;
      asks = asks_rest (AskServed names texts k.plans p.number) n p.agenda.asks parts.agenda.asks;
    }

    by_unifier : (a : Ask) → AskServed names texts k.plans p.number a → (o : Option (List Pair)) → ((s : List Pair) → o ≡ Some s → SubstBelow p.number s)
        → Keeps (receive.answered k (without n) a.stack o)
    by_unifier a s (Some t) f = record {
      number = stay p.number;
      parts = record {
        beliefs = parts.beliefs;
        agenda = agenda_running names texts k.plans p.number (without n).agenda (without_head (bound t a.stack)) rest
            (stack_rest names texts k.plans p.number (bound t a.stack) (stack_bound names texts k.plans p.number p.number (stay p.number) t (f t refl) a.stack s.stack));
      };
      took = (refl, tt);
    }
    by_unifier a s None f = record {
      number = stay p.number;
      parts = record {
        beliefs = parts.beliefs;
        agenda = fails_served names texts k.plans (are_source names texts k around) p.number error.IaFailed (without n).agenda a.stack rest s.stack;
      };
      took = (refl, tt);
    }

    go : (o : Option Ask) → ((a : Ask) → o ≡ Some a → AskServed names texts k.plans p.number a) → Keeps (receive.answers_ask k p n content o)
    go None f = by_row row.Ignore refl
    go (Some a) f =
        let s = f a refl in
        by_unifier a s (agreed (unified [] (ask a.answer content ∷ []))) (λ t e. agreed_below p.number (a.answer ∷ []) (content ∷ []) t s.answer b e)

  tells_served : (content : Term) → TermsBelow p.number (content ∷ []) → Keeps (receive.tells k name p m content)
  tells_served content b = go (eqb m.reply 0) where
    go : (d : Bool) → Keeps (cond d (receive.tell name p (ground_literals content)) (receive.answers_ask k p m.reply content (ask_of m.reply p.agenda.asks)))
    go true = tell_served content
    go false = answers_served m.reply content b

-- ---- the content is renamed

module _ (names : List (List ℕ)) (texts : List AgentText) (libs : List (List OwnedPlan)) (k : Surroundings) (around : AroundServed names texts k) (peers : Peers) (p : Circumstance) (m : Message)
    (parts : PartsServed names texts k.plans p) (mine : peers.me ≡ 0 → ⊥) (here : slice_get libs (m.to - 1) ≡ Some k.plans) (served : MessageServed libs m) where
  abbrev n : ℕ
  n = p.number

  abbrev q : Circumstance
  q = with_number p (p.number + 1)

  abbrev content : Term
  content = renamed p.number m.content

  abbrev name : List ℕ
  name = agent_name peers.names m.from

  abbrev Result : Received → Type 0
  Result r = ReceivedServed libs names texts k.plans (p.number + 1) r

  rises : p.number ≤ p.number + 1
  rises = omega arith

  later : PartsServed names texts k.plans (with_number p (p.number + 1))
  later = parts_later names texts k.plans p (p.number + 1) rises parts

  below : weight (late (p.number + 1)) (renamed p.number m.content) ≡ 0
  below = let b = served.below in renamed_below p.number m.content (omega (arith, b))

  terms_below : TermsBelow (p.number + 1) (renamed p.number m.content ∷ [])
  terms_below = let b = below in omega (arith, b)

  -- the goal that a message brings
  brought : GoalSent libs m.to (literal_of m.content) → (o : Option (LiteralOf Term)) → literal_of (renamed p.number m.content) ≡ o
      → Result (receive.achieve (agent_name peers.names m.from) (with_number p (p.number + 1)) o)
  brought s None e = by_row names texts libs k around peers.me mine m served (agent_name peers.names m.from) (with_number p (p.number + 1)) later row.Ignore refl
  brought s (Some g) e =
      let v = literal_varied (numbered p.number) m.content g e in
      let sent : GoalSent libs m.to (Some v.lit) = subst (GoalSent libs m.to) v.at s in
      let at_home : IsServed kind.Achieve k.plans v.lit = subst (λ o. IfSome o (λ plans. IsServed kind.Achieve plans v.lit)) here sent.0 in
      let again = served_varied (numbered p.number) kind.Achieve v.lit k.plans sent.1.args at_home in
      let merged = varied_merged (numbered p.number) v.lit sent.1 in
      goal_served names texts libs k around peers.me mine m served (agent_name peers.names m.from) (with_number p (p.number + 1)) later g
      (subst (IsServed kind.Achieve k.plans) v.is again)
      (record { below = literal_count_is (late (p.number + 1)) (renamed p.number m.content) g e below; merged = subst IsMerged v.is merged })

  untold_row : (w : Option Which) → IsOther (receive.untell_how m.from k.plans w).row
  untold_row None = refl
  untold_row (Some w) = refl

  by_verb : (v : Verb) → IsSent libs m.to v m.content
      → Result (receive.of_verb k peers.me (agent_name peers.names m.from) (with_number p (p.number + 1)) m (renamed p.number m.content) v)
  by_verb verb.Tell s = tells_served names texts libs k around peers.me mine m served (agent_name peers.names m.from) q later content terms_below
  by_verb verb.Untell s = untell_served names texts libs k around peers.me mine m served (agent_name peers.names m.from) q later (literals_of content)
  by_verb verb.Achieve s = brought s (literal_of content) refl
  by_verb verb.Unachieve s = unachieve_served names texts libs k around peers.me mine m served (agent_name peers.names m.from) q later (literal_of content)
  by_verb verb.AskOne s = asks_one_served names texts libs k around peers.me mine m served (agent_name peers.names m.from) q later (literal_of content)
  by_verb verb.AskAll s = asks_all_served names texts libs k around peers.me mine m served (agent_name peers.names m.from) q later (literal_of content)
  by_verb verb.TellHow s = absurd s
  by_verb verb.UntellHow s = by_row names texts libs k around peers.me mine m served (agent_name peers.names m.from) q later _ (untold_row (which_of content))
  by_verb verb.AskHow s = absurd s

  from_before : (r : Received) → Result r → ReceivedServed libs names texts k.plans p.number r
  from_before r s = let l = s.number in record { number = omega (arith, l); parts = s.parts; took = s.took }

  received : ReceivedServed libs names texts k.plans p.number (receive.receive k peers p m)
  unfolding receive.receive
  received = from_before _ (by_verb m.verb served.sent)

pub receive_keeps : ReceiveKeeps
receive_keeps names texts libs k peers p m around parts mine here served = received names texts libs k around peers p m parts mine here served
