-- Letters of calls that lint holds bring only goals that are served.
use Rattle.std.proofs.Common.{◌≡◌, ◌+◌, ◌&&◌, ◌||◌, eqb, if◌then◌else◌, ℕ, Bool, true, false, not, cond, List, [], ◌∷◌, map, length, ◌==◌, Option, Some, None, Ok, Err, Result, refl, sym, ap, ◌∙◌, subst, codes}
use Rattle.std.proofs.lemmas.Bool.{false≢true}
use Rattle.std.proofs.lemmas.Slice.Eq.{bytes_eq-Decides}
use Rattle.std.specs.List.{AllByRecursion}
use Rattle.std.specs.Str.{bytes_eq}
use Rattle.asl_term.specs.Names.{place_of}
use Rattle.asl_term.specs.declared.syntax.AgentText.{AgentText}
use Rattle.asl_term.specs.declared.syntax.ArgOf.{ArgOf}
use Rattle.asl_term.specs.declared.syntax.CallOf.{CallOf}
use Rattle.asl_term.specs.declared.syntax.Expr.{Expr}
use Rattle.asl_term.specs.declared.syntax.LiteralOf.{LiteralOf}
use Rattle.asl_term.specs.declared.syntax.Term.{Term}
use Rattle.asl_term.specs.declared.syntax.Term.TheVariants as term
use Rattle.asl_term.specs.declared.syntax.Term.TheOpen as layer
use Rattle.asl_term.specs.declared.syntax.Term.TheViews.{out-Term}
use Rattle.asl_term.specs.declared.syntax.Var.{Var}
use Rattle.asl_term.specs.Variables.{variables}
use Rattle.asl_term.proofs.Terms.{out_made}
use Rattle.asl_term_actions.specs.declared.action.Action.{Action}
use Rattle.asl_term_actions.specs.declared.action.Action.TheVariants as action
use Rattle.asl_term_actions.specs.declared.action.Deed.TheVariants as deed
use Rattle.asl_term_actions.specs.Actions as actions
use Rattle.asl_unify.specs.Mapped.{literal_by}
use Rattle.asl_unify.specs.Puts.{put}
use Rattle.asl_unify.specs.Renamed.{with_vars}
use Rattle.asl_unify.specs.Sealed.{sealed_var, sealed}
use Rattle.asl_unify.specs.Settling.{each, settle, settle_arg, settle_call}
use Rattle.asl_unify.proofs.General.{put-lit}
use Rattle.asl_unify.proofs.Laws.{FlatValues}
use Rattle.asl_lint_laws.specs.Fresh.{TermsBelow}
use Rattle.mas_mind.specs.declared.mind.Message.{Message}
use Rattle.mas_mind.specs.declared.mind.Verb.{Verb}
use Rattle.mas_mind.specs.declared.mind.Verb.TheVariants as verb
use Rattle.mas_mind.specs.Minds.{verb_text}
use Rattle.asl_exec_circumstance.specs.Contents.{literal_of, is_atom}
use Rattle.asl_exec_circumstance.specs.declared.peers.Peers.{Peers}
use Rattle.asl_lint.specs.Items as lint
use Rattle.asl_lint.specs.Goals.{one_of, sent_in, sent_to, achieved_by}
use Rattle.asl_lint.specs.Goals as goals
use Rattle.asl_lint.specs.declared.goals.Receivers.{Receivers}
use Rattle.asl_lint.specs.declared.goals.Receivers.TheVariants.{All, Nobody}
use Rattle.asl_goals.specs.declared.acted.Why.{Why}
use Rattle.asl_goals.specs.declared.acted.Why.TheVariants as why
use Rattle.asl_goals.specs.declared.letter.Letter.{Letter}
use Rattle.asl_goals.specs.Sending.{term_at, atom_literal, atom_term, atom_at, known, receiver_named, receiver, is_word, verb_named, is_ask, verb_atom, verb_at, fits, content_of, content_at, with_content, with_verb, with_receiver, letter, posted, to_others, spread_content, spread_verb, spread}
use Rattle.asl_lint_laws.proofs.Settling.{goes, ok_is}
use Rattle.asl_lint_laws.specs.Agendas.{IsMerged}
use Rattle.asl_lint_laws.specs.Linted.{IsLinted}
use Rattle.asl_lint_laws.specs.Messages.{IsServedAt, GoalSent, IsSent, MessageServed}
use Rattle.asl_lint_laws.proofs.Received.{literal_varied}
use Rattle.asl_lint_laws.proofs.Seals.{content_below}
use Rattle.asl_lint_laws.proofs.Origins.{Origin, variable, literal, origin, From, arg_from, atom_from}
use Rattle.asl_lint_laws.proofs.Served.{libs_of, Written, Means, all, one, covered_served, sent_merged, sent_served}

-- ---- what makes a letter

-- an atom at a place of the arguments
record AtomAt (args : List (ArgOf Expr)) (j : ℕ) (name : List ℕ) : Type 0 where
  source : Term
  at : term_at args j ≡ Some source
  lit : LiteralOf Term
  is : literal_of source ≡ Some lit
  atom : is_atom lit ≡ true
  functor : lit.functor ≡ name

atom_of : (args : List (ArgOf Expr)) (j : ℕ) (name : List ℕ) → atom_at args j ≡ Some name → AtomAt args j name
atom_of args j name e = go (term_at args j) refl e where
  by_literal : (t : Term) → term_at args j ≡ Some t → (o : Option (LiteralOf Term)) → literal_of t ≡ o → atom_literal o ≡ Some name → AtomAt args j name
  by_literal t at None i e = cc
  by_literal t at (Some l) i e = pick (is_atom l) refl e where
    pick : (b : Bool) → is_atom l ≡ b → cond b (Some l.functor) None ≡ Some name → AtomAt args j name
    pick true a e = record { source = t; at = at; lit = l; is = i; atom = a; functor = cc }
    pick false a e = cc

  go : (o : Option Term) → term_at args j ≡ o → atom_term o ≡ Some name → AtomAt args j name
  go None at e = cc
  go (Some t) at e = by_literal t at (literal_of t) refl e

-- ---- the verb

one_word : (name : List ℕ) (w x : Verb) (rest : Option Verb) → (rest ≡ Some w → is_word name w ≡ true) → cond (is_word name x) (Some x) rest ≡ Some w → is_word name w ≡ true
one_word name w x rest f e = go (is_word name x) refl e where
  go : (b : Bool) → is_word name x ≡ b → cond b (Some x) rest ≡ Some w → is_word name w ≡ true
  go true d e = let is : x ≡ w = cc in subst (λ z. is_word name z ≡ true) is d
  go false d e = f e

named_word : (name : List ℕ) (w : Verb) → verb_named name ≡ Some w → is_word name w ≡ true
named_word name w =
    one_word name w verb.Tell _ (one_word name w verb.Untell _ (one_word name w verb.Achieve _ (one_word name w verb.Unachieve _ (one_word name w verb.AskOne _
    (one_word name w verb.AskAll _ (one_word name w verb.TellHow _ (one_word name w verb.UntellHow _ (one_word name w verb.AskHow None (λ e. cc)))))))))

record VerbAt (args : List (ArgOf Expr)) (j : ℕ) (w : Verb) : Type 0 where
  name : List ℕ
  atom : AtomAt args j name
  word : name ≡ verb_text w

verb_of : (args : List (ArgOf Expr)) (j : ℕ) (w : Verb) → verb_at args j ≡ Some w → VerbAt args j w
verb_of args j w e = go (atom_at args j) refl e where
  go : (o : Option (List ℕ)) → atom_at args j ≡ o → verb_atom o ≡ Some w → VerbAt args j w
  go None i e = cc
  go (Some name) i e = record { name = name; atom = atom_of args j name i; word = (bytes_eq-Decides name (verb_text w)).0 (named_word name w e) }

-- ---- the content

record ContentAt (args : List (ArgOf Expr)) (j : ℕ) (t : Term) : Type 0 where
  source : Term
  at : term_at args j ≡ Some source
  is : sealed source ≡ t

content_is : (w : Verb) (args : List (ArgOf Expr)) (j : ℕ) (t : Term) → content_at w args j ≡ Ok t → ContentAt args j t
content_is w args j t e = go (term_at args j) refl e where
  go : (o : Option Term) → term_at args j ≡ o → content_of w j o ≡ Ok t → ContentAt args j t
  go None at e = cc
  go (Some u) at e = pick (fits w (sealed u)) e where
    pick : (b : Bool) → cond b (Ok (sealed u)) (Err (why.Argument j)) ≡ Ok t → ContentAt args j t
    pick true e = record { source = u; at = at; is = cc }
    pick false e = cc

-- ---- what is sent as a goal

lit_merged : (l : LiteralOf Term) → put term.Var (term.Lit l) ≡ term.Lit l → IsMerged l
lit_merged l e =
    let m : LiteralOf Term = record { neg = l.neg; functor = l.functor; args = map (put term.Var) l.args; annots = map (put term.Var) l.annots } in
    let outs : layer.Lit m ≡ layer.Lit l = sym (out_made (layer.Lit m)) ∙ ap out-Term (sym (put-lit term.Var l) ∙ e) ∙ out_made (layer.Lit l) in
    let is : m ≡ l = cc in
    record { args = ap (λ (z : LiteralOf Term). z.args) is; annots = ap (λ (z : LiteralOf Term). z.annots) is }

module _ (texts : List AgentText) (written : Written texts) (v : Var → Term) (flat : FlatValues v) where
  goal_sent : (t u : Term) → put term.Var t ≡ t → settle (put v t) ≡ Ok u → (r : Receivers) (to : ℕ) → Means to r → lint.goal_in texts r (out-Term t) ≡ true
      → GoalSent (libs_of texts) to (literal_of (sealed u))
  goal_sent t u m s r to means h = go (literal_of (sealed u)) refl where
    by_origin : (g l : LiteralOf Term) → literal_by (with_vars (sealed_var (variables u))) l ≡ g → Origin v t l → GoalSent (libs_of texts) to (Some g)
    by_origin g l is (variable x e) =
        absurd (false≢true (sym (ap (λ z. lint.goal_in texts r (out-Term z)) e ∙ ap (lint.goal_in texts r) (out_made (layer.Var x))) ∙ h))
    by_origin g l is (literal b e st) =
        let covered : achieved_by texts r b ≡ true = sym (ap (λ z. lint.goal_in texts r (out-Term z)) e ∙ ap (lint.goal_in texts r) (out_made (layer.Lit b))) ∙ h in
        let merged = lit_merged b (subst (λ z. put term.Var z ≡ z) e m) in
        let at = covered_served b merged texts written to r means covered in (
          subst (IsServedAt (libs_of texts) to) is (sent_served v flat b l merged st (sealed_var (variables u)) texts written to at),
          subst IsMerged is (sent_merged v flat b l merged st (sealed_var (variables u))),
        )

    go : (o : Option (LiteralOf Term)) → literal_of (sealed u) ≡ o → GoalSent (libs_of texts) to o
    go None e = tt
    go (Some g) e =
        let c = literal_varied (sealed_var (variables u)) u g e in by_origin g c.lit c.is (origin v c.lit t m u s c.at)

  -- ---- what is sent by a verb

  module _ (args outs : List (ArgOf Expr)) (from : (j : ℕ) (u : Term) → term_at outs j ≡ Some u → From v args j u) (r : Receivers) (to : ℕ) (means : Means to r) where
    module _ (t u : Term) (m : put term.Var t ≡ t) (s : settle (put v t) ≡ Ok u) (l : LiteralOf Term) (atom : goals.is_atom l ≡ true) where
      is_it : (w : Verb) (word : List ℕ) → l.functor ≡ verb_text w → lint.is_word word l ≡ bytes_eq (verb_text w) word
      is_it w word e = (λ i. atom i && bytes_eq (e i) word)

      abbrev Sends : Bool → Bool → Type 0
      Sends a b = (if a then lint.goal_in texts r (out-Term t) else not b) ≡ true

      by_word : (w : Verb) → l.functor ≡ verb_text w → lint.sends_by texts r l t ≡ true → IsSent (libs_of texts) to w (sealed u)
      by_word verb.Achieve e h =
          goal_sent t u m s r to means (subst (λ b. Sends b (lint.is_word (codes "tellHow") l || lint.is_word (codes "askHow") l)) (is_it verb.Achieve (codes "achieve") e) h)
      by_word verb.TellHow e h =
          absurd (false≢true (subst (λ b. Sends b (bytes_eq (verb_text verb.TellHow) (codes "tellHow") || lint.is_word (codes "askHow") l)) (is_it verb.TellHow (codes "achieve") e)
          (subst (λ b. Sends (lint.is_word (codes "achieve") l) (b || lint.is_word (codes "askHow") l)) (is_it verb.TellHow (codes "tellHow") e) h)))
      by_word verb.AskHow e h =
          absurd (false≢true (subst (λ b. Sends b (bytes_eq (verb_text verb.AskHow) (codes "tellHow") || bytes_eq (verb_text verb.AskHow) (codes "askHow")))
          (is_it verb.AskHow (codes "achieve") e)
          (subst (λ b. Sends (lint.is_word (codes "achieve") l) (b || bytes_eq (verb_text verb.AskHow) (codes "askHow"))) (is_it verb.AskHow (codes "tellHow") e)
          (subst (λ b. Sends (lint.is_word (codes "achieve") l) (lint.is_word (codes "tellHow") l || b)) (is_it verb.AskHow (codes "askHow") e) h))))
      by_word verb.Tell e h = tt
      by_word verb.Untell e h = tt
      by_word verb.Unachieve e h = tt
      by_word verb.AskOne e h = tt
      by_word verb.AskAll e h = tt
      by_word verb.UntellHow e h = tt

    -- verb and content at their places
    sent : (i j : ℕ) (w : Verb) (t : Term) → verb_at outs i ≡ Some w → content_at w outs j ≡ Ok t
        → ((word content : Term) → lint.term_at args i ≡ Some word → lint.term_at args j ≡ Some content → lint.sends texts r word content ≡ true)
        → IsSent (libs_of texts) to w t
    sent i j w t e d holds =
        let a = verb_of outs i w e in
        let c = content_is w outs j t d in
        let f = from i a.atom.source a.atom.at in
        let g = from j c.source c.at in
        subst (IsSent (libs_of texts) to w) c.is
        (go a.name a.word a.atom f g.before g.merged g.settles (holds f.before g.before f.at g.at) (origin v a.atom.lit f.before f.merged a.atom.source f.settles a.atom.is)) where
          go : (name : List ℕ) → name ≡ verb_text w → (a : AtomAt outs i name) (f : From v args i a.source) (content : Term) → put term.Var content ≡ content
              → {u : Term} → settle (put v content) ≡ Ok u → lint.sends texts r f.before content ≡ true → Origin v f.before a.lit → IsSent (libs_of texts) to w (sealed u)
          go name word a f content m s h (variable x e) =
              absurd (false≢true (sym (ap (λ z. lint.verb_in texts r (out-Term z) content) e ∙ ap (λ y. lint.verb_in texts r y content) (out_made (layer.Var x))) ∙ h))
          go name word a f content m {u = u} s h (literal b e st) =
              let k = atom_from v b a.lit st in
              by_word content u m s b (sym k.0 ∙ a.atom) w (sym k.1 ∙ a.functor ∙ word)
              (sym (ap (λ z. lint.verb_in texts r (out-Term z) content) e ∙ ap (λ y. lint.verb_in texts r y content) (out_made (layer.Lit b))) ∙ h)

-- ---- the receiver

record ReceiverAt (names : List (List ℕ)) (args : List (ArgOf Expr)) (to : ℕ) : Type 0 where
  name : List ℕ
  atom : AtomAt args 0 name
  place : place_of names name ≡ Some to

known_is : (name : List ℕ) (n to : ℕ) → known name (Some n) ≡ Ok to → n ≡ to
known_is name n to e = cc

receiver_of : (names : List (List ℕ)) (args : List (ArgOf Expr)) (to : ℕ) → receiver names args ≡ Ok to → ReceiverAt names args to
receiver_of names args to e = go (atom_at args 0) refl e where
  by_place : (name : List ℕ) → atom_at args 0 ≡ Some name → (o : Option ℕ) → place_of names name ≡ o → known name o ≡ Ok to → ReceiverAt names args to
  by_place name a None p e = cc
  by_place name a (Some n) p e = record { name = name; atom = atom_of args 0 name a; place = p ∙ ap (λ z. Some z) (known_is name n to e) }

  go : (o : Option (List ℕ)) → atom_at args 0 ≡ o → receiver_named names o ≡ Ok to → ReceiverAt names args to
  go None a e = cc
  go (Some name) a e = by_place name a (place_of names name) refl e

-- who is meant by it in the source
meant : (names : List (List ℕ)) (v : Var → Term) (args outs : List (ArgOf Expr)) (to : ℕ) (a : ReceiverAt names outs to) (f : From v args 0 a.atom.source)
    → Means to (sent_to names f.before)
meant names v args outs to a f = go (origin v a.atom.lit f.before f.merged a.atom.source f.settles a.atom.is) where
  go : Origin v f.before a.atom.lit → Means to (sent_to names f.before)
  go (variable x e) = subst (Means to) (sym (ap (λ z. sent_in names (out-Term z)) e ∙ ap (sent_in names) (out_made (layer.Var x)))) all
  go (literal b e st) =
      let k = atom_from v b a.atom.lit st in
      let atom : goals.is_atom b ≡ true = sym k.0 ∙ a.atom.atom in
      let named : place_of names b.functor ≡ Some to = ap (place_of names) (sym k.1 ∙ a.atom.functor) ∙ a.place in
      subst (Means to) (sym (ap (λ z. sent_in names (out-Term z)) e ∙ ap (sent_in names) (out_made (layer.Lit b))
      ∙ ap (λ d. if d then one_of (place_of names b.functor) else Nobody) atom ∙ ap one_of named)) one

-- ---- letters

pub record Sound (texts : List AgentText) (l : Letter) : Type 0 where
  pub sent : IsSent (libs_of texts) l.to l.verb l.content
  pub below : TermsBelow 1 (l.content ∷ [])

module _ (names : List (List ℕ)) (texts : List AgentText) (written : Written texts) (c : CallOf Expr) (source : CallOf Expr) (linted : IsLinted names texts source)
    (settled : settle_call source ≡ Ok c) where
  -- the settled arguments
  record Outs : Type 0 where
    is : each (map settle_arg source.args) ≡ Ok c.args
    name : c.name ≡ source.name

  outs : Outs
  outs =
      let g = goes (each (map settle_arg source.args)) (λ xs. Ok (record { name = source.name; args = xs })) c settled in
      let made : CallOf Expr = record { name = source.name; args = g.value } in
      let same : made ≡ c = ok_is made c g.rest in
      record { is = g.is ∙ ap (λ (z : CallOf Expr). Ok z.args) same; name = ap (λ (z : CallOf Expr). z.name) (sym same) }

  from : (j : ℕ) (u : Term) → term_at c.args j ≡ Some u → From linted.values linted.source.args j u
  from j u e = arg_from linted.values linted.source.args source.args c.args linted.args outs.is linted.merged j u e

  -- an action that takes as many arguments as the source has is what lint looks at
  sent_holds : (a : Action) → actions.named c.name ≡ Some a → (actions.named linted.source.name ≡ Some a → actions.takes a (length linted.source.args) ≡ true)
      → lint.sent_holds names texts linted.source.args (Some a) ≡ true
  sent_holds a e takes =
      let is : actions.named linted.source.name ≡ Some a = ap actions.named (sym (outs.name ∙ linted.name)) ∙ e in
      let n = length linted.source.args in
      let known : actions.known linted.source.name n ≡ Some a = ap (λ o. actions.if_takes o n) is ∙ ap (λ b. cond b (Some a) None) (takes is) in
      sym (ap (lint.sent_holds names texts linted.source.args) known) ∙ linted.holds

  -- ---- `.send`

  send_holds : actions.named c.name ≡ Some (action.Does deed.Send)
      → lint.send_holds names texts (lint.term_at linted.source.args 0) (lint.term_at linted.source.args 1) (lint.term_at linted.source.args 2) ≡ true
  send_holds e = sent_holds (action.Does deed.Send) e linted.arity.send

  by_parts : actions.named c.name ≡ Some (action.Does deed.Send) → (to : ℕ) (w : Verb) (t : Term) → receiver names c.args ≡ Ok to → verb_at c.args 1 ≡ Some w → content_at w c.args 2 ≡ Ok t
      → Sound texts (record { to = to; verb = w; content = t })
  by_parts e to w t r d g =
      let a = receiver_of names c.args to r in
      let f = from 0 a.atom.source a.atom.at in
      let k = content_is w c.args 2 t g in
      record {
        sent = sent texts written linted.values linted.flat linted.source.args c.args from (sent_to names f.before) to (meant names linted.values linted.source.args c.args to a f)
            1 2 w t d g (λ x y p q. sym (λ i. lint.send_holds names texts (f.at i) (p i) (q i)) ∙ send_holds e);
        below = subst (λ z. TermsBelow 1 (z ∷ [])) k.is (content_below k.source);
      }

  pub letter_sound : actions.named c.name ≡ Some (action.Does deed.Send) → (l : Letter) → letter names c.args ≡ Ok l → Sound texts l
  letter_sound e l h = by_receiver (receiver names c.args) refl h where
    by_content : (to : ℕ) (w : Verb) → receiver names c.args ≡ Ok to → verb_at c.args 1 ≡ Some w → (o : Result Term Why) → content_at w c.args 2 ≡ o → with_content to w o ≡ Ok l
        → Sound texts l
    by_content to w r d (Err x) g h = cc
    by_content to w r d (Ok t) g h =
        let is : record { to = to; verb = w; content = t } ≡ l = cc in subst (Sound texts) is (by_parts e to w t r d g)

    by_verb : (to : ℕ) → receiver names c.args ≡ Ok to → (o : Option Verb) → verb_at c.args 1 ≡ o → with_verb to c.args o ≡ Ok l → Sound texts l
    by_verb to r None d h = cc
    by_verb to r (Some w) d h = by_content to w r d (content_at w c.args 2) refl h

    by_receiver : (o : Result ℕ Why) → receiver names c.args ≡ o → with_receiver c.args o ≡ Ok l → Sound texts l
    by_receiver (Err x) r h = cc
    by_receiver (Ok to) r h = by_verb to r (verb_at c.args 1) refl h

  -- ---- `.broadcast`

  broadcast_holds : actions.named c.name ≡ Some (action.Does deed.Broadcast)
      → lint.broadcast_holds texts (lint.term_at linted.source.args 0) (lint.term_at linted.source.args 1) ≡ true
  broadcast_holds e = sent_holds (action.Does deed.Broadcast) e linted.arity.broadcast

  to_each : (me : ℕ) → (me ≡ 0 → ⊥) → (w : Verb) (t : Term) → ((to : ℕ) → IsSent (libs_of texts) to w t) → TermsBelow 1 (t ∷ []) → (n : ℕ) (others : List (List ℕ))
      → AllByRecursion (MessageServed (libs_of texts)) (to_others me w t n others)
  to_each me mine w t s b n [] = tt
  to_each me mine w t s b n (name ∷ more) = go (eqb n me) (to_each me mine w t s b (n + 1) more) where
    go : (d : Bool) → AllByRecursion (MessageServed (libs_of texts)) (to_others me w t (n + 1) more)
        → AllByRecursion (MessageServed (libs_of texts)) (cond d (to_others me w t (n + 1) more) (posted me 0 (record { to = n; verb = w; content = t }) ∷ to_others me w t (n + 1) more))
    go true later = later
    go false later = (record { from = mine; below = b; sent = s n }, later)

  pub spread_sound : (peers : Peers) → (peers.me ≡ 0 → ⊥) → actions.named c.name ≡ Some (action.Does deed.Broadcast) → (ms : List Message) → spread peers c.args ≡ Ok ms
      → AllByRecursion (MessageServed (libs_of texts)) ms
  spread_sound peers mine e ms h = by_verb (verb_at c.args 0) refl h where
    by_content : (w : Verb) → verb_at c.args 0 ≡ Some w → (o : Result Term Why) → content_at w c.args 1 ≡ o → spread_content peers w o ≡ Ok ms
        → AllByRecursion (MessageServed (libs_of texts)) ms
    by_content w d (Err x) g h = cc
    by_content w d (Ok t) g h =
        let is : to_others peers.me w t 1 peers.names ≡ ms = cc in
        let k = content_is w c.args 1 t g in
        let each_sent : (to : ℕ) → IsSent (libs_of texts) to w t =
        λ to. sent texts written linted.values linted.flat linted.source.args c.args from All to all 0 1 w t d g
        (λ x y p q. sym (λ i. lint.broadcast_holds texts (p i) (q i)) ∙ broadcast_holds e) in
        subst (AllByRecursion (MessageServed (libs_of texts))) is
        (to_each peers.me mine w t each_sent (subst (λ z. TermsBelow 1 (z ∷ [])) k.is (content_below k.source)) 1 peers.names)

    by_verb : (o : Option Verb) → verb_at c.args 0 ≡ o → spread_verb peers c.args o ≡ Ok ms → AllByRecursion (MessageServed (libs_of texts)) ms
    by_verb None d h = cc
    by_verb (Some w) d h = pick (is_ask w) h where
      pick : (b : Bool) → cond b (Err (why.Argument 0)) (spread_content peers w (content_at w c.args 1)) ≡ Ok ms → AllByRecursion (MessageServed (libs_of texts)) ms
      pick true h = cc
      pick false h = by_content w d (content_at w c.args 1) refl h
