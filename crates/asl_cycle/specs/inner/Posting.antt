-- Whatever an agent sends is from itself, and to one of the agents.
use Rattle.std.specs.Prelude.{◌≤◌, ◌+◌, ℕ, suc, Bool, true, false, cond, if◌then◌else◌, eqb, refl}
use Rattle.std.specs.Prelude.{List, [], ◌∷◌, ◌++◌, length, slice_get, Option, None, Some, IfSome, All, Result, Ok, Err}
use Rattle.std.specs.Option.{option_map}
use Rattle.std.specs.Str.{bytes_eq}
use Rattle.std.proofs.Common.{arith}
use Rattle.std.proofs.lemmas.List.Elements.{All-nil, All-cons}
use Rattle.asl_term.specs.Names.{place_of}
use Rattle.asl_term.specs.declared.syntax.ArgOf.{ArgOf}
use Rattle.asl_term.specs.declared.syntax.ArgOf.TheVariants as arg
use Rattle.asl_term.specs.declared.syntax.CallOf.{CallOf}
use Rattle.asl_term.specs.declared.syntax.Expr.{Expr}
use Rattle.asl_term.specs.declared.syntax.LiteralOf.{LiteralOf}
use Rattle.asl_term.specs.declared.syntax.Term.{Term}
use Rattle.asl_term_actions.specs.declared.action.Action.{Action}
use Rattle.asl_term_actions.specs.declared.action.Action.TheVariants as action
use Rattle.asl_term_actions.specs.declared.action.Deed.TheVariants as deed
use Rattle.asl_term_actions.specs.declared.action.LiteralDeed.{LiteralDeed}
use Rattle.asl_term_actions.specs.declared.action.LiteralDeed.TheVariants as literal_deed
use Rattle.asl_term_actions.specs.Actions as actions
use Rattle.asl_unify.specs.declared.subst.Pair.{Pair}
use Rattle.asl_intend.specs.declared.entry.Means.{Means}
use Rattle.asl_intend.specs.declared.agenda.Agenda.{Agenda}
use Rattle.asl_intend.specs.Stacks.{has_goal}
use Rattle.asl_intend.specs.Agendas.{without_intentions, without_desires}
use Rattle.asl_exec_circumstance.specs.declared.rows.Fall.{Fall}
use Rattle.asl_exec_circumstance.specs.Circumstance.{Surroundings, Circumstance}
use Rattle.mas_mind.specs.declared.mind.Message.{Message}
use Rattle.mas_mind.specs.declared.mind.Verb.{Verb}
use Rattle.mas_mind.specs.Minds.{IsAgent, IsFrom}
use Rattle.asl_exec_circumstance.specs.declared.peers.Peers.{Peers}
use Rattle.asl_exec_circumstance.specs.Contents.{literal_of}
use Rattle.asl_goals.specs.declared.acted.Acted.{Acted}
use Rattle.asl_goals.specs.declared.acted.Acted.TheVariants as acted
use Rattle.asl_goals.specs.declared.acted.Why.{Why}
use Rattle.asl_goals.specs.declared.acted.Why.TheVariants as why
use Rattle.asl_goals.specs.declared.letter.Letter.{Letter}
use Rattle.asl_goals.specs.declared.sweep.Way.{Way}
use Rattle.asl_goals.specs.declared.sweep.Way.TheVariants as way
use Rattle.asl_goals.specs.Goals as goals
use Rattle.asl_goals.specs.Sending as sending
use Rattle.asl_goals.specs.Inside as spec
use Rattle.asl_goals.specs.Inside.{Did}

pick : {A : Type 0} (P : A → Type 0) (b : Bool) {x y : A} → P x → P y → P (cond b x y)
pick P true h g = h
pick P false h g = g

-- ---- the numbers of names

first_or_later : (n : ℕ) (b : Bool) (o : Option ℕ) → IfSome o (IsAgent n) → IfSome (if b then Some 1 else option_map (λ k. k + 1) o) (IsAgent (suc n))
first_or_later n true o h = record { from_one = omega arith; named = omega arith }
first_or_later n false None h = tt
first_or_later n false (Some k) h = record { from_one = omega arith; named = omega arith }

place_agent : (names : List (List ℕ)) (name : List ℕ) → IfSome (place_of names name) (IsAgent (length names))
place_agent [] name = tt
place_agent (first ∷ rest) name = first_or_later (length rest) (bytes_eq name first) (place_of rest name) (place_agent rest name)

-- ---- letters

-- a number, where there is one, is that of one of so many agents
abbrev IsKnown : ℕ → Result ℕ Why → Type 0
IsKnown n (Ok to) = IsAgent n to
IsKnown n (Err e) = Unit {0}

abbrev IsAddressed : ℕ → Result Letter Why → Type 0
IsAddressed n (Ok l) = IsAgent n l.to
IsAddressed n (Err e) = Unit {0}

known : (n : ℕ) (name : List ℕ) (o : Option ℕ) → IfSome o (IsAgent n) → IsKnown n (sending.known name o)
known n name None h = tt
known n name (Some to) h = h

receives : (names : List (List ℕ)) (o : Option (List ℕ)) → IsKnown (length names) (sending.receiver_named names o)
receives names None = tt
receives names (Some name) = known (length names) name (place_of names name) (place_agent names name)

with_content : (n to : ℕ) (v : Verb) (r : Result Term Why) → IsAgent n to → IsAddressed n (sending.with_content to v r)
with_content n to v (Err e) h = tt
with_content n to v (Ok t) h = h

with_verb : (n to : ℕ) (args : List (ArgOf Expr)) (o : Option Verb) → IsAgent n to → IsAddressed n (sending.with_verb to args o)
with_verb n to args None h = tt
with_verb n to args (Some v) h = with_content n to v (sending.content_at v args 2) h

with_receiver : (n : ℕ) (args : List (ArgOf Expr)) (r : Result ℕ Why) → IsKnown n r → IsAddressed n (sending.with_receiver args r)
with_receiver n args (Err e) h = tt
with_receiver n args (Ok to) h = with_verb n to args (sending.verb_at args 1) h

addressed : (names : List (List ℕ)) (args : List (ArgOf Expr)) → IsAddressed (length names) (sending.letter names args)
addressed names args = with_receiver (length names) args (sending.receiver names args) (receives names (sending.atom_at args 0))

-- ---- to all others

module _ (me total : ℕ) (v : Verb) (t : Term) where
  abbrev From : Message → Type 0
  From = IsFrom me total

  all_others : (names : List (List ℕ)) (n : ℕ) → 1 ≤ n → n + length names ≤ total + 1 → All From (sending.to_others me v t n names)
  all_others [] n h g = All-nil From
  all_others (name ∷ more) n h g =
      let rest = sending.to_others me v t (n + 1) more in
      let m = sending.posted me 0 (record { to = n; verb = v; content = t }) in
      let fits : IsAgent total n = record { from_one = h; named = omega arith } in
      let later = all_others more (n + 1) (omega arith) (omega arith) in
      pick (All From) (eqb n me) {x = rest} {y = m ∷ rest} later (All-cons From m rest (record { from_me = refl; receiver = fits }) later)

-- ---- what an action sends

abbrev pub AreFrom : ℕ → ℕ → Acted → Type 0
AreFrom me n (acted.Sent messages) = All (IsFrom me n) messages
AreFrom me n (acted.Asked m) = IsFrom me n m
AreFrom me n (acted.Ok fs) = Unit {0}
AreFrom me n (acted.Gone fs) = Unit {0}
AreFrom me n acted.Stop = Unit {0}
AreFrom me n (acted.Failed e) = Unit {0}

record Posts (me n : ℕ) (d : Did) : Type 0 where
  posts : AreFrom me n d.acted

module _ (k : Surroundings) (peers : Peers) (asks : ℕ) (p : Circumstance) (cur : List Means) where
  abbrev me : ℕ
  me = peers.me

  abbrev all : ℕ
  all = length peers.names

  abbrev Fit : Did → Type 0
  Fit = Posts me all

  refuses : (e : Why) → Fit (spec.refused k asks p cur e)
  refuses e = record { posts = tt }

  drops : (a : Agenda) (b : Bool) → Fit (spec.dropped k asks p cur a b)
  drops a true = record { posts = tt }
  drops a false = record { posts = tt }

  looks : (o : Option (List Pair)) → Fit (spec.matched k asks p cur o)
  looks None = record { posts = tt }
  looks (Some s) = record { posts = tt }

  current_left : (q : Circumstance) (stack : List Means) (fs : List Fall) → Fit (spec.current_left k asks p cur q stack fs)
  current_left q [] fs = record { posts = tt }
  current_left q (m ∷ below) fs = record { posts = tt }

  current : (w : Way) (q : Circumstance) (fs : List Fall) (o : Option (List Means)) → Fit (spec.current k asks p cur w q fs o)
  current w q fs None = record { posts = tt }
  current w q fs (Some cut) = let x = goals.treated k w q cut in current_left x.parts x.cur (fs ++ goals.falls_of x.went)

  ends : (w : Way) (g : LiteralOf Term) → Fit (spec.ended k asks p cur w g)
  ends w g = current w (goals.all_swept k w g p) (goals.all_falls k w g p) (goals.from_lowest g cur)

  sends_asking : (l : Letter) (o : Option (ArgOf Expr)) → IsAgent all l.to → Fit (spec.sent_asking k asks p cur me l o)
  sends_asking l None h =
      let m = sending.posted me 0 l in record { posts = All-cons (IsFrom me all) m [] (record { from_me = refl; receiver = h }) (All-nil (IsFrom me all)) }
  sends_asking l (Some (arg.Plain a)) h =
      pick Fit (sending.is_ask l.verb) {x = spec.asked k asks p cur me l a} {y = spec.refused k asks p cur (why.Argument 3)}
      (record { posts = record { from_me = refl; receiver = h } }) (refuses (why.Argument 3))
  sends_asking l (Some (arg.Logic e)) h = refuses (why.Argument 3)

  sends : (args : List (ArgOf Expr)) (r : Result Letter Why) → IsAddressed all r → Fit (spec.sent_letter k asks p cur me args r)
  sends args (Err e) h = refuses e
  sends args (Ok l) h = sends_asking l (slice_get args 3) h

  spreads_content : (v : Verb) (r : Result Term Why) → Fit (spec.sent_all k asks p cur (sending.spread_content peers v r))
  spreads_content v (Err e) = refuses e
  spreads_content v (Ok t) = record { posts = all_others me all v t peers.names 1 (omega arith) (omega arith) }

  spreads_verb : (args : List (ArgOf Expr)) (o : Option Verb) → Fit (spec.sent_all k asks p cur (sending.spread_verb peers args o))
  spreads_verb args None = refuses (why.Argument 0)
  spreads_verb args (Some v) =
      let r = sending.spread_content peers v (sending.content_at v args 1) in
      pick (λ r. Fit (spec.sent_all k asks p cur r)) (sending.is_ask v) {x = Err (why.Argument 0)} {y = r}
      (refuses (why.Argument 0)) (spreads_content v (sending.content_at v args 1))

  about : (d : LiteralDeed) (g : LiteralOf Term) → Fit (spec.about k asks p cur d g)
  about literal_deed.DropIntention g = drops (without_intentions g p.agenda) (has_goal g cur)
  about literal_deed.DropDesire g = drops (without_desires g p.agenda) (has_goal g cur)
  about literal_deed.SucceedGoal g = ends way.Succeed g
  about literal_deed.FailGoal g = ends way.Fail g
  about literal_deed.Intend g = looks (goals.first_goal false g p.agenda cur)
  about literal_deed.Desire g = looks (goals.first_goal true g p.agenda cur)
  about literal_deed.Abolish g = record { posts = tt }

  about_literal : (d : LiteralDeed) (o : Option (LiteralOf Term)) → Fit (spec.about_literal k asks p cur d o)
  about_literal d None = refuses (why.Argument 0)
  about_literal d (Some g) = about d g

  about_term : (d : LiteralDeed) (o : Option Term) → Fit (spec.about_term k asks p cur d o)
  about_term d None = refuses (why.Argument 0)
  about_term d (Some t) = about_literal d (literal_of t)

  acts_by : (args : List (ArgOf Expr)) (o : Option Action) → Fit (spec.act_by k asks p cur peers args o)
  acts_by args (Some (action.Does (deed.OnLiteral d))) = about_term d (sending.term_at args 0)
  acts_by args (Some (action.Does deed.Send)) = sends args (sending.letter peers.names args) (addressed peers.names args)
  acts_by args (Some (action.Does deed.Broadcast)) = spreads_verb args (sending.verb_at args 0)
  acts_by args (Some (action.Does deed.StopMas)) = record { posts = tt }
  acts_by args other = refuses (why.Argument 0)

  acts : (c : CallOf Expr) → Fit (spec.act k asks p cur peers c)
  acts c = acts_by c.args (actions.named c.name)

pub deed_posts : (k : Surroundings) (peers : Peers) (asks : ℕ) (p : Circumstance) (cur : List Means) (c : CallOf Expr)
    → AreFrom peers.me (length peers.names) (spec.act_inside k peers asks p cur c).acted
unfolding spec.act_inside
deed_posts k peers asks p cur c = (acts k peers asks p cur c).posts
