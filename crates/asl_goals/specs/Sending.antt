-- The messages of `.send` and `.broadcast`.
use Rattle.std.specs.Prelude.{ℕ, ◌+◌, ◌||◌, Bool, true, false, cond, eqb, List, [], ◌∷◌, slice_get, Option, None, Some, is_some, Result, Ok, Err}
use Rattle.std.specs.Str.{bytes_eq}
use Rattle.asl_term.specs.Names.{place_of}
use Rattle.asl_term.specs.declared.syntax.ArgOf.{ArgOf}
use Rattle.asl_term.specs.declared.syntax.ArgOf.TheVariants as arg
use Rattle.asl_term.specs.declared.syntax.LiteralOf.{LiteralOf}
use Rattle.asl_term.specs.declared.syntax.Term.{Term}
use Rattle.asl_term.specs.declared.syntax.Expr.{Expr}
use Rattle.asl_unify.specs.Sealed.{sealed}
use Rattle.mas_mind.specs.declared.mind.Message.{Message}
use Rattle.mas_mind.specs.declared.mind.Verb.{Verb}
use Rattle.mas_mind.specs.declared.mind.Verb.TheVariants as verb
use Rattle.mas_mind.specs.Minds.{verb_text}
use Rattle.asl_exec_circumstance.specs.declared.peers.Peers.{Peers}
use Rattle.asl_exec_circumstance.specs.Contents.{literal_of, literals_of, ground_literals, is_atom, string_of, strings_of}
use Rattle.asl_goals.specs.declared.acted.Why.{Why}
use Rattle.asl_goals.specs.declared.acted.Why.TheVariants as why
use Rattle.asl_goals.specs.declared.letter.Letter.{Letter}

abbrev pub plain_arg : Option (ArgOf Expr) → Option Term
plain_arg (Some (arg.Plain t)) = Some t
plain_arg (Some (arg.Logic e)) = None
plain_arg None = None

-- the term at a place of the arguments
abbrev pub term_at : List (ArgOf Expr) → ℕ → Option Term
term_at args n = plain_arg (slice_get args n)

abbrev pub atom_literal : Option (LiteralOf Term) → Option (List ℕ)
atom_literal (Some l) = cond (is_atom l) (Some l.functor) None
atom_literal None = None

abbrev pub atom_term : Option Term → Option (List ℕ)
atom_term (Some t) = atom_literal (literal_of t)
atom_term None = None

-- the name of the atom at a place
abbrev pub atom_at : List (ArgOf Expr) → ℕ → Option (List ℕ)
atom_at args n = atom_term (term_at args n)

-- ---- the receiver

abbrev pub known : List ℕ → Option ℕ → Result ℕ Why
known name (Some n) = Ok n
known name None = Err (why.UnknownReceiver name)

abbrev pub receiver_named : List (List ℕ) → Option (List ℕ) → Result ℕ Why
receiver_named names (Some name) = known name (place_of names name)
receiver_named names None = Err (why.Argument 0)

-- an agent's name
abbrev pub receiver : List (List ℕ) → List (ArgOf Expr) → Result ℕ Why
receiver names args = receiver_named names (atom_at args 0)

-- ---- the verb

abbrev pub is_word : List ℕ → Verb → Bool
is_word name v = bytes_eq name (verb_text v)

abbrev pub verb_named : List ℕ → Option Verb
verb_named name =
    cond (is_word name verb.Tell) (Some verb.Tell)
    (cond (is_word name verb.Untell) (Some verb.Untell)
    (cond (is_word name verb.Achieve) (Some verb.Achieve)
    (cond (is_word name verb.Unachieve) (Some verb.Unachieve)
    (cond (is_word name verb.AskOne) (Some verb.AskOne)
    (cond (is_word name verb.AskAll) (Some verb.AskAll)
    (cond (is_word name verb.TellHow) (Some verb.TellHow)
    (cond (is_word name verb.UntellHow) (Some verb.UntellHow)
    (cond (is_word name verb.AskHow) (Some verb.AskHow) None))))))))

abbrev pub is_ask : Verb → Bool
is_ask verb.AskOne = true
is_ask verb.AskAll = true
is_ask verb.AskHow = true
is_ask other = false

abbrev pub verb_atom : Option (List ℕ) → Option Verb
verb_atom (Some name) = verb_named name
verb_atom None = None

-- the verb at a place
abbrev pub verb_at : List (ArgOf Expr) → ℕ → Option Verb
verb_at args n = verb_atom (atom_at args n)

-- ---- the content

-- rule: what a content has to be: for tell ground literals, for untell literals, for tellHow strings, for untellHow a string or an atom,
-- else a literal
abbrev pub fits : Verb → Term → Bool
fits verb.Tell t = is_some (ground_literals t)
fits verb.Untell t = is_some (literals_of t)
fits verb.TellHow t = is_some (strings_of t)
fits verb.UntellHow t = is_some (string_of t) || is_some (atom_literal (literal_of t))
fits other t = is_some (literal_of t)

abbrev pub content_of : Verb → ℕ → Option Term → Result Term Why
content_of v n None = Err (why.Argument n)
content_of v n (Some t) = cond (fits v (sealed t)) (Ok (sealed t)) (Err (why.Argument n))

-- rule: the sealed content at a place
abbrev pub content_at : Verb → List (ArgOf Expr) → ℕ → Result Term Why
content_at v args n = content_of v n (term_at args n)

-- ---- letters: receiver, verb and content of `.send`, asked in this order

abbrev pub with_content : ℕ → Verb → Result Term Why → Result Letter Why
with_content to v (Err e) = Err e
with_content to v (Ok t) = Ok (record { to = to; verb = v; content = t })

abbrev pub with_verb : ℕ → List (ArgOf Expr) → Option Verb → Result Letter Why
with_verb to args None = Err (why.Argument 1)
with_verb to args (Some v) = with_content to v (content_at v args 2)

abbrev pub with_receiver : List (ArgOf Expr) → Result ℕ Why → Result Letter Why
with_receiver args (Err e) = Err e
with_receiver args (Ok to) = with_verb to args (verb_at args 1)

-- rule: a letter, with receiver, verb and content tested in this order
abbrev pub letter : List (List ℕ) → List (ArgOf Expr) → Result Letter Why
letter names args = with_receiver args (receiver names args)

-- a letter as a message of this agent, with the number of an ask or 0
abbrev pub posted : ℕ → ℕ → Letter → Message
posted me number l = record { from = me; to = l.to; verb = l.verb; content = l.content; ask = number; reply = 0 }

-- ---- `.broadcast`: the same to every other agent, whose numbers are counted from n

abbrev pub to_others : ℕ → Verb → Term → ℕ → List (List ℕ) → List Message
to_others me v t n [] = []
to_others me v t n (name ∷ more) =
    let rest = to_others me v t (n + 1) more in
    cond (eqb n me) rest (posted me 0 (record { to = n; verb = v; content = t }) ∷ rest)

abbrev pub spread_content : Peers → Verb → Result Term Why → Result (List Message) Why
spread_content peers v (Err e) = Err e
spread_content peers v (Ok t) = Ok (to_others peers.me v t 1 peers.names)

-- rule .broadcast: no ask goes to all
abbrev pub spread_verb : Peers → List (ArgOf Expr) → Option Verb → Result (List Message) Why
spread_verb peers args None = Err (why.Argument 0)
spread_verb peers args (Some v) = cond (is_ask v) (Err (why.Argument 0)) (spread_content peers v (content_at v args 1))

abbrev pub spread : Peers → List (ArgOf Expr) → Result (List Message) Why
spread peers args = spread_verb peers args (verb_at args 0)
