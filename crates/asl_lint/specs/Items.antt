-- Whether an item of a plan holds: its goal, or what it sends.
use Rattle.std.specs.Prelude.{ℕ, Bool, true, false, not, ◌&&◌, ◌||◌, if◌then◌else◌, List, length, slice_get, Option, Some, None, codes}
use Rattle.std.specs.Str.{bytes_eq}
use Rattle.asl_term.specs.declared.syntax.LiteralOf.{LiteralOf}
use Rattle.asl_term.specs.declared.syntax.ArgOf.{ArgOf}
use Rattle.asl_term.specs.declared.syntax.ArgOf.TheVariants as arg
use Rattle.asl_term.specs.declared.syntax.CallOf.{CallOf}
use Rattle.asl_term.specs.declared.syntax.Expr.{Expr}
use Rattle.asl_term.specs.declared.syntax.Formula.{Formula}
use Rattle.asl_term.specs.declared.syntax.Formula.TheVariants as formula
use Rattle.asl_term.specs.declared.syntax.Plan.{Plan}
use Rattle.asl_term.specs.declared.syntax.AgentText.{AgentText}
use Rattle.asl_term.specs.declared.syntax.Term.{Term}
use Rattle.asl_term.specs.declared.syntax.Term.TheOpen.{Term-F}
use Rattle.asl_term.specs.declared.syntax.Term.TheOpen as layer
use Rattle.asl_term.specs.declared.syntax.Term.TheViews.{out-Term}
use Rattle.asl_term_actions.specs.declared.action.Action.{Action}
use Rattle.asl_term_actions.specs.declared.action.Action.TheVariants as action
use Rattle.asl_term_actions.specs.declared.action.Deed.TheVariants as deed
use Rattle.asl_term_actions.specs.Actions.{known}
use Rattle.asl_lint.specs.Goals.{is_atom, sent_to, achieved_by, achieves, tests}
use Rattle.asl_lint.specs.declared.goals.Receivers.{Receivers}
use Rattle.asl_lint.specs.declared.goals.Receivers.TheVariants.{All}

-- ---- what is sent

abbrev pub is_word : List ℕ → LiteralOf Term → Bool
is_word word l = is_atom l && bytes_eq l.functor word

-- what is sent as a goal is no variable; a literal is covered, and nothing else becomes a goal
abbrev pub goal_in : List AgentText → Receivers → Term-F Term → Bool
goal_in texts to (layer.Var x) = false
goal_in texts to (layer.Lit g) = achieved_by texts to g
goal_in texts to other = true

abbrev pub sends_by : List AgentText → Receivers → LiteralOf Term → Term → Bool
sends_by texts to verb content =
    if is_word (codes "achieve") verb then goal_in texts to (out-Term content)
    else not (is_word (codes "tellHow") verb || is_word (codes "askHow") verb)

-- the verb is no variable, and neither tells nor asks for plans; what it sends as a goal is covered
abbrev pub verb_in : List AgentText → Receivers → Term-F Term → Term → Bool
verb_in texts to (layer.Var x) content = false
verb_in texts to (layer.Lit verb) content = sends_by texts to verb content
verb_in texts to other content = true

abbrev pub sends : List AgentText → Receivers → Term → Term → Bool
sends texts to verb content = verb_in texts to (out-Term verb) content

-- ---- items

abbrev pub plain_in : Option (ArgOf Expr) → Option Term
plain_in (Some (arg.Plain t)) = Some t
plain_in (Some (arg.Logic e)) = None
plain_in None = None

-- the term at a place of the arguments
abbrev pub term_at : List (ArgOf Expr) → ℕ → Option Term
term_at args n = plain_in (slice_get args n)

abbrev pub send_holds : List (List ℕ) → List AgentText → Option Term → Option Term → Option Term → Bool
send_holds names texts (Some to) (Some verb) (Some content) = sends texts (sent_to names to) verb content
send_holds names texts to verb content = true

abbrev pub broadcast_holds : List AgentText → Option Term → Option Term → Bool
broadcast_holds texts (Some verb) (Some content) = sends texts All verb content
broadcast_holds texts verb content = true

-- `.send(R, V, C)` or `.send(R, V, C, A)`, and `.broadcast(V, C)` (other calls send nothing)
abbrev pub sent_holds : List (List ℕ) → List AgentText → List (ArgOf Expr) → Option Action → Bool
sent_holds names texts args (Some (action.Does deed.Send)) = send_holds names texts (term_at args 0) (term_at args 1) (term_at args 2)
sent_holds names texts args (Some (action.Does deed.Broadcast)) = broadcast_holds texts (term_at args 0) (term_at args 1)
sent_holds names texts args other = true

abbrev pub call_holds : List (List ℕ) → List AgentText → CallOf Expr → Bool
call_holds names texts c = sent_holds names texts c.args (known c.name (length c.args))

-- rule: whether lint lets an item of a plan's body pass
abbrev pub item_holds : List (List ℕ) → List AgentText → List Plan → Formula → Bool
item_holds names texts plans (formula.Achieve g) = achieves plans g
item_holds names texts plans (formula.Spawn g) = achieves plans g
item_holds names texts plans (formula.Test g) = tests plans g
item_holds names texts plans (formula.Inner c) = call_holds names texts c
item_holds names texts plans other = true
