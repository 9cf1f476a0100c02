-- Whether a goal is covered at an agent, and at all agents that it is sent to.
use Rattle.std.specs.Prelude.{ℕ, ◌-◌, ◌==◌, Bool, true, false, not, ◌&&◌, if◌then◌else◌, List, length, slice_get, Option, Some, None}
use Rattle.std.specs.List.{list_any, list_all}
use Rattle.asl_term.specs.Names.{place_of}
use Rattle.asl_term.specs.declared.syntax.LiteralOf.{LiteralOf}
use Rattle.asl_term.specs.declared.syntax.Kind.{Kind}
use Rattle.asl_term.specs.declared.syntax.Kind.TheVariants as kind
use Rattle.asl_term.specs.declared.syntax.Plan.{Plan}
use Rattle.asl_term.specs.declared.syntax.AgentText.{AgentText}
use Rattle.asl_term.specs.declared.syntax.Term.{Term}
use Rattle.asl_term.specs.declared.syntax.Term.TheOpen.{Term-F}
use Rattle.asl_term.specs.declared.syntax.Term.TheOpen as layer
use Rattle.asl_term.specs.declared.syntax.Term.TheViews.{out-Term}
use Rattle.asl_lint.specs.Covers.{covers}
use Rattle.asl_lint.specs.declared.goals.Receivers.{Receivers}
use Rattle.asl_lint.specs.declared.goals.Receivers.TheVariants.{All, One, Nobody}

abbrev pub is_achieve : Kind → Bool
is_achieve kind.Achieve = true
is_achieve kind.Belief = false
is_achieve kind.Test = false

abbrev pub is_test : Kind → Bool
is_test kind.Test = true
is_test kind.Belief = false
is_test kind.Achieve = false

-- some plan for +!h has an h that covers g; and so for +?h

abbrev pub achieves : List Plan → LiteralOf Term → Bool
achieves plans g = list_any (λ p. p.trigger.add && is_achieve p.trigger.kind && covers p.trigger.lit g) plans

abbrev pub tests : List Plan → LiteralOf Term → Bool
tests plans g = list_any (λ p. p.trigger.add && is_test p.trigger.kind && covers p.trigger.lit g) plans

-- ---- receivers

-- an atom is a positive literal without arguments and annotations
abbrev pub is_atom : LiteralOf Term → Bool
is_atom l = not l.neg && (length l.args == 0) && (length l.annots == 0)

abbrev pub one_of : Option ℕ → Receivers
one_of (Some n) = One n
one_of None = Nobody

-- every agent where the receiver is a variable, the agent that an atom names, and nobody else
abbrev pub sent_in : List (List ℕ) → Term-F Term → Receivers
sent_in names (layer.Var x) = All
sent_in names (layer.Lit l) = if is_atom l then one_of (place_of names l.functor) else Nobody
sent_in names other = Nobody

abbrev pub sent_to : List (List ℕ) → Term → Receivers
sent_to names t = sent_in names (out-Term t)

-- whether a goal is covered at one agent, and at all that it may be sent to

abbrev pub achieved_at : Option AgentText → LiteralOf Term → Bool
achieved_at (Some text) g = achieves text.plans g
achieved_at None g = true

abbrev pub achieved_by : List AgentText → Receivers → LiteralOf Term → Bool
achieved_by texts All g = list_all (λ text. achieves text.plans g) texts
achieved_by texts (One n) g = achieved_at (slice_get texts (n - 1)) g
achieved_by texts Nobody g = true
