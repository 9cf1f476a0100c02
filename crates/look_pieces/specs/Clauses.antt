-- The plans of a source.
use Rattle.std.specs.Prelude.{Bool, true, false, ◌&&◌, List}
use Rattle.std.specs.Bool.{beq}
use Rattle.std.specs.List.{list_any}
use Rattle.asl_term.specs.declared.syntax.LiteralOf.{LiteralOf}
use Rattle.asl_term.specs.declared.syntax.Term.{Term}
use Rattle.asl_term.specs.declared.syntax.Kind.{Kind}
use Rattle.asl_term.specs.declared.syntax.Kind.TheVariants.{Belief, Achieve, Test}
use Rattle.asl_term.specs.declared.syntax.Trigger.{Trigger}
use Rattle.asl_parser.specs.declared.sentence.Sentence.{Sentence}
use Rattle.asl_parser.specs.declared.sentence.Sentence.TheVariants as said
use Rattle.look_pieces.specs.declared.clause.ReadClause.{ReadClause}
use Rattle.look_pieces.specs.Names.{same_name}

abbrev pub same_kind : Kind → Kind → Bool
same_kind Belief Belief = true
same_kind Achieve Achieve = true
same_kind Test Test = true
same_kind a b = false

-- for events of this kind, about this name
abbrev pub is_trigger_of : Bool → Kind → LiteralOf Term → Trigger → Bool
is_trigger_of add kind l t = beq t.add add && same_kind t.kind kind && same_name t.lit l

abbrev pub is_plan_in : Bool → Kind → LiteralOf Term → Sentence → Bool
is_plan_in add kind l (said.Plan p) = is_trigger_of add kind l p.trigger
is_plan_in add kind l (said.Belief b) = false
is_plan_in add kind l (said.Rule r) = false
is_plan_in add kind l (said.Goal g) = false

abbrev pub is_plan_for : Bool → Kind → LiteralOf Term → ReadClause → Bool
is_plan_for add kind l c = is_plan_in add kind l c.said

-- some clause of the source is a plan for events of this kind about the name of the literal
abbrev pub has_plan : List ReadClause → Bool → Kind → LiteralOf Term → Bool
has_plan cs add kind l = list_any (is_plan_for add kind l) cs
