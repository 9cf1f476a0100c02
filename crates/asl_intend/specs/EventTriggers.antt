-- The trigger of an event, into which substitutions are still to be put where it is large.
use Rattle.std.specs.Prelude.{◌≡◌, false, [], ◌∷◌, length}
use Rattle.asl_term.specs.declared.syntax.Var.{Var}
use Rattle.asl_term.specs.declared.syntax.LiteralOf.{LiteralOf}
use Rattle.asl_term.specs.declared.syntax.Term.{Term}
use Rattle.asl_term.specs.declared.syntax.Trigger.{Trigger}
use Rattle.asl_unify.specs.Puts.{put}
use Rattle.asl_intend.specs.declared.event_trigger.Form.{Form}
use Rattle.asl_intend.specs.declared.event_trigger.Form.TheVariants as form
use Rattle.asl_intend.specs.Entries.{seen}
use Rattle.asl_intend.specs.Stacks.{with_annots}

-- with what is still to be put into it
abbrev pub filled : Form → Trigger
filled (form.Built t) = t
filled (form.Kept e log) = (seen log e).trigger

-- the deletion of the same, with one more annotation
abbrev pub told : Term → Trigger → Trigger
told error t = record { add = false; kind = t.kind; lit = with_annots (error ∷ []) t.lit }

-- two literals of one sign, functor and number of arguments
abbrev pub HasFrameOf : LiteralOf Term → LiteralOf Term → Type 0
HasFrameOf l m = (l.neg ≡ m.neg) × (l.functor ≡ m.functor) × (length l.args ≡ length m.args)

-- nothing can be put into it
abbrev pub Stays : Term → Type 0
Stays t = (h : Var → Term) → put h t ≡ t
