-- The first match of a literal with a goal, which may be kept as the two of them.
use Rattle.std.specs.Prelude.{List, [], Option, slice_get}
use Rattle.std.specs.Option.{unwrap_or}
use Rattle.asl_term.specs.declared.syntax.LiteralOf.{LiteralOf}
use Rattle.asl_term.specs.declared.syntax.Term.{Term}
use Rattle.asl_unify.specs.declared.subst.Pair.{Pair}
use Rattle.asl_unify.specs.Matches.{matches}
use Rattle.asl_intend.specs.declared.goal_match.MatchForm.{MatchForm}
use Rattle.asl_intend.specs.declared.goal_match.MatchForm.TheVariants as form
use Rattle.asl_intend.specs.Entries.{seen}

abbrev pub first_of : LiteralOf Term → LiteralOf Term → Option (List Pair)
first_of g l = slice_get (matches g l []) 0

-- no pairs where there is none
abbrev pub first_found : LiteralOf Term → LiteralOf Term → List Pair
first_found g l = unwrap_or (first_of g l) []

abbrev pub found : MatchForm → List Pair
found (form.Put s) = s
found (form.Kept g e log) = first_found g (seen log e).trigger.lit
