-- Terms and literals without arithmetic, and literals that are actions.
use Rattle.std.specs.Prelude.{Bool, true, false, ◌&&◌, List, [], ◌∷◌, map, if◌then◌else◌}
use Rattle.std.specs.Option.{option_map}
use Rattle.asl_term.specs.declared.syntax.LiteralOf.{LiteralOf}
use Rattle.asl_term.specs.declared.syntax.ListingOf.{ListingOf}
use Rattle.asl_term.specs.declared.syntax.Term.{Term}
use Rattle.asl_term.specs.declared.syntax.Term.TheOpen.{Term-F}
use Rattle.asl_term.specs.declared.syntax.Term.TheOpen as layer
use Rattle.asl_term.specs.declared.syntax.Term.TheFolds.{fold-Term}
use Rattle.asl_term.specs.Trees.{all, or_true}

-- a term without arithmetic
abbrev pub plain_step : Term-F Bool → Bool
plain_step (layer.Lit l) = all l.args && all l.annots
plain_step (layer.List l) = all l.items && or_true l.tail
plain_step (layer.Op a) = false
plain_step leaf = true

abbrev pub is_plain : Term → Bool
is_plain = fold-Term Bool plain_step

abbrev pub are_plain : List Term → Bool
are_plain ts = all (map is_plain ts)

abbrev pub is_plain_literal : LiteralOf Term → Bool
is_plain_literal l = are_plain l.args && are_plain l.annots

abbrev pub is_plain_listing : ListingOf Term → Bool
is_plain_listing l = are_plain l.items && or_true (option_map is_plain l.tail)

abbrev pub is_none : List Term → Bool
is_none [] = true
is_none (t ∷ ts) = false

-- a positive literal without annotations is an action
abbrev pub is_action : LiteralOf Term → Bool
is_action l = if l.neg then false else is_none l.annots
