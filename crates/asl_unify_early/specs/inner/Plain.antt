-- Terms that hold no operation.
use Rattle.std.specs.Prelude.{Bool, true, false, ◌&&◌, map}
use Rattle.asl_term.specs.Trees.{all, or_true}
use Rattle.asl_term.specs.declared.syntax.LiteralOf.{LiteralOf}
use Rattle.asl_term.specs.declared.syntax.Term.{Term}
use Rattle.asl_term.specs.declared.syntax.Term.TheOpen.{Term-F}
use Rattle.asl_term.specs.declared.syntax.Term.TheOpen as layer
use Rattle.asl_term.specs.declared.syntax.Term.TheFolds.{fold-Term}

abbrev pub plain_step : Term-F Bool → Bool
plain_step (layer.Lit l) = all l.args && all l.annots
plain_step (layer.List l) = all l.items && or_true l.tail
plain_step (layer.Op a) = false
plain_step leaf = true

-- whether a term holds no operation
abbrev pub is_plain : Term → Bool
is_plain = fold-Term Bool plain_step

abbrev pub is_plain_literal : LiteralOf Term → Bool
is_plain_literal l = all (map is_plain l.args) && all (map is_plain l.annots)
