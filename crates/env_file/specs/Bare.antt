-- Terms, and what clauses say, without annotations.
use Rattle.std.specs.Prelude.{◌≡◌, Bool, true, false, ◌&&◌, List, [], ◌∷◌, Some}
use Rattle.std.specs.List.{list_all}
use Rattle.asl_term.specs.declared.syntax.LiteralOf.{LiteralOf}
use Rattle.asl_term.specs.declared.syntax.Term.{Term}
use Rattle.asl_term.specs.declared.syntax.Term.TheVariants as term
use Rattle.asl_term.specs.declared.syntax.Term.TheOpen.{Term-F}
use Rattle.asl_term.specs.declared.syntax.Term.TheOpen as layer
use Rattle.asl_term.specs.declared.syntax.Term.TheFolds.{fold-Term}
use Rattle.asl_term.specs.Trees.{all, or_true}
use Rattle.env_file.specs.declared.statement.Part.{Part}
use Rattle.env_file.specs.declared.statement.Part.TheVariants.{Holds, Denied, Related}
use Rattle.env_file.specs.declared.statement.Effect.{Effect}
use Rattle.env_file.specs.declared.statement.Effect.TheVariants.{Added, Deleted, Dropped}
use Rattle.env_file.specs.declared.statement.Statement.{Statement}
use Rattle.env_file.specs.declared.statement.Statement.TheVariants as statement
use Rattle.env_file.specs.Guards.{guard_parts}

abbrev pub are_none : List Bool → Bool
are_none [] = true
are_none (b ∷ bs) = false

abbrev pub bare_step : Term-F Bool → Bool
bare_step (layer.Lit l) = all l.args && are_none l.annots
bare_step (layer.List l) = all l.items && or_true l.tail
bare_step (layer.Op a) = a.left && a.right
bare_step leaf = true

-- no literal in a term has annotations
abbrev pub is_bare : Term → Bool
is_bare = fold-Term Bool bare_step

abbrev pub is_bare_literal : LiteralOf Term → Bool
is_bare_literal l = is_bare (term.Lit l)

abbrev pub is_bare_part : Part → Bool
is_bare_part (Holds l) = is_bare_literal l
is_bare_part (Denied l) = is_bare_literal l
is_bare_part (Related r) = is_bare r.left && is_bare r.right

abbrev pub is_bare_effect : Effect → Bool
is_bare_effect (Added l) = is_bare_literal l
is_bare_effect (Deleted l) = is_bare_literal l
is_bare_effect (Dropped name) = true

-- no literal of a statement has annotations
abbrev pub IsBare : Statement → Type 0
IsBare (statement.Fact l) = is_bare_literal l ≡ true
IsBare (statement.Hide name) = Unit {0}
IsBare (statement.Use name) = Unit {0}
IsBare (statement.Act a) =
    (is_bare_literal a.head ≡ true) × (list_all is_bare_effect a.effects ≡ true)
    × ((ps : List Part) → guard_parts a.guard ≡ Some ps → list_all is_bare_part ps ≡ true)
