-- Lists of facts.
use Rattle.std.specs.Prelude.{◌≡◌, Bool, true, false, not, ◌&&◌, if◌then◌else◌, List, [], ◌∷◌, ◌++◌, filter}
use Rattle.std.specs.List.{list_any, list_all, IsDistinct}
use Rattle.asl_term.specs.Same.{same_tree}
use Rattle.asl_term.specs.Trees.{all, or_true}
use Rattle.asl_term.specs.declared.syntax.LiteralOf.{LiteralOf}
use Rattle.asl_term.specs.declared.syntax.Term.{Term}
use Rattle.asl_term.specs.declared.syntax.Term.TheVariants as term
use Rattle.asl_term.specs.declared.syntax.Term.TheOpen.{Term-F}
use Rattle.asl_term.specs.declared.syntax.Term.TheOpen as layer
use Rattle.asl_term.specs.declared.syntax.Term.TheFolds.{fold-Term}
use Rattle.mas_mind.specs.Minds.{are_ground}

-- two literals are one fact where they are the same tree
abbrev pub same_fact : LiteralOf Term → LiteralOf Term → Bool
same_fact f g = same_tree (term.Lit f) (term.Lit g)

abbrev pub is_fact : List (LiteralOf Term) → LiteralOf Term → Bool
is_fact facts f = list_any (same_fact f) facts

-- those that are not there yet, in order, each once
abbrev pub news : List (LiteralOf Term) → List (LiteralOf Term) → List (LiteralOf Term)
news facts [] = []
news facts (f ∷ more) = if is_fact facts f then news facts more else f ∷ news (facts ++ f ∷ []) more

-- those that are not taken away
abbrev pub without : List (LiteralOf Term) → List (LiteralOf Term) → List (LiteralOf Term)
without dels facts = filter (λ f. not (is_fact dels f)) facts

-- whether no operation stands in a term
abbrev pub settled_step : Term-F Bool → Bool
settled_step (layer.Op a) = false
settled_step (layer.Lit l) = all l.args && all l.annots
settled_step (layer.List l) = all l.items && or_true l.tail
settled_step leaf = true

abbrev pub is_settled : Term → Bool
is_settled = fold-Term Bool settled_step

abbrev pub is_settled_literal : LiteralOf Term → Bool
is_settled_literal l = is_settled (term.Lit l)

-- literals without variables and operations
pub record ArePlain (ls : List (LiteralOf Term)) : Type 0 where
  pub ground : are_ground ls ≡ true
  pub settled : list_all is_settled_literal ls ≡ true

-- rule: and no two of which are the same
pub record AreFacts (facts : List (LiteralOf Term)) : Type 0 where
  pub grounded : are_ground facts ≡ true
  pub settled : list_all is_settled_literal facts ≡ true
  pub distinct : IsDistinct same_fact facts
