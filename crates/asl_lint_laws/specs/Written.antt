-- Terms as a reader makes them, and terms without the variables of a number.
use Rattle.std.specs.Prelude.{◌≡◌, ℕ, true, List}
use Rattle.std.specs.List.{AllByRecursion}
use Rattle.asl_term.specs.declared.syntax.Var.{Var}
use Rattle.asl_term.specs.declared.syntax.LiteralOf.{LiteralOf}
use Rattle.asl_term.specs.declared.syntax.Term.{Term}
use Rattle.asl_term.specs.Variables.{occurs}
use Rattle.asl_parser_tree.specs.Plain.{is_plain}
use Rattle.asl_unify.specs.Unifiers.{is_tidy}
use Rattle.asl_beliefs.specs.Sources.{names_source}
use Rattle.asl_lint.specs.Instances.{AreMerged}

-- what holds of each variable of a term
abbrev pub AllVars : (Var → Type 0) → Term → Type 0
AllVars P t = (x : Var) → occurs x t ≡ true → P x

-- a term without arithmetic as a reader makes it: its variables have no number, and no list has a tail and no items
pub record IsWritten (t : Term) : Type 0 where
  pub unnumbered : AllVars (λ x. x.number ≡ 0) t
  pub tidy : is_tidy t ≡ true
  pub plain : is_plain t ≡ true

abbrev pub AreWritten : List Term → Type 0
AreWritten = AllByRecursion IsWritten

-- no variable of a term has the number n
abbrev pub IsFresh : ℕ → Term → Type 0
IsFresh n = AllVars (λ x. x.number ≡ n → ⊥)

abbrev pub AreFresh : ℕ → List Term → Type 0
AreFresh n = AllByRecursion (IsFresh n)

-- a literal apart from all that is renamed by n, its lists merged
pub record IsApart (n : ℕ) (g : LiteralOf Term) : Type 0 where
  pub args : AreFresh n g.args
  pub annots : AreFresh n g.annots
  pub merged_args : AreMerged g.args
  pub merged_annots : AreMerged g.annots

-- the literal of a goal's event names a source
abbrev pub IsSourced : LiteralOf Term → Type 0
IsSourced g = names_source g.annots ≡ true
