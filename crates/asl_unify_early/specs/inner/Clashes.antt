-- Topmost layers that nothing unifies, and literals that have no match.
use Rattle.std.specs.Prelude.{◌≡◌, ℕ, Bool, true, false, not, List, [], ◌∷◌, Option, Some, None}
use Rattle.std.specs.List.{slice_get}
use Rattle.std.specs.Ordering.{int_eq}
use Rattle.asl_term.specs.declared.syntax.LiteralOf.{LiteralOf}
use Rattle.asl_term.specs.declared.syntax.Term.{Term}
use Rattle.asl_term.specs.declared.syntax.Term.TheOpen.{Term-F}
use Rattle.asl_term.specs.declared.syntax.Term.TheOpen as layer
use Rattle.asl_term.specs.declared.syntax.Term.TheViews.{out-Term}
use Rattle.asl_unify.specs.declared.subst.Pair.{Pair}
use Rattle.asl_unify.specs.Compare.{same_head}
use Rattle.asl_unify.specs.Matches.{matches}
use Rattle.asl_unify.specs.Cursors.{matches_left}
use Rattle.asl_unify.specs.Puts.{IsSubst}
use Rattle.asl_unify.specs.Renamed.{renamed_literal}

abbrev pub is_nil : List Term → Option Term → Bool
is_nil [] None = true
is_nil xs t = false

-- a list of nothing, and one with items
abbrev pub lists_clash : List Term → Option Term → List Term → Option Term → Bool
lists_clash [] None (y ∷ ys) u = true
lists_clash (x ∷ xs) t [] None = true
lists_clash xs t ys u = false

abbrev pub layers_clash : Term-F Term → Term-F Term → Bool
layers_clash (layer.Num m) (layer.Num k) = not (int_eq m k)
layers_clash (layer.Lit l) (layer.Lit m) = not (same_head l m)
layers_clash (layer.List l) (layer.List m) = lists_clash l.items l.tail m.items m.tail
layers_clash y z = false

-- at some place the topmost layers of two lists of terms are such
pub record HasClash (xs ys : List Term) : Type 0 where
  pub place : ℕ
  pub left : Term
  pub right : Term
  pub at_left : slice_get xs place ≡ Some left
  pub at_right : slice_get ys place ≡ Some right
  pub clash : layers_clash (out-Term left) (out-Term right) ≡ true

-- no match, and none left at any cursor
abbrev pub HasNoMatch : LiteralOf Term → LiteralOf Term → Type 0
HasNoMatch p q = (s : List Pair) → IsSubst s → (matches p q s ≡ []) × ((at : List ℕ) → matches_left p q s at ≡ [])

-- a literal has no match with another one, as it is and whatever number its variables get
abbrev pub NeverMatch : LiteralOf Term → LiteralOf Term → Type 0
NeverMatch p q = HasNoMatch p q × ((number : ℕ) → HasNoMatch p (renamed_literal number q))

-- a literal has no match with another one, whatever number its variables get
abbrev pub NeverMatched : LiteralOf Term → LiteralOf Term → Type 0
NeverMatched p q = (number : ℕ) (s : List Pair) → IsSubst s → matches (renamed_literal number p) q s ≡ []
