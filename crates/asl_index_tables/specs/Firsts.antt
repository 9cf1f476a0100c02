-- A number for the first argument of a literal, by which clauses that can't match a goal are passed over.
use Rattle.std.specs.Prelude.{◌≡◌, ℕ, ◌<◌, ◌≤◌, ◌==◌, Bool, true, false, cond, unsigned_abs, List, [], ◌∷◌, length, Some}
use Rattle.std.specs.List.{slice_get}
use Rattle.asl_term.specs.declared.syntax.LiteralOf.{LiteralOf}
use Rattle.asl_term.specs.declared.syntax.Term.{Term}
use Rattle.asl_term.specs.declared.syntax.Term.TheOpen.{Term-F}
use Rattle.asl_term.specs.declared.syntax.Term.TheOpen as layer
use Rattle.asl_term.specs.declared.syntax.Term.TheViews.{out-Term}
use Rattle.asl_unify.specs.declared.subst.Pair.{Pair}
use Rattle.asl_unify.specs.Matches.{matches}
use Rattle.asl_unify.specs.Puts.{IsSubst}
use Rattle.asl_unify.specs.Renamed.{renamed_literal}
use Rattle.asl_index_tables.specs.Prints.{mix, mixed}

-- read off the topmost layer of a term; 0 where the layer tells nothing
abbrev pub layer_print : Term-F Term → ℕ
layer_print (layer.Num n) = mix 1 (unsigned_abs n)
layer_print (layer.Str s) = mixed 2 s
layer_print (layer.Lit l) = mix (mixed 4 l.functor) (length l.args)
layer_print y = 0

abbrev pub print_of : List Term → ℕ
print_of [] = 0
print_of (t ∷ more) = layer_print (out-Term t)

abbrev pub first_print : LiteralOf Term → ℕ
first_print l = print_of l.args

-- whether such numbers may be those of terms that unify
abbrev pub may_agree : ℕ → ℕ → Bool
may_agree a b = cond (a == 0) true (cond (b == 0) true (a == b))

-- a literal has no match with another one, whatever number the variables of that get
abbrev pub AreApart : LiteralOf Term → LiteralOf Term → Type 0
AreApart p q = (n : ℕ) (s : List Pair) → IsSubst s → matches p (renamed_literal n q) s ≡ []

-- another number is noted of a place
abbrev pub IsOther : ℕ → List ℕ → ℕ → Type 0
IsOther first firsts place = (f : ℕ) × (slice_get firsts place ≡ Some f) × (may_agree first f ≡ false)

-- another number is noted of each place from the k-th to before the n-th
abbrev pub AreOther : ℕ → List ℕ → List ℕ → ℕ → ℕ → Type 0
AreOther first firsts places k n = (i place : ℕ) → k ≤ i → i < n → slice_get places i ≡ Some place → IsOther first firsts place
