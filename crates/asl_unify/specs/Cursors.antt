-- Where a search for annotation matches stands: a cursor has for each pattern in hand the place of the held term that is next for it.
use Rattle.std.specs.Prelude.{ℕ, zero, suc, List, [], ◌∷◌, ◌++◌, drop, Option, Some, None, cond}
use Rattle.std.specs.List.{slice_get, flat_map}
use Rattle.asl_unify.specs.declared.subst.Pair.{Pair}
use Rattle.asl_term.specs.declared.syntax.LiteralOf.{LiteralOf}
use Rattle.asl_term.specs.declared.syntax.Term.{Term}
use Rattle.asl_unify.specs.Compare.{ask, asks, same_frame}
use Rattle.asl_unify.specs.Unified.{unified}
use Rattle.asl_unify.specs.Matches.{agreed, on_unified, annots}

-- the patterns after the first
abbrev pub later : List Term → List Term
later [] = []
later (p ∷ ps) = ps

-- the matches where the first pattern has only these terms left
abbrev pub from : List Term → List Term → List Pair → List Term → List (List Pair)
from [] held s rest = s ∷ []
from (p ∷ ps) held s rest = flat_map (λ q. on_unified (annots ps held) (unified s (ask p q ∷ []))) rest

-- the term before a place
abbrev pub term_before : List Term → ℕ → Option Term
term_before held zero = None
term_before held (suc k) = slice_get held k

-- the substitution to which the first pattern comes with a term, where there are both and they unify
abbrev pub meets : List Term → Option Term → List Pair → Option (List Pair)
meets [] q s = None
meets (p ∷ ps) None s = None
meets (p ∷ ps) (Some q) s = agreed (unified s (ask p q ∷ []))

-- what follows the substitution, if there is one
abbrev pub on_some : (List Pair → List (List Pair)) → Option (List Pair) → List (List Pair)
on_some f None = []
on_some f (Some t) = f t

-- the matches that a cursor has left: those where the first pattern has met the term before its place, and the later ones stand at the
-- later places; then those where it meets the terms from its place on. Of no places there is none
abbrev pub annots_left : List Term → List Term → List Pair → List ℕ → List (List Pair)
annots_left ps held s [] = []
annots_left ps held s (k ∷ up) = on_some (λ t. annots_left (later ps) held t up) (meets ps (term_before held k) s) ++ from ps held s (drop k held)

-- the same of literals whose sign, functor, argument count and arguments agree
abbrev pub matches_left : LiteralOf Term → LiteralOf Term → List Pair → List ℕ → List (List Pair)
matches_left p q s at = cond (same_frame p q) (on_unified (λ t. annots_left p.annots q.annots t at) (unified s (asks p.args q.args []))) []

-- where all matches are left
abbrev pub start : List ℕ
start = zero ∷ []
