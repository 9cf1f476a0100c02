-- A match with a literal into which substitutions are still to be put, as a match of two literals that are no larger than
-- these: each pair is a question of its own, between a variable that stands for its term and the term.
use Rattle.std.specs.Prelude.{ℕ, ◌+◌, cond, Bool, false, ◌&&◌, List, [], ◌∷◌, ◌++◌, map, length, Option, Some, None}
use Rattle.asl_term.specs.Trees.{all, same_var as same}
use Rattle.asl_term.specs.declared.syntax.Var.{Var}
use Rattle.asl_term.specs.declared.syntax.LiteralOf.{LiteralOf}
use Rattle.asl_term.specs.declared.syntax.Term.{Term}
use Rattle.asl_term.specs.declared.syntax.Term.TheVariants as term
use Rattle.asl_unify.specs.declared.subst.Pair.{Pair}
use Rattle.asl_unify.specs.Renamed.{with_vars}
use Rattle.asl_unify.specs.Unifiers.{is_tidy}

-- a variable that no pair binds, and the one that stands for the term of the pair of a number: no two are one

abbrev pub free_name : Var → Var
free_name v = record { name = 118 ∷ v.name; number = v.number }

abbrev pub pair_name : ℕ → Var
pair_name k = record { name = 112 ∷ []; number = k }

-- the number of the first pair of a variable, where the first of the pairs has the number k
abbrev pub place : ℕ → List Pair → Var → Option ℕ
place k [] v = None
place k (p ∷ more) v = cond (same p.var v) (Some k) (place (k + 1) more v)

abbrev pub named : Option ℕ → Var → Var
named (Some k) other = pair_name k
named None other = other

-- a variable under substitutions that are put into a term one after another
abbrev pub name_in : ℕ → List (List Pair) → Var → Var
name_in k [] v = free_name v
name_in k (s ∷ rest) v = named (place k s v) (name_in (k + length s) rest v)

-- the two sides of the questions

abbrev pub left_sides : ℕ → List Pair → List Term
left_sides k [] = []
left_sides k (p ∷ more) = term.Var (pair_name k) ∷ left_sides (k + 1) more

abbrev pub right_sides : (Var → Var) → List Pair → List Term
right_sides f s = map (λ p. with_vars f p.term) s

abbrev pub lefts : ℕ → List (List Pair) → List Term
lefts k [] = []
lefts k (s ∷ rest) = left_sides k s ++ lefts (k + length s) rest

abbrev pub rights : ℕ → List (List Pair) → List Term
rights k [] = []
rights k (s ∷ rest) = right_sides (name_in k (s ∷ rest)) s ++ rights (k + length s) rest

-- the literal that is matched, and behind its arguments the variables of the pairs: terms that meet before the question of
-- theirs are one variable by then, and are compared once
abbrev pub pattern : List (List Pair) → LiteralOf Term → LiteralOf Term
pattern levels g = record {
  neg = false;
  functor = [];
  args = map (with_vars free_name) g.args ++ lefts 0 levels;
  annots = map (with_vars free_name) g.annots;
}

-- the one that is not built, and behind its arguments the terms of the pairs, with more annotations
abbrev pub target : List (List Pair) → LiteralOf Term → List Term → LiteralOf Term
target levels l more = record {
  neg = false;
  functor = [];
  args = map (with_vars (name_in 0 levels)) l.args ++ rights 0 levels;
  annots = map (with_vars (name_in 0 levels)) l.annots ++ map (with_vars free_name) more;
}

abbrev pub blank : LiteralOf Term
blank = record { neg = false; functor = []; args = []; annots = [] }

-- no list in a literal has a tail and no items
abbrev pub tidy_literal : LiteralOf Term → Bool
tidy_literal l = all (map is_tidy l.args) && all (map is_tidy l.annots)
