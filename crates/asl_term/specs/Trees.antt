-- What the functions on terms compute.
use Rattle.std.specs.Prelude.{ℕ, ◌+◌, ◌==◌, Bool, true, false, ◌&&◌, List, [], ◌∷◌, sum, min, max, Option, Some, None}
use Rattle.std.specs.Str.{bytes_eq}
use Rattle.asl_term.specs.declared.syntax.Var.{Var}
use Rattle.asl_term.specs.declared.syntax.Term.{Term}
use Rattle.asl_term.specs.declared.syntax.Term.TheOpen.{Term-F}
use Rattle.asl_term.specs.declared.syntax.Term.TheOpen as layer
use Rattle.asl_term.specs.declared.syntax.Term.TheFolds.{fold-Term}
use Rattle.asl_term.specs.Layers.{made}

-- a number that is answered as 2^64 - 1 where it is greater
abbrev pub capped : ℕ → ℕ
capped n = min n 18446744073709551615

abbrev pub or_zero : Option ℕ → ℕ
or_zero (Some n) = n
or_zero None = 0

abbrev pub greatest : List ℕ → ℕ
greatest [] = 0
greatest (n ∷ ns) = max n (greatest ns)

abbrev pub all : List Bool → Bool
all [] = true
all (b ∷ bs) = b && all bs

abbrev pub or_true : Option Bool → Bool
or_true (Some b) = b
or_true None = true

-- the number of nodes, from those of the parts
abbrev pub size_step : Term-F ℕ → ℕ
size_step (layer.Lit l) = 1 + sum l.args + sum l.annots
size_step (layer.List l) = 1 + sum l.items + or_zero l.tail
size_step (layer.Op a) = 1 + a.left + a.right
size_step leaf = 1

abbrev pub size : Term → ℕ
size = fold-Term ℕ size_step

abbrev pub depth_step : Term-F ℕ → ℕ
depth_step (layer.Lit l) = 1 + max (greatest l.args) (greatest l.annots)
depth_step (layer.List l) = 1 + max (greatest l.items) (or_zero l.tail)
depth_step (layer.Op a) = 1 + max a.left a.right
depth_step leaf = 1

abbrev pub depth : Term → ℕ
depth = fold-Term ℕ depth_step

abbrev pub ground_step : Term-F Bool → Bool
ground_step (layer.Var v) = false
ground_step (layer.Lit l) = all l.args && all l.annots
ground_step (layer.List l) = all l.items && or_true l.tail
ground_step (layer.Op a) = a.left && a.right
ground_step leaf = true

abbrev pub is_ground : Term → Bool
is_ground = fold-Term Bool ground_step

-- each variable replaced by a term
abbrev pub with_terms_step : (Var → Term) → Term-F Term → Term
with_terms_step h (layer.Var v) = h v
with_terms_step h other = made other

abbrev pub with_terms : (Var → Term) → Term → Term
with_terms h = fold-Term Term (with_terms_step h)

-- whether two variables are one
abbrev pub same_var : Var → Var → Bool
same_var a b = (a.number == b.number) && bytes_eq a.name b.name
