-- A number for each term, which is the same for the same terms, and seldom so for others.
use Rattle.std.specs.Prelude.{ℕ, ◌+◌, ◌*◌, ◌%◌, ◌^◌, unsigned_abs, List, [], ◌∷◌, map}
use Rattle.asl_term.specs.Trees.{or_zero}
use Rattle.asl_term.specs.declared.syntax.Term.{Term}
use Rattle.asl_term.specs.declared.syntax.Term.TheOpen.{Term-F}
use Rattle.asl_term.specs.declared.syntax.Term.TheOpen as layer
use Rattle.asl_term.specs.declared.syntax.Term.TheFolds.{fold-Term}

-- one number of two: the first is spread by a prime before the second is added
unfoldable pub mix : ℕ → ℕ → ℕ
mix a b = (a * 1099511628211 % 2 ^ 64 + b) % 2 ^ 64

-- a number with those of a list, in order
abbrev pub mixed : ℕ → List ℕ → ℕ
mixed n [] = n
mixed n (k ∷ more) = mixed (mix n k) more

abbrev pub print_step : Term-F ℕ → ℕ
print_step (layer.Num n) = mix 1 (unsigned_abs n)
print_step (layer.Str s) = mixed 2 s
print_step (layer.Var v) = mix 3 v.number
print_step (layer.Lit l) = mixed (mixed (mixed 4 l.functor) l.args) l.annots
print_step (layer.List l) = mix (mixed 5 l.items) (or_zero l.tail)
print_step (layer.Op a) = mix (mix 6 a.left) a.right

abbrev pub print : Term → ℕ
print = fold-Term ℕ print_step

-- the number of a functor with arguments
abbrev pub key_print : List ℕ → List Term → ℕ
key_print functor args = mixed (mixed 7 functor) (map print args)
