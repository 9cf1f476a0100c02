-- Terms that become numbers.
use Rattle.std.specs.Prelude.{◌≡◌, ℤ, int_le, int_lt, Bool, true, not, Ok, List, Option, Some, None, cond}
use Rattle.std.specs.Ordering.{int_eq}
use Rattle.asl_term.specs.declared.syntax.Op.{Op}
use Rattle.asl_term.specs.declared.syntax.Op.TheVariants.{Add, Sub, Mul, Div, Mod}
use Rattle.asl_term.specs.declared.syntax.RelOp.{RelOp}
use Rattle.asl_term.specs.declared.syntax.RelOp.TheVariants.{Less, LessEq, More, MoreEq, Same, Differ, Unify}
use Rattle.asl_term.specs.declared.syntax.Term.{Term}
use Rattle.asl_term.specs.declared.syntax.Term.TheVariants as term
use Rattle.asl_unify.specs.declared.subst.Pair.{Pair}
use Rattle.asl_unify.specs.Puts.{apply}
use Rattle.asl_unify.specs.Limits.{within}
use Rattle.asl_unify.specs.Settling.{settle, value}
use Rattle.asl_unify.specs.Comparing.{related}

-- what the pairs make of a term is within the limits, and settles to this number
pub record BecomesNumber (s : List Pair) (t : Term) (n : ℤ) : Type 0 where
  pub inside : within (apply s t) ≡ true
  pub settles : settle (apply s t) ≡ Ok (term.Num n)

-- a relation between two numbers holds, and changes nothing, or doesn't hold
abbrev pub IsRelated : RelOp → ℤ → ℤ → Bool → Type 0
IsRelated op m n b = (s : List Pair) → related op (term.Num m) (term.Num n) s ≡ cond b (Some s) None

-- whether it holds; of `=` it is not said
abbrev pub of_numbers : RelOp → ℤ → ℤ → Option Bool
of_numbers Unify m n = None
of_numbers Same m n = Some (int_eq m n)
of_numbers Differ m n = Some (not (int_eq m n))
of_numbers Less m n = Some (int_lt m n)
of_numbers LessEq m n = Some (int_le m n)
of_numbers More m n = Some (int_lt n m)
of_numbers MoreEq m n = Some (int_le n m)

-- what a sum, a difference or a product gives, where it lies in 64 bits; of the others it is not said
abbrev pub computed : Op → ℤ → ℤ → Option ℤ
computed Add m n = value Add m n
computed Sub m n = value Sub m n
computed Mul m n = value Mul m n
computed Div m n = None
computed Mod m n = None
