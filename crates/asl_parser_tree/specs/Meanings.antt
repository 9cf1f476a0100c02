-- What expressions mean, as terms and as formulas.
use Rattle.std.specs.Prelude.{ℕ, suc, pos, Bool, true, false, not, ◌||◌, ◌==◌, List, [], ◌∷◌, length, Option, Some, None, codes, if◌then◌else◌}
use Rattle.std.specs.Option.{option_map, option_map_or}
use Rattle.asl_term.specs.declared.syntax.Op.{Op}
use Rattle.asl_term.specs.declared.syntax.Op.TheVariants.{Sub}
use Rattle.asl_term.specs.declared.syntax.RelOp.{RelOp}
use Rattle.asl_term.specs.declared.syntax.LiteralOf.{LiteralOf}
use Rattle.asl_term.specs.declared.syntax.ArgOf.{ArgOf}
use Rattle.asl_term.specs.declared.syntax.ArgOf.TheVariants.{Plain, Logic}
use Rattle.asl_term.specs.declared.syntax.Term.{Term}
use Rattle.asl_term.specs.declared.syntax.Term.TheVariants as term
use Rattle.asl_term.specs.declared.syntax.Expr.{Expr}
use Rattle.asl_term.specs.declared.syntax.Expr.TheVariants as expr
use Rattle.asl_term_actions.specs.declared.action.Action.{Action}
use Rattle.asl_term_actions.specs.declared.action.Action.TheVariants as action
use Rattle.asl_term_actions.specs.declared.action.Collector.TheVariants as collector
use Rattle.asl_term_actions.specs.Actions.{named, known, stands_in_formula}
use Rattle.asl_parser_tree.specs.declared.meaning.Meaning.{Meaning}
use Rattle.asl_parser_tree.specs.declared.meaning.Meaning.TheVariants as meaning
use Rattle.asl_parser_tree.specs.declared.meaning.Joint.{Joint}
use Rattle.asl_parser_tree.specs.declared.meaning.Joint.TheVariants as joint
use Rattle.asl_parser_tree.specs.declared.meaning.Prefix.{Prefix}
use Rattle.asl_parser_tree.specs.declared.meaning.Prefix.TheVariants as prefix

infixl 10 ◌>>=◌
abbrev pub ◌>>=◌ : {A B : Type 0} → Option A → (A → Option B) → Option B
None >>= f = None
(Some x) >>= f = f x

abbrev pub atom : List ℕ → LiteralOf Term
atom name = record { neg = false; functor = name; args = []; annots = [] }

abbrev pub truth_name : Bool → List ℕ
truth_name b = if b then codes "true" else codes "false"

-- the word as an expression of its own
abbrev pub truth : Bool → Meaning
truth b = meaning.Truth b (atom (truth_name b))

-- ---- calls of internal actions

-- rule: an internal action that stands in a formula, and takes so many arguments
unfoldable pub is_pure : List ℕ → ℕ → Bool
is_pure name count = option_map_or stands_in_formula (known name count) false

-- rule: an internal action that stands in the body of a plan alone, and takes so many arguments
unfoldable pub is_deed : List ℕ → ℕ → Bool
is_deed name count = option_map_or (λ a. not (stands_in_formula a)) (known name count) false

abbrev pub formula_at : Option Action → ℕ → Bool
formula_at (Some (action.Collects collector.Findall)) place = place == 1
formula_at (Some (action.Collects collector.Count)) place = place == 0
formula_at other place = false

-- rule: whether the argument at a place, counted from 0, is a formula: the second of `findall` and the first of `count`
unfoldable pub wants_formula : List ℕ → ℕ → Bool
wants_formula name place = formula_at (named name) place

-- ---- terms and formulas

-- rule: what an expression is as a term
abbrev pub as_term : Meaning → Option Term
as_term (meaning.Truth b l) = Some (term.Lit l)
as_term (meaning.Literal l) = Some (term.Lit l)
as_term (meaning.Term t) = Some t
as_term (meaning.Relation r) = None
as_term (meaning.Call c) = None
as_term (meaning.Formula e) = None

-- rule: what an expression is as a formula, which holds no action of a body
abbrev pub as_formula : Meaning → Option Expr
as_formula (meaning.Truth b l) = Some (if b then expr.True else expr.False)
as_formula (meaning.Literal l) = Some (expr.Holds l)
as_formula (meaning.Term t) = None
as_formula (meaning.Relation r) = Some (expr.Rel r)
as_formula (meaning.Call c) = if is_pure c.name (length c.args) then Some (expr.Inner c) else None
as_formula (meaning.Formula e) = Some e

abbrev pub as_terms : List Meaning → Option (List Term)
as_terms [] = Some []
as_terms (m ∷ ms) = do
  t ← as_term m
  ts ← as_terms ms
  Some (t ∷ ts)

-- ---- what is made of parts

abbrev pub arith : Op → Term → Term → Term
arith op left right = term.Op (record { op = op; left = left; right = right })

abbrev pub either_of : Expr → Expr → Expr
either_of left right = expr.Or left right

abbrev pub both_of : Expr → Expr → Expr
both_of left right = expr.And left right

abbrev pub both_terms : Meaning → Meaning → Option (Term × Term)
both_terms l r = do
  a ← as_term l
  b ← as_term r
  Some (a, b)

abbrev pub both_formulas : Meaning → Meaning → Option (Expr × Expr)
both_formulas l r = do
  a ← as_formula l
  b ← as_formula r
  Some (a, b)

-- two operands and what stands between them
unfoldable pub joined : Joint → Meaning → Meaning → Option Meaning
joined joint.Or l r = both_formulas l r >>= λ x. Some (meaning.Formula (either_of x.0 x.1))
joined joint.And l r = both_formulas l r >>= λ x. Some (meaning.Formula (both_of x.0 x.1))
joined (joint.Arith op) l r = both_terms l r >>= λ x. Some (meaning.Term (arith op x.0 x.1))

-- two terms and a relation between them
unfoldable pub compared : RelOp → Meaning → Meaning → Option Meaning
compared op l r = both_terms l r >>= λ x. Some (meaning.Relation (record { op = op; left = x.0; right = x.1 }))

-- `-` before an operand subtracts it from 0
unfoldable pub prefixed : Prefix → Meaning → Option Meaning
prefixed prefix.Not m = as_formula m >>= λ e. Some (meaning.Formula (expr.Not e))
prefixed prefix.Minus m = as_term m >>= λ t. Some (meaning.Term (arith Sub (term.Num (pos 0)) t))

-- an argument, a formula where one is wanted
abbrev pub as_arg : Bool → Meaning → Option (ArgOf Expr)
as_arg true m = option_map Logic (as_formula m)
as_arg false m = option_map Plain (as_term m)

-- the arguments from a place on
unfoldable pub as_args : List ℕ → ℕ → List Meaning → Option (List (ArgOf Expr))
as_args name place [] = Some []
as_args name place (m ∷ ms) = do
  a ← as_arg (wants_formula name place) m
  others ← as_args name (suc place) ms
  Some (a ∷ others)

-- rule: a call of an internal action that is known with so many arguments
unfoldable pub called : List ℕ → List Meaning → Option Meaning
called name ms =
    if is_pure name (length ms) || is_deed name (length ms)
    then (as_args name 0 ms >>= λ args. Some (meaning.Call (record { name = name; args = args }))) else None
