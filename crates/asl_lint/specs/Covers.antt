-- When the trigger of a plan covers a goal.
use Rattle.std.specs.Prelude.{ℕ, ◌==◌, Bool, true, false, not, ◌&&◌, ◌||◌, cond, List, [], ◌∷◌, ◌++◌, map, length, take, drop, Option, Some, None, codes}
use Rattle.std.specs.Bool.{beq}
use Rattle.std.specs.List.{list_any, list_all}
use Rattle.std.specs.Ordering.{int_eq}
use Rattle.std.specs.Str.{bytes_eq}
use Rattle.asl_term.specs.declared.syntax.Var.{Var}
use Rattle.asl_term.specs.declared.syntax.LiteralOf.{LiteralOf}
use Rattle.asl_term.specs.declared.syntax.Term.{Term}
use Rattle.asl_term.specs.declared.syntax.Term.TheVariants as term
use Rattle.asl_term.specs.declared.syntax.Term.TheOpen.{Term-F}
use Rattle.asl_term.specs.declared.syntax.Term.TheOpen as layer
use Rattle.asl_term.specs.declared.syntax.Term.TheViews.{out-Term}
use Rattle.asl_term.specs.declared.syntax.Term.TheFolds.{fold-Term}
use Rattle.asl_term.specs.Trees.{same_var}
use Rattle.asl_term.specs.Same.{same_op, same_tree}
use Rattle.asl_term.specs.Variables.{occurs}
use Rattle.asl_lint.specs.declared.covers.Need.{Need}

-- What the variables of one term have to be for it to become another: a need for each place of a variable. None where no terms
-- for its variables make the two one tree.
abbrev pub Needs : Type 0
Needs = Option (List Need)

abbrev pub need : Var → Term → Need
need x t = record { var = x; term = t }

abbrev pub nothing_if : Bool → Needs
nothing_if b = cond b (Some []) None

abbrev pub both : Needs → Needs → Needs
both None more = None
both (Some ps) None = None
both (Some ps) (Some qs) = Some (ps ++ qs)

-- place by place; each part on the left is given as what it needs to become a term
abbrev pub all_need : List (Term → Needs) → List Term → Needs
all_need [] [] = Some []
all_need (f ∷ fs) (t ∷ ts) = both (f t) (all_need fs ts)
all_need fs ts = None

-- what is left of a list behind some of its items: its tail where no item is left
abbrev pub rest : List Term → Option Term → Term
rest [] (Some t) = t
rest items tail = term.List (record { items = items; tail = tail })

abbrev pub is_empty : List Term → Option Term → Bool
is_empty [] None = true
is_empty items tail = false

-- the end of a list: a list without a tail has to end, and a tail becomes what is left of the other
abbrev pub end_needs : Option (Term → Needs) → List Term → Option Term → Needs
end_needs None items tail = nothing_if (is_empty items tail)
end_needs (Some f) items tail = f (rest items tail)

abbrev pub list_needs : List (Term → Needs) → Option (Term → Needs) → List Term → Option Term → Needs
list_needs fs end items tail = both (all_need fs (take (length fs) items)) (end_needs end (drop (length fs) items) tail)

-- sign and functor agree
abbrev pub same_head : Bool → List ℕ → LiteralOf Term → Bool
same_head neg functor m = beq neg m.neg && bytes_eq functor m.functor

abbrev pub literal_needs : Bool → List ℕ → List (Term → Needs) → List (Term → Needs) → LiteralOf Term → Needs
literal_needs neg functor args annots m = cond (same_head neg functor m) (both (all_need args m.args) (all_need annots m.annots)) None

-- two terms of which the first is no variable
abbrev pub plain_needs : Term-F (Term → Needs) → Term-F Term → Needs
plain_needs (layer.Num m) (layer.Num n) = nothing_if (int_eq m n)
plain_needs (layer.Str a) (layer.Str b) = nothing_if (bytes_eq a b)
plain_needs (layer.Lit l) (layer.Lit m) = literal_needs l.neg l.functor l.args l.annots m
plain_needs (layer.List l) (layer.List m) = list_needs l.items l.tail m.items m.tail
plain_needs (layer.Op a) (layer.Op b) = cond (same_op a.op b.op) (both (a.left b.left) (a.right b.right)) None
plain_needs a b = None

abbrev pub needs_step : Term-F (Term → Needs) → Term → Needs
needs_step (layer.Var x) t = Some (need x t ∷ [])
needs_step other t = plain_needs other (out-Term t)

abbrev pub needs : Term → Term → Needs
needs = fold-Term (Term → Needs) needs_step

-- ---- one term for each variable

-- not two terms for one variable
abbrev pub agree : Need → Need → Bool
agree p q = not (same_var p.var q.var) || same_tree p.term q.term

abbrev pub one_each : List Need → Bool
one_each [] = true
one_each (p ∷ ps) = list_all (agree p) ps && one_each ps

abbrev pub can_be : Needs → Bool
can_be None = false
can_be (Some ps) = one_each ps

-- whether some terms for the variables on the left make both lists one
abbrev pub can_become : List Term → List Term → Bool
can_become hs gs = can_be (all_need (map needs hs) gs)

-- ---- triggers

abbrev pub var_in : Term-F Term → Option Var
var_in (layer.Var x) = Some x
var_in other = None

abbrev pub only_var : List Term → Option Var
only_var (t ∷ []) = var_in (out-Term t)
only_var other = None

abbrev pub is_source_of : LiteralOf Term → Bool
is_source_of l = not l.neg && bytes_eq l.functor (codes "source") && (length l.annots == 0)

abbrev pub source_in : Term-F Term → Option Var
source_in (layer.Lit l) = cond (is_source_of l) (only_var l.args) None
source_in other = None

abbrev pub stands_in : List Term → Option Var → Bool
stands_in args None = true
stands_in args (Some x) = list_any (occurs x) args

abbrev pub is_free_source : List Term → Term → Bool
is_free_source args a = not (stands_in args (source_in (out-Term a)))

-- no annotation, or `source(V)` alone with a variable V that stands in none of the arguments
abbrev pub from_any : List Term → List Term → Bool
from_any args [] = true
from_any args (a ∷ []) = is_free_source args a
from_any args other = false

-- rule: sign and functor agree, some terms for the variables of h make its arguments those of g, and h takes a goal from any source
abbrev pub covers : LiteralOf Term → LiteralOf Term → Bool
covers h g = same_head h.neg h.functor g && can_become h.args g.args && from_any h.args h.annots
