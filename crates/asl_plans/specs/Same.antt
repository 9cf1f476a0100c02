-- Whether two plans are the same tree.
use Rattle.std.specs.Prelude.{ℕ, Bool, true, false, ◌&&◌, List, [], ◌∷◌, Option, Some, None}
use Rattle.std.specs.Bool.{beq}
use Rattle.std.specs.Str.{bytes_eq}
use Rattle.asl_term.specs.declared.syntax.ArgOf.{ArgOf}
use Rattle.asl_term.specs.declared.syntax.ArgOf.TheVariants.{Plain, Logic}
use Rattle.asl_term.specs.declared.syntax.LiteralOf.{LiteralOf}
use Rattle.asl_term.specs.declared.syntax.Term.{Term}
use Rattle.asl_term.specs.declared.syntax.Term.TheVariants as term
use Rattle.asl_term.specs.declared.syntax.RelOp.{RelOp}
use Rattle.asl_term.specs.declared.syntax.RelOp.TheVariants.{Less, LessEq, More, MoreEq, Same, Differ, Unify}
use Rattle.asl_term.specs.declared.syntax.Relation.{Relation}
use Rattle.asl_term.specs.declared.syntax.Expr.{Expr}
use Rattle.asl_term.specs.declared.syntax.Expr.TheVariants as expr
use Rattle.asl_term.specs.declared.syntax.Expr.TheOpen.{Expr-F}
use Rattle.asl_term.specs.declared.syntax.Expr.TheOpen as layer
use Rattle.asl_term.specs.declared.syntax.Expr.TheViews.{out-Expr}
use Rattle.asl_term.specs.declared.syntax.Expr.TheFolds.{fold-Expr}
use Rattle.asl_term.specs.declared.syntax.Formula.{Formula}
use Rattle.asl_term.specs.declared.syntax.Formula.TheVariants as formula
use Rattle.asl_term.specs.declared.syntax.Trigger.{Trigger}
use Rattle.asl_term.specs.declared.syntax.Plan.{Plan}
use Rattle.asl_term.specs.Same.{same_tree}
use Rattle.asl_plans.specs.Plans.{same_kind}

abbrev pub same_literal : LiteralOf Term → LiteralOf Term → Bool
same_literal l m = same_tree (term.Lit l) (term.Lit m)

abbrev pub same_rel_op : RelOp → RelOp → Bool
same_rel_op Less Less = true
same_rel_op LessEq LessEq = true
same_rel_op More More = true
same_rel_op MoreEq MoreEq = true
same_rel_op Same Same = true
same_rel_op Differ Differ = true
same_rel_op Unify Unify = true
same_rel_op a b = false

abbrev pub same_relation : Relation → Relation → Bool
same_relation r s = same_rel_op r.op s.op && same_tree r.left s.left && same_tree r.right s.right

-- ---- expressions: each part on the left is given as the test for it

abbrev pub same_arg : ArgOf (Expr → Bool) → ArgOf Expr → Bool
same_arg (Plain t) (Plain u) = same_tree t u
same_arg (Logic is) (Logic e) = is e
same_arg a b = false

abbrev pub all_args : List (ArgOf (Expr → Bool)) → List (ArgOf Expr) → Bool
all_args [] [] = true
all_args (is ∷ tests) (a ∷ args) = same_arg is a && all_args tests args
all_args tests args = false

abbrev pub same_layer : Expr-F (Expr → Bool) → Expr-F Expr → Bool
same_layer layer.True layer.True = true
same_layer layer.False layer.False = true
same_layer (layer.Holds l) (layer.Holds m) = same_literal l m
same_layer (layer.Rel r) (layer.Rel s) = same_relation r s
same_layer (layer.Inner c) (layer.Inner d) = bytes_eq c.name d.name && all_args c.args d.args
same_layer (layer.Not a) (layer.Not b) = a b
same_layer (layer.And a b) (layer.And c d) = a c && b d
same_layer (layer.Or a b) (layer.Or c d) = a c && b d
same_layer x y = false

abbrev pub same_expr : Expr → Expr → Bool
same_expr = fold-Expr (Expr → Bool) (λ y e. same_layer y (out-Expr e))

-- ---- plans

abbrev pub same_formula : Formula → Formula → Bool
same_formula (formula.Achieve l) (formula.Achieve m) = same_literal l m
same_formula (formula.Spawn l) (formula.Spawn m) = same_literal l m
same_formula (formula.Test l) (formula.Test m) = same_literal l m
same_formula (formula.Add l) (formula.Add m) = same_literal l m
same_formula (formula.Del l) (formula.Del m) = same_literal l m
same_formula (formula.Replace l) (formula.Replace m) = same_literal l m
same_formula (formula.Act l) (formula.Act m) = same_literal l m
same_formula (formula.Inner c) (formula.Inner d) = same_expr (expr.Inner c) (expr.Inner d)
same_formula (formula.Rel r) (formula.Rel s) = same_relation r s
same_formula f g = false

abbrev pub same_body : List Formula → List Formula → Bool
same_body [] [] = true
same_body (f ∷ fs) (g ∷ gs) = same_formula f g && same_body fs gs
same_body fs gs = false

abbrev pub same_trigger : Trigger → Trigger → Bool
same_trigger t u = beq t.add u.add && same_kind t.kind u.kind && same_literal t.lit u.lit

abbrev pub same_label : Option (List ℕ) → Option (List ℕ) → Bool
same_label None None = true
same_label (Some a) (Some b) = bytes_eq a b
same_label a b = false

-- with the same label and the same names of variables
abbrev pub same_plan : Plan → Plan → Bool
same_plan p q = same_label p.label q.label && same_trigger p.trigger q.trigger && same_expr p.context q.context && same_body p.body q.body
