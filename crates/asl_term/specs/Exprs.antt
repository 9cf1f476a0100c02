-- Sizes, depths and texts of literals, expressions and formulas.
use Rattle.std.specs.Prelude.{ℕ, ◌+◌, Bool, List, ◌++◌, map, sum, max, codes}
use Rattle.asl_term.specs.declared.syntax.LiteralOf.{LiteralOf}
use Rattle.asl_term.specs.declared.syntax.RelOp.{RelOp}
use Rattle.asl_term.specs.declared.syntax.RelOp.TheVariants.{Less, LessEq, More, MoreEq, Same, Differ, Unify}
use Rattle.asl_term.specs.declared.syntax.Relation.{Relation}
use Rattle.asl_term.specs.declared.syntax.ArgOf.{ArgOf}
use Rattle.asl_term.specs.declared.syntax.ArgOf.TheVariants.{Plain, Logic}
use Rattle.asl_term.specs.declared.syntax.CallOf.{CallOf}
use Rattle.asl_term.specs.declared.syntax.Term.{Term}
use Rattle.asl_term.specs.declared.syntax.Term.TheVariants as term
use Rattle.asl_term.specs.declared.syntax.Expr.{Expr}
use Rattle.asl_term.specs.declared.syntax.Expr.TheVariants as expr
use Rattle.asl_term.specs.declared.syntax.Expr.TheOpen.{Expr-F}
use Rattle.asl_term.specs.declared.syntax.Expr.TheOpen as layer
use Rattle.asl_term.specs.declared.syntax.Expr.TheFolds.{fold-Expr}
use Rattle.asl_term.specs.declared.syntax.Formula.{Formula}
use Rattle.asl_term.specs.declared.syntax.Formula.TheVariants as formula
use Rattle.asl_term.specs.Trees as tree
use Rattle.asl_term.specs.Texts as texts

-- a literal is measured and printed as the term that it is
abbrev pub literal_size : LiteralOf Term → ℕ
literal_size l = tree.size (term.Lit l)

abbrev pub literal_depth : LiteralOf Term → ℕ
literal_depth l = tree.depth (term.Lit l)

abbrev pub is_ground_literal : LiteralOf Term → Bool
is_ground_literal l = tree.is_ground (term.Lit l)

abbrev pub literal_text : LiteralOf Term → List ℕ
literal_text l = texts.text (term.Lit l)

-- an argument, with a function of the expression in it
abbrev pub map_arg : {A B : Type 0} → (A → B) → ArgOf A → ArgOf B
map_arg f (Plain t) = Plain t
map_arg f (Logic e) = Logic (f e)

abbrev pub arg_size : ArgOf ℕ → ℕ
arg_size (Plain t) = tree.size t
arg_size (Logic n) = n

-- the number of nodes, from those of the parts: a literal has no node beside its own
abbrev pub size_step : Expr-F ℕ → ℕ
size_step (layer.Holds l) = literal_size l
size_step (layer.Rel r) = 1 + tree.size r.left + tree.size r.right
size_step (layer.Inner c) = 1 + sum (map arg_size c.args)
size_step (layer.Not e) = 1 + e
size_step (layer.And a b) = 1 + a + b
size_step (layer.Or a b) = 1 + a + b
size_step leaf = 1

abbrev pub size : Expr → ℕ
size = fold-Expr ℕ size_step

abbrev pub arg_depth : ArgOf ℕ → ℕ
arg_depth (Plain t) = tree.depth t
arg_depth (Logic n) = n

-- the number of levels, in the same way
abbrev pub depth_step : Expr-F ℕ → ℕ
depth_step (layer.Holds l) = literal_depth l
depth_step (layer.Rel r) = 1 + max (tree.depth r.left) (tree.depth r.right)
depth_step (layer.Inner c) = 1 + tree.greatest (map arg_depth c.args)
depth_step (layer.Not e) = 1 + e
depth_step (layer.And a b) = 1 + max a b
depth_step (layer.Or a b) = 1 + max a b
depth_step leaf = 1

abbrev pub depth : Expr → ℕ
depth = fold-Expr ℕ depth_step

-- a relation and a call are measured as the expressions that they are
abbrev pub relation_size : Relation → ℕ
relation_size r = size (expr.Rel r)

abbrev pub relation_depth : Relation → ℕ
relation_depth r = depth (expr.Rel r)

abbrev pub call_size : CallOf Expr → ℕ
call_size c = size (expr.Inner c)

abbrev pub call_depth : CallOf Expr → ℕ
call_depth c = depth (expr.Inner c)

abbrev pub rel_text : RelOp → List ℕ
rel_text Less = codes "<"
rel_text LessEq = codes "<="
rel_text More = codes ">"
rel_text MoreEq = codes ">="
rel_text Same = codes "=="
rel_text Differ = codes "\\=="
rel_text Unify = codes "="

-- a relation stands in brackets
abbrev pub relation_text : Relation → List ℕ
relation_text r = codes "(" ++ texts.text r.left ++ codes " " ++ rel_text r.op ++ codes " " ++ texts.text r.right ++ codes ")"

abbrev pub arg_text : ArgOf (List ℕ) → List ℕ
arg_text (Plain t) = texts.text t
arg_text (Logic t) = t

-- the text of an expression: `&` and `|` stand in brackets, an internal action has a dot
abbrev pub text_step : Expr-F (List ℕ) → List ℕ
text_step layer.True = codes "true"
text_step layer.False = codes "false"
text_step (layer.Holds l) = literal_text l
text_step (layer.Rel r) = relation_text r
text_step (layer.Inner c) = codes "." ++ c.name ++ texts.between 40 41 (map arg_text c.args)
text_step (layer.Not e) = codes "not " ++ e
text_step (layer.And a b) = codes "(" ++ a ++ codes " & " ++ b ++ codes ")"
text_step (layer.Or a b) = codes "(" ++ a ++ codes " | " ++ b ++ codes ")"

abbrev pub text : Expr → List ℕ
text = fold-Expr (List ℕ) text_step

-- a call is printed as the expression that it is
abbrev pub call_text : CallOf Expr → List ℕ
call_text c = text (expr.Inner c)

-- the text of a formula of a body: its sign and its literal, a relation or a call
abbrev pub formula_text : Formula → List ℕ
formula_text (formula.Achieve l) = codes "!" ++ literal_text l
formula_text (formula.Spawn l) = codes "!!" ++ literal_text l
formula_text (formula.Test l) = codes "?" ++ literal_text l
formula_text (formula.Add l) = codes "+" ++ literal_text l
formula_text (formula.Del l) = codes "-" ++ literal_text l
formula_text (formula.Replace l) = codes "-+" ++ literal_text l
formula_text (formula.Act l) = literal_text l
formula_text (formula.Inner c) = call_text c
formula_text (formula.Rel r) = relation_text r
