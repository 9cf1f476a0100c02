-- The numbers and texts of expressions at their variants.
use Rattle.std.proofs.Common.{◌≡◌, ℕ, ◌+◌, List, ◌++◌, map, max, sum}
use Rattle.std.specs.Prelude.{codes}
use Rattle.asl_term.specs.declared.syntax.Expr.{Expr}
use Rattle.asl_term.specs.declared.syntax.CallOf.{CallOf}
use Rattle.asl_term.specs.declared.syntax.Relation.{Relation}
use Rattle.asl_term.specs.declared.syntax.Expr.TheVariants as expr
use Rattle.asl_term.specs.Exprs.{map_arg}
use Rattle.asl_term.specs.Trees as tree
use Rattle.asl_term.specs.Texts as texts
use Rattle.asl_term.specs.Exprs as spec
use Rattle.asl_term.proofs.Exprs.{fold_rel, fold_inner, fold_not, fold_and, fold_or}

pub size_relation : (r : Relation) → spec.size (expr.Rel r) ≡ 1 + tree.size r.left + tree.size r.right
size_relation = fold_rel ℕ spec.size_step

pub depth_relation : (r : Relation) → spec.depth (expr.Rel r) ≡ 1 + max (tree.depth r.left) (tree.depth r.right)
depth_relation = fold_rel ℕ spec.depth_step

pub size_inner : (c : CallOf Expr) → spec.size (expr.Inner c) ≡ 1 + sum (map spec.arg_size (map (map_arg spec.size) c.args))
size_inner = fold_inner ℕ spec.size_step

pub depth_inner : (c : CallOf Expr) → spec.depth (expr.Inner c) ≡ 1 + tree.greatest (map spec.arg_depth (map (map_arg spec.depth) c.args))
depth_inner = fold_inner ℕ spec.depth_step

pub text_inner : (c : CallOf Expr) → spec.text (expr.Inner c) ≡ codes "." ++ c.name ++ texts.between 40 41 (map spec.arg_text (map (map_arg spec.text) c.args))
text_inner = fold_inner (List ℕ) spec.text_step

pub text_not : (e : Expr) → spec.text (expr.Not e) ≡ codes "not " ++ spec.text e
text_not = fold_not (List ℕ) spec.text_step

pub text_and : (a b : Expr) → spec.text (expr.And a b) ≡ codes "(" ++ spec.text a ++ codes " & " ++ spec.text b ++ codes ")"
text_and = fold_and (List ℕ) spec.text_step

pub text_or : (a b : Expr) → spec.text (expr.Or a b) ≡ codes "(" ++ spec.text a ++ codes " | " ++ spec.text b ++ codes ")"
text_or = fold_or (List ℕ) spec.text_step

-- the texts of the variants
pub ruleset texts_of = (text_inner, text_not, text_and, text_or)
