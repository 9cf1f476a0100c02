-- Whether two terms are the same tree.
use Rattle.std.specs.Prelude.{Bool, true, false, ◌&&◌, List, [], ◌∷◌, Option, Some, None}
use Rattle.std.specs.Bool.{beq}
use Rattle.std.specs.Ordering.{int_eq}
use Rattle.std.specs.Str.{bytes_eq}
use Rattle.asl_term.specs.declared.syntax.Op.{Op}
use Rattle.asl_term.specs.declared.syntax.Op.TheVariants.{Add, Sub, Mul, Div, Mod}
use Rattle.asl_term.specs.declared.syntax.Term.{Term}
use Rattle.asl_term.specs.declared.syntax.Term.TheOpen.{Term-F}
use Rattle.asl_term.specs.declared.syntax.Term.TheOpen as layer
use Rattle.asl_term.specs.declared.syntax.Term.TheViews.{out-Term}
use Rattle.asl_term.specs.declared.syntax.Term.TheFolds.{fold-Term}
use Rattle.asl_term.specs.Trees.{same_var}

abbrev pub same_op : Op → Op → Bool
same_op Add Add = true
same_op Sub Sub = true
same_op Mul Mul = true
same_op Div Div = true
same_op Mod Mod = true
same_op a b = false

-- each part on the left is given as the test for it
abbrev pub all_same : List (Term → Bool) → List Term → Bool
all_same [] [] = true
all_same (is ∷ tests) (t ∷ ts) = is t && all_same tests ts
all_same tests ts = false

abbrev pub same_tail : Option (Term → Bool) → Option Term → Bool
same_tail None None = true
same_tail (Some is) (Some t) = is t
same_tail is t = false

abbrev pub same_layer : Term-F (Term → Bool) → Term-F Term → Bool
same_layer (layer.Num m) (layer.Num n) = int_eq m n
same_layer (layer.Str b) (layer.Str c) = bytes_eq b c
same_layer (layer.Var v) (layer.Var w) = same_var v w
same_layer (layer.Lit l) (layer.Lit m) = beq l.neg m.neg && bytes_eq l.functor m.functor && all_same l.args m.args && all_same l.annots m.annots
same_layer (layer.List l) (layer.List m) = all_same l.items m.items && same_tail l.tail m.tail
same_layer (layer.Op a) (layer.Op b) = same_op a.op b.op && a.left b.left && a.right b.right
same_layer x y = false

abbrev pub same_tree : Term → Term → Bool
same_tree = fold-Term (Term → Bool) (λ y t. same_layer y (out-Term t))
