-- Which trees have names, numbers and strings that a source can write.
use Rattle.std.specs.Prelude.{ℕ, Bool, true, false, not, ◌&&◌, ◌||◌, ◌==◌, List, [], ◌∷◌, map, Option, Some, None, codes}
use Rattle.std.specs.List.{list_all}
use Rattle.std.specs.Str.{bytes_eq}
use Rattle.asl_term.specs.declared.syntax.LiteralOf.{LiteralOf}
use Rattle.asl_term.specs.declared.syntax.Relation.{Relation}
use Rattle.asl_term.specs.declared.syntax.ArgOf.{ArgOf}
use Rattle.asl_term.specs.declared.syntax.ArgOf.TheVariants.{Plain, Logic}
use Rattle.asl_term.specs.declared.syntax.Var.{Var}
use Rattle.asl_term.specs.declared.syntax.Term.{Term}
use Rattle.asl_term.specs.declared.syntax.Term.TheVariants as term
use Rattle.asl_term.specs.declared.syntax.Term.TheOpen.{Term-F}
use Rattle.asl_term.specs.declared.syntax.Term.TheOpen as layer
use Rattle.asl_term.specs.declared.syntax.Term.TheFolds.{fold-Term}
use Rattle.asl_term.specs.declared.syntax.Expr.{Expr}
use Rattle.asl_term.specs.declared.syntax.Expr.TheVariants as expr
use Rattle.asl_term.specs.declared.syntax.Expr.TheOpen.{Expr-F}
use Rattle.asl_term.specs.declared.syntax.Expr.TheOpen as expr_layer
use Rattle.asl_term.specs.declared.syntax.Expr.TheFolds.{fold-Expr}
use Rattle.asl_term.specs.declared.syntax.Formula.{Formula}
use Rattle.asl_term.specs.declared.syntax.Formula.TheVariants as formula
use Rattle.asl_term.specs.declared.syntax.Clause.{Clause}
use Rattle.asl_term.specs.declared.syntax.Plan.{Plan}
use Rattle.asl_term.specs.declared.syntax.AgentText.{AgentText}
use Rattle.asl_term.specs.Trees.{all, or_true}
use Rattle.asl_term.specs.Texts.{is_unnamed}
use Rattle.asl_lexer.specs.declared.token.Word.{Word}
use Rattle.asl_lexer.specs.declared.token.Word.TheVariants as words
use Rattle.asl_lexer.specs.Words.{atom_word}
use Rattle.asl_lexer.specs.Bare.{is_atom, is_var, is_written_number, is_written_byte}

-- a variable of a source has number 0; the unnamed ones have names of their own, and `_` is not the name of one
abbrev pub is_written_var : Var → Bool
is_written_var v = v.number == 0 && (is_unnamed v.name || (is_var v.name && not (bytes_eq v.name (codes "_"))))

-- which words are functors: `true` and `false` only where they stand alone
abbrev pub is_functor_word : Bool → Word → Bool
is_functor_word alone words.Atom = true
is_functor_word alone words.True = alone
is_functor_word alone words.False = alone
is_functor_word alone _ = false

abbrev pub is_functor : Bool → List ℕ → Bool
is_functor alone text = is_atom text && is_functor_word alone (atom_word text)

abbrev pub is_nil : {A : Type 0} → List A → Bool
is_nil [] = true
is_nil (x ∷ xs) = false

-- a functor and nothing else
abbrev pub is_alone : {A : Type 0} → LiteralOf A → Bool
is_alone l = not l.neg && (is_nil l.args && is_nil l.annots)

abbrev pub spelled_step : Term-F Bool → Bool
spelled_step (layer.Num n) = is_written_number n
spelled_step (layer.Str s) = list_all is_written_byte s
spelled_step (layer.Var v) = is_written_var v
spelled_step (layer.Lit l) = is_functor (is_alone l) l.functor && (all l.args && all l.annots)
spelled_step (layer.List l) = all l.items && or_true l.tail
spelled_step (layer.Op a) = a.left && a.right

abbrev pub is_spelled : Term → Bool
is_spelled = fold-Term Bool spelled_step

-- ---- expressions

-- a literal that is no term: its functor is no reserved word
abbrev pub is_spelled_literal : LiteralOf Term → Bool
is_spelled_literal l = is_functor false l.functor && is_spelled (term.Lit l)

abbrev pub is_spelled_relation : Relation → Bool
is_spelled_relation r = is_spelled r.left && is_spelled r.right

abbrev pub is_spelled_arg : ArgOf Bool → Bool
is_spelled_arg (Plain t) = is_spelled t
is_spelled_arg (Logic e) = e

abbrev pub spelled_expr_step : Expr-F Bool → Bool
spelled_expr_step (expr_layer.Holds l) = is_spelled_literal l
spelled_expr_step (expr_layer.Rel r) = is_spelled_relation r
spelled_expr_step (expr_layer.Inner c) = is_atom c.name && all (map is_spelled_arg c.args)
spelled_expr_step (expr_layer.Not e) = e
spelled_expr_step (expr_layer.And a b) = a && b
spelled_expr_step (expr_layer.Or a b) = a && b
spelled_expr_step constant = true

abbrev pub is_spelled_expr : Expr → Bool
is_spelled_expr = fold-Expr Bool spelled_expr_step

abbrev pub is_spelled_formula : Formula → Bool
is_spelled_formula (formula.Achieve l) = is_spelled_literal l
is_spelled_formula (formula.Spawn l) = is_spelled_literal l
is_spelled_formula (formula.Test l) = is_spelled_literal l
is_spelled_formula (formula.Add l) = is_spelled_literal l
is_spelled_formula (formula.Del l) = is_spelled_literal l
is_spelled_formula (formula.Replace l) = is_spelled_literal l
is_spelled_formula (formula.Act l) = is_spelled_literal l
is_spelled_formula (formula.Inner c) = is_spelled_expr (expr.Inner c)
is_spelled_formula (formula.Rel r) = is_spelled_relation r

-- ---- clauses

abbrev pub is_spelled_rule : Clause → Bool
is_spelled_rule r = is_spelled_literal r.head && is_spelled_expr r.body

-- a label may be a reserved word
abbrev pub is_spelled_label : Option (List ℕ) → Bool
is_spelled_label None = true
is_spelled_label (Some label) = is_atom label

abbrev pub is_spelled_plan : Plan → Bool
is_spelled_plan p =
    is_spelled_label p.label
    && (is_spelled_literal p.trigger.lit && (is_spelled_expr p.context && list_all is_spelled_formula p.body))

abbrev pub is_spelled_agent : AgentText → Bool
is_spelled_agent a =
    list_all is_spelled_literal a.beliefs
    && (list_all is_spelled_rule a.rules && (list_all is_spelled_literal a.goals && list_all is_spelled_plan a.plans))
