-- What the tokens of the texts of agents are to the grammar, where each unnamed variable keeps its own name. (No contract
-- speaks of it: the proofs of the laws do.)
use Rattle.std.specs.Prelude.{ℕ, suc, ℤ, pos, negsuc, Bool, true, false, List, [], ◌∷◌, ◌++◌, map, Option, Some, None, if◌then◌else◌}
use Rattle.std.specs.List.{flat_map}
use Rattle.asl_lexer.specs.declared.token.Sign as signs
use Rattle.asl_lexer.specs.declared.token.Sign.TheVariants as sign
use Rattle.asl_lexer.specs.Bare.{atom, bare_word}
use Rattle.asl_term.specs.declared.syntax.LiteralOf.{LiteralOf}
use Rattle.asl_term.specs.declared.syntax.Relation.{Relation}
use Rattle.asl_term.specs.declared.syntax.ArgOf.{ArgOf}
use Rattle.asl_term.specs.declared.syntax.ArgOf.TheVariants.{Plain, Logic}
use Rattle.asl_term.specs.declared.syntax.Op.{Op}
use Rattle.asl_term.specs.declared.syntax.Op.TheVariants.{Add, Sub, Mul, Div, Mod}
use Rattle.asl_term.specs.declared.syntax.Term.{Term}
use Rattle.asl_term.specs.declared.syntax.Term.TheVariants as term
use Rattle.asl_term.specs.declared.syntax.Term.TheOpen.{Term-F}
use Rattle.asl_term.specs.declared.syntax.Term.TheOpen as layer
use Rattle.asl_term.specs.declared.syntax.Term.TheFolds.{fold-Term}
use Rattle.asl_term.specs.declared.syntax.Expr.{Expr}
use Rattle.asl_term.specs.declared.syntax.Expr.TheVariants as expr
use Rattle.asl_term.specs.declared.syntax.Expr.TheOpen.{Expr-F}
use Rattle.asl_term.specs.declared.syntax.Expr.TheOpen as expr_layer
use Rattle.asl_term.specs.declared.syntax.Expr.TheFolds.{fold-Expr}
use Rattle.asl_term.specs.declared.syntax.Formula.{Formula}
use Rattle.asl_term.specs.declared.syntax.Formula.TheVariants as formula
use Rattle.asl_term.specs.declared.syntax.Kind.{Kind}
use Rattle.asl_term.specs.declared.syntax.Kind.TheVariants.{Belief, Achieve, Test}
use Rattle.asl_term.specs.declared.syntax.Trigger.{Trigger}
use Rattle.asl_term.specs.declared.syntax.Clause.{Clause}
use Rattle.asl_term.specs.declared.syntax.Plan.{Plan}
use Rattle.asl_parser_tree.specs.declared.lexeme.Lexeme.{Lexeme}
use Rattle.asl_parser_tree.specs.declared.lexeme.Lexeme.TheVariants as lexeme
use Rattle.asl_parser_tree.specs.Lexemes.{lexeme_of}
use Rattle.asl_print.specs.Tokens.{rel_sign}

abbrev pub mark : signs.Sign → Lexeme
mark s = lexeme.Sign s

-- a word that a functor or a label is
abbrev pub word : List ℕ → Lexeme
word text = lexeme_of 0 (bare_word (atom text)) text

-- ---- terms

abbrev pub op_shown : Op → Lexeme
op_shown Add = mark sign.Plus
op_shown Sub = mark sign.Minus
op_shown Mul = mark sign.Star
op_shown Div = lexeme.Div
op_shown Mod = lexeme.Mod

abbrev pub sign_shown : Bool → List Lexeme
sign_shown neg = if neg then mark sign.Tilde ∷ [] else []

abbrev pub commas_shown : List (List Lexeme) → List Lexeme
commas_shown [] = []
commas_shown (t ∷ ts) = t ++ flat_map (λ u. mark sign.Comma ∷ u) ts

-- between two marks, or nothing
abbrev pub between_shown : signs.Sign → signs.Sign → List (List Lexeme) → List Lexeme
between_shown first last [] = []
between_shown first last (t ∷ ts) = mark first ∷ (commas_shown (t ∷ ts) ++ mark last ∷ [])

abbrev pub tail_shown : Option (List Lexeme) → List Lexeme
tail_shown None = []
tail_shown (Some t) = mark sign.Bar ∷ t

abbrev pub num_shown : ℤ → List Lexeme
num_shown (pos n) = lexeme.Num n ∷ []
num_shown (negsuc n) = mark sign.Minus ∷ lexeme.Num (suc n) ∷ []

abbrev pub term_step : Term-F (List Lexeme) → List Lexeme
term_step (layer.Num n) = num_shown n
term_step (layer.Str s) = lexeme.Str s ∷ []
term_step (layer.Var v) = lexeme.Var v.name ∷ []
term_step (layer.Lit l) =
    sign_shown l.neg ++ word l.functor ∷ (between_shown sign.Open sign.Close l.args ++ between_shown sign.OpenSquare sign.CloseSquare l.annots)
term_step (layer.List l) = mark sign.OpenSquare ∷ (commas_shown l.items ++ (tail_shown l.tail ++ mark sign.CloseSquare ∷ []))
term_step (layer.Op a) = mark sign.Open ∷ (a.left ++ op_shown a.op ∷ (a.right ++ mark sign.Close ∷ []))

abbrev pub term_shown : Term → List Lexeme
term_shown = fold-Term (List Lexeme) term_step

-- ---- expressions

abbrev pub literal_shown : LiteralOf Term → List Lexeme
literal_shown l = term_shown (term.Lit l)

abbrev pub relation_shown : Relation → List Lexeme
relation_shown r = mark sign.Open ∷ (term_shown r.left ++ mark (rel_sign r.op) ∷ (term_shown r.right ++ mark sign.Close ∷ []))

abbrev pub arg_shown : ArgOf (List Lexeme) → List Lexeme
arg_shown (Plain t) = term_shown t
arg_shown (Logic e) = e

abbrev pub expr_step : Expr-F (List Lexeme) → List Lexeme
expr_step expr_layer.True = lexeme.Truth true ∷ []
expr_step expr_layer.False = lexeme.Truth false ∷ []
expr_step (expr_layer.Holds l) = literal_shown l
expr_step (expr_layer.Rel r) = relation_shown r
expr_step (expr_layer.Inner c) = lexeme.Inner c.name ∷ between_shown sign.Open sign.Close (map arg_shown c.args)
expr_step (expr_layer.Not e) = lexeme.Not ∷ e
expr_step (expr_layer.And a b) = mark sign.Open ∷ (a ++ mark sign.Ampersand ∷ (b ++ mark sign.Close ∷ []))
expr_step (expr_layer.Or a b) = mark sign.Open ∷ (a ++ mark sign.Bar ∷ (b ++ mark sign.Close ∷ []))

abbrev pub expr_shown : Expr → List Lexeme
expr_shown = fold-Expr (List Lexeme) expr_step

-- ---- formulas of bodies

abbrev pub formula_shown : Formula → List Lexeme
formula_shown (formula.Achieve l) = mark sign.Bang ∷ literal_shown l
formula_shown (formula.Spawn l) = mark sign.Bangs ∷ literal_shown l
formula_shown (formula.Test l) = mark sign.Question ∷ literal_shown l
formula_shown (formula.Add l) = mark sign.Plus ∷ literal_shown l
formula_shown (formula.Del l) = mark sign.Minus ∷ literal_shown l
formula_shown (formula.Replace l) = mark sign.MinusPlus ∷ literal_shown l
formula_shown (formula.Act l) = literal_shown l
formula_shown (formula.Inner c) = expr_shown (expr.Inner c)
formula_shown (formula.Rel r) = relation_shown r

abbrev pub body_shown : List Formula → List Lexeme
body_shown [] = []
body_shown (f ∷ fs) = mark sign.LeftArrow ∷ (formula_shown f ++ flat_map (λ g. mark sign.Semicolon ∷ formula_shown g) fs)

-- ---- clauses

abbrev pub belief_shown : LiteralOf Term → List Lexeme
belief_shown l = literal_shown l ++ lexeme.End ∷ []

abbrev pub rule_shown : Clause → List Lexeme
rule_shown c = literal_shown c.head ++ mark sign.If ∷ (expr_shown c.body ++ lexeme.End ∷ [])

abbrev pub goal_shown : LiteralOf Term → List Lexeme
goal_shown l = mark sign.Bang ∷ (literal_shown l ++ lexeme.End ∷ [])

abbrev pub label_shown : Option (List ℕ) → List Lexeme
label_shown None = []
label_shown (Some label) = mark sign.At ∷ word label ∷ []

abbrev pub change_shown : Bool → Lexeme
change_shown add = if add then mark sign.Plus else mark sign.Minus

abbrev pub kind_shown : Kind → List Lexeme
kind_shown Belief = []
kind_shown Achieve = mark sign.Bang ∷ []
kind_shown Test = mark sign.Question ∷ []

abbrev pub trigger_shown : Trigger → List Lexeme
trigger_shown t = change_shown t.add ∷ (kind_shown t.kind ++ literal_shown t.lit)

abbrev pub context_shown : Expr → List Lexeme
context_shown expr.True = []
context_shown e = mark sign.Colon ∷ expr_shown e

abbrev pub plan_shown : Plan → List Lexeme
plan_shown p = label_shown p.label ++ (trigger_shown p.trigger ++ (context_shown p.context ++ (body_shown p.body ++ lexeme.End ∷ [])))
