-- The tokens of the texts of agents, without their places.
use Rattle.std.specs.Prelude.{ℕ, Bool, List, [], ◌∷◌, ◌++◌, map, Option, Some, None, codes, if◌then◌else◌}
use Rattle.std.specs.List.{flat_map}
use Rattle.asl_term.specs.declared.syntax.LiteralOf.{LiteralOf}
use Rattle.asl_term.specs.declared.syntax.Relation.{Relation}
use Rattle.asl_term.specs.declared.syntax.RelOp.{RelOp}
use Rattle.asl_term.specs.declared.syntax.RelOp.TheVariants.{Less, LessEq, More, MoreEq, Same, Differ, Unify}
use Rattle.asl_term.specs.declared.syntax.ArgOf.{ArgOf}
use Rattle.asl_term.specs.declared.syntax.ArgOf.TheVariants.{Plain, Logic}
use Rattle.asl_term.specs.declared.syntax.CallOf.{CallOf}
use Rattle.asl_term.specs.declared.syntax.Op.{Op}
use Rattle.asl_term.specs.declared.syntax.Op.TheVariants.{Add, Sub, Mul, Div, Mod}
use Rattle.asl_term.specs.declared.syntax.Term.{Term}
use Rattle.asl_term.specs.declared.syntax.Term.TheVariants as term
use Rattle.asl_term.specs.declared.syntax.Term.TheOpen.{Term-F}
use Rattle.asl_term.specs.declared.syntax.Term.TheOpen as layer
use Rattle.asl_term.specs.declared.syntax.Term.TheFolds.{fold-Term}
use Rattle.asl_term.specs.declared.syntax.Expr.{Expr}
use Rattle.asl_term.specs.declared.syntax.Expr.TheVariants as expr
use Rattle.asl_term.specs.declared.syntax.Expr.TheOpen.{Expr-F}
use Rattle.asl_term.specs.declared.syntax.Expr.TheOpen as expr_layer
use Rattle.asl_term.specs.declared.syntax.Expr.TheFolds.{fold-Expr}
use Rattle.asl_term.specs.declared.syntax.Formula.{Formula}
use Rattle.asl_term.specs.declared.syntax.Formula.TheVariants as formula
use Rattle.asl_term.specs.declared.syntax.Kind.{Kind}
use Rattle.asl_term.specs.declared.syntax.Kind.TheVariants.{Belief, Achieve, Test}
use Rattle.asl_term.specs.declared.syntax.Trigger.{Trigger}
use Rattle.asl_term.specs.declared.syntax.Clause.{Clause}
use Rattle.asl_term.specs.declared.syntax.Plan.{Plan}
use Rattle.asl_term.specs.declared.syntax.AgentText.{AgentText}
use Rattle.asl_term.specs.Texts.{var_text}
use Rattle.asl_lexer.specs.declared.token.Sign as signs
use Rattle.asl_lexer.specs.declared.token.Sign.TheVariants as sign
use Rattle.asl_lexer.specs.Bare.{Bare, mark, atom, var, inner, string, stop, num_tokens}

-- ---- terms

abbrev pub op_token : Op → Bare
op_token Add = mark sign.Plus
op_token Sub = mark sign.Minus
op_token Mul = mark sign.Star
op_token Div = atom (codes "div")
op_token Mod = atom (codes "mod")

abbrev pub sign_tokens : Bool → List Bare
sign_tokens neg = if neg then mark sign.Tilde ∷ [] else []

abbrev pub comma_tokens : List (List Bare) → List Bare
comma_tokens [] = []
comma_tokens (t ∷ ts) = t ++ flat_map (λ u. mark sign.Comma ∷ u) ts

-- between two marks, or nothing
abbrev pub between_tokens : signs.Sign → signs.Sign → List (List Bare) → List Bare
between_tokens open_mark close_mark [] = []
between_tokens open_mark close_mark (t ∷ ts) = mark open_mark ∷ (comma_tokens (t ∷ ts) ++ mark close_mark ∷ [])

abbrev pub tail_tokens : Option (List Bare) → List Bare
tail_tokens None = []
tail_tokens (Some t) = mark sign.Bar ∷ t

abbrev pub term_step : Term-F (List Bare) → List Bare
term_step (layer.Num n) = num_tokens n
term_step (layer.Str s) = string s ∷ []
term_step (layer.Var v) = var (var_text v) ∷ []
term_step (layer.Lit l) =
    sign_tokens l.neg ++ atom l.functor ∷ (between_tokens sign.Open sign.Close l.args ++ between_tokens sign.OpenSquare sign.CloseSquare l.annots)
term_step (layer.List l) = mark sign.OpenSquare ∷ (comma_tokens l.items ++ (tail_tokens l.tail ++ mark sign.CloseSquare ∷ []))
term_step (layer.Op a) = mark sign.Open ∷ (a.left ++ op_token a.op ∷ (a.right ++ mark sign.Close ∷ []))

abbrev pub term_tokens : Term → List Bare
term_tokens = fold-Term (List Bare) term_step

-- ---- expressions

abbrev pub literal_tokens : LiteralOf Term → List Bare
literal_tokens l = term_tokens (term.Lit l)

abbrev pub rel_sign : RelOp → signs.Sign
rel_sign Less = sign.Less
rel_sign LessEq = sign.LessEq
rel_sign More = sign.More
rel_sign MoreEq = sign.MoreEq
rel_sign Same = sign.Same
rel_sign Differ = sign.Differ
rel_sign Unify = sign.Unify

abbrev pub relation_tokens : Relation → List Bare
relation_tokens r = mark sign.Open ∷ (term_tokens r.left ++ mark (rel_sign r.op) ∷ (term_tokens r.right ++ mark sign.Close ∷ []))

abbrev pub arg_tokens : ArgOf (List Bare) → List Bare
arg_tokens (Plain t) = term_tokens t
arg_tokens (Logic e) = e

abbrev pub expr_step : Expr-F (List Bare) → List Bare
expr_step expr_layer.True = atom (codes "true") ∷ []
expr_step expr_layer.False = atom (codes "false") ∷ []
expr_step (expr_layer.Holds l) = literal_tokens l
expr_step (expr_layer.Rel r) = relation_tokens r
expr_step (expr_layer.Inner c) = inner c.name ∷ between_tokens sign.Open sign.Close (map arg_tokens c.args)
expr_step (expr_layer.Not e) = atom (codes "not") ∷ e
expr_step (expr_layer.And a b) = mark sign.Open ∷ (a ++ mark sign.Ampersand ∷ (b ++ mark sign.Close ∷ []))
expr_step (expr_layer.Or a b) = mark sign.Open ∷ (a ++ mark sign.Bar ∷ (b ++ mark sign.Close ∷ []))

abbrev pub expr_tokens : Expr → List Bare
expr_tokens = fold-Expr (List Bare) expr_step

abbrev pub call_tokens : CallOf Expr → List Bare
call_tokens c = expr_tokens (expr.Inner c)

abbrev pub formula_tokens : Formula → List Bare
formula_tokens (formula.Achieve l) = mark sign.Bang ∷ literal_tokens l
formula_tokens (formula.Spawn l) = mark sign.Bangs ∷ literal_tokens l
formula_tokens (formula.Test l) = mark sign.Question ∷ literal_tokens l
formula_tokens (formula.Add l) = mark sign.Plus ∷ literal_tokens l
formula_tokens (formula.Del l) = mark sign.Minus ∷ literal_tokens l
formula_tokens (formula.Replace l) = mark sign.MinusPlus ∷ literal_tokens l
formula_tokens (formula.Act l) = literal_tokens l
formula_tokens (formula.Inner c) = call_tokens c
formula_tokens (formula.Rel r) = relation_tokens r

-- ---- clauses

abbrev pub belief_tokens : LiteralOf Term → List Bare
belief_tokens l = literal_tokens l ++ stop ∷ []

abbrev pub rule_tokens : Clause → List Bare
rule_tokens r = literal_tokens r.head ++ mark sign.If ∷ (expr_tokens r.body ++ stop ∷ [])

abbrev pub goal_tokens : LiteralOf Term → List Bare
goal_tokens l = mark sign.Bang ∷ (literal_tokens l ++ stop ∷ [])

abbrev pub label_tokens : Option (List ℕ) → List Bare
label_tokens None = []
label_tokens (Some label) = mark sign.At ∷ atom label ∷ []

abbrev pub change_token : Bool → Bare
change_token add = if add then mark sign.Plus else mark sign.Minus

abbrev pub kind_tokens : Kind → List Bare
kind_tokens Belief = []
kind_tokens Achieve = mark sign.Bang ∷ []
kind_tokens Test = mark sign.Question ∷ []

abbrev pub trigger_tokens : Trigger → List Bare
trigger_tokens t = change_token t.add ∷ (kind_tokens t.kind ++ literal_tokens t.lit)

abbrev pub context_tokens : Expr → List Bare
context_tokens expr.True = []
context_tokens e = mark sign.Colon ∷ expr_tokens e

abbrev pub body_tokens : List Formula → List Bare
body_tokens [] = []
body_tokens (f ∷ fs) = mark sign.LeftArrow ∷ (formula_tokens f ++ flat_map (λ g. mark sign.Semicolon ∷ formula_tokens g) fs)

abbrev pub plan_tokens : Plan → List Bare
plan_tokens p = label_tokens p.label ++ (trigger_tokens p.trigger ++ (context_tokens p.context ++ (body_tokens p.body ++ stop ∷ [])))

abbrev pub agent_tokens : AgentText → List Bare
agent_tokens a = flat_map belief_tokens a.beliefs ++ (flat_map rule_tokens a.rules ++ (flat_map goal_tokens a.goals ++ flat_map plan_tokens a.plans))

-- the tokens of each clause
abbrev pub clause_tokens : AgentText → List (List Bare)
clause_tokens a = map belief_tokens a.beliefs ++ (map rule_tokens a.rules ++ (map goal_tokens a.goals ++ map plan_tokens a.plans))
