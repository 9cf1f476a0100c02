-- The brackets that are open in a list of tokens.
use Rattle.std.specs.Prelude.{◌≤◌, ℕ, suc, ◌+◌, ◌-◌, List, [], ◌∷◌, max, All}
use Rattle.asl_term.specs.declared.syntax.LiteralOf.{LiteralOf}
use Rattle.asl_term.specs.declared.syntax.Term.{Term}
use Rattle.asl_term.specs.declared.syntax.Expr.TheVariants as expr
use Rattle.asl_term.specs.declared.syntax.Formula.{Formula}
use Rattle.asl_term.specs.declared.syntax.Formula.TheVariants as formula
use Rattle.asl_term.specs.declared.syntax.Clause.{Clause}
use Rattle.asl_term.specs.declared.syntax.Plan.{Plan}
use Rattle.asl_term.specs.declared.syntax.AgentText.{AgentText}
use Rattle.asl_term.specs.Trees as tree
use Rattle.asl_term.specs.Exprs.{literal_depth, depth}
use Rattle.asl_lexer.specs.declared.token.Word.{Word}
use Rattle.asl_lexer.specs.declared.token.Word.TheVariants as words
use Rattle.asl_lexer.specs.declared.token.Sign.TheVariants as sign
use Rattle.asl_lexer.specs.Bare.{Bare, bare_word}
use Rattle.asl_print.specs.Tokens.{belief_tokens, rule_tokens, goal_tokens, plan_tokens, clause_tokens}

-- how many round and square brackets are open behind a word, where n are before it; what closes closes any of them
abbrev pub open_behind : Word → ℕ → ℕ
open_behind (words.Sign sign.Open) n = suc n
open_behind (words.Sign sign.OpenSquare) n = suc n
open_behind (words.Sign sign.Close) n = n - 1
open_behind (words.Sign sign.CloseSquare) n = n - 1
open_behind _ n = n

-- the most that are open at one place, where n are before
abbrev pub most_open : ℕ → List Bare → ℕ
most_open n [] = n
most_open n (x ∷ xs) = max n (most_open (open_behind (bare_word x) n) xs)

-- ---- depths of what stands in a clause

abbrev pub formula_depth : Formula → ℕ
formula_depth (formula.Achieve l) = literal_depth l
formula_depth (formula.Spawn l) = literal_depth l
formula_depth (formula.Test l) = literal_depth l
formula_depth (formula.Add l) = literal_depth l
formula_depth (formula.Del l) = literal_depth l
formula_depth (formula.Replace l) = literal_depth l
formula_depth (formula.Act l) = literal_depth l
formula_depth (formula.Inner c) = depth (expr.Inner c)
formula_depth (formula.Rel r) = 1 + max (tree.depth r.left) (tree.depth r.right)

abbrev pub greatest_of : {A : Type 0} → (A → ℕ) → List A → ℕ
greatest_of depth_of [] = 0
greatest_of depth_of (a ∷ all) = max (depth_of a) (greatest_of depth_of all)

abbrev pub rule_depth : Clause → ℕ
rule_depth r = max (literal_depth r.head) (depth r.body)

abbrev pub plan_depth : Plan → ℕ
plan_depth p = max (literal_depth p.trigger.lit) (max (depth p.context) (greatest_of formula_depth p.body))

abbrev pub agent_depth : AgentText → ℕ
agent_depth a =
    max (max (greatest_of literal_depth a.beliefs) (greatest_of rule_depth a.rules))
    (max (greatest_of literal_depth a.goals) (greatest_of plan_depth a.plans))

-- ---- laws

-- in the tokens of a printed clause no more brackets are open at one place than its parts have levels
abbrev pub BeliefsNest : Type 0
BeliefsNest = (l : LiteralOf Term) → most_open 0 (belief_tokens l) ≤ literal_depth l

abbrev pub RulesNest : Type 0
RulesNest = (r : Clause) → most_open 0 (rule_tokens r) ≤ rule_depth r

abbrev pub GoalsNest : Type 0
GoalsNest = (l : LiteralOf Term) → most_open 0 (goal_tokens l) ≤ literal_depth l

abbrev pub PlansNest : Type 0
PlansNest = (p : Plan) → most_open 0 (plan_tokens p) ≤ plan_depth p

-- so that an agent within the limit of levels is printed within that of brackets
abbrev pub ClausesNest : Type 0
ClausesNest = (a : AgentText) → All (λ c. most_open 0 c ≤ agent_depth a) (clause_tokens a)
