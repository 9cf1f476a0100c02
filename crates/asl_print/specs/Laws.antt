-- What the tokens of printed texts are.
use Rattle.std.specs.Prelude.{◌≡◌, true, List, ◌++◌, map, codes}
use Rattle.asl_term.specs.declared.syntax.Plan.{Plan}
use Rattle.asl_term.specs.declared.syntax.AgentText.{AgentText}
use Rattle.asl_term.specs.declared.syntax.LiteralOf.{LiteralOf}
use Rattle.asl_term.specs.declared.syntax.Term.{Term}
use Rattle.asl_term.specs.declared.syntax.Expr.{Expr}
use Rattle.asl_term.specs.declared.syntax.Formula.{Formula}
use Rattle.asl_term.specs.Texts.{text}
use Rattle.asl_term.specs.Exprs as exprs
use Rattle.asl_lexer.specs.declared.token.Tok.{Tok}
use Rattle.asl_lexer.specs.Words.{pieces, is_end}
use Rattle.asl_lexer.specs.Bare.{bare}
use Rattle.asl_lexer.specs.Seams.{HasTokens, Gives, Any, Stop}
use Rattle.asl_print.specs.Agents.{alone, plan_line, plan_text, agent_text}
use Rattle.asl_print.specs.Tokens.{term_tokens, expr_tokens, formula_tokens, literal_tokens, plan_tokens}
use Rattle.asl_print.specs.Tokens.{agent_tokens, clause_tokens}
use Rattle.asl_print.specs.Spelled.{is_spelled, is_spelled_literal, is_spelled_expr, is_spelled_formula}
use Rattle.asl_print.specs.Spelled.{is_spelled_plan, is_spelled_agent}

-- ---- before other bytes

abbrev pub TermsGive : Type 0
TermsGive = (t : Term) → is_spelled t ≡ true → Gives Stop (text t) (term_tokens t)

abbrev pub LiteralsGive : Type 0
LiteralsGive = (l : LiteralOf Term) → is_spelled_literal l ≡ true → Gives Stop (exprs.literal_text l) (literal_tokens l)

abbrev pub ExprsGive : Type 0
ExprsGive = (e : Expr) → is_spelled_expr e ≡ true → Gives Stop (exprs.text e) (expr_tokens e)

abbrev pub FormulasGive : Type 0
FormulasGive = (f : Formula) → is_spelled_formula f ≡ true → Gives Stop (exprs.formula_text f) (formula_tokens f)

abbrev pub PlansGive : Type 0
PlansGive = (p : Plan) → is_spelled_plan p ≡ true → Gives Any (plan_text p) (plan_tokens p)

abbrev pub AgentsGive : Type 0
AgentsGive = (a : AgentText) → is_spelled_agent a ≡ true → Gives Any (agent_text a) (agent_tokens a)

-- ---- alone

abbrev pub TermsLex : Type 0
TermsLex = (t : Term) → is_spelled t ≡ true → HasTokens (text t) (term_tokens t)

abbrev pub LiteralsLex : Type 0
LiteralsLex = (l : LiteralOf Term) → is_spelled_literal l ≡ true → HasTokens (exprs.literal_text l) (literal_tokens l)

abbrev pub ExprsLex : Type 0
ExprsLex = (e : Expr) → is_spelled_expr e ≡ true → HasTokens (exprs.text e) (expr_tokens e)

abbrev pub FormulasLex : Type 0
FormulasLex = (f : Formula) → is_spelled_formula f ≡ true → HasTokens (exprs.formula_text f) (formula_tokens f)

abbrev pub PlansLex : Type 0
PlansLex = (p : Plan) → is_spelled_plan p ≡ true → HasTokens (plan_text p) (plan_tokens p)

abbrev pub AgentsLex : Type 0
AgentsLex = (a : AgentText) → is_spelled_agent a ≡ true → HasTokens (agent_text a) (agent_tokens a)

-- the text of a plan in one line has the tokens of the plan, and with a line feed it is that of an agent with this plan alone
abbrev pub LinesLex : Type 0
LinesLex = (p : Plan) → is_spelled_plan p ≡ true → HasTokens (plan_line p) (plan_tokens p)

abbrev pub LinesEnd : Type 0
LinesEnd = (p : Plan) → agent_text (alone p) ≡ plan_line p ++ codes "\n"

-- ---- pieces

-- tokens that are those of an agent are cut into its clauses
abbrev pub ClausesCut : Type 0
ClausesCut = (a : AgentText) (ts : List Tok) → map bare ts ≡ agent_tokens a → map (map bare) (pieces is_end ts) ≡ clause_tokens a
