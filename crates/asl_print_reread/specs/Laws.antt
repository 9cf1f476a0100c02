-- What is printed is read again.
use Rattle.std.specs.Prelude.{◌≡◌, ℕ, List, [], Some}
use Rattle.asl_term.specs.declared.syntax.LiteralOf.{LiteralOf}
use Rattle.asl_term.specs.declared.syntax.Term.{Term}
use Rattle.asl_term.specs.declared.syntax.Expr.{Expr}
use Rattle.asl_term.specs.declared.syntax.AgentText.{AgentText}
use Rattle.asl_term.specs.declared.syntax.Plan.{Plan}
use Rattle.asl_term.specs.Texts as texts
use Rattle.asl_term.specs.Exprs.{literal_text, text}
use Rattle.asl_lexer.specs.declared.token.Tok.{Tok}
use Rattle.asl_lexer.specs.Lexing.{AreTokens}
use Rattle.asl_parser_tree.specs.declared.meaning.Meaning.{Meaning}
use Rattle.asl_parser_tree.specs.Lexemes.{lexemes}
use Rattle.asl_parser_tree.specs.Meanings.{as_term, as_formula}
use Rattle.asl_parser_expr.specs.Grammar.{Reads, disjunction, ReadsLiteral}
use Rattle.asl_print.specs.Agents.{alone, plan_line, agent_text}
use Rattle.asl_parser.specs.Agents.{IsAgent}

-- ---- agents

-- the text of the agent of a source is a source of that agent
abbrev pub PrintedIsRead : Type 0
PrintedIsRead = (bytes : List ℕ) (a : AgentText) → IsAgent bytes a → IsAgent (agent_text a) a

-- and of no other
abbrev pub NothingElseIsRead : Type 0
NothingElseIsRead = (bytes : List ℕ) (a b : AgentText) → IsAgent bytes a → IsAgent (agent_text a) b → b ≡ a

-- the text of a plan in one line is a source with that plan and nothing else
abbrev pub PlanLinesAreRead : Type 0
PlanLinesAreRead = (bytes : List ℕ) (p : Plan) → IsAgent bytes (alone p) → IsAgent (plan_line p) (alone p)

-- ---- parts, with any number of brackets

-- the whole bytes are this literal
pub record IsLiteral (bytes : List ℕ) (l : LiteralOf Term) : Type 0 where
  pub tokens : List Tok
  pub lexed : AreTokens bytes tokens
  pub brackets : ℕ
  pub read : ReadsLiteral brackets (lexemes tokens) [] l

abbrev pub LiteralsAreRead : Type 0
LiteralsAreRead = (bytes : List ℕ) (l : LiteralOf Term) → IsLiteral bytes l → IsLiteral (literal_text l) l

-- the whole bytes are an expression with this meaning
pub record IsMeant (bytes : List ℕ) (m : Meaning) : Type 0 where
  pub tokens : List Tok
  pub lexed : AreTokens bytes tokens
  pub brackets : ℕ
  pub read : Reads brackets disjunction (lexemes tokens) [] m

-- the text of what an expression is as a term means the same
abbrev pub TermsAreRead : Type 0
TermsAreRead = (bytes : List ℕ) (m : Meaning) (t : Term) → IsMeant bytes m → as_term m ≡ Some t → IsMeant (texts.text t) m

-- and that of what it is as a formula
abbrev pub FormulasAreRead : Type 0
FormulasAreRead = (bytes : List ℕ) (m : Meaning) (e : Expr) → IsMeant bytes m → as_formula m ≡ Some e → IsMeant (text e) m
