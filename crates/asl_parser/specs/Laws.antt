-- What is true of the grammar of clauses.
use Rattle.std.specs.Prelude.{◌≡◌, ℕ, List, true, false, Result}
use Rattle.std.specs.List.{list_all}
use Rattle.asl_term.specs.declared.syntax.AgentText.{AgentText}
use Rattle.asl_term.specs.Exprs.{is_ground_literal}
use Rattle.asl_parser_expr.specs.declared.fault.TextFault.{TextFault}
use Rattle.asl_parser_tree.specs.declared.lexeme.Lexeme.{Lexeme}
use Rattle.asl_parser_tree.specs.Limits.{most_brackets, too_deep}
use Rattle.asl_parser.specs.declared.sentence.Sentence.{Sentence}
use Rattle.asl_parser.specs.Sentences.{Says}
use Rattle.asl_parser.specs.Agents.{IsAgent, IsAnswer}

-- a clause says one thing at most
abbrev pub OneSentence : Type 0
OneSentence = (m n : ℕ) (xs : List Lexeme) (r s : Sentence) → too_deep most_brackets 0 xs ≡ false → Says m xs r → Says n xs s → r ≡ s

-- bytes have one answer: what their clauses say, or one fault, and not both
abbrev pub OneAnswer : Type 0
OneAnswer = (bytes : List ℕ) (r s : Result (List Sentence) TextFault) → IsAnswer bytes r → IsAnswer bytes s → r ≡ s

-- and they have one
abbrev pub SomeAnswer : Type 0
SomeAnswer = (bytes : List ℕ) → (r : Result (List Sentence) TextFault) × IsAnswer bytes r

-- bytes are the source of one agent at most
abbrev pub OneAgent : Type 0
OneAgent = (bytes : List ℕ) (a b : AgentText) → IsAgent bytes a → IsAgent bytes b → a ≡ b

-- a belief of a source has no variable
abbrev pub GroundBeliefs : Type 0
GroundBeliefs = (bytes : List ℕ) (text : AgentText) → IsAgent bytes text → list_all is_ground_literal text.beliefs ≡ true
