-- The source of an agent: what its pieces say, and which is refused first.
use Rattle.std.specs.Prelude.{◌≡◌, ℕ, suc, Bool, true, false, List, [], ◌∷◌, ◌++◌, Result, Ok, Err}
use Rattle.asl_lexer.specs.declared.token.Tok.{Tok}
use Rattle.asl_lexer.specs.Words.{pieces, is_end}
use Rattle.asl_lexer.specs.Lexing.{AreTokens, IsFirstFault}
use Rattle.asl_term.specs.declared.syntax.AgentText.{AgentText}
use Rattle.asl_parser.specs.declared.sentence.Sentence.{Sentence}
use Rattle.asl_parser.specs.declared.sentence.Sentence.TheVariants as sentence
use Rattle.asl_parser_expr.specs.declared.fault.TextFault.{TextFault}
use Rattle.asl_parser_expr.specs.declared.fault.TextFault.TheVariants.{Memory, Lex, Clause, Limit}
use Rattle.asl_parser_tree.specs.Lexemes.{lexemes}
use Rattle.asl_parser_tree.specs.Limits.{most_brackets, too_deep}
use Rattle.asl_parser.specs.Limits.{is_within}
use Rattle.asl_parser.specs.Sentences.{Says}

-- ---- pieces

-- rule: what pieces answer, the first of which has the number k: what they say, or the first that is refused, for its brackets, as no
-- clause, or for its trees.
pub data Answers : ℕ → List (List Tok) → Result (List Sentence) TextFault → Type 0 where
  all_read : {k : ℕ} → Answers k [] (Ok [])
  brackets : {k : ℕ} {p : List Tok} {ps : List (List Tok)} → too_deep most_brackets 0 (lexemes p) ≡ true → Answers k (p ∷ ps) (Err (Limit k))
  no_clause : {k : ℕ} {t : Tok} {ts : List Tok} {ps : List (List Tok)} → too_deep most_brackets 0 (lexemes (t ∷ ts)) ≡ false
      → ((n : ℕ) (s : Sentence) → Says n (lexemes (t ∷ ts)) s → ⊥) → Answers k ((t ∷ ts) ∷ ps) (Err (Clause k t.line t.column))
  large : {k : ℕ} {p : List Tok} {ps : List (List Tok)} {s : Sentence} → too_deep most_brackets 0 (lexemes p) ≡ false → Says most_brackets (lexemes p) s
      → is_within s ≡ false → Answers k (p ∷ ps) (Err (Limit k))
  is_read : {k : ℕ} {p : List Tok} {ps : List (List Tok)} {s : Sentence} {ss : List Sentence} → too_deep most_brackets 0 (lexemes p) ≡ false
      → Says most_brackets (lexemes p) s → is_within s ≡ true → Answers (suc k) ps (Ok ss) → Answers k (p ∷ ps) (Ok (s ∷ ss))
  is_later : {k : ℕ} {p : List Tok} {ps : List (List Tok)} {s : Sentence} {fault : TextFault} → too_deep most_brackets 0 (lexemes p) ≡ false
      → Says most_brackets (lexemes p) s → is_within s ≡ true → Answers (suc k) ps (Err fault) → Answers k (p ∷ ps) (Err fault)

-- ---- the whole

abbrev pub nothing : AgentText
nothing = record { beliefs = []; rules = []; goals = []; plans = [] }

-- what is said goes last among its kind
abbrev pub added : AgentText → Sentence → AgentText
added a (sentence.Belief l) = record { beliefs = a.beliefs ++ l ∷ []; rules = a.rules; goals = a.goals; plans = a.plans }
added a (sentence.Rule c) = record { beliefs = a.beliefs; rules = a.rules ++ c ∷ []; goals = a.goals; plans = a.plans }
added a (sentence.Goal l) = record { beliefs = a.beliefs; rules = a.rules; goals = a.goals ++ l ∷ []; plans = a.plans }
added a (sentence.Plan p) = record { beliefs = a.beliefs; rules = a.rules; goals = a.goals; plans = a.plans ++ p ∷ [] }

abbrev pub all_added : AgentText → List Sentence → AgentText
all_added a [] = a
all_added a (s ∷ ss) = all_added (added a s) ss

-- the clauses of the bytes say this, in order
pub record AreSentences (bytes : List ℕ) (said : List Sentence) : Type 0 where
  pub tokens : List Tok
  pub lexed : AreTokens bytes tokens
  pub read : Answers 1 (pieces is_end tokens) (Ok said)

-- rule: the bytes are the source of this agent
pub record IsAgent (bytes : List ℕ) (text : AgentText) : Type 0 where
  pub sentences : List Sentence
  pub said : AreSentences bytes sentences
  pub together : text ≡ all_added nothing sentences

-- a clause of the bytes is refused first
pub record IsRefused (bytes : List ℕ) (fault : TextFault) : Type 0 where
  pub tokens : List Tok
  pub lexed : AreTokens bytes tokens
  pub refused : Answers 1 (pieces is_end tokens) (Err fault)

-- rule: why bytes are no source; memory may lack anywhere
abbrev pub IsNone : List ℕ → TextFault → Type 0
IsNone bytes Memory = Unit {0}
IsNone bytes (Lex fault) = IsFirstFault bytes fault
IsNone bytes (Clause number line column) = IsRefused bytes (Clause number line column)
IsNone bytes (Limit number) = IsRefused bytes (Limit number)

-- what bytes answer where memory is not wanting: what their clauses say, or a fault
abbrev pub IsAnswer : List ℕ → Result (List Sentence) TextFault → Type 0
IsAnswer bytes (Ok said) = AreSentences bytes said
IsAnswer bytes (Err Memory) = ⊥
IsAnswer bytes (Err (Lex fault)) = IsFirstFault bytes fault
IsAnswer bytes (Err (Clause number line column)) = IsRefused bytes (Clause number line column)
IsAnswer bytes (Err (Limit number)) = IsRefused bytes (Limit number)
