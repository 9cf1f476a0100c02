-- An expression at a place of the tokens.
use Rattle.std.specs.Prelude.{◌≡◌, ℕ, ◌+◌, ◌<◌, ◌≤◌, Bool, true, false, if◌then◌else◌, List, [], length, take, Option, Some, None, Result, Ok, Err}
use Rattle.asl_term.specs.declared.syntax.Term.TheVariants as term
use Rattle.asl_term.specs.declared.syntax.Expr.TheVariants as expr
use Rattle.asl_parser_tree.specs.declared.lexeme.Lexeme.{Lexeme}
use Rattle.asl_parser_tree.specs.declared.meaning.Meaning.{Meaning}
use Rattle.asl_parser_tree.specs.declared.meaning.Meaning.TheVariants as meaning
use Rattle.asl_parser_expr.specs.declared.places.Raw.{Raw}
use Rattle.asl_parser_expr.specs.declared.places.Raw.TheVariants.{Plain, Logic}
use Rattle.asl_parser_expr.specs.declared.places.Found.{Found}
use Rattle.asl_parser_expr.specs.declared.fault.TextFault.{TextFault}
use Rattle.asl_parser_expr.specs.declared.fault.TextFault.TheVariants.{Memory, Lex, Clause, Limit}
use Rattle.asl_term.specs.Trees as tree
use Rattle.asl_parser_tree.specs.declared.bounded.Bounded.TheVariants.{Within, Past}
use Rattle.asl_parser_expr.specs.Grammar.{Reads, disjunction}
use Rattle.asl_parser_tree.specs.Holding.{Kept, limited, hold}
use Rattle.asl_parser_tree.specs.Limits.{most_brackets, too_deep, within, within_expr}

-- a term where it may be one
abbrev pub raw_of : Meaning → Raw
raw_of (meaning.Truth b l) = Plain (term.Lit l)
raw_of (meaning.Literal l) = Plain (term.Lit l)
raw_of (meaning.Term t) = Plain t
raw_of (meaning.Relation r) = Logic (expr.Rel r)
raw_of (meaning.Call c) = Logic (expr.Inner c)
raw_of (meaning.Formula e) = Logic e

-- the first so many of these tokens are an expression that means this
abbrev pub IsFront : List Lexeme → ℕ → Meaning → Type 0
IsFront ts count m = Reads most_brackets disjunction (take count ts) [] m

-- no more of these tokens are an expression
abbrev pub NoLonger : List Lexeme → ℕ → Type 0
NoLonger ts count = (k : ℕ) (m : Meaning) → count < k → k ≤ length ts → IsFront ts k m → ⊥

-- rule: the longest front of these tokens that is an expression, and what it means
pub record IsLongest (ts : List Lexeme) (count : ℕ) (m : Meaning) : Type 0 where
  pub within : count ≤ length ts
  pub front : IsFront ts count m
  pub longest : NoLonger ts count

-- no front of these tokens is an expression
abbrev pub NoFront : List Lexeme → Type 0
NoFront ts = (k : ℕ) (m : Meaning) → k ≤ length ts → IsFront ts k m → ⊥

-- the longest front, with what is kept of its meaning
pub record IsKeptLongest (ts : List Lexeme) (count : ℕ) (h : Kept) : Type 0 where
  pub meaning : Meaning
  pub longest : IsLongest ts count meaning
  pub kept : hold limited meaning ≡ h

-- what was found at the front of these tokens
abbrev pub IsFound : List Lexeme → Option (Kept × ℕ) → Type 0
IsFound ts None = NoFront ts
IsFound ts (Some x) = IsKeptLongest ts x.1 x.0

-- all these tokens are an expression, with what is kept of its meaning
pub record IsKeptWhole (ts : List Lexeme) (h : Kept) : Type 0 where
  pub meaning : Meaning
  pub reads : Reads most_brackets disjunction ts [] meaning
  pub kept : hold limited meaning ≡ h

-- whether all these tokens are an expression
abbrev pub IsWhole : List Lexeme → Option Kept → Type 0
IsWhole ts None = (m : Meaning) → Reads most_brackets disjunction ts [] m → ⊥
IsWhole ts (Some h) = IsKeptWhole ts h

-- ---- limits

abbrev pub within_raw : Raw → Bool
within_raw (Plain t) = within (tree.size t) (tree.depth t)
within_raw (Logic e) = within_expr e

abbrev pub found_of : Meaning → ℕ → Result (Option Found) TextFault
found_of m next = if within_raw (raw_of m) then Ok (Some (record { raw = raw_of m; next = next })) else Err (Limit 0)

-- the same of what is kept of a meaning
abbrev pub found_of_kept : Kept → ℕ → Result (Option Found) TextFault
found_of_kept (Within m) next = found_of m next
found_of_kept (Past o) next = Err (Limit 0)

-- what the longest expression at the front answers
pub record IsAnswer (ts : List Lexeme) (from : ℕ) (answer : Result (Option Found) TextFault) : Type 0 where
  pub meaning : Meaning
  pub count : ℕ
  pub longest : IsLongest ts count meaning
  pub brackets : too_deep most_brackets 0 ts ≡ false
  pub answered : found_of meaning (from + count) ≡ answer

-- why a limit is answered
pub data Passes (ts : List Lexeme) (from : ℕ) : Type 0 where
  by_brackets : too_deep most_brackets 0 ts ≡ true → Passes ts from
  by_tree : IsAnswer ts from (Err (Limit 0)) → Passes ts from

-- what is found in these tokens, the first of which has this place
abbrev pub FindsIn : List Lexeme → ℕ → Result (Option Found) TextFault → Type 0
FindsIn ts from (Ok None) = NoFront ts × (too_deep most_brackets 0 ts ≡ false)
FindsIn ts from (Ok (Some f)) = IsAnswer ts from (Ok (Some f))
FindsIn ts from (Err Memory) = Unit {0}
FindsIn ts from (Err (Limit number)) = (number ≡ 0) × Passes ts from
FindsIn ts from (Err (Lex fault)) = ⊥
FindsIn ts from (Err (Clause number line column)) = ⊥
