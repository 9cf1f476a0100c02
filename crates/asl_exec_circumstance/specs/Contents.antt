-- The literals and strings that contents of messages are, and the names of agents.
use Rattle.std.specs.Prelude.{ℕ, Bool, not, ◌&&◌, ◌==◌, cond, List, [], ◌∷◌, length, Option, None, Some, is_none}
use Rattle.asl_term.specs.Names.{name_at}
use Rattle.asl_term.specs.Trees.{is_ground}
use Rattle.asl_term.specs.declared.syntax.LiteralOf.{LiteralOf}
use Rattle.asl_term.specs.declared.syntax.Term.{Term}
use Rattle.asl_term.specs.declared.syntax.Term.TheOpen.{Term-F}
use Rattle.asl_term.specs.declared.syntax.Term.TheOpen as layer
use Rattle.asl_term.specs.declared.syntax.Term.TheViews.{out-Term}

-- ---- names

abbrev pub name_or_none : Option (List ℕ) → List ℕ
name_or_none (Some name) = name
name_or_none None = []

-- the name of an agent by its number (each message is from and to an agent, so the name is there)
abbrev pub agent_name : List (List ℕ) → ℕ → List ℕ
agent_name names n = name_or_none (name_at names n)

-- ---- literals

abbrev pub literal_layer : Term-F Term → Option (LiteralOf Term)
literal_layer (layer.Lit l) = Some l
literal_layer other = None

-- a literal
abbrev pub literal_of : Term → Option (LiteralOf Term)
literal_of t = literal_layer (out-Term t)

abbrev pub before : {A : Type 0} → Option A → Option (List A) → Option (List A)
before None more = None
before (Some l) None = None
before (Some l) (Some more) = Some (l ∷ more)

-- terms that all are literals
abbrev pub all_literals : List Term → Option (List (LiteralOf Term))
all_literals [] = Some []
all_literals (t ∷ ts) = before (literal_of t) (all_literals ts)

abbrev pub literals_layer : Term-F Term → Option (List (LiteralOf Term))
literals_layer (layer.Lit l) = Some (l ∷ [])
literals_layer (layer.List l) = cond (is_none l.tail) (all_literals l.items) None
literals_layer other = None

-- a literal, or a list of literals without a tail
abbrev pub literals_of : Term → Option (List (LiteralOf Term))
literals_of t = literals_layer (out-Term t)

-- the same without variables
abbrev pub ground_literals : Term → Option (List (LiteralOf Term))
ground_literals t = cond (is_ground t) (literals_of t) None

-- ---- strings

abbrev pub string_layer : Term-F Term → Option (List ℕ)
string_layer (layer.Str s) = Some s
string_layer other = None

-- a string
abbrev pub string_of : Term → Option (List ℕ)
string_of t = string_layer (out-Term t)

-- terms that all are strings
abbrev pub all_strings : List Term → Option (List (List ℕ))
all_strings [] = Some []
all_strings (t ∷ ts) = before (string_of t) (all_strings ts)

abbrev pub strings_layer : Term-F Term → Option (List (List ℕ))
strings_layer (layer.Str s) = Some (s ∷ [])
strings_layer (layer.List l) = cond (is_none l.tail) (all_strings l.items) None
strings_layer other = None

-- a string, or a list of strings without a tail
abbrev pub strings_of : Term → Option (List (List ℕ))
strings_of t = strings_layer (out-Term t)

-- an atom is a positive literal without arguments and annotations
abbrev pub is_atom : LiteralOf Term → Bool
is_atom l = not l.neg && (length l.args == 0) && (length l.annots == 0)
