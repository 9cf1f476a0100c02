-- What is true of world files.
use Rattle.std.specs.Prelude.{◌≡◌, ℕ, List, ◌++◌, true, false, None, Some, Result}
use Rattle.std.specs.List.{AllByRecursion, list_all}
use Rattle.asl_term.specs.Exprs.{is_ground_literal}
use Rattle.asl_term.specs.declared.syntax.LiteralOf.{LiteralOf}
use Rattle.asl_term.specs.declared.syntax.Term.{Term}
use Rattle.asl_parser_tree.specs.declared.lexeme.Lexeme.{Lexeme}
use Rattle.asl_parser_tree.specs.Limits.{most_brackets, too_deep}
use Rattle.asl_unify.specs.declared.subst.Pair.{Pair}
use Rattle.mas_world.specs.Acts.{effect, entered}
use Rattle.mas_world.specs.Guards.{ready, solutions}
use Rattle.mas_world.specs.declared.acts.Act.{Act}
use Rattle.mas_world.specs.declared.acts.WorldText.{WorldText}
use Rattle.env_file.specs.declared.fault.WorldFault.{WorldFault}
use Rattle.env_file.specs.declared.statement.Part.{Part}
use Rattle.env_file.specs.declared.statement.Statement.{Statement}
use Rattle.env_file.specs.declared.statement.WrittenAct.{WrittenAct}
use Rattle.env_file.specs.Binding.{unbound}
use Rattle.env_file.specs.Statements.{Says}
use Rattle.env_file.specs.Bare.{IsBare}
use Rattle.mas_world.specs.Facts.{AreFacts}
use Rattle.env_file.specs.Worlds.{act_of, has_name, IsAnswer, IsWorld}

-- a clause says one thing at most
abbrev pub OneStatement : Type 0
OneStatement = (m n : ℕ) (xs : List Lexeme) (r s : Statement) → too_deep most_brackets 0 xs ≡ false → Says m xs r → Says n xs s → r ≡ s

-- no literal of what a clause says has annotations
abbrev pub NoAnnotations : Type 0
NoAnnotations = (n : ℕ) (xs : List Lexeme) (s : Statement) → Says n xs s → IsBare s

-- bytes have one answer: a world, or one fault, and not both
abbrev pub OneWorld : Type 0
OneWorld = (artifacts : List (List ℕ)) (bytes : List ℕ) (r s : Result WorldText WorldFault) → IsAnswer artifacts bytes r → IsAnswer artifacts bytes s → r ≡ s

-- and they have one
abbrev pub SomeWorld : Type 0
SomeWorld = (artifacts : List (List ℕ)) (bytes : List ℕ) → (r : Result WorldText WorldFault) × IsAnswer artifacts bytes r

-- the facts of a world file are what a world asks of them
abbrev pub GoodFacts : Type 0
GoodFacts = (artifacts : List (List ℕ)) (bytes : List ℕ) (text : WorldText) → IsWorld artifacts bytes text → AreFacts text.facts

-- each name that a world file uses is that of an artifact
abbrev pub UsesKnown : Type 0
UsesKnown =
    (artifacts : List (List ℕ)) (bytes : List ℕ) (text : WorldText) → IsWorld artifacts bytes text →
    AllByRecursion (λ name. has_name artifacts name ≡ true) text.uses

-- ---- effects

-- Over facts without variables and for an action without variables, each effect of an act that is ready has no variable
-- left, under each solution of its guard.
abbrev pub LeavesNone : Act → Type 0
LeavesNone a =
    (facts : List (LiteralOf Term)) (agent : List ℕ) (action : LiteralOf Term) (start : List Pair) → list_all is_ground_literal facts ≡ true →
    is_ground_literal action ≡ true → entered a agent action ≡ Some start →
    AllByRecursion (λ s. AllByRecursion (λ l. effect s l ≡ ready s l) (a.dels ++ a.adds)) (solutions facts a.guard start)

-- so it is where each variable of the effects is bound
abbrev pub BoundEffects : Type 0
BoundEffects = (a : WrittenAct) (ps : List Part) → unbound a ps ≡ None → LeavesNone (act_of a ps)

-- and of each act of a world file
abbrev pub GroundEffects : Type 0
GroundEffects = (artifacts : List (List ℕ)) (bytes : List ℕ) (text : WorldText) → IsWorld artifacts bytes text → AllByRecursion LeavesNone text.acts
