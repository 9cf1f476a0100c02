-- The goals that a clause posts, where they stand, and those for which there is no plan.
use Rattle.std.specs.Prelude.{◌≡◌, Bool, true, false, not, ◌&&◌, if◌then◌else◌, List, [], ◌∷◌, ◌++◌, map, drop, Option, Some, None}
use Rattle.std.specs.List.{filter}
use Rattle.std.specs.Option.{option_to_list}
use Rattle.asl_term.specs.declared.syntax.LiteralOf.{LiteralOf}
use Rattle.asl_term.specs.declared.syntax.Term.{Term}
use Rattle.asl_term.specs.declared.syntax.Formula.{Formula}
use Rattle.asl_term.specs.declared.syntax.Formula.TheVariants as formula
use Rattle.asl_term.specs.declared.syntax.Kind.TheVariants.{Achieve}
use Rattle.asl_lexer.specs.declared.token.Tok.{Tok}
use Rattle.asl_lexer.specs.declared.token.Place.{Place}
use Rattle.asl_lexer.specs.declared.token.Word.{Word}
use Rattle.asl_lexer.specs.declared.token.Word.TheVariants as kind
use Rattle.asl_lexer.specs.declared.token.Sign.{Sign}
use Rattle.asl_lexer.specs.declared.token.Sign.TheVariants.{Bang, Bangs, Plus, Minus}
use Rattle.asl_lexer.specs.Words.{word}
use Rattle.asl_parser.specs.declared.sentence.Sentence.{Sentence}
use Rattle.asl_parser.specs.declared.sentence.Sentence.TheVariants as said
use Rattle.look_pieces.specs.declared.clause.ReadClause.{ReadClause}
use Rattle.look_pieces.specs.declared.goals.PlacedGoal.{PlacedGoal}
use Rattle.look_pieces.specs.Clauses.{has_plan}

-- ---- goals

abbrev pub goal_in : Formula → Option (LiteralOf Term)
goal_in (formula.Achieve l) = Some l
goal_in (formula.Spawn l) = Some l
goal_in f = None

abbrev pub goals_in : List Formula → List (LiteralOf Term)
goals_in [] = []
goals_in (f ∷ fs) = option_to_list (goal_in f) ++ goals_in fs

-- an initial goal, or those of a plan's body
abbrev pub goals_of : Sentence → List (LiteralOf Term)
goals_of (said.Goal l) = l ∷ []
goals_of (said.Plan p) = goals_in p.body
goals_of (said.Belief l) = []
goals_of (said.Rule r) = []

-- ---- their places

abbrev pub is_bang_sign : Sign → Bool
is_bang_sign Bang = true
is_bang_sign Bangs = true
is_bang_sign s = false

abbrev pub is_bang : Word → Bool
is_bang (kind.Sign s) = is_bang_sign s
is_bang w = false

abbrev pub is_change_sign : Sign → Bool
is_change_sign Plus = true
is_change_sign Minus = true
is_change_sign s = false

abbrev pub is_change : Word → Bool
is_change (kind.Sign s) = is_change_sign s
is_change w = false

abbrev pub place_of : Tok → Place
place_of t = record { at = t.at; line = t.line; column = t.column }

abbrev pub place_if : Bool → List Tok → List Place
place_if begins [] = []
place_if begins (t ∷ ts) = if begins then place_of t ∷ [] else []

-- of the tokens behind `!` and `!!`, but for those of a trigger, where `+` or `-` stands before
abbrev pub places_from : Bool → List Tok → List Place
places_from change [] = []
places_from change (t ∷ ts) = place_if (is_bang (word t) && not change) ts ++ places_from (is_change (word t)) ts

abbrev pub goal_places : List Tok → List Place
goal_places ts = places_from false ts

-- ---- those without a plan

abbrev pub placed : Place → LiteralOf Term → PlacedGoal
placed p g = record { place = p; goal = g }

abbrev pub unplanned_one : List ReadClause → Place → LiteralOf Term → List PlacedGoal
unplanned_one cs p g = if has_plan cs true Achieve g then [] else placed p g ∷ []

-- the next place, or the first of the clause where none is left
abbrev pub next_place : Place → List Place → Place
next_place first [] = first
next_place first (p ∷ ps) = p

-- the goals stand at the places in their order
abbrev pub unplanned_at : List ReadClause → Place → List Place → List (LiteralOf Term) → List PlacedGoal
unplanned_at cs first ps [] = []
unplanned_at cs first ps (g ∷ gs) = unplanned_one cs (next_place first ps) g ++ unplanned_at cs first (drop 1 ps) gs

-- where a clause begins; a list of no tokens begins no clause
abbrev pub first_place : List Tok → Place
first_place [] = record { at = 0; line = 1; column = 1 }
first_place (t ∷ ts) = place_of t

-- the goals of a clause for which no clause of the source is a plan
abbrev pub unplanned : List ReadClause → ReadClause → List PlacedGoal
unplanned cs c = unplanned_at cs (first_place c.toks) (goal_places c.toks) (goals_of c.said)

-- ---- none is left out

abbrev pub is_planless : List ReadClause → LiteralOf Term → Bool
is_planless cs g = not (has_plan cs true Achieve g)

-- these are all goals of the clause for which there is no plan, in their order
abbrev pub AreAllPlanless : List ReadClause → ReadClause → List PlacedGoal → Type 0
AreAllPlanless cs c told = map (λ p. p.goal) told ≡ filter (is_planless cs) (goals_of c.said)
