-- Where a hint says that there is no plan for a goal.
use Rattle.std.specs.Prelude.{Bool, ◌≤◌, if◌then◌else◌, List, [], ◌∷◌, ◌++◌, length, map}
use Rattle.asl_lexer.specs.declared.token.Place.{Place}
use Rattle.look_pieces.specs.declared.clause.ReadClause.{ReadClause}
use Rattle.look_pieces.specs.declared.goals.PlacedGoal.{PlacedGoal}
use Rattle.look_pieces.specs.Goals.{unplanned}
use Rattle.look_pieces.specs.declared.findings.Finding.{Finding}
use Rattle.look_hints.specs.declared.hint.Code.{Code}
use Rattle.look_hints.specs.declared.hint.Code.TheVariants.{NoPlan}
use Rattle.look_hints.specs.declared.hint.Hint.{Hint}

-- where a hint stands, and what it is about
abbrev pub spot : Hint → Place × Code
spot h = (h.place, h.code)

abbrev pub spot_of : PlacedGoal → Place × Code
spot_of p = (p.place, NoPlan)

-- at each goal of the clause for which its source, these clauses, has no plan; nowhere, where some message may tell a plan
abbrev pub planless : Bool → List ReadClause → ReadClause → List (Place × Code)
planless tells_plans cs c = if tells_plans then [] else map spot_of (unplanned cs c)

-- the same of these clauses of the source
abbrev pub all_planless : Bool → List ReadClause → List ReadClause → List (Place × Code)
all_planless tells_plans cs [] = []
all_planless tells_plans cs (d ∷ ds) = planless tells_plans cs d ++ all_planless tells_plans cs ds

-- there are as many findings as goals without a plan, or more
abbrev pub TellsGoals : Bool → List ReadClause → List Finding → Type 0
TellsGoals tells_plans cs fs = length (all_planless tells_plans cs cs) ≤ length fs
