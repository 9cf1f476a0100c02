-- No goal without a plan is left out.
use Rattle.std.proofs.Common.{◌≡◌, ◌∙◌, Bool, true, false, not, cond, List, [], ◌∷◌, ◌++◌, map, drop, refl, ap}
use Rattle.std.specs.List.{filter}
use Rattle.asl_term.specs.declared.syntax.LiteralOf.{LiteralOf}
use Rattle.asl_term.specs.declared.syntax.Term.{Term}
use Rattle.asl_term.specs.declared.syntax.Kind.TheVariants.{Achieve}
use Rattle.asl_lexer.specs.declared.token.Place.{Place}
use Rattle.look_pieces.specs.declared.clause.ReadClause.{ReadClause}
use Rattle.look_pieces.specs.declared.goals.PlacedGoal.{PlacedGoal}
use Rattle.look_pieces.specs.Clauses.{has_plan}
use Rattle.look_pieces.specs.Goals.{AreAllPlanless, first_place, goal_places, goals_of, is_planless, next_place, placed, unplanned, unplanned_at}

-- one goal, whether it has a plan or not
one_told : (b : Bool) (p : Place) (g : LiteralOf Term) (told : List PlacedGoal) (goals : List (LiteralOf Term)) → map (λ (x : PlacedGoal). x.goal) told ≡ goals →
    map (λ (x : PlacedGoal). x.goal) (cond b [] (placed p g ∷ []) ++ told) ≡ cond (not b) (g ∷ goals) goals
one_told true p g told goals e = e
one_told false p g told goals e = ap (λ gs. g ∷ gs) e

goals_told : (cs : List ReadClause) (first : Place) (ps : List Place) (gs : List (LiteralOf Term)) →
    map (λ (x : PlacedGoal). x.goal) (unplanned_at cs first ps gs) ≡ filter (is_planless cs) gs
goals_told cs first ps [] = refl
goals_told cs first ps (g ∷ gs) =
    one_told (has_plan cs true Achieve g) (next_place first ps) g (unplanned_at cs first (drop 1 ps) gs) (filter (is_planless cs) gs)
    (goals_told cs first (drop 1 ps) gs)

pub none_left_out : (cs : List ReadClause) (c : ReadClause) (all : List PlacedGoal) → all ≡ unplanned cs c → AreAllPlanless cs c all
none_left_out cs c all e = ap (map (λ (x : PlacedGoal). x.goal)) e ∙ goals_told cs (first_place c.toks) (goal_places c.toks) (goals_of c.said)
