-- Lists, as loops make them.
use Rattle.std.proofs.Common.{◌≡◌, ℕ, Bool, not, ◌&&◌, List, [], ◌∷◌, ◌++◌, length, drop, refl, sym, ap, ◌∙◌, append_assoc, arith}
use Rattle.std.specs.Option.{option_to_list}
use Rattle.std.proofs.lemmas.List.{append-nil}
use Rattle.asl_term.specs.declared.syntax.LiteralOf.{LiteralOf}
use Rattle.asl_term.specs.declared.syntax.Term.{Term}
use Rattle.asl_term.specs.declared.syntax.Formula.{Formula}
use Rattle.asl_lexer.specs.declared.token.Tok.{Tok}
use Rattle.asl_lexer.specs.declared.token.Place.{Place}
use Rattle.asl_lexer.specs.Words.{word}
use Rattle.look_pieces.specs.declared.clause.ReadClause.{ReadClause}
use Rattle.look_pieces.specs.declared.goals.PlacedGoal.{PlacedGoal}
use Rattle.look_pieces.specs.Goals.{goal_in, goals_in, is_bang, is_change, place_if, places_from, next_place, unplanned_one, unplanned_at}

pub goals_more : (front : List (LiteralOf Term)) (f : Formula) (fs : List Formula) (total : List (LiteralOf Term)) → front ++ goals_in (f ∷ fs) ≡ total →
    (front ++ option_to_list (goal_in f)) ++ goals_in fs ≡ total
goals_more front f fs total h = append_assoc front (option_to_list (goal_in f)) (goals_in fs) ∙ h

pub goals_all : (front : List (LiteralOf Term)) (fs : List Formula) (total : List (LiteralOf Term)) → length fs ≡ 0 → front ++ goals_in fs ≡ total → front ≡ total
goals_all front [] total e h = sym (append-nil front) ∙ h
goals_all front (f ∷ fs) total e h = absurd (omega arith)

pub places_more : (front : List Place) (change : Bool) (t : Tok) (ts : List Tok) (total : List Place) → front ++ places_from change (t ∷ ts) ≡ total →
    (front ++ place_if (is_bang (word t) && not change) ts) ++ places_from (is_change (word t)) ts ≡ total
places_more front change t ts total h = append_assoc front (place_if (is_bang (word t) && not change) ts) (places_from (is_change (word t)) ts) ∙ h

pub places_all : (front : List Place) (change : Bool) (ts : List Tok) (total : List Place) → length ts ≡ 0 → front ++ places_from change ts ≡ total → front ≡ total
places_all front change [] total e h = sym (append-nil front) ∙ h
places_all front change (t ∷ ts) total e h = absurd (omega arith)

pub unplanned_more : (front : List PlacedGoal) (cs : List ReadClause) (first : Place) (ps : List Place) (g : LiteralOf Term) (gs : List (LiteralOf Term)) (total : List PlacedGoal) →
    front ++ unplanned_at cs first ps (g ∷ gs) ≡ total →
    (front ++ unplanned_one cs (next_place first ps) g) ++ unplanned_at cs first (drop 1 ps) gs ≡ total
unplanned_more front cs first ps g gs total h = append_assoc front (unplanned_one cs (next_place first ps) g) (unplanned_at cs first (drop 1 ps) gs) ∙ h

pub unplanned_all : (front : List PlacedGoal) (cs : List ReadClause) (first : Place) (ps : List Place) (gs : List (LiteralOf Term)) (total : List PlacedGoal) → length gs ≡ 0 →
    front ++ unplanned_at cs first ps gs ≡ total → front ≡ total
unplanned_all front cs first ps [] total e h = sym (append-nil front) ∙ h
unplanned_all front cs first ps (g ∷ gs) total e h = absurd (omega arith)
