-- Acts that exchange one fact.
use Rattle.std.proofs.Common.{◌≡◌, ℕ, true, false, not, ◌||◌, cond, if◌then◌else◌, List, [], ◌∷◌, ◌++◌, Some, None, refl, ap, ◌∙◌}
use Rattle.std.specs.List.{flat_map}
use Rattle.std.specs.Option.{option_and_then, option_map}
use Rattle.asl_term.specs.declared.syntax.LiteralOf.{LiteralOf}
use Rattle.asl_term.specs.declared.syntax.Term.{Term}
use Rattle.asl_term.specs.declared.syntax.Term.TheVariants as term
use Rattle.asl_term.specs.Exprs.{is_ground_literal}
use Rattle.asl_unify.specs.declared.subst.Pair.{Pair}
use Rattle.asl_unify.specs.Compare.{Outcome, Unified, Failed}
use Rattle.asl_unify.specs.Matches.{agreed, on_unified}
use Rattle.mas_world.specs.declared.facts.Deed.{Deed}
use Rattle.mas_world.specs.Acts.{deed, done, effect, effects, if_ground}
use Rattle.mas_world.specs.Facts.{AreFacts, news, without}
use Rattle.mas_world.specs.Guards.{first_of, ready}
use Rattle.mas_world.proofs.Sound.{fact_equiv, none_are, push_are}
use Rattle.mas_artifact.specs.Tables.{act}
use Rattle.mas_artifact.proofs.Trees.{Small}

pub one_fact : (f : LiteralOf Term) (n d : ℕ) → Small (term.Lit f) n d → AreFacts (f ∷ [])
one_fact f n d s = push_are [] f none_are s.ground s.settled refl

-- one fact is taken away and another is added
abbrev done_by : LiteralOf Term → List (LiteralOf Term) → List (LiteralOf Term)
done_by g kept = kept ++ news kept (g ∷ [])

pub replaced : (f g : LiteralOf Term) → done (record { dels = f ∷ []; adds = g ∷ []; drops = [] }) (f ∷ []) ≡ g ∷ []
replaced f g =
    let none : without (f ∷ []) (f ∷ []) ≡ [] = ap (λ b. cond (not (b || false)) (f ∷ []) []) (fact_equiv.refl f) in
    ap (done_by g) none

-- the first solution of a guard of one literal over one fact
pub first_agreed : (o : Outcome) → first_of (flat_map (λ r. r ∷ []) (on_unified (λ r. r ∷ []) o ++ [])) ≡ agreed o
first_agreed (Unified r) = refl
first_agreed (Failed e) = refl

-- what one effect comes to
pub effect_is : (s : List Pair) (l m : LiteralOf Term) → ready s l ≡ Some m → is_ground_literal m ≡ true → effect s l ≡ Some m
effect_is s l m r g = ap (option_and_then if_ground) r ∙ ap (λ b. if b then Some m else None) g

-- one fact goes and one comes
abbrev pub exchange : LiteralOf Term → LiteralOf Term → Deed
exchange old new = record { dels = old ∷ []; adds = new ∷ []; drops = [] }

pub deed_is : (s : List Pair) (head old new o n : LiteralOf Term) → effect s old ≡ Some o → effect s new ≡ Some n → deed (act head old [] new) s ≡ Some (exchange o n)
deed_is s head old new o n d a =
    ap (λ z. option_and_then (λ dels. option_map (λ adds. record { dels = dels; adds = adds; drops = [] }) (effects s (new ∷ []))) (option_and_then (λ x. Some (x ∷ [])) z)) d
    ∙ ap (λ z. option_map (λ adds. record { dels = o ∷ []; adds = adds; drops = [] }) (option_and_then (λ x. Some (x ∷ [])) z)) a
