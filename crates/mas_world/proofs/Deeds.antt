-- What acts add has no variables and no operations.
use Rattle.std.proofs.Common.{◌≡◌, ℕ, Bool, true, false, cond, if◌then◌else◌, List, [], ◌∷◌, Option, Some, None, IfSome, refl, ap, sym, subst, ◌∙◌}
use Rattle.std.specs.List.{list_all}
use Rattle.std.specs.Option.{option_and_then, option_map, option_or}
use Rattle.std.specs.Prelude.{Result, Ok, Err, OnOk, OnErr}
use Rattle.std.specs.Result.{result_ok}
use Rattle.asl_term.specs.declared.syntax.LiteralOf.{LiteralOf}
use Rattle.asl_term.specs.declared.syntax.Term.{Term}
use Rattle.asl_term.specs.Exprs.{is_ground_literal}
use Rattle.asl_unify.specs.declared.subst.Pair.{Pair}
use Rattle.asl_unify.specs.Applied.{applied_literal, within_literal}
use Rattle.asl_unify.specs.Settling.{Settled, settle_literal}
use Rattle.mas_mind.specs.Minds.{are_ground}
use Rattle.mas_world.specs.declared.acts.Act.{Act}
use Rattle.mas_world.specs.declared.facts.Deed.{Deed}
use Rattle.mas_world.specs.Acts.{decided, deed, done, effect, effects, entered, if_ground, tried}
use Rattle.mas_world.specs.Facts.{AreFacts, ArePlain, is_settled_literal}
use Rattle.mas_world.specs.Guards.{first_of, ready, solutions}
use Rattle.mas_world.proofs.Settles.{both, literal_settles}
use Rattle.mas_world.proofs.Sound.{done_are}

-- of two steps both came to something
pub chained : {A B : Type 0} (o : Option A) (f : A → Option B) (y : B) → option_and_then f o ≡ Some y → (x : A) × (o ≡ Some x) × (f x ≡ Some y)
chained None f y e = cc
chained (Some x) f y e = (x, refl, e)

record Plain (l : LiteralOf Term) : Type 0 where
  ground : is_ground_literal l ≡ true
  settled : is_settled_literal l ≡ true

grounded : (b : Bool) (x y : LiteralOf Term) → is_ground_literal x ≡ b → (if b then Some x else None) ≡ Some y → (x ≡ y) × (is_ground_literal x ≡ true)
grounded true x y g e = (cc, g)
grounded false x y g e = cc

settled : (b : Bool) (s : Settled (LiteralOf Term)) (x : LiteralOf Term) → cond b (result_ok s) None ≡ Some x → s ≡ Ok x
settled false s x e = cc
settled true (Ok y) x e = cc
settled true (Err f) x e = cc

effect_plain : (s : List Pair) (l y : LiteralOf Term) → effect s l ≡ Some y → Plain y
effect_plain s l y e =
    let c = chained (ready s l) if_ground y e in
    let x = c.0 in
    let g = grounded (is_ground_literal x) x y refl c.2 in
    let t = applied_literal s l in
    let h = literal_settles t x (settled (within_literal t) (settle_literal t) x c.1) in
    record { ground = ap is_ground_literal (sym g.0) ∙ g.1; settled = ap is_settled_literal (sym g.0) ∙ h }

mapped : {A B : Type 0} (f : A → B) (o : Option A) (y : B) → option_map f o ≡ Some y → (x : A) × (o ≡ Some x) × (f x ≡ y)
mapped f None y e = cc
mapped f (Some x) y e = (x, refl, cc)

effects_plain : (s : List Pair) (ls ys : List (LiteralOf Term)) → effects s ls ≡ Some ys → ArePlain ys
effects_plain s [] ys e =
    let is : [] ≡ ys = cc in
    record { ground = ap are_ground (sym is); settled = ap (list_all is_settled_literal) (sym is) }
effects_plain s (l ∷ ls) ys e =
    let c = chained (effect s l) (λ x. option_map (λ xs. x ∷ xs) (effects s ls)) ys e in
    let x = c.0 in
    let m = mapped (λ xs. x ∷ xs) (effects s ls) ys c.2 in
    let first = effect_plain s l x c.1 in
    let rest = effects_plain s ls m.0 m.1 in
    record {
      ground = ap are_ground (sym m.2) ∙ both (is_ground_literal x) (are_ground m.0) first.ground rest.ground;
      settled = ap (list_all is_settled_literal) (sym m.2) ∙ both (is_settled_literal x) (list_all is_settled_literal m.0) first.settled rest.settled;
    }

deed_plain : (a : Act) (s : List Pair) (d : Deed) → deed a s ≡ Some d → ArePlain d.adds
deed_plain a s d e =
    let c = chained (effects s a.dels) (λ dels. option_map (λ adds. let new : Deed = record { dels = dels; adds = adds; drops = a.drops } in new) (effects s a.adds)) d e in
    let m = mapped (λ adds. let new : Deed = record { dels = c.0; adds = adds; drops = a.drops } in new) (effects s a.adds) d c.2 in
    let p = effects_plain s a.adds m.0 m.1 in
    let is = ap (λ z. z.adds) (sym m.2) in
    record { ground = ap are_ground is ∙ p.ground; settled = ap (list_all is_settled_literal) is ∙ p.settled }

tried_plain : (facts : List (LiteralOf Term)) (a : Act) (agent : List ℕ) (action : LiteralOf Term) (d : Deed) → tried facts a agent action ≡ Some d → ArePlain d.adds
tried_plain facts a agent action d e =
    let c = chained (entered a agent action) (λ s. option_and_then (deed a) (first_of (solutions facts a.guard s))) d e in
    let m = chained (first_of (solutions facts a.guard c.0)) (deed a) d c.2 in
    deed_plain a m.0 d m.2

either_plain : (o later : Option Deed) (d : Deed) → (o ≡ Some d → ArePlain d.adds) → (later ≡ Some d → ArePlain d.adds) → option_or o later ≡ Some d → ArePlain d.adds
either_plain None later d p q e = q e
either_plain (Some x) later d p q e = p e

pub decided_plain : (facts : List (LiteralOf Term)) (acts : List Act) (agent : List ℕ) (action : LiteralOf Term) (d : Deed) → decided facts acts agent action ≡ Some d → ArePlain d.adds
decided_plain facts [] agent action d e = cc
decided_plain facts (a ∷ acts) agent action d e =
    either_plain (tried facts a agent action) (decided facts acts agent action) d (tried_plain facts a agent action d) (decided_plain facts acts agent action d) e

-- of an act that decides, where one does
pub decided_all : (facts : List (LiteralOf Term)) (acts : List Act) (agent : List ℕ) (action : LiteralOf Term) (o : Option Deed) → o ≡ decided facts acts agent action → IfSome o (λ d. ArePlain d.adds)
decided_all facts acts agent action None e = tt
decided_all facts acts agent action (Some d) e = decided_plain facts acts agent action d (sym e)

-- what is left of facts, whether the deed was done or not
pub left_are : {T E : Type 0} (r : Result T E) (d : Deed) (old new : List (LiteralOf Term)) → OnOk r (new ≡ done d old) → OnErr r (new ≡ old) → AreFacts old → ArePlain d.adds → AreFacts new
left_are (Ok x) d old new e f a p = subst AreFacts (sym e) (done_are d old a p.ground p.settled)
left_are (Err x) d old new e f a p = subst AreFacts (sym f) a
