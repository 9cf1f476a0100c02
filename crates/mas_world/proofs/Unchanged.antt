-- Where no act acts nothing changes.
use Rattle.std.proofs.Common.{◌≡◌, ℕ, List, [], ◌∷◌, Option, Some, None, Result, Ok, Err, IfOk, refl, sym, ap, ◌∙◌}
use Rattle.asl_term.specs.declared.syntax.LiteralOf.{LiteralOf}
use Rattle.asl_term.specs.declared.syntax.Term.{Term}
use Rattle.mas_mind.specs.declared.mind.Feedback.{Feedback}
use Rattle.mas_mind.specs.declared.mind.Feedback.TheVariants.{Failed}
use Rattle.mas_world.specs.declared.facts.Deed.{Deed}
use Rattle.mas_world.specs.Acts.{decided}
use Rattle.mas_world.specs.Worlds.{Segment, Used, World, acted, after, or_later, or_used, used_acted}

later_stays : (u : Used) (us : List Used) (s : Segment) (o : Option Deed) (later : Feedback × List Used) → (later.0 ≡ Failed → later.1 ≡ us) → (or_later u us (after s o) later).0 ≡ Failed
    → (or_later u us (after s o) later).1 ≡ u ∷ us
later_stays u us s (Some d) later h e = cc
later_stays u us s None later h e = ap (λ x. u ∷ x) (h e)

used_stay : (us : List Used) (agent : List ℕ) (action : LiteralOf Term) → (used_acted us agent action).0 ≡ Failed → (used_acted us agent action).1 ≡ us
used_stay [] agent action e = refl
used_stay (u ∷ us) agent action e =
    later_stays u us u.segment (decided u.segment.facts u.segment.acts agent action) (used_acted us agent action) (used_stay us agent action) e

world_stays : (w : World) (o : Option Deed) (later : Feedback × List Used) → (later.0 ≡ Failed → later.1 ≡ w.used) → (or_used w o later).0 ≡ Failed
    → (or_used w o later).1 ≡ w
world_stays w (Some d) later h e = cc
world_stays w None later h e = λ i. record { file = w.file; hidden = w.hidden; used = h e i }

acted_stays : (w : World) (agent : List ℕ) (action : LiteralOf Term) → (acted w agent action).0 ≡ Failed → (acted w agent action).1 ≡ w
acted_stays w agent action e =
    world_stays w (decided w.file.facts w.file.acts agent action) (used_acted w.used agent action) (used_stay w.used agent action) e

-- what follows from a clause of a call that came back
pub if_ok : {T E : Type 0} {P Q : T → Type 0} (r : Result T E) → ((x : T) → P x → Q x) → IfOk r P → IfOk r Q
if_ok (Ok x) f p = f x p
if_ok (Err e) f p = tt

-- an action that failed
pub unchanged : (w new : World) (agent : List ℕ) (action : LiteralOf Term) (f : Feedback) → (f, new) ≡ acted w agent action → f ≡ Failed → new ≡ w
unchanged w new agent action f e h = ap (λ p. p.1) e ∙ acted_stays w agent action (sym (ap (λ p. p.0) e) ∙ h)
