-- A walk over slots in which what is no longer perceived loses its mark.
use Rattle.std.proofs.Common.{◌≡◌, ◌<◌, ℕ, suc, ◌+◌, true, false, List, [], ◌∷◌, ◌++◌, length, take, drop, Option, Some, None, refl, ap, sym, ◌∙◌, subst, arith}
use Rattle.std.specs.List.{slice_set}
use Rattle.std.specs.Option.{option_map_or}
use Rattle.std.proofs.lemmas.Bool.{false≢true}
use Rattle.std.proofs.lemmas.List.{length-set}
use Rattle.asl_term.specs.declared.syntax.LiteralOf.{LiteralOf}
use Rattle.asl_term.specs.declared.syntax.Term.{Term}
use Rattle.asl_term.specs.declared.syntax.Trigger.{Trigger}
use Rattle.asl_index_tables.specs.Slots.{kept, at_slot}
use Rattle.asl_beliefs.specs.Sources.{source_percept}
use Rattle.asl_beliefs.specs.Changes.{is_unseen, unseen, loss}
use Rattle.asl_beliefs.specs.Bases.{AreBeliefs}
use Rattle.asl_index.specs.Hits.{left_slot, is_unseen_at}
use Rattle.asl_index.proofs.Filing.{BeliefSlots, at_get}
use Rattle.asl_index.proofs.Changes.{sound_left}
use Rattle.asl_index.proofs.Steps.{staying, losing}

pub unseen_here : (percepts : List (LiteralOf Term)) (s : BeliefSlots) (k : ℕ) → is_unseen_at percepts s k ≡ true
    → (b : LiteralOf Term) × (at_slot s k ≡ Some b) × (is_unseen percepts b ≡ true)
unseen_here percepts s k e = go (at_slot s k) refl e where
  go : (x : Option (LiteralOf Term)) → at_slot s k ≡ x → option_map_or (is_unseen percepts) x false ≡ true
      → (b : LiteralOf Term) × (at_slot s k ≡ Some b) × (is_unseen percepts b ≡ true)
  go None u w = absurd (false≢true w)
  go (Some b) u w = (b, u, w)

-- what is done stays, and the rest is still to be looked at
pub record Forgot (percepts : List (LiteralOf Term)) (first slots : BeliefSlots) (k : ℕ) (events : List Trigger) : Type 0 where
  pub size : length slots ≡ length first
  pub sound : AreBeliefs (kept slots)
  pub beliefs : kept (take k slots) ++ (unseen percepts (kept (drop k slots))).beliefs ≡ (unseen percepts (kept first)).beliefs
  pub told : events ++ (unseen percepts (kept (drop k slots))).events ≡ (unseen percepts (kept first)).events

module _ (percepts : List (LiteralOf Term)) (first slots : BeliefSlots) where
  pub forgot_start : AreBeliefs (kept first) → (events : List Trigger) → events ≡ [] → Forgot percepts first first 0 events
  forgot_start a events none = record {
    size = refl;
    sound = a;
    beliefs = refl;
    told = ap (λ z. z ++ (unseen percepts (kept first)).events) none;
  }

  pub forgot_kept : (k : ℕ) (events : List Trigger) → Forgot percepts first slots k events → k < length first → is_unseen_at percepts slots k ≡ false
      → Forgot percepts first slots (k + 1) events
  forgot_kept k events f l e =
      let size = f.size in
      let r = staying percepts slots k events (omega (arith, l, size)) e in
      let next : suc k ≡ k + 1 = omega arith in
      subst (λ m. Forgot percepts first slots m events) next (record { size = f.size; sound = f.sound; beliefs = r.0 ∙ f.beliefs; told = r.1 ∙ f.told })

  pub forgot_lost : (k : ℕ) (events more : List Trigger) (new : BeliefSlots) (event : Trigger) (marks : List Term) → Forgot percepts first slots k events
      → is_unseen_at percepts slots k ≡ true → marks ≡ source_percept ∷ []
      → ((b : LiteralOf Term) → at_slot slots k ≡ Some b → new ≡ slice_set slots k (left_slot marks b))
      → ((b : LiteralOf Term) → at_slot slots k ≡ Some b → event ≡ loss marks b)
      → more ≡ events ++ event ∷ [] → Forgot percepts first new (k + 1) more
  forgot_lost k events more new event marks f e is change tell all =
      let found = unseen_here percepts slots k e in
      let b = found.0 in
      let made : new ≡ slice_set slots k (left_slot (source_percept ∷ []) b) = change b found.1 ∙ ap (λ z. slice_set slots k (left_slot z b)) is in
      let said : more ≡ events ++ loss (source_percept ∷ []) b ∷ [] = all ∙ ap (λ z. events ++ z ∷ []) (tell b found.1 ∙ ap (λ z. loss z b) is) in
      let r = losing percepts slots new k b events (at_get slots k b found.1) found.2 made in
      let next : suc k ≡ k + 1 = omega arith in
      subst (λ m. Forgot percepts first new m more) next (record {
        size = ap length made ∙ length-set slots k (left_slot (source_percept ∷ []) b) ∙ f.size;
        sound = subst (λ z. AreBeliefs (kept z)) (sym made) (sound_left slots k (source_percept ∷ []) b f.sound found.1);
        beliefs = r.0 ∙ f.beliefs;
        told = ap (λ z. z ++ (unseen percepts (kept (drop (suc k) new))).events) said ∙ r.1 ∙ f.told;
      })

-- after a belief that is unseen lost annotations they are beliefs still
pub lost_sound : (percepts : List (LiteralOf Term)) (s new : BeliefSlots) (k : ℕ) (marks : List Term) → AreBeliefs (kept s) → is_unseen_at percepts s k ≡ true
    → ((b : LiteralOf Term) → at_slot s k ≡ Some b → new ≡ slice_set s k (left_slot marks b)) → AreBeliefs (kept new)
lost_sound percepts s new k marks a e change =
    let found = unseen_here percepts s k e in
    subst (λ z. AreBeliefs (kept z)) (sym (change found.0 found.1)) (sound_left s k marks found.0 a found.1)

pub forgot_at : (percepts : List (LiteralOf Term)) (first : BeliefSlots) (k : ℕ) (slots slots' : BeliefSlots) (events events' : List Trigger) → slots' ≡ slots → events' ≡ events
    → Forgot percepts first slots k events → Forgot percepts first slots' k events'
forgot_at percepts first k slots slots' events events' e f p =
    subst (λ z. Forgot percepts first z k events') (sym e) (subst (λ z. Forgot percepts first slots k z) (sym f) p)
