-- Steps of loops over slots.
use Rattle.std.proofs.Common.{◌≡◌, ◌≤◌, ◌<◌, ℕ, zero, suc, ◌+◌, ◌-◌, true, false, List, [], ◌∷◌, ◌++◌, map, length, take, Option, Some, None, ap, sym, ◌∙◌, subst, append_assoc, arith}
use Rattle.std.specs.Prelude.{not}
use Rattle.std.specs.List.{slice_get, slice_set, filter, AllByRecursion}
use Rattle.std.proofs.lemmas.List.{take_all, append-nil}
use Rattle.asl_term.specs.declared.syntax.LiteralOf.{LiteralOf}
use Rattle.asl_term.specs.declared.syntax.Term.{Term}
use Rattle.asl_term.specs.declared.syntax.Trigger.{Trigger}
use Rattle.asl_unify.specs.declared.subst.Pair.{Pair}
use Rattle.asl_unify.specs.Compare.{same_frame}
use Rattle.asl_index_tables.specs.Slots.{kept, places, at_slot, rank}
use Rattle.asl_index_tables.proofs.Slots.{nth_slot, nth_none}
use Rattle.asl_beliefs.specs.Changes.{is_match, minus, first_match}
use Rattle.asl_beliefs.specs.Bases.{AreBeliefs}
use Rattle.asl_beliefs.specs.inner.Places.{hit_from}
use Rattle.asl_index.specs.Hits.{IsHitAt}
use Rattle.asl_index.proofs.Filing.{BeliefSlots}
use Rattle.asl_index.proofs.Changes.{Unmatched, none_hits, hit_slot}
use Rattle.asl_index.proofs.Steps.{Apart, all_apart, gone_slot, sound_gone}

module _ {A : Type 0} (P : A → Type 0) where
  all_suc : (xs : List A) (k : ℕ) (x : A) → slice_get xs k ≡ Some x → P x → AllByRecursion P (take k xs) → AllByRecursion P (take (suc k) xs)
  all_suc [] k x e p a = cc
  all_suc (y ∷ xs) zero x e p a = let is : x ≡ y = cc in (subst P is p, tt)
  all_suc (y ∷ xs) (suc k) x e p a = (a.0, all_suc xs k x e p a.1)

  pub all_next : (xs : List A) (k : ℕ) (x : A) → slice_get xs k ≡ Some x → P x → AllByRecursion P (take k xs) → AllByRecursion P (take (k + 1) xs)
  all_next xs k x e p a = let next : suc k ≡ k + 1 = omega arith in subst (λ m. AllByRecursion P (take m xs)) next (all_suc xs k x e p a)

same_content : {A : Type 0} (s : List (Option A)) (j : ℕ) (b c : A) → at_slot s j ≡ Some b → at_slot s j ≡ Some c → b ≡ c
same_content s j b c e f = let both : Some b ≡ Some c = sym e ∙ f in cc

get_past : {A : Type 0} → (xs : List A) (k : ℕ) → slice_get xs k ≡ None → length xs ≤ k
get_past [] k e = omega arith
get_past (x ∷ xs) zero e = cc
get_past (x ∷ xs) (suc k) e = let more = get_past xs k e in omega (arith, more)

get_within : {A : Type 0} → (xs : List A) (k : ℕ) (x : A) → slice_get xs k ≡ Some x → k < length xs
get_within [] k x e = cc
get_within (y ∷ xs) zero x e = omega arith
get_within (y ∷ xs) (suc k) x e = let more = get_within xs k x e in omega (arith, more)

module _ (p : LiteralOf Term) (s : List Pair) (slots : BeliefSlots) where
  -- the next belief of the frame has no match
  pub unmatched_next : (k j : ℕ) (b : LiteralOf Term) → slice_get (places (same_frame p) 0 slots) k ≡ Some j → at_slot slots j ≡ Some b → first_match p b s ≡ None
      → Unmatched p s (take k (filter (same_frame p) (kept slots))) → Unmatched p s (take (k + 1) (filter (same_frame p) (kept slots)))
  unmatched_next k j b e at none a =
      let q = nth_slot (same_frame p) slots k j e in
      all_next (λ b. first_match p b s ≡ None) (filter (same_frame p) (kept slots)) k q.here q.nth
      (ap (λ b. first_match p b s) (same_content slots j q.here b q.at at) ∙ none) a

  -- or it is the first that has one
  pub hit_found : (k j : ℕ) (b : LiteralOf Term) (t : List Pair) → slice_get (places (same_frame p) 0 slots) k ≡ Some j → at_slot slots j ≡ Some b
      → first_match p b s ≡ Some t → Unmatched p s (take k (filter (same_frame p) (kept slots))) → IsHitAt p s slots (record { slot = j; subst = t })
  hit_found k j b t e at found a =
      let q = hit_slot p s slots k j e in
      let same : 0 + rank slots j ≡ rank slots j = omega arith in
      record {
        here = q.here;
        at = q.at;
        first = q.first 0 t (ap (λ b. first_match p b s) (same_content slots j q.here b q.at at) ∙ found) a
            ∙ ap (λ m. Some (record { place = m; subst = t })) same;
      }

  -- where all of the frame have none there is no match
  pub none_found : (n : ℕ) → length (filter (same_frame p) (kept slots)) ≤ n → Unmatched p s (take n (filter (same_frame p) (kept slots)))
      → hit_from 0 p s (kept slots) ≡ None
  none_found n e a =
      let xs = filter (same_frame p) (kept slots) in
      none_hits p s 0 (kept slots) (subst (Unmatched p s) (take_all n xs e) a)

-- a place in the list of places is that of a slot with something, and is there for each of the frame
pub slot_filled : (p : LiteralOf Term) (slots : BeliefSlots) (k j : ℕ) → slice_get (places (same_frame p) 0 slots) k ≡ Some j → at_slot slots j ≡ None → ⊥
slot_filled p slots k j e at =
    let q = nth_slot (same_frame p) slots k j e in
    let both : None ≡ Some q.here = sym at ∙ q.at in
    cc

pub not_beyond : (p : LiteralOf Term) (slots : BeliefSlots) (k : ℕ) → slice_get (places (same_frame p) 0 slots) k ≡ None
    → k < length (filter (same_frame p) (kept slots)) → ⊥
not_beyond p slots k e l =
    let past = get_past (filter (same_frame p) (kept slots)) k (nth_none (same_frame p) slots k e) in
    omega (arith, past, l)

-- a walk that takes out what a pattern matches
module _ (p : LiteralOf Term) where
  pub record Walked (slots : BeliefSlots) (k : ℕ) (events : List Trigger) (first : BeliefSlots) : Type 0 where
    pub within : k ≤ length (filter (same_frame p) (kept slots))
    pub sound : AreBeliefs (kept slots)
    pub before : Apart p (take k (filter (same_frame p) (kept slots)))
    pub beliefs : filter (λ b. not (is_match p b)) (kept slots) ≡ filter (λ b. not (is_match p b)) (kept first)
    pub told : events ++ map minus (filter (is_match p) (kept slots)) ≡ map minus (filter (is_match p) (kept first))

  module _ (slots : BeliefSlots) (k : ℕ) (told : List Trigger) (first : BeliefSlots) (w : Walked slots k told first) (j : ℕ) (b : LiteralOf Term)
      (e : slice_get (places (same_frame p) 0 slots) k ≡ Some j) (at : at_slot slots j ≡ Some b) where
    pub going_on : is_match p b ≡ true → (new : BeliefSlots) → new ≡ slice_set slots j None → (more : List Trigger) → more ≡ told ++ minus b ∷ [] → Walked new k more first
    going_on h new is more tell =
        let q = gone_slot p slots k j e in
        let same = same_content slots j b q.here at q.at in
        let g = q.goes (ap (is_match p) (sym same) ∙ h) w.before in
        let n = nth_slot (same_frame p) slots k j e in
        let inside = get_within (filter (same_frame p) (kept slots)) k n.here n.nth in
        let less = g.fewer in
        subst (λ z. Walked z k more first) (sym is) (record {
          within = omega (arith, inside, less);
          sound = sound_gone slots j b w.sound at;
          before = subst (Apart p) (sym g.before) w.before;
          beliefs = g.rest ∙ w.beliefs;
          told =
              ap (λ z. z ++ map minus (filter (is_match p) (kept (slice_set slots j None)))) tell
              ∙ append_assoc told (minus b ∷ []) (map minus (filter (is_match p) (kept (slice_set slots j None))))
              ∙ ap (λ c. told ++ minus c ∷ map minus (filter (is_match p) (kept (slice_set slots j None)))) same
              ∙ ap (λ z. told ++ map minus z) (sym g.told)
              ∙ w.told;
        })

    pub going_smaller : is_match p b ≡ true → (new : BeliefSlots) → new ≡ slice_set slots j None
        → length (filter (same_frame p) (kept new)) - k < length (filter (same_frame p) (kept slots)) - k
    going_smaller h new is =
        let q = gone_slot p slots k j e in
        let same = same_content slots j b q.here at q.at in
        let g = q.goes (ap (is_match p) (sym same) ∙ h) w.before in
        let n = nth_slot (same_frame p) slots k j e in
        let inside = get_within (filter (same_frame p) (kept slots)) k n.here n.nth in
        let less = g.fewer in
        let size = ap (λ z. length (filter (same_frame p) (kept z))) is in
        omega (arith, inside, less, size)

    pub staying_on : is_match p b ≡ false → Walked slots (k + 1) told first
    staying_on h =
        let n = nth_slot (same_frame p) slots k j e in
        let inside = get_within (filter (same_frame p) (kept slots)) k n.here n.nth in
        record {
          within = omega (arith, inside);
          sound = w.sound;
          before = all_next (λ b. is_match p b ≡ false) (filter (same_frame p) (kept slots)) k n.here n.nth (ap (is_match p) (same_content slots j n.here b n.at at) ∙ h) w.before;
          beliefs = w.beliefs;
          told = w.told;
        }

    pub staying_smaller : length (filter (same_frame p) (kept slots)) - (k + 1) < length (filter (same_frame p) (kept slots)) - k
    staying_smaller =
        let n = nth_slot (same_frame p) slots k j e in
        let inside = get_within (filter (same_frame p) (kept slots)) k n.here n.nth in
        omega (arith, inside)

  -- the walk is over
  pub walked_all : (slots : BeliefSlots) (k : ℕ) (told : List Trigger) (first : BeliefSlots) → Walked slots k told first → slice_get (places (same_frame p) 0 slots) k ≡ None
      → (kept slots ≡ filter (λ b. not (is_match p b)) (kept first)) × (told ≡ map minus (filter (is_match p) (kept first)))
  walked_all slots k told first w e =
      let xs = filter (same_frame p) (kept slots) in
      let past = get_past xs k (nth_none (same_frame p) slots k e) in
      let none = all_apart p (kept slots) (subst (Apart p) (take_all k xs past) w.before) in
      (sym none.0 ∙ w.beliefs, sym (append-nil told) ∙ ap (λ z. told ++ map minus z) (sym none.1) ∙ w.told)
