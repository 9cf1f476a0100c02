-- What a change of one slot makes of the beliefs.
use Rattle.std.proofs.Common.{◌≡◌, ℕ, zero, suc, ◌+◌, Bool, true, false, List, [], ◌∷◌, ◌++◌, take, drop, Some, None, cond, refl, ap, sym, ◌∙◌, subst, arith}
use Rattle.std.specs.Prelude.{option_to_list, not}
use Rattle.std.specs.List.{slice_get, slice_set, filter, AllByRecursion}
use Rattle.asl_term.specs.declared.syntax.LiteralOf.{LiteralOf}
use Rattle.asl_term.specs.declared.syntax.Term.{Term}
use Rattle.asl_term.specs.declared.syntax.Trigger.{Trigger}
use Rattle.asl_unify.specs.declared.subst.Pair.{Pair}
use Rattle.asl_unify.specs.Compare.{same_frame, asks}
use Rattle.asl_unify.specs.Unified.{unified}
use Rattle.asl_unify.specs.Matches.{on_unified, annots}
use Rattle.asl_index_tables.specs.Slots.{kept, places, at_slot, rank}
use Rattle.asl_index_tables.proofs.Slots.{rank_at, kept_set}
use Rattle.asl_beliefs.specs.Sources.{names_source, with_annots}
use Rattle.asl_beliefs.specs.Changes.{is_held, not_held, news, added, left_of, loss, matched, first_match, removed}
use Rattle.asl_beliefs.specs.Bases.{AreBeliefs}
use Rattle.asl_beliefs.specs.inner.Places.{hit_or, hit_from, lost_at}
use Rattle.asl_beliefs.proofs.Added.{Placed, placed_at, placed_beliefs, placed_events}
use Rattle.asl_beliefs.proofs.Taken.{HitAt, set_pieces, hit_at, hit_beliefs, hit_removed, sound_lost}
use Rattle.asl_index.specs.declared.taking.Hit.{Hit}
use Rattle.asl_index.specs.Store.{IsSlot}
use Rattle.asl_index.specs.Hits.{IsHitAt, left_slot}
use Rattle.asl_index.proofs.Filing.{BeliefSlots}

-- what is left of a belief, as a list
pub left_list : (taken : List Term) (b : LiteralOf Term) → option_to_list (left_slot taken b) ≡ left_of taken b
left_list taken b = go (filter (λ a. not (is_held taken a)) b.annots) (names_source (filter (λ a. not (is_held taken a)) b.annots)) where
  go : (left : List Term) (t : Bool) → option_to_list (cond t (Some (with_annots b left)) None) ≡ cond t (with_annots b left ∷ []) []
  go left true = refl
  go left false = refl

module _ (s : BeliefSlots) (k : ℕ) where
  -- the belief of a slot, at its place
  pub placed_slot : (b : LiteralOf Term) → AreBeliefs (kept s) → (p : IsSlot b s k) → Placed b (kept s) (rank s k)
  placed_slot b a p = placed_at (rank s k) b (kept s) a (record { here = p.here; at = rank_at s k p.here p.at; same = p.same })

  -- the belief of a slot gets other annotations
  pub kept_annots : (b : LiteralOf Term) (annots : List Term) → at_slot s k ≡ Some b
      → kept (slice_set s k (Some (with_annots b annots))) ≡ slice_set (kept s) (rank s k) (with_annots b annots)
  kept_annots b annots e =
      kept_set s k b (Some (with_annots b annots)) e
      ∙ sym (set_pieces (kept s) (rank s k) (with_annots b annots) b (rank_at s k b e))

  here : (b : LiteralOf Term) → (a : AreBeliefs (kept s)) → (p : IsSlot b s k) → at_slot s k ≡ Some (placed_slot b a p).here
  here b a p =
      let q = placed_slot b a p in
      let both : Some p.here ≡ Some q.here = sym (rank_at s k p.here p.at) ∙ q.at in
      p.at ∙ both

  -- the belief of a slot gets the annotations that it does not yet hold
  pub grown_beliefs : (b : LiteralOf Term) → AreBeliefs (kept s) → IsSlot b s k → (new : BeliefSlots)
      → ((c : LiteralOf Term) → at_slot s k ≡ Some c → new ≡ slice_set s k (Some (with_annots c (c.annots ++ not_held c.annots b.annots))))
      → kept new ≡ (added b (kept s)).beliefs
  grown_beliefs b a p new h =
      let q = placed_slot b a p in
      let at = here b a p in
      ap kept (h q.here at) ∙ kept_annots q.here (q.here.annots ++ not_held q.here.annots b.annots) at ∙ placed_beliefs (rank s k) b (kept s) q

  pub grown_events : (b : LiteralOf Term) → AreBeliefs (kept s) → IsSlot b s k → (events : List Trigger)
      → ((c : LiteralOf Term) → at_slot s k ≡ Some c → events ≡ news b (not_held c.annots b.annots)) → events ≡ (added b (kept s)).events
  grown_events b a p events h =
      let q = placed_slot b a p in
      h q.here (here b a p) ∙ placed_events (rank s k) b (kept s) q

  -- the belief of a slot loses annotations
  pub kept_lost : (taken : List Term) (b : LiteralOf Term) → at_slot s k ≡ Some b → kept (slice_set s k (left_slot taken b)) ≡ lost_at (rank s k) taken b (kept s)
  kept_lost taken b e =
      kept_set s k b (left_slot taken b) e
      ∙ ap (λ z. take (rank s k) (kept s) ++ (z ++ drop (suc (rank s k)) (kept s))) (left_list taken b)

  pub sound_left : (taken : List Term) (b : LiteralOf Term) → AreBeliefs (kept s) → at_slot s k ≡ Some b → AreBeliefs (kept (slice_set s k (left_slot taken b)))
  sound_left taken b a e =
      subst AreBeliefs (sym (kept_lost taken b e)) (sound_lost (rank s k) taken b (kept s) a (rank_at s k b e))

-- a belief of another frame has no match
pub no_match : (p b : LiteralOf Term) (s : List Pair) → same_frame p b ≡ false → first_match p b s ≡ None
no_match p b s e = ap (λ z. slice_get (cond z (on_unified (annots p.annots b.annots) (unified s (asks p.args b.args []))) []) 0) e

module _ (p : LiteralOf Term) (s : List Pair) where
  abbrev pub Unmatched : List (LiteralOf Term) → Type 0
  Unmatched = AllByRecursion (λ b. first_match p b s ≡ None)

  -- where no belief of the frame matches none does
  pub none_hits : (n : ℕ) (bs : List (LiteralOf Term)) → Unmatched (filter (same_frame p) bs) → hit_from n p s bs ≡ None
  none_hits n [] u = refl
  none_hits n (b ∷ bs) u = go (none_hits (suc n) bs) (same_frame p b) refl u where
    go : (Unmatched (filter (same_frame p) bs) → hit_from (suc n) p s bs ≡ None) → (t : Bool) → same_frame p b ≡ t
        → Unmatched (cond t (b ∷ filter (same_frame p) bs) (filter (same_frame p) bs)) → hit_or n (first_match p b s) (hit_from (suc n) p s bs) ≡ None
    go more true e w = ap (λ z. hit_or n z (hit_from (suc n) p s bs)) w.0 ∙ more w.1
    go more false e w = ap (λ z. hit_or n z (hit_from (suc n) p s bs)) (no_match p b s e) ∙ more w

  -- the k-th belief of the frame, and what is found where it is the first that matches
  pub record IsNthHit (slots : BeliefSlots) (k i : ℕ) : Type 0 where
    pub here : LiteralOf Term
    pub at : at_slot slots i ≡ Some here
    pub first : (n : ℕ) (t : List Pair) → first_match p here s ≡ Some t → Unmatched (take k (filter (same_frame p) (kept slots)))
        → hit_from n p s (kept slots) ≡ Some (record { place = n + rank slots i; subst = t })

  pub nth_hit : (m : ℕ) (slots : BeliefSlots) (k j : ℕ) → slice_get (places (same_frame p) m slots) k ≡ Some j → (i : ℕ) × (j ≡ m + i) × IsNthHit slots k i
  nth_hit m [] k j e = cc
  nth_hit m (None ∷ slots) k j e =
      let r = nth_hit (suc m) slots k j e in
      let q = r.2 in
      (suc r.0, omega (arith, r.1), record { here = q.here; at = q.at; first = q.first })
  nth_hit m (Some x ∷ slots) k j e = go (λ l. nth_hit (suc m) slots l j) (same_frame p x) refl k e where
    go : ((l : ℕ) → slice_get (places (same_frame p) (suc m) slots) l ≡ Some j → (i : ℕ) × (j ≡ suc m + i) × IsNthHit slots l i)
        → (t : Bool) → same_frame p x ≡ t → (k : ℕ)
        → slice_get (cond t (m ∷ places (same_frame p) (suc m) slots) (places (same_frame p) (suc m) slots)) k ≡ Some j
        → (i : ℕ) × (j ≡ m + i) × IsNthHit (Some x ∷ slots) k i
    go more true u zero w =
        let is : m ≡ j = cc in (
          0,
          omega (arith, is),
          record {
            here = x;
            at = refl;
            first = λ n t e none.
                let same : n ≡ n + 0 = omega arith in
                ap (λ z. hit_or n z (hit_from (suc n) p s (kept slots))) e ∙ ap (λ m. Some (record { place = m; subst = t })) same;
          },
        )
    go more true u (suc k) w =
        let r = more k w in
        let q = r.2 in (
          suc r.0,
          omega (arith, r.1),
          record {
            here = q.here;
            at = q.at;
            first = λ n t e none.
                let both : Unmatched (x ∷ take k (filter (same_frame p) (kept slots))) =
                subst (λ z. Unmatched (take (suc k) (cond z (x ∷ filter (same_frame p) (kept slots)) (filter (same_frame p) (kept slots))))) u none in
                let same : suc n + rank slots r.0 ≡ n + suc (rank slots r.0) = omega arith in
                ap (λ z. hit_or n z (hit_from (suc n) p s (kept slots))) both.0
                ∙ q.first (suc n) t e both.1 ∙ ap (λ m. Some (record { place = m; subst = t })) same;
          },
        )
    go more false u k w =
        let r = more k w in
        let q = r.2 in (
          suc r.0,
          omega (arith, r.1),
          record {
            here = q.here;
            at = q.at;
            first = λ n t e none.
                let less : Unmatched (take k (filter (same_frame p) (kept slots))) =
                subst (λ z. Unmatched (take k (cond z (x ∷ filter (same_frame p) (kept slots)) (filter (same_frame p) (kept slots))))) u none in
                let same : suc n + rank slots r.0 ≡ n + suc (rank slots r.0) = omega arith in
                ap (λ z. hit_or n z (hit_from (suc n) p s (kept slots))) (no_match p x s u)
                ∙ q.first (suc n) t e less ∙ ap (λ m. Some (record { place = m; subst = t })) same;
          },
        )

  pub hit_slot : (slots : BeliefSlots) (k j : ℕ) → slice_get (places (same_frame p) 0 slots) k ≡ Some j → IsNthHit slots k j
  hit_slot slots k j e =
      let r = nth_hit 0 slots k j e in
      let same : r.0 ≡ j = omega (arith, r.1) in
      subst (IsNthHit slots k) same r.2

-- the first belief that a pattern matches loses the matched annotations
module _ (p : LiteralOf Term) (s : List Pair) (slots : BeliefSlots) (h : Hit) (q : IsHitAt p s slots h) where
  hit : HitAt p s h.subst (kept slots) (rank slots h.slot)
  hit = hit_at (record { place = rank slots h.slot; subst = h.subst }) p s (kept slots) q.first

  same_here : q.here ≡ hit.here
  same_here = let both : Some q.here ≡ Some hit.here = sym (rank_at slots h.slot q.here q.at) ∙ hit.at in cc

  pub hit_lost : (new : BeliefSlots) (taken : List Term) → taken ≡ matched p h.subst → new ≡ slice_set slots h.slot (left_slot taken q.here)
      → kept new ≡ (removed p s (kept slots)).beliefs
  hit_lost new taken e is =
      ap kept is ∙ kept_lost slots h.slot taken q.here q.at
      ∙ ap (λ b. lost_at (rank slots h.slot) taken b (kept slots)) same_here
      ∙ hit_beliefs (rank slots h.slot) p s h.subst (kept slots) taken hit e

  pub hit_told : (event : Trigger) (taken : List Term) → taken ≡ matched p h.subst → event ≡ loss taken q.here
      → Some (record { event = event; subst = h.subst }) ≡ (removed p s (kept slots)).removed
  hit_told event taken e told =
      hit_removed (rank slots h.slot) p s h.subst (kept slots) taken hit event (told ∙ ap (loss taken) same_here) e
