-- Steps of walks over slots.
use Rattle.std.proofs.Common.{◌≡◌, ◌<◌, ℕ, zero, suc, ◌+◌, Bool, true, false, List, [], ◌∷◌, ◌++◌, map, length, take, drop, Option, Some, None, cond, refl, ap, sym, ◌∙◌, subst, append_assoc, arith}
use Rattle.std.specs.Prelude.{option_to_list, not}
use Rattle.std.specs.List.{slice_get, slice_set, filter, AllByRecursion}
use Rattle.std.specs.Option.{option_map_or, is_some}
use Rattle.std.proofs.lemmas.Bool.{false≢true}
use Rattle.asl_term.specs.declared.syntax.LiteralOf.{LiteralOf}
use Rattle.asl_term.specs.declared.syntax.Term.{Term}
use Rattle.asl_term.specs.declared.syntax.Trigger.{Trigger}
use Rattle.asl_unify.specs.Compare.{same_frame}
use Rattle.asl_index_tables.specs.Slots.{kept, places, content, at_slot, rank}
use Rattle.asl_index_tables.proofs.Slots.{kept_append, kept_set}
use Rattle.asl_beliefs.specs.Sources.{source_percept}
use Rattle.asl_beliefs.specs.Changes.{is_match, is_unseen, unseen, loss, left_of}
use Rattle.asl_beliefs.specs.Bases.{AreBeliefs}
use Rattle.asl_beliefs.proofs.Sound.{sound_remove}
use Rattle.asl_index.specs.Hits.{left_slot, is_unseen_at}
use Rattle.asl_index.proofs.Filing.{BeliefSlots}
use Rattle.asl_index.proofs.Changes.{left_list, no_match}

module _ {A : Type 0} where
  take_set : (s : List A) (k : ℕ) (x y : A) → slice_get s k ≡ Some x → take (suc k) (slice_set s k y) ≡ take k s ++ y ∷ []
  take_set [] k x y e = cc
  take_set (z ∷ s) zero x y e = refl
  take_set (z ∷ s) (suc k) x y e = ap (λ w. z ∷ w) (take_set s k x y e)

  drop_set : (s : List A) (k : ℕ) (x y : A) → slice_get s k ≡ Some x → drop (suc k) (slice_set s k y) ≡ drop (suc k) s
  drop_set [] k x y e = cc
  drop_set (z ∷ s) zero x y e = refl
  drop_set (z ∷ s) (suc k) x y e = drop_set s k x y e

  drop_next : (s : List A) (k : ℕ) (x : A) → slice_get s k ≡ Some x → drop k s ≡ x ∷ drop (suc k) s
  drop_next [] k x e = cc
  drop_next (z ∷ s) zero x e = let is : z ≡ x = cc in ap (λ w. w ∷ s) is
  drop_next (z ∷ s) (suc k) x e = drop_next s k x e

  pub filled : (s : List A) (k : ℕ) → k < length s → (x : A) × (slice_get s k ≡ Some x)
  filled [] k e = absurd (omega (arith, e))
  filled (x ∷ s) zero e = (x, refl)
  filled (x ∷ s) (suc k) e = filled s k (omega (arith, e))

-- a slot that is walked past, with what it gets
kept_walked : (s : BeliefSlots) (k : ℕ) (x y : Option (LiteralOf Term)) → slice_get s k ≡ Some x → kept (take (suc k) (slice_set s k y)) ≡ kept (take k s) ++ option_to_list y
kept_walked s k x y e = ap kept (take_set s k x y e) ∙ kept_append (take k s) (y ∷ []) ∙ ap (λ z. kept (take k s) ++ z) (one y) where
  one : (y : Option (LiteralOf Term)) → kept (y ∷ []) ≡ option_to_list y
  one None = refl
  one (Some b) = refl

module _ (percepts : List (LiteralOf Term)) where
  abbrev marks : List Term
  marks = source_percept ∷ []

  first_unseen : (x : Option (LiteralOf Term)) (rest : List (LiteralOf Term)) → option_map_or (is_unseen percepts) x false ≡ false
      → (unseen percepts (option_to_list x ++ rest)).beliefs ≡ option_to_list x ++ (unseen percepts rest).beliefs
  first_unseen None rest e = refl
  first_unseen (Some b) rest e = ap (λ z. cond z (left_of marks b) (b ∷ []) ++ (unseen percepts rest).beliefs) e

  first_told : (x : Option (LiteralOf Term)) (rest : List (LiteralOf Term)) → option_map_or (is_unseen percepts) x false ≡ false
      → (unseen percepts (option_to_list x ++ rest)).events ≡ (unseen percepts rest).events
  first_told None rest e = refl
  first_told (Some b) rest e = ap (λ z. map (loss marks) (cond z (b ∷ filter (is_unseen percepts) rest) (filter (is_unseen percepts) rest))) e

  kept_next : (s : BeliefSlots) (k : ℕ) (x : Option (LiteralOf Term)) → slice_get s k ≡ Some x → kept (drop k s) ≡ option_to_list x ++ kept (drop (suc k) s)
  kept_next s k x e = ap kept (drop_next s k x e) ∙ one x where
    one : (x : Option (LiteralOf Term)) → kept (x ∷ drop (suc k) s) ≡ option_to_list x ++ kept (drop (suc k) s)
    one None = refl
    one (Some b) = refl

  -- a slot whose belief stays
  pub staying : (s : BeliefSlots) (k : ℕ) (events : List Trigger) → k < length s → is_unseen_at percepts s k ≡ false
      → (kept (take (suc k) s) ++ (unseen percepts (kept (drop (suc k) s))).beliefs ≡ kept (take k s) ++ (unseen percepts (kept (drop k s))).beliefs)
      × (events ++ (unseen percepts (kept (drop (suc k) s))).events ≡ events ++ (unseen percepts (kept (drop k s))).events)
  staying s k events l e =
      let f = filled s k l in
      let x = f.0 in
      let rest = kept (drop (suc k) s) in
      let quiet : option_map_or (is_unseen percepts) x false ≡ false = ap (λ z. option_map_or (is_unseen percepts) (content z) false) (sym f.1) ∙ e in
      let walked : kept (take (suc k) s) ≡ kept (take k s) ++ option_to_list x =
      ap (λ z. kept (take (suc k) z)) (sym (same s k x f.1)) ∙ kept_walked s k x x f.1 in (
        ap (λ z. z ++ (unseen percepts rest).beliefs) walked
            ∙ append_assoc (kept (take k s)) (option_to_list x) (unseen percepts rest).beliefs
            ∙ ap (λ z. kept (take k s) ++ z) (sym (first_unseen x rest quiet) ∙ ap (λ z. (unseen percepts z).beliefs) (sym (kept_next s k x f.1))),
        ap (λ z. events ++ z) (sym (first_told x rest quiet) ∙ ap (λ z. (unseen percepts z).events) (sym (kept_next s k x f.1))),
      )
    where
      same : (s : BeliefSlots) (k : ℕ) (x : Option (LiteralOf Term)) → slice_get s k ≡ Some x → slice_set s k x ≡ s
      same [] k x e = cc
      same (z ∷ s) zero x e = let is : z ≡ x = cc in ap (λ w. w ∷ s) (sym is)
      same (z ∷ s) (suc k) x e = ap (λ w. z ∷ w) (same s k x e)

  -- a slot whose belief loses its mark
  pub losing : (s new : BeliefSlots) (k : ℕ) (b : LiteralOf Term) (events : List Trigger) → slice_get s k ≡ Some (Some b) → is_unseen percepts b ≡ true
      → new ≡ slice_set s k (left_slot marks b)
      → (kept (take (suc k) new) ++ (unseen percepts (kept (drop (suc k) new))).beliefs ≡ kept (take k s) ++ (unseen percepts (kept (drop k s))).beliefs)
      × ((events ++ loss marks b ∷ []) ++ (unseen percepts (kept (drop (suc k) new))).events ≡ events ++ (unseen percepts (kept (drop k s))).events)
  losing s new k b events at e is =
      let rest = kept (drop (suc k) s) in
      let walked : kept (take (suc k) new) ≡ kept (take k s) ++ left_of marks b =
      ap (λ z. kept (take (suc k) z)) is ∙ kept_walked s k (Some b) (left_slot marks b) at ∙ ap (λ z. kept (take k s) ++ z) (left_list marks b) in
      let ahead : kept (drop (suc k) new) ≡ rest = ap (λ z. kept (drop (suc k) z)) is ∙ ap kept (drop_set s k (Some b) (left_slot marks b) at) in
      let next = kept_next s k (Some b) at in (
        ap (λ z. z ++ (unseen percepts (kept (drop (suc k) new))).beliefs) walked
            ∙ ap (λ z. (kept (take k s) ++ left_of marks b) ++ (unseen percepts z).beliefs) ahead
            ∙ append_assoc (kept (take k s)) (left_of marks b) (unseen percepts rest).beliefs
            ∙ ap (λ z. kept (take k s) ++ (cond z (left_of marks b) (b ∷ []) ++ (unseen percepts rest).beliefs)) (sym e)
            ∙ ap (λ z. kept (take k s) ++ (unseen percepts z).beliefs) (sym next),
        ap (λ z. (events ++ loss marks b ∷ []) ++ (unseen percepts z).events) ahead
            ∙ append_assoc events (loss marks b ∷ []) (unseen percepts rest).events
            ∙ ap (λ z. events ++ map (loss marks) (cond z (b ∷ filter (is_unseen percepts) rest) (filter (is_unseen percepts) rest))) (sym e)
            ∙ ap (λ z. events ++ (unseen percepts z).events) (sym next),
      )

-- what a pattern matches has its frame
framed : (p b : LiteralOf Term) → is_match p b ≡ true → same_frame p b ≡ true
framed p b e = go (same_frame p b) refl where
  go : (t : Bool) → same_frame p b ≡ t → t ≡ true
  go true u = refl
  go false u = absurd (false≢true (sym (ap is_some (no_match p b [] u)) ∙ e))

module _ (p : LiteralOf Term) where
  abbrev f : LiteralOf Term → Bool
  f = same_frame p

  abbrev m : LiteralOf Term → Bool
  m = is_match p

  abbrev pub Apart : List (LiteralOf Term) → Type 0
  Apart = AllByRecursion (λ b. is_match p b ≡ false)

  other_frame : (b : LiteralOf Term) → f b ≡ false → m b ≡ false
  other_frame b e = go (m b) refl where
    go : (t : Bool) → m b ≡ t → t ≡ false
    go true u = absurd (false≢true (sym e ∙ framed p b u))
    go false u = refl

  -- where none of the frame matches none does
  pub all_apart : (bs : List (LiteralOf Term)) → Apart (filter f bs) → (filter (λ b. not (m b)) bs ≡ bs) × (filter m bs ≡ [])
  all_apart [] a = (refl, refl)
  all_apart (b ∷ bs) a = go (all_apart bs) (f b) refl a where
    go : (Apart (filter f bs) → (filter (λ b. not (m b)) bs ≡ bs) × (filter m bs ≡ [])) → (t : Bool) → f b ≡ t → Apart (cond t (b ∷ filter f bs) (filter f bs))
        → (filter (λ b. not (m b)) (b ∷ bs) ≡ b ∷ bs) × (filter m (b ∷ bs) ≡ [])
    go more true u w =
        let r = more w.1 in (
          ap (λ z. cond (not z) (b ∷ filter (λ b. not (m b)) bs) (filter (λ b. not (m b)) bs)) w.0 ∙ ap (λ z. b ∷ z) r.0,
          ap (λ z. cond z (b ∷ filter m bs) (filter m bs)) w.0 ∙ r.1,
        )
    go more false u w =
        let r = more w in
        let o = other_frame b u in (
          ap (λ z. cond (not z) (b ∷ filter (λ b. not (m b)) bs) (filter (λ b. not (m b)) bs)) o ∙ ap (λ z. b ∷ z) r.0,
          ap (λ z. cond z (b ∷ filter m bs) (filter m bs)) o ∙ r.1,
        )

  -- what is so where the belief of a slot goes, which is the k-th of the frame, those before it matching nothing
  pub record Goes (slots : BeliefSlots) (k i : ℕ) (b : LiteralOf Term) : Type 0 where
    pub rest : filter (λ c. not (m c)) (kept (slice_set slots i None)) ≡ filter (λ c. not (m c)) (kept slots)
    pub told : filter m (kept slots) ≡ b ∷ filter m (kept (slice_set slots i None))
    pub before : take k (filter f (kept (slice_set slots i None))) ≡ take k (filter f (kept slots))
    pub fewer : length (filter f (kept (slice_set slots i None))) + 1 ≡ length (filter f (kept slots))

  pub record IsNthGone (slots : BeliefSlots) (k i : ℕ) : Type 0 where
    pub here : LiteralOf Term
    pub at : at_slot slots i ≡ Some here
    pub goes : m here ≡ true → Apart (take k (filter f (kept slots))) → Goes slots k i here

  pub nth_gone : (n : ℕ) (slots : BeliefSlots) (k j : ℕ) → slice_get (places f n slots) k ≡ Some j → (i : ℕ) × (j ≡ n + i) × IsNthGone slots k i
  nth_gone n [] k j e = cc
  nth_gone n (None ∷ slots) k j e =
      let r = nth_gone (suc n) slots k j e in
      let q = r.2 in (
        suc r.0,
        omega (arith, r.1),
        record {
          here = q.here;
          at = q.at;
          goes = λ h a.
              let g = q.goes h a in record { rest = g.rest; told = g.told; before = g.before; fewer = g.fewer };
        },
      )
  nth_gone n (Some x ∷ slots) k j e = go (λ l. nth_gone (suc n) slots l j) (f x) refl k e where
    go : ((l : ℕ) → slice_get (places f (suc n) slots) l ≡ Some j → (i : ℕ) × (j ≡ suc n + i) × IsNthGone slots l i)
        → (t : Bool) → f x ≡ t → (k : ℕ) → slice_get (cond t (n ∷ places f (suc n) slots) (places f (suc n) slots)) k ≡ Some j
        → (i : ℕ) × (j ≡ n + i) × IsNthGone (Some x ∷ slots) k i
    go more true u zero w =
        let is : n ≡ j = cc in (
          0,
          omega (arith, is),
          record {
            here = x;
            at = refl;
            goes = λ h a. record {
              rest = sym (ap (λ z. cond (not z) (x ∷ filter (λ c. not (m c)) (kept slots)) (filter (λ c. not (m c)) (kept slots))) h);
              told = ap (λ z. cond z (x ∷ filter m (kept slots)) (filter m (kept slots))) h;
              before = refl;
              fewer =
                  let size : length (filter f (x ∷ kept slots)) ≡ suc (length (filter f (kept slots))) = ap (λ z. length (cond z (x ∷ filter f (kept slots)) (filter f (kept slots)))) u in
                  omega (arith, size);
            };
          },
        )
    go more true u (suc k) w =
        let r = more k w in
        let q = r.2 in (
          suc r.0,
          omega (arith, r.1),
          record {
            here = q.here;
            at = q.at;
            goes = λ h a.
                let both : Apart (x ∷ take k (filter f (kept slots))) =
                subst (λ z. Apart (take (suc k) (cond z (x ∷ filter f (kept slots)) (filter f (kept slots))))) u a in
                let g = q.goes h both.1 in
                let new = kept (slice_set slots r.0 None) in
                let size : length (filter f (x ∷ new)) ≡ suc (length (filter f new)) = ap (λ z. length (cond z (x ∷ filter f new) (filter f new))) u in
                let was : length (filter f (x ∷ kept slots)) ≡ suc (length (filter f (kept slots))) =
                ap (λ z. length (cond z (x ∷ filter f (kept slots)) (filter f (kept slots)))) u in
                let less = g.fewer in
                record {
                  rest = ap (λ z. cond (not (m x)) (x ∷ z) z) g.rest;
                  told = ap (λ z. cond z (x ∷ filter m (kept slots)) (filter m (kept slots))) both.0 ∙ g.told
                      ∙ ap (λ z. q.here ∷ z) (sym (ap (λ z. cond z (x ∷ filter m new) (filter m new)) both.0));
                  before = ap (λ z. take (suc k) (cond z (x ∷ filter f new) (filter f new))) u ∙ ap (λ z. x ∷ z) g.before
                      ∙ sym (ap (λ z. take (suc k) (cond z (x ∷ filter f (kept slots)) (filter f (kept slots)))) u);
                  fewer = omega (arith, size, was, less);
                };
          },
        )
    go more false u k w =
        let r = more k w in
        let q = r.2 in (
          suc r.0,
          omega (arith, r.1),
          record {
            here = q.here;
            at = q.at;
            goes = λ h a.
                let only : Apart (take k (filter f (kept slots))) =
                subst (λ z. Apart (take k (cond z (x ∷ filter f (kept slots)) (filter f (kept slots))))) u a in
                let g = q.goes h only in
                let new = kept (slice_set slots r.0 None) in
                let o = other_frame x u in
                let size : length (filter f (x ∷ new)) ≡ length (filter f new) = ap (λ z. length (cond z (x ∷ filter f new) (filter f new))) u in
                let was : length (filter f (x ∷ kept slots)) ≡ length (filter f (kept slots)) =
                ap (λ z. length (cond z (x ∷ filter f (kept slots)) (filter f (kept slots)))) u in
                let less = g.fewer in
                record {
                  rest = ap (λ z. cond (not (m x)) (x ∷ z) z) g.rest;
                  told = ap (λ z. cond z (x ∷ filter m (kept slots)) (filter m (kept slots))) o ∙ g.told
                      ∙ ap (λ z. q.here ∷ z) (sym (ap (λ z. cond z (x ∷ filter m new) (filter m new)) o));
                  before = ap (λ z. take k (cond z (x ∷ filter f new) (filter f new))) u ∙ g.before
                      ∙ sym (ap (λ z. take k (cond z (x ∷ filter f (kept slots)) (filter f (kept slots)))) u);
                  fewer = omega (arith, size, was, less);
                };
          },
        )

  pub gone_slot : (slots : BeliefSlots) (k j : ℕ) → slice_get (places f 0 slots) k ≡ Some j → IsNthGone slots k j
  gone_slot slots k j e =
      let r = nth_gone 0 slots k j e in
      let same : r.0 ≡ j = omega (arith, r.1) in
      subst (IsNthGone slots k) same r.2

-- the belief of a slot goes
pub sound_gone : (s : BeliefSlots) (k : ℕ) (b : LiteralOf Term) → AreBeliefs (kept s) → at_slot s k ≡ Some b → AreBeliefs (kept (slice_set s k None))
sound_gone s k b a e = subst AreBeliefs (sym (kept_set s k b None e)) (sound_remove (kept s) (rank s k) a)
