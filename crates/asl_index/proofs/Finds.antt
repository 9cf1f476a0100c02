-- What is found by the number of functor and arguments.
use Rattle.std.proofs.Common.{◌≡◌, ◌≤◌, ◌<◌, ℕ, zero, suc, ◌+◌, ◌||◌, Bool, true, false, List, [], ◌∷◌, length, take, Some, None, cond, refl, ap, sym, ◌∙◌, subst, arith}
use Rattle.std.specs.List.{slice_get, filter, list_any}
use Rattle.std.specs.Option.{option_map_or}
use Rattle.std.proofs.lemmas.Bool.{false≢true, eq-eqb}
use Rattle.std.proofs.lemmas.List.{take_all}
use Rattle.asl_term.specs.declared.syntax.LiteralOf.{LiteralOf}
use Rattle.asl_term.specs.declared.syntax.Term.{Term}
use Rattle.asl_index_tables.specs.declared.keys.Keys.{Keys}
use Rattle.asl_index_tables.specs.Keys.{listed}
use Rattle.asl_index_tables.specs.Prints.{key_print}
use Rattle.asl_index_tables.specs.Slots.{kept, at_slot}
use Rattle.asl_index_tables.proofs.Slots.{IsNth, nth_slot, length_places}
use Rattle.asl_beliefs.specs.Changes.{same_belief}
use Rattle.asl_beliefs.proofs.Keys.{same_key}
use Rattle.asl_index.specs.Store.{has_key, AreListed}
use Rattle.asl_index.proofs.Filing.{BeliefSlots}

module _ {A : Type 0} (p : A → Bool) where
  none_next : (xs : List A) (k : ℕ) (x : A) → slice_get xs k ≡ Some x → p x ≡ false → list_any p (take k xs) ≡ false → list_any p (take (suc k) xs) ≡ false
  none_next [] k x e f h = cc
  none_next (y ∷ xs) zero x e f h = let is : y ≡ x = cc in ap (λ z. p z || false) is ∙ ap (λ z. z || false) f
  none_next (y ∷ xs) (suc k) x e f h = go (p y) (none_next xs k x e f) h where
    go : (t : Bool) → (list_any p (take k xs) ≡ false → list_any p (take (suc k) xs) ≡ false)
        → (t || list_any p (take k xs)) ≡ false → (t || list_any p (take (suc k) xs)) ≡ false
    go true more w = w
    go false more w = more w

  none_filter : (q : A → Bool) → ((x : A) → p x ≡ true → q x ≡ true) → (xs : List A) → list_any p (filter q xs) ≡ false → list_any p xs ≡ false
  none_filter q i [] h = refl
  none_filter q i (x ∷ xs) h = go (none_filter q i xs) (q x) refl (p x) refl h where
    go : (list_any p (filter q xs) ≡ false → list_any p xs ≡ false) → (t : Bool) → q x ≡ t → (u : Bool) → p x ≡ u
        → list_any p (cond t (x ∷ filter q xs) (filter q xs)) ≡ false → (p x || list_any p xs) ≡ false
    go more true qt true pu w = absurd (false≢true (sym w ∙ ap (λ z. z || list_any p (filter q xs)) pu))
    go more false qt true pu w = absurd (false≢true (sym qt ∙ i x pu))
    go more true qt false pu w = ap (λ z. z || list_any p xs) pu ∙ more (sym (ap (λ z. z || list_any p (filter q xs)) pu) ∙ w)
    go more false qt false pu w = ap (λ z. z || list_any p xs) pu ∙ more w

-- the same belief has the same number
pub same_print : (b c : LiteralOf Term) (n : ℕ) → n ≡ key_print b.functor b.args → same_belief b c ≡ true → has_key n c ≡ true
same_print b c n is e =
    let k = same_key b c e in
    eq-eqb n (key_print c.functor c.args) (is ∙ ap (λ z. key_print z.functor z.args) k)

module _ (b : LiteralOf Term) (slots : BeliefSlots) (f : Keys) (n : ℕ) (all : AreListed slots f) where
  at_place : (k j : ℕ) → slice_get (listed f n) k ≡ Some j → IsNth (has_key n) slots k j
  at_place k j e = nth_slot (has_key n) slots k j (ap (λ z. slice_get z k) (sym (all n)) ∙ e)

  -- one that is listed is another belief
  pub other_next : (k j : ℕ) → slice_get (listed f n) k ≡ Some j → option_map_or (same_belief b) (at_slot slots j) false ≡ false
      → list_any (same_belief b) (take k (filter (has_key n) (kept slots))) ≡ false
      → list_any (same_belief b) (take (k + 1) (filter (has_key n) (kept slots))) ≡ false
  other_next k j e o h =
      let p = at_place k j e in
      let next : suc k ≡ k + 1 = omega arith in
      subst (λ m. list_any (same_belief b) (take m (filter (has_key n) (kept slots))) ≡ false) next
      (none_next (same_belief b) (filter (has_key n) (kept slots)) k p.here p.nth (ap (λ z. option_map_or (same_belief b) z false) (sym p.at) ∙ o) h)

  -- a place in the list of places is that of one
  pub not_past : (k : ℕ) → k < length (listed f n) → slice_get (listed f n) k ≡ None → ⊥
  not_past k l e = past (listed f n) k l e where
    past : (xs : List ℕ) (k : ℕ) → k < length xs → slice_get xs k ≡ None → ⊥
    past [] k l e = omega (arith, l)
    past (x ∷ xs) zero l e = cc
    past (x ∷ xs) (suc k) l e = past xs k (omega (arith, l)) e

  -- where no one that is listed is this one, none is
  pub none_found : (k : ℕ) → length (listed f n) ≤ k → n ≡ key_print b.functor b.args
      → list_any (same_belief b) (take k (filter (has_key n) (kept slots))) ≡ false → list_any (same_belief b) (kept slots) ≡ false
  none_found k l is h =
      let xs = filter (has_key n) (kept slots) in
      let long : length (listed f n) ≡ length xs = ap length (all n) ∙ length_places (has_key n) 0 slots in
      let whole : take k xs ≡ xs = take_all k xs (omega (arith, l, long)) in
      none_filter (same_belief b) (has_key n) (λ c e. same_print b c n is e) (kept slots) (ap (list_any (same_belief b)) (sym whole) ∙ h)

-- one of a list at a place
pub among : (b : LiteralOf Term) (ls : List (LiteralOf Term)) (j : ℕ) → option_map_or (same_belief b) (slice_get ls j) false ≡ true → list_any (same_belief b) ls ≡ true
among b [] j e = absurd (false≢true e)
among b (c ∷ ls) zero e = ap (λ z. z || list_any (same_belief b) ls) e
among b (c ∷ ls) (suc j) e = go (same_belief b c) (among b ls j e) where
  go : (t : Bool) → list_any (same_belief b) ls ≡ true → (t || list_any (same_belief b) ls) ≡ true
  go true m = refl
  go false m = m
