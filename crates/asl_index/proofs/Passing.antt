-- What is noted of first arguments, and that beliefs which are passed over by it have no match.
use Rattle.std.proofs.Common.{◌≡◌, ◌<◌, ◌≤◌, ℕ, zero, suc, ◌+◌, List, [], ◌∷◌, ◌++◌, map, length, take, Option, Some, None, refl, ap, sym, ◌∙◌, subst, arith}
use Rattle.std.specs.Prelude.{◌==◌, Bool, true, false}
use Rattle.std.specs.List.{slice_get, slice_set, filter}
use Rattle.std.proofs.lemmas.Bool.{true≢false, eqb-true, eq-eqb}
use Rattle.std.proofs.lemmas.List.{length-append, length-map}
use Rattle.asl_beliefs.specs.Sources.{with_annots}
use Rattle.asl_term.specs.declared.syntax.LiteralOf.{LiteralOf}
use Rattle.asl_term.specs.declared.syntax.Term.{Term}
use Rattle.asl_index_tables.specs.declared.frames.Frames.{Frames}
use Rattle.asl_index_tables.specs.Firsts.{first_print, may_agree, AreApart, AreOther}
use Rattle.asl_index_tables.specs.Frames.{filed}
use Rattle.asl_index_tables.specs.Slots.{kept, at_slot}
use Rattle.asl_index_tables.proofs.OtherFirsts.{other_firsts}
use Rattle.asl_unify.specs.Compare.{same_frame}
use Rattle.asl_index.specs.Store.{AreFiled, AreFirsts}
use Rattle.asl_index.proofs.Filing.{BeliefSlots, nth_filed, none_filed}

pub passed_apart : (g : LiteralOf Term) (s : BeliefSlots) (f : Frames) (firsts : List ℕ) (k n : ℕ) → AreFiled s f → AreFirsts s firsts
    → AreOther (first_print g) firsts (filed f g.neg g.functor (length g.args)) k n
    → (i : ℕ) (b : LiteralOf Term) → k ≤ i → i < n → slice_get (filter (same_frame g) (kept s)) i ≡ Some b → AreApart g b
passed_apart g s f firsts k n a h others i b le lt e = go (slice_get (filed f g.neg g.functor (length g.args)) i) refl where
  go : (o : Option ℕ) → slice_get (filed f g.neg g.functor (length g.args)) i ≡ o → AreApart g b
  go None w = let none : Some b ≡ None = sym e ∙ none_filed g s f a i w in absurd cc
  go (Some j) w =
      let other = others i j le lt w in
      let here : at_slot s j ≡ Some b = nth_filed g s f a i j w ∙ e in
      let same : Some other.0 ≡ Some (first_print b) = sym other.1 ∙ h.noted j b here in
      let is : other.0 ≡ first_print b = cc in
      other_firsts g b (ap (may_agree (first_print g)) (sym is) ∙ other.2)

pub item_at : {X : Type 0} (xs : List X) (k : ℕ) → k < length xs → (x : X) × (slice_get xs k ≡ Some x)
item_at [] k lt = absurd (omega (arith, lt))
item_at (x ∷ xs) zero lt = (x, refl)
item_at (x ∷ xs) (suc k) lt = item_at xs k (omega (arith, lt))

-- ---- lists of numbers

get_cut : (xs : List ℕ) (n k : ℕ) → k < n → slice_get (take n xs) k ≡ slice_get xs k
get_cut xs zero k lt = absurd (omega (arith, lt))
get_cut [] (suc n) k lt = refl
get_cut (x ∷ xs) (suc n) zero lt = refl
get_cut (x ∷ xs) (suc n) (suc k) lt = get_cut xs n k (omega (arith, lt))

length_cut : (xs : List ℕ) (n : ℕ) → n ≤ length xs → length (take n xs) ≡ n
length_cut xs zero le = refl
length_cut [] (suc n) le = absurd (omega (arith, le))
length_cut (x ∷ xs) (suc n) le = ap suc (length_cut xs n (omega (arith, le)))

get_front : (xs ys : List ℕ) (k : ℕ) → k < length xs → slice_get (xs ++ ys) k ≡ slice_get xs k
get_front [] ys k lt = absurd (omega (arith, lt))
get_front (x ∷ xs) ys zero lt = refl
get_front (x ∷ xs) ys (suc k) lt = get_front xs ys k (omega (arith, lt))

get_end : (xs : List ℕ) (y : ℕ) → slice_get (xs ++ y ∷ []) (length xs) ≡ Some y
get_end [] y = refl
get_end (x ∷ xs) y = get_end xs y

get_within : (xs : List ℕ) (k x : ℕ) → slice_get xs k ≡ Some x → k < length xs
get_within [] k x e = cc
get_within (y ∷ xs) zero x e = omega arith
get_within (y ∷ xs) (suc k) x e = let more = get_within xs k x e in omega (arith, more)

-- ---- slots

slot_within : (s : BeliefSlots) (k : ℕ) (b : LiteralOf Term) → at_slot s k ≡ Some b → k < length s
slot_within [] k b e = cc
slot_within (x ∷ s) zero b e = omega arith
slot_within (x ∷ s) (suc k) b e = let more = slot_within s k b e in omega (arith, more)

-- one more slot, which is empty, has no belief
slot_before : (s : BeliefSlots) (k : ℕ) (b : LiteralOf Term) → at_slot (s ++ None ∷ []) k ≡ Some b → at_slot s k ≡ Some b
slot_before [] zero b e = cc
slot_before [] (suc k) b e = cc
slot_before (x ∷ s) zero b e = e
slot_before (x ∷ s) (suc k) b e = slot_before s k b e

length_set : (s : BeliefSlots) (k : ℕ) (y : Option (LiteralOf Term)) → length (slice_set s k y) ≡ length s
length_set [] k y = refl
length_set (x ∷ s) zero y = refl
length_set (x ∷ s) (suc k) y = ap suc (length_set s k y)

-- what a slot holds where another is set, and where it is set itself
at_other : (s : BeliefSlots) (k j : ℕ) (y : Option (LiteralOf Term)) → (j ≡ k → ⊥) → at_slot (slice_set s k y) j ≡ at_slot s j
at_other [] k j y d = refl
at_other (x ∷ s) zero zero y d = absurd (d refl)
at_other (x ∷ s) zero (suc j) y d = refl
at_other (x ∷ s) (suc k) zero y d = refl
at_other (x ∷ s) (suc k) (suc j) y d = at_other s k j y (λ e. d (ap suc e))

at_self : (s : BeliefSlots) (k : ℕ) (y : Option (LiteralOf Term)) → k < length s → at_slot (slice_set s k y) k ≡ y
at_self [] k y lt = absurd (omega (arith, lt))
at_self (x ∷ s) zero y lt = refl
at_self (x ∷ s) (suc k) y lt = at_self s k y (omega (arith, lt))

-- ---- what stays noted

-- where a slot is emptied no belief is new
pub firsts_cleared : (s : BeliefSlots) (firsts : List ℕ) (k : ℕ) → AreFirsts s firsts → AreFirsts (slice_set s k None) firsts
firsts_cleared s firsts k h =
    let same = length_set s k None in
    record {
      whole = let most = h.whole in omega (arith, same, most);
      noted = λ j b e. h.noted j b (still s k j b e);
    } where
      still : (s : BeliefSlots) (k j : ℕ) (b : LiteralOf Term) → at_slot (slice_set s k None) j ≡ Some b → at_slot s j ≡ Some b
      still [] k j b e = cc
      still (x ∷ s) zero zero b e = cc
      still (x ∷ s) zero (suc j) b e = e
      still (x ∷ s) (suc k) zero b e = e
      still (x ∷ s) (suc k) (suc j) b e = still s k j b e

-- a slot gets a belief of which the number is noted there
firsts_set : (s : BeliefSlots) (firsts : List ℕ) (k : ℕ) (b : LiteralOf Term) → k < length s → length s ≤ length firsts
    → ((j : ℕ) (x : LiteralOf Term) → at_slot s j ≡ Some x → (j ≡ k → ⊥) → slice_get firsts j ≡ Some (first_print x))
    → slice_get firsts k ≡ Some (first_print b) → AreFirsts (slice_set s k (Some b)) firsts
firsts_set s firsts k b lt most others here =
    let same = length_set s k (Some b) in
    record { whole = omega (arith, same, most); noted = λ j x e. go j x e (j == k) refl } where
      go : (j : ℕ) (x : LiteralOf Term) → at_slot (slice_set s k (Some b)) j ≡ Some x → (t : Bool) → (j == k) ≡ t → slice_get firsts j ≡ Some (first_print x)
      go j x e true u =
          let same : j ≡ k = eqb-true j k u in
          let is : Some b ≡ Some x = sym (at_self s k (Some b) lt) ∙ ap (at_slot (slice_set s k (Some b))) (sym same) ∙ e in
          let alike : b ≡ x = cc in
          ap (slice_get firsts) same ∙ here ∙ ap (λ z. Some (first_print z)) alike
      go j x e false u =
          let apart : j ≡ k → ⊥ = λ d. true≢false (sym (eq-eqb j k d) ∙ u) in
          others j x (sym (at_other s k j (Some b) apart) ∙ e) apart

-- other annotations leave the arguments
pub firsts_same : (s : BeliefSlots) (firsts : List ℕ) (k : ℕ) (b : LiteralOf Term) (annots : List Term) → AreFirsts s firsts → at_slot s k ≡ Some b
    → AreFirsts (slice_set s k (Some (with_annots b annots))) firsts
firsts_same s firsts k b annots h at =
    firsts_set s firsts k (with_annots b annots) (slot_within s k b at) h.whole (λ j x e d. h.noted j x e) (h.noted k b at)

-- ---- one more belief

-- the column is cut to the slots, and gets one number more
module _ (s : BeliefSlots) (firsts : List ℕ) (h : AreFirsts s firsts) where
  cut : length (take (length s) firsts) ≡ length s
  cut = length_cut firsts (length s) h.whole

  pub firsts_cut : AreFirsts s (take (length s) firsts)
  firsts_cut =
      let size = cut in
      record { whole = omega (arith, size); noted = λ k b e. get_cut firsts (length s) k (slot_within s k b e) ∙ h.noted k b e }

  pub firsts_more : (p : ℕ) → AreFirsts s (take (length s) firsts ++ p ∷ [])
  firsts_more p =
      let size = cut in
      let more = length-append (take (length s) firsts) (p ∷ []) in
      record {
        whole = omega (arith, size, more);
        noted = λ k b e. let lt = slot_within s k b e in
            get_front (take (length s) firsts) (p ∷ []) k (omega (arith, size, lt)) ∙ get_cut firsts (length s) k lt ∙ h.noted k b e;
      }

  pub first_behind : (p : ℕ) → slice_get (take (length s) firsts ++ p ∷ []) (length s) ≡ Some p
  first_behind p = ap (slice_get (take (length s) firsts ++ p ∷ [])) (sym cut) ∙ get_end (take (length s) firsts) p

-- the slot behind the last is there, empty or with its belief
module _ (s u t : BeliefSlots) (firsts : List ℕ) (p : ℕ) (eu : u ≡ s) (et : t ≡ s ++ None ∷ []) (h : AreFirsts u firsts) (e : slice_get firsts (length u) ≡ Some p) where
  before : AreFirsts s firsts
  before = subst (λ z. AreFirsts z firsts) eu h

  behind : slice_get firsts (length s) ≡ Some p
  behind = ap (λ z. slice_get firsts (length z)) (sym eu) ∙ e

  most : length (s ++ None ∷ []) ≤ length firsts
  most =
      let size = length-append s (None ∷ []) in
      let within = get_within firsts (length s) p behind in
      omega (arith, size, within)

  pub firsts_empty : AreFirsts t firsts
  firsts_empty =
      subst (λ z. AreFirsts z firsts) (sym et)
      (record { whole = most; noted = λ k b w. before.noted k b (slot_before s k b w) })

  pub firsts_last : (n : ℕ) (b : LiteralOf Term) → n ≡ length s → p ≡ first_print b → AreFirsts (slice_set t n (Some b)) firsts
  firsts_last n b en ep =
      let size = length-append s (None ∷ []) in
      subst (λ z. AreFirsts (slice_set z n (Some b)) firsts) (sym et)
      (subst (λ m. AreFirsts (slice_set (s ++ None ∷ []) m (Some b)) firsts) (sym en)
      (firsts_set (s ++ None ∷ []) firsts (length s) b (omega (arith, size)) most
      (λ j x w d. before.noted j x (slot_before s j x w)) (behind ∙ ap Some ep)))

-- ---- all anew

-- one more slot, with a belief or empty
pub kept_next : (s : BeliefSlots) (k : ℕ) (b : LiteralOf Term) → at_slot s k ≡ Some b → kept (take (k + 1) s) ≡ kept (take k s) ++ b ∷ []
kept_next s k b e = let one : k + 1 ≡ suc k = omega arith in ap (λ m. kept (take m s)) one ∙ go s k e where
  go : (s : BeliefSlots) (k : ℕ) → at_slot s k ≡ Some b → kept (take (suc k) s) ≡ kept (take k s) ++ b ∷ []
  go [] k w = cc
  go (x ∷ s) zero w = ap (λ z. kept (z ∷ [])) w
  go (None ∷ s) (suc k) w = go s k w
  go (Some x ∷ s) (suc k) w = ap (λ z. x ∷ z) (go s k w)

pub kept_same : (s : BeliefSlots) (k : ℕ) → at_slot s k ≡ None → kept (take (k + 1) s) ≡ kept (take k s)
kept_same s k e = let one : k + 1 ≡ suc k = omega arith in ap (λ m. kept (take m s)) one ∙ go s k e where
  go : (s : BeliefSlots) (k : ℕ) → at_slot s k ≡ None → kept (take (suc k) s) ≡ kept (take k s)
  go [] zero w = refl
  go [] (suc k) w = refl
  go (x ∷ s) zero w = ap (λ z. kept (z ∷ [])) w
  go (None ∷ s) (suc k) w = go s k w
  go (Some x ∷ s) (suc k) w = ap (λ z. x ∷ z) (go s k w)

map_more : (bs : List (LiteralOf Term)) (b : LiteralOf Term) → map first_print (bs ++ b ∷ []) ≡ map first_print bs ++ first_print b ∷ []
map_more [] b = refl
map_more (x ∷ bs) b = ap (λ z. first_print x ∷ z) (map_more bs b)

module _ (s : BeliefSlots) (k : ℕ) (old : List ℕ) (so_far : old ≡ map first_print (kept (take k s))) where
  pub firsts_next : (b : LiteralOf Term) (new : List ℕ) (p : ℕ) → at_slot s k ≡ Some b → p ≡ first_print b → new ≡ old ++ p ∷ []
      → new ≡ map first_print (kept (take (k + 1) s))
  firsts_next b new p at ep e =
      e
      ∙ ap (λ z. z ++ p ∷ []) so_far
      ∙ ap (λ z. map first_print (kept (take k s)) ++ z ∷ []) ep
      ∙ sym (map_more (kept (take k s)) b)
      ∙ ap (map first_print) (sym (kept_next s k b at))

  pub firsts_still : at_slot s k ≡ None → old ≡ map first_print (kept (take (k + 1) s))
  firsts_still at = so_far ∙ ap (map first_print) (sym (kept_same s k at))

pub firsts_packed : (bs : List (LiteralOf Term)) → AreFirsts (map Some bs) (map first_print bs)
firsts_packed bs =
    let slots = length-map bs Some in
    let firsts = length-map bs first_print in
    record { whole = omega (arith, slots, firsts); noted = go bs } where
      go : (bs : List (LiteralOf Term)) (k : ℕ) (b : LiteralOf Term) → at_slot (map Some bs) k ≡ Some b → slice_get (map first_print bs) k ≡ Some (first_print b)
      go [] k b e = cc
      go (x ∷ bs) zero b e = let is : x ≡ b = cc in ap (λ z. Some (first_print z)) is
      go (x ∷ bs) (suc k) b e = go bs k b e
