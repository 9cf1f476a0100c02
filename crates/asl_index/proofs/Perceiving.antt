-- The places of what was perceived, and what changes leave them.
use Rattle.std.proofs.Common.{◌≡◌, ◌≤◌, ◌<◌, ℕ, zero, suc, ◌+◌, ◌&&◌, ◌||◌, Bool, true, false, List, [], ◌∷◌, ◌++◌, map, length, take, drop, get_or, Option, Some, None, cond, refl, ap, sym, ◌∙◌, subst, arith}
use Rattle.std.specs.Prelude.{IfSome, codes}
use Rattle.std.specs.List.{slice_get, slice_set}
use Rattle.std.specs.Option.{option_map_or, is_some}
use Rattle.std.proofs.lemmas.Bool.{false≢true}
use Rattle.std.proofs.Math.Seq.{drop-cons}
use Rattle.std.proofs.lemmas.List.{length-append, drop_all}
use Rattle.asl_term.specs.Exprs.{is_ground_literal}
use Rattle.asl_term.specs.Same.{same_tree}
use Rattle.asl_term.specs.Trees.{all as all_of, is_ground}
use Rattle.asl_term.proofs.Grounds.{ground_lit}
use Rattle.asl_term.proofs.Same.{same_true}
use Rattle.asl_term.proofs.Terms.{out_made}
use Rattle.asl_term.specs.declared.syntax.LiteralOf.{LiteralOf}
use Rattle.asl_term.specs.declared.syntax.Term.{Term}
use Rattle.asl_term.specs.declared.syntax.Term.TheVariants as term
use Rattle.asl_term.specs.declared.syntax.Term.TheOpen as layer
use Rattle.asl_index_tables.specs.Frames.{without}
use Rattle.asl_index_tables.specs.Slots.{kept, places, at_slot}
use Rattle.asl_index_tables.proofs.Slots.{nth_slot, length_places, places_same, places_clear, places_put, places_empty}
use Rattle.asl_beliefs.specs.Sources.{source_percept, with_annots}
use Rattle.asl_beliefs.specs.Bases.{AreBeliefs, all_ground}
use Rattle.asl_beliefs.specs.Changes.{same_belief, is_held, as_percept}
use Rattle.asl_beliefs.specs.Laws.{perceived, all_same_belief, are_perceived}
use Rattle.asl_beliefs.proofs.Initial.{source_ground}
use Rattle.asl_beliefs.proofs.Keys.{same_key}
use Rattle.asl_beliefs.proofs.Sound.{true_both, both_true, ground_parts}
use Rattle.asl_index.specs.Noted.{is_perceived, AreNoted, layer_names_percept, layer_may_be, may_be_percept}
use Rattle.asl_index.proofs.Filing.{BeliefSlots, last_empty}
use Rattle.asl_index.proofs.Quiet.{Ls, drop_next}

-- the mark passes the test
abbrev named : LiteralOf Term
named = record { neg = false; functor = codes "percept"; args = []; annots = [] }

abbrev mark : LiteralOf Term
mark = record { neg = false; functor = codes "source"; args = term.Lit named ∷ []; annots = [] }

mark_may_be : may_be_percept source_percept ≡ true
mark_may_be = ap layer_may_be (out_made (layer.Lit mark)) ∙ ap layer_names_percept (out_made (layer.Lit named))

-- a term for which the test fails is not the mark
pub no_mark : (t : Term) → may_be_percept t ≡ false → same_tree source_percept t ≡ false
no_mark t e = go (same_tree source_percept t) refl where
  go : (b : Bool) → same_tree source_percept t ≡ b → b ≡ false
  go true u = absurd (false≢true (sym e ∙ ap may_be_percept (sym (same_true source_percept t u)) ∙ mark_may_be))
  go false u = refl

-- one more annotation that is not the mark
pub held_past : (ts : List Term) (i : ℕ) (t : Term) (all : Bool) → i < length ts → t ≡ get_or ts i t → same_tree source_percept t ≡ false
    → is_held (drop i ts) source_percept ≡ all → is_held (drop (i + 1) ts) source_percept ≡ all
held_past ts i t all l e f so_far =
    let next : i + 1 ≡ suc i = omega arith in
    let cut : drop i ts ≡ get_or ts i t ∷ drop (suc i) ts = drop-cons ts i t l in
    ap (λ m. is_held (drop m ts) source_percept) next
    ∙ ap (λ b. b || is_held (drop (suc i) ts) source_percept) (sym f ∙ ap (same_tree source_percept) e)
    ∙ ap (λ z. is_held z source_percept) (sym cut)
    ∙ so_far

-- what was noted is taken, and put back where nothing changed
pub unless_noted : (noted taken new : Option (List ℕ)) (changed : Bool) (s t : BeliefSlots) → taken ≡ noted → AreNoted s noted
    → IfSome new (λ ps. (changed ≡ false) × (taken ≡ Some ps)) → (changed ≡ false → places is_perceived 0 t ≡ places is_perceived 0 s) → AreNoted t new
unless_noted noted taken None changed s t e a u f = tt
unless_noted noted taken (Some ps) changed s t e a u f =
    let was : ps ≡ places is_perceived 0 s = subst (AreNoted s) (sym e ∙ u.1) a in
    was ∙ sym (f u.0)

-- a belief that was not perceived, before and after
pub same_noted : (s : BeliefSlots) (k : ℕ) (b : LiteralOf Term) (annots : List Term) → at_slot s k ≡ Some b → is_perceived b ≡ false → is_held annots source_percept ≡ false
    → places is_perceived 0 (slice_set s k (Some (with_annots b annots))) ≡ places is_perceived 0 s
same_noted s k b annots at before after = places_same is_perceived 0 s k b (with_annots b annots) at (after ∙ sym before)

pub cleared_noted : (s : BeliefSlots) (k : ℕ) → is_some (at_slot s k) ≡ true → option_map_or is_perceived (at_slot s k) false ≡ false
    → places is_perceived 0 (slice_set s k None) ≡ places is_perceived 0 s
cleared_noted s k some none = go (at_slot s k) refl some none where
  go : (o : Option (LiteralOf Term)) → at_slot s k ≡ o → is_some o ≡ true → option_map_or is_perceived o false ≡ false
      → places is_perceived 0 (slice_set s k None) ≡ places is_perceived 0 s
  go None e u w = absurd (false≢true u)
  go (Some b) e u w =
      places_clear is_perceived 0 s k b e
      ∙ ap (λ t. cond t (without (0 + k) (places is_perceived 0 s)) (places is_perceived 0 s)) w

pub pushed_noted : (s : BeliefSlots) (b : LiteralOf Term) → is_perceived b ≡ false
    → places is_perceived 0 (slice_set (s ++ None ∷ []) (length s) (Some b)) ≡ places is_perceived 0 s
pushed_noted s b e =
    let size = length-append s (None ∷ []) in
    let p = places is_perceived 0 (s ++ None ∷ []) in
    places_put is_perceived 0 (s ++ None ∷ []) (length s) b (last_empty s) (omega (arith, size))
    ∙ ap (λ t. cond t (p ++ (0 + length s) ∷ []) p) e
    ∙ places_empty is_perceived 0 s

pub empty_noted : (s : BeliefSlots) (noted : Option (List ℕ)) → AreNoted s noted → AreNoted (s ++ None ∷ []) noted
empty_noted s None a = tt
empty_noted s (Some ps) a = a ∙ sym (places_empty is_perceived 0 s)

-- annotations that are read as a slice
pub held_in : (xs ys : List Term) (r : Bool) → xs ≡ ys → (r ≡ false → is_held xs source_percept ≡ false) → r ≡ false → is_held ys source_percept ≡ false
held_in xs ys r e f u = ap (λ z. is_held z source_percept) (sym e) ∙ f u

module _ (s : BeliefSlots) (noted taken new : Option (List ℕ)) (changed : Bool) (e : taken ≡ noted) (a : AreNoted s noted)
    (u : IfSome new (λ ps. (changed ≡ false) × (taken ≡ Some ps))) where
  -- a belief that gets other annotations
  pub noted_again : (k : ℕ) (b : LiteralOf Term) (annots : List Term) (before after : Bool) → at_slot s k ≡ Some b
      → (changed ≡ false → (before ≡ false) × (after ≡ false)) → (before ≡ false → is_held b.annots source_percept ≡ false)
      → (after ≡ false → is_held annots source_percept ≡ false) → AreNoted (slice_set s k (Some (with_annots b annots))) new
  noted_again k b annots before after at both f g =
      unless_noted noted taken new changed s (slice_set s k (Some (with_annots b annots))) e a u
      (λ w. same_noted s k b annots at (f (both w).0) (g (both w).1))

  -- a belief in the last of these slots, which was empty
  pub noted_last : (t : BeliefSlots) (n : ℕ) (b : LiteralOf Term) → t ≡ s ++ None ∷ [] → n ≡ length s → (changed ≡ false → is_perceived b ≡ false)
      → AreNoted (slice_set t n (Some b)) new
  noted_last t n b is at f =
      unless_noted noted taken new changed s (slice_set t n (Some b)) e a u
      (λ w. ap (λ z. places is_perceived 0 (slice_set z n (Some b))) is
      ∙ ap (λ m. places is_perceived 0 (slice_set (s ++ None ∷ []) m (Some b))) at
      ∙ pushed_noted s b (f w))

  -- a slot that gets empty
  pub noted_cleared : (t : BeliefSlots) (k : ℕ) → t ≡ s → is_some (at_slot s k) ≡ true
      → (changed ≡ false → option_map_or is_perceived (at_slot t k) false ≡ false) → AreNoted (slice_set s k None) new
  noted_cleared t k is some f =
      unless_noted noted taken new changed s (slice_set s k None) e a u
      (λ w. cleared_noted s k some (ap (λ z. option_map_or is_perceived (at_slot z k) false) (sym is) ∙ f w))

-- one more slot
module _ {A : Type 0} (test : A → Bool) where
  abbrev wanted : Option A → Bool
  wanted x = option_map_or test x false

  next : (n : ℕ) (s : List (Option A)) (k : ℕ) → k < length s
      → places test n (take (suc k) s) ≡ cond (wanted (at_slot s k)) (places test n (take k s) ++ (n + k) ∷ []) (places test n (take k s))
  next n [] k l = absurd (omega (arith, l))
  next n (None ∷ s) zero l = refl
  next n (Some x ∷ s) zero l = let same : n ≡ n + 0 = omega arith in ap (λ m. cond (test x) (m ∷ []) []) same
  next n (None ∷ s) (suc k) l =
      let same : suc n + k ≡ n + suc k = omega arith in
      next (suc n) s k (omega (arith, l))
      ∙ ap (λ m. cond (wanted (at_slot s k)) (places test (suc n) (take k s) ++ m ∷ []) (places test (suc n) (take k s))) same
  next n (Some x ∷ s) (suc k) l = go (test x) (wanted (at_slot s k)) (next (suc n) s k (omega (arith, l))) where
    go : (t u : Bool)
        → places test (suc n) (take (suc k) s) ≡ cond u (places test (suc n) (take k s) ++ (suc n + k) ∷ []) (places test (suc n) (take k s))
        → cond t (n ∷ places test (suc n) (take (suc k) s)) (places test (suc n) (take (suc k) s))
        ≡ cond u (cond t (n ∷ places test (suc n) (take k s)) (places test (suc n) (take k s)) ++ (n + suc k) ∷ []) (cond t (n ∷ places test (suc n) (take k s)) (places test (suc n) (take k s)))
    go true true w = let same : suc n + k ≡ n + suc k = omega arith in ap (λ z. n ∷ z) (w ∙ ap (λ m. places test (suc n) (take k s) ++ m ∷ []) same)
    go true false w = ap (λ z. n ∷ z) w
    go false true w = let same : suc n + k ≡ n + suc k = omega arith in w ∙ ap (λ m. places test (suc n) (take k s) ++ m ∷ []) same
    go false false w = w

  pub places_next : (s : List (Option A)) (k : ℕ) → k < length s → (b : Bool) → b ≡ wanted (at_slot s k) → (old new : List ℕ) → old ≡ places test 0 (take k s)
      → new ≡ cond b (old ++ k ∷ []) old → new ≡ places test 0 (take (k + 1) s)
  places_next s k l b is old new e f =
      let same : k ≡ 0 + k = omega arith in
      let one : suc k ≡ k + 1 = omega arith in
      f ∙ ap (λ z. cond b (z ++ k ∷ []) z) e
      ∙ ap (λ m. cond b (places test 0 (take k s) ++ m ∷ []) (places test 0 (take k s))) same
      ∙ ap (λ t. cond t (places test 0 (take k s) ++ (0 + k) ∷ []) (places test 0 (take k s))) is
      ∙ sym (next 0 s k l)
      ∙ ap (λ m. places test 0 (take m s)) one

-- ---- what was perceived and the percepts, one by one

pub lengths_differ : (xs ys : Ls) → (length xs ≡ length ys → ⊥) → all_same_belief xs ys ≡ false
lengths_differ [] [] d = absurd (d refl)
lengths_differ [] (y ∷ ys) d = refl
lengths_differ (x ∷ xs) [] d = refl
lengths_differ (x ∷ xs) (y ∷ ys) d = go (same_belief x y) (lengths_differ xs ys (λ e. d (ap suc e))) where
  go : (t : Bool) → all_same_belief xs ys ≡ false → (t && all_same_belief xs ys) ≡ false
  go true e = e
  go false e = refl

-- those from a place on are still to be compared
abbrev pub Left : BeliefSlots → Ls → ℕ → Type 0
Left s percepts i = all_same_belief (drop i (perceived (kept s))) (drop i percepts) ≡ are_perceived percepts (kept s)

module _ (s : BeliefSlots) (percepts : Ls) (ps : List ℕ) (e : ps ≡ places is_perceived 0 s) where
  abbrev all : Ls
  all = perceived (kept s)

  pub apart_in_number : (length ps ≡ length percepts → ⊥) → false ≡ are_perceived percepts (kept s)
  apart_in_number d =
      let many = ap length e ∙ length_places is_perceived 0 s in
      sym (lengths_differ all percepts (λ u. d (many ∙ u)))

  one : (i j : ℕ) (p : LiteralOf Term) (t : Bool) → slice_get ps i ≡ Some j → slice_get percepts i ≡ Some p
      → t ≡ option_map_or (λ c. same_belief c p) (at_slot s j) false
      → all_same_belief (drop i all) (drop i percepts) ≡ (t && all_same_belief (drop (suc i) all) (drop (suc i) percepts))
  one i j p t at ap_at is =
      let q = nth_slot is_perceived s i j (ap (λ z. slice_get z i) (sym e) ∙ at) in
      ap (λ z. all_same_belief z (drop i percepts)) (drop_next all i q.here q.nth)
      ∙ ap (all_same_belief (q.here ∷ drop (suc i) all)) (drop_next percepts i p ap_at)
      ∙ ap (λ z. z && all_same_belief (drop (suc i) all) (drop (suc i) percepts)) (sym (is ∙ ap (λ z. option_map_or (λ c. same_belief c p) z false) q.at))

  pub one_same : (i j : ℕ) (p : LiteralOf Term) → slice_get ps i ≡ Some j → slice_get percepts i ≡ Some p
      → true ≡ option_map_or (λ c. same_belief c p) (at_slot s j) false → Left s percepts i → Left s percepts (i + 1)
  one_same i j p at ap_at is l =
      let next : i + 1 ≡ suc i = omega arith in
      ap (λ m. all_same_belief (drop m all) (drop m percepts)) next ∙ sym (one i j p true at ap_at is) ∙ l

  pub one_other : (i j : ℕ) (p : LiteralOf Term) → slice_get ps i ≡ Some j → slice_get percepts i ≡ Some p
      → false ≡ option_map_or (λ c. same_belief c p) (at_slot s j) false → Left s percepts i → false ≡ are_perceived percepts (kept s)
  one_other i j p at ap_at is l = sym (one i j p false at ap_at is) ∙ l

  pub all_compared : (i : ℕ) → length ps ≤ i → length ps ≡ length percepts → Left s percepts i → true ≡ are_perceived percepts (kept s)
  all_compared i l same left =
      let many = ap length e ∙ length_places is_perceived 0 s in
      sym (ap (λ z. all_same_belief z (drop i percepts)) (drop_all i all (omega (arith, l, many)))
      ∙ ap (all_same_belief []) (drop_all i percepts (omega (arith, l, same)))) ∙ left

-- ---- the percepts are ground where they are what was perceived

ground_like : (b p : LiteralOf Term) → same_belief b p ≡ true → is_ground_literal b ≡ true → is_ground_literal (as_percept p) ≡ true
ground_like b p s g =
    ground_lit (as_percept p)
    ∙ true_both (all_of (map is_ground p.args)) (all_of (map is_ground (source_percept ∷ []))) (ap (λ z. all_of (map is_ground z.args)) (sym (same_key b p s)) ∙ (ground_parts b g).0)
    (source_ground _)

pub perceived_ground : (percepts bs : Ls) → AreBeliefs bs → are_perceived percepts bs ≡ true → all_ground (map as_percept percepts) ≡ true
perceived_ground [] [] a e = refl
perceived_ground (p ∷ percepts) [] a e = absurd (false≢true e)
perceived_ground percepts (b ∷ bs) a e = go (λ ps. perceived_ground ps bs a.2) (is_held b.annots source_percept) percepts e where
  go : ((ps : Ls) → are_perceived ps bs ≡ true → all_ground (map as_percept ps) ≡ true)
      → (t : Bool) → (ps : Ls) → all_same_belief (cond t (b ∷ perceived bs) (perceived bs)) ps ≡ true → all_ground (map as_percept ps) ≡ true
  go more false ps w = more ps w
  go more true [] w = refl
  go more true (p ∷ ps) w =
      let both = both_true (same_belief b p) (all_same_belief (perceived bs) ps) w in
      true_both (is_ground_literal (as_percept p)) (all_ground (map as_percept ps)) (ground_like b p both.0 a.0) (more ps both.1)
