-- What a change of one slot makes of what is filed and listed.
use Rattle.std.proofs.Common.{◌≡◌, ℕ, zero, suc, ◌+◌, ◌-◌, Bool, List, [], ◌∷◌, ◌++◌, map, length, take, Option, Some, None, cond, refl, ap, sym, ◌∙◌, subst, arith}
use Rattle.std.specs.Prelude.{◌==◌, Result, Ok, Err, OnErr}
use Rattle.std.specs.List.{slice_get, slice_set, filter}
use Rattle.asl_term.specs.declared.syntax.LiteralOf.{LiteralOf}
use Rattle.asl_term.specs.declared.syntax.Term.{Term}
use Rattle.asl_index_tables.specs.declared.frames.Frames.{Frames}
use Rattle.asl_index_tables.specs.declared.keys.Keys.{Keys}
use Rattle.asl_index_tables.specs.Frames.{has_frame, filed, without}
use Rattle.asl_index_tables.specs.Frames as frames
use Rattle.asl_index_tables.specs.Keys as keys
use Rattle.asl_index_tables.specs.Prints.{key_print}
use Rattle.asl_index_tables.specs.Slots.{kept, places, content, at_slot}
use Rattle.asl_index_tables.proofs.Slots.{nth_slot, nth_none, length_places, places_more, places_put, places_clear, places_same, places_empty, kept_append, kept_put}
use Rattle.std.proofs.lemmas.List.{append-nil, length-append}
use Rattle.asl_unify.specs.Compare.{same_frame}
use Rattle.asl_beliefs.specs.Sources.{with_annots}
use Rattle.asl_index.specs.Store.{has_key, AreFiled, AreListed}

abbrev pub BeliefSlots : Type 0
BeliefSlots = List (Option (LiteralOf Term))

pub set_back : {A : Type 0} → (s : List A) (k : ℕ) (x y : A) → slice_get s k ≡ Some x → slice_set (slice_set s k y) k x ≡ s
set_back [] k x y e = cc
set_back (z ∷ s) zero x y e = let is : z ≡ x = cc in ap (λ w. w ∷ s) (sym is)
set_back (z ∷ s) (suc k) x y e = ap (λ w. z ∷ w) (set_back s k x y e)

pub set_self : {A : Type 0} → (s : List A) (k : ℕ) (x : A) → slice_get s k ≡ Some x → slice_set s k x ≡ s
set_self [] k x e = cc
set_self (z ∷ s) zero x e = let is : z ≡ x = cc in ap (λ w. w ∷ s) (sym is)
set_self (z ∷ s) (suc k) x e = ap (λ w. z ∷ w) (set_self s k x e)

-- what is so at all is so after an error
pub err_any : {T E : Type 0} → (r : Result T E) (P : Type 0) → P → OnErr r P
err_any (Ok x) P p = tt
err_any (Err e) P p = p

pub get_set : {A : Type 0} → (s : List A) (k : ℕ) (x y : A) → slice_get s k ≡ Some x → slice_get (slice_set s k y) k ≡ Some y
get_set [] k x y e = cc
get_set (z ∷ s) zero x y e = refl
get_set (z ∷ s) (suc k) x y e = get_set s k x y e

-- a slot with something stands in the list
pub at_get : {A : Type 0} → (s : List (Option A)) (k : ℕ) (b : A) → at_slot s k ≡ Some b → slice_get s k ≡ Some (Some b)
at_get s k b e = go (slice_get s k) refl e where
  go : (r : Option (Option _)) → slice_get s k ≡ r → content r ≡ Some b → slice_get s k ≡ Some (Some b)
  go None u w = cc
  go (Some x) u w = u ∙ ap Some w

pub get_at : {A : Type 0} → (s : List (Option A)) (k : ℕ) (x : Option A) → slice_get s k ≡ Some x → at_slot s k ≡ x
get_at s k x e = ap content e

module _ (s : BeliefSlots) (k : ℕ) (b : LiteralOf Term) where
  pub filed_put : (old new : Frames) → AreFiled s old → frames.IsPut b k old new → slice_get s k ≡ Some None → k + 1 ≡ length s
      → AreFiled (slice_set s k (Some b)) new
  filed_put old new a p e l neg functor count =
      let test : LiteralOf Term → Bool = has_frame neg functor count in
      let same : k ≡ 0 + k = omega arith in
      p neg functor count
      ∙ ap (λ z. cond (test b) (z ++ k ∷ []) z) (a neg functor count)
      ∙ ap (λ m. cond (test b) (places test 0 s ++ m ∷ []) (places test 0 s)) same
      ∙ sym (places_put test 0 s k b e l)

  pub filed_taken : (old new : Frames) → AreFiled s old → frames.IsTaken b k old new → at_slot s k ≡ Some b → AreFiled (slice_set s k None) new
  filed_taken old new a p e neg functor count =
      let test : LiteralOf Term → Bool = has_frame neg functor count in
      let same : k ≡ 0 + k = omega arith in
      p neg functor count
      ∙ ap (λ z. cond (test b) (without k z) z) (a neg functor count)
      ∙ ap (λ m. cond (test b) (without m (places test 0 s)) (places test 0 s)) same
      ∙ sym (places_clear test 0 s k b e)

  pub listed_put : (old new : Keys) (key : ℕ) → key ≡ key_print b.functor b.args → AreListed s old → keys.IsPut key k old new → slice_get s k ≡ Some None
      → k + 1 ≡ length s → AreListed (slice_set s k (Some b)) new
  listed_put old new key is a p e l n =
      let same : k ≡ 0 + k = omega arith in
      p n
      ∙ ap (λ z. cond (n == key) (z ++ k ∷ []) z) (a n)
      ∙ ap (λ z. cond (n == z) (places (has_key n) 0 s ++ k ∷ []) (places (has_key n) 0 s)) is
      ∙ ap (λ m. cond (has_key n b) (places (has_key n) 0 s ++ m ∷ []) (places (has_key n) 0 s)) same
      ∙ sym (places_put (has_key n) 0 s k b e l)

  pub listed_taken : (old new : Keys) (key : ℕ) → key ≡ key_print b.functor b.args → AreListed s old → keys.IsTaken key k old new → at_slot s k ≡ Some b
      → AreListed (slice_set s k None) new
  listed_taken old new key is a p e n =
      let same : k ≡ 0 + k = omega arith in
      p n
      ∙ ap (λ z. cond (n == key) (without k z) z) (a n)
      ∙ ap (λ z. cond (n == z) (without k (places (has_key n) 0 s)) (places (has_key n) 0 s)) is
      ∙ ap (λ m. cond (has_key n b) (without m (places (has_key n) 0 s)) (places (has_key n) 0 s)) same
      ∙ sym (places_clear (has_key n) 0 s k b e)

  -- where a belief gets other annotations all stays as it was
  pub filed_same : (annots : List Term) (f : Frames) → AreFiled s f → at_slot s k ≡ Some b → AreFiled (slice_set s k (Some (with_annots b annots))) f
  filed_same annots f a e neg functor count =
      a neg functor count ∙ sym (places_same (has_frame neg functor count) 0 s k b (with_annots b annots) e refl)

  pub listed_same : (annots : List Term) (f : Keys) → AreListed s f → at_slot s k ≡ Some b → AreListed (slice_set s k (Some (with_annots b annots))) f
  listed_same annots f a e n = a n ∙ sym (places_same (has_key n) 0 s k b (with_annots b annots) e refl)

  -- a belief that was put and taken out again
  pub filed_undone : (old mid new : Frames) → AreFiled s old → frames.IsPut b k old mid → frames.IsTaken b k mid new → slice_get s k ≡ Some None
      → k + 1 ≡ length s → AreFiled s new
  filed_undone old mid new a p q e l =
      let put = filed_put old mid a p e l in
      let set = slice_set s k (Some b) in
      subst (λ z. AreFiled z new) (set_back s k None (Some b) e) (taken set put (get_set s k None (Some b) e))
    where
      taken : (set : BeliefSlots) → AreFiled set mid → slice_get set k ≡ Some (Some b) → AreFiled (slice_set set k None) new
      taken set put at neg functor count =
          let test : LiteralOf Term → Bool = has_frame neg functor count in
          let same : k ≡ 0 + k = omega arith in
          q neg functor count
          ∙ ap (λ z. cond (test b) (without k z) z) (put neg functor count)
          ∙ ap (λ m. cond (test b) (without m (places test 0 set)) (places test 0 set)) same
          ∙ sym (places_clear test 0 set k b (get_at set k (Some b) at))

-- what is filed under the frame of a goal
module _ (g : LiteralOf Term) (s : BeliefSlots) (f : Frames) (a : AreFiled s f) where
  pub slot_filed : (k : ℕ) → slice_get (filed f g.neg g.functor (length g.args)) k ≡ slice_get (places (same_frame g) 0 s) k
  slot_filed k = ap (λ z. slice_get z k) (a g.neg g.functor (length g.args))

  pub count_filed : length (filed f g.neg g.functor (length g.args)) ≡ length (filter (same_frame g) (kept s))
  count_filed = ap length (a g.neg g.functor (length g.args)) ∙ length_places (same_frame g) 0 s

  pub nth_filed : (k j : ℕ) → slice_get (filed f g.neg g.functor (length g.args)) k ≡ Some j → at_slot s j ≡ slice_get (filter (same_frame g) (kept s)) k
  nth_filed k j e = let p = nth_slot (same_frame g) s k j (sym (slot_filed k) ∙ e) in p.at ∙ sym p.nth

  pub none_filed : (k : ℕ) → slice_get (filed f g.neg g.functor (length g.args)) k ≡ None → slice_get (filter (same_frame g) (kept s)) k ≡ None
  none_filed k e = nth_none (same_frame g) s k (sym (slot_filed k) ∙ e)

-- one more literal is listed
pub listed_more : (ls : List (LiteralOf Term)) (i : ℕ) (l : LiteralOf Term) (old new : Keys) (key : ℕ) → slice_get ls i ≡ Some l → key ≡ key_print l.functor l.args
    → AreListed (map Some (take i ls)) old → keys.IsPut key i old new → AreListed (map Some (take (i + 1) ls)) new
listed_more ls i l old new key e is a put n =
    let same : i ≡ 0 + i = omega arith in
    let next : suc i ≡ i + 1 = omega arith in
    put n
    ∙ ap (λ z. cond (n == key) (z ++ i ∷ []) z) (a n)
    ∙ ap (λ z. cond (n == z) (places (has_key n) 0 (map Some (take i ls)) ++ i ∷ []) (places (has_key n) 0 (map Some (take i ls)))) is
    ∙ ap (λ m. cond (has_key n l) (places (has_key n) 0 (map Some (take i ls)) ++ m ∷ []) (places (has_key n) 0 (map Some (take i ls)))) same
    ∙ sym (places_more (has_key n) 0 ls i l e)
    ∙ ap (λ m. places (has_key n) 0 (map Some (take m ls))) next

-- one more slot, which is empty
module _ (s : BeliefSlots) where
  pub filed_empty : (f : Frames) → AreFiled s f → AreFiled (s ++ None ∷ []) f
  filed_empty f a neg functor count = a neg functor count ∙ sym (places_empty (has_frame neg functor count) 0 s)

  pub listed_empty : (f : Keys) → AreListed s f → AreListed (s ++ None ∷ []) f
  listed_empty f a n = a n ∙ sym (places_empty (has_key n) 0 s)

  pub kept_empty : kept (s ++ None ∷ []) ≡ kept s
  kept_empty = kept_append s (None ∷ []) ∙ append-nil (kept s)

  pub last_empty : slice_get (s ++ None ∷ []) (length s) ≡ Some None
  last_empty = go s where
    go : (s : BeliefSlots) → slice_get (s ++ None ∷ []) (length s) ≡ Some None
    go [] = refl
    go (x ∷ s) = go s

  pub last_place : length (s ++ None ∷ []) - 1 ≡ length s
  last_place = let size = length-append s (None ∷ []) in omega (arith, size)

  pub kept_last : (b : LiteralOf Term) → kept (slice_set (s ++ None ∷ []) (length s) (Some b)) ≡ kept s ++ b ∷ []
  kept_last b =
      let size = length-append s (None ∷ []) in
      kept_put (s ++ None ∷ []) (length s) b last_empty (omega (arith, size)) ∙ ap (λ z. z ++ b ∷ []) kept_empty
