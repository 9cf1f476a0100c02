-- What is filed and listed of slots, one after another, as they stand without the empty ones.
use Rattle.std.proofs.Common.{◌≡◌, ◌≤◌, ℕ, zero, suc, ◌+◌, Bool, List, [], ◌∷◌, ◌++◌, map, length, take, Option, Some, None, cond, refl, ap, sym, ◌∙◌, subst, arith}
use Rattle.std.specs.List.{slice_get, filter}
use Rattle.std.specs.Option.{is_some}
use Rattle.std.proofs.lemmas.List.{take_all}
use Rattle.asl_term.specs.declared.syntax.LiteralOf.{LiteralOf}
use Rattle.asl_term.specs.declared.syntax.Term.{Term}
use Rattle.asl_index_tables.specs.declared.frames.Frames.{Frames}
use Rattle.asl_index_tables.specs.declared.keys.Keys.{Keys}
use Rattle.asl_index_tables.specs.Frames.{has_frame, filed}
use Rattle.asl_index_tables.specs.Frames as frames
use Rattle.asl_index_tables.specs.Keys as keys
use Rattle.asl_index_tables.specs.Prints.{key_print}
use Rattle.asl_index_tables.specs.Slots.{kept, packed, places, at_slot, rank}
use Rattle.asl_index_tables.proofs.Slots.{rank_at, places_more}
use Rattle.asl_index.specs.Packing.{AreFiledFirst}
use Rattle.asl_index.specs.Store.{AreFiled, AreListed}
use Rattle.asl_index.proofs.Filing.{BeliefSlots, listed_more}

module _ {A : Type 0} where
  -- so many of the first slots hold no more
  pub rank_within : (s : List (Option A)) (k : ℕ) → rank s k ≤ k
  rank_within [] zero = omega arith
  rank_within [] (suc k) = omega arith
  rank_within (x ∷ s) zero = omega arith
  rank_within (None ∷ s) (suc k) = let more = rank_within s k in omega (arith, more)
  rank_within (Some x ∷ s) (suc k) = let more = rank_within s k in omega (arith, more)

  rank_more : (s : List (Option A)) (k : ℕ) (b : A) → at_slot s k ≡ Some b → rank s (suc k) ≡ suc (rank s k)
  rank_more [] k b e = cc
  rank_more (x ∷ s) zero b e = ap (λ z. rank (z ∷ s) 1) e
  rank_more (None ∷ s) (suc k) b e = rank_more s k b e
  rank_more (Some x ∷ s) (suc k) b e = ap suc (rank_more s k b e)

  rank_same : (s : List (Option A)) (k : ℕ) → at_slot s k ≡ None → rank s (suc k) ≡ rank s k
  rank_same [] zero e = refl
  rank_same [] (suc k) e = refl
  rank_same (x ∷ s) zero e = ap (λ z. rank (z ∷ s) 1) e
  rank_same (None ∷ s) (suc k) e = rank_same s k e
  rank_same (Some x ∷ s) (suc k) e = ap suc (rank_same s k e)

  -- the slots that are not empty
  pub some_packed : (s : List (Option A)) → filter is_some s ≡ packed s
  some_packed [] = refl
  some_packed (None ∷ s) = some_packed s
  some_packed (Some x ∷ s) = ap (λ z. Some x ∷ z) (some_packed s)

-- one more belief is filed
filed_more : (ls : List (LiteralOf Term)) (i : ℕ) (l : LiteralOf Term) (old new : Frames) → slice_get ls i ≡ Some l
    → AreFiled (map Some (take i ls)) old → frames.IsPut l i old new → AreFiled (map Some (take (i + 1) ls)) new
filed_more ls i l old new e a put neg functor count =
    let test : LiteralOf Term → Bool = has_frame neg functor count in
    let same : i ≡ 0 + i = omega arith in
    let next : suc i ≡ i + 1 = omega arith in
    put neg functor count
    ∙ ap (λ z. cond (test l) (z ++ i ∷ []) z) (a neg functor count)
    ∙ ap (λ m. cond (test l) (places test 0 (map Some (take i ls)) ++ m ∷ []) (places test 0 (map Some (take i ls)))) same
    ∙ sym (places_more test 0 ls i l e)
    ∙ ap (λ m. places test 0 (map Some (take m ls))) next

module _ (slots : BeliefSlots) (k n : ℕ) (f : Frames) (g : Keys) (r : AreFiledFirst slots k n f g) where
  pub filed_fewer : n ≤ k
  filed_fewer = let last = r.many in let few = rank_within slots k in omega (arith, last, few)

  pub filed_next : (b : LiteralOf Term) (f' : Frames) (g' : Keys) (key : ℕ) → at_slot slots k ≡ Some b → frames.IsPut b n f f' → keys.IsPut key n g g'
      → key ≡ key_print b.functor b.args → AreFiledFirst slots (k + 1) (n + 1) f' g'
  filed_next b f' g' key at put list is =
      let here : slice_get (kept slots) n ≡ Some b = ap (slice_get (kept slots)) r.many ∙ rank_at slots k b at in
      let last = r.many in
      let next : k + 1 ≡ suc k = omega arith in
      let more = ap (rank slots) next ∙ rank_more slots k b at in
      record {
        many = omega (arith, last, more);
        filed = filed_more (kept slots) n b f f' here r.filed put;
        listed = listed_more (kept slots) n b g g' key here is r.listed list;
      }

  pub filed_same : at_slot slots k ≡ None → AreFiledFirst slots (k + 1) n f g
  filed_same at =
      let next : suc k ≡ k + 1 = omega arith in
      record { many = r.many ∙ sym (rank_same slots k at) ∙ ap (rank slots) next; filed = r.filed; listed = r.listed }

  whole : length slots ≤ k → take n (kept slots) ≡ kept slots
  whole l =
      let all : rank slots k ≡ length (kept slots) = ap (λ z. length (kept z)) (take_all k slots l) in
      let last = r.many in
      take_all n (kept slots) (omega (arith, all, last))

  pub all_filed : length slots ≤ k → AreFiled (packed slots) f
  all_filed l = subst (λ z. AreFiled (map Some z) f) (whole l) r.filed

  pub all_listed : length slots ≤ k → AreListed (packed slots) g
  all_listed l = subst (λ z. AreListed (map Some z) g) (whole l) r.listed
