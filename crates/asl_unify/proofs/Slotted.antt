-- Slots as pairs come and go, and the pair of a variable found by its slot.
use Rattle.std.proofs.Common.{IfSome, ◌≡◌, ◌≢◌, ℕ, zero, suc, eqb, Bool, true, false, ◌≤◌, ◌<◌, ◌+◌, List, [], ◌∷◌, ◌++◌, Option, Some, None, take, length, get_or, set, min, cond, refl, sym, ap, subst, ◌∙◌, arith}
use Rattle.std.specs.List.{slice_get, AllPairs}
use Rattle.std.proofs.lemmas.Bool.{eqb-false}
use Rattle.std.proofs.lemmas.Grind.{common_steps}
use Rattle.std.proofs.lemmas.List.{get_or_read}
use Rattle.std.proofs.lemmas.Option.{slice_get_within, get_or_from_slice_get}
use Rattle.asl_term.specs.Trees.{same_var as same}
use Rattle.asl_term.specs.declared.syntax.Var.{Var}
use Rattle.asl_term.specs.declared.syntax.Term.TheVariants as term
use Rattle.asl_unify.specs.declared.subst.Pair.{Pair}
use Rattle.asl_unify.specs.Compare.{find}
use Rattle.asl_unify.specs.Puts.{IsSubst}
use Rattle.asl_unify.specs.declared.slots.Slots.{Slots}
use Rattle.asl_unify.specs.inner.Slots.{slot, in_slot, top, AreIn, AreSlots, AreFirst, ArePlaced}
use Rattle.asl_unify.proofs.Agree.{same-true, same-self}
use Rattle.asl_unify.proofs.Gone.{sound-distinct}

-- one pair more changes nothing where its variable is another
take_none : (s : List Pair) (n : ℕ) (x : Var) → slice_get s n ≡ None → find (take (suc n) s) x ≡ find (take n s) x
take_none [] zero x e = refl
take_none [] (suc n) x e = refl
take_none (p ∷ s) zero x e = absurd cc
take_none (p ∷ s) (suc n) x e = ap (λ r. cond (same p.var x) (Some p.term) r) (take_none s n x e)

take_other : (s : List Pair) (n : ℕ) (p : Pair) (x : Var) → slice_get s n ≡ Some p → same p.var x ≡ false → find (take (suc n) s) x ≡ find (take n s) x
take_other [] zero p x e d = refl
take_other [] (suc n) p x e d = refl
take_other (q ∷ s) zero p x e d =
    let same_pair : q ≡ p = cc in
    ap (λ r. cond (same r.var x) (Some r.term) None) same_pair ∙ ap (λ b. cond b (Some p.term) None) d
take_other (q ∷ s) (suc n) p x e d = ap (λ r. cond (same q.var x) (Some q.term) r) (take_other s n p x e d)

-- where the slots differ, so do the variables
apart : (f : Var → ℕ) (y x : Var) (b : Bool) → same y x ≡ b → eqb (f y) (f x) ≡ false → b ≡ false
apart f y x false e d = refl
apart f y x true e d = absurd (eqb-false (f y) (f x) d (ap f (same-true y x e)))

step : (f : Var → ℕ) (s : List Pair) (x : Var) (n : ℕ) (o : Option Pair) → slice_get s n ≡ o → in_slot f (f x) o ≡ false
    → find (take (suc n) s) x ≡ find (take n s) x
step f s x n None e d = take_none s n x e
step f s x n (Some p) e d = take_other s n p x e (apart f p.var x (same p.var x) refl d)

-- a variable is found among the pairs up to the last one in its slot
pub found : (f : Var → ℕ) (s : List Pair) (x : Var) (n : ℕ) → find (take n s) x ≡ find (take (top f (f x) s n) s) x
found f s x zero = refl
found f s x (suc n) = go (found f s x n) (in_slot f (f x) (slice_get s n)) refl where
  go : find (take n s) x ≡ find (take (top f (f x) s n) s) x → (b : Bool) → in_slot f (f x) (slice_get s n) ≡ b
      → find (take (suc n) s) x ≡ find (take (cond b (suc n) (top f (f x) s n)) s) x
  go more true e = refl
  go more false e = step f s x n (slice_get s n) refl e ∙ more

get_take : (s : List Pair) (m n : ℕ) → n < m → slice_get (take m s) n ≡ slice_get s n
get_take [] zero n lt = refl
get_take [] (suc m) n lt = refl
get_take (p ∷ s) zero n lt = absurd (omega (arith, lt))
get_take (p ∷ s) (suc m) zero lt = refl
get_take (p ∷ s) (suc m) (suc n) lt = get_take s m n (omega (arith, lt))

-- what is cut off has no part in the slots before
kept : (f : Var → ℕ) (j m n : ℕ) (s : List Pair) → n ≤ m → top f j (take m s) n ≡ top f j s n
kept f j m zero s le = refl
kept f j m (suc n) s le =
    ap (λ o. cond (in_slot f j o) (suc n) (top f j (take m s) n)) (get_take s m n (omega (arith, le)))
    ∙ ap (λ r. cond (in_slot f j (slice_get s n)) (suc n) r) (kept f j m n s (omega (arith, le)))

pub top_within : (f : Var → ℕ) (j : ℕ) (s : List Pair) (n : ℕ) → top f j s n ≤ n
top_within f j s zero = omega arith
top_within f j s (suc n) = go (in_slot f j (slice_get s n)) (top_within f j s n) where
  go : (b : Bool) → top f j s n ≤ n → cond b (suc n) (top f j s n) ≤ suc n
  go true le = omega arith
  go false le = omega (arith, le)

-- the pair before that place is in the slot
pub top_in : (f : Var → ℕ) (j : ℕ) (s : List Pair) (n k : ℕ) (p : Pair) → top f j s n ≡ suc k → slice_get s k ≡ Some p → f p.var ≡ j
top_in f j s zero k p e is = absurd cc
top_in f j s (suc n) k p e is = go (λ less. top_in f j s n k p less is) (in_slot f j (slice_get s n)) refl e where
  go : (top f j s n ≡ suc k → f p.var ≡ j) → (b : Bool) → in_slot f j (slice_get s n) ≡ b → cond b (suc n) (top f j s n) ≡ suc k → f p.var ≡ j
  go before false d e = before e
  go before true d e =
      let same_place : n ≡ k = omega (arith, e) in
      let in_it : in_slot f j (Some p) ≡ true = ap (in_slot f j) (sym is ∙ ap (slice_get s) (sym same_place)) ∙ d in
      grind (arith, in_it)

add_one : (n : ℕ) → n + 1 ≡ suc n
add_one n = omega arith

top_hit : (f : Var → ℕ) (j : ℕ) (s : List Pair) (n : ℕ) (p : Pair) → slice_get s n ≡ Some p → eqb (f p.var) j ≡ true → top f j s (suc n) ≡ suc n
top_hit f j s n p is e = ap (λ o. cond (in_slot f j o) (suc n) (top f j s n)) is ∙ ap (λ b. cond b (suc n) (top f j s n)) e

top_miss : (f : Var → ℕ) (j : ℕ) (s : List Pair) (n : ℕ) (p : Pair) → slice_get s n ≡ Some p → eqb (f p.var) j ≡ false → top f j s (suc n) ≡ top f j s n
top_miss f j s n p is e = ap (λ o. cond (in_slot f j o) (suc n) (top f j s n)) is ∙ ap (λ b. cond b (suc n) (top f j s n)) e

get_same : (xs : List ℕ) (i v : ℕ) → i < length xs → get_or (set xs i v) i 0 ≡ v
get_same [] i v lt = absurd (omega (arith, lt))
get_same (x ∷ xs) zero v lt = refl
get_same (x ∷ xs) (suc i) v lt = get_same xs i v (omega (arith, lt))

get_other : (xs : List ℕ) (i j v : ℕ) → i ≢ j → get_or (set xs i v) j 0 ≡ get_or xs j 0
get_other [] i j v d = refl
get_other (x ∷ xs) zero zero v d = absurd (d refl)
get_other (x ∷ xs) zero (suc j) v d = refl
get_other (x ∷ xs) (suc i) zero v d = refl
get_other (x ∷ xs) (suc i) (suc j) v d = get_other xs i j v (λ e. d (ap suc e))

set_length : (xs : List ℕ) (i v : ℕ) → length (set xs i v) ≡ length xs
set_length [] i v = refl
set_length (x ∷ xs) zero v = refl
set_length (x ∷ xs) (suc i) v = ap suc (set_length xs i v)

get_front : (xs ys : List ℕ) (k : ℕ) → k < length xs → get_or (xs ++ ys) k 0 ≡ get_or xs k 0
get_front [] ys k lt = absurd (omega (arith, lt))
get_front (x ∷ xs) ys zero lt = refl
get_front (x ∷ xs) ys (suc k) lt = get_front xs ys k (omega (arith, lt))

get_end : (xs : List ℕ) (y k : ℕ) → k ≡ length xs → get_or (xs ++ y ∷ []) k 0 ≡ y
get_end [] y k e = ap (λ i. get_or (y ∷ []) i 0) e
get_end (x ∷ xs) y zero e = absurd (omega (arith, e))
get_end (x ∷ xs) y (suc k) e = get_end xs y k (omega (arith, e))

-- one of these is the other, or it is not
same_pair : (s : List Pair) (k : ℕ) (p q : Pair) → slice_get s k ≡ Some p → slice_get s k ≡ Some q → p ≡ q
same_pair s k p q e g = cc

module _ (f : Var → ℕ) (count : ℕ) (s : List Pair) (n : ℕ) (p : Pair) (is : slice_get s n ≡ Some p) (within : f p.var < count) where
  -- one pair more
  pub put_in : (last before : List ℕ) → AreIn f count s n last before → AreIn f count s (n + 1) (set last (f p.var) (n + 1)) (before ++ get_or last (f p.var) 0 ∷ [])
  put_in last before a = record {
    slots = set_length last (f p.var) (n + 1) ∙ a.slots;
    pairs = let e = a.pairs in grind (arith, common_steps, e);
    tops = λ j lt. at_slot j lt (eqb (f p.var) j) refl;
    links = λ k q lt at. at_pair k q lt at (eqb k n) refl;
  } where
    inside : f p.var < length last
    inside = let e = a.slots in omega (arith, e, within)

    at_slot : (j : ℕ) → j < count → (b : Bool) → eqb (f p.var) j ≡ b → get_or (set last (f p.var) (n + 1)) j 0 ≡ top f j s (n + 1)
    at_slot j lt true e =
        let same_slot : f p.var ≡ j = grind (arith, e) in
        ap (λ i. get_or (set last (f p.var) (n + 1)) i 0) (sym same_slot)
        ∙ get_same last (f p.var) (n + 1) inside
        ∙ sym (ap (top f j s) (add_one n) ∙ top_hit f j s n p is e ∙ sym (add_one n))
    at_slot j lt false e =
        get_other last (f p.var) j (n + 1) (eqb-false (f p.var) j e)
        ∙ a.tops j lt
        ∙ sym (ap (top f j s) (add_one n) ∙ top_miss f j s n p is e)

    at_pair : (k : ℕ) (q : Pair) → k < n + 1 → slice_get s k ≡ Some q → (b : Bool) → eqb k n ≡ b
        → get_or (before ++ get_or last (f p.var) 0 ∷ []) k 0 ≡ top f (f q.var) s k
    at_pair k q lt at true e =
        let same_place : k ≡ n = grind (arith, e) in
        let pairs = a.pairs in
        get_end before (get_or last (f p.var) 0) k (omega (arith, same_place, pairs))
        ∙ a.tops (f p.var) within
        ∙ ap (λ r. top f (f r.var) s n) (same_pair s n p q is (ap (slice_get s) (sym same_place) ∙ at))
        ∙ ap (top f (f q.var) s) (sym same_place)
    at_pair k q lt at false e =
        let other : k ≢ n = grind (arith, e) in
        let pairs = a.pairs in
        let less : k < n = omega (arith, lt, other) in
        get_front before _ k (omega (arith, less, pairs)) ∙ a.links k q less at

-- the pairs behind the first n count for nothing
pub cut_off : (f : Var → ℕ) (count : ℕ) (s : List Pair) (n : ℕ) (last before : List ℕ) → AreIn f count s n last before → AreIn f count (take n s) n last before
cut_off f count s n last before a = record {
  slots = a.slots;
  pairs = a.pairs;
  tops = λ j lt. a.tops j lt ∙ sym (kept f j n n s (omega arith));
  links = λ k p lt at. a.links k p lt (sym (get_take s n k lt) ∙ at) ∙ sym (kept f (f p.var) n k s (omega (arith, lt)));
}

pub put_behind : (f : Var → ℕ) (count : ℕ) (s more : List Pair) (last before : List ℕ) → AreIn f count s (length s) last before
    → AreIn f count (s ++ more) (length s) last before
put_behind f count s more last before a =
    let front : take (length s) (s ++ more) ≡ s = grind (arith, common_steps) in
    let b : AreIn f count (take (length s) (s ++ more)) (length s) last before = subst (λ r. AreIn f count r (length s) last before) (sym front) a in
    record {
      slots = b.slots;
      pairs = b.pairs;
      tops = λ j lt. b.tops j lt ∙ kept f j (length s) (length s) (s ++ more) (omega arith);
      links = λ k p lt at. b.links k p lt (get_take (s ++ more) (length s) k lt ∙ at) ∙ kept f (f p.var) (length s) k (s ++ more) (omega (arith, lt));
    }

differ : (y x : Var) → y ≢ x → (b : Bool) → same y x ≡ b → b ≡ false
differ y x d true e = absurd (d (same-true y x e))
differ y x d false e = refl

take_all : (s : List Pair) → take (length s) s ≡ s
take_all [] = refl
take_all (p ∷ s) = ap (λ r. p ∷ r) (take_all s)

-- of pairs with different variables each is the pair of its own
distinct_find : (s : List Pair) (k : ℕ) (p : Pair) → AllPairs (λ a b. a.var ≢ b.var) s → slice_get s k ≡ Some p → find s p.var ≡ Some p.term
distinct_find [] k p d e = absurd cc
distinct_find (q ∷ s) zero p d e =
    let one : q ≡ p = cc in
    ap (λ b. cond b (Some q.term) (find s p.var)) (ap (λ r. same q.var r.var) (sym one) ∙ same-self q.var) ∙ ap (λ r. Some r.term) one
distinct_find (q ∷ s) (suc k) p d e =
    let lt : k < length s = slice_get_within s k p e in
    let there : get_or s k p ≡ p = get_or_from_slice_get s k p p e in
    let other : q.var ≢ p.var = subst (λ r. q.var ≢ r.var) there (d 0 (suc k) p (omega arith) (omega (arith, lt))) in
    ap (λ b. cond b (Some q.term) (find s p.var)) (differ q.var p.var other (same q.var p.var) refl)
    ∙ distinct_find s k p (λ i j a below inside. d (suc i) (suc j) a (omega (arith, below)) (omega (arith, inside))) e

-- the pair at a place of its slot is that of the variable
pub find_hit : (s : List Pair) (k : ℕ) (p : Pair) (x : Var) → IsSubst s → slice_get s k ≡ Some p → same p.var x ≡ true → find s x ≡ Some p.term
find_hit s k p x i e h = ap (find s) (sym (same-true p.var x h)) ∙ distinct_find s k p (sound-distinct s term.Var i) e

-- or it is another, and the search goes on before it
find_miss : (f : Var → ℕ) (s : List Pair) (k at : ℕ) (p : Pair) (x : Var) → slice_get s k ≡ Some p → same p.var x ≡ false → f p.var ≡ f x
    → find s x ≡ find (take (k + 1) s) x → at ≡ top f (f p.var) s k → find s x ≡ find (take at s) x
find_miss f s k at p x e d same_slot h below =
    h
    ∙ ap (λ n. find (take n s) x) (add_one k)
    ∙ take_other s k p x e d
    ∙ found f s x k
    ∙ ap (λ n. find (take n s) x) (sym (below ∙ ap (λ j. top f j s k) same_slot))

find_all : (f : Var → ℕ) (s : List Pair) (x : Var) → find s x ≡ find (take (top f (f x) s (length s)) s) x
find_all f s x = ap (λ r. find r x) (sym (take_all s)) ∙ found f s x (length s)

-- where the search for a variable stands: the variable is found among the pairs up to a place, the last of which is in its slot
pub record IsSought (f : Var → ℕ) (s : List Pair) (x : Var) (at : ℕ) : Type 0 where
  pub value : find s x ≡ find (take at s) x
  pub within : at ≤ length s
  pub same_slot : (k : ℕ) (p : Pair) → at ≡ suc k → slice_get s k ≡ Some p → f p.var ≡ f x

pub sought_first : (f : Var → ℕ) (s : List Pair) (x : Var) (at : ℕ) → at ≡ top f (f x) s (length s) → IsSought f s x at
sought_first f s x at e = record {
  value = find_all f s x ∙ ap (λ n. find (take n s) x) (sym e);
  within = let w = top_within f (f x) s (length s) in omega (arith, e, w);
  same_slot = λ k p more is. top_in f (f x) s (length s) k p (sym e ∙ more) is;
}

pub sought_next : (f : Var → ℕ) (s : List Pair) (x : Var) (at k next : ℕ) (p : Pair) → IsSought f s x at → at ≡ suc k → slice_get s k ≡ Some p
    → same p.var x ≡ false → next ≡ top f (f p.var) s k → IsSought f s x next
sought_next f s x at k next p i e is d n = record {
  value = find_miss f s k next p x is d (i.same_slot k p e is) (i.value ∙ ap (λ m. find (take m s) x) (e ∙ sym (add_one k))) n;
  within = let w = top_within f (f p.var) s k in let lt = i.within in omega (arith, w, lt, e, n);
  same_slot = λ j q more at_q. top_in f (f p.var) s k j q (sym n ∙ more) at_q ∙ i.same_slot k p e is;
}

-- the search begins in the slot of the variable, and goes on from pair to pair of the slot
pub sought_from : (s : List Pair) (x : Var) (count place at : ℕ) (last before : List ℕ) → AreSlots s (length s) last before → count ≡ length last
    → place ≡ slot count x → place < count → at ≡ get_or last place at → IsSought (slot (length last)) s x at
sought_from s x count place at last before a len is lt got =
    let here : place ≡ slot (length last) x = is ∙ ap (λ n. slot n x) len in
    let inside : place < length last = subst (λ n. place < n) len lt in
    sought_first (slot (length last)) s x at
    (get_or_read last place at inside got 0 ∙ a.1.tops place inside ∙ ap (λ j. top (slot (length last)) j s (length s)) here)

pub linked : (s : List Pair) (k next : ℕ) (p : Pair) (last before : List ℕ) → AreSlots s (length s) last before → slice_get s k ≡ Some p → k < length s
    → next ≡ get_or before k next → next ≡ top (slot (length last)) (slot (length last) p.var) s k
linked s k next p last before a is lt got =
    let pairs = a.1.pairs in
    get_or_read before k next (omega (arith, lt, pairs)) got 0 ∙ a.1.links k p lt is

pub linked_less : (s : List Pair) (k next : ℕ) (p : Pair) (last before : List ℕ) → AreSlots s (length s) last before → slice_get s k ≡ Some p → k < length s
    → next ≡ get_or before k next → next ≤ k
linked_less s k next p last before a is lt got =
    let e = linked s k next p last before a is lt got in
    let w = top_within (slot (length last)) (slot (length last) p.var) s k in
    omega (arith, e, w)

-- the same of the slots of a substitution
moved : (s : List Pair) (n count : ℕ) (last before : List ℕ) → 0 < count → AreIn (slot count) count s n last before → AreSlots s n last before
moved s n count last before some a =
    let same = sym a.slots in (
      subst (λ k. 0 < k) same some,
      subst (λ k. AreIn (slot k) k s n last before) same a,
    )

pub put_slots : (s : List Pair) (n place : ℕ) (p : Pair) (last before more_last more_before : List ℕ) → slice_get s n ≡ Some p
    → place ≡ slot (length last) p.var → place < length last → more_last ≡ set last place (n + 1) → more_before ≡ before ++ get_or last place 0 ∷ []
    → AreSlots s n last before → AreSlots s (n + 1) more_last more_before
put_slots s n place p last before more_last more_before is at within el eb a =
    let count = length last in
    let inside : slot count p.var < count = subst (λ k. k < count) at within in
    let b = put_in (slot count) count s n p is inside last before a.1 in
    let c = subst (λ k. AreIn (slot count) count s (n + 1) (set last k (n + 1)) (before ++ get_or last k 0 ∷ [])) (sym at) b in
    moved s (n + 1) count more_last more_before a.0
    (subst (λ ys. AreIn (slot count) count s (n + 1) more_last ys) (sym eb)
    (subst (λ xs. AreIn (slot count) count s (n + 1) xs (before ++ get_or last place 0 ∷ [])) (sym el) c))

take_past : (mark : ℕ) (s : List Pair) → take mark s ≡ take (min mark (length s)) s
take_past zero s = let e : 0 ≡ min 0 (length s) = omega arith in ap (λ k. take k s) e
take_past (suc mark) [] = let none : List Pair = [] in let e : 0 ≡ min (suc mark) 0 = omega arith in ap (λ k. take k none) e
take_past (suc mark) (p ∷ s) =
    let e : suc (min mark (length s)) ≡ min (suc mark) (suc (length s)) = omega arith in
    ap (λ r. p ∷ r) (take_past mark s) ∙ ap (λ k. take k (p ∷ s)) e

take_length : (n : ℕ) (s : List Pair) → n ≤ length s → length (take n s) ≡ n
take_length zero s le = refl
take_length (suc n) [] le = absurd (omega (arith, le))
take_length (suc n) (p ∷ s) le = ap suc (take_length n s (omega (arith, le)))

pub cut_slots : (s : List Pair) (mark n : ℕ) (last before : List ℕ) → n ≡ min mark (length s) → AreSlots s n last before
    → AreSlots (take mark s) (length (take mark s)) last before
cut_slots s mark n last before e a =
    let le : n ≤ length s = omega (arith, e) in
    let shorter : take n s ≡ take mark s = sym (take_past mark s ∙ ap (λ k. take k s) (sym e)) in
    let b : AreSlots (take n s) n last before = (a.0, cut_off (slot (length last)) (length last) s n last before a.1) in
    let c : AreSlots (take n s) (length (take n s)) last before = subst (λ k. AreSlots (take n s) k last before) (sym (take_length n s le)) b in
    subst (λ r. AreSlots r (length r) last before) shorter c

pub longer_slots : (s more : List Pair) (last before : List ℕ) → AreSlots s (length s) last before → AreSlots (s ++ more) (length s) last before
longer_slots s more last before a = (a.0, put_behind (slot (length last)) (length last) s more last before a.1)

pub no_slots : (count : ℕ) (last : List ℕ) → 0 < count → length last ≡ count → ((j : ℕ) → j < count → get_or last j 0 ≡ 0) → AreSlots [] 0 last []
no_slots count last some e none =
    moved [] 0 count last [] some (record { slots = e; pairs = refl; tops = none; links = λ k p lt at. absurd cc })

pub push_zero : (xs : List ℕ) (j : ℕ) → get_or (xs ++ 0 ∷ []) j 0 ≡ get_or xs j 0
push_zero [] zero = refl
push_zero [] (suc j) = refl
push_zero (x ∷ xs) zero = refl
push_zero (x ∷ xs) (suc j) = push_zero xs j

-- where there are slots
pub longer_if : (o : Option Slots) (s more : List Pair) → IfSome o (ArePlaced s) → IfSome o (AreFirst (s ++ more) (length s))
longer_if None s more h = tt
longer_if (Some t) s more h = longer_slots s more t.last.items t.before.items h
