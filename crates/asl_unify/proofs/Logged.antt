-- An index of substitutions, as more are put into it and as a variable is looked for.
use Rattle.std.proofs.Common.{◌≡◌, ◌≢◌, ℕ, zero, suc, ltb, Bool, true, false, ◌≤◌, ◌<◌, ◌+◌, ◌-◌, List, [], ◌∷◌, ◌++◌, Option, Some, None, take, drop, length, get_or, set, cond, MatchOption, IfSome, refl, sym, ap, subst, ◌∙◌, arith}
use Rattle.std.specs.List.{slice_get}
use Rattle.std.proofs.Math.Seq.{drop-nil}
use borrow.Author.Tests.{ltb-true}
use Rattle.std.proofs.lemmas.List.{length-append, append_assoc}
use Rattle.std.proofs.lemmas.List.{get_or_read}
use Rattle.std.proofs.lemmas.Option.{slice_get_within}
use Rattle.asl_term.specs.Trees.{same_var as same}
use Rattle.asl_term.specs.declared.syntax.Var.{Var}
use Rattle.asl_term.specs.declared.syntax.Term.{Term}
use Rattle.asl_unify.specs.declared.subst.Pair.{Pair}
use Rattle.asl_unify.specs.declared.log.Index.{Index}
use Rattle.asl_unify.specs.Compare.{find}
use Rattle.asl_unify.specs.inner.Slots.{slot, in_slot, top, AreSlots, AreFirst}
use Rattle.asl_unify.specs.inner.Logs.{PassesBy, IsNext, all_pairs, same_numbers, numbers, start, HasPairs, HasFirst, HasAll}
use Rattle.asl_unify.proofs.Agree.{same-true}
use Rattle.asl_unify.proofs.Slotted.{top_in, top_within, put_slots, longer_slots}

-- ---- places in lists that stand one behind another

in_front : {A : Type 0} (xs ys : List A) (i : ℕ) (x : A) → slice_get xs i ≡ Some x → slice_get (xs ++ ys) i ≡ Some x
in_front [] ys i x e = absurd cc
in_front (y ∷ xs) ys zero x e = e
in_front (y ∷ xs) ys (suc i) x e = in_front xs ys i x e

behind : {A : Type 0} (xs ys : List A) (n i : ℕ) → n ≡ length xs + i → slice_get (xs ++ ys) n ≡ slice_get ys i
behind [] ys n i e = let same_place : n ≡ i = omega (arith, e) in ap (slice_get ys) same_place
behind (x ∷ xs) ys zero i e = absurd (omega (arith, e))
behind (x ∷ xs) ys (suc n) i e = behind xs ys n i (omega (arith, e))

get_front : (xs ys : List ℕ) (k : ℕ) → k < length xs → get_or (xs ++ ys) k 0 ≡ get_or xs k 0
get_front [] ys k lt = absurd (omega (arith, lt))
get_front (x ∷ xs) ys zero lt = refl
get_front (x ∷ xs) ys (suc k) lt = get_front xs ys k (omega (arith, lt))

get_behind : (xs ys : List ℕ) (n i : ℕ) → n ≡ length xs + i → get_or (xs ++ ys) n 0 ≡ get_or ys i 0
get_behind [] ys n i e = let same_place : n ≡ i = omega (arith, e) in ap (λ k. get_or ys k 0) same_place
get_behind (x ∷ xs) ys zero i e = absurd (omega (arith, e))
get_behind (x ∷ xs) ys (suc n) i e = get_behind xs ys n i (omega (arith, e))

same_length : (k : ℕ) (s : List Pair) → length (same_numbers k s) ≡ length s
same_length k [] = refl
same_length k (p ∷ s) = ap suc (same_length k s)

same_get : (k : ℕ) (s : List Pair) (i : ℕ) → i < length s → get_or (same_numbers k s) i 0 ≡ k
same_get k [] i lt = absurd (omega (arith, lt))
same_get k (p ∷ s) zero lt = refl
same_get k (p ∷ s) (suc i) lt = same_get k s i (omega (arith, lt))

-- ---- the number of a pair

pub numbers_length : (q : ℕ) (log : List (List Pair)) → length (numbers q log) ≡ length (all_pairs log)
numbers_length q [] = refl
numbers_length q (s ∷ log) =
    let a = length-append (same_numbers q s) (numbers (suc q) log) in
    let b = length-append s (all_pairs log) in
    let c = same_length q s in
    let d = numbers_length (suc q) log in
    omega (arith, a, b, c, d)

start_next : (r : List Pair) (log : List (List Pair)) (k : ℕ) → start (r ∷ log) (suc k) ≡ length r + start log k
start_next r log k = length-append r (all_pairs (take k log))

-- a pair of a substitution stands among all
pub placed : (log : List (List Pair)) (k i : ℕ) (s : List Pair) (p : Pair) → slice_get log k ≡ Some s → slice_get s i ≡ Some p
    → slice_get (all_pairs log) (start log k + i) ≡ Some p
placed [] k i s p e is = absurd cc
placed (r ∷ log) zero i s p e is =
    let one : r ≡ s = cc in
    let first : start (r ∷ log) 0 + i ≡ i = omega arith in
    ap (slice_get (all_pairs (r ∷ log))) first ∙ in_front r (all_pairs log) i p (ap (λ l. slice_get l i) one ∙ is)
placed (r ∷ log) (suc k) i s p e is =
    let n = start_next r log k in
    behind r (all_pairs log) (start (r ∷ log) (suc k) + i) (start log k + i) (omega (arith, n)) ∙ placed log k i s p e is

-- under the number of that substitution
pub numbered : (q : ℕ) (log : List (List Pair)) (k i : ℕ) (s : List Pair) → slice_get log k ≡ Some s → i < length s
    → get_or (numbers q log) (start log k + i) 0 ≡ q + k
numbered q [] k i s e lt = absurd cc
numbered q (r ∷ log) zero i s e lt =
    let one : r ≡ s = cc in
    let len = ap length one in
    let all = same_length q r in
    let first : start (r ∷ log) 0 + i ≡ i = omega arith in
    let none_more : q ≡ q + 0 = omega arith in
    ap (λ n. get_or (numbers q (r ∷ log)) n 0) first
    ∙ get_front (same_numbers q r) (numbers (suc q) log) i (omega (arith, lt, len, all))
    ∙ same_get q r i (omega (arith, lt, len))
    ∙ none_more
numbered q (r ∷ log) (suc k) i s e lt =
    let n = start_next r log k in
    let all = same_length q r in
    let more = numbered (suc q) log k i s e lt in
    let one_more : suc q + k ≡ q + suc k = omega arith in
    get_behind (same_numbers q r) (numbers (suc q) log) (start (r ∷ log) (suc k) + i) (start log k + i) (omega (arith, n, all)) ∙ more ∙ one_more

-- ---- numbers rise

length_all : (s : List Pair) (log : List (List Pair)) → length (all_pairs (s ∷ log)) ≡ length s + length (all_pairs log)
length_all s log = length-append s (all_pairs log)

least_in : (q : ℕ) (s : List Pair) (xs : List ℕ) (n : ℕ) → n < length s + length xs → ((i : ℕ) → i < length xs → q ≤ get_or xs i 0)
    → q ≤ get_or (same_numbers q s ++ xs) n 0
least_in q [] xs n lt h = h n (omega (arith, lt))
least_in q (p ∷ s) xs zero lt h = omega arith
least_in q (p ∷ s) xs (suc n) lt h = least_in q s xs n (omega (arith, lt)) h

at_least : (q : ℕ) (log : List (List Pair)) (n : ℕ) → n < length (all_pairs log) → q ≤ get_or (numbers q log) n 0
at_least q [] n lt = absurd (omega (arith, lt))
at_least q (s ∷ log) n lt =
    let all = length_all s log in
    let more = numbers_length (suc q) log in
    least_in q s (numbers (suc q) log) n (omega (arith, lt, all, more))
    (λ i inside. let m = at_least (suc q) log i (omega (arith, inside, more)) in omega (arith, m))

most_in : (q m : ℕ) (s : List Pair) (xs : List ℕ) (n : ℕ) → n < length s + length xs → q < m → ((i : ℕ) → i < length xs → get_or xs i 0 < m)
    → get_or (same_numbers q s ++ xs) n 0 < m
most_in q m [] xs n lt le h = h n (omega (arith, lt))
most_in q m (p ∷ s) xs zero lt le h = le
most_in q m (p ∷ s) xs (suc n) lt le h = most_in q m s xs n (omega (arith, lt)) le h

pub at_most : (q : ℕ) (log : List (List Pair)) (n : ℕ) → n < length (all_pairs log) → get_or (numbers q log) n 0 < q + length log
at_most q [] n lt = absurd (omega (arith, lt))
at_most q (s ∷ log) n lt =
    let all = length_all s log in
    let more = numbers_length (suc q) log in
    most_in q (q + suc (length log)) s (numbers (suc q) log) n (omega (arith, lt, all, more)) (omega arith)
    (λ i inside. let m = at_most (suc q) log i (omega (arith, inside, more)) in omega (arith, m))

rise_in : (q : ℕ) (s : List Pair) (xs : List ℕ) (m n : ℕ) → m ≤ n → n < length s + length xs → ((i : ℕ) → i < length xs → q ≤ get_or xs i 0)
    → ((i j : ℕ) → i ≤ j → j < length xs → get_or xs i 0 ≤ get_or xs j 0) → get_or (same_numbers q s ++ xs) m 0 ≤ get_or (same_numbers q s ++ xs) n 0
rise_in q [] xs m n le lt h up = up m n le (omega (arith, lt))
rise_in q (p ∷ s) xs zero n le lt h up = least_in q (p ∷ s) xs n lt h
rise_in q (p ∷ s) xs (suc m) zero le lt h up = absurd (omega (arith, le))
rise_in q (p ∷ s) xs (suc m) (suc n) le lt h up = rise_in q s xs m n (omega (arith, le)) (omega (arith, lt)) h up

pub rise : (q : ℕ) (log : List (List Pair)) (m n : ℕ) → m ≤ n → n < length (all_pairs log) → get_or (numbers q log) m 0 ≤ get_or (numbers q log) n 0
rise q [] m n le lt = absurd (omega (arith, lt))
rise q (s ∷ log) m n le lt =
    let all = length_all s log in
    let more = numbers_length (suc q) log in
    rise_in q s (numbers (suc q) log) m n le (omega (arith, lt, all, more))
    (λ i inside. let a = at_least (suc q) log i (omega (arith, inside, more)) in omega (arith, a))
    (λ i j below inside. rise (suc q) log i j below (omega (arith, inside, more)))

-- ---- a variable is looked for

-- a pair in a slot stands before the place behind the last one of it
top_above : (f : Var → ℕ) (j : ℕ) (s : List Pair) (m n : ℕ) (p : Pair) → slice_get s n ≡ Some p → f p.var ≡ j → n < m → n < top f j s m
top_above f j s zero n p is e lt = absurd (omega (arith, lt))
top_above f j s (suc m) n p is e lt = go (λ below. top_above f j s m n p is e below) (in_slot f j (slice_get s m)) refl where
  here : in_slot f j (Some p) ≡ true
  here = grind (arith, e)

  go : (n < m → n < top f j s m) → (b : Bool) → in_slot f j (slice_get s m) ≡ b → n < cond b (suc m) (top f j s m)
  go before true d = omega (arith, lt)
  go before false d =
      let other : n ≢ m = λ g. (let h : in_slot f j (Some p) ≡ false = ap (in_slot f j) (sym is ∙ ap (slice_get s) g) ∙ d in let both = sym here ∙ h in absurd cc) in
      before (omega (arith, lt, other))

-- a bound variable has a pair
bound_pair : (s : List Pair) (x : Var) (t : Term) → find s x ≡ Some t → (i : ℕ) × (p : Pair) × (slice_get s i ≡ Some p) × (i < length s) × (p.var ≡ x)
bound_pair [] x t e = absurd cc
bound_pair (p ∷ s) x t e = go (λ h. bound_pair s x t h) (same p.var x) refl e where
  go : (find s x ≡ Some t → (i : ℕ) × (q : Pair) × (slice_get s i ≡ Some q) × (i < length s) × (q.var ≡ x))
      → (b : Bool) → same p.var x ≡ b → cond b (Some p.term) (find s x) ≡ Some t
      → (i : ℕ) × (q : Pair) × (slice_get (p ∷ s) i ≡ Some q) × (i < suc (length s)) × (q.var ≡ x)
  go more true d h = (0, p, refl, omega arith, same-true p.var x d)
  go more false d h = let (i, q, is, lt, v) = more h in (suc i, q, is, omega (arith, lt), v)

-- all pairs of a slot from a place on have a number that was found, or a higher one
pub record IsLeft (f : Var → ℕ) (log : List (List Pair)) (j from found at : ℕ) : Type 0 where
  pub behind : (n : ℕ) (p : Pair) → at ≤ n → slice_get (all_pairs log) n ≡ Some p → f p.var ≡ j → found ≤ get_or (numbers 0 log) n 0
  pub low : from ≤ found
  pub high : found < length log
  pub within : at ≤ length (all_pairs log)
  pub same_slot : (k : ℕ) (p : Pair) → at ≡ suc k → slice_get (all_pairs log) k ≡ Some p → f p.var ≡ j

module _ (f : Var → ℕ) (log : List (List Pair)) (j from : ℕ) where
  pub left_first : (found at : ℕ) → from < length log → found ≡ length log - 1 → at ≡ top f j (all_pairs log) (length (all_pairs log)) → IsLeft f log j from found at
  left_first found at lt last e = record {
    behind = λ n p le is here. absurd (
        let inside = slice_get_within (all_pairs log) n p is in
        let above = top_above f j (all_pairs log) (length (all_pairs log)) n p is here inside in
        omega (arith, le, e, above));
    low = omega (arith, lt, last);
    high = omega (arith, lt, last);
    within = let w = top_within f j (all_pairs log) (length (all_pairs log)) in omega (arith, e, w);
    same_slot = λ k p more is. top_in f j (all_pairs log) (length (all_pairs log)) k p (sym e ∙ more) is;
  }

  pub left_next : (found at k number next : ℕ) (p : Pair) → IsLeft f log j from found at → at ≡ suc k → slice_get (all_pairs log) k ≡ Some p
      → number ≡ get_or (numbers 0 log) k 0 → from ≤ number → next ≡ top f (f p.var) (all_pairs log) k → IsLeft f log j from number next
  left_next found at k number next p l e is num le n = record {
    behind = λ m q from_next at_q here. go m q from_next at_q here (ltb m k) refl;
    low = le;
    high = let inside = l.within in let most = at_most 0 log k (omega (arith, inside, e)) in omega (arith, most, num);
    within = let w = top_within f (f p.var) (all_pairs log) k in let inside = l.within in omega (arith, w, n, inside, e);
    same_slot = λ i q more at_q. top_in f (f p.var) (all_pairs log) k i q (sym n ∙ more) at_q ∙ l.same_slot k p e is;
  } where
    go : (m : ℕ) (q : Pair) → next ≤ m → slice_get (all_pairs log) m ≡ Some q → f q.var ≡ j → (b : Bool) → ltb m k ≡ b → number ≤ get_or (numbers 0 log) m 0
    go m q from_next at_q here true d = absurd (
        let lt : m < k = ltb-true m k d in
        let above = top_above f (f p.var) (all_pairs log) k m q at_q (here ∙ sym (l.same_slot k p e is)) lt in
        omega (arith, above, n, from_next))
    go m q from_next at_q here false d =
        let le : k ≤ m = grind (arith, d) in
        let inside = slice_get_within (all_pairs log) m q at_q in
        let up = rise 0 log k m le inside in
        omega (arith, up, num)

  -- the place of a pair that binds a variable of the slot
  bound_at : (x : Var) (k : ℕ) (s : List Pair) (t : Term) → f x ≡ j → slice_get log k ≡ Some s → find s x ≡ Some t
      → (n : ℕ) × (p : Pair) × (slice_get (all_pairs log) n ≡ Some p) × (f p.var ≡ j) × (get_or (numbers 0 log) n 0 ≡ k)
  bound_at x k s t e is h =
      let (i, p, at_p, lt, v) = bound_pair s x t h in
      let from_none : 0 + k ≡ k = omega arith in
      (start log k + i, p, placed log k i s p is at_p, ap f v ∙ e, numbered 0 log k i s is lt ∙ from_none)

  -- no pair of the slot is left
  pub left_done : (found at : ℕ) (x : Var) → f x ≡ j → IsLeft f log j from found at → at ≡ 0 → PassesBy log x from found
  left_done found at x e l none k s low high is = go (find s x) refl where
    go : (o : Option Term) → find s x ≡ o → o ≡ None
    go None h = refl
    go (Some t) h =
        let (n, p, at_p, here, num) = bound_at x k s t e is h in
        let b = l.behind n p (omega (arith, none)) at_p here in
        absurd (omega (arith, b, num, high))

  -- the next pair of the slot is of a substitution before the first that counts
  pub left_past : (found at k0 number : ℕ) (x : Var) → f x ≡ j → IsLeft f log j from found at → at ≡ suc k0 → number ≡ get_or (numbers 0 log) k0 0
      → number < from → PassesBy log x from found
  left_past found at k0 number x e l more is_number before k s low high is = go (find s x) refl where
    go : (o : Option Term) → find s x ≡ o → o ≡ None
    go None h = refl
    go (Some t) h =
        let (n, p, at_p, here, num) = bound_at x k s t e is h in
        absurd (side n p at_p here num (ltb n at) refl) where
          side : (n : ℕ) (p : Pair) → slice_get (all_pairs log) n ≡ Some p → f p.var ≡ j → get_or (numbers 0 log) n 0 ≡ k → (b : Bool) → ltb n at ≡ b → ⊥
          side n p at_p here num true d =
              let lt : n < at = ltb-true n at d in
              let inside = l.within in
              let up = rise 0 log n k0 (omega (arith, lt, more)) (omega (arith, inside, more)) in
              omega (arith, up, num, is_number, before, low)
          side n p at_p here num false d =
              let le : at ≤ n = grind (arith, d) in
              let b = l.behind n p le at_p here in
              omega (arith, b, num, high)

-- ---- what the index says

take_all : {A : Type 0} (xs : List A) → take (length xs) xs ≡ xs
take_all [] = refl
take_all (x ∷ xs) = ap (λ ys. x ∷ ys) (take_all xs)

all_numbers : (log : List (List Pair)) (of : List ℕ) → of ≡ take (length (all_pairs log)) (numbers 0 log) → of ≡ numbers 0 log
all_numbers log of e = e ∙ ap (λ m. take m (numbers 0 log)) (sym (numbers_length 0 log)) ∙ take_all (numbers 0 log)

-- there is a number for each pair
pub numbers_many : (log : List (List Pair)) (of : List ℕ) → of ≡ take (length (all_pairs log)) (numbers 0 log) → length of ≡ length (all_pairs log)
numbers_many log of e = ap length (all_numbers log of e) ∙ numbers_length 0 log

pub number_at : (log : List (List Pair)) (of : List ℕ) (k number : ℕ) → of ≡ take (length (all_pairs log)) (numbers 0 log) → k < length (all_pairs log)
    → number ≡ get_or of k number → number ≡ get_or (numbers 0 log) k 0
number_at log of k number e lt got =
    let many = numbers_many log of e in
    get_or_read of k number (omega (arith, lt, many)) got 0 ∙ ap (λ xs. get_or xs k 0) (all_numbers log of e)

-- the search for a variable begins at the last pair of its slot
pub slot_top : (s : List Pair) (x : Var) (count place at : ℕ) (last before : List ℕ) → AreSlots s (length s) last before → count ≡ length last
    → place ≡ slot count x → place < count → at ≡ get_or last place at → at ≡ top (slot (length last)) (slot (length last) x) s (length s)
slot_top s x count place at last before a len is lt got =
    let here : place ≡ slot (length last) x = is ∙ ap (λ n. slot n x) len in
    let inside : place < length last = subst (λ n. place < n) len lt in
    get_or_read last place at inside got 0 ∙ a.1.tops place inside ∙ ap (λ j. top (slot (length last)) j s (length s)) here

pub pair_there : (s : List Pair) (k : ℕ) → k < length s → (p : Pair) × (slice_get s k ≡ Some p)
pair_there [] k lt = absurd (omega (arith, lt))
pair_there (p ∷ s) zero lt = (p, refl)
pair_there (p ∷ s) (suc k) lt = pair_there s k (omega (arith, lt))

-- ---- the substitutions from a number on

past : (log : List (List Pair)) (from m k : ℕ) → k ≡ from + m → drop m (drop from log) ≡ drop k log
past log zero m k e = let same_place : m ≡ k = omega (arith, e) in ap (λ n. drop n log) same_place
past [] (suc from) m k e = drop-nil m ∙ sym (drop-nil k)
past (s ∷ log) (suc from) m zero e = absurd (omega (arith, e))
past (s ∷ log) (suc from) m (suc k) e = past log from m k (omega (arith, e))

got_past : (log : List (List Pair)) (from k n : ℕ) (s : List Pair) → n ≡ from + k → slice_get (drop from log) k ≡ Some s → slice_get log n ≡ Some s
got_past log zero k n s e is = let same_place : n ≡ k = omega (arith, e) in ap (slice_get log) same_place ∙ is
got_past [] (suc from) k n s e is = absurd cc
got_past (r ∷ log) (suc from) k zero s e is = absurd (omega (arith, e))
got_past (r ∷ log) (suc from) k (suc n) s e is = got_past log from k n s (omega (arith, e)) is

drop_some : (log : List (List Pair)) (k : ℕ) → k < length log → drop k log ≡ [] → ⊥
drop_some [] k lt e = omega (arith, lt)
drop_some (s ∷ log) zero lt e = absurd cc
drop_some (s ∷ log) (suc k) lt e = drop_some log k (omega (arith, lt)) e

-- what is read at a number is the next that may bind the variable
pub next_at : {R : Type 0} (whole : R → List (List Pair)) (log : List (List Pair)) (x : Var) (from k : ℕ) (o : Option R) → from ≤ k → k < length log
    → PassesBy log x from k → MatchOption o (drop k log ≡ []) (λ r. drop k log ≡ whole r)
    → MatchOption o (drop from log ≡ []) (λ r. IsNext (drop from log) x (whole r))
next_at whole log x from k None le lt free h = absurd (drop_some log k lt h)
next_at whole log x from k (Some r) le lt free h = record {
  skipped = k - from;
  parts = past log from (k - from) k (omega (arith, le)) ∙ h;
  free = λ n s low high is. free (from + n) s (omega arith) (omega (arith, high, le)) (got_past log from n (from + n) s refl is);
}

-- ---- pairs are put in

take_more : (xs : List ℕ) (n k : ℕ) → n < length xs → get_or xs n 0 ≡ k → take n xs ++ k ∷ [] ≡ take (suc n) xs
take_more [] n k lt e = absurd (omega (arith, lt))
take_more (x ∷ xs) zero k lt e = ap (λ y. y ∷ []) (sym e)
take_more (x ∷ xs) (suc n) k lt e = ap (λ ys. x ∷ ys) (take_more xs n k (omega (arith, lt)) e)

take_length : (xs : List ℕ) (n : ℕ) → n ≤ length xs → length (take n xs) ≡ n
take_length xs zero le = refl
take_length [] (suc n) le = absurd (omega (arith, le))
take_length (x ∷ xs) (suc n) le = ap suc (take_length xs n (omega (arith, le)))

take_joined : {A : Type 0} (xs ys : List A) → take (length xs) (xs ++ ys) ≡ xs
take_joined [] ys = refl
take_joined (x ∷ xs) ys = ap (λ zs. x ∷ zs) (take_joined xs ys)

pairs_joined : (log more : List (List Pair)) → all_pairs (log ++ more) ≡ all_pairs log ++ all_pairs more
pairs_joined [] more = refl
pairs_joined (s ∷ log) more = ap (λ z. s ++ z) (pairs_joined log more) ∙ sym (append_assoc s (all_pairs log) (all_pairs more))

numbers_joined : (q : ℕ) (log more : List (List Pair)) → numbers q (log ++ more) ≡ numbers q log ++ numbers (q + length log) more
numbers_joined q [] more = ap (λ k. numbers k more) (omega arith)
numbers_joined q (s ∷ log) more =
    let moved : suc q + length log ≡ q + suc (length log) = omega arith in
    ap (λ z. same_numbers q s ++ z) (numbers_joined (suc q) log more ∙ ap (λ k. numbers (suc q) log ++ numbers k more) moved)
    ∙ sym (append_assoc (same_numbers q s) (numbers (suc q) log) (numbers (q + suc (length log)) more))

-- how many pairs are before a substitution, and before the next
start_after : (log : List (List Pair)) (k : ℕ) (s : List Pair) → slice_get log k ≡ Some s → start log (k + 1) ≡ start log k + length s
start_after [] k s e = absurd cc
start_after (r ∷ log) zero s e =
    let one : r ≡ s = cc in
    let a = length-append r (all_pairs (take 0 log)) in
    let b = ap length one in
    omega (arith, a, b)
start_after (r ∷ log) (suc k) s e =
    let a = start_next r log k in
    let b = start_next r log (k + 1) in
    let c = start_after log k s e in
    let moved : suc k + 1 ≡ suc (k + 1) = omega arith in
    let d = ap (start (r ∷ log)) moved in
    omega (arith, a, b, c, d)

place_inside : (log : List (List Pair)) (k i : ℕ) (s : List Pair) → slice_get log k ≡ Some s → i < length s → start log k + i < length (all_pairs log)
place_inside [] k i s e lt = absurd cc
place_inside (r ∷ log) zero i s e lt =
    let one : r ≡ s = cc in
    let a = length_all r log in
    let b = ap length one in
    omega (arith, a, b, lt)
place_inside (r ∷ log) (suc k) i s e lt =
    let a = start_next r log k in
    let b = length_all r log in
    let c = place_inside log k i s e lt in
    omega (arith, a, b, c)

-- one pair more
pub put_pair : (log : List (List Pair)) (k i place : ℕ) (s : List Pair) (p : Pair) (last before more_last more_before of more_of : List ℕ)
    → slice_get log k ≡ Some s → slice_get s i ≡ Some p → i < length s → place ≡ slot (length last) p.var → place < length last
    → more_last ≡ set last place (length more_of) → more_before ≡ before ++ get_or last place 0 ∷ [] → more_of ≡ of ++ k ∷ []
    → AreSlots (all_pairs log) (start log k + i) last before × (of ≡ take (start log k + i) (numbers 0 log))
    → AreSlots (all_pairs log) (start log k + (i + 1)) more_last more_before × (more_of ≡ take (start log k + (i + 1)) (numbers 0 log))
put_pair log k i place s p last before more_last more_before of more_of is at_p lt at within el eb eo (slots, nums) =
    let n = start log k + i in
    let inside = place_inside log k i s is lt in
    let len = numbers_length 0 log in
    let from_none : 0 + k ≡ k = omega arith in
    let num : get_or (numbers 0 log) n 0 ≡ k = numbered 0 log k i s is lt ∙ from_none in
    let one_more : suc n ≡ n + 1 = omega arith in
    let of_now : more_of ≡ take (n + 1) (numbers 0 log) =
    eo ∙ ap (λ z. z ++ k ∷ []) nums ∙ take_more (numbers 0 log) n k (omega (arith, inside, len)) num ∙ ap (λ m. take m (numbers 0 log)) one_more in
    let many : length more_of ≡ n + 1 = ap length of_now ∙ take_length (numbers 0 log) (n + 1) (omega (arith, inside, len)) in
    let next : n + 1 ≡ start log k + (i + 1) = omega arith in
    let put = put_slots (all_pairs log) n place p last before more_last more_before (placed log k i s p is at_p) at within
    (el ∙ ap (set last place) many) eb slots in (
      subst (λ m. AreSlots (all_pairs log) m more_last more_before) next put,
      of_now ∙ ap (λ m. take m (numbers 0 log)) next,
    )

-- a whole substitution
pub put_whole : (log : List (List Pair)) (k i : ℕ) (s : List Pair) (t : Index) → slice_get log k ≡ Some s → i ≡ length s → HasFirst log k i t
    → HasFirst log (k + 1) 0 t
put_whole log k i s t is all h =
    let a = start_after log k s is in
    let same_place : start log k + i ≡ start log (k + 1) + 0 = omega (arith, a, all) in
    subst (λ n. HasPairs log n t) same_place h

-- one more substitution, none of whose pairs is in the index yet
pub longer : (log : List (List Pair)) (s : List Pair) (t : Index) → HasAll log t → HasFirst (log ++ s ∷ []) (length log) 0 t
longer log s t h =
    let n = length (all_pairs log) in
    let joined = pairs_joined log (s ∷ []) in
    let from : n ≡ start (log ++ s ∷ []) (length log) + 0 =
    let a = ap (λ l. length (all_pairs l)) (take_joined log (s ∷ [])) in omega (arith, a) in
    let slots : AreFirst (all_pairs (log ++ s ∷ [])) n t.slots =
    subst (λ l. AreFirst l n t.slots) (sym joined) (longer_slots (all_pairs log) (all_pairs (s ∷ [])) t.slots.last.items t.slots.before.items h.0) in
    let len = numbers_length 0 log in
    let nums : t.of.items ≡ take n (numbers 0 (log ++ s ∷ [])) =
    h.1 ∙ ap (λ m. take m (numbers 0 log)) (sym len) ∙ take_all (numbers 0 log)
    ∙ sym (take_joined (numbers 0 log) (numbers (0 + length log) (s ∷ [])))
    ∙ ap (λ l. take (length (numbers 0 log)) l) (sym (numbers_joined 0 log (s ∷ [])))
    ∙ ap (λ m. take m (numbers 0 (log ++ s ∷ []))) len in
    subst (λ m. HasPairs (log ++ s ∷ []) m t) from (slots, nums)

pub longer_if : (o : Option Index) (log : List (List Pair)) (s : List Pair) → IfSome o (HasAll log) → IfSome o (HasFirst (log ++ s ∷ []) (length log) 0)
longer_if None log s h = tt
longer_if (Some t) log s h = longer log s t h
