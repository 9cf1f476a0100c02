-- Boxes of which one is changed.
use Rattle.std.proofs.Common.{arith, ◌≡◌, ◌≢◌, ◌<◌, ◌≤◌, ◌+◌, ◌-◌, ℕ, zero, suc, List, [], ◌∷◌, ◌++◌, drop, length, slice_get, slice_set, OnOk, OnErr, IfSome, Some, Result, Ok, Err, ◌⊎◌, inl, inr, length-set, lit≤, refl, sym, ap, subst, ◌∙◌}
use Rattle.std.specs.List.{AllByRecursion}
use Rattle.asl_term.specs.Spare.{WithSpare}
use Rattle.mas_mind.specs.declared.mind.Message.{Message}
use Rattle.mas_mind.specs.Minds.{IsAgent}
use Rattle.mas_board.specs.Posts.{AreEmpty, IsPost, IsTo, OthersStay, list_in, messages, spare, spare_in}

abbrev Box : Type 0
Box = WithSpare Message

-- ---- what comes with a result

pub on_ok : {T E P Q : Type 0} (r : Result T E) → (P → Q) → OnOk r P → OnOk r Q
on_ok (Ok x) f p = f p
on_ok (Err e) f p = tt

pub on_err : {T E P Q : Type 0} (r : Result T E) → (P → Q) → OnErr r P → OnErr r Q
on_err (Ok x) f p = tt
on_err (Err e) f p = f p

pub push_all : {X : Type 0} (P : X → Type 0) (xs : List X) (x : X) → AllByRecursion P xs → P x → AllByRecursion P (xs ++ x ∷ [])
push_all P [] x a h = (h, tt)
push_all P (y ∷ ys) x a h = (a.0, push_all P ys x a.1 h)

put_all : {T E : Type 0} (P : Message → Type 0) (r : Result T E) (old new : List Message) (m : Message) → OnOk r (new ≡ old ++ m ∷ []) → OnErr r (new ≡ old) → AllByRecursion P old → P m → AllByRecursion P new
put_all P (Ok x) old new m e f a h = subst (AllByRecursion P) (sym e) (push_all P old m a h)
put_all P (Err x) old new m e f a h = subst (AllByRecursion P) (sym f) a

pub first_of_all : {X : Type 0} (P : X → Type 0) (xs : List X) → AllByRecursion P xs → IfSome (slice_get xs 0) P
first_of_all P [] a = tt
first_of_all P (x ∷ xs) a = a.0

rest_all : {X : Type 0} (P : X → Type 0) (xs : List X) → AllByRecursion P xs → AllByRecursion P (drop 1 xs)
rest_all P [] a = tt
rest_all P (x ∷ xs) a = a.1

-- a place that becomes free, or none
pub never_less : {X : Type 0} (xs : List X) (old new : ℕ) → (0 < length xs → new ≡ old + 1) → (length xs ≤ 0 → new ≡ old) → old ≤ new
never_less [] old new f g = omega (arith, g (lit≤ tt))
never_less (x ∷ xs) old new f g = let h : 0 < length (x ∷ xs) = omega arith in omega (arith, f h)

-- ---- one box that is written

set_same : {X : Type 0} (xs : List X) (i : ℕ) (v : X) → i < length xs → slice_get (slice_set xs i v) i ≡ Some v
set_same [] i v h = absurd (omega (arith, h))
set_same (x ∷ xs) zero v h = refl
set_same (x ∷ xs) (suc i) v h = set_same xs i v (omega (arith, h))

set_other : {X : Type 0} (xs : List X) (i k : ℕ) (v : X) → k ≢ i → slice_get (slice_set xs i v) k ≡ slice_get xs k
set_other [] i k v n = refl
set_other (x ∷ xs) zero zero v n = absurd (n refl)
set_other (x ∷ xs) zero (suc k) v n = refl
set_other (x ∷ xs) (suc i) zero v n = refl
set_other (x ∷ xs) (suc i) (suc k) v n = set_other xs i k v (λ e. n (ap suc e))

same_or_not : (i k : ℕ) → (k ≡ i) ⊎ (k ≢ i)
same_or_not zero zero = inl refl
same_or_not zero (suc k) = inr (λ e. omega (arith, e))
same_or_not (suc i) zero = inr (λ e. omega (arith, e))
same_or_not (suc i) (suc k) = elim (same_or_not i k) [ inl e ↦ inl (ap suc e) | inr n ↦ inr (λ e. n (omega (arith, e))) ]

abbrev For : ℕ → List Message → Type 0
For a ms = AllByRecursion (IsTo a) ms

moved : (a b : ℕ) (ms ns : List Message) → a ≡ b → ms ≡ ns → For a ms → For b ns
moved a b ms ns p r h =
    let A : ℕ → Type 0 = λ x. For x ms in
    subst (For b) r (subst A p h)

module _ (boxes self : List Box) (is : boxes ≡ self) (a : ℕ) (agent : IsAgent (length self) a) (old new : Box) (at : slice_get boxes (a - 1) ≡ Some old) where
  abbrev written : List Box
  written = slice_set boxes (a - 1) new

  within : a - 1 < length boxes
  within = omega (arith, agent.from_one, agent.named, ap length is)

  there : slice_get written (a - 1) ≡ Some new
  there = set_same boxes (a - 1) new within

  up : (a - 1) + 1 ≡ a
  up = omega (arith, agent.from_one)

  pub was_list : messages self a ≡ old.list
  was_list = ap (λ bs. messages bs a) (sym is) ∙ ap list_in at

  pub was_spare : spare self a ≡ old.spare
  was_spare = ap (λ bs. spare bs a) (sym is) ∙ ap spare_in at

  pub now_list : messages written a ≡ new.list
  now_list = ap list_in there

  pub now_spare : spare written a ≡ new.spare
  now_spare = ap spare_in there

  pub others : OthersStay a self written
  others = record {
    number = length-set boxes (a - 1) new ∙ ap length is;
    stay = λ k n. set_other boxes (a - 1) k new n ∙ ap (λ bs. slice_get bs k) is;
  }

  -- what was in the box
  pub were : IsPost boxes → For a old.list
  were p = moved ((a - 1) + 1) a (list_in (slice_get boxes (a - 1))) old.list up (ap list_in at) (p.addressed (a - 1))

  pub are : IsPost boxes → For a new.list → IsPost written
  are p h = record {
    addressed = λ k. elim (same_or_not (a - 1) k) [
      | inl e ↦ moved a (k + 1) new.list (list_in (slice_get written k)) (omega (arith, agent.from_one, e))
          (ap list_in (sym there) ∙ ap (λ i. list_in (slice_get written i)) (sym e)) h
      | inr n ↦ moved (k + 1) (k + 1) (list_in (slice_get boxes k)) (list_in (slice_get written k)) refl
          (ap list_in (sym (set_other boxes (a - 1) k new n))) (p.addressed k)
    ];
  }

  -- one more message
  pub put : {T E : Type 0} (r : Result T E) (m : Message) → OnOk r (new.list ≡ old.list ++ m ∷ []) → OnErr r (new.list ≡ old.list) → IsPost boxes → m.to ≡ a → IsPost written
  put r m ok err p to = are p (put_all (IsTo a) r old.list new.list m ok err (were p) to)

  pub grows : old.spare ≤ new.spare → spare self a ≤ spare written a
  grows h = subst (λ n. n ≤ spare written a) (sym was_spare) (subst (λ n. old.spare ≤ n) (sym now_spare) h)

  -- the same messages
  pub same : new.list ≡ old.list → IsPost boxes → IsPost written
  same e p = are p (subst (For a) (sym e) (were p))

  -- without the oldest
  pub taken : new.list ≡ drop 1 old.list → IsPost boxes → IsPost written
  taken e p = are p (subst (For a) (sym e) (rest_all (IsTo a) old.list (were p)))

  -- the oldest
  pub oldest : IsPost boxes → IfSome (slice_get old.list 0) (IsTo a)
  oldest p = first_of_all (IsTo a) old.list (were p)

pub empty_push : (boxes : List Box) (b : Box) → AreEmpty boxes → b.list ≡ [] → AreEmpty (boxes ++ b ∷ [])
empty_push [] b e h zero = h
empty_push [] b e h (suc k) = refl
empty_push (c ∷ cs) b e h zero = e zero
empty_push (c ∷ cs) b e h (suc k) = empty_push cs b (λ i. e (suc i)) h k
