-- The formulas of an entry, by their places.
use Rattle.std.proofs.Common.{◌≡◌, ◌+◌, ◌-◌, ◌<◌, ◌≤◌, ℕ, zero, suc, List, [], ◌∷◌, ◌++◌, map, drop, length, slice_get, Option, None, Some, refl, sym, ap, ◌∙◌, arith}
use Rattle.std.proofs.lemmas.List.{length-append, length-map}
use Rattle.std.proofs.lemmas.Option.{slice_get-map}
use Rattle.std.specs.Option.{option_map}
use Rattle.asl_term.specs.declared.syntax.Formula.{Formula}
use Rattle.asl_unify.specs.declared.subst.Pair.{Pair}
use Rattle.asl_unify.specs.Applied.{put_formula}
use Rattle.asl_unify.specs.Turns.{value_in}
use Rattle.asl_intend.specs.Bodies.{body_at, body_of, pushed_formula}
use Rattle.asl_intend.specs.Entries.{seen, seen_first}
use Rattle.asl_intend.specs.declared.entry.First.{First}
use Rattle.asl_intend.specs.declared.entry.StackEntry.{StackEntry}

-- what stands in two lists, one after the other

pub in_front : {A : Type 0} (both xs ys : List A) (k : ℕ) → both ≡ xs ++ ys → k < length xs → slice_get xs k ≡ slice_get both k
in_front both xs ys k e h = go xs k h ∙ sym (ap (λ l. slice_get l k) e) where
  go : (xs : List _) (k : ℕ) → k < length xs → slice_get xs k ≡ slice_get (xs ++ ys) k
  go [] k h = absurd (omega (arith, h))
  go (x ∷ xs) zero h = refl
  go (x ∷ xs) (suc k) h = go xs k (omega (arith, h))

pub in_back : {A : Type 0} (both xs ys : List A) (k : ℕ) → both ≡ xs ++ ys → length xs ≤ k → slice_get ys (k - length xs) ≡ slice_get both k
in_back both xs ys k e h = go xs k h ∙ sym (ap (λ l. slice_get l k) e) where
  go : (xs : List _) (k : ℕ) → length xs ≤ k → slice_get ys (k - length xs) ≡ slice_get (xs ++ ys) k
  go [] k h = let same : k - 0 ≡ k = omega arith in ap (slice_get ys) same
  go (x ∷ xs) zero h = absurd (omega (arith, h))
  go (x ∷ xs) (suc k) h =
      let same : suc k - length (x ∷ xs) ≡ k - length xs = omega arith in
      ap (slice_get ys) same ∙ go xs k (omega (arith, h))

module _ (log : List (List Pair)) (e : StackEntry) where
  abbrev put : Formula → Formula
  put = put_formula (value_in e.own (drop e.since log))

  abbrev with : Option First → List Formula
  with o = seen_first log o ++ map put e.body

  pub left_first : (f : First) (front back : List Formula) → e.body ≡ front ++ back → e.first ≡ Some f
      → length front + length back + 1 ≡ length (seen log e).body
  left_first f front back b p = sym (ap (λ o. length (with o)) p ∙ ap suc (length-map e.body put ∙ ap length b ∙ length-append front back) ∙ omega arith)

  pub left_kept : (front back : List Formula) → e.body ≡ front ++ back → e.first ≡ None → length front + length back ≡ length (seen log e).body
  left_kept front back b p = sym (ap (λ o. length (with o)) p ∙ length-map e.body put ∙ ap length b ∙ length-append front back)

  pub among_pushed : (j : ℕ) → e.first ≡ None → pushed_formula log e j ≡ slice_get (seen log e).body j
  among_pushed j p = sym (slice_get-map put e.body j) ∙ sym (ap (λ o. slice_get (with o) j) p)

  after : (f : First) (j : ℕ) → 0 < j → slice_get (with (Some f)) j ≡ slice_get (map put e.body) (j - 1)
  after f zero h = absurd (omega (arith, h))
  after f (suc j) h = let same : j ≡ suc j - 1 = omega arith in ap (slice_get (map put e.body)) same

  pub behind_first : (f : First) (j : ℕ) → 0 < j → e.first ≡ Some f → pushed_formula log e (j - 1) ≡ slice_get (seen log e).body j
  behind_first f j h p = sym (slice_get-map put e.body (j - 1)) ∙ sym (after f j h) ∙ sym (ap (λ o. slice_get (with o) j) p)

-- what stands at a place of a stack
pub body_shown : (log : List (List Pair)) (es : List StackEntry) (k : ℕ) (e : StackEntry) → slice_get es k ≡ Some e
    → body_at (map (seen log) es) k ≡ (seen log e).body
body_shown log es k e h = ap body_of (slice_get-map (seen log) es k) ∙ ap (λ o. body_of (option_map (seen log) o)) h

pub no_body : (log : List (List Pair)) (es : List StackEntry) (k : ℕ) → slice_get es k ≡ None → body_at (map (seen log) es) k ≡ []
no_body log es k h = ap body_of (slice_get-map (seen log) es k) ∙ ap (λ o. body_of (option_map (seen log) o)) h
