-- Facts that are taken out of a list from its end to its start.
use Rattle.std.proofs.Common.{arith, ◌≡◌, ◌<◌, ◌≤◌, ◌+◌, ◌-◌, ℕ, Bool, true, false, not, cond, if◌then◌else◌, List, [], ◌∷◌, ◌++◌, take, drop, remove, length, get_or, slice_get, Some, sym, ap, ◌∙◌, append_assoc}
use Rattle.std.specs.Option.{ForSome}
use Rattle.std.proofs.lemmas.List.{drop_more, take_more, length-append, length-take-le, get_or-append_right, get_or-take}
use Rattle.std.proofs.lemmas.List.Edits.{remove-append_right}
use Rattle.std.proofs.lemmas.Option.{slice_get-get_or}
use Rattle.asl_term.specs.declared.syntax.LiteralOf.{LiteralOf}
use Rattle.asl_term.specs.declared.syntax.Term.{Term}
use Rattle.mas_world.specs.Facts.{is_fact, without}

abbrev Facts : Type 0
Facts = List (LiteralOf Term)

blank : LiteralOf Term
blank = record { neg = false; functor = []; args = []; annots = [] }

goes_or_stays : (b : Bool) (x : LiteralOf Term) (new front w t : Facts) → new ≡ (if b then front ++ (w ++ t) else front ++ (x ∷ (w ++ t))) → new ≡ front ++ (cond (not b) (x ∷ w) w ++ t)
goes_or_stays true x new front w t e = e
goes_or_stays false x new front w t e = e

module _ (dels old : Facts) (n : ℕ) (within : n ≤ length old) where
  -- what stands behind the place k when the loop has come to it
  abbrev pub behind : ℕ → Facts
  behind k = without dels (drop k (take n old)) ++ drop n old

  module _ (j : ℕ) (before : j < n) (f : Facts) (is : f ≡ take (j + 1) old ++ behind (j + 1)) where
    abbrev x : LiteralOf Term
    x = get_or old j blank

    whole : f ≡ take j old ++ (x ∷ behind (j + 1))
    whole = is ∙ ap (λ z. z ++ behind (j + 1)) (take_more old j blank (omega arith)) ∙ append_assoc (take j old) (x ∷ []) (behind (j + 1))

    long : length (take j old) ≡ j
    long = length-take-le j old (omega arith)

    self : j - j ≡ 0
    self = omega arith

    read : get_or f j blank ≡ x
    read = ap (λ z. get_or z j blank) whole ∙ get_or-append_right (take j old) (x ∷ behind (j + 1)) j j blank long (omega arith) ∙ ap (λ k. get_or (x ∷ behind (j + 1)) k blank) self

    gone : remove f j ≡ take j old ++ behind (j + 1)
    gone = ap (λ z. remove z j) whole ∙ remove-append_right (take j old) (x ∷ behind (j + 1)) j j long (omega arith) ∙ ap (λ k. take j old ++ remove (x ∷ behind (j + 1)) k) self

    there : slice_get f j ≡ Some x
    there = slice_get-get_or f j blank (omega (arith, ap length whole, length-append (take j old) (x ∷ behind (j + 1)), long)) ∙ ap Some read

    left : drop j (take n old) ≡ x ∷ drop (j + 1) (take n old)
    left = drop_more (take n old) j blank (omega (arith, length-take-le n old within)) ∙ ap (λ y. y ∷ drop (j + 1) (take n old)) (get_or-take n old j blank before)

    -- one step of the loop
    pub back : (new : Facts) → ForSome (slice_get f j) (λ y. new ≡ if is_fact dels y then remove f j else f) → new ≡ take j old ++ behind j
    back new made =
        goes_or_stays (is_fact dels x) x new (take j old) (without dels (drop (j + 1) (take n old))) (drop n old)
        (made x there ∙ (λ i. if is_fact dels x then gone i else whole i))
        ∙ ap (λ ys. take j old ++ (without dels ys ++ drop n old)) (sym left)
