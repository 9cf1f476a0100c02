-- The first match in a list, one place after another.
use Rattle.std.proofs.Common.{◌≡◌, ◌∙◌, ℕ, ◌+◌, ◌≤◌, ◌<◌, List, [], ◌∷◌, ◌++◌, length, drop, get_or}
use Rattle.std.proofs.Common.{slice_get, Option, None, Some, Result, Ok, Err, is_some, true, false, refl, ap, sym, arith, ◌⊎◌, inl, inr}
use Rattle.std.proofs.lemmas.List.{at_drop_more}
use Rattle.std.proofs.lemmas.Option.{slice_get_cases}
use Rattle.std.specs.Option.{option_map}
use Rattle.std.specs.Result.{IfOk}
use Rattle.asl_term.specs.declared.syntax.LiteralOf.{LiteralOf}
use Rattle.asl_term.specs.declared.syntax.Term.{Term}
use Rattle.asl_unify.specs.declared.subst.Pair.{Pair}
use Rattle.asl_intend.specs.declared.entry.Means.{Means}
use Rattle.asl_intend.specs.Stacks.{trigger_at, match_at, goal_match}
use Rattle.asl_goals.specs.Goals.{or_else, first_of, stack_match}

nested : {B : Type 0} (o p q : Option B) → or_else o (or_else p q) ≡ or_else (or_else o p) q
nested None p q = refl
nested (Some x) p q = refl

module _ {A B : Type 0} (f : A → Option B) where
  -- in one list, and then in another
  pub in_both : (xs ys : List A) → first_of f (xs ++ ys) ≡ or_else (first_of f xs) (first_of f ys)
  in_both [] ys = refl
  in_both (x ∷ xs) ys = ap (or_else (f x)) (in_both xs ys) ∙ nested (f x) (first_of f xs) (first_of f ys)

  next : (xs : List A) (k : ℕ) (d x : A) → k < length xs → x ≡ get_or xs k d
      → first_of f (drop k xs) ≡ or_else (f x) (first_of f (drop (k + 1) xs))
  next xs k d x h e = at_drop_more (first_of f) xs k d h ∙ ap (λ y. or_else (f y) (first_of f (drop (k + 1) xs))) (sym e)

  -- of two parts of a list, where the first has one, and where it has none

  pub first_there : (all xs ys : List A) (found : Option B) (s : B) → all ≡ xs ++ ys → found ≡ first_of f xs → found ≡ Some s → Some s ≡ first_of f all
  first_there all xs ys found s parts e is =
      sym (ap (first_of f) parts ∙ in_both xs ys ∙ ap (λ o. or_else o (first_of f ys)) (sym e ∙ is))

  first_behind : (all xs ys : List A) (found : Option B) → all ≡ xs ++ ys → found ≡ first_of f xs → found ≡ None → first_of f ys ≡ first_of f all
  first_behind all xs ys found parts e is =
      sym (ap (first_of f) parts ∙ in_both xs ys ∙ ap (λ o. or_else o (first_of f ys)) (sym e ∙ is))

  pub told_behind : {E : Type 0} (r : Result (Option B) E) (all xs ys : List A) (found : Option B) → all ≡ xs ++ ys → found ≡ first_of f xs → found ≡ None
      → IfOk r (λ o. o ≡ first_of f ys) → IfOk r (λ o. o ≡ first_of f all)
  told_behind (Ok o) all xs ys found parts e is h = h ∙ first_behind all xs ys found parts e is
  told_behind (Err x) all xs ys found parts e is h = h

  -- the next has none
  pub passed : (xs : List A) (k : ℕ) (d x : A) (found : Option B) → k < length xs → x ≡ get_or xs k d → found ≡ f x → is_some found ≡ false
      → first_of f (drop k xs) ≡ first_of f xs → first_of f (drop (k + 1) xs) ≡ first_of f xs
  passed xs k d x None h e r none i = ap (λ o. or_else o (first_of f (drop (k + 1) xs))) r ∙ sym (next xs k d x h e) ∙ i
  passed xs k d x (Some y) h e r none i = cc

  -- the next has one
  pub here : (xs : List A) (k : ℕ) (d x : A) (found : Option B) → k < length xs → x ≡ get_or xs k d → found ≡ f x → is_some found ≡ true
      → first_of f (drop k xs) ≡ first_of f xs → found ≡ first_of f xs
  here xs k d x None h e r some i = cc
  here xs k d x (Some y) h e r some i = ap (λ o. or_else o (first_of f (drop (k + 1) xs))) r ∙ sym (next xs k d x h e) ∙ i

-- a stack, from its top

-- the means at a place
abbrev Placed : LiteralOf Term → List Means → ℕ → Option (List Pair) → Type 0
Placed g stack k found = (m : Means) × (m ≡ get_or stack k m) × (found ≡ goal_match g m.trigger)

placed : (g : LiteralOf Term) (stack : List Means) (k : ℕ) (found : Option (List Pair)) → k < length stack → found ≡ match_at g (trigger_at stack k)
    → Placed g stack k found
placed g stack k found l h = go (slice_get_cases stack k).1 where
  go : ((m : Means) × (k < length stack) × (slice_get stack k ≡ Some m) × (get_or stack k m ≡ m)) ⊎ ((length stack ≤ k) × (slice_get stack k ≡ None))
      → Placed g stack k found
  go (inl (m, l, at, e)) = (m, sym e, h ∙ ap (λ o. match_at g (option_map (λ n. n.trigger) o)) at)
  go (inr (m, at)) = absurd (omega (arith, l, m))

pub stack_passed : (g : LiteralOf Term) (stack : List Means) (k : ℕ) (found : Option (List Pair)) → k < length stack
    → found ≡ match_at g (trigger_at stack k) → is_some found ≡ false → stack_match g (drop k stack) ≡ stack_match g stack
    → stack_match g (drop (k + 1) stack) ≡ stack_match g stack
stack_passed g stack k found l h none i =
    let (m, e, r) = placed g stack k found l h in
    passed (λ n. goal_match g n.trigger) stack k m m found l e r none i

pub stack_here : (g : LiteralOf Term) (stack : List Means) (k : ℕ) (found : Option (List Pair)) → k < length stack
    → found ≡ match_at g (trigger_at stack k) → is_some found ≡ true → stack_match g (drop k stack) ≡ stack_match g stack
    → found ≡ stack_match g stack
stack_here g stack k found l h some i =
    let (m, e, r) = placed g stack k found l h in
    here (λ n. goal_match g n.trigger) stack k m m found l e r some i
