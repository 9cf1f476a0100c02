-- A comparison and a match bring no variable.
use Rattle.std.proofs.Common.{◌≡◌, ℕ, zero, suc, ◌+◌, eqb, Bool, true, false, cond, List, [], ◌∷◌, ◌++◌, length, refl, subst, arith}
use Rattle.std.specs.List.{AllByRecursion, flat_map}
use Rattle.asl_term.specs.declared.syntax.Var.{Var}
use Rattle.asl_term.specs.declared.syntax.LiteralOf.{LiteralOf}
use Rattle.asl_term.specs.declared.syntax.Term.{Term}
use Rattle.asl_term.proofs.Terms.{fold_var}
use Rattle.asl_unify.specs.declared.subst.Pair.{Pair}
use Rattle.asl_unify.specs.inner.Costs.{weight, weight_step}
use Rattle.asl_unify.specs.Compare.{Question, ask, asks, Move, Go, End, Outcome, Unified, Failed, step, same_frame}
use Rattle.asl_unify.specs.Unified.{Run, onward, round, rounds, question_costs, question_sum, question_vars, pair_vars, free_count, unified}
use Rattle.asl_unify.specs.Matches.{on_unified, annots, matches}
use Rattle.asl_unify.proofs.Measures.{pair_sum, Weightless, step-weightless}
use Rattle.asl_lint_laws.specs.Fresh.{late, terms_count, literal_count, pairs_count, MatchesBelow}

module _ (f : Var → ℕ) where
  -- the two ways to sum over pairs
  pairs_sum : (s : List Pair) → pair_sum (weight f) s ≡ pairs_count f s
  pairs_sum [] = refl
  pairs_sum (p ∷ s) = let one = fold_var ℕ (weight_step f) p.var in let more = pairs_sum s in omega (arith, one, more)

  abbrev Keeps : Run → Type 0
  Keeps run = (w : List Question) (s : List Pair) (n : ℕ) (t : List Pair) → Weightless f w s → run w s n ≡ Unified t → Weightless f [] t

  round_keeps : (next : Run) → Keeps next → (fuel : ℕ) → Keeps (round next fuel)
  round_keeps next k fuel [] s n t e u = let same : s ≡ t = cc in subst (Weightless f []) same e
  round_keeps next k zero (q ∷ w) s n t e u = cc
  round_keeps next k (suc fuel) (q ∷ w) s n t e u = go (step q w s n) refl u (round_keeps next k fuel) where
    go : (v : Move) → step q w s n ≡ v → onward next (round next fuel) s v ≡ Unified t → Keeps (round next fuel) → Weightless f [] t
    go (End x) d u more = cc
    go (Go w' s' m) d u more = pick (eqb (length s') (length s)) (step-weightless f q w w' s s' n m e d) u where
      pick : (b : Bool) → Weightless f w' s' → cond b (round next fuel w' s' m) (next w' s' m) ≡ Unified t → Weightless f [] t
      pick true x y = more w' s' m t x y
      pick false x y = k w' s' m t x y

  rounds_keep : (left : ℕ) → Keeps (rounds left)
  rounds_keep zero w s n t e u = cc
  rounds_keep (suc left) w s n t e u = round_keeps (rounds left) (rounds_keep left) (question_costs s w) w s n t e u

  pub unified_keeps : (s t : List Pair) (w : List Question) → question_sum (weight f) w ≡ 0 → pairs_count f s ≡ 0 → unified s w ≡ Unified t
      → pairs_count f t ≡ 0
  unified_keeps s t w e d u =
      let before = pairs_sum s in
      let after = pairs_sum t in
      let kept : Weightless f [] t = rounds_keep (free_count s (question_vars w ++ pair_vars s) + 1) w s 0 t (omega (arith, e, d, before)) u in
      omega (arith, kept, after)

  asks_sum : (xs ys : List Term) → terms_count f xs ≡ 0 → terms_count f ys ≡ 0 → question_sum (weight f) (asks xs ys []) ≡ 0
  asks_sum [] [] e d = refl
  asks_sum [] (y ∷ ys) e d = refl
  asks_sum (x ∷ xs) [] e d = refl
  asks_sum (x ∷ xs) (y ∷ ys) e d = let more = asks_sum xs ys (omega (arith, e)) (omega (arith, d)) in omega (arith, e, d, more)

  abbrev pub AllNone : List (List Pair) → Type 0
  AllNone = AllByRecursion (λ t. pairs_count f t ≡ 0)

  all_append : (xs ys : List (List Pair)) → AllNone xs → AllNone ys → AllNone (xs ++ ys)
  all_append [] ys a b = b
  all_append (x ∷ xs) ys a b = (a.0, all_append xs ys a.1 b)

  abbrev From : (List Pair → List (List Pair)) → Type 0
  From next = (t : List Pair) → pairs_count f t ≡ 0 → AllNone (next t)

  on_outcome : (next : List Pair → List (List Pair)) → From next → (s : List Pair) (w : List Question) → question_sum (weight f) w ≡ 0 → pairs_count f s ≡ 0
      → AllNone (on_unified next (unified s w))
  on_outcome next more s w e d = go (unified s w) refl where
    go : (o : Outcome) → unified s w ≡ o → AllNone (on_unified next o)
    go (Unified t) u = more t (unified_keeps s t w e d u)
    go (Failed x) u = tt

  over_held : (p : Term) (next : List Pair → List (List Pair)) → weight f p ≡ 0 → From next → (held : List Term) (s : List Pair) → terms_count f held ≡ 0
      → pairs_count f s ≡ 0 → AllNone (flat_map (λ q. on_unified next (unified s (ask p q ∷ []))) held)
  over_held p next e more [] s d c = tt
  over_held p next e more (q ∷ held) s d c =
      all_append (on_unified next (unified s (ask p q ∷ []))) (flat_map (λ q. on_unified next (unified s (ask p q ∷ []))) held)
      (on_outcome next more s (ask p q ∷ []) (omega (arith, e, d)) c)
      (over_held p next e more held s (omega (arith, d)) c)

  annots_keep : (ps held : List Term) → terms_count f ps ≡ 0 → terms_count f held ≡ 0 → From (annots ps held)
  annots_keep [] held e d s c = (c, tt)
  annots_keep (p ∷ ps) held e d s c =
      over_held p (annots ps held) (omega (arith, e)) (annots_keep ps held (omega (arith, e)) d) held s d c

  pub matches_keep : (p q : LiteralOf Term) (s : List Pair) → literal_count f p ≡ 0 → literal_count f q ≡ 0 → pairs_count f s ≡ 0 → AllNone (matches p q s)
  matches_keep p q s e d c = go (same_frame p q) where
    go : (b : Bool) → AllNone (cond b (on_unified (annots p.annots q.annots) (unified s (asks p.args q.args []))) [])
    go true =
        on_outcome (annots p.annots q.annots) (annots_keep p.annots q.annots (omega (arith, e)) (omega (arith, d))) s (asks p.args q.args [])
        (asks_sum p.args q.args (omega (arith, e)) (omega (arith, d))) c
    go false = tt

pub matches_below : MatchesBelow
matches_below n p q s e d c = matches_keep (late n) p q s e d c
