-- A literal matches another one with what is bound put into it just where the literals of the questions match.
use Rattle.std.proofs.Common.{◌≡◌, ℕ, ◌+◌, Bool, true, false, ◌&&◌, eqb, List, [], ◌∷◌, ◌++◌, map, length, Option, Some, None, IfSome, refl, sym, ap, subst, ◌∙◌, arith}
use Rattle.std.proofs.lemmas.List.{append-nil, length-append, length-map, map-append}
use Rattle.std.proofs.lemmas.Bool.{eq-eqb, eqb-true}
use Rattle.std.specs.List.{AllByRecursion}
use Rattle.std.specs.Str.{bytes_eq}
use Rattle.asl_term.specs.declared.syntax.Var.{Var}
use Rattle.asl_term.specs.declared.syntax.LiteralOf.{LiteralOf}
use Rattle.asl_term.specs.declared.syntax.Term.{Term}
use Rattle.asl_unify.specs.declared.subst.Pair.{Pair}
use Rattle.asl_unify.specs.Puts.{put, IsSubst}
use Rattle.asl_unify.specs.Applied.{put_literal}
use Rattle.asl_unify.specs.Compare.{same_sign, same_frame}
use Rattle.asl_unify.specs.Matches.{annots, matches}
use Rattle.asl_unify.specs.Turns.{value_in}
use Rattle.asl_unify.specs.Renamed.{with_vars}
use Rattle.asl_unify.proofs.General.{and_true}
use Rattle.asl_unify.proofs.Refuted.{both_hold}
use Rattle.asl_intend.specs.Stacks.{any_match, with_annots}
use Rattle.asl_intend.specs.Unbuilt.{free_name, name_in, left_sides, right_sides, lefts, rights, pattern, target, tidy_literal}
use Rattle.asl_intend.proofs.Tidied.{AllTidy, put_tidy, tidy-append}
use Rattle.asl_intend.proofs.Chosen.{AllIn, Fitted, found_fits, fits_found}
use Rattle.asl_intend.proofs.Spread.{split, join, back, forth, answered, values, valued, flat_valued, value_more, all-free, all-named}

both_or_none : (a b : Bool) → (a ≡ true → b ≡ true) → (b ≡ true → a ≡ true) → a ≡ b
both_or_none true true f g = refl
both_or_none true false f g = sym (f refl)
both_or_none false true f g = g refl
both_or_none false false f g = refl

-- the arguments, and what stands behind them

apart : (h : Var → Term) (xs ys vs ws : List Term) → length xs ≡ length ys → map (put h) (xs ++ vs) ≡ map (put h) (ys ++ ws)
    → (map (put h) xs ≡ map (put h) ys) × (map (put h) vs ≡ map (put h) ws)
apart h [] [] vs ws n e = (refl, e)
apart h [] (y ∷ ys) vs ws n e = cc
apart h (x ∷ xs) [] vs ws n e = cc
apart h (x ∷ xs) (y ∷ ys) vs ws n e =
    let m : length xs ≡ length ys = omega (arith, n) in
    let one : put h x ≡ put h y = cc in
    let more : map (put h) (xs ++ vs) ≡ map (put h) (ys ++ ws) = cc in
    let r = apart h xs ys vs ws m more in ((λ i. one i ∷ r.0 i), r.1)

joined : (h : Var → Term) (xs ys vs ws : List Term) → map (put h) xs ≡ map (put h) ys → map (put h) vs ≡ map (put h) ws
    → map (put h) (xs ++ vs) ≡ map (put h) (ys ++ ws)
joined h xs ys vs ws a b = map-append (put h) xs vs ∙ (λ i. a i ++ b i) ∙ sym (map-append (put h) ys ws)

-- as many sides on the left as on the right

sides : (f : Var → Var) (k : ℕ) (s : List Pair) → length (left_sides k s) ≡ length (right_sides f s)
sides f k [] = refl
sides f k (p ∷ s) = let r = sides f (k + 1) s in omega (arith, r)

all_sides : (k : ℕ) (levels : List (List Pair)) → length (lefts k levels) ≡ length (rights k levels)
all_sides k [] = refl
all_sides k (s ∷ rest) =
    let f = name_in k (s ∷ rest) in
    let a = sides f k s in
    let b = all_sides (k + length s) rest in
    let c = length-append (left_sides k s) (lefts (k + length s) rest) in
    let d = length-append (right_sides f s) (rights (k + length s) rest) in omega (arith, a, b, c, d)

module _ (g l : LiteralOf Term) (s : List Pair) (rest : List (List Pair)) (more : List Term) where
  abbrev levels : List (List Pair)
  levels = s ∷ rest

  abbrev under : Var → Term
  under = value_in s rest

  abbrev whole : LiteralOf Term
  whole = with_annots more (put_literal under l)

  whole_frame : same_frame g whole ≡ same_frame g l
  whole_frame = ap (λ n. same_sign g.neg l.neg && bytes_eq g.functor l.functor && eqb (length g.args) n) (length-map l.args (put under))

  same_count : same_frame g l ≡ true → length g.args ≡ length l.args
  same_count e = eqb-true (length g.args) (length l.args) (and_true (same_sign g.neg l.neg && bytes_eq g.functor l.functor) _ e).1

  same_named : same_frame g l ≡ true → length (map (with_vars free_name) g.args) ≡ length (map (with_vars (name_in 0 levels)) l.args)
  same_named e = length-map g.args (with_vars free_name) ∙ same_count e ∙ sym (length-map l.args (with_vars (name_in 0 levels)))

  parts_frame : same_frame g l ≡ true → same_frame (pattern levels g) (target levels l more) ≡ true
  parts_frame e =
      let same = same_count e in
      let a = all_sides 0 levels in
      let b = length-append (map (with_vars free_name) g.args) (lefts 0 levels) in
      let c = length-append (map (with_vars (name_in 0 levels)) l.args) (rights 0 levels) in
      let d = length-map g.args (with_vars free_name) in
      let f = length-map l.args (with_vars (name_in 0 levels)) in
      eq-eqb (length (map (with_vars free_name) g.args ++ lefts 0 levels)) (length (map (with_vars (name_in 0 levels)) l.args ++ rights 0 levels))
      (omega (arith, same, a, b, c, d, f))

  module _ (i : AllByRecursion IsSubst (s ∷ rest)) where
    held_same : (h k : Var → Term) → ((y : Var) → h (name_in 0 levels y) ≡ put k (under y))
        → map (put (λ y. h (free_name y))) more ≡ map (put k) more
        → map (put h) (target levels l more).annots ≡ map (put k) whole.annots
    held_same h k v e =
        map-append (put h) (map (with_vars (name_in 0 levels)) l.annots) (map (with_vars free_name) more)
        ∙ (λ j. all-named h k (name_in 0 levels) under v l.annots j ++ (all-free h free_name more ∙ e) j)
        ∙ sym (map-append (put k) (map (put under) l.annots) more)

    to_whole : same_frame g l ≡ true → Fitted (pattern levels g) (target levels l more) → Fitted g whole
    to_whole frame (h, v, (args, held)) =
        let k : Var → Term = λ y. h (free_name y) in
        let front = apart h (map (with_vars free_name) g.args) (map (with_vars (name_in 0 levels)) l.args) (lefts 0 levels) (rights 0 levels)
        (same_named frame) args in
        let parts = split h 0 levels [] []
        (ap (map (put h)) (append-nil (lefts 0 levels)) ∙ front.1 ∙ ap (map (put h)) (sym (append-nil (rights 0 levels)))) in
        let val : (y : Var) → h (name_in 0 levels y) ≡ put k (under y) = λ y. back h 0 levels i parts.0 y ∙ ap (put k) (value_more s rest y) in (
          k,
          (λ y. v (free_name y)),
          (
            sym (all-free h free_name g.args) ∙ front.0 ∙ all-named h k (name_in 0 levels) under val l.args,
            subst (λ xs. AllIn xs (map (put k) whole.annots)) (all-free h free_name g.annots)
                (subst (λ ys. AllIn (map (put h) (map (with_vars free_name) g.annots)) ys) (held_same h k val refl) held),
          ),
        )

    to_parts : Fitted g whole → Fitted (pattern levels g) (target levels l more)
    to_parts (k, v, (args, held)) =
        let h = valued (values k levels) k in
        let val : (y : Var) → h (name_in 0 levels y) ≡ put k (under y) =
        λ y. forth k v (values k levels) [] 0 levels refl refl y ∙ ap (put k) (value_more s rest y) in (
          h,
          flat_valued k v levels,
          (
            joined h (map (with_vars free_name) g.args) (map (with_vars (name_in 0 levels)) l.args) (lefts 0 levels) (rights 0 levels)
                (all-free h free_name g.args ∙ args ∙ sym (all-named h k (name_in 0 levels) under val l.args))
                (ap (map (put h)) (sym (append-nil (lefts 0 levels)))
                ∙ join h 0 levels [] [] (answered k v (values k levels) [] 0 levels i refl refl) refl
                ∙ ap (map (put h)) (append-nil (rights 0 levels))),
            subst (λ xs. AllIn xs (map (put h) (target levels l more).annots)) (sym (all-free h free_name g.annots))
                (subst (λ ys. AllIn (map (put k) g.annots) ys) (sym (held_same h k val refl)) held),
          ),
        )

    whole_tidy : AllTidy more → tidy_literal whole ≡ true
    whole_tidy m = both_hold _ _ (put_tidy s rest l.args) (tidy-append (map (put under) l.annots) more (put_tidy s rest l.annots) m)

    pub same_match : same_frame g l ≡ true → tidy_literal g ≡ true → AllTidy more → tidy_literal (pattern levels g) ≡ true
        → tidy_literal (target levels l more) ≡ true
        → any_match (matches (pattern levels g) (target levels l more) []) ≡ any_match (matches g whole [])
    same_match frame t m p q = both_or_none (any_match (matches (pattern levels g) (target levels l more) [])) (any_match (matches g whole []))
        (λ e. fits_found g whole (whole_frame ∙ frame) t (whole_tidy m) (to_whole frame (found_fits (pattern levels g) (target levels l more) e)))
        (λ e. fits_found (pattern levels g) (target levels l more) (parts_frame frame) p q (to_parts (found_fits g whole e)))

abbrev Decided : LiteralOf Term → LiteralOf Term → Bool → Type 0
Decided p q b = (b ≡ any_match (matches p q [])) × (tidy_literal p ≡ true) × (tidy_literal q ≡ true)

pub decided_whole : (g l : LiteralOf Term) (s : List Pair) (rest : List (List Pair)) (more : List Term) → AllByRecursion IsSubst (s ∷ rest)
    → same_frame g l ≡ true → tidy_literal g ≡ true → AllTidy more
    → (p q : LiteralOf Term) → p ≡ pattern (s ∷ rest) g → q ≡ target (s ∷ rest) l more → (r : Option Bool) → IfSome r (Decided p q)
    → IfSome r (λ b. b ≡ any_match (matches g (with_annots more (put_literal (value_in s rest) l)) []))
decided_whole g l s rest more i frame t m p q ep eq None d = tt
decided_whole g l s rest more i frame t m p q ep eq (Some b) d =
    d.0 ∙ (λ j. any_match (matches (ep j) (eq j) []))
    ∙ same_match g l s rest more i frame t m (ap tidy_literal (sym ep) ∙ d.1) (ap tidy_literal (sym eq) ∙ d.2)
