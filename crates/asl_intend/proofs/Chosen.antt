-- Two literals match where something makes their arguments equal, and each annotation of the first equal to some annotation
-- of the second: in literals whose lists have items before their tails.
use Rattle.std.proofs.Common.{◌≡◌, ◌<◌, ℕ, zero, suc, true, ◌&&◌, ◌⊎◌, inl, inr, cond, List, [], ◌∷◌, ◌++◌, map, length, refl, sym, ap, subst, ◌∙◌, arith}
use Rattle.std.proofs.lemmas.Bool.{eqb-true}
use Rattle.std.specs.List.{AllByRecursion, Contains, flat_map, slice_index_or}
use Rattle.std.specs.Str.{bytes_eq}
use Rattle.asl_term.specs.declared.syntax.Var.{Var}
use Rattle.asl_term.specs.declared.syntax.LiteralOf.{LiteralOf}
use Rattle.asl_term.specs.declared.syntax.Term.{Term}
use Rattle.asl_unify.specs.declared.subst.Pair.{Pair}
use Rattle.asl_unify.specs.Puts.{put, value_of, IsSubst}
use Rattle.asl_unify.specs.Compare.{Question, ask, asks, Outcome, Unified, Failed, Leads, same_sign, same_frame}
use Rattle.asl_unify.specs.Unified.{unified}
use Rattle.asl_unify.specs.Unifiers.{is_tidy, AreTidy, IsTidySubst, IsMatch}
use Rattle.asl_unify.specs.Matches.{on_unified, annots, matches}
use Rattle.asl_unify.proofs.Laws.{FlatValues, Solves}
use Rattle.asl_unify.proofs.Answers.{Answers, of_asks, to_asks}
use Rattle.asl_unify.proofs.General.{and_true, flat-value}
use Rattle.asl_unify.proofs.Unified.{unified_leads, unified_reaches}
use Rattle.asl_unify.proofs.Matched.{matches-general}
use Rattle.asl_unify.proofs.Failing.{fails, leads-tidy}
use Rattle.asl_intend.specs.Stacks.{any_match}
use Rattle.asl_intend.specs.Unbuilt.{tidy_literal}
use Rattle.asl_intend.proofs.Tidied.{Tidy, AllTidy}

-- a list has a term, and all of these terms

abbrev pub In : Term → List Term → Type 0
In x [] = ⊥
In x (y ∷ ys) = (y ≡ x) ⊎ In x ys

abbrev pub AllIn : List Term → List Term → Type 0
AllIn xs ys = AllByRecursion (λ x. In x ys) xs

-- h makes one literal match the other
abbrev pub Fits : (Var → Term) → LiteralOf Term → LiteralOf Term → Type 0
Fits h p q = (map (put h) p.args ≡ map (put h) q.args) × AllIn (map (put h) p.annots) (map (put h) q.annots)

in_image : (f : Term → Term) (ys : List Term) (k : ℕ) (x : Term) → k < length ys → slice_index_or ys k x ≡ x → In (f x) (map f ys)
in_image f [] k x l e = absurd (omega (arith, l))
in_image f (y ∷ ys) zero x l e = inl (ap f e)
in_image f (y ∷ ys) (suc k) x l e = inr (in_image f ys k x (omega (arith, l)) e)

all_in_image : (f : Term → Term) (ys xs : List Term) → AllByRecursion (Contains ys) xs → AllIn (map f xs) (map f ys)
all_in_image f ys [] a = tt
all_in_image f ys (x ∷ xs) a = let c = a.0 in (in_image f ys c.0 x c.1 c.2, all_in_image f ys xs a.1)

frame_lengths : (p q : LiteralOf Term) → same_frame p q ≡ true → length p.args ≡ length q.args
frame_lengths p q e =
    eqb-true (length p.args) (length q.args) (and_true (same_sign p.neg q.neg && bytes_eq p.functor q.functor) _ e).1

abbrev pub Fitted : LiteralOf Term → LiteralOf Term → Type 0
Fitted p q = (h : Var → Term) × FlatValues h × Fits h p q

fitted : (p q : LiteralOf Term) (t : List Pair) → IsMatch p q [] t → Fitted p q
fitted p q t m =
    let h = value_of t in
    let first = of_asks h p.args q.args (asks p.annots m.1 []) (frame_lengths p q m.0) m.3.unifies in
    let then = of_asks h p.annots m.1 [] (sym m.2.0) first.1 in (
      h,
      flat-value t,
      (first.0, subst (λ xs. AllIn xs (map (put h) q.annots)) (sym then.0) (all_in_image (put h) q.annots m.1 m.2.1)),
    )

-- where a match is found, something makes it one
pub found_fits : (p q : LiteralOf Term) → any_match (matches p q []) ≡ true → Fitted p q
found_fits p q e = go (matches p q []) (matches-general p q [] tt) e where
  go : (ms : List (List Pair)) → AllByRecursion (IsMatch p q []) ms → any_match ms ≡ true → Fitted p q
  go [] a e = cc
  go (t ∷ more) a e = fitted p q t a.0

any_front : (xs ys : List (List Pair)) → any_match xs ≡ true → any_match (xs ++ ys) ≡ true
any_front [] ys e = cc
any_front (x ∷ xs) ys e = refl

any_back : (xs ys : List (List Pair)) → any_match ys ≡ true → any_match (xs ++ ys) ≡ true
any_back [] ys e = e
any_back (x ∷ xs) ys e = refl

asks_tidy : (xs ys : List Term) → AllTidy xs → AllTidy ys → AreTidy (asks xs ys [])
asks_tidy [] [] a b = tt
asks_tidy [] (y ∷ ys) a b = tt
asks_tidy (x ∷ xs) [] a b = tt
asks_tidy (x ∷ xs) (y ∷ ys) a b =
    let p = and_true (is_tidy x) _ a in
    let q = and_true (is_tidy y) _ b in ((p.0, q.0), asks_tidy xs ys p.1 q.1)

not_failed : (h : Var → Term) → FlatValues h → (s : List Pair) (w : List Question) → IsSubst s → IsTidySubst s → AreTidy w → Solves h s → Answers h w
    → (r : List Pair → Type 0) → ((t : List Pair) → unified s w ≡ Unified t → r t) → (t : List Pair) × r t
not_failed h f s w i d a v c r then = go (unified s w) refl where
  go : (o : Outcome) → unified s w ≡ o → (t : List Pair) × r t
  go (Failed x) u = absurd (fails (subst (Leads w s 0) u (unified_leads s w i)) i a d h f v c)
  go (Unified t) u = (t, then t u)

-- what the comparison comes to where h answers the questions
pub record Goes (h : Var → Term) (s : List Pair) (w : List Question) (t : List Pair) : Type 0 where
  pub is : unified s w ≡ Unified t
  pub sound : IsSubst t
  pub tidy : IsTidySubst t
  pub solves : Solves h t

pub goes_on : (h : Var → Term) → FlatValues h → (s : List Pair) (w : List Question) → IsSubst s → IsTidySubst s → AreTidy w → Solves h s → Answers h w
    → (t : List Pair) × Goes h s w t
goes_on h f s w i d a v c = not_failed h f s w i d a v c (Goes h s w) (λ t u.
    let one = unified_reaches s t w i u in
    record {
      is = u;
      sound = one.sound;
      tidy = leads-tidy (subst (Leads w s 0) u (unified_leads s w i)) i a d;
      solves = one.forth h f v c;
    })

module _ (h : Var → Term) (f : FlatValues h) (held : List Term) (b : AllTidy held) where
  abbrev Found : List Term → List Pair → Type 0
  Found ps r = any_match (annots ps held r) ≡ true

  module _ (p : Term) (ps : List Term) (s : List Pair) (i : IsSubst s) (d : IsTidySubst s) (a : Tidy p) (v : Solves h s)
      (more : (r : List Pair) → IsSubst r → IsTidySubst r → Solves h r → Found ps r) where
    here : (q : Term) → Tidy q → put h q ≡ put h p → any_match (on_unified (annots ps held) (unified s (ask p q ∷ []))) ≡ true
    here q t e =
        let (r, g) = goes_on h f s (ask p q ∷ []) i d ((a, t), tt) v (sym e, tt) in
        ap (λ o. any_match (on_unified (annots ps held) o)) g.is ∙ more r g.sound g.tidy g.solves

    somewhere : (rest : List Term) → AllTidy rest → In (put h p) (map (put h) rest)
        → any_match (flat_map (λ q. on_unified (annots ps held) (unified s (ask p q ∷ []))) rest) ≡ true
    somewhere [] t e = absurd e
    somewhere (q ∷ rest) t (inl e) =
        let c = and_true (is_tidy q) _ t in
        any_front (on_unified (annots ps held) (unified s (ask p q ∷ [])))
        (flat_map (λ q. on_unified (annots ps held) (unified s (ask p q ∷ []))) rest) (here q c.0 e)
    somewhere (q ∷ rest) t (inr e) =
        let c = and_true (is_tidy q) _ t in
        any_back (on_unified (annots ps held) (unified s (ask p q ∷ [])))
        (flat_map (λ q. on_unified (annots ps held) (unified s (ask p q ∷ []))) rest) (somewhere rest c.1 e)

  some_annots : (ps : List Term) (s : List Pair) → IsSubst s → IsTidySubst s → AllTidy ps → Solves h s → AllIn (map (put h) ps) (map (put h) held) → Found ps s
  some_annots [] s i d a v c = refl
  some_annots (p ∷ ps) s i d a v c =
      let t = and_true (is_tidy p) _ a in
      somewhere p ps s i d t.0 v (λ r j k w. some_annots ps r j k t.1 w c.1) held b c.0

-- where something makes it a match, one is found
pub fits_found : (p q : LiteralOf Term) → same_frame p q ≡ true → tidy_literal p ≡ true → tidy_literal q ≡ true → Fitted p q → any_match (matches p q []) ≡ true
fits_found p q frame l r (h, f, (args, held)) =
    let a = and_true _ _ l in
    let b = and_true _ _ r in
    let w = asks p.args q.args [] in
    let (t, g) = goes_on h f [] w tt tt (asks_tidy p.args q.args a.0 b.0) tt (to_asks h p.args q.args [] args tt) in
    ap (λ c. any_match (cond c (on_unified (annots p.annots q.annots) (unified [] w)) [])) frame
    ∙ ap (λ o. any_match (on_unified (annots p.annots q.annots) o)) g.is
    ∙ some_annots h f q.annots b.1 p.annots t g.sound g.tidy a.1 g.solves held
