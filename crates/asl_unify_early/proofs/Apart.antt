-- Literals of which the topmost layers of two arguments clash have no match.
use Rattle.std.proofs.Common.{◌≡◌, ℕ, zero, suc, ℤ, eqb, Bool, true, false, ◌&&◌, List, [], ◌∷◌, map, length, Option, Some, None, cond, refl, sym, ap, subst, ◌∙◌}
use Rattle.std.specs.Prelude.{not}
use Rattle.std.specs.List.{slice_get}
use Rattle.std.specs.Option.{option_map}
use Rattle.std.specs.Ordering.{int_eq}
use Rattle.std.specs.Str.{bytes_eq}
use Rattle.std.proofs.lemmas.Bool.{false≢true}
use Rattle.std.proofs.lemmas.List.{length-map}
use Rattle.asl_term.specs.Trees.{with_terms_step}
use Rattle.asl_term.specs.Layers.{made}
use Rattle.asl_term.specs.declared.syntax.Var.{Var}
use Rattle.asl_term.specs.declared.syntax.LiteralOf.{LiteralOf}
use Rattle.asl_term.specs.declared.syntax.Term.{Term}
use Rattle.asl_term.specs.declared.syntax.Term.TheVariants as term
use Rattle.asl_term.specs.declared.syntax.Term.TheOpen.{Term-F}
use Rattle.asl_term.specs.declared.syntax.Term.TheOpen as layer
use Rattle.asl_term.specs.declared.syntax.Term.TheViews.{out-Term}
use Rattle.asl_term.proofs.Terms.{fold_num, fold_lit, fold_list}
use Rattle.asl_unify.specs.declared.subst.Pair.{Pair}
use Rattle.asl_unify.specs.Puts.{IsSubst, Unifies, apply, value_of}
use Rattle.asl_unify.specs.Compare.{same_sign, same_head, same_frame, asks, Outcome, Unified, Failed}
use Rattle.asl_unify.specs.Unified.{unified}
use Rattle.asl_unify.specs.Unifiers.{UnifiesAll}
use Rattle.asl_unify.specs.Matches.{matches, annots, on_unified}
use Rattle.asl_unify.specs.Cursors.{annots_left, matches_left}
use Rattle.asl_unify.specs.Renamed.{numbered, renamed, renamed_literal}
use Rattle.asl_unify_early.specs.inner.Clashes.{lists_clash, layers_clash, HasClash, NeverMatch, NeverMatched}
use Rattle.asl_unify.proofs.Views.{made_out}
use Rattle.asl_unify.proofs.Unified.{unified_general}
use Rattle.asl_unify_early.proofs.Refused.{lits_apart, nums_apart, bare_apart}

abbrev AreApart : Term → Term → Type 0
AreApart a b = (t : List Pair) → Unifies t a b → ⊥

-- two terms are apart where one is apart from what the other equals
moved : (a b c : Term) → b ≡ c → AreApart a c → AreApart a b
moved a b c e f t d = f t (d ∙ ap (apply t) e)

not_true : (b : Bool) → not b ≡ true → b ≡ false
not_true true e = absurd (false≢true e)
not_true false e = refl

abbrev listed : List Term → Option Term → Term
listed xs t = term.List (record { items = xs; tail = t })

-- terms whose topmost layers clash are apart
lists_apart : (xs : List Term) (t : Option Term) (ys : List Term) (u : Option Term) → lists_clash xs t ys u ≡ true → AreApart (listed xs t) (listed ys u)
lists_apart [] None (y ∷ ys) u e = λ t. bare_apart (value_of t) y ys u
lists_apart (x ∷ xs) t [] None e = λ v d. bare_apart (value_of v) x xs t (sym d)
lists_apart [] None [] None e = absurd (false≢true e)
lists_apart [] None [] (Some u) e = absurd (false≢true e)
lists_apart [] (Some t) ys u e = absurd (false≢true e)
lists_apart (x ∷ xs) t [] (Some u) e = absurd (false≢true e)
lists_apart (x ∷ xs) t (y ∷ ys) u e = absurd (false≢true e)

layers_apart : (y z : Term-F Term) → layers_clash y z ≡ true → AreApart (made y) (made z)
layers_apart (layer.Num m) (layer.Num k) e = λ t. nums_apart (value_of t) m k (not_true (int_eq m k) e)
layers_apart (layer.Lit l) (layer.Lit m) e = λ t. lits_apart (value_of t) l m (not_true (same_head l m) e)
layers_apart (layer.List l) (layer.List m) e = lists_apart l.items l.tail m.items m.tail e
layers_apart y z e = absurd (false≢true e)

terms_apart : (a b : Term) → layers_clash (out-Term a) (out-Term b) ≡ true → AreApart a b
terms_apart a b e =
    subst (λ z. AreApart z b) (made_out a)
    (subst (λ z. AreApart (made (out-Term a)) z) (made_out b) (layers_apart (out-Term a) (out-Term b) e))

-- also once the second is renamed
module _ (n : ℕ) where
  abbrev var_at : Var → Term
  var_at v = term.Var (numbered n v)

  apart_nums : (m k : ℤ) → int_eq m k ≡ false → AreApart (term.Num m) (renamed n (term.Num k))
  apart_nums m k e = moved (term.Num m) (renamed n (term.Num k)) (term.Num k) (fold_num Term (with_terms_step var_at) k) (λ t. nums_apart (value_of t) m k e)

  head_kept : (l m : LiteralOf Term) → same_head l (renamed_literal n m) ≡ same_head l m
  head_kept l m =
      ap (λ k. (same_sign l.neg m.neg && bytes_eq l.functor m.functor && eqb (length l.args) k) && eqb (length l.annots) (length (map (renamed n) m.annots))) (length-map m.args (renamed n))
      ∙ ap (λ k. same_frame l m && eqb (length l.annots) k) (length-map m.annots (renamed n))

  apart_lits : (l m : LiteralOf Term) → same_head l m ≡ false → AreApart (term.Lit l) (renamed n (term.Lit m))
  apart_lits l m e = moved (term.Lit l) (renamed n (term.Lit m)) (term.Lit (renamed_literal n m)) (fold_lit Term (with_terms_step var_at) m)
      (λ t. lits_apart (value_of t) l (renamed_literal n m) (head_kept l m ∙ e))

  renamed_list : (xs : List Term) (t : Option Term) → renamed n (listed xs t) ≡ listed (map (renamed n) xs) (option_map (renamed n) t)
  renamed_list xs t = fold_list Term (with_terms_step var_at) (record { items = xs; tail = t })

  apart_lists : (xs : List Term) (t : Option Term) (ys : List Term) (u : Option Term) → lists_clash xs t ys u ≡ true → AreApart (listed xs t) (renamed n (listed ys u))
  apart_lists [] None (y ∷ ys) u e = moved (listed [] None) (renamed n (listed (y ∷ ys) u)) (listed (renamed n y ∷ map (renamed n) ys) (option_map (renamed n) u)) (renamed_list (y ∷ ys) u)
      (λ t. bare_apart (value_of t) (renamed n y) (map (renamed n) ys) (option_map (renamed n) u))
  apart_lists (x ∷ xs) t [] None e = moved (listed (x ∷ xs) t) (renamed n (listed [] None)) (listed [] None) (renamed_list [] None)
      (λ v d. bare_apart (value_of v) x xs t (sym d))
  apart_lists [] None [] None e = absurd (false≢true e)
  apart_lists [] None [] (Some u) e = absurd (false≢true e)
  apart_lists [] (Some t) ys u e = absurd (false≢true e)
  apart_lists (x ∷ xs) t [] (Some u) e = absurd (false≢true e)
  apart_lists (x ∷ xs) t (y ∷ ys) u e = absurd (false≢true e)

  apart_layers : (y z : Term-F Term) → layers_clash y z ≡ true → AreApart (made y) (renamed n (made z))
  apart_layers (layer.Num m) (layer.Num k) e = apart_nums m k (not_true (int_eq m k) e)
  apart_layers (layer.Lit l) (layer.Lit m) e = apart_lits l m (not_true (same_head l m) e)
  apart_layers (layer.List l) (layer.List m) e = apart_lists l.items l.tail m.items m.tail e
  apart_layers y z e = absurd (false≢true e)

  apart : (a b : Term) → layers_clash (out-Term a) (out-Term b) ≡ true → AreApart a (renamed n b)
  apart a b e =
      subst (λ z. AreApart z (renamed n b)) (made_out a)
      (subst (λ z. AreApart (made (out-Term a)) (renamed n z)) (made_out b) (apart_layers (out-Term a) (out-Term b) e))

-- nothing unifies all places where the terms of one are apart
no_place : (xs ys : List Term) (k : ℕ) (x y : Term) → slice_get xs k ≡ Some x → slice_get ys k ≡ Some y → AreApart x y → (t : List Pair) → UnifiesAll (asks xs ys []) t → ⊥
no_place [] ys k x y e f d t u = cc
no_place (a ∷ xs) [] k x y e f d t u = cc
no_place (a ∷ xs) (b ∷ ys) zero x y e f d t u =
    let left : a ≡ x = cc in
    let right : b ≡ y = cc in
    d t (ap (apply t) (sym left) ∙ u.0 ∙ ap (apply t) right)
no_place (a ∷ xs) (b ∷ ys) (suc k) x y e f d t u = no_place xs ys k x y e f d t u.1

no_match : (p q : LiteralOf Term) → ((t : List Pair) → UnifiesAll (asks p.args q.args []) t → ⊥) → (s : List Pair) → IsSubst s
    → (matches p q s ≡ []) × ((at : List ℕ) → matches_left p q s at ≡ [])
no_match p q none s i = (
  go (annots p.annots q.annots) (unified s (asks p.args q.args [])) refl (same_frame p q),
  λ at. go (λ t. annots_left p.annots q.annots t at) (unified s (asks p.args q.args [])) refl (same_frame p q),
) where
  go : (f : List Pair → List (List Pair)) (o : Outcome) → unified s (asks p.args q.args []) ≡ o → (b : Bool) → cond b (on_unified f o) [] ≡ []
  go f (Unified t) e b = absurd (none t (unified_general s t (asks p.args q.args []) i e).unifies)
  go f (Failed x) e true = refl
  go f (Failed x) e false = refl

get_map : (f : Term → Term) (ys : List Term) (k : ℕ) (y : Term) → slice_get ys k ≡ Some y → slice_get (map f ys) k ≡ Some (f y)
get_map f [] k y e = cc
get_map f (z ∷ ys) zero y e = let same : z ≡ y = cc in ap (λ w. Some (f w)) same
get_map f (z ∷ ys) (suc k) y e = get_map f ys k y e

-- where two arguments clash there is no match
pub clashes : (p q : LiteralOf Term) → HasClash p.args q.args → NeverMatch p q
clashes p q h = (
  no_match p q (no_place p.args q.args h.place h.left h.right h.at_left h.at_right (terms_apart h.left h.right h.clash)),
  λ n. no_match p (renamed_literal n q) (no_place p.args (map (renamed n) q.args) h.place h.left (renamed n h.right) h.at_left
      (get_map (renamed n) q.args h.place h.right h.at_right) (apart n h.left h.right h.clash)),
)

-- nor is there one the other way round, where the second is renamed
pub clashes_turned : (p q : LiteralOf Term) → HasClash q.args p.args → NeverMatched p q
clashes_turned p q h n s i =
    let none = no_match (renamed_literal n p) q (no_place (map (renamed n) p.args) q.args h.place (renamed n h.right) h.left
    (get_map (renamed n) p.args h.place h.right h.at_right) h.at_left (λ t d. apart n h.left h.right h.clash t (sym d))) s i in
    none.0
