-- What substitutions make of a term has no list with a tail and no items.
use Rattle.std.proofs.Common.{◌≡◌, Bool, true, false, ◌&&◌, List, [], ◌∷◌, ◌++◌, map, Option, Some, None, refl, sym, ap, ◌∙◌, subst}
use Rattle.std.specs.List.{AllByRecursion}
use Rattle.std.specs.Option.{option_map}
use Rattle.asl_term.specs.Trees.{all, or_true}
use Rattle.asl_term.specs.declared.syntax.Var.{Var}
use Rattle.asl_term.specs.declared.syntax.ListingOf.{ListingOf}
use Rattle.asl_term.specs.declared.syntax.Term.{Term}
use Rattle.asl_term.specs.declared.syntax.Term.TheVariants as term
use Rattle.asl_term.proofs.Terms.{OfTail, by_cases, fold_num, fold_str, fold_var, fold_lit, fold_list, fold_op}
use Rattle.asl_unify.specs.declared.subst.Pair.{Pair}
use Rattle.asl_unify.specs.Puts.{nil, ending, cons, cons_list, list_of, merged, put, put_step, value_of, apply}
use Rattle.asl_unify.specs.Turns.{apply_each, value_in}
use Rattle.asl_unify.specs.Unifiers.{is_tidy, is_tidy_step}
use Rattle.asl_unify.proofs.Puts.{put-nil, put-list}
use Rattle.asl_unify.proofs.Proper.{list_of-Some}
use Rattle.asl_unify.proofs.Laws.{Flat, FlatValues, flat-put}
use Rattle.asl_unify.proofs.General.{put-lit, put-op, flat-value}
use Rattle.asl_unify.proofs.Refuted.{list-tidy, both_hold}

abbrev pub Tidy : Term → Type 0
Tidy t = is_tidy t ≡ true

abbrev pub AllTidy : List Term → Type 0
AllTidy ts = all (map is_tidy ts) ≡ true

tidy-items : (x : Term) (xs : List Term) (t : Option Term) → AllTidy (x ∷ xs) → or_true (option_map is_tidy t) ≡ true
    → Tidy (term.List (record { items = x ∷ xs; tail = t }))
tidy-items x xs t a b =
    fold_list Bool is_tidy_step (record { items = x ∷ xs; tail = t }) ∙ both_hold _ true (both_hold (all (map is_tidy (x ∷ xs))) _ a b) refl

tidy-nil : Tidy nil
tidy-nil = fold_list Bool is_tidy_step (record { items = []; tail = None })

tidy-cons : (x t : Term) → Tidy x → Tidy t → Tidy (cons x t)
tidy-cons x t a b = go (list_of t) refl where
  go : (o : Option (ListingOf Term)) → list_of t ≡ o → Tidy (cons_list x t o)
  go (Some l) e =
      let parts = list-tidy l (ap is_tidy (sym (list_of-Some t l e)) ∙ b) in
      tidy-items x l.items l.tail (both_hold (is_tidy x) _ a parts.items) parts.tail
  go None e = tidy-items x [] (Some t) (both_hold (is_tidy x) true a refl) b

tidy-merged : (xs : List Term) (t : Term) → AllTidy xs → Tidy t → Tidy (merged xs t)
tidy-merged [] t a b = b
tidy-merged (x ∷ xs) t a b = let c = parted (is_tidy x) _ a in tidy-cons x (merged xs t) c.0 (tidy-merged xs t c.1 b) where
  parted : (p q : Bool) → (p && q) ≡ true → (p ≡ true) × (q ≡ true)
  parted true q e = (refl, e)
  parted false q e = cc

module _ (h : Var → Term) (v : (x : Var) → Tidy (h x)) where
  abbrev P : Term → Type 0
  P t = Tidy (put h t)

  pub all_tidied : (ts : List Term) → AllByRecursion P ts → AllTidy (map (put h) ts)
  all_tidied [] a = refl
  all_tidied (t ∷ ts) a = both_hold (is_tidy (put h t)) _ a.0 (all_tidied ts a.1)

  end_tidied : (t : Option Term) → OfTail P t → Tidy (put h (ending t))
  end_tidied None a = ap is_tidy (put-nil h) ∙ tidy-nil
  end_tidied (Some t) a = a

  pub tidied : (t : Term) → P t
  tidied = by_cases P (record {
    at_num = λ n. ap is_tidy (fold_num Term (put_step h) n) ∙ fold_num Bool is_tidy_step n;
    at_str = λ n. ap is_tidy (fold_str Term (put_step h) n) ∙ fold_str Bool is_tidy_step n;
    at_var = λ x. ap is_tidy (fold_var Term (put_step h) x) ∙ v x;
    at_lit = λ l args annots.
        ap is_tidy (put-lit h l) ∙ fold_lit Bool is_tidy_step (record l { args = map (put h) l.args; annots = map (put h) l.annots })
        ∙ both_hold _ _ (all_tidied l.args args) (all_tidied l.annots annots);
    at_list = λ l items tail. ap is_tidy (put-list h l)
        ∙ tidy-merged (map (put h) l.items) (put h (ending l.tail)) (all_tidied l.items items) (end_tidied l.tail tail);
    at_op = λ a left right.
        ap is_tidy (put-op h a) ∙ fold_op Bool is_tidy_step (record a { left = put h a.left; right = put h a.right }) ∙ both_hold _ _ left right;
  })

  pub list_tidied : (ts : List Term) → AllTidy (map (put h) ts)
  list_tidied [] = refl
  list_tidied (t ∷ ts) = both_hold (is_tidy (put h t)) _ (tidied t) (list_tidied ts)

pub flat-tidy : (t : Term) → Flat t → Tidy t
flat-tidy t f = subst Tidy f (tidied term.Var (λ x. fold_var Bool is_tidy_step x) t)

-- what substitutions give

pub flat-each : (rest : List (List Pair)) (t : Term) → Flat t → Flat (apply_each rest t)
flat-each [] t f = f
flat-each (s ∷ rest) t f = flat-each rest (apply s t) (flat-put (value_of s) (flat-value s) t)

pub flat-in : (s : List Pair) (rest : List (List Pair)) → FlatValues (value_in s rest)
flat-in s rest x = flat-each rest (value_of s x) (flat-value s x)

pub put_tidy : (s : List Pair) (rest : List (List Pair)) (ts : List Term) → AllTidy (map (put (value_in s rest)) ts)
put_tidy s rest = list_tidied (value_in s rest) (λ x. flat-tidy (value_in s rest x) (flat-in s rest x))

pub tidy-append : (xs ys : List Term) → AllTidy xs → AllTidy ys → AllTidy (xs ++ ys)
tidy-append [] ys a b = b
tidy-append (x ∷ xs) ys a b = let c = parted (is_tidy x) _ a in both_hold (is_tidy x) _ c.0 (tidy-append xs ys c.1 b) where
  parted : (p q : Bool) → (p && q) ≡ true → (p ≡ true) × (q ≡ true)
  parted true q e = (refl, e)
  parted false q e = cc
