-- Topmost layers that nothing makes the same.
use Rattle.std.proofs.Common.{◌≡◌, ℤ, eqb, Bool, true, false, ◌&&◌, List, [], ◌∷◌, map, length, Option, Some, None, refl, sym, ap, ◌∙◌, arith}
use Rattle.std.proofs.lemmas.Bool.{false≢true, eq-eqb}
use Rattle.std.proofs.lemmas.Bool.Decides.{Decides-int_eq}
use Rattle.std.proofs.lemmas.List.{length-map}
use Rattle.std.proofs.lemmas.Slice.Eq.{bytes_eq-Decides}
use Rattle.std.specs.Ordering.{int_eq}
use Rattle.std.specs.Str.{bytes_eq}
use Rattle.asl_term.specs.declared.syntax.Var.{Var}
use Rattle.asl_term.specs.declared.syntax.LiteralOf.{LiteralOf}
use Rattle.asl_term.specs.declared.syntax.ListingOf.{ListingOf}
use Rattle.asl_term.specs.declared.syntax.Term.{Term}
use Rattle.asl_term.specs.declared.syntax.Term.TheVariants as term
use Rattle.asl_term.specs.declared.syntax.Term.TheOpen as layer
use Rattle.asl_term.specs.declared.syntax.Term.TheViews.{out-Term}
use Rattle.asl_term.proofs.Terms.{fold_num}
use Rattle.asl_unify.specs.Puts.{nil, cons, cons_list, list_of, merged, ending, put, put_step}
use Rattle.asl_unify.specs.Compare.{same_sign, same_frame, same_head}
use Rattle.asl_unify.proofs.Views.{out_made}
use Rattle.asl_unify.proofs.Puts.{put-nil, put-list, list_of-made}
use Rattle.asl_unify.proofs.Refuted.{Apart, both_hold}
use Rattle.asl_unify.proofs.General.{Lit-injective, put-lit}

sign-self : (b : Bool) → same_sign b b ≡ true
sign-self true = refl
sign-self false = refl

head-same : (l m : LiteralOf Term) → l.neg ≡ m.neg → l.functor ≡ m.functor → length l.args ≡ length m.args → length l.annots ≡ length m.annots → same_head l m ≡ true
head-same l m e f g k =
    let a : same_sign l.neg m.neg ≡ true = ap (same_sign l.neg) (sym e) ∙ sign-self l.neg in
    let b : bytes_eq l.functor m.functor ≡ true = (bytes_eq-Decides l.functor m.functor).1 f in
    let c : eqb (length l.args) (length m.args) ≡ true = eq-eqb _ _ g in
    let d : eqb (length l.annots) (length m.annots) ≡ true = eq-eqb _ _ k in
    both_hold (same_frame l m) _ (both_hold (same_sign l.neg m.neg && bytes_eq l.functor m.functor) _ (both_hold (same_sign l.neg m.neg) _ a b) c) d

module _ (h : Var → Term) where
  mapped : (xs ys : List Term) → map (put h) xs ≡ map (put h) ys → length xs ≡ length ys
  mapped xs ys e = let a = length-map xs (put h) in let b = length-map ys (put h) in let c = ap length e in omega (arith, a, b, c)

  pub lits_apart : (l m : LiteralOf Term) → same_head l m ≡ false → Apart h (term.Lit l) (term.Lit m)
  lits_apart l m e d =
      let r = Lit-injective (record l { args = map (put h) l.args; annots = map (put h) l.annots }) (record m { args = map (put h) m.args; annots = map (put h) m.annots }) (sym (put-lit h l) ∙ d ∙ put-lit h m) in
      false≢true (sym e ∙ head-same l m (ap (λ z. z.neg) r) (ap (λ z. z.functor) r) (mapped l.args m.args (ap (λ z. z.args) r)) (mapped l.annots m.annots (ap (λ z. z.annots) r)))

  pub nums_apart : (m k : ℤ) → int_eq m k ≡ false → Apart h (term.Num m) (term.Num k)
  nums_apart m k e d =
      let r : layer.Num m ≡ layer.Num k = sym (out_made (layer.Num m)) ∙ ap out-Term (sym (fold_num Term (put_step h) m) ∙ d ∙ fold_num Term (put_step h) k) ∙ out_made (layer.Num k) in
      let same : m ≡ k = cc in
      false≢true (sym e ∙ (Decides-int_eq m k).1 same)

  abbrev listed : List Term → Option Term → Term
  listed xs t = term.List (record { items = xs; tail = t })

  cons-items : (x t : Term) → (l : ListingOf Term) × (y : Term) × (ys : List Term) × (list_of (cons x t) ≡ Some l) × (l.items ≡ y ∷ ys)
  cons-items x t = go (list_of t) where
    go : (o : Option (ListingOf Term)) → (l : ListingOf Term) × (y : Term) × (ys : List Term) × (list_of (cons_list x t o) ≡ Some l) × (l.items ≡ y ∷ ys)
    go (Some l) = (record { items = x ∷ l.items; tail = l.tail }, x, l.items, list_of-made (layer.List (record { items = x ∷ l.items; tail = l.tail })), refl)
    go None = (record { items = x ∷ []; tail = Some t }, x, [], list_of-made (layer.List (record { items = x ∷ []; tail = Some t })), refl)

  nil-cons : (x t : Term) → nil ≡ cons x t → ⊥
  nil-cons x t e =
      let c = cons-items x t in
      let l : ListingOf Term = record { items = []; tail = None } in
      let d : Some l ≡ Some c.0 = sym (list_of-made (layer.List l)) ∙ ap list_of e ∙ c.3 in
      let same : l ≡ c.0 = cc in
      let none : [] ≡ c.1 ∷ c.2 = ap (λ z. z.items) same ∙ c.4 in cc

  pub bare_apart : (y : Term) (ys : List Term) (u : Option Term) → Apart h (listed [] None) (listed (y ∷ ys) u)
  bare_apart y ys u d = nil-cons (put h y) (merged (map (put h) ys) (put h (ending u))) (sym (put-nil h) ∙ d ∙ put-list h (record { items = y ∷ ys; tail = u }))
