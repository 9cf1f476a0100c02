-- Terms with other variables: what values make of them, and their lists.
use Rattle.std.proofs.Common.{◌≡◌, List, [], ◌∷◌, map, Option, Some, None, refl, sym, ap, ◌∙◌}
use Rattle.std.specs.List.{AllByRecursion}
use Rattle.std.specs.Option.{option_map}
use Rattle.asl_term.specs.declared.syntax.Var.{Var}
use Rattle.asl_term.specs.declared.syntax.LiteralOf.{LiteralOf}
use Rattle.asl_term.specs.declared.syntax.ListingOf.{ListingOf}
use Rattle.asl_term.specs.declared.syntax.Term.{Term}
use Rattle.asl_term.specs.declared.syntax.Term.TheVariants as term
use Rattle.asl_term.specs.declared.syntax.Term.TheOpen.{Term-F}
use Rattle.asl_term.specs.declared.syntax.Term.TheOpen as layer
use Rattle.asl_term.specs.Layers.{made}
use Rattle.asl_term.specs.Trees.{with_terms_step}
use Rattle.asl_term.proofs.Terms.{OfTail, by_cases, fold_num, fold_str, fold_var, fold_lit, fold_list, fold_op}
use Rattle.asl_unify.specs.Puts.{nil, ending, cons, cons_list, as_list, list_of, merged, put, put_step}
use Rattle.asl_unify.specs.Mapped.{literal_by}
use Rattle.asl_unify.specs.Renamed.{with_vars}
use Rattle.asl_unify.proofs.Views.{by_layers}
use Rattle.asl_unify.proofs.Puts.{put-nil, put-list, list_of-made}
use Rattle.asl_unify.proofs.General.{put-lit, put-op}
use Rattle.asl_unify.proofs.Laws.{put-var}
use Rattle.asl_lint.specs.Instances.{AreMerged}

module _ (h : Var → Term) (f : Var → Var) where
  abbrev to : Var → Term
  to x = term.Var (f x)

  abbrev Varied : Term → Type 0
  Varied t = put h (with_vars f t) ≡ put (λ x. h (f x)) t

  all_varied : (ts : List Term) → AllByRecursion Varied ts → map (put h) (map (with_vars f) ts) ≡ map (put (λ x. h (f x))) ts
  all_varied [] a = refl
  all_varied (t ∷ ts) a = let one = a.0 in let more = all_varied ts a.1 in (λ i. one i ∷ more i)

  end_varied : (t : Option Term) → OfTail Varied t → put h (ending (option_map (with_vars f) t)) ≡ put (λ x. h (f x)) (ending t)
  end_varied None a = put-nil h ∙ sym (put-nil (λ x. h (f x)))
  end_varied (Some t) a = a

  pub put-vars : (t : Term) → Varied t
  put-vars = by_cases Varied (record {
    at_num = λ n. ap (put h) (fold_num Term (with_terms_step to) n) ∙ fold_num Term (put_step h) n ∙ sym (fold_num Term (put_step (λ x. h (f x))) n);
    at_str = λ n. ap (put h) (fold_str Term (with_terms_step to) n) ∙ fold_str Term (put_step h) n ∙ sym (fold_str Term (put_step (λ x. h (f x))) n);
    at_var = λ v. ap (put h) (fold_var Term (with_terms_step to) v) ∙ put-var h (f v) ∙ sym (put-var (λ x. h (f x)) v);
    at_lit = λ l args annots.
        ap (put h) (fold_lit Term (with_terms_step to) l) ∙ put-lit h (record l { args = map (with_vars f) l.args; annots = map (with_vars f) l.annots })
        ∙ (λ i. term.Lit (record l { args = all_varied l.args args i; annots = all_varied l.annots annots i }))
        ∙ sym (put-lit (λ x. h (f x)) l);
    at_list = λ l items tail.
        ap (put h) (fold_list Term (with_terms_step to) l) ∙ put-list h (record { items = map (with_vars f) l.items; tail = option_map (with_vars f) l.tail })
        ∙ (λ i. merged (all_varied l.items items i) (end_varied l.tail tail i))
        ∙ sym (put-list (λ x. h (f x)) l);
    at_op = λ a left right.
        ap (put h) (fold_op Term (with_terms_step to) a) ∙ put-op h (record a { left = with_vars f a.left; right = with_vars f a.right })
        ∙ (λ i. term.Op (record a { left = left i; right = right i }))
        ∙ sym (put-op (λ x. h (f x)) a);
  })

-- ---- lists that end in no list do so with other variables

module _ (f : Var → Var) where
  abbrev other : Var → Term
  other x = term.Var (f x)

  abbrev wv : Term → Term
  wv = with_vars f

  wv-list : (l : ListingOf Term) → wv (term.List l) ≡ term.List (record { items = map wv l.items; tail = option_map wv l.tail })
  wv-list l = fold_list Term (with_terms_step other) l

  tail_at : (x u : Term) → list_of u ≡ None → cons x u ≡ term.List (record { items = x ∷ []; tail = Some u })
  tail_at x u e = ap (cons_list x u) e

  list_at : (x : Term) (l : ListingOf Term) → cons x (term.List l) ≡ term.List (record { items = x ∷ l.items; tail = l.tail })
  list_at x l = ap (cons_list x (term.List l)) (list_of-made (layer.List l))

  wv-cons : (x t : Term) → wv (cons x t) ≡ cons (wv x) (wv t)
  wv-cons x = by_layers (λ t. wv (cons x t) ≡ cons (wv x) (wv t)) (λ y. ap (λ o. wv (cons_list x (made y) o)) (list_of-made y) ∙ go y) where
    one : (y z : Term-F Term) → as_list z ≡ None → wv (made y) ≡ made z → wv (term.List (record { items = x ∷ []; tail = Some (made y) })) ≡ cons (wv x) (wv (made y))
    one y z n e =
        wv-list (record { items = x ∷ []; tail = Some (made y) }) ∙ sym (tail_at (wv x) (wv (made y)) (ap list_of e ∙ list_of-made z ∙ n))

    go : (y : Term-F Term) → wv (cons_list x (made y) (as_list y)) ≡ cons (wv x) (wv (made y))
    go (layer.List l) =
        wv-list (record { items = x ∷ l.items; tail = l.tail }) ∙ sym (list_at (wv x) (record { items = map wv l.items; tail = option_map wv l.tail }))
        ∙ ap (cons (wv x)) (sym (wv-list l))
    go (layer.Num n) = one (layer.Num n) (layer.Num n) refl (fold_num Term (with_terms_step other) n)
    go (layer.Str n) = one (layer.Str n) (layer.Str n) refl (fold_str Term (with_terms_step other) n)
    go (layer.Var n) = one (layer.Var n) (layer.Var (f n)) refl (fold_var Term (with_terms_step other) n)
    go (layer.Lit l) =
        one (layer.Lit l) (layer.Lit (record l { args = map wv l.args; annots = map wv l.annots })) refl (fold_lit Term (with_terms_step other) l)
    go (layer.Op a) = one (layer.Op a) (layer.Op (record a { left = wv a.left; right = wv a.right })) refl (fold_op Term (with_terms_step other) a)

  wv-merged : (xs : List Term) (t : Term) → wv (merged xs t) ≡ merged (map wv xs) (wv t)
  wv-merged [] t = refl
  wv-merged (x ∷ xs) t = wv-cons x (merged xs t) ∙ ap (cons (wv x)) (wv-merged xs t)

  wv-nil : wv nil ≡ nil
  wv-nil = wv-list (record { items = []; tail = None })

  abbrev flat : Term → Term
  flat = put term.Var

  abbrev Commutes : Term → Type 0
  Commutes t = flat (wv t) ≡ wv (flat t)

  all_commute : (ts : List Term) → AllByRecursion Commutes ts → map flat (map wv ts) ≡ map wv (map flat ts)
  all_commute [] a = refl
  all_commute (t ∷ ts) a = let one = a.0 in let more = all_commute ts a.1 in (λ i. one i ∷ more i)

  end_commutes : (t : Option Term) → OfTail Commutes t → flat (ending (option_map wv t)) ≡ wv (flat (ending t))
  end_commutes None a = put-nil term.Var ∙ sym wv-nil ∙ ap wv (sym (put-nil term.Var))
  end_commutes (Some t) a = a

  commutes : (t : Term) → Commutes t
  commutes = by_cases Commutes (record {
    at_num = λ n.
        ap flat (fold_num Term (with_terms_step other) n) ∙ fold_num Term (put_step term.Var) n
        ∙ sym (fold_num Term (with_terms_step other) n) ∙ ap wv (sym (fold_num Term (put_step term.Var) n));
    at_str = λ n.
        ap flat (fold_str Term (with_terms_step other) n) ∙ fold_str Term (put_step term.Var) n
        ∙ sym (fold_str Term (with_terms_step other) n) ∙ ap wv (sym (fold_str Term (put_step term.Var) n));
    at_var = λ x.
        ap flat (fold_var Term (with_terms_step other) x) ∙ put-var term.Var (f x)
        ∙ sym (fold_var Term (with_terms_step other) x) ∙ ap wv (sym (put-var term.Var x));
    at_lit = λ l args annots.
        ap flat (fold_lit Term (with_terms_step other) l) ∙ put-lit term.Var (record l { args = map wv l.args; annots = map wv l.annots })
        ∙ (λ i. term.Lit (record l { args = all_commute l.args args i; annots = all_commute l.annots annots i }))
        ∙ sym (fold_lit Term (with_terms_step other) (record l { args = map flat l.args; annots = map flat l.annots })) ∙ ap wv (sym (put-lit term.Var l));
    at_list = λ l items tail.
        ap flat (wv-list l) ∙ put-list term.Var (record { items = map wv l.items; tail = option_map wv l.tail })
        ∙ (λ i. merged (all_commute l.items items i) (end_commutes l.tail tail i))
        ∙ sym (wv-merged (map flat l.items) (flat (ending l.tail))) ∙ ap wv (sym (put-list term.Var l));
    at_op = λ a left right.
        ap flat (fold_op Term (with_terms_step other) a) ∙ put-op term.Var (record a { left = wv a.left; right = wv a.right })
        ∙ (λ i. term.Op (record a { left = left i; right = right i }))
        ∙ sym (fold_op Term (with_terms_step other) (record a { left = flat a.left; right = flat a.right })) ∙ ap wv (sym (put-op term.Var a));
  })

  pub merged_varied : (ts : List Term) → AreMerged ts → AreMerged (map wv ts)
  merged_varied ts m = all_tested ts ∙ ap (map wv) m where
    all_tested : (ts : List Term) → map flat (map wv ts) ≡ map wv (map flat ts)
    all_tested [] = refl
    all_tested (t ∷ ts) = let one = commutes t in let more = all_tested ts in (λ i. one i ∷ more i)
