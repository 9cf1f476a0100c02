-- The literals among the arguments of a settled call come from literals or variables of its source.
use Rattle.std.proofs.Common.{◌≡◌, ℕ, zero, suc, ◌==◌, ◌&&◌, Bool, true, not, List, [], ◌∷◌, map, length, slice_get, Option, Some, None, Ok, refl, sym, ap, ◌∙◌, subst}
use Rattle.std.proofs.lemmas.Bool.{false≢true}
use Rattle.std.proofs.lemmas.List.{length-map}
use Rattle.std.specs.List.{AllByRecursion}
use Rattle.std.specs.Option.{option_map}
use Rattle.asl_term.specs.declared.syntax.ArgOf.{ArgOf}
use Rattle.asl_term.specs.declared.syntax.ArgOf.TheVariants.{Plain, Logic}
use Rattle.asl_term.specs.declared.syntax.Expr.{Expr}
use Rattle.asl_term.specs.declared.syntax.ListingOf.{ListingOf}
use Rattle.asl_term.specs.declared.syntax.LiteralOf.{LiteralOf}
use Rattle.asl_term.specs.declared.syntax.Term.{Term}
use Rattle.asl_term.specs.declared.syntax.Term.TheVariants as term
use Rattle.asl_term.specs.declared.syntax.Term.TheOpen.{Term-F}
use Rattle.asl_term.specs.declared.syntax.Term.TheOpen as layer
use Rattle.asl_term.specs.declared.syntax.Term.TheViews.{out-Term}
use Rattle.asl_term.specs.declared.syntax.Var.{Var}
use Rattle.asl_term.specs.Layers.{made}
use Rattle.asl_term.specs.Trees.{all, or_true}
use Rattle.asl_term.proofs.Terms.{fold_num, fold_str, fold_list, made_out, out_made}
use Rattle.asl_unify.specs.Applied.{put_literal}
use Rattle.asl_unify.specs.Puts.{nil, ending, cons, cons_list, list_of, merged, put, put_step}
use Rattle.asl_unify.specs.Settling.{Settled, and_then, each, operation, settle, settle_step, settle_literal, settle_arg}
use Rattle.asl_unify.specs.Unifiers.{items_before, is_tidy, is_tidy_step}
use Rattle.asl_unify.proofs.General.{and_true, put-lit, put-op}
use Rattle.asl_unify.proofs.Puts.{put-nil, put-list}
use Rattle.asl_exec_circumstance.specs.Contents.{literal_layer, literal_of, is_atom}
use Rattle.asl_lint.specs.Items as lint
use Rattle.asl_goals.specs.Sending.{plain_arg, term_at}
use Rattle.asl_lint_laws.proofs.Fresh.{flat_is_tidy}
use Rattle.asl_lint_laws.proofs.Settles.{settled_parts}
use Rattle.asl_lint_laws.proofs.Settling.{goes, ok_is, parted, settle-list, settle-lit, settle-op, settle-merged}
use Rattle.asl_lint_laws.specs.Linted.{ArgsBy, IsMergedArg}
use Rattle.asl_lint_laws.proofs.Received.{lit_is}

-- ---- a literal comes from a variable or a literal

pub data Origin (v : Var → Term) (t : Term) (l : LiteralOf Term) : Type 0 where
  variable : (x : Var) → t ≡ term.Var x → Origin v t l
  literal : (m : LiteralOf Term) → t ≡ term.Lit m → settle_literal (put_literal v m) ≡ Ok l → Origin v t l

none_at : (y : Term-F Term) → literal_layer y ≡ None → literal_of (made y) ≡ None
none_at y e = ap literal_layer (out_made y) ∙ e

-- a list is no literal
cons_none : (x t : Term) → literal_of (cons x t) ≡ None
cons_none x t = go (list_of t) where
  go : (o : Option (ListingOf Term)) → literal_of (cons_list x t o) ≡ None
  go (Some l) = none_at (layer.List (record { items = x ∷ l.items; tail = l.tail })) refl
  go None = none_at (layer.List (record { items = x ∷ []; tail = Some t })) refl

nil_settles : settle nil ≡ Ok nil
nil_settles = settle-list (record { items = []; tail = None })

module _ (v : Var → Term) (l : LiteralOf Term) where
  no_literal : (t u : Term) → t ≡ u → literal_of t ≡ None → literal_of u ≡ Some l → ⊥
  no_literal t u e n s = let d : None ≡ Some l = sym n ∙ ap literal_of e ∙ s in cc

  items_none : (x : Term) (xs : List Term) (t u : Term) → settle (merged (map (put v) (x ∷ xs)) t) ≡ Ok u → literal_of u ≡ None
  items_none x xs t u e =
      let a = goes (each (map settle (map (put v) (x ∷ xs)))) (λ ys. and_then (settle t) (λ z. Ok (merged ys z))) u
      (sym (settle-merged (map (put v) (x ∷ xs)) t) ∙ e) in
      let b = goes (settle t) (λ z. Ok (merged a.value z)) u a.rest in
      let s = parted (settle (put v x)) (each (map settle (map (put v) xs))) a.value a.is in
      ap literal_of (sym (ok_is (merged a.value b.value) u b.rest)) ∙ ap (λ ys. literal_of (merged ys b.value)) s.whole
      ∙ cons_none s.first (merged s.more b.value)

  list_none : (m : ListingOf Term) → is_tidy (term.List m) ≡ true → (u : Term) → settle (put v (term.List m)) ≡ Ok u → literal_of u ≡ None
  list_none m t u e = go m.items m.tail (sym (fold_list Bool is_tidy_step m) ∙ t) (ap settle (sym (put-list v m)) ∙ e) where
    go : (items : List Term) (tail : Option Term) → (all (map is_tidy items) && or_true (option_map is_tidy tail) && items_before (map is_tidy items) (option_map is_tidy tail)) ≡ true
        → settle (merged (map (put v) items) (put v (ending tail))) ≡ Ok u → literal_of u ≡ None
    go (x ∷ xs) tail t e = items_none x xs (put v (ending tail)) u e
    go [] None t e =
        ap literal_of (sym (ok_is nil u (sym nil_settles ∙ ap settle (sym (put-nil v)) ∙ e))) ∙ none_at (layer.List (record { items = []; tail = None })) refl
    go [] (Some z) t e = absurd (false≢true (and_true (or_true (Some (is_tidy z))) _ t).1)

  origin_layer : (y : Term-F Term) → is_tidy (made y) ≡ true → (u : Term) → settle (put v (made y)) ≡ Ok u → literal_of u ≡ Some l → Origin v (made y) l
  origin_layer (layer.Var x) t u e s = variable x refl
  origin_layer (layer.Lit m) t u e s =
      let g = goes (settle_literal (put_literal v m)) (λ z. Ok (term.Lit z)) u (sym (settle-lit (put_literal v m)) ∙ ap settle (sym (put-lit v m)) ∙ e) in
      let same : Some g.value ≡ Some l = sym (lit_is g.value) ∙ ap literal_of (ok_is (term.Lit g.value) u g.rest) ∙ s in
      let is : g.value ≡ l = cc in
      literal m refl (g.is ∙ ap (λ z. Ok z) is)
  origin_layer (layer.Num n) t u e s =
      absurd (no_literal (term.Num n) u (ok_is (term.Num n) u (sym (fold_num (Settled Term) settle_step n) ∙ ap settle (sym (fold_num Term (put_step v) n)) ∙ e))
      (none_at (layer.Num n) refl) s)
  origin_layer (layer.Str n) t u e s =
      absurd (no_literal (term.Str n) u (ok_is (term.Str n) u (sym (fold_str (Settled Term) settle_step n) ∙ ap settle (sym (fold_str Term (put_step v) n)) ∙ e))
      (none_at (layer.Str n) refl) s)
  origin_layer (layer.List m) t u e s = absurd (no_literal u u refl (list_none m t u e) s)
  origin_layer (layer.Op a) t u e s =
      let f = goes (settle (put v a.left)) (λ x. and_then (settle (put v a.right)) (λ y. and_then (operation a.op x y) (λ n. Ok (term.Num n)))) u
      (sym (settle-op (record a { left = put v a.left; right = put v a.right })) ∙ ap settle (sym (put-op v a)) ∙ e) in
      let g = goes (settle (put v a.right)) (λ y. and_then (operation a.op f.value y) (λ n. Ok (term.Num n))) u f.rest in
      let h = goes (operation a.op f.value g.value) (λ n. Ok (term.Num n)) u g.rest in
      absurd (no_literal (term.Num h.value) u (ok_is (term.Num h.value) u h.rest) (none_at (layer.Num h.value) refl) s)

  pub origin : (t : Term) → put term.Var t ≡ t → (u : Term) → settle (put v t) ≡ Ok u → literal_of u ≡ Some l → Origin v t l
  origin t m u e s =
      subst (λ z. Origin v z l) (made_out t)
      (origin_layer (out-Term t) (ap is_tidy (made_out t) ∙ flat_is_tidy t m) u (ap (λ z. settle (put v z)) (made_out t) ∙ e) s)

-- ---- the arguments

pub record From (v : Var → Term) (args : List (ArgOf Expr)) (j : ℕ) (u : Term) : Type 0 where
  pub before : Term
  pub at : lint.term_at args j ≡ Some before
  pub merged : put term.Var before ≡ before
  pub settles : settle (put v before) ≡ Ok u

pub arg_from : (v : Var → Term) (args others outs : List (ArgOf Expr)) → ArgsBy v args others → each (map settle_arg others) ≡ Ok outs
    → AllByRecursion IsMergedArg args → (j : ℕ) (u : Term) → term_at outs j ≡ Some u → From v args j u
arg_from v [] [] outs a e m j u s =
    let d : None ≡ Some u = ap (λ z. plain_arg (slice_get z j)) (ok_is [] outs e) ∙ s in cc
arg_from v [] (o ∷ others) outs a e m j u s = absurd a
arg_from v (Plain t ∷ args) [] outs a e m j u s = absurd a
arg_from v (Logic x ∷ args) [] outs a e m j u s = absurd a
arg_from v (Plain t ∷ args) (Logic x ∷ others) outs a e m j u s = absurd a
arg_from v (Logic x ∷ args) (Plain t ∷ others) outs a e m j u s = absurd a
arg_from v (Plain t ∷ args) (Plain w ∷ others) outs a e m j u s =
    let b = goes (settle_arg (Plain w)) (λ x. and_then (each (map settle_arg others)) (λ xs. Ok (x ∷ xs))) outs e in
    let c = goes (settle w) (λ x. Ok (Plain x)) b.value b.is in
    let d = goes (each (map settle_arg others)) (λ xs. Ok (b.value ∷ xs)) outs b.rest in
    let is : outs ≡ Plain c.value ∷ d.value = sym (ok_is (b.value ∷ d.value) outs d.rest) ∙ ap (λ z. z ∷ d.value) (sym (ok_is (Plain c.value) b.value c.rest)) in
    go (λ i xs g s. arg_from v args others xs a.1 g m.1 i u s) j c.value d.value c.is d.is (ap (λ z. plain_arg (slice_get z j)) (sym is) ∙ s) where
      go : ((i : ℕ) (xs : List (ArgOf Expr)) → each (map settle_arg others) ≡ Ok xs → term_at xs i ≡ Some u → From v args i u) → (j : ℕ) (x : Term) (xs : List (ArgOf Expr))
          → settle w ≡ Ok x → each (map settle_arg others) ≡ Ok xs → term_at (Plain x ∷ xs) j ≡ Some u → From v (Plain t ∷ args) j u
      go more zero x xs f g s =
          let same : x ≡ u = cc in record { before = t; at = refl; merged = m.0; settles = ap settle a.0 ∙ f ∙ ap (λ z. Ok z) same }
      go more (suc j) x xs f g s = let r = more j xs g s in record { before = r.before; at = r.at; merged = r.merged; settles = r.settles }
arg_from v (Logic x ∷ args) (Logic y ∷ others) outs a e m j u s =
    let d = goes (each (map settle_arg others)) (λ xs. Ok (Logic y ∷ xs)) outs e in
    go (λ i xs g s. arg_from v args others xs a g m.1 i u s) j d.value d.is (ap (λ z. plain_arg (slice_get z j)) (ok_is (Logic y ∷ d.value) outs d.rest) ∙ s) where
      go : ((i : ℕ) (xs : List (ArgOf Expr)) → each (map settle_arg others) ≡ Ok xs → term_at xs i ≡ Some u → From v args i u) → (j : ℕ) (xs : List (ArgOf Expr))
          → each (map settle_arg others) ≡ Ok xs → term_at (Logic y ∷ xs) j ≡ Some u → From v (Logic x ∷ args) j u
      go more zero xs g s = cc
      go more (suc j) xs g s = let r = more j xs g s in record { before = r.before; at = r.at; merged = r.merged; settles = r.settles }

-- ---- atoms

each_length : (ts us : List Term) → each (map settle ts) ≡ Ok us → length us ≡ length ts
each_length [] us e = ap length (sym (ok_is [] us e))
each_length (t ∷ ts) us e =
    let s = parted (settle t) (each (map settle ts)) us e in
    ap length s.whole ∙ ap suc (each_length ts s.more s.are_more)

-- an atom comes from an atom of the same functor
pub atom_from : (v : Var → Term) (m l : LiteralOf Term) → settle_literal (put_literal v m) ≡ Ok l → (is_atom l ≡ is_atom m) × (l.functor ≡ m.functor)
atom_from v m l e =
    let s = settled_parts (put_literal v m) l e in
    let a = each_length (map (put v) m.args) l.args s.args ∙ length-map m.args (put v) in
    let b = each_length (map (put v) m.annots) l.annots s.annots ∙ length-map m.annots (put v) in
    ((λ i. not (s.neg i) && (a i == 0) && (b i == 0)), s.functor)
