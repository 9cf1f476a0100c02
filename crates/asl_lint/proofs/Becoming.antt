-- Where the needs of a term are met it becomes the other, and where each variable has to be one term they can be met.
use Rattle.std.proofs.Common.{◌≡◌, ℕ, ℤ, Bool, true, false, not, ◌||◌, cond, List, [], ◌∷◌, ◌++◌, map, length, take, drop, Option, Some, None, refl, sym, ap, ◌∙◌, subst}
use Rattle.std.proofs.lemmas.Bool.{false≢true}
use Rattle.std.proofs.lemmas.Bool.Decides.{Decides-int_eq}
use Rattle.std.proofs.lemmas.List.{map-append, take-append-drop}
use Rattle.std.proofs.lemmas.Slice.Eq.{bytes_eq-Decides}
use Rattle.std.specs.Bool.{beq}
use Rattle.std.specs.Cmp.{booleans_Decides}
use Rattle.std.specs.List.{AllByRecursion, list_all}
use Rattle.std.specs.Option.{option_map}
use Rattle.std.specs.Ordering.{int_eq}
use Rattle.std.specs.Str.{bytes_eq}
use Rattle.asl_term.specs.declared.syntax.Var.{Var}
use Rattle.asl_term.specs.declared.syntax.LiteralOf.{LiteralOf}
use Rattle.asl_term.specs.declared.syntax.ListingOf.{ListingOf}
use Rattle.asl_term.specs.declared.syntax.ArithOf.{ArithOf}
use Rattle.asl_term.specs.declared.syntax.Term.{Term}
use Rattle.asl_term.specs.declared.syntax.Term.TheVariants as term
use Rattle.asl_term.specs.declared.syntax.Term.TheOpen.{Term-F}
use Rattle.asl_term.specs.declared.syntax.Term.TheOpen as layer
use Rattle.asl_term.specs.declared.syntax.Term.TheViews.{out-Term}
use Rattle.asl_term.specs.Layers.{made}
use Rattle.asl_term.specs.Same.{same_op, same_tree}
use Rattle.asl_term.specs.Trees.{same_var}
use Rattle.asl_term.proofs.Same.{same_var_self, same_op_true, same_true}
use Rattle.asl_term.proofs.Terms.{OfTail, by_cases, fold_num, fold_str, fold_var, fold_lit, fold_list, fold_op, map_literal, map_listing, map_arith, made_out, out_made}
use Rattle.asl_unify.specs.Puts.{ending, merged, put, put_step}
use Rattle.asl_unify.proofs.Puts.{put-nil, put-list}
use Rattle.asl_unify.proofs.General.{and_true, put-lit, put-op}
use Rattle.asl_unify.proofs.Laws.{put-var, flat-var, flat-put, Flat, FlatValues}
use Rattle.asl_lint.specs.declared.covers.Need.{Need}
use Rattle.asl_lint.specs.Covers.{Needs, need, nothing_if, both, all_need, rest, end_needs, list_needs, literal_needs, plain_needs, needs_step, same_head, needs, agree, one_each, can_be, can_become}

-- ---- needs of two parts

record Split (a b : Needs) (ps : List Need) : Type 0 where
  left : List Need
  right : List Need
  is_left : a ≡ Some left
  is_right : b ≡ Some right
  whole : ps ≡ left ++ right

split : (a b : Needs) (ps : List Need) → both a b ≡ Some ps → Split a b ps
split None b ps e = cc
split (Some qs) None ps e = cc
split (Some qs) (Some rs) ps e = record { left = qs; right = rs; is_left = refl; is_right = refl; whole = cc }

holds_if : (b : Bool) (ps : List Need) → nothing_if b ≡ Some ps → b ≡ true
holds_if true ps e = refl
holds_if false ps e = cc

cond_true : (b : Bool) (a : Needs) (ps : List Need) → cond b a None ≡ Some ps → (b ≡ true) × (a ≡ Some ps)
cond_true true a ps e = (refl, e)
cond_true false a ps e = cc

merged-append : (xs ys : List Term) (t : Term) → merged (xs ++ ys) t ≡ merged xs (merged ys t)
merged-append [] ys t = refl
merged-append (x ∷ xs) ys t = ap (λ z. merged (x ∷ []) z) (merged-append xs ys t)

-- a list in two parts
in_parts : (f : Term → Term) (n : ℕ) (items : List Term) (t : Term) → merged (map f (take n items)) (merged (map f (drop n items)) t) ≡ merged (map f items) t
in_parts f n items t =
    sym (merged-append (map f (take n items)) (map f (drop n items)) t)
    ∙ ap (λ z. merged z t) (sym (map-append f (take n items) (drop n items)))
    ∙ ap (λ z. merged (map f z) t) (take-append-drop n items)

put-rest : (h : Var → Term) (items : List Term) (tail : Option Term) → put h (rest items tail) ≡ merged (map (put h) items) (put h (ending tail))
put-rest h [] (Some t) = refl
put-rest h [] None = put-list h (record { items = []; tail = None })
put-rest h (x ∷ xs) tail = put-list h (record { items = x ∷ xs; tail = tail })

-- ---- met needs

module _ (v : Var → Term) where
  abbrev pub Met : List Need → Type 0
  Met = AllByRecursion (λ p. v p.var ≡ put term.Var p.term)

  met_parts : (ps qs : List Need) → Met (ps ++ qs) → Met ps × Met qs
  met_parts [] qs m = (tt, m)
  met_parts (p ∷ ps) qs m = let r = met_parts ps qs m.1 in ((m.0, r.0), r.1)

  met_split : (a b : Needs) (ps : List Need) (s : Split a b ps) → Met ps → Met s.left × Met s.right
  met_split a b ps s m = met_parts s.left s.right (subst Met s.whole m)

  -- what is to be shown of a term
  abbrev Becomes : Term → Type 0
  Becomes h = (g : Term) (ps : List Need) → needs h g ≡ Some ps → Met ps → put v h ≡ put term.Var g

  -- the same of the layer of the other
  by_other : (h : Term) → ((y : Term-F Term) (ps : List Need) → needs h (made y) ≡ Some ps → Met ps → put v h ≡ put term.Var (made y)) → Becomes h
  by_other h f g ps e m =
      let Q : Term → Type 0 = λ z. needs h z ≡ Some ps → put v h ≡ put term.Var z in
      subst Q (made_out g) (λ d. f (out-Term g) ps d m) e

  all_become : (hs gs : List Term) → AllByRecursion Becomes hs → (ps : List Need) → all_need (map needs hs) gs ≡ Some ps → Met ps
      → map (put v) hs ≡ map (put term.Var) gs
  all_become [] [] a ps e m = refl
  all_become [] (g ∷ gs) a ps e m = cc
  all_become (h ∷ hs) [] a ps e m = cc
  all_become (h ∷ hs) (g ∷ gs) a ps e m =
      let s = split (needs h g) (all_need (map needs hs) gs) ps e in
      let n = met_split (needs h g) (all_need (map needs hs) gs) ps s m in
      let one = a.0 g s.left s.is_left n.0 in
      let more = all_become hs gs a.1 s.right s.is_right n.1 in (λ i. one i ∷ more i)

  end_becomes : (t : Option Term) → OfTail Becomes t → (items : List Term) (tail : Option Term) (ps : List Need)
      → end_needs (option_map needs t) items tail ≡ Some ps → Met ps → put v (ending t) ≡ merged (map (put term.Var) items) (put term.Var (ending tail))
  end_becomes None a [] None ps e m = put-nil v ∙ sym (put-nil term.Var)
  end_becomes None a [] (Some u) ps e m = absurd (false≢true (holds_if false ps e))
  end_becomes None a (x ∷ xs) u ps e m = absurd (false≢true (holds_if false ps e))
  end_becomes (Some t) a items tail ps e m = a (rest items tail) ps e m ∙ put-rest term.Var items tail

  lists_become : (l m : ListingOf Term) → AllByRecursion Becomes l.items → OfTail Becomes l.tail → (ps : List Need)
      → list_needs (map needs l.items) (option_map needs l.tail) m.items m.tail ≡ Some ps → Met ps → put v (term.List l) ≡ put term.Var (term.List m)
  lists_become l m items tail ps e met =
      let n = length (map needs l.items) in
      let a = all_need (map needs l.items) (take n m.items) in
      let b = end_needs (option_map needs l.tail) (drop n m.items) m.tail in
      let s = split a b ps e in
      let q = met_split a b ps s met in
      let front = all_become l.items (take n m.items) items s.left s.is_left q.0 in
      let back = end_becomes l.tail tail (drop n m.items) m.tail s.right s.is_right q.1 in
      put-list v l ∙ (λ i. merged (front i) (back i)) ∙ in_parts (put term.Var) n m.items (put term.Var (ending m.tail)) ∙ sym (put-list term.Var m)

  lits_become : (l m : LiteralOf Term) → AllByRecursion Becomes l.args → AllByRecursion Becomes l.annots → (ps : List Need)
      → literal_needs l.neg l.functor (map needs l.args) (map needs l.annots) m ≡ Some ps → Met ps → put v (term.Lit l) ≡ put term.Var (term.Lit m)
  lits_become l m args annots ps e met =
      let a = all_need (map needs l.args) m.args in
      let b = all_need (map needs l.annots) m.annots in
      let c = cond_true (same_head l.neg l.functor m) (both a b) ps e in
      let d = and_true (beq l.neg m.neg) _ c.0 in
      let s = split a b ps c.1 in
      let q = met_split a b ps s met in
      let signs : l.neg ≡ m.neg = (booleans_Decides l.neg m.neg).0 d.0 in
      let names : l.functor ≡ m.functor = (bytes_eq-Decides l.functor m.functor).0 d.1 in
      let first = all_become l.args m.args args s.left s.is_left q.0 in
      let second = all_become l.annots m.annots annots s.right s.is_right q.1 in
      put-lit v l
      ∙ (λ i. term.Lit (record { neg = signs i; functor = names i; args = first i; annots = second i }))
      ∙ sym (put-lit term.Var m)

  ops_become : (a b : ArithOf Term) → Becomes a.left → Becomes a.right → (ps : List Need)
      → plain_needs (layer.Op (map_arith needs a)) (layer.Op b) ≡ Some ps → Met ps → put v (term.Op a) ≡ put term.Var (term.Op b)
  ops_become a b left right ps e met =
      let c = cond_true (same_op a.op b.op) (both (needs a.left b.left) (needs a.right b.right)) ps e in
      let s = split (needs a.left b.left) (needs a.right b.right) ps c.1 in
      let q = met_split (needs a.left b.left) (needs a.right b.right) ps s met in
      let ops : a.op ≡ b.op = same_op_true a.op b.op c.0 in
      let first = left b.left s.left s.is_left q.0 in
      let second = right b.right s.right s.is_right q.1 in
      put-op v a ∙ (λ i. term.Op (record { op = ops i; left = first i; right = second i })) ∙ sym (put-op term.Var b)

  put-num : (h : Var → Term) (n : ℤ) → put h (term.Num n) ≡ term.Num n
  put-num h n = fold_num Term (put_step h) n

  put-str : (h : Var → Term) (b : List ℕ) → put h (term.Str b) ≡ term.Str b
  put-str h b = fold_str Term (put_step h) b

  num_becomes : (n : ℤ) (y : Term-F Term) (ps : List Need) → plain_needs (layer.Num n) y ≡ Some ps → put v (term.Num n) ≡ put term.Var (made y)
  num_becomes n (layer.Num m) ps e = put-num v n ∙ ap term.Num ((Decides-int_eq n m).0 (holds_if (int_eq n m) ps e)) ∙ sym (put-num term.Var m)
  num_becomes n _ ps e = cc

  str_becomes : (b : List ℕ) (y : Term-F Term) (ps : List Need) → plain_needs (layer.Str b) y ≡ Some ps → put v (term.Str b) ≡ put term.Var (made y)
  str_becomes b (layer.Str c) ps e = put-str v b ∙ ap term.Str ((bytes_eq-Decides b c).0 (holds_if (bytes_eq b c) ps e)) ∙ sym (put-str term.Var c)
  str_becomes b _ ps e = cc

  lit_becomes : (l : LiteralOf Term) → AllByRecursion Becomes l.args → AllByRecursion Becomes l.annots → (y : Term-F Term) (ps : List Need)
      → plain_needs (layer.Lit (map_literal needs l)) y ≡ Some ps → Met ps → put v (term.Lit l) ≡ put term.Var (made y)
  lit_becomes l args annots (layer.Lit m) ps e met = lits_become l m args annots ps e met
  lit_becomes l args annots _ ps e met = cc

  list_becomes : (l : ListingOf Term) → AllByRecursion Becomes l.items → OfTail Becomes l.tail → (y : Term-F Term) (ps : List Need)
      → plain_needs (layer.List (map_listing needs l)) y ≡ Some ps → Met ps → put v (term.List l) ≡ put term.Var (made y)
  list_becomes l items tail (layer.List m) ps e met = lists_become l m items tail ps e met
  list_becomes l items tail _ ps e met = cc

  op_becomes : (a : ArithOf Term) → Becomes a.left → Becomes a.right → (y : Term-F Term) (ps : List Need)
      → plain_needs (layer.Op (map_arith needs a)) y ≡ Some ps → Met ps → put v (term.Op a) ≡ put term.Var (made y)
  op_becomes a left right (layer.Op b) ps e met = ops_become a b left right ps e met
  op_becomes a left right _ ps e met = cc

  one_need : (p : Need) (ps : List Need) → Some (p ∷ []) ≡ Some ps → ps ≡ p ∷ []
  one_need p ps e = cc

  pub meets : (h : Term) → Becomes h
  meets = by_cases Becomes (record {
    at_num = λ n. by_other (term.Num n) (λ y ps e m. num_becomes n y ps
        (ap (plain_needs (layer.Num n)) (sym (out_made y)) ∙ sym (ap (λ f. f (made y)) (fold_num (Term → Needs) needs_step n)) ∙ e));
    at_str = λ b. by_other (term.Str b) (λ y ps e m. str_becomes b y ps
        (ap (plain_needs (layer.Str b)) (sym (out_made y)) ∙ sym (ap (λ f. f (made y)) (fold_str (Term → Needs) needs_step b)) ∙ e));
    at_var = λ x g ps e m.
        let same = one_need (need x g) ps (sym (ap (λ f. f g) (fold_var (Term → Needs) needs_step x)) ∙ e) in
        put-var v x ∙ (subst Met same m).0;
    at_lit = λ l args annots. by_other (term.Lit l) (λ y ps e m. lit_becomes l args annots y ps
        (ap (plain_needs (layer.Lit (map_literal needs l))) (sym (out_made y)) ∙ sym (ap (λ f. f (made y)) (fold_lit (Term → Needs) needs_step l)) ∙ e) m);
    at_list = λ l items tail. by_other (term.List l) (λ y ps e m. list_becomes l items tail y ps
        (ap (plain_needs (layer.List (map_listing needs l))) (sym (out_made y)) ∙ sym (ap (λ f. f (made y)) (fold_list (Term → Needs) needs_step l)) ∙ e) m);
    at_op = λ a left right. by_other (term.Op a) (λ y ps e m. op_becomes a left right y ps
        (ap (plain_needs (layer.Op (map_arith needs a))) (sym (out_made y)) ∙ sym (ap (λ f. f (made y)) (fold_op (Term → Needs) needs_step a)) ∙ e) m);
  })

  all_meet : (hs : List Term) → AllByRecursion Becomes hs
  all_meet [] = tt
  all_meet (h ∷ hs) = (meets h, all_meet hs)

-- ---- values that meet needs

abbrev pub value_in : List Need → Var → Term
value_in [] x = term.Var x
value_in (p ∷ ps) x = cond (same_var p.var x) (put term.Var p.term) (value_in ps x)

pub flat_value : (ps : List Need) → FlatValues (value_in ps)
flat_value [] x = flat-var x
flat_value (p ∷ ps) x = go (same_var p.var x) (flat_value ps x) where
  go : (b : Bool) → Flat (value_in ps x) → Flat (cond b (put term.Var p.term) (value_in ps x))
  go true f = flat-put term.Var flat-var p.term
  go false f = f

abbrev MetBy : List Need → Need → Type 0
MetBy ps q = value_in ps q.var ≡ put term.Var q.term

one_agrees : (p q : Need) → same_var p.var q.var ≡ true → agree p q ≡ true → p.term ≡ q.term
one_agrees p q e a = same_true p.term q.term (go (same_var p.var q.var) e a) where
  go : (b : Bool) → b ≡ true → (not b || same_tree p.term q.term) ≡ true → same_tree p.term q.term ≡ true
  go true e a = a
  go false e a = absurd (false≢true e)

lift_one : (p q : Need) (ps : List Need) → agree p q ≡ true → MetBy ps q → MetBy (p ∷ ps) q
lift_one p q ps a m = go (same_var p.var q.var) refl where
  go : (b : Bool) → same_var p.var q.var ≡ b → cond b (put term.Var p.term) (value_in ps q.var) ≡ put term.Var q.term
  go true e = ap (put term.Var) (one_agrees p q e a)
  go false e = m

lift : (p : Need) (ps qs : List Need) → list_all (agree p) qs ≡ true → AllByRecursion (MetBy ps) qs → AllByRecursion (MetBy (p ∷ ps)) qs
lift p ps [] a m = tt
lift p ps (q ∷ qs) a m = let s = and_true (agree p q) _ a in (lift_one p q ps s.0 m.0, lift p ps qs s.1 m.1)

all_met : (ps : List Need) → one_each ps ≡ true → AllByRecursion (MetBy ps) ps
all_met [] e = tt
all_met (p ∷ ps) e =
    let s = and_true (list_all (agree p) ps) _ e in
    (ap (λ b. cond b (put term.Var p.term) (value_in ps p.var)) (same_var_self p.var), lift p ps ps s.0 (all_met ps s.1))

-- ---- some terms for the variables make both lists one

pub record Values (hs gs : List Term) : Type 0 where
  pub values : Var → Term
  pub flat : FlatValues values
  pub same : map (put values) hs ≡ map (put term.Var) gs

pub become_values : (hs gs : List Term) → can_become hs gs ≡ true → Values hs gs
become_values hs gs e = go (all_need (map needs hs) gs) refl e where
  go : (n : Needs) → all_need (map needs hs) gs ≡ n → can_be n ≡ true → Values hs gs
  go None d e = absurd (false≢true e)
  go (Some ps) d e = record {
    values = value_in ps;
    flat = flat_value ps;
    same = all_become (value_in ps) hs gs (all_meet (value_in ps) hs) ps d (all_met ps e);
  }
