-- What makes a term another is found as needs.
use Rattle.std.proofs.Common.{◌≡◌, ℕ, Bool, true, false, not, ◌&&◌, ◌||◌, cond, List, [], ◌∷◌, ◌++◌, map, length, take, drop, Option, Some, None, refl, sym, ap, ◌∙◌, subst}
use Rattle.std.proofs.lemmas.Bool.{false≢true}
use Rattle.std.proofs.lemmas.Bool.Decides.{Decides-int_eq}
use Rattle.std.proofs.lemmas.List.{length-map}
use Rattle.std.proofs.lemmas.Slice.Eq.{bytes_eq-Decides}
use Rattle.std.specs.Bool.{beq}
use Rattle.std.specs.Cmp.{booleans_Decides}
use Rattle.std.specs.List.{AllByRecursion, list_all}
use Rattle.std.specs.Option.{option_map}
use Rattle.std.specs.Ordering.{int_eq}
use Rattle.std.specs.Str.{bytes_eq}
use Rattle.asl_term.specs.declared.syntax.Var.{Var}
use Rattle.asl_term.specs.declared.syntax.LiteralOf.{LiteralOf}
use Rattle.asl_term.specs.declared.syntax.ListingOf.{ListingOf}
use Rattle.asl_term.specs.declared.syntax.ArithOf.{ArithOf}
use Rattle.asl_term.specs.declared.syntax.Term.{Term}
use Rattle.asl_term.specs.declared.syntax.Term.TheVariants as term
use Rattle.asl_term.specs.declared.syntax.Term.TheOpen as layer
use Rattle.asl_term.specs.Same.{same_op, same_tree}
use Rattle.asl_term.specs.Trees.{all, or_true, same_var}
use Rattle.asl_term.proofs.Same.{same_var_true, same_op_self, same_self}
use Rattle.asl_term.proofs.Terms.{OfTail, by_cases, fold_num, fold_str, fold_lit, fold_list, fold_op, map_arith}
use Rattle.asl_unify.specs.Puts.{nil, ending, cons, cons_list, list_of, merged, put, put_step}
use Rattle.asl_unify.specs.Unifiers.{items_before, is_tidy, is_tidy_step}
use Rattle.asl_unify.proofs.Puts.{put-nil, put-list, put-put, list_of-made}
use Rattle.asl_unify.proofs.General.{and_true, put-lit, put-op}
use Rattle.asl_unify.proofs.Laws.{put-var, flat-var, flat-put, Flat, FlatValues}
use Rattle.asl_lint.specs.declared.covers.Need.{Need}
use Rattle.asl_lint.specs.Covers.{Needs, need, nothing_if, both, all_need, rest, end_needs, list_needs, literal_needs, plain_needs, same_head, needs, agree, one_each, can_be, can_become, covers, from_any}
use Rattle.asl_lint.specs.Instances.{IsInstance, IsCovered, AreTidy, AreMerged, CoversTells}
use Rattle.asl_lint.proofs.Needing.{needs_var, needs_num, needs_str, needs_lit, needs_list, needs_op}
use Rattle.asl_lint.proofs.Becoming.{become_values}

-- ---- what is at the end of a list is not a list without items that has a tail

abbrev Ends : Term → Type 0
Ends u = (l : ListingOf Term) → list_of u ≡ Some l → rest l.items l.tail ≡ u

no_list : (t : Term) → list_of t ≡ None → Ends t
no_list t e l is = let both : None ≡ Some l = sym e ∙ is in cc

ends_at : (t u : Term) → t ≡ u → Ends u → Ends t
ends_at t u e f = subst Ends (sym e) f

nil_ends : Ends nil
nil_ends l is = let same : Some (record { items = []; tail = None }) ≡ Some l = sym (list_of-made (layer.List (record { items = []; tail = None }))) ∙ is in
    go l cc where
      go : (l : ListingOf Term) → record { items = []; tail = None } ≡ l → rest l.items l.tail ≡ nil
      go l e = subst (λ (k : ListingOf Term). rest k.items k.tail ≡ nil) e refl

items_end : (x : Term) (xs : List Term) (tail : Option Term) → Ends (term.List (record { items = x ∷ xs; tail = tail }))
items_end x xs tail l is =
    let m : ListingOf Term = record { items = x ∷ xs; tail = tail } in
    let same : Some m ≡ Some l = sym (list_of-made (layer.List m)) ∙ is in
    let one : m ≡ l = cc in
    subst (λ (k : ListingOf Term). rest k.items k.tail ≡ term.List m) one refl

cons_ends : (x t : Term) → Ends (cons x t)
cons_ends x t = go (list_of t) where
  go : (o : Option (ListingOf Term)) → Ends (cons_list x t o)
  go None = items_end x [] (Some t)
  go (Some l) = items_end x l.items l.tail

abbrev PutEnds : (Var → Term) → Term → Type 0
PutEnds k w = Ends (put k w)

put_ends : (w : Term) → PutEnds term.Var w
put_ends = by_cases (PutEnds term.Var) (record {
  at_num = λ n. ends_at _ _ (fold_num Term (put_step term.Var) n) (no_list (term.Num n) (list_of-made (layer.Num n)));
  at_str = λ b. ends_at _ _ (fold_str Term (put_step term.Var) b) (no_list (term.Str b) (list_of-made (layer.Str b)));
  at_var = λ x. ends_at _ _ (put-var term.Var x) (no_list (term.Var x) (list_of-made (layer.Var x)));
  at_lit = λ l args annots. ends_at _ _ (put-lit term.Var l)
      (no_list _ (list_of-made (layer.Lit (record l { args = map (put term.Var) l.args; annots = map (put term.Var) l.annots }))));
  at_list = λ l items tail. ends_at _ _ (put-list term.Var l) (list_ends l.items l.tail tail);
  at_op = λ a left right. ends_at _ _ (put-op term.Var a)
      (no_list _ (list_of-made (layer.Op (record a { left = put term.Var a.left; right = put term.Var a.right }))));
}) where
  list_ends : (items : List Term) (tail : Option Term) → OfTail (PutEnds term.Var) tail → Ends (merged (map (put term.Var) items) (put term.Var (ending tail)))
  list_ends [] None f = ends_at _ _ (put-nil term.Var) nil_ends
  list_ends [] (Some t) f = f
  list_ends (x ∷ xs) tail f = cons_ends (put term.Var x) (merged (map (put term.Var) xs) (put term.Var (ending tail)))

flat_ends : (u : Term) → Flat u → Ends u
flat_ends u f = subst Ends f (put_ends u)

-- ---- items before what ends them

record Made (xs : List Term) (u : Term) : Type 0 where
  list : ListingOf Term
  is : merged xs u ≡ term.List list
  front : take (length xs) list.items ≡ xs
  behind : rest (drop (length xs) list.items) list.tail ≡ u

made_of : (x : Term) (xs : List Term) (u : Term) → Ends u → Made (x ∷ xs) u
made_of x [] u f = go (list_of u) refl where
  go : (o : Option (ListingOf Term)) → list_of u ≡ o → Made (x ∷ []) u
  go None e = record {
    list = record { items = x ∷ []; tail = Some u };
    is = ap (cons_list x u) e;
    front = refl;
    behind = refl;
  }
  go (Some l) e = record {
    list = record { items = x ∷ l.items; tail = l.tail };
    is = ap (cons_list x u) e;
    front = refl;
    behind = f l e;
  }
made_of x (y ∷ ys) u f =
    let m = made_of y ys u f in
    record {
      list = record { items = x ∷ m.list.items; tail = m.list.tail };
      is = ap (cons x) m.is ∙ ap (cons_list x (term.List m.list)) (list_of-made (layer.List m.list));
      front = ap (λ z. x ∷ z) m.front;
      behind = m.behind;
    }

ended : (xs : List Term) → merged xs nil ≡ term.List (record { items = xs; tail = None })
ended [] = refl
ended (x ∷ xs) =
    ap (cons x) (ended xs)
    ∙ ap (cons_list x (term.List (record { items = xs; tail = None }))) (list_of-made (layer.List (record { items = xs; tail = None })))

-- ---- needs that are found

module _ (v : Var → Term) (flat : FlatValues v) where
  abbrev Has : Need → Type 0
  Has p = v p.var ≡ p.term

  record Found (n : Needs) : Type 0 where
    found : List Need
    is : n ≡ Some found
    has : AllByRecursion Has found

  found_at : (a b : Needs) → a ≡ b → Found b → Found a
  found_at a b e f = record { found = f.found; is = e ∙ f.is; has = f.has }

  has_both : (ps qs : List Need) → AllByRecursion Has ps → AllByRecursion Has qs → AllByRecursion Has (ps ++ qs)
  has_both [] qs f g = g
  has_both (p ∷ ps) qs f g = (f.0, has_both ps qs f.1 g)

  found_both : (a b : Needs) → Found a → Found b → Found (both a b)
  found_both a b f g = record { found = f.found ++ g.found; is = (λ i. both (f.is i) (g.is i)); has = has_both f.found g.found f.has g.has }

  found_nothing : (b : Bool) → b ≡ true → Found (nothing_if b)
  found_nothing b e = record { found = []; is = ap nothing_if e; has = tt }

  found_cond : (b : Bool) (a : Needs) → b ≡ true → Found a → Found (cond b a None)
  found_cond b a e f = found_at (cond b a None) a (ap (λ x. cond x a None) e) f

  abbrev Finds : Term → Type 0
  Finds h = is_tidy h ≡ true → Found (needs h (put v h))

  all_find : (hs : List Term) → AllByRecursion Finds hs → all (map is_tidy hs) ≡ true → Found (all_need (map needs hs) (map (put v) hs))
  all_find [] f e = record { found = []; is = refl; has = tt }
  all_find (h ∷ hs) f e =
      let t = and_true (is_tidy h) (all (map is_tidy hs)) e in
      found_both (needs h (put v h)) (all_need (map needs hs) (map (put v) hs)) (f.0 t.0) (all_find hs f.1 t.1)

  -- at a term that h becomes
  found_by : (h g : Term) (n : Needs) → put v h ≡ g → needs h g ≡ n → Found n → Found (needs h (put v h))
  found_by h g n e d f = found_at (needs h (put v h)) n (ap (needs h) e ∙ d) f

  head_self : (neg : Bool) (functor : List ℕ) (m : LiteralOf Term) → neg ≡ m.neg → functor ≡ m.functor → same_head neg functor m ≡ true
  head_self neg functor m e d =
      ap (λ b. b && bytes_eq functor m.functor) ((booleans_Decides neg m.neg).1 e) ∙ (bytes_eq-Decides functor m.functor).1 d

  lit_finds : (l : LiteralOf Term) → AllByRecursion Finds l.args → AllByRecursion Finds l.annots → Finds (term.Lit l)
  lit_finds l args annots e =
      let m : LiteralOf Term = record l { args = map (put v) l.args; annots = map (put v) l.annots } in
      let t = and_true (all (map is_tidy l.args)) (all (map is_tidy l.annots)) (sym (fold_lit Bool is_tidy_step l) ∙ e) in
      found_by (term.Lit l) (term.Lit m) (literal_needs l.neg l.functor (map needs l.args) (map needs l.annots) m) (put-lit v l) (needs_lit l m)
      (found_cond (same_head l.neg l.functor m) (both (all_need (map needs l.args) m.args) (all_need (map needs l.annots) m.annots))
      (head_self l.neg l.functor m refl refl)
      (found_both (all_need (map needs l.args) m.args) (all_need (map needs l.annots) m.annots) (all_find l.args args t.0) (all_find l.annots annots t.1)))

  op_finds : (a : ArithOf Term) → Finds a.left → Finds a.right → Finds (term.Op a)
  op_finds a left right e =
      let b : ArithOf Term = record a { left = put v a.left; right = put v a.right } in
      let t = and_true (is_tidy a.left) (is_tidy a.right) (sym (fold_op Bool is_tidy_step a) ∙ e) in
      found_by (term.Op a) (term.Op b) (plain_needs (layer.Op (map_arith needs a)) (layer.Op b)) (put-op v a) (needs_op a b)
      (found_cond (same_op a.op b.op) (both (needs a.left b.left) (needs a.right b.right)) (same_op_self a.op)
      (found_both (needs a.left b.left) (needs a.right b.right) (left t.0) (right t.1)))

  -- the parts of a list, by how many items there are
  abbrev parts : ℕ → List (Term → Needs) → Option (Term → Needs) → ListingOf Term → Needs
  parts n fs end m = both (all_need fs (take n m.items)) (end_needs end (drop n m.items) m.tail)

  found_parts : (l m : ListingOf Term) (n : ℕ) → length (map needs l.items) ≡ n → Found (parts n (map needs l.items) (option_map needs l.tail) m)
      → Found (list_needs (map needs l.items) (option_map needs l.tail) m.items m.tail)
  found_parts l m n e f = found_at _ (parts n (map needs l.items) (option_map needs l.tail) m)
      (ap (λ k. parts k (map needs l.items) (option_map needs l.tail) m) e) f

  take_whole : {A : Type 0} (xs : List A) → take (length xs) xs ≡ xs
  take_whole [] = refl
  take_whole (x ∷ xs) = ap (λ z. x ∷ z) (take_whole xs)

  drop_whole : {A : Type 0} (xs : List A) → drop (length xs) xs ≡ []
  drop_whole [] = refl
  drop_whole (x ∷ xs) = drop_whole xs

  list_finds : (l : ListingOf Term) → AllByRecursion Finds l.items → OfTail Finds l.tail → Finds (term.List l)
  list_finds l items tail e =
      let t = and_true (all (map is_tidy l.items) && or_true (option_map is_tidy l.tail)) _ (sym (fold_list Bool is_tidy_step l) ∙ e) in
      let s = and_true (all (map is_tidy l.items)) (or_true (option_map is_tidy l.tail)) t.0 in
      go l.items l.tail items tail s.0 s.1 t.1
    where
      go : (xs : List Term) (end : Option Term) → AllByRecursion Finds xs → OfTail Finds end → all (map is_tidy xs) ≡ true
          → or_true (option_map is_tidy end) ≡ true
          → items_before (map is_tidy xs) (option_map is_tidy end) ≡ true
          → Found (needs (term.List (record { items = xs; tail = end })) (put v (term.List (record { items = xs; tail = end }))))
      go xs None f g a b c =
          let k : ListingOf Term = record { items = xs; tail = None } in
          let ys = map (put v) xs in
          let m : ListingOf Term = record { items = ys; tail = None } in
          found_by (term.List k) (term.List m) (list_needs (map needs xs) None ys None)
          (put-list v k ∙ ap (merged ys) (put-nil v) ∙ ended ys) (needs_list k m)
          (found_parts k m (length ys) (length-map xs needs ∙ sym (length-map xs (put v)))
          (found_at (parts (length ys) (map needs xs) None m) (both (all_need (map needs xs) ys) (nothing_if true))
          (λ i. both (all_need (map needs xs) (take_whole ys i)) (end_needs None (drop_whole ys i) None))
          (found_both (all_need (map needs xs) ys) (nothing_if true) (all_find xs f a) (found_nothing true refl))))
      go [] (Some t) f g a b c = absurd (false≢true c)
      go (x ∷ xs) (Some t) f g a b c =
          let k : ListingOf Term = record { items = x ∷ xs; tail = Some t } in
          let ys = map (put v) (x ∷ xs) in
          let m = made_of (put v x) (map (put v) xs) (put v t) (flat_ends (put v t) (flat-put v flat t)) in
          found_by (term.List k) (term.List m.list) (list_needs (map needs (x ∷ xs)) (Some (needs t)) m.list.items m.list.tail)
          (put-list v k ∙ m.is) (needs_list k m.list)
          (found_parts k m.list (length ys) (length-map (x ∷ xs) needs ∙ sym (length-map (x ∷ xs) (put v)))
          (found_at (parts (length ys) (map needs (x ∷ xs)) (Some (needs t)) m.list) (both (all_need (map needs (x ∷ xs)) ys) (needs t (put v t)))
          (λ i. both (all_need (map needs (x ∷ xs)) (m.front i)) (needs t (m.behind i)))
          (found_both (all_need (map needs (x ∷ xs)) ys) (needs t (put v t)) (all_find (x ∷ xs) f a) (g b))))

  finds : (h : Term) → Finds h
  finds = by_cases Finds (record {
    at_num = λ n e. found_by (term.Num n) (term.Num n) (nothing_if (int_eq n n)) (fold_num Term (put_step v) n) (needs_num n (layer.Num n))
        (found_nothing (int_eq n n) ((Decides-int_eq n n).1 refl));
    at_str = λ b e. found_by (term.Str b) (term.Str b) (nothing_if (bytes_eq b b)) (fold_str Term (put_step v) b) (needs_str b (layer.Str b))
        (found_nothing (bytes_eq b b) ((bytes_eq-Decides b b).1 refl));
    at_var = λ x e. record { found = need x (put v (term.Var x)) ∷ []; is = needs_var x (put v (term.Var x)); has = (sym (put-var v x), tt) };
    at_lit = lit_finds;
    at_list = list_finds;
    at_op = op_finds;
  })

  -- ---- they are one term for each variable

  agree_self : (p q : Need) → Has p → Has q → agree p q ≡ true
  agree_self p q f g = go (same_var p.var q.var) refl where
    go : (b : Bool) → same_var p.var q.var ≡ b → (not b || same_tree p.term q.term) ≡ true
    go false e = refl
    go true e =
        let same : p.term ≡ q.term = sym f ∙ ap v (same_var_true p.var q.var e) ∙ g in
        ap (same_tree p.term) (sym same) ∙ same_self p.term

  agree_all : (p : Need) (qs : List Need) → Has p → AllByRecursion Has qs → list_all (agree p) qs ≡ true
  agree_all p [] f g = refl
  agree_all p (q ∷ qs) f g = ap (λ b. b && list_all (agree p) qs) (agree_self p q f g.0) ∙ agree_all p qs f g.1

  one_for_each : (ps : List Need) → AllByRecursion Has ps → one_each ps ≡ true
  one_for_each [] f = refl
  one_for_each (p ∷ ps) f = ap (λ b. b && one_each ps) (agree_all p ps f.0 f.1) ∙ one_for_each ps f.1

  all_finds : (hs : List Term) → AllByRecursion Finds hs
  all_finds [] = tt
  all_finds (h ∷ hs) = (finds h, all_finds hs)

  all_tidy : (hs : List Term) → AreTidy hs → all (map is_tidy hs) ≡ true
  all_tidy [] f = refl
  all_tidy (h ∷ hs) f = ap (λ b. b && all (map is_tidy hs)) f.0 ∙ all_tidy hs f.1

  pub found_become : (hs : List Term) → AreTidy hs → can_become hs (map (put v) hs) ≡ true
  found_become hs t =
      let f = all_find hs (all_finds hs) (all_tidy hs t) in
      ap can_be f.is ∙ one_for_each f.found f.has

-- ---- both ways

map_twice : (f k : Term → Term) (ts : List Term) → map (λ t. f (k t)) ts ≡ map f (map k ts)
map_twice f k [] = refl
map_twice f k (t ∷ ts) = ap (λ us. f (k t) ∷ us) (map_twice f k ts)

all_same : (f k : Term → Term) → ((t : Term) → f t ≡ k t) → (ts : List Term) → map f ts ≡ map k ts
all_same f k e [] = refl
all_same f k e (t ∷ ts) = let one = e t in let more = all_same f k e ts in (λ i. one i ∷ more i)

become : (h g : LiteralOf Term) → AreTidy h.args → AreMerged g.args → IsInstance h g → can_become h.args g.args ≡ true
become h g t m i =
    let v : Var → Term = λ x. put term.Var (i.values x) in
    let flat : FlatValues v = λ x. flat-put term.Var flat-var (i.values x) in
    let same : map (put v) h.args ≡ g.args =
    all_same (put v) (λ s. put term.Var (put i.values s)) (λ s. sym (put-put term.Var i.values s)) h.args
    ∙ map_twice (put term.Var) (put i.values) h.args ∙ ap (map (put term.Var)) i.args ∙ m in
    ap (can_become h.args) (sym same) ∙ found_become v flat h.args t

pub covers_tells : CoversTells
covers_tells h g t m = (to, from) where
  to : covers h g ≡ true → IsCovered h g
  to e =
      let a = and_true (same_head h.neg h.functor g && can_become h.args g.args) (from_any h.args h.annots) e in
      let b = and_true (same_head h.neg h.functor g) (can_become h.args g.args) a.0 in
      let c = and_true (beq h.neg g.neg) (bytes_eq h.functor g.functor) b.0 in
      let v = become_values h.args g.args b.1 in
      record {
        instance = record {
          sign = (booleans_Decides h.neg g.neg).0 c.0;
          functor = (bytes_eq-Decides h.functor g.functor).0 c.1;
          values = v.values;
          args = v.same ∙ m;
        };
        any_source = a.1;
      }

  from : IsCovered h g → covers h g ≡ true
  from c =
      let i = c.instance in
      let head : same_head h.neg h.functor g ≡ true =
      ap (λ b. b && bytes_eq h.functor g.functor) ((booleans_Decides h.neg g.neg).1 i.sign) ∙ (bytes_eq-Decides h.functor g.functor).1 i.functor in
      ap (λ b. b && can_become h.args g.args && from_any h.args h.annots) head
      ∙ ap (λ b. b && from_any h.args h.annots) (become h g t m i)
      ∙ c.any_source
