-- What a term settles to is settled, is no greater, and has its lists merged where the term has.
use Rattle.std.proofs.Common.{◌≡◌, ◌≤◌, ℕ, ℤ, ◌+◌, max, Bool, true, List, [], ◌∷◌, map, sum, Option, Some, None, refl, ap, sym, ◌∙◌, subst, arith}
use Rattle.std.specs.List.{AllByRecursion}
use Rattle.std.specs.Option.{option_map}
use Rattle.std.specs.Prelude.{Ok, Err}
use Rattle.std.proofs.lemmas.List.Sums.{sum_by-cons}
use Rattle.asl_term.specs.declared.syntax.ArithOf.{ArithOf}
use Rattle.asl_term.specs.declared.syntax.ListingOf.{ListingOf}
use Rattle.asl_term.specs.declared.syntax.LiteralOf.{LiteralOf}
use Rattle.asl_term.specs.declared.syntax.Op.{Op}
use Rattle.asl_term.specs.declared.syntax.Term.{Term}
use Rattle.asl_term.specs.declared.syntax.Term.TheVariants as term
use Rattle.asl_term.specs.declared.syntax.Term.TheOpen.{Term-F}
use Rattle.asl_term.specs.declared.syntax.Term.TheOpen as layer
use Rattle.asl_term.specs.Layers.{made}
use Rattle.asl_term.specs.Trees.{all, depth, depth_step, greatest, is_ground, ground_step, or_true, or_zero, size, size_step}
use Rattle.asl_term.proofs.Terms.{OfTail, by_cases, fold_num, fold_str, fold_var, fold_lit, fold_list, fold_op, out_made}
use Rattle.asl_term.proofs.Grounds.{ground_lit, ground_list}
use Rattle.asl_unify.specs.Puts.{cons, cons_list, ending, list_of, merged, nil, put, put_step}
use Rattle.asl_unify.specs.Settling.{Settled, and_then, each, if_any, number_in, number_of, operation, or_failing, settle, settle_step, value_if, with_parts}
use Rattle.asl_unify.proofs.Puts.{list_of-made, put-list, put-nil}
use Rattle.asl_unify.proofs.General.{put-lit, put-op}
use Rattle.asl_unify.proofs.Views.{by_layers}
use Rattle.mas_world.proofs.Settles.{both}
use Rattle.mas_world.proofs.Sound.{first_of_both, second_of_both}

-- ---- lists as cells

module _ (x y : Term) (settles : settle x ≡ Ok y) where
  -- of a list
  before_list : (l : ListingOf Term) (u : Term) (items : Settled (List Term)) (tail : Settled (Option Term)) → each (map settle l.items) ≡ items → if_any (option_map settle l.tail) ≡ tail
      → and_then items (λ xs. and_then tail (λ t. Ok (term.List (record { items = xs; tail = t })))) ≡ Ok u
      → settle (term.List (record { items = x ∷ l.items; tail = l.tail })) ≡ Ok (cons y u)
  before_list l u (Err e) tail p q h = cc
  before_list l u (Ok xs) (Err e) p q h = cc
  before_list l u (Ok xs) (Ok t) p q h =
      let new : ListingOf Term = record { items = xs; tail = t } in
      let is : term.List new ≡ u = cc in
      fold_list (Settled Term) settle_step (record { items = x ∷ l.items; tail = l.tail })
      ∙ (λ i. and_then (and_then (settles i) (λ x. and_then (p i) (λ xs. Ok (x ∷ xs)))) (λ xs. and_then (q i) (λ t. Ok (term.List (record { items = xs; tail = t })))))
      ∙ ap (λ o. Ok (cons_list y (term.List new) o)) (sym (list_of-made (layer.List new)))
      ∙ ap (λ z. Ok (cons y z)) is

  -- of another term
  before_other : (t u : Term) → list_of t ≡ None → list_of u ≡ None → settle t ≡ Ok u → settle (cons x t) ≡ Ok (cons y u)
  before_other t u p q h =
      ap (λ o. settle (cons_list x t o)) p
      ∙ fold_list (Settled Term) settle_step (record { items = x ∷ []; tail = Some t })
      ∙ (λ i. and_then (and_then (settles i) (λ x. Ok (x ∷ []))) (λ xs. and_then (and_then (h i) (λ t. Ok (Some t))) (λ t. Ok (term.List (record { items = xs; tail = t })))))
      ∙ ap (λ o. Ok (cons_list y u o)) (sym q)

  of_literal : (s : Settled (LiteralOf Term)) (u : Term) → and_then s (λ m. Ok (term.Lit m)) ≡ Ok u → list_of u ≡ None
  of_literal (Err e) u h = cc
  of_literal (Ok m) u h = let is : term.Lit m ≡ u = cc in ap list_of (sym is) ∙ list_of-made (layer.Lit m)

  of_operation : (op : Op) (a b : Settled Term) (u : Term) → and_then a (λ x. and_then b (λ y. and_then (operation op x y) (λ n. Ok (term.Num n)))) ≡ Ok u → list_of u ≡ None
  of_operation op (Err e) b u h = cc
  of_operation op (Ok x) (Err e) u h = cc
  of_operation op (Ok x) (Ok y) u h = go (operation op x y) h where
    go : (s : Settled ℤ) → and_then s (λ n. Ok (term.Num n)) ≡ Ok u → list_of u ≡ None
    go (Err e) h = cc
    go (Ok n) h = let is : term.Num n ≡ u = cc in ap list_of (sym is) ∙ list_of-made (layer.Num n)

  leaf_is : (t u v : Term) → settle t ≡ Ok t → settle t ≡ Ok u → t ≡ u
  leaf_is t u v e h = cc

  at : (z : Term-F Term) (u : Term) → settle (made z) ≡ Ok u → settle (cons x (made z)) ≡ Ok (cons y u)
  at (layer.List l) u h =
      ap (λ o. settle (cons_list x (term.List l) o)) (list_of-made (layer.List l))
      ∙ before_list l u (each (map settle l.items)) (if_any (option_map settle l.tail)) refl refl (sym (fold_list (Settled Term) settle_step l) ∙ h)
  at (layer.Num n) u h =
      let is = leaf_is (term.Num n) u u (fold_num (Settled Term) settle_step n) h in
      before_other (term.Num n) u (list_of-made (layer.Num n)) (ap list_of (sym is) ∙ list_of-made (layer.Num n)) h
  at (layer.Str n) u h =
      let is = leaf_is (term.Str n) u u (fold_str (Settled Term) settle_step n) h in
      before_other (term.Str n) u (list_of-made (layer.Str n)) (ap list_of (sym is) ∙ list_of-made (layer.Str n)) h
  at (layer.Var n) u h =
      let is = leaf_is (term.Var n) u u (fold_var (Settled Term) settle_step n) h in
      before_other (term.Var n) u (list_of-made (layer.Var n)) (ap list_of (sym is) ∙ list_of-made (layer.Var n)) h
  at (layer.Lit l) u h =
      before_other (term.Lit l) u (list_of-made (layer.Lit l))
      (of_literal (with_parts l (each (map settle l.args)) (each (map settle l.annots))) u (sym (fold_lit (Settled Term) settle_step l) ∙ h)) h
  at (layer.Op a) u h =
      before_other (term.Op a) u (list_of-made (layer.Op a))
      (of_operation a.op (settle a.left) (settle a.right) u (sym (fold_op (Settled Term) settle_step a) ∙ h)) h

  settle_cons : (t u : Term) → settle t ≡ Ok u → settle (cons x t) ≡ Ok (cons y u)
  settle_cons = by_layers (λ t. (u : Term) → settle t ≡ Ok u → settle (cons x t) ≡ Ok (cons y u)) at

-- items before what ends them
settle_merged : (xs ys : List Term) (t u : Term) → each (map settle xs) ≡ Ok ys → settle t ≡ Ok u → settle (merged xs t) ≡ Ok (merged ys u)
settle_merged [] ys t u e h = let is : [] ≡ ys = cc in h ∙ ap (λ z. Ok (merged z u)) is
settle_merged (x ∷ xs) ys t u e h = go (λ zs q. settle_merged xs zs t u q h) (settle x) (each (map settle xs)) refl refl e where
  go : ((zs : List Term) → each (map settle xs) ≡ Ok zs → settle (merged xs t) ≡ Ok (merged zs u)) → (a : Settled Term) (b : Settled (List Term)) → settle x ≡ a → each (map settle xs) ≡ b → and_then a (λ x. and_then b (λ xs. Ok (x ∷ xs))) ≡ Ok ys → settle (merged (x ∷ xs) t) ≡ Ok (merged ys u)
  go more (Err f) b p q e = cc
  go more (Ok y) (Err f) p q e = cc
  go more (Ok y) (Ok zs) p q e =
      let is : y ∷ zs ≡ ys = cc in
      settle_cons x y p (merged xs t) (merged zs u) (more zs q) ∙ ap (λ z. Ok (merged z u)) is

-- ---- terms

pub record Becomes (t r : Term) : Type 0 where
  pub nodes : size r ≤ size t
  pub levels : depth r ≤ depth t
  pub ground : is_ground t ≡ true → is_ground r ≡ true
  pub again : settle r ≡ Ok r
  pub merges : settle (put term.Var t) ≡ Ok (put term.Var r)

pub record AllBecome (ts rs : List Term) : Type 0 where
  pub nodes : sum (map size rs) ≤ sum (map size ts)
  pub levels : greatest (map depth rs) ≤ greatest (map depth ts)
  pub ground : all (map is_ground ts) ≡ true → all (map is_ground rs) ≡ true
  pub again : each (map settle rs) ≡ Ok rs
  pub merges : each (map settle (map (put term.Var) ts)) ≡ Ok (map (put term.Var) rs)

record TailBecomes (t r : Option Term) : Type 0 where
  nodes : or_zero (option_map size r) ≤ or_zero (option_map size t)
  levels : or_zero (option_map depth r) ≤ or_zero (option_map depth t)
  ground : or_true (option_map is_ground t) ≡ true → or_true (option_map is_ground r) ≡ true
  again : if_any (option_map settle r) ≡ Ok r
  merges : settle (put term.Var (ending t)) ≡ Ok (put term.Var (ending r))

abbrev Turns : Term → Type 0
Turns t = (r : Term) → settle t ≡ Ok r → Becomes t r

abbrev AllTurn : List Term → Type 0
AllTurn ts = (rs : List Term) → each (map settle ts) ≡ Ok rs → AllBecome ts rs

-- what stays as it is
leaf : (t : Term) → settle t ≡ Ok t → put term.Var t ≡ t → Becomes t t
leaf t e p = record { nodes = omega arith; levels = omega arith; ground = λ g. g; again = e; merges = ap settle p ∙ e ∙ ap Ok (sym p) }

stays : (t r : Term) → settle t ≡ Ok t → put term.Var t ≡ t → settle t ≡ Ok r → Becomes t r
stays t r e p h = let is : t ≡ r = cc in subst (Becomes t) is (leaf t e p)

none_become : AllBecome [] []
none_become = record { nodes = omega arith; levels = omega arith; ground = λ g. g; again = refl; merges = refl }

pub sizes_more : (t : Term) (ts : List Term) → sum (map size (t ∷ ts)) ≡ size t + sum (map size ts)
sizes_more t ts = sum_by-cons (λ n. n) (size t) (map size ts)

one_more : (t : Term) (ts : List Term) (x : Term) (xs : List Term) → Becomes t x → AllBecome ts xs → AllBecome (t ∷ ts) (x ∷ xs)
one_more t ts x xs b c =
    let n = b.nodes in
    let m = c.nodes in
    let d = b.levels in
    let l = c.levels in
    let n1 = sizes_more x xs in
    let n2 = sizes_more t ts in
    let l1 : greatest (map depth (x ∷ xs)) ≡ max (depth x) (greatest (map depth xs)) = refl in
    let l2 : greatest (map depth (t ∷ ts)) ≡ max (depth t) (greatest (map depth ts)) = refl in record {
      nodes = omega (arith, n, m, n1, n2);
      levels = omega (arith, d, l, l1, l2);
      ground = λ g. both (is_ground x) (all (map is_ground xs))
          (b.ground (first_of_both (is_ground t) (all (map is_ground ts)) g)) (c.ground (second_of_both (is_ground t) (all (map is_ground ts)) g));
      again = λ i. and_then (b.again i) (λ y. and_then (c.again i) (λ ys. Ok (y ∷ ys)));
      merges = λ i. and_then (b.merges i) (λ y. and_then (c.merges i) (λ ys. Ok (y ∷ ys)));
    }

all_turn : (ts : List Term) → AllByRecursion Turns ts → AllTurn ts
all_turn [] a rs h = let is : [] ≡ rs = cc in subst (AllBecome []) is none_become
all_turn (t ∷ ts) a rs h = go (all_turn ts a.1) (settle t) (each (map settle ts)) refl refl h where
  go : AllTurn ts → (s : Settled Term) (more : Settled (List Term)) → settle t ≡ s → each (map settle ts) ≡ more → and_then s (λ x. and_then more (λ xs. Ok (x ∷ xs))) ≡ Ok rs → AllBecome (t ∷ ts) rs
  go rest (Err e) more p q h = cc
  go rest (Ok x) (Err e) p q h = cc
  go rest (Ok x) (Ok xs) p q h = let is : x ∷ xs ≡ rs = cc in subst (AllBecome (t ∷ ts)) is (one_more t ts x xs (a.0 x p) (rest xs q))

settle_nil : settle nil ≡ Ok nil
settle_nil = fold_list (Settled Term) settle_step (record { items = []; tail = None })

tail_turns : (t : Option Term) → OfTail Turns t → (r : Option Term) → if_any (option_map settle t) ≡ Ok r → TailBecomes t r
tail_turns None a r h =
    let is : None ≡ r = cc in
    let stays : TailBecomes None None = record {
      nodes = omega arith;
      levels = omega arith;
      ground = λ g. g;
      again = refl;
      merges = ap settle (put-nil term.Var) ∙ settle_nil ∙ ap Ok (sym (put-nil term.Var));
    } in
    subst (TailBecomes None) is stays
tail_turns (Some t) a r h = go (settle t) refl h where
  go : (s : Settled Term) → settle t ≡ s → and_then s (λ x. Ok (Some x)) ≡ Ok r → TailBecomes (Some t) r
  go (Err e) p h = cc
  go (Ok x) p h =
      let is : Some x ≡ r = cc in
      let b = a x p in
      let new : TailBecomes (Some t) (Some x) = record {
        nodes = b.nodes;
        levels = b.levels;
        ground = b.ground;
        again = ap (λ z. and_then z (λ y. Ok (Some y))) b.again;
        merges = b.merges;
      } in
      subst (TailBecomes (Some t)) is new

-- ---- at each variant

at_literal : (l : LiteralOf Term) (r : Term) (args annots : Settled (List Term)) → each (map settle l.args) ≡ args → each (map settle l.annots) ≡ annots
    → AllTurn l.args → AllTurn l.annots → and_then (with_parts l args annots) (λ m. Ok (term.Lit m)) ≡ Ok r → Becomes (term.Lit l) r
at_literal l r (Err e) annots p q a b h = cc
at_literal l r (Ok xs) (Err e) p q a b h = cc
at_literal l r (Ok xs) (Ok ys) p q a b h =
    let m : LiteralOf Term = record { neg = l.neg; functor = l.functor; args = xs; annots = ys } in
    let is : term.Lit m ≡ r = cc in
    let c = a xs p in
    let d = b ys q in
    let e = fold_lit ℕ size_step l in
    let f = fold_lit ℕ size_step m in
    let g = fold_lit ℕ depth_step l in
    let k = fold_lit ℕ depth_step m in
    let n1 = c.nodes in
    let n2 = d.nodes in
    let l1 = c.levels in
    let l2 = d.levels in
    let new : Becomes (term.Lit l) (term.Lit m) = record {
      nodes = omega (arith, e, f, n1, n2);
      levels = omega (arith, g, k, l1, l2);
      ground = λ o.
          let parts = sym (ground_lit l) ∙ o in
          ground_lit m ∙ both (all (map is_ground xs)) (all (map is_ground ys))
          (c.ground (first_of_both (all (map is_ground l.args)) (all (map is_ground l.annots)) parts))
          (d.ground (second_of_both (all (map is_ground l.args)) (all (map is_ground l.annots)) parts));
      again = fold_lit (Settled Term) settle_step m ∙ (λ i. and_then (with_parts m (c.again i) (d.again i)) (λ m. Ok (term.Lit m)));
      merges = ap settle (put-lit term.Var l)
          ∙ fold_lit (Settled Term) settle_step (record l { args = map (put term.Var) l.args; annots = map (put term.Var) l.annots })
          ∙ (λ i. and_then (with_parts l (c.merges i) (d.merges i)) (λ m. Ok (term.Lit m)))
          ∙ ap Ok (sym (put-lit term.Var m));
    } in
    subst (Becomes (term.Lit l)) is new

at_listing : (l : ListingOf Term) (r : Term) (items : Settled (List Term)) (tail : Settled (Option Term)) → each (map settle l.items) ≡ items → if_any (option_map settle l.tail) ≡ tail
    → AllTurn l.items → ((t : Option Term) → if_any (option_map settle l.tail) ≡ Ok t → TailBecomes l.tail t)
    → and_then items (λ xs. and_then tail (λ t. Ok (term.List (record { items = xs; tail = t })))) ≡ Ok r → Becomes (term.List l) r
at_listing l r (Err e) tail p q a b h = cc
at_listing l r (Ok xs) (Err e) p q a b h = cc
at_listing l r (Ok xs) (Ok t) p q a b h =
    let m : ListingOf Term = record { items = xs; tail = t } in
    let is : term.List m ≡ r = cc in
    let c = a xs p in
    let d = b t q in
    let e = fold_list ℕ size_step l in
    let f = fold_list ℕ size_step m in
    let g = fold_list ℕ depth_step l in
    let k = fold_list ℕ depth_step m in
    let n1 = c.nodes in
    let n2 = d.nodes in
    let l1 = c.levels in
    let l2 = d.levels in
    let new : Becomes (term.List l) (term.List m) = record {
      nodes = omega (arith, e, f, n1, n2);
      levels = omega (arith, g, k, l1, l2);
      ground = λ o.
          let parts = sym (ground_list l) ∙ o in
          ground_list m ∙ both (all (map is_ground xs)) (or_true (option_map is_ground t))
          (c.ground (first_of_both (all (map is_ground l.items)) (or_true (option_map is_ground l.tail)) parts))
          (d.ground (second_of_both (all (map is_ground l.items)) (or_true (option_map is_ground l.tail)) parts));
      again = fold_list (Settled Term) settle_step m ∙ (λ i. and_then (c.again i) (λ xs. and_then (d.again i) (λ t. Ok (term.List (record { items = xs; tail = t })))));
      merges = ap settle (put-list term.Var l)
          ∙ settle_merged (map (put term.Var) l.items) (map (put term.Var) xs) (put term.Var (ending l.tail)) (put term.Var (ending t)) c.merges d.merges
          ∙ ap Ok (sym (put-list term.Var m));
    } in
    subst (Becomes (term.List l)) is new

-- the operands of an operation that has a number are numbers
number_is : (x : Term) (p : ℤ) → number_of x ≡ Some p → x ≡ term.Num p
number_is = by_layers (λ x. (p : ℤ) → number_of x ≡ Some p → x ≡ term.Num p) (λ y p e. go y p (sym (ap number_in (out_made y)) ∙ e)) where
  go : (y : Term-F Term) (p : ℤ) → number_in y ≡ Some p → made y ≡ term.Num p
  go (layer.Num n) p e = let same : n ≡ p = cc in ap term.Num same
  go _ p e = cc

number_stays : (x : Term) (p : ℤ) → number_of x ≡ Some p → put term.Var x ≡ x
number_stays x p e = let is = number_is x p e in ap (put term.Var) is ∙ fold_num Term (put_step term.Var) p ∙ sym is

operands_stay : (op : Op) (x y : Term) (n : ℤ) → operation op x y ≡ Ok n → (put term.Var x ≡ x) × (put term.Var y ≡ y)
operands_stay op x y n h = go (number_of x) (number_of y) refl refl h where
  go : (a b : Option ℤ) → number_of x ≡ a → number_of y ≡ b → or_failing (record { op = op; left = a; right = b }) (value_if op a b) ≡ Ok n → (put term.Var x ≡ x) × (put term.Var y ≡ y)
  go None b e f h = cc
  go (Some p) None e f h = cc
  go (Some p) (Some q) e f h = (number_stays x p e, number_stays y q f)

at_operation : (a : ArithOf Term) (r : Term) (left right : Settled Term) → settle a.left ≡ left → settle a.right ≡ right → Turns a.left → Turns a.right
    → and_then left (λ x. and_then right (λ y. and_then (operation a.op x y) (λ n. Ok (term.Num n)))) ≡ Ok r → Becomes (term.Op a) r
at_operation a r (Err e) right p q b c h = cc
at_operation a r (Ok x) (Err e) p q b c h = cc
at_operation a r (Ok x) (Ok y) p q b c h = go (operation a.op x y) refl h where
  go : (s : Settled ℤ) → operation a.op x y ≡ s → and_then s (λ n. Ok (term.Num n)) ≡ Ok r → Becomes (term.Op a) r
  go (Err e) o h = cc
  go (Ok n) o h =
      let is : term.Num n ≡ r = cc in
      let s = fold_num ℕ size_step n in
      let t = fold_op ℕ size_step a in
      let d = fold_num ℕ depth_step n in
      let e = fold_op ℕ depth_step a in
      let stay = operands_stay a.op x y n o in
      let left = (b x p).merges ∙ ap Ok stay.0 in
      let right = (c y q).merges ∙ ap Ok stay.1 in
      let new : Becomes (term.Op a) (term.Num n) = record {
        nodes = omega (arith, s, t);
        levels = omega (arith, d, e);
        ground = λ g. fold_num Bool ground_step n;
        again = fold_num (Settled Term) settle_step n;
        merges = ap settle (put-op term.Var a)
            ∙ fold_op (Settled Term) settle_step (record a { left = put term.Var a.left; right = put term.Var a.right })
            ∙ (λ i. and_then (left i) (λ x. and_then (right i) (λ y. and_then (operation a.op x y) (λ n. Ok (term.Num n)))))
            ∙ ap (λ z. and_then z (λ n. Ok (term.Num n))) o
            ∙ ap Ok (sym (fold_num Term (put_step term.Var) n));
      } in
      subst (Becomes (term.Op a)) is new

-- what a term settles to
pub turns : (t r : Term) → settle t ≡ Ok r → Becomes t r
turns = by_cases Turns (record {
  at_num = λ n r h. stays (term.Num n) r (fold_num (Settled Term) settle_step n) (fold_num Term (put_step term.Var) n) h;
  at_str = λ b r h. stays (term.Str b) r (fold_str (Settled Term) settle_step b) (fold_str Term (put_step term.Var) b) h;
  at_var = λ v r h. stays (term.Var v) r (fold_var (Settled Term) settle_step v) (fold_var Term (put_step term.Var) v) h;
  at_lit = λ l args annots r h.
      at_literal l r (each (map settle l.args)) (each (map settle l.annots)) refl refl (all_turn l.args args) (all_turn l.annots annots) (sym (fold_lit (Settled Term) settle_step l) ∙ h);
  at_list = λ l items tail r h.
      at_listing l r (each (map settle l.items)) (if_any (option_map settle l.tail)) refl refl (all_turn l.items items) (tail_turns l.tail tail) (sym (fold_list (Settled Term) settle_step l) ∙ h);
  at_op = λ a left right r h. at_operation a r (settle a.left) (settle a.right) refl refl left right (sym (fold_op (Settled Term) settle_step a) ∙ h);
})

every : (ts : List Term) → AllByRecursion Turns ts
every [] = tt
every (t ∷ ts) = (turns t, every ts)

-- what terms settle to
pub all_become : (ts rs : List Term) → each (map settle ts) ≡ Ok rs → AllBecome ts rs
all_become ts = all_turn ts (every ts)
