-- A literal into which substitutions are put, and the questions that stand for it.
use Rattle.std.proofs.Common.{◌≡◌, ◌≢◌, ◌<◌, ℕ, zero, suc, ◌+◌, Bool, true, false, cond, eqb, get_or, List, [], ◌∷◌, ◌++◌, map, length, Option, Some, None, refl, sym, ap, ◌∙◌, append_assoc, arith}
use Rattle.std.proofs.lemmas.List.{length-append, length-map}
use Rattle.std.specs.List.{AllByRecursion, AllPairs, slice_index_or}
use Rattle.std.specs.Option.{option_map}
use Rattle.asl_term.specs.Trees.{same_var as same, with_terms_step}
use Rattle.asl_term.specs.Variables.{occurs}
use Rattle.asl_term.specs.declared.syntax.Var.{Var}
use Rattle.asl_term.specs.declared.syntax.Term.{Term}
use Rattle.asl_term.specs.declared.syntax.Term.TheVariants as term
use Rattle.asl_term.proofs.Terms.{OfTail, by_cases, fold_num, fold_str, fold_var, fold_lit, fold_list, fold_op}
use Rattle.asl_unify.specs.declared.subst.Pair.{Pair}
use Rattle.asl_unify.specs.Puts.{ending, merged, put, put_step, value_of, IsSubst}
use Rattle.asl_unify.specs.Compare.{find}
use Rattle.asl_unify.specs.Renamed.{with_vars}
use Rattle.asl_unify.specs.Turns.{apply_each, value_in}
use Rattle.asl_unify.proofs.Puts.{put-nil, put-list, put-put}
use Rattle.asl_unify.proofs.Agree.{put-agree, same-self, same-true}
use Rattle.asl_unify.proofs.Laws.{put-var, put-same, Flat, FlatValues, flat-var, flat-put, Solves, values-solve, put-apply}
use Rattle.asl_unify.proofs.General.{put-lit, put-op, find-None, flat-value}
use Rattle.asl_unify.proofs.Gone.{sound-distinct, standing-free}
use Rattle.asl_unify.proofs.Turns.{in-each}
use Rattle.asl_intend.specs.Unbuilt.{free_name, pair_name, place, named, name_in, left_sides, right_sides, lefts, rights}

-- other names for variables, and then terms in their place

module _ (h : Var → Term) (f : Var → Var) where
  abbrev Renames : Term → Type 0
  Renames t = put h (with_vars f t) ≡ put (λ v. h (f v)) t

  all_renamed : (ts : List Term) → AllByRecursion Renames ts → map (put h) (map (with_vars f) ts) ≡ map (put (λ v. h (f v))) ts
  all_renamed [] a = refl
  all_renamed (t ∷ ts) a = let one = a.0 in let rest = all_renamed ts a.1 in cc

  end_renamed : (t : Option Term) → OfTail Renames t → put h (ending (option_map (with_vars f) t)) ≡ put (λ v. h (f v)) (ending t)
  end_renamed None a = put-nil h ∙ sym (put-nil (λ v. h (f v)))
  end_renamed (Some t) a = a

  pub put-vars : (t : Term) → Renames t
  put-vars = by_cases Renames (record {
    at_num = λ n. ap (put h) (fold_num Term (with_terms_step (λ v. term.Var (f v))) n) ∙ fold_num Term (put_step h) n
        ∙ sym (fold_num Term (put_step (λ v. h (f v))) n);
    at_str = λ n. ap (put h) (fold_str Term (with_terms_step (λ v. term.Var (f v))) n) ∙ fold_str Term (put_step h) n
        ∙ sym (fold_str Term (put_step (λ v. h (f v))) n);
    at_var = λ v. ap (put h) (fold_var Term (with_terms_step (λ v. term.Var (f v))) v) ∙ put-var h (f v) ∙ sym (put-var (λ v. h (f v)) v);
    at_lit = λ l args annots.
        ap (put h) (fold_lit Term (with_terms_step (λ v. term.Var (f v))) l)
        ∙ put-lit h (record l { args = map (with_vars f) l.args; annots = map (with_vars f) l.annots })
        ∙ (λ i. term.Lit (record l { args = all_renamed l.args args i; annots = all_renamed l.annots annots i }))
        ∙ sym (put-lit (λ v. h (f v)) l);
    at_list = λ l items tail.
        ap (put h) (fold_list Term (with_terms_step (λ v. term.Var (f v))) l)
        ∙ put-list h (record { items = map (with_vars f) l.items; tail = option_map (with_vars f) l.tail })
        ∙ (λ i. merged (all_renamed l.items items i) (end_renamed l.tail tail i))
        ∙ sym (put-list (λ v. h (f v)) l);
    at_op = λ a left right.
        ap (put h) (fold_op Term (with_terms_step (λ v. term.Var (f v))) a)
        ∙ put-op h (record a { left = with_vars f a.left; right = with_vars f a.right })
        ∙ (λ i. term.Op (record a { left = left i; right = right i }))
        ∙ sym (put-op (λ v. h (f v)) a);
  })

-- where a new name has the value of its variable, the terms have those of theirs
module _ (h k : Var → Term) (f : Var → Var) (v : Var → Term) (e : (x : Var) → h (f x) ≡ put k (v x)) where
  pub put-named : (t : Term) → put h (with_vars f t) ≡ put k (put v t)
  put-named t = put-vars h f t ∙ put-same (λ x. h (f x)) (λ x. put k (v x)) e t ∙ sym (put-put k v t)

  pub all-named : (ts : List Term) → map (put h) (map (with_vars f) ts) ≡ map (put k) (map (put v) ts)
  all-named [] = refl
  all-named (t ∷ ts) = λ i. put-named t i ∷ all-named ts i

pub all-free : (h : Var → Term) (f : Var → Var) (ts : List Term) → map (put h) (map (with_vars f) ts) ≡ map (put (λ x. h (f x))) ts
all-free h f [] = refl
all-free h f (t ∷ ts) = λ i. put-vars h f t i ∷ all-free h f ts i

-- one substitution after another

abbrev pub value : List (List Pair) → Var → Term
value levels y = apply_each levels (term.Var y)

pub value_more : (s : List Pair) (rest : List (List Pair)) (y : Var) → value (s ∷ rest) y ≡ value_in s rest y
value_more s rest y = ap (apply_each rest) (put-var (value_of s) y)

each_put : (rest : List (List Pair)) (t : Term) → Flat t → put (value rest) t ≡ apply_each rest t
each_put rest t f =
    put-same (value rest) (value_in [] rest) (λ y. refl) t ∙ in-each [] rest t
    ∙ ap (apply_each rest) (put-same (value_of []) term.Var (λ y. refl) t ∙ f)

-- the place of a pair

placed_free : (k : ℕ) (s : List Pair) (y : Var) → find s y ≡ None → place k s y ≡ None
placed_free k [] y e = refl
placed_free k (p ∷ s) y e = go (placed_free (k + 1) s y) (same p.var y) e where
  go : (find s y ≡ None → place (k + 1) s y ≡ None) → (b : Bool) → cond b (Some p.term) (find s y) ≡ None → cond b (Some k) (place (k + 1) s y) ≡ None
  go more true e = cc
  go more false e = more e

free_placed : (k : ℕ) (s : List Pair) (y : Var) → place k s y ≡ None → find s y ≡ None
free_placed k [] y e = refl
free_placed k (p ∷ s) y e = go (free_placed (k + 1) s y) (same p.var y) e where
  go : (place (k + 1) s y ≡ None → find s y ≡ None) → (b : Bool) → cond b (Some k) (place (k + 1) s y) ≡ None → cond b (Some p.term) (find s y) ≡ None
  go more true e = cc
  go more false e = more e

-- no pair is of x
abbrev Apart : Var → List Pair → Type 0
Apart x s = (j : ℕ) (d : Pair) → j < length s → x ≢ (slice_index_or s j d).var

apart_nowhere : (x : Var) (s : List Pair) → Apart x s → (k i : ℕ) → place k s x ≡ Some i → ⊥
apart_nowhere x [] a k i e = cc
apart_nowhere x (p ∷ s) a k i e = go (apart_nowhere x s (λ j d l. a (suc j) d (omega (arith, l))) (k + 1) i) (same p.var x) refl e where
  go : (place (k + 1) s x ≡ Some i → ⊥) → (b : Bool) → same p.var x ≡ b → cond b (Some k) (place (k + 1) s x) ≡ Some i → ⊥
  go more true u e = a 0 p (omega arith) (sym (same-true p.var x u))
  go more false u e = more e

-- the questions of pairs, one by one
abbrev pub Pairs : (Var → Term) → (Var → Var) → ℕ → List Pair → Type 0
Pairs h f k [] = Unit {0}
Pairs h f k (p ∷ more) = (h (pair_name k) ≡ put h (with_vars f p.term)) × Pairs h f (k + 1) more

abbrev pub Answered : (Var → Term) → ℕ → List (List Pair) → Type 0
Answered h k [] = Unit {0}
Answered h k (s ∷ rest) = Pairs h (name_in k (s ∷ rest)) k s × Answered h (k + length s) rest

module _ (h : Var → Term) where
  split_pairs : (f : Var → Var) (k : ℕ) (s : List Pair) (xs ys : List Term)
      → map (put h) (left_sides k s ++ xs) ≡ map (put h) (right_sides f s ++ ys) → Pairs h f k s × (map (put h) xs ≡ map (put h) ys)
  split_pairs f k [] xs ys e = (tt, e)
  split_pairs f k (p ∷ s) xs ys e =
      let one : put h (term.Var (pair_name k)) ≡ put h (with_vars f p.term) = cc in
      let rest : map (put h) (left_sides (k + 1) s ++ xs) ≡ map (put h) (right_sides f s ++ ys) = cc in
      let r = split_pairs f (k + 1) s xs ys rest in
      ((sym (put-var h (pair_name k)) ∙ one, r.0), r.1)

  join_pairs : (f : Var → Var) (k : ℕ) (s : List Pair) (xs ys : List Term) → Pairs h f k s → map (put h) xs ≡ map (put h) ys
      → map (put h) (left_sides k s ++ xs) ≡ map (put h) (right_sides f s ++ ys)
  join_pairs f k [] xs ys a e = e
  join_pairs f k (p ∷ s) xs ys a e = λ i. (put-var h (pair_name k) ∙ a.0) i ∷ join_pairs f (k + 1) s xs ys a.1 e i

  pub split : (k : ℕ) (levels : List (List Pair)) (xs ys : List Term) → map (put h) (lefts k levels ++ xs) ≡ map (put h) (rights k levels ++ ys)
      → Answered h k levels × (map (put h) xs ≡ map (put h) ys)
  split k [] xs ys e = (tt, e)
  split k (s ∷ rest) xs ys e =
      let f = name_in k (s ∷ rest) in
      let l = append_assoc (left_sides k s) (lefts (k + length s) rest) xs in
      let r = append_assoc (right_sides f s) (rights (k + length s) rest) ys in
      let one = split_pairs f k s (lefts (k + length s) rest ++ xs) (rights (k + length s) rest ++ ys)
      (ap (map (put h)) (sym l) ∙ e ∙ ap (map (put h)) r) in
      let more = split (k + length s) rest xs ys one.1 in
      ((one.0, more.0), more.1)

  pub join : (k : ℕ) (levels : List (List Pair)) (xs ys : List Term) → Answered h k levels → map (put h) xs ≡ map (put h) ys
      → map (put h) (lefts k levels ++ xs) ≡ map (put h) (rights k levels ++ ys)
  join k [] xs ys a e = e
  join k (s ∷ rest) xs ys a e =
      let f = name_in k (s ∷ rest) in
      ap (map (put h)) (append_assoc (left_sides k s) (lefts (k + length s) rest) xs)
      ∙ join_pairs f k s (lefts (k + length s) rest ++ xs) (rights (k + length s) rest ++ ys) a.0 (join (k + length s) rest xs ys a.1 e)
      ∙ ap (map (put h)) (sym (append_assoc (right_sides f s) (rights (k + length s) rest) ys))

-- where the questions are answered, each new name has the value of its variable
module _ (h : Var → Term) where
  abbrev free : Var → Term
  free y = h (free_name y)

  solved : (m : Var → Term) (f : Var → Var) (k : ℕ) (s : List Pair) → AllPairs (λ p q. p.var ≢ q.var) s
      → ((t : Term) → put h (with_vars f t) ≡ put m t) → ((y : Var) (i : ℕ) → place k s y ≡ Some i → m y ≡ h (pair_name i))
      → Pairs h f k s → Solves m s
  solved m f k [] d t at a = tt
  solved m f k (p ∷ s) d t at a = (
    at p.var k (ap (λ b. cond b (Some k) (place (k + 1) s p.var)) (same-self p.var)) ∙ a.0 ∙ t p.term,
    solved m f (k + 1) s (λ i j e l w. d (suc i) (suc j) e (omega (arith, l)) (omega (arith, w))) t later a.1,
  )
    where
      later : (y : Var) (i : ℕ) → place (k + 1) s y ≡ Some i → m y ≡ h (pair_name i)
      later y i e = go (same p.var y) refl where
        go : (b : Bool) → same p.var y ≡ b → m y ≡ h (pair_name i)
        go true u =
            let here : p.var ≡ y = same-true p.var y u in
            absurd (apart_nowhere p.var s (λ j e w. d 0 (suc j) e (omega arith) (omega (arith, w))) (k + 1) i (ap (place (k + 1) s) here ∙ e))
        go false u = at y i (ap (λ b. cond b (Some k) (place (k + 1) s y)) u ∙ e)

  module _ (k : ℕ) (s : List Pair) (rest : List (List Pair)) (i : IsSubst s) (a : Pairs h (name_in k (s ∷ rest)) k s)
      (later : (z : Var) → h (name_in (k + length s) rest z) ≡ put free (value rest z)) where
    abbrev m : Var → Term
    m z = h (name_in k (s ∷ rest) z)

    m_solves : Solves m s
    m_solves = solved m (name_in k (s ∷ rest)) k s (sound-distinct s term.Var i) (put-vars h (name_in k (s ∷ rest)))
        (λ z j e. ap (λ o. h (named o (name_in (k + length s) rest z))) e) a

    unbound : (z : Var) → find s z ≡ None → m z ≡ put free (value rest z)
    unbound z e = ap (λ o. h (named o (name_in (k + length s) rest z))) (placed_free k s z e) ∙ later z

    one_back : (y : Var) → m y ≡ put free (value (s ∷ rest) y)
    one_back y =
        sym (put-var m y) ∙ sym (put-apply m s m_solves (term.Var y)) ∙ ap (put m) (put-var (value_of s) y)
        ∙ put-agree m (λ z. put free (value rest z)) (value_of s y)
        (λ z o. unbound z (standing-free s (term.Var y) z i (ap (occurs z) (put-var (value_of s) y) ∙ o)))
        ∙ sym (put-put free (value rest) (value_of s y))
        ∙ ap (put free) (each_put rest (value_of s y) (flat-value s y) ∙ sym (value_more s rest y))

  pub back : (k : ℕ) (levels : List (List Pair)) → AllByRecursion IsSubst levels → Answered h k levels
      → (y : Var) → h (name_in k levels y) ≡ put free (value levels y)
  back k [] i a y = sym (put-var free y)
  back k (s ∷ rest) i a y = one_back k s rest i.0 a.0 (back (k + length s) rest i.1 a.1) y

-- and where each has, the questions are answered

abbrev pub values : (Var → Term) → List (List Pair) → List Term
values g [] = []
values g (s ∷ rest) = map (λ p. put g (value (s ∷ rest) p.var)) s ++ values g rest

abbrev by_name : List Term → (Var → Term) → List ℕ → ℕ → Term
by_name vs g [] n = get_or vs n (term.Str [])
by_name vs g (c ∷ name) n = cond (eqb c 118) (g (record { name = name; number = n })) (get_or vs n (term.Str []))

-- the values of the new names
abbrev pub valued : List Term → (Var → Term) → Var → Term
valued vs g v = by_name vs g v.name v.number

get_seam : {A : Type 0} (xs : List A) (y d : A) (ys : List A) → get_or (xs ++ y ∷ ys) (length xs) d ≡ y
get_seam [] y d ys = refl
get_seam (x ∷ xs) y d ys = get_seam xs y d ys

one_on : {A : Type 0} (pre : List A) (x : A) (k : ℕ) → k ≡ length pre → k + 1 ≡ length (pre ++ x ∷ [])
one_on pre x k e = let a = length-append pre (x ∷ []) in omega (arith, a, e)

module _ (g : Var → Term) (v : FlatValues g) (all : List Term) where
  abbrev h : Var → Term
  h = valued all g

  -- the values of pairs stand at their numbers
  placed_value : (w : Var → Term) (pre : List Term) (s : List Pair) (rest : List Term) (k i : ℕ) (y : Var) → k ≡ length pre
      → all ≡ pre ++ (map (λ p. w p.var) s ++ rest) → place k s y ≡ Some i → h (pair_name i) ≡ w y
  placed_value w pre [] rest k i y n e at = cc
  placed_value w pre (p ∷ s) rest k i y n e at =
      go (placed_value w (pre ++ w p.var ∷ []) s rest (k + 1) i y (one_on pre (w p.var) k n)
      (e ∙ sym (append_assoc pre (w p.var ∷ []) (map (λ p. w p.var) s ++ rest)))) (same p.var y) refl at
    where
      go : (place (k + 1) s y ≡ Some i → h (pair_name i) ≡ w y) → (b : Bool) → same p.var y ≡ b → cond b (Some k) (place (k + 1) s y) ≡ Some i
          → h (pair_name i) ≡ w y
      go more true u at =
          let here : k ≡ i = cc in
          (λ j. get_or (e j) (sym here j) (term.Str [])) ∙ ap (λ j. get_or (pre ++ w p.var ∷ (map (λ p. w p.var) s ++ rest)) j (term.Str [])) n
          ∙ get_seam pre (w p.var) (term.Str []) (map (λ p. w p.var) s ++ rest) ∙ ap w (same-true p.var y u)
      go more false u at = more at

  abbrev level_value : List Pair → List (List Pair) → Var → Term
  level_value s rest x = put g (value (s ∷ rest) x)

  abbrev level_values : List Pair → List (List Pair) → List Term
  level_values s rest = map (λ p. level_value s rest p.var) s

  later_place : (pre : List Term) (k : ℕ) (s : List Pair) (rest : List (List Pair)) → k ≡ length pre → k + length s ≡ length (pre ++ level_values s rest)
  later_place pre k s rest n =
      let long = length-append pre (level_values s rest) in
      let same_long = length-map s (λ p. level_value s rest p.var) in omega (arith, n, long, same_long)

  later_values : (pre : List Term) (s : List Pair) (rest : List (List Pair)) → all ≡ pre ++ values g (s ∷ rest)
      → all ≡ (pre ++ level_values s rest) ++ values g rest
  later_values pre s rest e = e ∙ sym (append_assoc pre (level_values s rest) (values g rest))

  one_forth : (pre : List Term) (k : ℕ) (s : List Pair) (rest : List (List Pair)) → k ≡ length pre → all ≡ pre ++ values g (s ∷ rest)
      → (y : Var) → h (name_in (k + length s) rest y) ≡ put g (value rest y)
      → (o : Option ℕ) → place k s y ≡ o → h (named o (name_in (k + length s) rest y)) ≡ level_value s rest y
  one_forth pre k s rest n e y later (Some i) u = placed_value (level_value s rest) pre s (values g rest) k i y n e u
  one_forth pre k s rest n e y later None u =
      later ∙ ap (put g) (ap (apply_each rest) (sym (find-None s term.Var y (free_placed k s y u) refl)) ∙ sym (value_more s rest y))

  pub forth : (pre : List Term) (k : ℕ) (levels : List (List Pair)) → k ≡ length pre → all ≡ pre ++ values g levels
      → (y : Var) → h (name_in k levels y) ≡ put g (value levels y)
  forth pre k [] n e y = sym (put-var g y)
  forth pre k (s ∷ rest) n e y = one_forth pre k s rest n e y
      (forth (pre ++ level_values s rest) (k + length s) rest (later_place pre k s rest n) (later_values pre s rest e) y) (place k s y) refl

  pairs_hold : (f : Var → Var) (s : List Pair) (rest : List (List Pair)) (w : Var → Term) (pre : List Term) (t : List Pair) (more : List Term) (k : ℕ)
      → ((x : Var) → w x ≡ put g (value (s ∷ rest) x)) → ((x : Var) → h (f x) ≡ put g (value (s ∷ rest) x))
      → k ≡ length pre → all ≡ pre ++ (map (λ p. w p.var) t ++ more) → Solves (value_of s) t → Pairs h f k t
  pairs_hold f s rest w pre [] more k is to n e a = tt
  pairs_hold f s rest w pre (p ∷ t) more k is to n e a = (
    (λ j. get_or (e j) (n j) (term.Str [])) ∙ get_seam pre (w p.var) (term.Str []) (map (λ p. w p.var) t ++ more) ∙ is p.var
        ∙ ap (put g) (value_more s rest p.var ∙ ap (apply_each rest) a.0 ∙ sym (in-each s rest p.term))
        ∙ sym (put-named h g f (value_in s rest) (λ x. to x ∙ ap (put g) (value_more s rest x)) p.term),
    pairs_hold f s rest w (pre ++ w p.var ∷ []) t more (k + 1) is to (one_on pre (w p.var) k n)
        (e ∙ sym (append_assoc pre (w p.var ∷ []) (map (λ p. w p.var) t ++ more))) a.1,
  )

  pub answered : (pre : List Term) (k : ℕ) (levels : List (List Pair)) → AllByRecursion IsSubst levels → k ≡ length pre
      → all ≡ pre ++ values g levels → Answered h k levels
  answered pre k [] i n e = tt
  answered pre k (s ∷ rest) i n e = (
    pairs_hold (name_in k (s ∷ rest)) s rest (level_value s rest) pre s (values g rest) k (λ x. refl) (forth pre k (s ∷ rest) n e) n e
        (values-solve s term.Var flat-var i.0),
    answered (pre ++ level_values s rest) (k + length s) rest i.1 (later_place pre k s rest n) (later_values pre s rest e),
  )

-- all values are flat

flat_none : Flat (term.Str [])
flat_none = fold_str Term (put_step term.Var) []

flat_at : (vs : List Term) → AllByRecursion Flat vs → (n : ℕ) → Flat (get_or vs n (term.Str []))
flat_at [] a n = flat_none
flat_at (t ∷ vs) a zero = a.0
flat_at (t ∷ vs) a (suc n) = flat_at vs a.1 n

flat_joined : (xs ys : List Term) → AllByRecursion Flat xs → AllByRecursion Flat ys → AllByRecursion Flat (xs ++ ys)
flat_joined [] ys a b = b
flat_joined (x ∷ xs) ys a b = (a.0, flat_joined xs ys a.1 b)

module _ (g : Var → Term) (v : FlatValues g) where
  flat_pairs : (levels : List (List Pair)) (s : List Pair) → AllByRecursion Flat (map (λ p. put g (value levels p.var)) s)
  flat_pairs levels [] = tt
  flat_pairs levels (p ∷ s) = (flat-put g v (value levels p.var), flat_pairs levels s)

  flat_values : (levels : List (List Pair)) → AllByRecursion Flat (values g levels)
  flat_values [] = tt
  flat_values (s ∷ rest) = flat_joined (map (λ p. put g (value (s ∷ rest) p.var)) s) (values g rest) (flat_pairs (s ∷ rest) s) (flat_values rest)

  pub flat_valued : (levels : List (List Pair)) → FlatValues (valued (values g levels) g)
  flat_valued levels x = go x.name where
    test : (b : Bool) (name : List ℕ) → Flat (cond b (g (record { name = name; number = x.number })) (get_or (values g levels) x.number (term.Str [])))
    test true name = v (record { name = name; number = x.number })
    test false name = flat_at (values g levels) (flat_values levels) x.number

    go : (name : List ℕ) → Flat (by_name (values g levels) g name x.number)
    go [] = flat_at (values g levels) (flat_values levels) x.number
    go (c ∷ name) = test (eqb c 118) name
