-- Comparisons of lists: variables against terms, and a term against the first.
use Rattle.std.proofs.Common.{◌≡◌, ℕ, length, Bool, true, false, ◌&&◌, cond, List, [], ◌∷◌, ◌++◌, map, Option, Some, None, refl, ap, sym, ◌∙◌}
use Rattle.std.specs.List.{AllByRecursion}
use Rattle.std.specs.Option.{option_map}
use Rattle.std.proofs.lemmas.Bool.{eq-eqb, false≢true}
use Rattle.std.proofs.lemmas.Bool.Decides.{Decides-int_eq}
use Rattle.std.proofs.lemmas.List.{append-nil, append_assoc}
use Rattle.std.proofs.lemmas.Slice.Eq.{bytes_eq-Decides}
use Rattle.asl_term.specs.declared.syntax.ListingOf.{ListingOf}
use Rattle.asl_term.specs.declared.syntax.LiteralOf.{LiteralOf}
use Rattle.asl_term.specs.declared.syntax.Term.{Term}
use Rattle.asl_term.specs.declared.syntax.Term.TheVariants as term
use Rattle.asl_term.specs.declared.syntax.Term.TheOpen as layer
use Rattle.asl_term.specs.declared.syntax.Var.{Var}
use Rattle.asl_term.specs.Same.{same_tree}
use Rattle.asl_term.specs.Trees.{all, is_ground, or_true}
use Rattle.asl_term.specs.Variables.{occurs}
use Rattle.asl_term.proofs.Grounds.{ground_lit, ground_list, ground_op, ground_var}
use Rattle.asl_term.proofs.Same.{same_op_self, same_self, same_true}
use Rattle.asl_term.proofs.Terms.{OfTail, by_cases}
use Rattle.asl_unify.specs.declared.subst.Pair.{Pair}
use Rattle.asl_unify.specs.Compare.{Question, ask, asks, item_asks, left_over, lists, find, step, counted, Go, End, Clash, Occurs, Outcome, Unified, Failed, Leads, goes, ends, finished, same_sign, same_head}
use Rattle.asl_unify.specs.Matches.{agreed}
use Rattle.asl_unify.specs.Puts.{IsSubst, ending, merged, put, value_of}
use Rattle.asl_unify.specs.Unified.{unified}
use Rattle.asl_unify.proofs.General.{flat-value}
use Rattle.asl_unify.proofs.Laws.{proper-put}
use Rattle.asl_unify.proofs.Proper.{cons-injective, proper-merged}
use Rattle.asl_unify.proofs.Puts.{put-list}
use Rattle.asl_unify.proofs.Unified.{leads_unified, unified_general}
use Rattle.mas_world.proofs.Sound.{first_of_both, second_of_both}
use Rattle.mas_artifact.specs.Tables.{list, list_before, named, variable}
use Rattle.mas_artifact.proofs.Grounds.{no_var, outside, put_ground}
use Rattle.mas_artifact.proofs.Rows.{list_ground}
use Rattle.mas_artifact.proofs.Steps.{plain_step, var_step}

-- ---- steps

-- a term without variables at a variable without a pair
bound : (w : List Question) (s : List Pair) (n : ℕ) (v : Var) (t : Term) → find s v ≡ None → is_ground t ≡ true
    → step (ask (term.Var v) t) w s n ≡ Go w (s ++ record { var = v; term = t } ∷ []) (counted n)
bound w s n v t f g =
    var_step w s n v t f (no_var t g)
    ∙ ap (λ b. cond b (End Occurs) (Go w (s ++ record { var = v; term = t } ∷ []) (counted n)))
    (ap (occurs v) (put_ground (value_of s) t g ∙ sym (put_ground (value_of []) t g)) ∙ outside v t g)

list_step : (w : List Question) (s : List Pair) (n : ℕ) (l m : ListingOf Term) → step (ask (term.List l) (term.List m)) w s n ≡ lists l.items l.tail m.items m.tail w s n
list_step w s n l m = plain_step w s n (layer.List l) (layer.List m) refl refl

abbrev listing : List Term → ListingOf Term
listing ts = record { items = ts; tail = None }

-- ---- variables against terms

-- a pair for each variable
abbrev pub pairs : List (List ℕ) → List Term → List Pair
pairs (v ∷ vs) (t ∷ ts) = record { var = named v; term = t } ∷ pairs vs ts
pairs vs ts = []

abbrev pub same_number : List (List ℕ) → List Term → Bool
same_number [] [] = true
same_number (v ∷ vs) (t ∷ ts) = same_number vs ts
same_number vs ts = false

-- none of them has a pair, nor gets one by those before it
abbrev pub AreFresh : List (List ℕ) → List Pair → Type 0
AreFresh [] s = Unit {0}
AreFresh (v ∷ vs) s = (find s (named v) ≡ None) × ((t : Term) → AreFresh vs (s ++ record { var = named v; term = t } ∷ []))

record Comes (w : List Question) (s : List Pair) (n : ℕ) (r : Option (List Pair)) : Type 0 where
  outcome : Outcome
  leads : Leads w s n outcome
  agrees : agreed outcome ≡ r

abbrev all_bound : List (List ℕ) → List Term → List Pair → Option (List Pair)
all_bound vs ts s = cond (same_number vs ts) (Some (s ++ pairs vs ts)) None

items_come : (vs : List (List ℕ)) (ts : List Term) (s : List Pair) (n : ℕ) → AreFresh vs s → all (map is_ground ts) ≡ true → Comes (item_asks (map variable vs) None ts None []) s n (all_bound vs ts s)
items_come [] [] s n f g = record { outcome = Unified s; leads = goes (list_step [] s n (listing []) (listing [])) finished; agrees = ap Some (sym (append-nil s)) }
items_come [] (t ∷ ts) s n f g = record { outcome = Failed (Clash n); leads = ends (list_step [] s n (listing []) (listing (t ∷ ts))); agrees = refl }
items_come (v ∷ vs) [] s n f g = record { outcome = Failed (Clash n); leads = ends (list_step [] s n (listing (variable v ∷ map variable vs)) (listing [])); agrees = refl }
items_come (v ∷ vs) (t ∷ ts) s n f g =
    let p : List Pair = record { var = named v; term = t } ∷ [] in
    let c = items_come vs ts (s ++ p) (counted n) (f.1 t) (second_of_both (is_ground t) (all (map is_ground ts)) g) in record {
      outcome = c.outcome;
      leads = goes (bound (item_asks (map variable vs) None ts None []) s n (named v) t f.0 (first_of_both (is_ground t) (all (map is_ground ts)) g)) c.leads;
      agrees = c.agrees ∙ ap (λ z. cond (same_number vs ts) (Some z) None) (append_assoc s p (pairs vs ts));
    }

lists_come : (vs : List (List ℕ)) (ts : List Term) (s : List Pair) → AreFresh vs s → all (map is_ground ts) ≡ true → Comes (ask (list (map variable vs)) (list ts) ∷ []) s 0 (all_bound vs ts s)
lists_come [] [] s f g = record { outcome = Unified s; leads = goes (list_step [] s 0 (listing []) (listing [])) finished; agrees = ap Some (sym (append-nil s)) }
lists_come [] (t ∷ ts) s f g = record { outcome = Failed (Clash 0); leads = ends (list_step [] s 0 (listing []) (listing (t ∷ ts))); agrees = refl }
lists_come (v ∷ vs) [] s f g = record { outcome = Failed (Clash 0); leads = ends (list_step [] s 0 (listing (variable v ∷ map variable vs)) (listing [])); agrees = refl }
lists_come (v ∷ vs) (t ∷ ts) s f g =
    let c = items_come (v ∷ vs) (t ∷ ts) s (counted 0) f g in
    record { outcome = c.outcome; leads = goes (list_step [] s 0 (listing (variable v ∷ map variable vs)) (listing (t ∷ ts))) c.leads; agrees = c.agrees }

pub variables_agree : (vs : List (List ℕ)) (ts : List Term) (s : List Pair) → IsSubst s → AreFresh vs s → all (map is_ground ts) ≡ true
    → agreed (unified s (ask (list (map variable vs)) (list ts) ∷ [])) ≡ cond (same_number vs ts) (Some (s ++ pairs vs ts)) None
variables_agree vs ts s i f g = let c = lists_come vs ts s f g in ap agreed (leads_unified s _ c.outcome i c.leads) ∙ c.agrees

-- ---- a term against itself

-- whatever follows, once the two sides are compared
abbrev Goes : Term → Type 0
Goes t = is_ground t ≡ true → (w : List Question) (s r : List Pair) → ((k : ℕ) → Leads w s k (Unified r)) → (n : ℕ) → Leads (ask t t ∷ w) s n (Unified r)

module _ (w : List Question) (s r : List Pair) (then : (k : ℕ) → Leads w s k (Unified r)) where
  asks_go : (ts : List Term) → AllByRecursion Goes ts → all (map is_ground ts) ≡ true → (n : ℕ) → Leads (asks ts ts w) s n (Unified r)
  asks_go [] a g n = then n
  asks_go (t ∷ ts) a g n = a.0 (first_of_both (is_ground t) (all (map is_ground ts)) g) (asks ts ts w) s r (asks_go ts a.1 (second_of_both (is_ground t) (all (map is_ground ts)) g)) n

  items_go : (ts : List Term) (tail : Option Term) → AllByRecursion Goes ts → OfTail Goes tail → all (map is_ground ts) ≡ true → or_true (option_map is_ground tail) ≡ true
      → (n : ℕ) → Leads (item_asks ts tail ts tail w) s n (Unified r)
  items_go [] None a b g h n = goes (list_step w s n (listing []) (listing [])) (then (counted n))
  items_go [] (Some t) a b g h n = b h w s r then n
  items_go (t ∷ ts) tail a b g h n =
      a.0 (first_of_both (is_ground t) (all (map is_ground ts)) g) (item_asks ts tail ts tail w) s r
      (items_go ts tail a.1 b (second_of_both (is_ground t) (all (map is_ground ts)) g) h) n

  lists_go : (ts : List Term) (tail : Option Term) → AllByRecursion Goes ts → OfTail Goes tail → all (map is_ground ts) ≡ true → or_true (option_map is_ground tail) ≡ true
      → (n : ℕ) → let l : ListingOf Term = record { items = ts; tail = tail } in Leads (ask (term.List l) (term.List l) ∷ w) s n (Unified r)
  lists_go [] None a b g h n = goes (list_step w s n (listing []) (listing [])) (then (counted n))
  lists_go [] (Some t) a b g h n =
      let l : ListingOf Term = record { items = []; tail = Some t } in goes (list_step w s n l l) (items_go [] (Some t) a b g h (counted n))
  lists_go (t ∷ ts) tail a b g h n =
      let l : ListingOf Term = record { items = t ∷ ts; tail = tail } in goes (list_step w s n l l) (items_go (t ∷ ts) tail a b g h (counted n))

sign_self : (b : Bool) → same_sign b b ≡ true
sign_self true = refl
sign_self false = refl

head_self : (l : LiteralOf Term) → same_head l l ≡ true
head_self l = λ i. (sign_self l.neg i && (bytes_eq-Decides l.functor l.functor).1 refl i && eq-eqb (length l.args) (length l.args) refl i) && eq-eqb (length l.annots) (length l.annots) refl i

same_goes : (t : Term) → Goes t
same_goes = by_cases Goes (record {
  at_num = λ m g w s r then n. goes (plain_step w s n (layer.Num m) (layer.Num m) refl refl ∙ ap (λ b. cond b (Go w s (counted n)) (End (Clash n))) ((Decides-int_eq m m).1 refl)) (then (counted n));
  at_str = λ b g w s r then n. goes (plain_step w s n (layer.Str b) (layer.Str b) refl refl ∙ ap (λ b. cond b (Go w s (counted n)) (End (Clash n))) ((bytes_eq-Decides b b).1 refl)) (then (counted n));
  at_var = λ v g w s r then n. absurd (false≢true (sym (ground_var v) ∙ g));
  at_lit = λ l args annots g w s r then n.
      let parts = sym (ground_lit l) ∙ g in
      let more = asks l.annots l.annots w in
      goes
      (plain_step w s n (layer.Lit l) (layer.Lit l) refl refl ∙ ap (λ b. cond b (Go (asks l.args l.args more) s (counted n)) (End (Clash n))) (head_self l))
      (asks_go more s r (asks_go w s r then l.annots annots (second_of_both (all (map is_ground l.args)) (all (map is_ground l.annots)) parts))
      l.args args (first_of_both (all (map is_ground l.args)) (all (map is_ground l.annots)) parts) (counted n));
  at_list = λ l items tail g w s r then n.
      let parts = sym (ground_list l) ∙ g in
      lists_go w s r then l.items l.tail items tail
      (first_of_both (all (map is_ground l.items)) (or_true (option_map is_ground l.tail)) parts) (second_of_both (all (map is_ground l.items)) (or_true (option_map is_ground l.tail)) parts) n;
  at_op = λ a left right g w s r then n.
      let parts = sym (ground_op a) ∙ g in
      goes
      (plain_step w s n (layer.Op a) (layer.Op a) refl refl ∙ ap (λ b. cond b (Go (ask a.left a.left ∷ ask a.right a.right ∷ w) s (counted n)) (End (Clash n))) (same_op_self a.op))
      (left (first_of_both (is_ground a.left) (is_ground a.right) parts) (ask a.right a.right ∷ w) s r
      (right (second_of_both (is_ground a.left) (is_ground a.right) parts) w s r then) (counted n));
})

-- ---- a term and a variable against a list

left_none : (ts : List Term) → left_over ts None ≡ list ts
left_none [] = refl
left_none (t ∷ ts) = refl

module _ (s : List Pair) (i : IsSubst s) (v : Var) (free : find s v ≡ None) (y : Term) (gy : is_ground y ≡ true) where
  abbrev front : Term
  front = list_before y (term.Var v)

  pub nothing_there : agreed (unified s (ask front (list []) ∷ [])) ≡ None
  nothing_there = ap agreed (leads_unified s _ (Failed (Clash 0)) i (ends (list_step [] s 0 (record { items = y ∷ []; tail = Some (term.Var v) }) (listing []))))

  module _ (x : Term) (xs : List Term) (g : all (map is_ground (x ∷ xs)) ≡ true) where
    abbrev with_rest : List Pair
    with_rest = s ++ record { var = v; term = list xs } ∷ []

    stands : y ≡ x → unified s (ask front (list (x ∷ xs)) ∷ []) ≡ Unified with_rest
    stands e =
        leads_unified s _ (Unified with_rest) i (goes
        (list_step [] s 0 (record { items = y ∷ []; tail = Some (term.Var v) }) (listing (x ∷ xs))
        ∙ (λ j. Go (ask y (sym e j) ∷ ask (term.Var v) (left_none xs j) ∷ []) s (counted 0)))
        (same_goes y gy (ask (term.Var v) (list xs) ∷ []) s with_rest
        (λ k. goes (bound [] s k v (list xs) free (list_ground xs (second_of_both (is_ground x) (all (map is_ground xs)) g))) finished)
        (counted 0)))

    -- what unifies the two makes the first one this term
    unifies : (r : List Pair) → unified s (ask front (list (x ∷ xs)) ∷ []) ≡ Unified r → put term.Var y ≡ put term.Var x
    unifies r e =
        let h = value_of r in
        let both = (unified_general s r (ask front (list (x ∷ xs)) ∷ []) i e).unifies.0 in
        let left = put-list h (record { items = y ∷ []; tail = Some (term.Var v) }) in
        let right = put-list h (listing (x ∷ xs)) in
        let rest = merged (map (put h) xs) (put h (ending None)) in
        let first = cons-injective (put h y) (put h x) (put h (term.Var v)) rest
        (proper-put h (flat-value r) (term.Var v)) (proper-merged (map (put h) xs) (put h (ending None)) (proper-put h (flat-value r) (ending None)))
        (sym left ∙ both ∙ right) in
        sym (put_ground h y gy) ∙ first.0 ∙ put_ground h x (first_of_both (is_ground x) (all (map is_ground xs)) g)

    pub first_agrees : (b : Bool) → same_tree y x ≡ b → put term.Var y ≡ y → put term.Var x ≡ x → agreed (unified s (ask front (list (x ∷ xs)) ∷ [])) ≡ cond b (Some with_rest) None
    first_agrees true e p q = ap agreed (stands (same_true y x e))
    first_agrees false e p q = go (unified s (ask front (list (x ∷ xs)) ∷ [])) refl where
      go : (o : Outcome) → unified s (ask front (list (x ∷ xs)) ∷ []) ≡ o → agreed o ≡ None
      go (Failed f) u = refl
      go (Unified r) u = let is = sym p ∙ unifies r u ∙ q in absurd (false≢true (sym e ∙ ap (same_tree y) (sym is) ∙ same_self y))
