-- Rows of terms: put under substitutions, settled, and kept.
use Rattle.std.proofs.Common.{◌≡◌, ◌≤◌, ℕ, ◌+◌, leb, max, Bool, true, false, ◌&&◌, cond, List, [], ◌∷◌, map, sum, Option, Some, None, refl, ap, sym, ◌∙◌, codes, arith}
use Rattle.std.specs.Option.{option_map}
use Rattle.std.specs.Prelude.{Ok, Err}
use Rattle.std.specs.Result.{result_ok}
use Rattle.std.proofs.lemmas.Bool.{leb-true, le-leb}
use Rattle.asl_term.specs.declared.syntax.LiteralOf.{LiteralOf}
use Rattle.asl_term.specs.declared.syntax.Term.{Term}
use Rattle.asl_term.specs.declared.syntax.Term.TheVariants as term
use Rattle.asl_term.specs.declared.syntax.Term.TheOpen as layer
use Rattle.asl_term.specs.declared.syntax.Var.{Var}
use Rattle.asl_term.specs.Exprs.{is_ground_literal}
use Rattle.asl_term.specs.Trees.{all, depth, depth_step, greatest, is_ground, size, size_step}
use Rattle.asl_term.proofs.Grounds.{ground_lit, ground_list}
use Rattle.asl_term.proofs.Terms.{fold_list}
use Rattle.asl_unify.specs.declared.subst.Pair.{Pair}
use Rattle.asl_unify.specs.Applied.{within_literal}
use Rattle.asl_unify.specs.Puts.{cons, cons_list, merged, put, value_of}
use Rattle.asl_unify.specs.Settling.{Settled, and_then, each, settle, settle_step, settle_literal}
use Rattle.asl_unify.proofs.Builds.{merged_nil}
use Rattle.asl_unify.proofs.Puts.{list_of-made, put-list, put-nil}
use Rattle.mas_world.specs.Facts.{AreFacts}
use Rattle.mas_world.specs.Guards.{ready}
use Rattle.mas_world.proofs.Settles.{literal_settles}
use Rattle.mas_world.proofs.Sound.{first_of_both, none_are, push_are, second_of_both}
use Rattle.mas_artifact.specs.Tables.{belt, list, list_before}
use Rattle.mas_artifact.specs.States.{AreKept, belt_facts, items_in, items_of, row}
use Rattle.mas_artifact.proofs.Settled.{all_become, sizes_more}
use Rattle.mas_artifact.proofs.Trees.{levels_one, nodes_one, ready_by, settled_one}

-- ---- substitutions put into them

module _ (h : Var → Term) where
  pub put_row : (ts us : List Term) → map (put h) ts ≡ us → put h (list ts) ≡ list us
  put_row ts us e = put-list h (record { items = ts; tail = None }) ∙ (λ i. merged (e i) (put-nil h i)) ∙ sym (merged_nil us)

  -- a term before a row, and before a variable
  pub put_before : (a b m : Term) (us : List Term) → put h a ≡ m → put h b ≡ list us → put h (list_before a b) ≡ list (m ∷ us)
  put_before a b m us e f =
      put-list h (record { items = a ∷ []; tail = Some b }) ∙ (λ i. cons (e i) (f i))
      ∙ ap (cons_list m (list us)) (list_of-made (layer.List (record { items = us; tail = None })))

  pub put_open : (a m : Term) (v : Var) → put h a ≡ m → put h (term.Var v) ≡ term.Var v → put h (list_before a (term.Var v)) ≡ list_before m (term.Var v)
  put_open a m v e f =
      put-list h (record { items = a ∷ []; tail = Some (term.Var v) }) ∙ (λ i. cons (e i) (f i))
      ∙ ap (cons_list m (term.Var v)) (list_of-made (layer.Var v))

-- ---- made ready

-- the settled terms, where they are within the limits
abbrev pub settled_row : List Term → Option (List Term)
settled_row ts = cond (within_literal (belt (list ts))) (result_ok (each (map settle ts))) None

abbrev pub row_fact : List Term → LiteralOf Term
row_fact ts = belt (list ts)

settle_row : (ts : List Term) → settle (list ts) ≡ and_then (each (map settle ts)) (λ xs. Ok (list xs))
settle_row ts = fold_list (Settled Term) settle_step (record { items = ts; tail = None })

pub ready_row : (s : List Pair) (t : Term) (us : List Term) → put (value_of s) t ≡ list us → ready s (belt t) ≡ option_map row_fact (settled_row us)
ready_row s t us e =
    ready_by s (codes "belt") t (list us) e
    ∙ ap (λ z. cond (within_literal (belt (list us))) (result_ok (settled_one (codes "belt") z)) None) (settle_row us)
    ∙ go (within_literal (belt (list us))) (each (map settle us))
  where
    go : (b : Bool) (r : Settled (List Term)) → cond b (result_ok (settled_one (codes "belt") (and_then r (λ xs. Ok (list xs))))) None ≡ option_map row_fact (cond b (result_ok r) None)
    go true (Ok xs) = refl
    go true (Err e) = refl
    go false r = refl

pub row_is : (items us : List Term) → map (put term.Var) items ≡ us → row items ≡ settled_row us
row_is items us e = ap (option_map (λ l. items_in l.args)) (ready_row [] (list items) us (put_row (value_of []) items us e)) ∙ go (settled_row us) where
  go : (o : Option (List Term)) → option_map (λ l. items_in l.args) (option_map row_fact o) ≡ o
  go None = refl
  go (Some xs) = ap (λ o. Some (items_of o)) (list_of-made (layer.List (record { items = xs; tail = None })))

-- ---- within the limits

nodes_are : (ts : List Term) → size (term.Lit (belt (list ts))) ≡ 2 + sum (map size ts)
nodes_are ts =
    let a = nodes_one (codes "belt") (list ts) in
    let b = fold_list ℕ size_step (record { items = ts; tail = None }) in omega (arith, a, b)

levels_are : (ts : List Term) → depth (term.Lit (belt (list ts))) ≡ 2 + greatest (map depth ts)
levels_are ts =
    let a = levels_one (codes "belt") (list ts) in
    let b = fold_list ℕ depth_step (record { items = ts; tail = None }) in omega (arith, a, b)

pub within_row : (ts : List Term) → sum (map size ts) ≤ 9998 → greatest (map depth ts) ≤ 248 → within_literal (belt (list ts)) ≡ true
within_row ts n d =
    let a = nodes_are ts in
    let b = levels_are ts in
    let i : size (term.Lit (belt (list ts))) ≤ 10000 = omega (arith, n, a) in
    let j : depth (term.Lit (belt (list ts))) ≤ 250 = omega (arith, d, b) in (λ k. le-leb _ _ i k && le-leb _ _ j k)

within_less : (ts us : List Term) → sum (map size us) ≤ sum (map size ts) → greatest (map depth us) ≤ greatest (map depth ts) → within_literal (belt (list ts)) ≡ true → within_literal (belt (list us)) ≡ true
within_less ts us n d e =
    let b = leb (size (term.Lit (belt (list ts)))) 10000 in
    let c = leb (depth (term.Lit (belt (list ts)))) 250 in
    let i = leb-true _ _ (first_of_both b c e) in
    let j = leb-true _ _ (second_of_both b c e) in
    let k = nodes_are ts in
    let l = levels_are ts in within_row us (omega (arith, n, i, k)) (omega (arith, d, j, l))

-- ---- kept

pub none_kept : AreKept []
none_kept = record { ground = refl; flat = refl; settled = refl; inside = within_row [] (omega arith) (omega arith) }

same_ok : (r : Settled (List Term)) (xs ys : List Term) → r ≡ Ok xs → r ≡ Ok ys → xs ≡ ys
same_ok r xs ys e f = cc

-- what becomes of merged terms without variables
pub row_kept : (ts new : List Term) → all (map is_ground ts) ≡ true → map (put term.Var) ts ≡ ts → settled_row ts ≡ Some new → AreKept new
row_kept ts new g f e = go (within_literal (belt (list ts))) (each (map settle ts)) refl refl e where
  go : (b : Bool) (r : Settled (List Term)) → within_literal (belt (list ts)) ≡ b → each (map settle ts) ≡ r → cond b (result_ok r) None ≡ Some new → AreKept new
  go false r w p e = cc
  go true (Err x) w p e = cc
  go true (Ok xs) w p e =
      let is : xs ≡ new = cc in
      let settles : each (map settle ts) ≡ Ok new = p ∙ ap Ok is in
      let b = all_become ts new settles in
      let flat = same_ok _ (map (put term.Var) new) new b.merges (ap (λ z. each (map settle z)) f ∙ settles) in
      record { ground = b.ground g; flat = flat; settled = b.again; inside = within_less ts new b.nodes b.levels w }

pub kept_is : (ts : List Term) → AreKept ts → settled_row ts ≡ Some ts
kept_is ts k = ap (λ z. cond z (result_ok (each (map settle ts))) None) k.inside ∙ ap result_ok k.settled

-- without the first
pub tail_kept : (x : Term) (xs : List Term) → AreKept (x ∷ xs) → AreKept xs
tail_kept x xs k =
    let both : put term.Var x ∷ map (put term.Var) xs ≡ x ∷ xs = k.flat in
    let n = sizes_more x xs in
    let d : greatest (map depth (x ∷ xs)) ≡ max (depth x) (greatest (map depth xs)) = refl in record {
      ground = second_of_both (is_ground x) (all (map is_ground xs)) k.ground;
      flat = cc;
      settled = go (settle x) (each (map settle xs)) k.settled;
      inside = within_less (x ∷ xs) xs (omega (arith, n)) (omega (arith, d)) k.inside;
    }
  where
    go : (a : Settled Term) (b : Settled (List Term)) → and_then a (λ x. and_then b (λ xs. Ok (x ∷ xs))) ≡ Ok (x ∷ xs) → b ≡ Ok xs
    go (Err e) b p = cc
    go (Ok y) (Err e) p = cc
    go (Ok y) (Ok ys) p = let is : ys ≡ xs = cc in ap Ok is

pub list_ground : (ts : List Term) → all (map is_ground ts) ≡ true → is_ground (list ts) ≡ true
list_ground ts g = ground_list (record { items = ts; tail = None }) ∙ ap (λ b. b && true) g

pub fact_ground : (ts : List Term) → all (map is_ground ts) ≡ true → is_ground_literal (belt (list ts)) ≡ true
fact_ground ts g = ground_lit (belt (list ts)) ∙ ap (λ b. (b && true) && true) (list_ground ts g)

pub kept_facts : (ts : List Term) → AreKept ts → AreFacts (belt_facts ts)
kept_facts ts k = push_are [] (belt (list ts)) none_are (fact_ground ts k.ground) (literal_settles (belt (list ts)) (belt (list ts)) settles) refl where
  settles : settle_literal (belt (list ts)) ≡ Ok (belt (list ts))
  settles = ap (settled_one (codes "belt")) (settle_row ts ∙ ap (λ z. and_then z (λ xs. Ok (list xs))) k.settled)

-- ---- what the code finds

pub ready_from : (l m : LiteralOf Term) (s : List Pair) (o : Option (LiteralOf Term)) → m ≡ l → s ≡ [] → o ≡ ready s m → o ≡ ready [] l
ready_from l m s o e f r = r ∙ (λ i. ready (f i) (e i))

pub row_from : (items : List Term) (l : LiteralOf Term) (s : List Pair) (o : Option (LiteralOf Term)) → l ≡ belt (list items) → s ≡ [] → o ≡ ready s l → option_map (λ l. items_in l.args) o ≡ row items
row_from items l s o e f r = ap (option_map (λ l. items_in l.args)) (ready_from (belt (list items)) l s o e f r)
