-- A settled literal's lists stay merged.
use Rattle.std.proofs.Common.{◌≡◌, ℕ, ℤ, List, [], ◌∷◌, map, Option, Some, None, Ok, refl, sym, ap, ◌∙◌, subst}
use Rattle.std.specs.List.{AllByRecursion}
use Rattle.std.specs.Option.{option_map}
use Rattle.asl_term.specs.declared.syntax.Op.{Op}
use Rattle.asl_term.specs.declared.syntax.LiteralOf.{LiteralOf}
use Rattle.asl_term.specs.declared.syntax.ListingOf.{ListingOf}
use Rattle.asl_term.specs.declared.syntax.ArithOf.{ArithOf}
use Rattle.asl_term.specs.declared.syntax.Term.{Term}
use Rattle.asl_term.specs.declared.syntax.Term.TheVariants as term
use Rattle.asl_term.specs.declared.syntax.Term.TheOpen.{Term-F}
use Rattle.asl_term.specs.declared.syntax.Term.TheOpen as layer
use Rattle.asl_term.specs.declared.syntax.Term.TheViews.{out-Term}
use Rattle.asl_term.specs.Layers.{made}
use Rattle.asl_term.proofs.Terms.{OfTail, by_cases, fold_num, fold_str, fold_var, made_out, out_made}
use Rattle.asl_unify.specs.Puts.{ending, merged, put, put_step}
use Rattle.asl_unify.specs.Settling.{Failing, Settled, and_then, each, if_any, number_in, number_of, or_failing, value_if, operation, with_parts, settle_step, settle}
use Rattle.asl_unify.proofs.Puts.{put-nil, put-list}
use Rattle.asl_unify.proofs.General.{put-lit, put-op}
use Rattle.asl_unify.proofs.Laws.{put-var}
use Rattle.asl_lint.specs.Instances.{AreMerged}
use Rattle.asl_lint_laws.proofs.Settling.{ok_is, goes, parted, settle-list, settle-lit, settle-op, settle-merged}

record SettledLit (l : LiteralOf Term) (u : Term) : Type 0 where
  args : List Term
  annots : List Term
  is_args : each (map settle l.args) ≡ Ok args
  is_annots : each (map settle l.annots) ≡ Ok annots
  is : term.Lit (record { neg = l.neg; functor = l.functor; args = args; annots = annots }) ≡ u

settled_lit : (l : LiteralOf Term) (u : Term) → settle (term.Lit l) ≡ Ok u → SettledLit l u
settled_lit l u e =
    let g = goes (with_parts l (each (map settle l.args)) (each (map settle l.annots))) (λ z. Ok (term.Lit z)) u (sym (settle-lit l) ∙ e) in
    let xs = goes (each (map settle l.args)) (λ xs. and_then (each (map settle l.annots)) (λ ys. Ok (record { neg = l.neg; functor = l.functor; args = xs; annots = ys }))) g.value g.is in
    let ys = goes (each (map settle l.annots)) (λ ys. Ok (record { neg = l.neg; functor = l.functor; args = xs.value; annots = ys })) g.value xs.rest in
    let n : LiteralOf Term = record { neg = l.neg; functor = l.functor; args = xs.value; annots = ys.value } in
    record {
      args = xs.value;
      annots = ys.value;
      is_args = xs.is;
      is_annots = ys.is;
      is = ap term.Lit (ok_is n g.value ys.rest) ∙ ok_is (term.Lit g.value) u g.rest;
    }

record SettledList (l : ListingOf Term) (u : Term) : Type 0 where
  items : List Term
  tail : Option Term
  are_items : each (map settle l.items) ≡ Ok items
  is_tail : if_any (option_map settle l.tail) ≡ Ok tail
  is : term.List (record { items = items; tail = tail }) ≡ u

settled_list : (l : ListingOf Term) (u : Term) → settle (term.List l) ≡ Ok u → SettledList l u
settled_list l u e =
    let xs = goes (each (map settle l.items)) (λ xs. and_then (if_any (option_map settle l.tail)) (λ t. Ok (term.List (record { items = xs; tail = t })))) u (sym (settle-list l) ∙ e) in
    let t = goes (if_any (option_map settle l.tail)) (λ t. Ok (term.List (record { items = xs.value; tail = t }))) u xs.rest in
    record { items = xs.value; tail = t.value; are_items = xs.is; is_tail = t.is; is = ok_is (term.List (record { items = xs.value; tail = t.value })) u t.rest }

record SettledOp (a : ArithOf Term) (u : Term) : Type 0 where
  left : Term
  right : Term
  number : ℤ
  is_left : settle a.left ≡ Ok left
  is_right : settle a.right ≡ Ok right
  is_number : operation a.op left right ≡ Ok number
  is : term.Num number ≡ u

settled_op : (a : ArithOf Term) (u : Term) → settle (term.Op a) ≡ Ok u → SettledOp a u
settled_op a u e =
    let f = goes (settle a.left) (λ x. and_then (settle a.right) (λ y. and_then (operation a.op x y) (λ n. Ok (term.Num n)))) u (sym (settle-op a) ∙ e) in
    let g = goes (settle a.right) (λ y. and_then (operation a.op f.value y) (λ n. Ok (term.Num n))) u f.rest in
    let h = goes (operation a.op f.value g.value) (λ n. Ok (term.Num n)) u g.rest in
    record { left = f.value; right = g.value; number = h.value; is_left = f.is; is_right = g.is; is_number = h.is; is = ok_is (term.Num h.value) u h.rest }

-- ---- merged lists

abbrev flat : Term → Term
flat t = put term.Var t

number_stays : (t : Term) (n : ℤ) → number_of t ≡ Some n → flat t ≡ t
number_stays t n e = subst (λ z. number_of z ≡ Some n → flat z ≡ z) (made_out t) (go (out-Term t)) e where
  go : (y : Term-F Term) → number_of (made y) ≡ Some n → flat (made y) ≡ made y
  go (layer.Num m) d = fold_num Term (put_step term.Var) m
  go (layer.Str m) d = let f = sym (ap number_in (out_made (layer.Str m))) ∙ d in cc
  go (layer.Var m) d = let f = sym (ap number_in (out_made (layer.Var m))) ∙ d in cc
  go (layer.Lit m) d = let f = sym (ap number_in (out_made (layer.Lit m))) ∙ d in cc
  go (layer.List m) d = let f = sym (ap number_in (out_made (layer.List m))) ∙ d in cc
  go (layer.Op m) d = let f = sym (ap number_in (out_made (layer.Op m))) ∙ d in cc

both_numbers : (op : Op) (f : Failing) (x y : Option ℤ) (n : ℤ) → or_failing f (value_if op x y) ≡ Ok n → ((p : ℤ) × (x ≡ Some p)) × ((q : ℤ) × (y ≡ Some q))
both_numbers op f None y n e = cc
both_numbers op f (Some p) None n e = cc
both_numbers op f (Some p) (Some q) n e = ((p, refl), (q, refl))

operation_stays : (op : Op) (x y : Term) (n : ℤ) → operation op x y ≡ Ok n → operation op (flat x) (flat y) ≡ Ok n
operation_stays op x y n e =
    let b = both_numbers op (record { op = op; left = number_of x; right = number_of y }) (number_of x) (number_of y) n e in
    (λ i. operation op (number_stays x b.0.0 b.0.1 i) (number_stays y b.1.0 b.1.1 i)) ∙ e

abbrev Flattens : Term → Type 0
Flattens t = (u : Term) → settle t ≡ Ok u → settle (flat t) ≡ Ok (flat u)

all_flatten : (ts : List Term) → AllByRecursion Flattens ts → (us : List Term) → each (map settle ts) ≡ Ok us → each (map settle (map flat ts)) ≡ Ok (map flat us)
all_flatten [] a us e = ap (λ z. Ok (map flat z)) (ok_is [] us e)
all_flatten (t ∷ ts) a us e =
    let s = parted (settle t) (each (map settle ts)) us e in
    let one = a.0 s.first s.is_first in
    let more = all_flatten ts a.1 s.more s.are_more in
    (λ i. and_then (one i) (λ x. and_then (more i) (λ xs. Ok (x ∷ xs)))) ∙ ap (λ z. Ok (map flat z)) (sym s.whole)

end_flattens : (t : Option Term) → OfTail Flattens t → (u : Option Term) → if_any (option_map settle t) ≡ Ok u → settle (flat (ending t)) ≡ Ok (flat (ending u))
end_flattens None a u e =
    ap settle (put-nil term.Var) ∙ settle-list (record { items = []; tail = None }) ∙ ap (λ z. Ok z) (sym (put-nil term.Var)) ∙ ap (λ z. Ok (flat (ending z))) (ok_is None u e)
end_flattens (Some t) a u e =
    let g = goes (settle t) (λ z. Ok (Some z)) u e in a g.value g.is ∙ ap (λ z. Ok (flat (ending z))) (ok_is (Some g.value) u g.rest)

pub flattens : (t : Term) → Flattens t
flattens = by_cases Flattens (record {
  at_num = λ n u e. ap settle (fold_num Term (put_step term.Var) n) ∙ fold_num (Settled Term) settle_step n ∙ ap (λ z. Ok z) (sym (fold_num Term (put_step term.Var) n))
      ∙ ap (λ z. Ok (flat z)) (ok_is (term.Num n) u (sym (fold_num (Settled Term) settle_step n) ∙ e));
  at_str = λ n u e. ap settle (fold_str Term (put_step term.Var) n) ∙ fold_str (Settled Term) settle_step n ∙ ap (λ z. Ok z) (sym (fold_str Term (put_step term.Var) n))
      ∙ ap (λ z. Ok (flat z)) (ok_is (term.Str n) u (sym (fold_str (Settled Term) settle_step n) ∙ e));
  at_var = λ n u e. ap settle (put-var term.Var n) ∙ fold_var (Settled Term) settle_step n ∙ ap (λ z. Ok z) (sym (put-var term.Var n))
      ∙ ap (λ z. Ok (flat z)) (ok_is (term.Var n) u (sym (fold_var (Settled Term) settle_step n) ∙ e));
  at_lit = λ l args annots u e.
      let s = settled_lit l u e in
      let m : LiteralOf Term = record { neg = l.neg; functor = l.functor; args = s.args; annots = s.annots } in
      let k : LiteralOf Term = record l { args = map flat l.args; annots = map flat l.annots } in
      let first = all_flatten l.args args s.args s.is_args in
      let second = all_flatten l.annots annots s.annots s.is_annots in
      ap settle (put-lit term.Var l) ∙ settle-lit k
      ∙ (λ i. and_then (with_parts k (first i) (second i)) (λ z. Ok (term.Lit z)))
      ∙ ap (λ z. Ok z) (sym (put-lit term.Var m)) ∙ ap (λ z. Ok (flat z)) s.is;
  at_list = λ l items tail u e.
      let s = settled_list l u e in
      let m : ListingOf Term = record { items = s.items; tail = s.tail } in
      let first = all_flatten l.items items s.items s.are_items in
      let second = end_flattens l.tail tail s.tail s.is_tail in
      ap settle (put-list term.Var l) ∙ settle-merged (map flat l.items) (flat (ending l.tail))
      ∙ (λ i. and_then (first i) (λ ys. and_then (second i) (λ z. Ok (merged ys z))))
      ∙ ap (λ z. Ok z) (sym (put-list term.Var m)) ∙ ap (λ z. Ok (flat z)) s.is;
  at_op = λ a left right u e.
      let s = settled_op a u e in
      let first = left s.left s.is_left in
      let second = right s.right s.is_right in
      ap settle (put-op term.Var a) ∙ settle-op (record a { left = flat a.left; right = flat a.right })
      ∙ (λ i. and_then (first i) (λ x. and_then (second i) (λ y. and_then (operation a.op x y) (λ n. Ok (term.Num n)))))
      ∙ ap (λ z. and_then z (λ n. Ok (term.Num n))) (operation_stays a.op s.left s.right s.number s.is_number)
      ∙ ap (λ z. Ok z) (sym (fold_num Term (put_step term.Var) s.number)) ∙ ap (λ z. Ok (flat z)) s.is;
})

all_tested : (ts : List Term) → AllByRecursion Flattens ts
all_tested [] = tt
all_tested (t ∷ ts) = (flattens t, all_tested ts)

pub merged_settled : (ts us : List Term) → each (map settle ts) ≡ Ok us → AreMerged ts → AreMerged us
merged_settled ts us e m = ok_is (map flat us) us (sym (all_flatten ts (all_tested ts) us e) ∙ ap (λ z. each (map settle z)) m ∙ e)
