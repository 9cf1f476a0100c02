-- Terms that become numbers, and relations between them.
use Rattle.std.proofs.Common.{◌≡◌, ℕ, ℤ, ◌+◌, ◌&&◌, leb, Bool, true, false, List, [], ◌++◌, Option, Some, None, cond, refl, sym, ap, subst, ◌∙◌}
use Rattle.std.specs.Prelude.{Ok, max, not, int_le, int_lt, IfSome}
use Rattle.std.specs.Option.{option_map}
use Rattle.std.specs.Ordering.{int_eq}
use Rattle.std.proofs.lemmas.List.{append-nil}
use Rattle.asl_term.specs.Trees as tree
use Rattle.asl_term.specs.declared.syntax.ArithOf.{ArithOf}
use Rattle.asl_term.specs.declared.syntax.Op.{Op}
use Rattle.asl_term.specs.declared.syntax.Op.TheVariants.{Add, Sub, Mul, Div, Mod}
use Rattle.asl_term.specs.declared.syntax.RelOp.{RelOp}
use Rattle.asl_term.specs.declared.syntax.RelOp.TheVariants.{Less, LessEq, More, MoreEq, Same, Differ, Unify}
use Rattle.asl_term.specs.declared.syntax.Var.{Var}
use Rattle.asl_term.specs.Same.{same_tree, same_layer}
use Rattle.asl_term.specs.declared.syntax.Relation.{Relation}
use Rattle.asl_term.specs.declared.syntax.Term.{Term}
use Rattle.asl_term.specs.declared.syntax.Term.TheVariants as term
use Rattle.asl_term.specs.declared.syntax.Term.TheOpen as layer
use Rattle.asl_term.specs.declared.syntax.Term.TheViews.{out-Term}
use Rattle.asl_term.proofs.Terms.{fold_num, fold_op}
use Rattle.asl_unify.specs.declared.subst.Pair.{Pair}
use Rattle.asl_unify.specs.Puts.{IsSubst, put, put_step, value_of, apply}
use Rattle.asl_unify.specs.Limits.{within}
use Rattle.asl_unify.specs.Applied.{applied_relation}
use Rattle.asl_unify.specs.Settling.{Settled, and_then, number_in, number_of, or_failing, operation, settle, settle_step, settle_relation, value, value_if}
use Rattle.asl_unify.specs.Comparing.{Gives, Passes, both, if_numbers, holds, on_settled}
use Rattle.asl_unify_early.specs.inner.Numbers.{BecomesNumber, IsRelated, of_numbers, computed}
use Rattle.asl_unify.proofs.Views.{out_made}
use Rattle.asl_unify.proofs.General.{put-op}

pub put_num : (h : Var → Term) (n : ℤ) → put h (term.Num n) ≡ term.Num n
put_num h n = fold_num Term (put_step h) n

-- a number
num_within : (n : ℤ) → within (term.Num n) ≡ true
num_within n =
    ap (λ k. leb k 10000 && leb (tree.depth (term.Num n)) 250) (fold_num ℕ tree.size_step n)
    ∙ ap (λ k. leb 1 10000 && leb k 250) (fold_num ℕ tree.depth_step n)

num_settles : (n : ℤ) → settle (term.Num n) ≡ Ok (term.Num n)
num_settles n = fold_num (Settled Term) settle_step n

pub becomes_same : (s : List Pair) (t u : Term) (n : ℤ) → apply s u ≡ apply s t → BecomesNumber s u n → BecomesNumber s t n
becomes_same s t u n e b = record { inside = ap within (sym e) ∙ b.inside; settles = ap settle (sym e) ∙ b.settles }

of_number : (s : List Pair) (t : Term) (n : ℤ) → apply s t ≡ term.Num n → BecomesNumber s t n
of_number s t n e = record { inside = ap within e ∙ num_within n; settles = ap settle e ∙ num_settles n }

-- a number that is read
pub number_at : (s : List Pair) (t : Term) (n k : ℤ) → apply s t ≡ term.Num n → n ≡ k → apply s t ≡ term.Num k
number_at s t n k e q = e ∙ ap term.Num q

pub becomes_at : (s : List Pair) (t : Term) (n k : ℤ) → apply s t ≡ term.Num n → n ≡ k → BecomesNumber s t k
becomes_at s t n k e q = of_number s t k (number_at s t n k e q)

-- an operation on two numbers
abbrev op_of : Op → ℤ → ℤ → ArithOf Term
op_of op m n = record { op = op; left = term.Num m; right = term.Num n }

op_within : (op : Op) (m n : ℤ) → within (term.Op (op_of op m n)) ≡ true
op_within op m n =
    ap (λ k. leb k 10000 && leb (tree.depth (term.Op (op_of op m n))) 250)
    (fold_op ℕ tree.size_step (op_of op m n) ∙ ap (λ k. 1 + k + tree.size (term.Num n)) (fold_num ℕ tree.size_step m) ∙ ap (λ k. 1 + 1 + k) (fold_num ℕ tree.size_step n))
    ∙ ap (λ k. leb 3 10000 && leb k 250)
    (fold_op ℕ tree.depth_step (op_of op m n) ∙ ap (λ k. 1 + max k (tree.depth (term.Num n))) (fold_num ℕ tree.depth_step m) ∙ ap (λ k. 1 + max 1 k) (fold_num ℕ tree.depth_step n))

number_num : (n : ℤ) → number_of (term.Num n) ≡ Some n
number_num n = ap number_in (out_made (layer.Num n))

op_settles : (op : Op) (m n r : ℤ) → value op m n ≡ Some r → settle (term.Op (op_of op m n)) ≡ Ok (term.Num r)
op_settles op m n r e =
    fold_op (Settled Term) settle_step (op_of op m n)
    ∙ ap (λ z. and_then z (λ x. and_then (settle (term.Num n)) (λ y. and_then (operation op x y) (λ k. Ok (term.Num k))))) (num_settles m)
    ∙ ap (λ z. and_then z (λ y. and_then (operation op (term.Num m) y) (λ k. Ok (term.Num k)))) (num_settles n)
    ∙ ap (λ z. and_then (or_failing (record { op = op; left = z; right = number_of (term.Num n) }) (value_if op z (number_of (term.Num n)))) (λ k. Ok (term.Num k))) (number_num m)
    ∙ ap (λ z. and_then (or_failing (record { op = op; left = Some m; right = z }) (value_if op (Some m) z)) (λ k. Ok (term.Num k))) (number_num n)
    ∙ ap (λ z. and_then (or_failing (record { op = op; left = Some m; right = Some n }) z) (λ k. Ok (term.Num k))) e

pub of_operation : (s : List Pair) (a : ArithOf Term) (m n r : ℤ) → apply s a.left ≡ term.Num m → apply s a.right ≡ term.Num n → value a.op m n ≡ Some r
    → BecomesNumber s (term.Op a) r
of_operation s a m n r e f v =
    let is : apply s (term.Op a) ≡ term.Op (op_of a.op m n) =
    put-op (value_of s) a ∙ ap (λ z. term.Op (record { op = a.op; left = z; right = apply s a.right })) e
    ∙ ap (λ z. term.Op (record { op = a.op; left = term.Num m; right = z })) f in
    record { inside = ap within is ∙ op_within a.op m n; settles = ap settle is ∙ op_settles a.op m n r v }

computed_value : (op : Op) (m n r : ℤ) → computed op m n ≡ Some r → value op m n ≡ Some r
computed_value Add m n r e = e
computed_value Sub m n r e = e
computed_value Mul m n r e = e
computed_value Div m n r e = cc
computed_value Mod m n r e = cc

pub of_value : (s : List Pair) (a : ArithOf Term) (m n : ℤ) (o : Option ℤ) → apply s a.left ≡ term.Num m → apply s a.right ≡ term.Num n → o ≡ computed a.op m n
    → IfSome o (λ r. BecomesNumber s (term.Op a) r)
of_value s a m n None e f v = tt
of_value s a m n (Some r) e f v = of_operation s a m n r e f (computed_value a.op m n r (sym v))

pub if_same : (s : List Pair) (t u : Term) (o : Option ℤ) → apply s u ≡ apply s t → IfSome o (λ r. BecomesNumber s u r) → IfSome o (λ r. BecomesNumber s t r)
if_same s t u None e b = tt
if_same s t u (Some r) e b = becomes_same s t u r e b

-- relations between numbers
same_nums : (m n : ℤ) → same_tree (term.Num m) (term.Num n) ≡ int_eq m n
same_nums m n =
    ap (λ f. f (term.Num n)) (fold_num (Term → Bool) (λ y t. same_layer y (out-Term t)) m) ∙ ap (same_layer (layer.Num m)) (out_made (layer.Num n))

ordered : (p : ℤ → ℤ → Bool) (m n : ℤ) (s : List Pair) → if_numbers p (term.Num m) (term.Num n) s ≡ cond (p m n) (Some s) None
ordered p m n s =
    ap (λ z. cond (both p z (number_of (term.Num n))) (Some s) None) (number_num m) ∙ ap (λ z. cond (both p (Some m) z) (Some s) None) (number_num n)

apart : (s : List Pair) (t : Bool) → cond t None (Some s) ≡ cond (not t) (Some s) None
apart s true = refl
apart s false = refl

pub numbers_relate : (op : RelOp) (m n : ℤ) → IfSome (of_numbers op m n) (λ b. IsRelated op m n b)
numbers_relate Unify m n = tt
numbers_relate Same m n = λ s. ap (λ z. cond z (Some s) None) (same_nums m n)
numbers_relate Differ m n = λ s. ap (λ z. cond z None (Some s)) (same_nums m n) ∙ apart s (int_eq m n)
numbers_relate Less m n = λ s. ordered int_lt m n s
numbers_relate LessEq m n = λ s. ordered int_le m n s
numbers_relate More m n = λ s. ordered int_lt n m s
numbers_relate MoreEq m n = λ s. ordered int_le n m s

-- a relation between sides that become numbers
pub by_both : (r : Relation) (s : List Pair) (m n : ℤ) (b : Bool) → BecomesNumber s r.left m → BecomesNumber s r.right n → IsRelated r.op m n b
    → holds r s ≡ Gives (cond b (Some s) None)
by_both r s m n b x y h =
    ap (λ z. cond (z && within (apply s r.right)) (on_settled s (settle_relation (applied_relation s r))) Passes) x.inside
    ∙ ap (λ z. cond z (on_settled s (settle_relation (applied_relation s r))) Passes) y.inside
    ∙ ap (λ z. on_settled s (and_then z (λ u. and_then (settle (apply s r.right)) (λ v. Ok (record { op = r.op; left = u; right = v }))))) x.settles
    ∙ ap (λ z. on_settled s (and_then z (λ v. Ok (record { op = r.op; left = term.Num m; right = v })))) y.settles
    ∙ ap Gives (h s)

pub if_related : (r : Relation) (s : List Pair) (m n : ℤ) (o : Option Bool) → BecomesNumber s r.left m → BecomesNumber s r.right n → IfSome o (λ b. IsRelated r.op m n b)
    → IfSome o (λ b. holds r s ≡ Gives (cond b (Some s) None))
if_related r s m n None x y h = tt
if_related r s m n (Some b) x y h = by_both r s m n b x y h

-- no pairs behind those of a substitution are these
pub nothing_more : (s : List Pair) (b : Bool) (o : Option (List Pair)) → o ≡ cond b (Some []) None → cond b (Some s) None ≡ option_map (λ more. s ++ more) o
nothing_more s true o e = sym (ap (option_map (λ more. s ++ more)) e ∙ ap Some (append-nil s))
nothing_more s false o e = sym (ap (option_map (λ more. s ++ more)) e)

pub nothing_sound : (s : List Pair) → IsSubst s → (b : Bool) (o : Option (List Pair)) → o ≡ cond b (Some []) None → IfSome o (λ more. IsSubst (s ++ more))
nothing_sound s i true o e = subst (λ z. IfSome z (λ more. IsSubst (s ++ more))) (sym e) (subst IsSubst (sym (append-nil s)) i)
nothing_sound s i false o e = subst (λ z. IfSome z (λ more. IsSubst (s ++ more))) (sym e) tt
