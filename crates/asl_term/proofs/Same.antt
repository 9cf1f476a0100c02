-- `same_tree` tells whether two terms are the same.
use Rattle.std.proofs.Common.{◌≡◌, ℕ, ℤ, Bool, true, ◌&&◌, List, [], ◌∷◌, map, Option, Some, None, refl, ap, sym, ◌∙◌, rules, tests}
use Rattle.std.specs.Bool.{Decides, beq}
use Rattle.std.specs.Cmp.{booleans_Decides}
use Rattle.std.specs.List.{AllByRecursion}
use Rattle.std.specs.Option.{option_map}
use Rattle.std.specs.Ordering.{int_eq}
use Rattle.std.specs.Str.{bytes_eq}
use Rattle.std.proofs.lemmas.Bool.{false≢true}
use Rattle.std.proofs.lemmas.Bool.Decides.{Decides-at, Decides-like, Decides-and, Decides-int_eq, same_from_decides}
use Rattle.std.proofs.lemmas.Slice.Eq.{bytes_eq-Decides}
use Rattle.asl_term.specs.declared.syntax.Var.{Var}
use Rattle.asl_term.specs.declared.syntax.Op.{Op}
use Rattle.asl_term.specs.declared.syntax.Op.TheVariants.{Add, Sub, Mul, Div, Mod}
use Rattle.asl_term.specs.declared.syntax.LiteralOf.{LiteralOf}
use Rattle.asl_term.specs.declared.syntax.ListingOf.{ListingOf}
use Rattle.asl_term.specs.declared.syntax.ArithOf.{ArithOf}
use Rattle.asl_term.specs.declared.syntax.Term.{Term}
use Rattle.asl_term.specs.declared.syntax.Term.TheOpen.{Term-F}
use Rattle.asl_term.specs.declared.syntax.Term.TheOpen as layer
use Rattle.asl_term.specs.declared.syntax.Term.TheViews.{out-Term}
use Rattle.asl_term.specs.Layers.{made}
use Rattle.asl_term.specs.Trees.{same_var}
use Rattle.asl_term.specs.Same.{same_op, all_same, same_tail, same_layer, same_tree}
use Rattle.asl_term.proofs.Terms.{map_literal, map_listing, map_arith, OfTail, by_cases, fold_num, fold_str, fold_var, fold_lit, fold_list, fold_op, made_out, out_made}

pub same_var_self : (v : Var) → same_var v v ≡ true
same_var_self v = search (rules, tests)

pub same_var_true : (v w : Var) → same_var v w ≡ true → v ≡ w
same_var_true v w e = search (rules, tests)

pub same_op_self : (a : Op) → same_op a a ≡ true
same_op_self Add = refl
same_op_self Sub = refl
same_op_self Mul = refl
same_op_self Div = refl
same_op_self Mod = refl

pub same_op_true : (a b : Op) → same_op a b ≡ true → a ≡ b
same_op_true Add Add e = refl
same_op_true Sub Sub e = refl
same_op_true Mul Mul e = refl
same_op_true Div Div e = refl
same_op_true Mod Mod e = refl
same_op_true _ _ e = absurd (false≢true e)

var_decides : (v w : Var) → Decides (same_var v w) (v ≡ w)
var_decides v w = (same_var_true v w, λ e. ap (same_var v) (sym e) ∙ same_var_self v)

op_decides : (a b : Op) → Decides (same_op a b) (a ≡ b)
op_decides a b = (same_op_true a b, λ e. ap (same_op a) (sym e) ∙ same_op_self a)

-- what is to be shown of each term
abbrev Tested : Term → Type 0
Tested a = (b : Term) → Decides (same_tree a b) (a ≡ b)

all_decide : (ts : List Term) → AllByRecursion Tested ts → (us : List Term) → Decides (all_same (map same_tree ts) us) (ts ≡ us)
all_decide [] a [] = (λ e. refl, λ e. refl)
all_decide [] a (u ∷ us) = (λ e. absurd (false≢true e), λ e. cc)
all_decide (t ∷ ts) a [] = (λ e. absurd (false≢true e), λ e. cc)
all_decide (t ∷ ts) a (u ∷ us) =
    Decides-like (same_tree t u && all_same (map same_tree ts) us) (λ p i. p.0 i ∷ p.1 i) (λ e. (cc, cc))
    (Decides-and (same_tree t u) (all_same (map same_tree ts) us) (a.0 u) (all_decide ts a.1 us))

tail_decides : (t : Option Term) → OfTail Tested t → (u : Option Term) → Decides (same_tail (option_map same_tree t) u) (t ≡ u)
tail_decides None a None = (λ e. refl, λ e. refl)
tail_decides None a (Some u) = (λ e. absurd (false≢true e), λ e. cc)
tail_decides (Some t) a None = (λ e. absurd (false≢true e), λ e. cc)
tail_decides (Some t) a (Some u) = Decides-like (same_tree t u) (λ e. ap Some e) (λ e. cc) (a u)

-- a layer whose parts are tests decides which layer it is
num_decides : (m : ℤ) (z : Term-F Term) → Decides (same_layer (layer.Num m) z) (layer.Num m ≡ z)
num_decides m (layer.Num n) = Decides-like (int_eq m n) (λ e. ap layer.Num e) (λ e. cc) (Decides-int_eq m n)
num_decides m _ = (λ e. absurd (false≢true e), λ e. cc)

str_decides : (b : List ℕ) (z : Term-F Term) → Decides (same_layer (layer.Str b) z) (layer.Str b ≡ z)
str_decides b (layer.Str c) = Decides-like (bytes_eq b c) (λ e. ap layer.Str e) (λ e. cc) (bytes_eq-Decides b c)
str_decides b _ = (λ e. absurd (false≢true e), λ e. cc)

name_decides : (v : Var) (z : Term-F Term) → Decides (same_layer (layer.Var v) z) (layer.Var v ≡ z)
name_decides v (layer.Var w) = Decides-like (same_var v w) (λ e. ap layer.Var e) (λ e. cc) (var_decides v w)
name_decides v _ = (λ e. absurd (false≢true e), λ e. cc)

lit_decides : (l : LiteralOf Term) → AllByRecursion Tested l.args → AllByRecursion Tested l.annots → (z : Term-F Term) → Decides (same_layer (layer.Lit (map_literal same_tree l)) z) (layer.Lit l ≡ z)
lit_decides l args annots (layer.Lit m) =
    let signs = beq l.neg m.neg in
    let names = bytes_eq l.functor m.functor in
    let firsts = all_same (map same_tree l.args) m.args in
    let lasts = all_same (map same_tree l.annots) m.annots in
    Decides-like (signs && names && firsts && lasts)
    (λ p i. layer.Lit (record { neg = p.0.0.0 i; functor = p.0.0.1 i; args = p.0.1 i; annots = p.1 i }))
    (λ e. let same : l ≡ m = cc in (((ap (λ r. r.neg) same, ap (λ r. r.functor) same), ap (λ r. r.args) same), ap (λ r. r.annots) same))
    (Decides-and (signs && names && firsts) lasts
    (Decides-and (signs && names) firsts
    (Decides-and signs names (booleans_Decides l.neg m.neg) (bytes_eq-Decides l.functor m.functor))
    (all_decide l.args args m.args))
    (all_decide l.annots annots m.annots))
lit_decides l args annots _ = (λ e. absurd (false≢true e), λ e. cc)

list_decides : (l : ListingOf Term) → AllByRecursion Tested l.items → OfTail Tested l.tail → (z : Term-F Term) → Decides (same_layer (layer.List (map_listing same_tree l)) z) (layer.List l ≡ z)
list_decides l items tail (layer.List m) =
    let firsts = all_same (map same_tree l.items) m.items in
    let lasts = same_tail (option_map same_tree l.tail) m.tail in
    Decides-like (firsts && lasts)
    (λ p i. layer.List (record { items = p.0 i; tail = p.1 i }))
    (λ e. let same : l ≡ m = cc in (ap (λ r. r.items) same, ap (λ r. r.tail) same))
    (Decides-and firsts lasts (all_decide l.items items m.items) (tail_decides l.tail tail m.tail))
list_decides l items tail _ = (λ e. absurd (false≢true e), λ e. cc)

arith_decides : (a : ArithOf Term) → Tested a.left → Tested a.right → (z : Term-F Term) → Decides (same_layer (layer.Op (map_arith same_tree a)) z) (layer.Op a ≡ z)
arith_decides a left right (layer.Op b) =
    let ops = same_op a.op b.op in
    let lefts = same_tree a.left b.left in
    let rights = same_tree a.right b.right in
    Decides-like (ops && lefts && rights)
    (λ p i. layer.Op (record { op = p.0.0 i; left = p.0.1 i; right = p.1 i }))
    (λ e. let same : a ≡ b = cc in ((ap (λ r. r.op) same, ap (λ r. r.left) same), ap (λ r. r.right) same))
    (Decides-and (ops && lefts) rights (Decides-and ops lefts (op_decides a.op b.op) (left b.left)) (right b.right))
arith_decides a left right _ = (λ e. absurd (false≢true e), λ e. cc)

-- from a layer to its term
by_layer : (x : Term-F Term) (y : Term-F (Term → Bool)) → same_tree (made x) ≡ (λ t. same_layer y (out-Term t)) → ((z : Term-F Term) → Decides (same_layer y z) (x ≡ z)) → Tested (made x)
by_layer x y s d b =
    Decides-at (same_tree (made x) b) (same_layer y (out-Term b)) (ap (λ f. f b) s)
    (Decides-like (same_layer y (out-Term b)) (λ e. ap made e ∙ made_out b) (λ e. sym (out_made x) ∙ ap out-Term e) (d (out-Term b)))

abbrev step : Term-F (Term → Bool) → Term → Bool
step y t = same_layer y (out-Term t)

-- `same_tree` is true exactly where the terms are one
pub same_decides : (a b : Term) → Decides (same_tree a b) (a ≡ b)
same_decides = by_cases Tested (record {
  at_num = λ n. by_layer (layer.Num n) (layer.Num n) (fold_num (Term → Bool) step n) (num_decides n);
  at_str = λ b. by_layer (layer.Str b) (layer.Str b) (fold_str (Term → Bool) step b) (str_decides b);
  at_var = λ v. by_layer (layer.Var v) (layer.Var v) (fold_var (Term → Bool) step v) (name_decides v);
  at_lit = λ l args annots. by_layer (layer.Lit l) (layer.Lit (map_literal same_tree l)) (fold_lit (Term → Bool) step l) (lit_decides l args annots);
  at_list = λ l items tail. by_layer (layer.List l) (layer.List (map_listing same_tree l)) (fold_list (Term → Bool) step l) (list_decides l items tail);
  at_op = λ a left right. by_layer (layer.Op a) (layer.Op (map_arith same_tree a)) (fold_op (Term → Bool) step a) (arith_decides a left right);
})

pub same_true : (a b : Term) → same_tree a b ≡ true → a ≡ b
same_true a b e = (same_decides a b).0 e

pub same_self : (a : Term) → same_tree a a ≡ true
same_self a = (same_decides a a).1 refl

-- what tells whether two terms are one is `same_tree`
pub same_value : (r : Bool) (a b : Term) → Decides r (a ≡ b) → r ≡ same_tree a b
same_value r a b d = same_from_decides r (same_tree a b) d (same_decides a b)

all_tested : (ts : List Term) → AllByRecursion Tested ts
all_tested [] = tt
all_tested (t ∷ ts) = (same_decides t, all_tested ts)

-- and for lists of terms
pub all_value : (r : Bool) (ts us : List Term) → Decides r (ts ≡ us) → r ≡ all_same (map same_tree ts) us
all_value r ts us d = same_from_decides r (all_same (map same_tree ts) us) d (all_decide ts (all_tested ts) us)
