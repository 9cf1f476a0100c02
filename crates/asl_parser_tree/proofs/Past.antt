-- A tree with a part that is past the limits is past them too.
use Rattle.std.proofs.Common.{◌≡◌, ℕ, ◌+◌, ◌≤◌, max, sum, map, leb, Bool, true, false, inl, inr, List, [], ◌∷◌, refl, arith}
use Rattle.std.specs.List.{list_all}
use Rattle.std.specs.Option.{option_map}
use Rattle.std.proofs.lemmas.List.Sums.{sum_by-cons}
use Rattle.std.proofs.lemmas.Bool.{leb-false, lt-leb, and_cases, and_left, and_right}
use Rattle.asl_term.specs.declared.syntax.Op.{Op}
use Rattle.asl_term.specs.declared.syntax.ArithOf.{ArithOf}
use Rattle.asl_term.specs.declared.syntax.LiteralOf.{LiteralOf}
use Rattle.asl_term.specs.declared.syntax.ListingOf.{ListingOf}
use Rattle.asl_term.specs.declared.syntax.Relation.{Relation}
use Rattle.asl_term.specs.declared.syntax.CallOf.{CallOf}
use Rattle.asl_term.specs.declared.syntax.ArgOf.{ArgOf}
use Rattle.asl_term.specs.declared.syntax.ArgOf.TheVariants.{Plain, Logic}
use Rattle.asl_term.specs.declared.syntax.Term.{Term}
use Rattle.asl_term.specs.declared.syntax.Term.TheVariants as term
use Rattle.asl_term.specs.declared.syntax.Expr.{Expr}
use Rattle.asl_term.specs.declared.syntax.Expr.TheVariants as expr
use Rattle.asl_term.specs.Trees as tree
use Rattle.asl_term.specs.Exprs as exprs
use Rattle.asl_term.specs.Exprs.{map_arg}
use Rattle.asl_term.proofs.Terms.{fold_lit, fold_list, fold_op}
use Rattle.asl_term.proofs.Exprs.{fold_rel, fold_not, fold_and, fold_or}
use Rattle.asl_term.proofs.Args.{size_inner, depth_inner}
use Rattle.asl_parser_tree.specs.Meanings.{arith as op_of, either_of, both_of}
use Rattle.asl_parser_tree.specs.Limits.{within, within_term, within_literal, within_expr}
use Rattle.asl_parser_tree.specs.Holding.{Bounds, limited, unlimited, bounded, fits_term, fits_literal, fits_expr, has_small_parts, is_small_arg}

grows : (n d m e : ℕ) → within n d ≡ false → n ≤ m → d ≤ e → within m e ≡ false
grows n d m e h p q =
    elim (and_cases (leb n 10000) (leb d 250) h) [
      | inl f ↦ and_left (leb m 10000) (leb e 250) (lt-leb m 10000 (omega (arith, leb-false n 10000 f)))
      | inr f ↦ and_right (leb m 10000) (leb e 250) (lt-leb e 250 (omega (arith, leb-false d 250 f)))
    ]

-- the same where the limits are put, or not
pub falls : (bs : Bounds) {x y : Bool} → (x ≡ false → y ≡ false) → bounded bs x ≡ false → bounded bs y ≡ false
falls limited f h = f h
falls unlimited f h = absurd cc

-- ---- operations

module _ (op : Op) (a b : Term) where
  abbrev whole : ArithOf Term
  whole = record { op = op; left = a; right = b }

  size_op : tree.size (op_of op a b) ≡ 1 + tree.size a + tree.size b
  size_op = fold_op ℕ tree.size_step whole

  depth_op : tree.depth (op_of op a b) ≡ 1 + max (tree.depth a) (tree.depth b)
  depth_op = fold_op ℕ tree.depth_step whole

  pub op_left : within_term a ≡ false → within_term (op_of op a b) ≡ false
  op_left h = grows (tree.size a) (tree.depth a) (tree.size (op_of op a b)) (tree.depth (op_of op a b)) h (omega (arith, size_op)) (omega (arith, depth_op))

  pub op_right : within_term b ≡ false → within_term (op_of op a b) ≡ false
  op_right h = grows (tree.size b) (tree.depth b) (tree.size (op_of op a b)) (tree.depth (op_of op a b)) h (omega (arith, size_op)) (omega (arith, depth_op))

module _ (r : Relation) where
  size_rel : exprs.size (expr.Rel r) ≡ 1 + tree.size r.left + tree.size r.right
  size_rel = fold_rel ℕ exprs.size_step r

  depth_rel : exprs.depth (expr.Rel r) ≡ 1 + max (tree.depth r.left) (tree.depth r.right)
  depth_rel = fold_rel ℕ exprs.depth_step r

  pub rel_left : within_term r.left ≡ false → within_expr (expr.Rel r) ≡ false
  rel_left h = grows (tree.size r.left) (tree.depth r.left) (exprs.size (expr.Rel r)) (exprs.depth (expr.Rel r)) h (omega (arith, size_rel)) (omega (arith, depth_rel))

  pub rel_right : within_term r.right ≡ false → within_expr (expr.Rel r) ≡ false
  rel_right h = grows (tree.size r.right) (tree.depth r.right) (exprs.size (expr.Rel r)) (exprs.depth (expr.Rel r)) h (omega (arith, size_rel)) (omega (arith, depth_rel))

module _ (a : Expr) where
  size_not : exprs.size (expr.Not a) ≡ 1 + exprs.size a
  size_not = fold_not ℕ exprs.size_step a

  depth_not : exprs.depth (expr.Not a) ≡ 1 + exprs.depth a
  depth_not = fold_not ℕ exprs.depth_step a

  pub not_part : within_expr a ≡ false → within_expr (expr.Not a) ≡ false
  not_part h = grows (exprs.size a) (exprs.depth a) (exprs.size (expr.Not a)) (exprs.depth (expr.Not a)) h (omega (arith, size_not)) (omega (arith, depth_not))

module _ (a b : Expr) where
  size_or : exprs.size (either_of a b) ≡ 1 + exprs.size a + exprs.size b
  size_or = fold_or ℕ exprs.size_step a b

  depth_or : exprs.depth (either_of a b) ≡ 1 + max (exprs.depth a) (exprs.depth b)
  depth_or = fold_or ℕ exprs.depth_step a b

  size_and : exprs.size (both_of a b) ≡ 1 + exprs.size a + exprs.size b
  size_and = fold_and ℕ exprs.size_step a b

  depth_and : exprs.depth (both_of a b) ≡ 1 + max (exprs.depth a) (exprs.depth b)
  depth_and = fold_and ℕ exprs.depth_step a b

  pub or_first : within_expr a ≡ false → within_expr (either_of a b) ≡ false
  or_first h = grows (exprs.size a) (exprs.depth a) (exprs.size (either_of a b)) (exprs.depth (either_of a b)) h (omega (arith, size_or)) (omega (arith, depth_or))

  pub or_second : within_expr b ≡ false → within_expr (either_of a b) ≡ false
  or_second h = grows (exprs.size b) (exprs.depth b) (exprs.size (either_of a b)) (exprs.depth (either_of a b)) h (omega (arith, size_or)) (omega (arith, depth_or))

  pub and_first : within_expr a ≡ false → within_expr (both_of a b) ≡ false
  and_first h = grows (exprs.size a) (exprs.depth a) (exprs.size (both_of a b)) (exprs.depth (both_of a b)) h (omega (arith, size_and)) (omega (arith, depth_and))

  pub and_second : within_expr b ≡ false → within_expr (both_of a b) ≡ false
  and_second h = grows (exprs.size b) (exprs.depth b) (exprs.size (both_of a b)) (exprs.depth (both_of a b)) h (omega (arith, size_and)) (omega (arith, depth_and))

-- ---- lists of parts

sum_cons : (n : ℕ) (ns : List ℕ) → sum (n ∷ ns) ≡ n + sum ns
sum_cons n ns = sum_by-cons (λ x. x) n ns

-- some part is past the limits, where the parts have so many nodes together and the deepest so many levels
record HasPast (total deepest : ℕ) : Type 0 where
  size : ℕ
  depth : ℕ
  past : within size depth ≡ false
  less : size ≤ total
  lower : depth ≤ deepest

term_past : (ts : List Term) → list_all within_term ts ≡ false → HasPast (sum (map tree.size ts)) (tree.greatest (map tree.depth ts))
term_past [] e = absurd cc
term_past (t ∷ ts) e =
    elim (and_cases (within_term t) (list_all within_term ts) e) [
      | inl f ↦ record { size = tree.size t; depth = tree.depth t; past = f; less = omega (arith, sum_cons (tree.size t) (map tree.size ts)); lower = omega arith }
      | inr f ↦ let r = term_past ts f in record { size = r.size; depth = r.depth; past = r.past; less = omega (arith, r.less, sum_cons (tree.size t) (map tree.size ts)); lower = omega (arith, r.lower) }
    ]

part_past : {n d : ℕ} (m e : ℕ) → HasPast n d → n ≤ m → d ≤ e → within m e ≡ false
part_past m e h p q = grows h.size h.depth m e h.past (omega (arith, h.less)) (omega (arith, h.lower))

past_literal : (l : LiteralOf Term) → has_small_parts limited l ≡ false → within_literal l ≡ false
past_literal l e =
    let s : tree.size (term.Lit l) ≡ 1 + sum (map tree.size l.args) + sum (map tree.size l.annots) = fold_lit ℕ tree.size_step l in
    let d : tree.depth (term.Lit l) ≡ 1 + max (tree.greatest (map tree.depth l.args)) (tree.greatest (map tree.depth l.annots)) = fold_lit ℕ tree.depth_step l in
    elim (and_cases (list_all within_term l.args) (list_all within_term l.annots) e) [
      | inl f ↦ part_past (tree.size (term.Lit l)) (tree.depth (term.Lit l)) (term_past l.args f) (omega arith) (omega arith)
      | inr f ↦ part_past (tree.size (term.Lit l)) (tree.depth (term.Lit l)) (term_past l.annots f) (omega arith) (omega arith)
    ]

past_listing : (l : ListingOf Term) → list_all within_term l.items ≡ false → within_term (term.List l) ≡ false
past_listing l e =
    let s : tree.size (term.List l) ≡ 1 + sum (map tree.size l.items) + tree.or_zero (option_map tree.size l.tail) = fold_list ℕ tree.size_step l in
    let d : tree.depth (term.List l) ≡ 1 + max (tree.greatest (map tree.depth l.items)) (tree.or_zero (option_map tree.depth l.tail)) = fold_list ℕ tree.depth_step l in
    part_past (tree.size (term.List l)) (tree.depth (term.List l)) (term_past l.items e) (omega arith) (omega arith)

arg_past : (args : List (ArgOf Expr)) → list_all (is_small_arg limited) args ≡ false → HasPast (sum (map exprs.arg_size (map (map_arg exprs.size) args))) (tree.greatest (map exprs.arg_depth (map (map_arg exprs.depth) args)))
arg_past [] e = absurd cc
arg_past (Plain t ∷ args) e =
    elim (and_cases (within_term t) (list_all (is_small_arg limited) args) e) [
      | inl f ↦ record { size = tree.size t; depth = tree.depth t; past = f; less = omega (arith, sum_cons (tree.size t) (map exprs.arg_size (map (map_arg exprs.size) args))); lower = omega arith }
      | inr f ↦ let r = arg_past args f in record { size = r.size; depth = r.depth; past = r.past; less = omega (arith, r.less, sum_cons (tree.size t) (map exprs.arg_size (map (map_arg exprs.size) args))); lower = omega (arith, r.lower) }
    ]
arg_past (Logic x ∷ args) e =
    elim (and_cases (within_expr x) (list_all (is_small_arg limited) args) e) [
      | inl f ↦ record { size = exprs.size x; depth = exprs.depth x; past = f; less = omega (arith, sum_cons (exprs.size x) (map exprs.arg_size (map (map_arg exprs.size) args))); lower = omega arith }
      | inr f ↦ let r = arg_past args f in record { size = r.size; depth = r.depth; past = r.past; less = omega (arith, r.less, sum_cons (exprs.size x) (map exprs.arg_size (map (map_arg exprs.size) args))); lower = omega (arith, r.lower) }
    ]

past_call : (c : CallOf Expr) → list_all (is_small_arg limited) c.args ≡ false → within_expr (expr.Inner c) ≡ false
past_call c e = part_past (exprs.size (expr.Inner c)) (exprs.depth (expr.Inner c)) (arg_past c.args e) (omega (arith, size_inner c)) (omega (arith, depth_inner c))

-- ---- where the limits are put, or not

pub all_terms : (ts : List Term) → list_all (fits_term unlimited) ts ≡ true
all_terms [] = refl
all_terms (t ∷ ts) = all_terms ts

all_args : (args : List (ArgOf Expr)) → list_all (is_small_arg unlimited) args ≡ true
all_args [] = refl
all_args (Plain t ∷ args) = all_args args
all_args (Logic e ∷ args) = all_args args

pub never : {A : Type 0} {b : Bool} → b ≡ true → b ≡ false → A
never p q = absurd cc

pub literal_past : (bs : Bounds) (l : LiteralOf Term) → has_small_parts bs l ≡ false → fits_literal bs l ≡ false
literal_past limited l e = past_literal l e
literal_past unlimited l e =
    elim (and_cases (list_all (fits_term unlimited) l.args) (list_all (fits_term unlimited) l.annots) e) [
      | inl f ↦ never (all_terms l.args) f
      | inr f ↦ never (all_terms l.annots) f
    ]

pub listing_past : (bs : Bounds) (l : ListingOf Term) → list_all (fits_term bs) l.items ≡ false → fits_term bs (term.List l) ≡ false
listing_past limited l e = past_listing l e
listing_past unlimited l e = never (all_terms l.items) e

pub call_past : (bs : Bounds) (c : CallOf Expr) → list_all (is_small_arg bs) c.args ≡ false → fits_expr bs (expr.Inner c) ≡ false
call_past limited c e = past_call c e
call_past unlimited c e = never (all_args c.args) e
