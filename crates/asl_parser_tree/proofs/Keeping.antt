-- What is kept of a whole is what the operations make of what is kept of its parts.
use Rattle.std.proofs.Common.{◌≡◌, ℕ, ℤ, pos, Bool, true, false, cond, ◌&&◌, leb, ◌⊎◌, inl, inr, List, length, Option, Some, None, refl, sym, ap, ◌∙◌}
use Rattle.std.specs.Option.{option_map, is_some}
use Rattle.asl_term.specs.declared.syntax.Op.{Op}
use Rattle.asl_term.specs.declared.syntax.Op.TheVariants.{Sub}
use Rattle.asl_term.specs.declared.syntax.Var.{Var}
use Rattle.asl_term.specs.declared.syntax.RelOp.{RelOp}
use Rattle.asl_term.specs.declared.syntax.LiteralOf.{LiteralOf}
use Rattle.asl_term.specs.declared.syntax.ListingOf.{ListingOf}
use Rattle.asl_term.specs.declared.syntax.Relation.{Relation}
use Rattle.asl_term.specs.declared.syntax.CallOf.{CallOf}
use Rattle.asl_term.specs.declared.syntax.Term.{Term}
use Rattle.asl_term.specs.declared.syntax.Term.TheVariants as term
use Rattle.asl_term.specs.declared.syntax.Expr.{Expr}
use Rattle.asl_term.specs.declared.syntax.Expr.TheVariants as expr
use Rattle.asl_term.specs.Trees as tree
use Rattle.asl_term.specs.Exprs as exprs
use Rattle.asl_term.proofs.Terms.{fold_num, fold_str, fold_var, fold_lit, fold_list, fold_op}
use Rattle.asl_term.proofs.Exprs.{fold_true, fold_false, fold_holds, fold_rel, fold_inner, fold_not, fold_and, fold_or}
use Rattle.asl_parser_tree.specs.declared.meaning.Meaning.{Meaning}
use Rattle.asl_parser_tree.specs.declared.meaning.Meaning.TheVariants as meaning
use Rattle.asl_parser_tree.specs.declared.meaning.Joint.{Joint}
use Rattle.asl_parser_tree.specs.declared.meaning.Joint.TheVariants as joint
use Rattle.asl_parser_tree.specs.declared.meaning.Prefix.{Prefix}
use Rattle.asl_parser_tree.specs.declared.meaning.Prefix.TheVariants as prefix
use Rattle.asl_parser_tree.specs.declared.bounded.Bounded.TheVariants.{Within, Past}
use Rattle.asl_parser_tree.specs.declared.bounded.Outline.{Outline}
use Rattle.asl_parser_tree.specs.Meanings.{◌>>=◌, arith as op_of, either_of, both_of, is_pure}
use Rattle.asl_parser_tree.specs.Meanings.{joined as true_joined, compared as true_compared, prefixed as true_prefixed}
use Rattle.asl_parser_tree.specs.Meanings as meanings
use Rattle.asl_parser_tree.specs.Leaves.{variable}
use Rattle.asl_parser_tree.specs.Limits.{within_term, within_literal, within_expr}
use Rattle.asl_parser_tree.specs.Conjuncts.{Parts, no_parts, parts_step, parts, is_literal, has_parts}
use Rattle.asl_parser_tree.specs.Plain.{plain_step, is_plain, is_plain_literal, is_plain_listing, is_action}
use Rattle.asl_parser_tree.specs.Holding.{Bounds, limited, unlimited, bounded, fits_term, fits_literal, fits_expr, Kept, KeptExpr, outline, formula_outline, relation_outline, term_outline, call_outline, literal_outline, keep_if, is_small, hold, hold_if, hold_term, hold_formula, as_term, as_formula, past_if, large_joint, joined, compared, large_prefix, prefixed}
use Rattle.asl_parser_tree.proofs.Options.{some_is}
use Rattle.asl_parser_tree.proofs.Past.{falls, op_left, op_right, rel_left, rel_right, not_part, or_first, or_second, and_first, and_second}

pub true_small : within_expr expr.True ≡ true
true_small = ap (λ (n : ℕ). leb n 10000 && leb (exprs.depth expr.True) 250) (fold_true ℕ exprs.size_step) ∙ ap (λ (n : ℕ). leb n 250) (fold_true ℕ exprs.depth_step)

false_small : within_expr expr.False ≡ true
false_small = ap (λ (n : ℕ). leb n 10000 && leb (exprs.depth expr.False) 250) (fold_false ℕ exprs.size_step) ∙ ap (λ (n : ℕ). leb n 250) (fold_false ℕ exprs.depth_step)

holds_small : (l : LiteralOf Term) → within_expr (expr.Holds l) ≡ within_literal l
holds_small l = ap (λ (n : ℕ). leb n 10000 && leb (exprs.depth (expr.Holds l)) 250) (fold_holds ℕ exprs.size_step l) ∙ ap (λ (n : ℕ). leb (exprs.literal_size l) 10000 && leb n 250) (fold_holds ℕ exprs.depth_step l)

literal_plain : (l : LiteralOf Term) → is_plain (term.Lit l) ≡ is_plain_literal l
literal_plain l = fold_lit Bool plain_step l

pub listing_plain : (l : ListingOf Term) → is_plain (term.List l) ≡ is_plain_listing l
listing_plain l = fold_list Bool plain_step l

term_is : (m : Meaning) → (outline m).term ≡ is_some (meanings.as_term m)
term_is (meaning.Truth b l) = refl
term_is (meaning.Literal l) = refl
term_is (meaning.Term t) = refl
term_is (meaning.Relation r) = refl
term_is (meaning.Call c) = refl
term_is (meaning.Formula e) = refl

formula_is : (m : Meaning) → (outline m).formula ≡ is_some (meanings.as_formula m)
formula_is (meaning.Truth b l) = refl
formula_is (meaning.Literal l) = refl
formula_is (meaning.Term t) = refl
formula_is (meaning.Relation r) = refl
formula_is (meaning.Call c) = go (is_pure c.name (length c.args))
  where
    go : (p : Bool) → p ≡ is_some (cond p (Some (expr.Inner c)) None)
    go true = refl
    go false = refl
formula_is (meaning.Formula e) = refl

formulas_are : (l r : Meaning) (o : Outline) → past_if ((outline l).formula && (outline r).formula) o ≡ past_if (is_some (meanings.as_formula l) && is_some (meanings.as_formula r)) o
formulas_are l r o = ap (λ (b : Bool). past_if (b && (outline r).formula) o) (formula_is l) ∙ ap (λ (b : Bool). past_if (is_some (meanings.as_formula l) && b) o) (formula_is r)

terms_are : (l r : Meaning) (o : Outline) → past_if ((outline l).term && (outline r).term) o ≡ past_if (is_some (meanings.as_term l) && is_some (meanings.as_term r)) o
terms_are l r o = ap (λ (b : Bool). past_if (b && (outline r).term) o) (term_is l) ∙ ap (λ (b : Bool). past_if (is_some (meanings.as_term l) && b) o) (term_is r)

-- ---- the parts of formulas

abbrev parted : Bool → Bool → Parts
parted literal simple = record { literal = literal; simple = simple }

true_parts : parts expr.True ≡ no_parts
true_parts = fold_true Parts parts_step

false_parts : parts expr.False ≡ no_parts
false_parts = fold_false Parts parts_step

holds_parts : (l : LiteralOf Term) → parts (expr.Holds l) ≡ parted true true
holds_parts l = fold_holds Parts parts_step l

rel_parts : (r : Relation) → parts (expr.Rel r) ≡ parted false true
rel_parts r = fold_rel Parts parts_step r

inner_parts : (c : CallOf Expr) → parts (expr.Inner c) ≡ no_parts
inner_parts c = fold_inner Parts parts_step c

not_parts : (a : Expr) → parts (expr.Not a) ≡ parted false (is_literal a)
not_parts a = fold_not Parts parts_step a

and_parts : (a b : Expr) → parts (both_of a b) ≡ parted false (has_parts a && has_parts b)
and_parts a b = fold_and Parts parts_step a b

or_parts : (a b : Expr) → parts (either_of a b) ≡ no_parts
or_parts a b = fold_or Parts parts_step a b

-- the outline of a meaning tells the parts of the formula
outlined : (m : Meaning) (x : Expr) → meanings.as_formula m ≡ Some x → parts x ≡ parted (outline m).literal (outline m).parts
outlined (meaning.Truth true l) x e = ap parts (sym (some_is expr.True x e)) ∙ true_parts
outlined (meaning.Truth false l) x e = ap parts (sym (some_is expr.False x e)) ∙ false_parts
outlined (meaning.Literal l) x e = ap parts (sym (some_is (expr.Holds l) x e)) ∙ holds_parts l
outlined (meaning.Term t) x e = absurd cc
outlined (meaning.Relation r) x e = ap parts (sym (some_is (expr.Rel r) x e)) ∙ rel_parts r
outlined (meaning.Call c) x e = go (is_pure c.name (length c.args)) e
  where
    go : (p : Bool) → cond p (Some (expr.Inner c)) None ≡ Some x → parts x ≡ no_parts
    go true e = ap parts (sym (some_is (expr.Inner c) x e)) ∙ inner_parts c
    go false e = absurd cc
outlined (meaning.Formula f) x e = ap parts (sym (some_is f x e))

op_plain : (op : Op) (a b : Term) → is_plain (op_of op a b) ≡ false
op_plain op a b = fold_op Bool plain_step (record { op = op; left = a; right = b })

number_small : (z : ℤ) → within_term (term.Num z) ≡ true
number_small z = ap (λ (n : ℕ). leb n 10000 && leb (tree.depth (term.Num z)) 250) (fold_num ℕ tree.size_step z) ∙ ap (λ (n : ℕ). leb n 250) (fold_num ℕ tree.depth_step z)

string_small : (s : List ℕ) → within_term (term.Str s) ≡ true
string_small s = ap (λ (n : ℕ). leb n 10000 && leb (tree.depth (term.Str s)) 250) (fold_str ℕ tree.size_step s) ∙ ap (λ (n : ℕ). leb n 250) (fold_str ℕ tree.depth_step s)

variable_small : (name : List ℕ) → within_term (variable name) ≡ true
variable_small name =
    let v : Var = record { name = name; number = 0 } in
    ap (λ (n : ℕ). leb n 10000 && leb (tree.depth (term.Var v)) 250) (fold_var ℕ tree.size_step v) ∙ ap (λ (n : ℕ). leb n 250) (fold_var ℕ tree.depth_step v)

abbrev paired : {A : Type 0} → Option A → Option A → Option (A × A)
paired p q = p >>= λ a. q >>= λ b. Some (a, b)

abbrev relation : RelOp → Term → Term → Relation
relation op a b = record { op = op; left = a; right = b }

-- a call as a formula, if it is pure; and what is kept of it
abbrev pure_call : CallOf Expr → Bool → Option Expr
pure_call c p = cond p (Some (expr.Inner c)) None

abbrev call_at : CallOf Expr → Bool → Bool → Option KeptExpr
call_at c true p = option_map Within (pure_call c p)
call_at c false p = cond p (Some (Past false)) None

-- what is within the limits is small where the limits are put, and where they are not
fits_at : (bs : Bounds) (b : Bool) → b ≡ true → bounded bs b ≡ true
fits_at limited b e = e
fits_at unlimited b e = refl

module _ (bs : Bounds) where
  fits_small : {b : Bool} → b ≡ true → bounded bs b ≡ true
  fits_small {b} e = fits_at bs b e

  -- ---- terms and formulas

  pub term_held : (m : Meaning) → as_term bs (hold bs m) ≡ option_map (hold_term bs) (meanings.as_term m)
  term_held (meaning.Truth b l) = refl
  term_held (meaning.Literal l) = go (fits_literal bs l)
    where
      go : (b : Bool) → as_term bs (keep_if b (meaning.Literal l) (literal_outline (is_action l) (is_plain_literal l))) ≡ Some (keep_if b (term.Lit l) (is_plain (term.Lit l)))
      go true = refl
      go false = ap (λ (p : Bool). Some (Past p)) (sym (literal_plain l))
  term_held (meaning.Term t) = go (fits_term bs t)
    where
      go : (b : Bool) → as_term bs (keep_if b (meaning.Term t) (term_outline (is_plain t))) ≡ Some (keep_if b t (is_plain t))
      go true = refl
      go false = refl
  term_held (meaning.Relation r) = go (fits_expr bs (expr.Rel r))
    where
      go : (b : Bool) → as_term bs (keep_if b (meaning.Relation r) relation_outline) ≡ None
      go true = refl
      go false = refl
  term_held (meaning.Call c) = go (fits_expr bs (expr.Inner c))
    where
      go : (b : Bool) → as_term bs (keep_if b (meaning.Call c) (call_outline (is_pure c.name (length c.args)))) ≡ None
      go true = refl
      go false = refl
  term_held (meaning.Formula e) = go (fits_expr bs e)
    where
      go : (b : Bool) → as_term bs (keep_if b (meaning.Formula e) (formula_outline (is_literal e) (has_parts e))) ≡ None
      go true = refl
      go false = refl

  pub formula_held : (m : Meaning) → as_formula (hold bs m) ≡ option_map (hold_formula bs) (meanings.as_formula m)
  formula_held (meaning.Truth true l) = ap (λ (b : Bool). Some (keep_if b expr.True (has_parts expr.True))) (sym (fits_small true_small))
  formula_held (meaning.Truth false l) = ap (λ (b : Bool). Some (keep_if b expr.False (has_parts expr.False))) (sym (fits_small false_small))
  formula_held (meaning.Literal l) = go (fits_literal bs l) ∙ ap (λ (b : Bool). Some (keep_if b (expr.Holds l) (has_parts (expr.Holds l)))) (sym (ap (bounded bs) (holds_small l)))
    where
      go : (b : Bool) → as_formula (keep_if b (meaning.Literal l) (literal_outline (is_action l) (is_plain_literal l))) ≡ Some (keep_if b (expr.Holds l) (has_parts (expr.Holds l)))
      go true = refl
      go false = ap (λ (p : Parts). Some (Past p.simple)) (sym (holds_parts l))
  formula_held (meaning.Term t) = go (fits_term bs t)
    where
      go : (b : Bool) → as_formula (keep_if b (meaning.Term t) (term_outline (is_plain t))) ≡ None
      go true = refl
      go false = refl
  formula_held (meaning.Relation r) = go (fits_expr bs (expr.Rel r))
    where
      go : (b : Bool) → as_formula (keep_if b (meaning.Relation r) relation_outline) ≡ Some (keep_if b (expr.Rel r) (has_parts (expr.Rel r)))
      go true = refl
      go false = ap (λ (p : Parts). Some (Past p.simple)) (sym (rel_parts r))
  formula_held (meaning.Call c) = opened (fits_expr bs (expr.Inner c)) ∙ kept (fits_expr bs (expr.Inner c)) (is_pure c.name (length c.args)) ∙ closed (is_pure c.name (length c.args))
    where
      opened : (b : Bool) → as_formula (keep_if b (meaning.Call c) (call_outline (is_pure c.name (length c.args)))) ≡ call_at c b (is_pure c.name (length c.args))
      opened true = refl
      opened false = refl

      kept : (b p : Bool) → call_at c b p ≡ option_map (λ e. keep_if b e (has_parts e)) (pure_call c p)
      kept true true = refl
      kept true false = refl
      kept false true = ap (λ (q : Parts). Some (Past q.simple)) (sym (inner_parts c))
      kept false false = refl

      closed : (p : Bool) → option_map (λ e. keep_if (fits_expr bs (expr.Inner c)) e (has_parts e)) (pure_call c p) ≡ option_map (hold_formula bs) (pure_call c p)
      closed true = refl
      closed false = refl
  formula_held (meaning.Formula e) = go (fits_expr bs e)
    where
      go : (b : Bool) → as_formula (keep_if b (meaning.Formula e) (formula_outline (is_literal e) (has_parts e))) ≡ Some (keep_if b e (has_parts e))
      go true = refl
      go false = refl

  -- ---- what is past the limits

  large_term : (m : Meaning) (t : Term) → is_small bs m ≡ false → meanings.as_term m ≡ Some t → fits_term bs t ≡ false
  large_term (meaning.Truth b l) t h e = absurd cc
  large_term (meaning.Literal l) t h e = ap (fits_term bs) (sym (some_is (term.Lit l) t e)) ∙ h
  large_term (meaning.Term u) t h e = ap (fits_term bs) (sym (some_is u t e)) ∙ h
  large_term (meaning.Relation r) t h e = absurd cc
  large_term (meaning.Call c) t h e = absurd cc
  large_term (meaning.Formula f) t h e = absurd cc

  large_formula : (m : Meaning) (x : Expr) → is_small bs m ≡ false → meanings.as_formula m ≡ Some x → fits_expr bs x ≡ false
  large_formula (meaning.Truth b l) x h e = absurd cc
  large_formula (meaning.Literal l) x h e = ap (fits_expr bs) (sym (some_is (expr.Holds l) x e)) ∙ ap (bounded bs) (holds_small l) ∙ h
  large_formula (meaning.Term t) x h e = absurd cc
  large_formula (meaning.Relation r) x h e = ap (fits_expr bs) (sym (some_is (expr.Rel r) x e)) ∙ h
  large_formula (meaning.Call c) x h e = go (is_pure c.name (length c.args)) e
    where
      go : (p : Bool) → cond p (Some (expr.Inner c)) None ≡ Some x → fits_expr bs x ≡ false
      go true e = ap (fits_expr bs) (sym (some_is (expr.Inner c) x e)) ∙ h
      go false e = absurd cc
  large_formula (meaning.Formula f) x h e = ap (fits_expr bs) (sym (some_is f x e)) ∙ h

  -- ---- operations

  -- one of two meanings is past the limits
  abbrev OneLarge : Meaning → Meaning → Type 0
  OneLarge l r = (is_small bs l ≡ false) ⊎ (is_small bs r ≡ false)

  two_formulas : (make : Expr → Expr → Expr) (o : Outline) (p q : Option Expr) → ((a b : Expr) → p ≡ Some a → q ≡ Some b → hold bs (meaning.Formula (make a b)) ≡ Past o) → past_if (is_some p && is_some q) o ≡ hold_if bs (paired p q >>= λ x. Some (meaning.Formula (make x.0 x.1)))
  two_formulas make o None q h = refl
  two_formulas make o (Some a) None h = refl
  two_formulas make o (Some a) (Some b) h = ap (λ (k : Kept). Some k) (sym (h a b refl refl))

  two_terms : (make : Term → Term → Meaning) (o : Outline) (p q : Option Term) → ((a b : Term) → p ≡ Some a → q ≡ Some b → hold bs (make a b) ≡ Past o) → past_if (is_some p && is_some q) o ≡ hold_if bs (paired p q >>= λ x. Some (make x.0 x.1))
  two_terms make o None q h = refl
  two_terms make o (Some a) None h = refl
  two_terms make o (Some a) (Some b) h = ap (λ (k : Kept). Some k) (sym (h a b refl refl))

  -- an operation is arithmetic
  op_past : (op : Op) (a b : Term) → fits_term bs (op_of op a b) ≡ false → hold bs (meaning.Term (op_of op a b)) ≡ Past (term_outline false)
  op_past op a b h = ap (λ (c : Bool). keep_if c (meaning.Term (op_of op a b)) (term_outline (is_plain (op_of op a b)))) h ∙ ap (λ (p : Bool). Past (term_outline p)) (op_plain op a b)

  abbrev parts_outline : Parts → Outline
  parts_outline p = formula_outline p.literal p.simple

  -- a formula past the limits, with its parts
  formula_past : (x : Expr) (p : Parts) → fits_expr bs x ≡ false → parts x ≡ p → hold bs (meaning.Formula x) ≡ Past (parts_outline p)
  formula_past x p h e = ap (λ (c : Bool). keep_if c (meaning.Formula x) (parts_outline (parts x))) h ∙ ap (λ (q : Parts). Past (parts_outline q)) e

  either_past : (a b : Expr) → fits_expr bs (either_of a b) ≡ false → hold bs (meaning.Formula (either_of a b)) ≡ Past (formula_outline false false)
  either_past a b h = formula_past (either_of a b) no_parts h (or_parts a b)

  both_past : (l r : Meaning) (a b : Expr) → meanings.as_formula l ≡ Some a → meanings.as_formula r ≡ Some b → fits_expr bs (both_of a b) ≡ false → hold bs (meaning.Formula (both_of a b)) ≡ Past (formula_outline false ((outline l).parts && (outline r).parts))
  both_past l r a b e f h =
      let s : has_parts a ≡ (outline l).parts = ap (λ (p : Parts). p.simple) (outlined l a e) in
      let t : has_parts b ≡ (outline r).parts = ap (λ (p : Parts). p.simple) (outlined r b f) in
      formula_past (both_of a b) (parted false ((outline l).parts && (outline r).parts)) h
      (and_parts a b ∙ ap (λ (c : Bool). parted false (c && has_parts b)) s ∙ ap (λ (c : Bool). parted false ((outline l).parts && c)) t)

  large_joined : (o : Joint) (l r : Meaning) → OneLarge l r → large_joint o (outline l) (outline r) ≡ hold_if bs (true_joined o l r)
  unfolding true_joined
  large_joined joint.Or l r s = formulas_are l r (formula_outline false false) ∙ two_formulas either_of (formula_outline false false) (meanings.as_formula l) (meanings.as_formula r) (λ a b e f. either_past a b (elim s [ inl h ↦ falls bs (or_first a b) (large_formula l a h e) | inr h ↦ falls bs (or_second a b) (large_formula r b h f) ]))
  large_joined joint.And l r s = formulas_are l r (formula_outline false ((outline l).parts && (outline r).parts)) ∙ two_formulas both_of (formula_outline false ((outline l).parts && (outline r).parts)) (meanings.as_formula l) (meanings.as_formula r) (λ a b e f. both_past l r a b e f (elim s [ inl h ↦ falls bs (and_first a b) (large_formula l a h e) | inr h ↦ falls bs (and_second a b) (large_formula r b h f) ]))
  large_joined (joint.Arith op) l r s = terms_are l r (term_outline false) ∙ two_terms (λ a b. meaning.Term (op_of op a b)) (term_outline false) (meanings.as_term l) (meanings.as_term r) (λ a b e f. op_past op a b (elim s [ inl h ↦ falls bs (op_left op a b) (large_term l a h e) | inr h ↦ falls bs (op_right op a b) (large_term r b h f) ]))

  pub joined_held : (o : Joint) (l r : Meaning) → joined bs o (hold bs l) (hold bs r) ≡ hold_if bs (true_joined o l r)
  unfolding joined
  joined_held o l r = go (is_small bs l) refl (is_small bs r) refl
    where
      go : (b : Bool) → is_small bs l ≡ b → (c : Bool) → is_small bs r ≡ c → joined bs o (keep_if b l (outline l)) (keep_if c r (outline r)) ≡ hold_if bs (true_joined o l r)
      go true h true i = refl
      go true h false i = large_joined o l r (inr i)
      go false h true i = large_joined o l r (inl h)
      go false h false i = large_joined o l r (inl h)

  large_compared : (op : RelOp) (l r : Meaning) → OneLarge l r → past_if ((outline l).term && (outline r).term) relation_outline ≡ hold_if bs (true_compared op l r)
  unfolding true_compared
  large_compared op l r s = terms_are l r relation_outline ∙ two_terms (λ a b. meaning.Relation (relation op a b)) relation_outline (meanings.as_term l) (meanings.as_term r) (λ a b e f. ap (λ (c : Bool). keep_if c (meaning.Relation (relation op a b)) relation_outline) (elim s [ inl h ↦ falls bs (rel_left (relation op a b)) (large_term l a h e) | inr h ↦ falls bs (rel_right (relation op a b)) (large_term r b h f) ]))

  pub compared_held : (op : RelOp) (l r : Meaning) → compared bs op (hold bs l) (hold bs r) ≡ hold_if bs (true_compared op l r)
  unfolding compared
  compared_held op l r = go (is_small bs l) refl (is_small bs r) refl
    where
      go : (b : Bool) → is_small bs l ≡ b → (c : Bool) → is_small bs r ≡ c → compared bs op (keep_if b l (outline l)) (keep_if c r (outline r)) ≡ hold_if bs (true_compared op l r)
      go true h true i = refl
      go true h false i = large_compared op l r (inr i)
      go false h true i = large_compared op l r (inl h)
      go false h false i = large_compared op l r (inl h)

  large_prefixed : (p : Prefix) (m : Meaning) → is_small bs m ≡ false → large_prefix p (outline m) ≡ hold_if bs (true_prefixed p m)
  unfolding true_prefixed
  large_prefixed prefix.Not m h = ap (λ (b : Bool). past_if b (formula_outline false (outline m).literal)) (formula_is m) ∙ go (meanings.as_formula m) refl
    where
      go : (o : Option Expr) → meanings.as_formula m ≡ o → past_if (is_some o) (formula_outline false (outline m).literal) ≡ hold_if bs (o >>= λ e. Some (meaning.Formula (expr.Not e)))
      go None e = refl
      go (Some x) e = ap (λ (k : Kept). Some k) (sym (formula_past (expr.Not x) (parted false (outline m).literal) (falls bs (not_part x) (large_formula m x h e)) (not_parts x ∙ ap (λ (p : Parts). parted false p.literal) (outlined m x e))))
  large_prefixed prefix.Minus m h = ap (λ (b : Bool). past_if b (term_outline false)) (term_is m) ∙ go (meanings.as_term m) refl
    where
      go : (o : Option Term) → meanings.as_term m ≡ o → past_if (is_some o) (term_outline false) ≡ hold_if bs (o >>= λ t. Some (meaning.Term (op_of Sub (term.Num (pos 0)) t)))
      go None e = refl
      go (Some t) e = ap (λ (k : Kept). Some k) (sym (op_past Sub (term.Num (pos 0)) t (falls bs (op_right Sub (term.Num (pos 0)) t) (large_term m t h e))))

  pub prefixed_held : (p : Prefix) (m : Meaning) → prefixed bs p (hold bs m) ≡ hold_if bs (true_prefixed p m)
  unfolding prefixed
  prefixed_held p m = go (is_small bs m) refl
    where
      go : (b : Bool) → is_small bs m ≡ b → prefixed bs p (keep_if b m (outline m)) ≡ hold_if bs (true_prefixed p m)
      go true h = refl
      go false h = large_prefixed p m h

  -- ---- single tokens

  small_held : (t : Term) → fits_term bs t ≡ true → hold bs (meaning.Term t) ≡ Within (meaning.Term t)
  small_held t e = ap (λ (b : Bool). keep_if b (meaning.Term t) (term_outline (is_plain t))) e

  pub number_held : (z : ℤ) → hold bs (meaning.Term (term.Num z)) ≡ Within (meaning.Term (term.Num z))
  number_held z = small_held (term.Num z) (fits_small (number_small z))

  pub string_held : (s : List ℕ) → hold bs (meaning.Term (term.Str s)) ≡ Within (meaning.Term (term.Str s))
  string_held s = small_held (term.Str s) (fits_small (string_small s))

  pub variable_held : (name : List ℕ) → hold bs (meaning.Term (variable name)) ≡ Within (meaning.Term (variable name))
  variable_held name = small_held (variable name) (fits_small (variable_small name))

  pub true_held : hold_formula bs expr.True ≡ Within expr.True
  true_held = ap (λ (b : Bool). keep_if b expr.True (has_parts expr.True)) (fits_small true_small)
