-- How the parts of the demo's agent are read, and how large they are.
use Rattle.std.proofs.Common.{◌≡◌, ℕ, suc, ◌+◌, pos, Bool, true, false, cond, List, [], ◌∷◌, Some, None, refl, ap, ◌∙◌}
use Rattle.std.specs.Prelude.{codes, ◌&&◌, sum, max}
use Rattle.std.proofs.lemmas.Bool.{le-leb}
use Rattle.asl_lexer.specs.declared.token.Sign.TheVariants as sign
use Rattle.asl_term.specs.declared.syntax.Op.TheVariants.{Sub}
use Rattle.asl_term.specs.declared.syntax.RelOp.TheVariants as rel
use Rattle.asl_term.specs.declared.syntax.LiteralOf.{LiteralOf}
use Rattle.asl_term.specs.declared.syntax.Relation.{Relation}
use Rattle.asl_term.specs.declared.syntax.ArgOf.TheVariants.{Plain}
use Rattle.asl_term.specs.declared.syntax.CallOf.{CallOf}
use Rattle.asl_term.specs.declared.syntax.Term.{Term}
use Rattle.asl_term.specs.declared.syntax.Term.TheVariants as term
use Rattle.asl_term.specs.declared.syntax.Expr.{Expr}
use Rattle.asl_term.specs.declared.syntax.Expr.TheVariants as expr
use Rattle.asl_term.specs.Trees as tree
use Rattle.asl_term.specs.Exprs as exprs
use Rattle.asl_term.proofs.Terms.{fold_num, fold_str, fold_var, fold_lit, fold_op}
use Rattle.asl_term.proofs.Exprs.{fold_true, fold_rel, fold_inner}
use Rattle.asl_parser_tree.specs.declared.lexeme.Lexeme.{Lexeme}
use Rattle.asl_parser_tree.specs.declared.lexeme.Lexeme.TheVariants.{Atom, Var, Num, Str, Inner, Sign}
use Rattle.asl_parser_tree.specs.declared.meaning.Meaning.{Meaning}
use Rattle.asl_parser_tree.specs.declared.meaning.Meaning.TheVariants as meaning
use Rattle.asl_parser_tree.specs.Leaves.{positive, variable}
use Rattle.asl_parser_tree.specs.Limits.{within, within_literal, within_expr}
use Rattle.asl_term_actions.specs.Actions.{named}
use Rattle.asl_parser_tree.specs.Meanings.{arith, joined, compared, called, as_args, wants_formula, is_pure, is_deed}
use Rattle.asl_parser_tree.specs.Plain.{plain_step, is_plain_literal}
use Rattle.asl_parser_expr.specs.Grammar.{Reads, disjunction, sum as sums, primary, ReadsLiteral, minus, more, just_or, just_and, just_negation, just_relation, just_sum, just_product, just_signed}
use Rattle.asl_parser_expr.specs.Grammar.{chained, related, a_number, a_string, a_variable, a_call, last_item, round_parts, no_parts, an_atom, is_held}
use Rattle.mas_top_demo.proofs.Tokens.{Few}

-- ---- terms

abbrev pub number_term : ℕ → Term
number_term n = term.Num (pos n)

abbrev pub n_term : Term
n_term = variable (codes "N")

abbrev pub less_one : Term
less_one = arith Sub n_term (number_term 1)

-- a literal with one argument
abbrev pub with_term : List ℕ → Term → LiteralOf Term
with_term name t = record { neg = false; functor = name; args = t ∷ []; annots = [] }

module _ {n : ℕ} {xs ys : List Lexeme} {m : Meaning} where
  pub as_sum : Reads n primary xs ys m → Reads n sums xs ys m
  as_sum r = just_sum (just_product (just_signed r))

  pub as_all : Reads n primary xs ys m → Reads n disjunction xs ys m
  as_all r = just_or (just_and (just_negation (just_relation (as_sum r))))

number_there : (k : ℕ) → Few k → positive k ≡ Some (pos k)
number_there k le = ap (λ (b : Bool). cond b (Some (pos k)) None) (le-leb k 9223372036854775807 le)

pub number_read : {n : ℕ} {xs : List Lexeme} (k : ℕ) → Few k → Reads n sums (Num k ∷ xs) xs (meaning.Term (number_term k))
number_read k le = as_sum (a_number (number_there k le))

pub n_read : {n : ℕ} {xs : List Lexeme} → Reads n sums (Var (codes "N") ∷ xs) xs (meaning.Term n_term)
n_read = as_sum a_variable

pub less_one_read : {n : ℕ} {xs : List Lexeme} → Reads n sums (Var (codes "N") ∷ Sign sign.Minus ∷ Num 1 ∷ xs) xs (meaning.Term less_one)
unfolding joined
less_one_read = chained minus n_read (just_product (just_signed (a_number refl))) refl

pub literal_read : {n : ℕ} {name : List ℕ} {t : Term} {xs ys : List Lexeme} → Reads n sums xs (Sign sign.Close ∷ ys) (meaning.Term t)
    → ReadsLiteral (suc n) (Atom name ∷ Sign sign.Open ∷ xs) ys (with_term name t)
literal_read r = is_held (an_atom (round_parts (last_item r)) refl no_parts refl)

abbrev pub above_zero : Relation
above_zero = record { op = rel.More; left = n_term; right = number_term 0 }

pub above_zero_read : {n : ℕ} {xs : List Lexeme} → Reads n disjunction (Var (codes "N") ∷ Sign sign.More ∷ Num 0 ∷ xs) xs (meaning.Relation above_zero)
unfolding compared
above_zero_read = just_or (just_and (just_negation (related more n_read (as_sum (a_number refl)) refl)))

abbrev pub print_ready : CallOf Expr
print_ready = record { name = codes "print"; args = Plain (term.Str (codes "ready")) ∷ [] }

pub print_read : {n : ℕ} {xs : List Lexeme}
    → Reads (suc n) disjunction (Inner (codes "print") ∷ Sign sign.Open ∷ Str (codes "ready") ∷ Sign sign.Close ∷ xs) xs (meaning.Call print_ready)
unfolding called as_args wants_formula is_pure is_deed named
print_read = as_all (a_call (round_parts (last_item (as_all a_string))) refl)

-- ---- sizes

-- a term of so many nodes and levels
pub record Sized (nodes levels : ℕ) (t : Term) : Type 0 where
  pub size : tree.size t ≡ nodes
  pub depth : tree.depth t ≡ levels

pub number_sized : (k : ℕ) → Sized 1 1 (number_term k)
number_sized k = record { size = fold_num ℕ tree.size_step (pos k); depth = fold_num ℕ tree.depth_step (pos k) }

pub n_sized : Sized 1 1 n_term
n_sized = record { size = fold_var ℕ tree.size_step _; depth = fold_var ℕ tree.depth_step _ }

pub less_one_sized : Sized 3 2 less_one
less_one_sized = record {
  size = fold_op ℕ tree.size_step _ ∙ (λ i. 1 + n_sized.size i + (number_sized 1).size i);
  depth = fold_op ℕ tree.depth_step _ ∙ (λ i. 1 + max (n_sized.depth i) ((number_sized 1).depth i));
}

string_sized : (s : List ℕ) → Sized 1 1 (term.Str s)
string_sized s = record { size = fold_str ℕ tree.size_step s; depth = fold_str ℕ tree.depth_step s }

abbrev literal_nodes : ℕ → ℕ
literal_nodes k = 1 + sum (k ∷ []) + sum []

abbrev literal_levels : ℕ → ℕ
literal_levels k = 1 + max (tree.greatest (k ∷ [])) (tree.greatest [])

pub literal_within : (name : List ℕ) (t : Term) {nodes levels : ℕ} → Sized nodes levels t → within (literal_nodes nodes) (literal_levels levels) ≡ true
    → within_literal (with_term name t) ≡ true
literal_within name t s e =
    (λ i. within ((fold_lit ℕ tree.size_step (with_term name t) ∙ ap literal_nodes s.size) i) ((fold_lit ℕ tree.depth_step (with_term name t) ∙ ap literal_levels s.depth) i)) ∙ e

pub true_within : within_expr expr.True ≡ true
true_within = λ i. within (fold_true ℕ exprs.size_step i) (fold_true ℕ exprs.depth_step i)

pub above_zero_within : within_expr (expr.Rel above_zero) ≡ true
above_zero_within =
    let size : exprs.size (expr.Rel above_zero) ≡ 3 = fold_rel ℕ exprs.size_step above_zero ∙ (λ i. 1 + n_sized.size i + (number_sized 0).size i) in
    let depth : exprs.depth (expr.Rel above_zero) ≡ 2 = fold_rel ℕ exprs.depth_step above_zero ∙ (λ i. 1 + max (n_sized.depth i) ((number_sized 0).depth i)) in
    λ i. within (size i) (depth i)

pub print_within : within_expr (expr.Inner print_ready) ≡ true
print_within =
    let ready = string_sized (codes "ready") in
    let size : exprs.size (expr.Inner print_ready) ≡ 2 = fold_inner ℕ exprs.size_step print_ready ∙ ap (λ k. 1 + sum (k ∷ [])) ready.size in
    let depth : exprs.depth (expr.Inner print_ready) ≡ 2 = fold_inner ℕ exprs.depth_step print_ready ∙ ap (λ k. 1 + tree.greatest (k ∷ [])) ready.depth in
    λ i. within (size i) (depth i)

-- ---- heads without arithmetic

pub number_head : (name : List ℕ) (k : ℕ) → is_plain_literal (with_term name (number_term k)) ≡ true
number_head name k = ap (λ (b : Bool). (b && true) && true) (fold_num Bool plain_step (pos k))

pub n_head : (name : List ℕ) → is_plain_literal (with_term name n_term) ≡ true
n_head name = ap (λ (b : Bool). (b && true) && true) (fold_var Bool plain_step _)
