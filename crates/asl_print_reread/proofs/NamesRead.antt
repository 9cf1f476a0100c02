-- The names of unnamed variables in what was read are those of its tokens, in the same order.
use Rattle.std.proofs.Common.{◌≡◌, ℕ, pos, Bool, true, false, cond, List, [], ◌∷◌, ◌++◌, map, length, Option, Some, None, refl, ap, sym, ◌∙◌}
use Rattle.std.specs.Prelude.{◌||◌}
use Rattle.std.specs.List.{flat_map}
use Rattle.std.proofs.lemmas.List.{append-nil}
use Rattle.asl_lexer.specs.declared.token.Sign.TheVariants as sign
use Rattle.asl_term.specs.declared.syntax.Op.{Op}
use Rattle.asl_term.specs.declared.syntax.Op.TheVariants.{Sub}
use Rattle.asl_term.specs.declared.syntax.RelOp.{RelOp}
use Rattle.asl_term.specs.declared.syntax.Relation.{Relation}
use Rattle.asl_term.specs.declared.syntax.ArgOf.{ArgOf}
use Rattle.asl_term.specs.declared.syntax.Term.{Term}
use Rattle.asl_term.specs.declared.syntax.Term.TheVariants as term
use Rattle.asl_term.specs.declared.syntax.Expr.{Expr}
use Rattle.asl_term.specs.declared.syntax.Expr.TheVariants as expr
use Rattle.asl_term.specs.Exprs.{map_arg}
use Rattle.asl_term.proofs.Terms.{fold_str, fold_var}
use Rattle.asl_term.proofs.Exprs.{fold_rel, fold_not, fold_and, fold_or, fold_inner}
use Rattle.asl_parser_tree.specs.declared.lexeme.Lexeme.{Lexeme}
use Rattle.asl_parser_tree.specs.declared.lexeme.Lexeme.TheVariants as lexeme
use Rattle.asl_parser_tree.specs.declared.meaning.Meaning.{Meaning}
use Rattle.asl_parser_tree.specs.declared.meaning.Meaning.TheVariants as meaning
use Rattle.asl_parser_tree.specs.declared.meaning.Joint.{Joint}
use Rattle.asl_parser_tree.specs.declared.meaning.Joint.TheVariants as joint
use Rattle.asl_parser_tree.specs.declared.meaning.Prefix.TheVariants as prefix
use Rattle.asl_parser_tree.specs.Meanings.{◌>>=◌, is_pure, is_deed, as_formula, arith, either_of, both_of, joined, compared, prefixed, as_args, called}
use Rattle.asl_parser_tree.specs.Leaves.{variable}
use Rattle.asl_parser_expr.specs.Grammar.{Rule, Joins, or, and, plus, minus, times, over, modulo, Relates, less, less_same, more, more_same, same, differ, unify}
use Rattle.asl_parser_tree.proofs.Options.{some_is}
use Rattle.asl_print.specs.Tokens.{rel_sign}
use Rattle.asl_print_reread.specs.Shown.{mark, arg_shown, term_step, term_shown, expr_step, expr_shown}
use Rattle.asl_print_reread.proofs.Meant.{shown_of, Good, good_term, good_expr}
use Rattle.asl_print_reread.proofs.Leaves.{var_of, good_number}
use Rattle.asl_print_reread.proofs.Joined.{formulas_of, terms_of, from_zero}
use Rattle.asl_print_reread.proofs.Literals.{AllGood, GoodTerms, terms_none, terms_next}
use Rattle.asl_print_reread.proofs.Calls.{GoodArgs, good_args, call_of}
use Rattle.asl_print_reread.proofs.Names.{names_in, names}
use Rattle.asl_print_reread.proofs.NamesOf.{terms_names, between_names, bracketed_names, number_names, op_names}

abbrev pub meant_names : Meaning → List (List ℕ)
meant_names m = names (shown_of m)

abbrev pub all_names : List Meaning → List (List ℕ)
all_names = flat_map meant_names

-- ---- two operands

pub joins_name : {rule : Rule} {x : Lexeme} {o : Joint} → Joins rule x o → names_in x ≡ []
joins_name or = refl
joins_name and = refl
joins_name plus = refl
joins_name minus = refl
joins_name times = refl
joins_name over = refl
joins_name modulo = refl

pub relates_name : {x : Lexeme} {o : RelOp} → Relates x o → names_in x ≡ []
relates_name less = refl
relates_name less_same = refl
relates_name more = refl
relates_name more_same = refl
relates_name same = refl
relates_name differ = refl
relates_name unify = refl

arith_names : (op : Op) (l r m : Meaning) → joined (joint.Arith op) l r ≡ Some m → Good l → Good r → meant_names m ≡ meant_names l ++ meant_names r
unfolding joined
arith_names op l r m e g h =
    let o = terms_of (λ a b. meaning.Term (arith op a b)) l r m e in
    let a = good_term l o.left g o.first in
    let b = good_term r o.right h o.second in
    ap meant_names (sym o.is)
    ∙ op_names (record { op = op; left = o.left; right = o.right })
    ∙ (λ i. names (a.shown i) ++ names (b.shown i))

pub joined_names : (o : Joint) (l r m : Meaning) → joined o l r ≡ Some m → Good l → Good r → meant_names m ≡ meant_names l ++ meant_names r
unfolding joined
joined_names joint.Or l r m e g h =
    let o = formulas_of either_of l r m e in
    let a = good_expr l o.left g o.first in
    let b = good_expr r o.right h o.second in
    ap meant_names (sym o.is)
    ∙ ap names (fold_or (List Lexeme) expr_step o.left o.right)
    ∙ bracketed_names (expr_shown o.left) (expr_shown o.right) (mark sign.Bar) refl
    ∙ (λ i. names (a.shown i) ++ names (b.shown i))
joined_names joint.And l r m e g h =
    let o = formulas_of both_of l r m e in
    let a = good_expr l o.left g o.first in
    let b = good_expr r o.right h o.second in
    ap meant_names (sym o.is)
    ∙ ap names (fold_and (List Lexeme) expr_step o.left o.right)
    ∙ bracketed_names (expr_shown o.left) (expr_shown o.right) (mark sign.Ampersand) refl
    ∙ (λ i. names (a.shown i) ++ names (b.shown i))
joined_names (joint.Arith op) l r m e g h = arith_names op l r m e g h

pub compared_names : (o : RelOp) (l r m : Meaning) → compared o l r ≡ Some m → Good l → Good r → meant_names m ≡ meant_names l ++ meant_names r
unfolding compared
compared_names o l r m e g h =
    let t = terms_of (λ a b. meaning.Relation (record { op = o; left = a; right = b })) l r m e in
    let a = good_term l t.left g t.first in
    let b = good_term r t.right h t.second in
    let whole : Relation = record { op = o; left = t.left; right = t.right } in
    ap meant_names (sym t.is)
    ∙ ap names (fold_rel (List Lexeme) expr_step whole)
    ∙ bracketed_names (term_shown t.left) (term_shown t.right) (mark (rel_sign o)) refl
    ∙ (λ i. names (a.shown i) ++ names (b.shown i))

-- ---- prefixes

pub not_names : (r m : Meaning) → prefixed prefix.Not r ≡ Some m → Good r → meant_names m ≡ meant_names r
unfolding prefixed
not_names r m e g = go (as_formula r) refl e
  where
    go : (p : Option Expr) → as_formula r ≡ p → (p >>= λ a. Some (meaning.Formula (expr.Not a))) ≡ Some m → meant_names m ≡ meant_names r
    go None d f = absurd cc
    go (Some a) d f =
        ap meant_names (sym (some_is (meaning.Formula (expr.Not a)) m f))
        ∙ ap names (fold_not (List Lexeme) expr_step a)
        ∙ ap names (good_expr r a g d).shown

pub minus_names : (r m : Meaning) → prefixed prefix.Minus r ≡ Some m → Good r → meant_names m ≡ meant_names r
minus_names r m e g =
    arith_names Sub (meaning.Term (term.Num (pos 0))) r m (from_zero r m e) (good_number (pos 0) refl) g
    ∙ ap (λ ns. ns ++ meant_names r) (number_names (pos 0))

-- ---- leaves

pub string_names : (s : List ℕ) → names (term_shown (term.Str s)) ≡ []
string_names s = ap names (fold_str (List Lexeme) term_step s)

pub variable_names : (name : List ℕ) → names (term_shown (variable name)) ≡ names_in (lexeme.Var name)
variable_names name = ap names (fold_var (List Lexeme) term_step (var_of name)) ∙ append-nil (names_in (lexeme.Var name))

-- ---- parts

pub terms_all : {ms : List Meaning} {ts : List Term} → GoodTerms ms ts → terms_names ts ≡ all_names ms
terms_all terms_none = refl
terms_all (terms_next g gs) = λ i. names (g.shown i) ++ terms_all gs i

each_names : (ms : List Meaning) → flat_map names (map shown_of ms) ≡ all_names ms
each_names [] = refl
each_names (m ∷ ms) = ap (λ ns. meant_names m ++ ns) (each_names ms)

pub call_names : (name : List ℕ) {ms : List Meaning} (m : Meaning) → AllGood ms → called name ms ≡ Some m → meant_names m ≡ all_names ms
unfolding called
call_names name {ms} m gs e = go (is_pure name (length ms) || is_deed name (length ms)) (as_args name 0 ms) refl e
  where
    made : (args : List (ArgOf Expr)) → GoodArgs ms args → meant_names (meaning.Call (call_of name args)) ≡ all_names ms
    made args g =
        ap names (fold_inner (List Lexeme) expr_step (call_of name args))
        ∙ between_names sign.Open sign.Close (map arg_shown (map (map_arg expr_shown) args))
        ∙ ap (λ lss. flat_map names lss) g.shown
        ∙ each_names ms

    go : (b : Bool) (p : Option (List (ArgOf Expr))) → as_args name 0 ms ≡ p
        → cond b (p >>= λ args. Some (meaning.Call (call_of name args))) None ≡ Some m → meant_names m ≡ all_names ms
    go false p d f = absurd cc
    go true None d f = absurd cc
    go true (Some args) d f =
        ap meant_names (sym (some_is (meaning.Call (call_of name args)) m f)) ∙ made args (good_args name 0 gs args d)
