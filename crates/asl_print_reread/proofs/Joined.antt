-- What is made of two operands or of a prefix reads as itself.
use Rattle.std.proofs.Common.{◌≡◌, pos, Bool, List, Option, Some, None, refl, ap, sym, ◌∙◌, subst}
use Rattle.std.specs.Prelude.{codes}
use Rattle.std.proofs.lemmas.Bool.{and_from}
use Rattle.asl_lexer.specs.declared.token.Sign.TheVariants as sign
use Rattle.asl_lexer.specs.Bare as bares
use Rattle.asl_lexer.specs.Bare.{Bare}
use Rattle.asl_lexer.specs.Words.{atom_word}
use Rattle.asl_term.specs.declared.syntax.Op.{Op}
use Rattle.asl_term.specs.declared.syntax.Op.TheVariants.{Add, Sub, Mul, Div, Mod}
use Rattle.asl_term.specs.declared.syntax.RelOp.{RelOp}
use Rattle.asl_term.specs.declared.syntax.RelOp.TheVariants as rel
use Rattle.asl_term.specs.declared.syntax.Relation.{Relation}
use Rattle.asl_term.specs.declared.syntax.ArithOf.{ArithOf}
use Rattle.asl_term.specs.declared.syntax.Term.{Term}
use Rattle.asl_term.specs.declared.syntax.Term.TheVariants as term
use Rattle.asl_term.specs.declared.syntax.Expr.{Expr}
use Rattle.asl_term.specs.declared.syntax.Expr.TheVariants as expr
use Rattle.asl_term.proofs.Terms.{fold_op}
use Rattle.asl_term.proofs.Exprs.{fold_rel, fold_not, fold_and, fold_or}
use Rattle.asl_parser_tree.specs.declared.lexeme.Lexeme.{Lexeme}
use Rattle.asl_parser_tree.specs.declared.lexeme.Lexeme.TheVariants as lexeme
use Rattle.asl_parser_tree.specs.Lexemes.{lexeme_of}
use Rattle.asl_parser_tree.specs.declared.meaning.Meaning.{Meaning}
use Rattle.asl_parser_tree.specs.declared.meaning.Meaning.TheVariants as meaning
use Rattle.asl_parser_tree.specs.declared.meaning.Joint.{Joint}
use Rattle.asl_parser_tree.specs.declared.meaning.Joint.TheVariants as joint
use Rattle.asl_parser_tree.specs.declared.meaning.Prefix.TheVariants as prefix
use Rattle.asl_parser_tree.specs.Meanings.{◌>>=◌, as_term, as_formula, arith, both_terms, both_formulas, either_of, both_of, joined, compared, prefixed}
use Rattle.asl_parser_expr.specs.Grammar.{Rule, negation, sum, Joins, or, and, plus, minus, times, over, modulo, operand, Relates, less, less_same, more, more_same, same, differ, unify, negated}
use Rattle.asl_parser_tree.proofs.Options.{some_is}
use Rattle.asl_print.specs.Tokens as tokens
use Rattle.asl_print.specs.Tokens.{op_token, rel_sign}
use Rattle.asl_print.specs.Spelled.{is_spelled, spelled_step, is_spelled_expr, spelled_expr_step}
use Rattle.asl_print_reread.specs.Shown.{mark, op_shown, term_step, expr_step}
use Rattle.asl_print_reread.proofs.Turns.{Turn, turn_mark, turn_word, turn_next}
use Rattle.asl_print_reread.proofs.Back.{same_back, back_lifted, negation_up, negation_or, back_joined, back_related}
use Rattle.asl_print_reread.proofs.Meant.{Good, good_term, good_expr}
use Rattle.asl_print_reread.proofs.Leaves.{good_number}

-- ---- the operands

abbrev pair : {A B : Type 0} → Option A → Option B → Option (A × B)
pair p q = p >>= λ a. q >>= λ b. Some (a, b)

pub record BothFormulas (f : Expr → Expr → Expr) (l r m : Meaning) : Type 0 where
  pub left : Expr
  pub right : Expr
  pub first : as_formula l ≡ Some left
  pub second : as_formula r ≡ Some right
  pub is : meaning.Formula (f left right) ≡ m

pub formulas_of : (f : Expr → Expr → Expr) (l r m : Meaning) → (both_formulas l r >>= λ x. Some (meaning.Formula (f x.0 x.1))) ≡ Some m
    → BothFormulas f l r m
formulas_of f l r m e = go (as_formula l) (as_formula r) refl refl e
  where
    go : (p q : Option Expr) → as_formula l ≡ p → as_formula r ≡ q
        → (pair p q >>= λ x. Some (meaning.Formula (f x.0 x.1))) ≡ Some m → BothFormulas f l r m
    go None q d k e = absurd cc
    go (Some a) None d k e = absurd cc
    go (Some a) (Some b) d k e = record { left = a; right = b; first = d; second = k; is = some_is (meaning.Formula (f a b)) m e }

pub record BothTerms (f : Term → Term → Meaning) (l r m : Meaning) : Type 0 where
  pub left : Term
  pub right : Term
  pub first : as_term l ≡ Some left
  pub second : as_term r ≡ Some right
  pub is : f left right ≡ m

pub terms_of : (f : Term → Term → Meaning) (l r m : Meaning) → (both_terms l r >>= λ x. Some (f x.0 x.1)) ≡ Some m → BothTerms f l r m
terms_of f l r m e = go (as_term l) (as_term r) refl refl e
  where
    go : (p q : Option Term) → as_term l ≡ p → as_term r ≡ q → (pair p q >>= λ x. Some (f x.0 x.1)) ≡ Some m
        → BothTerms f l r m
    go None q d k e = absurd cc
    go (Some a) None d k e = absurd cc
    go (Some a) (Some b) d k e = record { left = a; right = b; first = d; second = k; is = some_is (f a b) m e }

-- ---- operations

good_arith : {rule : Rule} {x : Lexeme} (op : Op) (l r m : Meaning) → Joins rule x (joint.Arith op) → joined (joint.Arith op) l r ≡ Some m
    → op_shown op ≡ x → Turn (op_token op) (op_shown op) → Good l → Good r → Good m
unfolding joined
good_arith {rule} {x} op l r m j e s t g h =
    let o = terms_of (λ a b. meaning.Term (arith op a b)) l r m e in
    let a = good_term l o.left g o.first in
    let b = good_term r o.right h o.second in
    let whole : ArithOf Term = record { op = op; left = o.left; right = o.right } in
    let j' = subst (λ (y : Lexeme). Joins rule y (joint.Arith op)) (sym s) j in
    subst Good o.is (record {
      back = same_back (fold_op (List Bare) tokens.term_step whole) (fold_op (List Lexeme) term_step whole)
          (back_joined j' (e ∙ ap Some (sym o.is)) t (back_lifted rule a.back) (back_lifted (operand rule) b.back));
      spelled = fold_op Bool spelled_step whole ∙ and_from (is_spelled o.left) (is_spelled o.right) a.spelled b.spelled;
      a_word = tt;
    })

turn_div : Turn (op_token Div) lexeme.Div
unfolding lexeme_of atom_word
turn_div = turn_word (codes "div")

turn_mod : Turn (op_token Mod) lexeme.Mod
unfolding lexeme_of atom_word
turn_mod = turn_word (codes "mod")

pub good_joined : {rule : Rule} {x : Lexeme} {o : Joint} (l r m : Meaning) → Joins rule x o → joined o l r ≡ Some m → Good l → Good r → Good m
unfolding joined
good_joined l r m or e g h =
    let o = formulas_of either_of l r m e in
    let a = good_expr l o.left g o.first in
    let b = good_expr r o.right h o.second in
    subst Good o.is (record {
      back = same_back (fold_or (List Bare) tokens.expr_step o.left o.right) (fold_or (List Lexeme) expr_step o.left o.right)
          (back_lifted negation (back_joined or (e ∙ ap Some (sym o.is)) (turn_mark sign.Bar) (negation_or a.back) (negation_up b.back)));
      spelled = fold_or Bool spelled_expr_step o.left o.right ∙ and_from (is_spelled_expr o.left) (is_spelled_expr o.right) a.spelled b.spelled;
      a_word = tt;
    })
good_joined l r m and e g h =
    let o = formulas_of both_of l r m e in
    let a = good_expr l o.left g o.first in
    let b = good_expr r o.right h o.second in
    subst Good o.is (record {
      back = same_back (fold_and (List Bare) tokens.expr_step o.left o.right) (fold_and (List Lexeme) expr_step o.left o.right)
          (back_lifted negation (back_joined and (e ∙ ap Some (sym o.is)) (turn_mark sign.Ampersand) (negation_up a.back) b.back));
      spelled = fold_and Bool spelled_expr_step o.left o.right ∙ and_from (is_spelled_expr o.left) (is_spelled_expr o.right) a.spelled b.spelled;
      a_word = tt;
    })
good_joined l r m plus e g h = good_arith Add l r m plus e refl (turn_mark sign.Plus) g h
good_joined l r m minus e g h = good_arith Sub l r m minus e refl (turn_mark sign.Minus) g h
good_joined l r m times e g h = good_arith Mul l r m times e refl (turn_mark sign.Star) g h
good_joined l r m over e g h = good_arith Div l r m over e refl turn_div g h
good_joined l r m modulo e g h = good_arith Mod l r m modulo e refl turn_mod g h

-- ---- relations

relates : (o : RelOp) → Relates (mark (rel_sign o)) o
relates rel.Less = less
relates rel.LessEq = less_same
relates rel.More = more
relates rel.MoreEq = more_same
relates rel.Same = same
relates rel.Differ = differ
relates rel.Unify = unify

pub good_compared : (o : RelOp) (l r m : Meaning) → compared o l r ≡ Some m → Good l → Good r → Good m
unfolding compared
good_compared o l r m e g h =
    let t = terms_of (λ a b. meaning.Relation (record { op = o; left = a; right = b })) l r m e in
    let a = good_term l t.left g t.first in
    let b = good_term r t.right h t.second in
    let whole : Relation = record { op = o; left = t.left; right = t.right } in
    subst Good t.is (record {
      back = same_back (fold_rel (List Bare) tokens.expr_step whole) (fold_rel (List Lexeme) expr_step whole)
          (back_related (relates o) (e ∙ ap Some (sym t.is)) (turn_mark (rel_sign o)) (back_lifted sum a.back) (back_lifted sum b.back));
      spelled = fold_rel Bool spelled_expr_step whole ∙ and_from (is_spelled t.left) (is_spelled t.right) a.spelled b.spelled;
      a_word = tt;
    })

-- ---- prefixes

turn_not : Turn (bares.atom (codes "not")) lexeme.Not
unfolding lexeme_of atom_word
turn_not = turn_word (codes "not")

pub good_not : (r m : Meaning) → prefixed prefix.Not r ≡ Some m → Good r → Good m
unfolding prefixed
good_not r m e g = go (as_formula r) refl e
  where
    go : (p : Option Expr) → as_formula r ≡ p → (p >>= λ a. Some (meaning.Formula (expr.Not a))) ≡ Some m → Good m
    go None d f = absurd cc
    go (Some a) d f =
        let b = good_expr r a g d in
        let is : meaning.Formula (expr.Not a) ≡ m = some_is _ m f in
        subst Good is (record {
          back = same_back (fold_not (List Bare) tokens.expr_step a) (fold_not (List Lexeme) expr_step a) (record {
            need = b.back.need;
            reads = λ n rest le. negated (b.back.reads n rest le) (e ∙ ap Some (sym is));
            turns = turn_next turn_not b.back.turns;
          });
          spelled = fold_not Bool spelled_expr_step a ∙ b.spelled;
          a_word = tt;
        })

pub from_zero : (r m : Meaning) → prefixed prefix.Minus r ≡ Some m → joined (joint.Arith Sub) (meaning.Term (term.Num (pos 0))) r ≡ Some m
unfolding prefixed joined
from_zero r m e = go (as_term r) e
  where
    go : (p : Option Term) → (p >>= λ t. Some (meaning.Term (arith Sub (term.Num (pos 0)) t))) ≡ Some m
        → (pair (Some (term.Num (pos 0))) p >>= λ x. Some (meaning.Term (arith Sub x.0 x.1))) ≡ Some m
    go None e = e
    go (Some t) e = e

pub good_minus : (r m : Meaning) → prefixed prefix.Minus r ≡ Some m → Good r → Good m
good_minus r m e g = good_joined (meaning.Term (term.Num (pos 0))) r m minus (from_zero r m e) (good_number (pos 0) refl) g
