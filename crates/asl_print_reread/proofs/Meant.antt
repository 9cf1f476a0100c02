-- Meanings whose printed texts read as themselves, as terms and as formulas.
use Rattle.std.proofs.Common.{◌≡◌, ℕ, Bool, true, false, cond, List, [], ◌∷◌, length, Some, None, refl, ap, sym, ◌∙◌, subst}
use Rattle.std.proofs.lemmas.Bool.{and_from}
use Rattle.asl_lexer.specs.Bare as bares
use Rattle.asl_lexer.specs.Bare.{Bare, is_atom}
use Rattle.asl_lexer.specs.declared.token.Word.{Word}
use Rattle.asl_lexer.specs.Words.{atom_word}
use Rattle.asl_lexer.proofs.Bytes.{both}
use Rattle.asl_term.specs.declared.syntax.LiteralOf.{LiteralOf}
use Rattle.asl_term.specs.declared.syntax.CallOf.{CallOf}
use Rattle.asl_term.specs.declared.syntax.Term.{Term}
use Rattle.asl_term.specs.declared.syntax.Term.TheVariants as term
use Rattle.asl_term.specs.declared.syntax.Expr.{Expr}
use Rattle.asl_term.specs.declared.syntax.Expr.TheVariants as expr
use Rattle.asl_term.proofs.Terms.{fold_lit}
use Rattle.asl_term.proofs.Exprs.{fold_true, fold_false, fold_holds}
use Rattle.asl_parser_tree.specs.declared.lexeme.Lexeme.{Lexeme}
use Rattle.asl_parser_tree.specs.declared.lexeme.Lexeme.TheVariants as lexeme
use Rattle.asl_parser_tree.specs.Lexemes.{lexeme_of}
use Rattle.asl_parser_tree.specs.declared.meaning.Meaning.{Meaning}
use Rattle.asl_parser_tree.specs.declared.meaning.Meaning.TheVariants as meaning
use Rattle.asl_parser_tree.specs.Meanings.{atom, truth_name, is_pure, as_term, as_formula}
use Rattle.asl_parser_expr.specs.Grammar.{Rule, negation, primary}
use Rattle.asl_print.specs.Tokens as tokens
use Rattle.asl_print.specs.Tokens.{term_tokens, expr_tokens}
use Rattle.asl_print.specs.Spelled.{is_functor, is_functor_word, is_spelled, spelled_step, is_spelled_literal, is_spelled_expr, spelled_expr_step}
use Rattle.asl_print.proofs.Means.{tokens_mean}
use Rattle.asl_print_reread.specs.Shown.{term_shown, expr_shown, term_step, expr_step, word}
use Rattle.asl_print_reread.proofs.Back.{Back, same_back, back_lifted}

-- ---- words

pub is_a_functor : (alone : Bool) (text : List ℕ) → is_functor false text ≡ true → is_functor alone text ≡ true
is_a_functor alone text f =
    let h = both (is_atom text) (is_functor_word false (atom_word text)) f in
    and_from (is_atom text) (is_functor_word alone (atom_word text)) h.0 (ap (is_functor_word alone) (tokens_mean.functors text f))

pub word_is : (text : List ℕ) → is_functor false text ≡ true → word text ≡ lexeme.Atom text
unfolding lexeme_of
word_is text f = ap (λ (w : Word). lexeme_of 0 w text) (tokens_mean.functors text f)

-- ---- meanings

-- the text of a meaning is that of the term or the formula that it is
abbrev pub tokens_of : Meaning → List Bare
tokens_of (meaning.Truth b l) = bares.atom (truth_name b) ∷ []
tokens_of (meaning.Literal l) = term_tokens (term.Lit l)
tokens_of (meaning.Term t) = term_tokens t
tokens_of (meaning.Relation r) = expr_tokens (expr.Rel r)
tokens_of (meaning.Call c) = expr_tokens (expr.Inner c)
tokens_of (meaning.Formula e) = expr_tokens e

abbrev pub shown_of : Meaning → List Lexeme
shown_of (meaning.Truth b l) = lexeme.Truth b ∷ []
shown_of (meaning.Literal l) = term_shown (term.Lit l)
shown_of (meaning.Term t) = term_shown t
shown_of (meaning.Relation r) = expr_shown (expr.Rel r)
shown_of (meaning.Call c) = expr_shown (expr.Inner c)
shown_of (meaning.Formula e) = expr_shown e

abbrev pub is_spelled_meaning : Meaning → Bool
is_spelled_meaning (meaning.Truth b l) = true
is_spelled_meaning (meaning.Literal l) = is_spelled_literal l
is_spelled_meaning (meaning.Term t) = is_spelled t
is_spelled_meaning (meaning.Relation r) = is_spelled_expr (expr.Rel r)
is_spelled_meaning (meaning.Call c) = is_spelled_expr (expr.Inner c)
is_spelled_meaning (meaning.Formula e) = is_spelled_expr e

-- only a formula is not in brackets: it may begin with `not`
abbrev pub rule_of : Meaning → Rule
rule_of (meaning.Formula e) = negation
rule_of _ = primary

-- a truth is the word alone
abbrev pub IsWord : Meaning → Type 0
IsWord (meaning.Truth b l) = l ≡ atom (truth_name b)
IsWord _ = Unit {0}

pub record Good (m : Meaning) : Type 0 where
  pub back : Back (rule_of m) (tokens_of m) (shown_of m) m
  pub spelled : is_spelled_meaning m ≡ true
  pub a_word : IsWord m

-- ---- truths as terms

truth_tokens : (b : Bool) → term_tokens (term.Lit (atom (truth_name b))) ≡ bares.atom (truth_name b) ∷ []
truth_tokens b = fold_lit (List Bare) tokens.term_step (atom (truth_name b))

truth_shown : (b : Bool) → term_shown (term.Lit (atom (truth_name b))) ≡ lexeme.Truth b ∷ []
unfolding lexeme_of atom_word
truth_shown true = fold_lit (List Lexeme) term_step (atom (truth_name true))
truth_shown false = fold_lit (List Lexeme) term_step (atom (truth_name false))

truth_spelled : (b : Bool) → is_spelled (term.Lit (atom (truth_name b))) ≡ true
unfolding atom_word
truth_spelled true = fold_lit Bool spelled_step (atom (truth_name true))
truth_spelled false = fold_lit Bool spelled_step (atom (truth_name false))

-- ---- as a term

-- what means m is printed as the term t, and reads as m
pub record GoodTerm (m : Meaning) (t : Term) : Type 0 where
  pub is : as_term m ≡ Some t
  pub back : Back primary (term_tokens t) (term_shown t) m
  pub spelled : is_spelled t ≡ true
  pub shown : term_shown t ≡ shown_of m

this_term : (m : Meaning) (t u : Term) → as_term m ≡ Some t → Back primary (term_tokens t) (term_shown t) m → is_spelled t ≡ true
    → term_shown t ≡ shown_of m → as_term m ≡ Some u → GoodTerm m u
this_term m t u a b s w e =
    let same : t ≡ u = let f : Some t ≡ Some u = sym a ∙ e in cc in
    subst (GoodTerm m) same (record { is = a; back = b; spelled = s; shown = w })

pub good_term : (m : Meaning) (t : Term) → Good m → as_term m ≡ Some t → GoodTerm m t
good_term (meaning.Truth b l) t g e =
    let word_term = ap (λ (k : LiteralOf Term). term.Lit k) g.a_word in
    this_term (meaning.Truth b l) (term.Lit l) t refl
    (same_back (ap term_tokens word_term ∙ truth_tokens b) (ap term_shown word_term ∙ truth_shown b) g.back)
    (ap is_spelled word_term ∙ truth_spelled b) (ap term_shown word_term ∙ truth_shown b) e
good_term (meaning.Literal l) t g e = this_term (meaning.Literal l) (term.Lit l) t refl g.back
    (both (is_functor false l.functor) (is_spelled (term.Lit l)) g.spelled).1 refl e
good_term (meaning.Term u) t g e = this_term (meaning.Term u) u t refl g.back g.spelled refl e
good_term (meaning.Relation r) t g e = absurd cc
good_term (meaning.Call c) t g e = absurd cc
good_term (meaning.Formula f) t g e = absurd cc

-- ---- as a formula

pub record GoodExpr (m : Meaning) (e : Expr) : Type 0 where
  pub is : as_formula m ≡ Some e
  pub back : Back negation (expr_tokens e) (expr_shown e) m
  pub spelled : is_spelled_expr e ≡ true
  pub shown : expr_shown e ≡ shown_of m

this_expr : (m : Meaning) (e f : Expr) → as_formula m ≡ Some e → Back negation (expr_tokens e) (expr_shown e) m → is_spelled_expr e ≡ true
    → expr_shown e ≡ shown_of m → as_formula m ≡ Some f → GoodExpr m f
this_expr m e f a b s w g =
    let same : e ≡ f = let h : Some e ≡ Some f = sym a ∙ g in cc in
    subst (GoodExpr m) same (record { is = a; back = b; spelled = s; shown = w })

-- a call that is a formula
pure_call : (c : CallOf Expr) (e : Expr) → Good (meaning.Call c) → as_formula (meaning.Call c) ≡ Some e → GoodExpr (meaning.Call c) e
pure_call c e g h = go (is_pure c.name (length c.args)) refl h
  where
    go : (b : Bool) → is_pure c.name (length c.args) ≡ b → cond b (Some (expr.Inner c)) None ≡ Some e → GoodExpr (meaning.Call c) e
    go true p f = this_expr (meaning.Call c) (expr.Inner c) e (ap (λ (x : Bool). cond x (Some (expr.Inner c)) None) p) (back_lifted negation g.back) g.spelled refl h
    go false p f = absurd cc

pub good_expr : (m : Meaning) (e : Expr) → Good m → as_formula m ≡ Some e → GoodExpr m e
good_expr (meaning.Truth true l) e g h = this_expr (meaning.Truth true l) expr.True e refl
    (same_back (fold_true (List Bare) tokens.expr_step) (fold_true (List Lexeme) expr_step) (back_lifted negation g.back))
    (fold_true Bool spelled_expr_step) (fold_true (List Lexeme) expr_step) h
good_expr (meaning.Truth false l) e g h = this_expr (meaning.Truth false l) expr.False e refl
    (same_back (fold_false (List Bare) tokens.expr_step) (fold_false (List Lexeme) expr_step) (back_lifted negation g.back))
    (fold_false Bool spelled_expr_step) (fold_false (List Lexeme) expr_step) h
good_expr (meaning.Literal l) e g h = this_expr (meaning.Literal l) (expr.Holds l) e refl
    (same_back (fold_holds (List Bare) tokens.expr_step l) (fold_holds (List Lexeme) expr_step l) (back_lifted negation g.back))
    (fold_holds Bool spelled_expr_step l ∙ g.spelled) (fold_holds (List Lexeme) expr_step l) h
good_expr (meaning.Term u) e g h = absurd cc
good_expr (meaning.Relation r) e g h = this_expr (meaning.Relation r) (expr.Rel r) e refl (back_lifted negation g.back) g.spelled refl h
good_expr (meaning.Call c) e g h = pure_call c e g h
good_expr (meaning.Formula f) e g h = this_expr (meaning.Formula f) f e refl g.back g.spelled refl h
