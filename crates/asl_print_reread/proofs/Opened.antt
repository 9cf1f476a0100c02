-- The brackets of a printed clause are within the limit.
use Rattle.std.proofs.Common.{◌≡◌, ◌≤◌, ◌<◌, ℕ, suc, ◌+◌, ◌-◌, Bool, true, false, cond, ltb, leb, List, [], ◌∷◌, Option, Some, None, refl, ap, ◌∙◌, add-one, arith}
use Rattle.std.specs.List.{list_all}
use Rattle.std.specs.Option.{option_map_or}
use Rattle.std.proofs.lemmas.Bool.{lt-ltb, leb-true}
use Rattle.asl_lexer.specs.declared.token.Sign as signs
use Rattle.asl_lexer.specs.declared.token.Sign.TheVariants as sign
use Rattle.asl_lexer.specs.declared.token.Word.{Word}
use Rattle.asl_lexer.specs.declared.token.Word.TheVariants as words
use Rattle.asl_lexer.specs.Scan.{value}
use Rattle.asl_lexer.specs.Bare.{Bare, bare_word}
use Rattle.asl_lexer.proofs.Bytes.{both}
use Rattle.asl_term.specs.declared.syntax.Expr.TheVariants as expr
use Rattle.asl_term.specs.declared.syntax.Formula.{Formula}
use Rattle.asl_term.specs.declared.syntax.Formula.TheVariants as formula
use Rattle.asl_term.specs.Exprs.{depth, depth_step, size, literal_size, literal_depth}
use Rattle.asl_term.proofs.Exprs.{fold_rel}
use Rattle.asl_parser_tree.specs.declared.lexeme.Lexeme.{Lexeme}
use Rattle.asl_parser_tree.specs.declared.lexeme.Lexeme.TheVariants as lexeme
use Rattle.asl_parser_tree.specs.Lexemes.{lexeme_of, counts}
use Rattle.asl_parser_tree.specs.Limits.{too_deep, within, within_literal, within_expr}
use Rattle.asl_parser.specs.declared.sentence.Sentence.{Sentence}
use Rattle.asl_parser.specs.declared.sentence.Sentence.TheVariants as sentence
use Rattle.asl_parser.specs.Limits.{within_formula, is_within}
use Rattle.asl_print.specs.Brackets.{open_behind, most_open, formula_depth, greatest_of}
use Rattle.asl_print.proofs.NestedClauses.{belief_nests, rule_nests, goal_nests, plan_nests}
use Rattle.asl_print_reread.proofs.Turns.{bare_lexemes}
use Rattle.asl_print_reread.proofs.Clauses.{sentence_tokens}

-- ---- tokens

most_least : (n : ℕ) (xs : List Bare) → n ≤ most_open n xs
most_least n [] = omega arith
most_least n (x ∷ xs) = omega arith

-- what is behind is within the limit, however many are open
abbrev Behind : ℕ → List Bare → List Lexeme → Type 0
Behind limit xs ls = (n : ℕ) → most_open n xs ≤ limit → too_deep limit n ls ≡ false

opens : (limit n : ℕ) (xs : List Bare) (ls : List Lexeme) → Behind limit xs ls → most_open (suc n) xs ≤ limit
    → cond (ltb n limit) (too_deep limit (n + 1) ls) true ≡ false
opens limit n xs ls h le =
    let less : n < limit = omega (arith, le, most_least (suc n) xs) in
    ap (λ (b : Bool). cond b (too_deep limit (n + 1) ls) true) (lt-ltb n limit less)
    ∙ ap (λ (m : ℕ). too_deep limit m ls) (add-one n) ∙ h (suc n) le

sign_deep : (limit n : ℕ) (xs : List Bare) (ls : List Lexeme) (s : signs.Sign) → Behind limit xs ls
    → most_open (open_behind (words.Sign s) n) xs ≤ limit → too_deep limit n (lexeme.Sign s ∷ ls) ≡ false
unfolding too_deep
sign_deep limit n xs ls sign.Open h le = opens limit n xs ls h le
sign_deep limit n xs ls sign.OpenSquare h le = opens limit n xs ls h le
sign_deep limit n xs ls sign.Close h le = h (n - 1) le
sign_deep limit n xs ls sign.CloseSquare h le = h (n - 1) le
sign_deep limit n xs ls _ h le = h n le

number_deep : (limit n : ℕ) (ls : List Lexeme) (o : Option ℕ) → too_deep limit n ls ≡ false
    → too_deep limit n (option_map_or lexeme.Num o lexeme.Other ∷ ls) ≡ false
unfolding too_deep
number_deep limit n ls None e = e
number_deep limit n ls (Some k) e = e

word_deep : (limit n k : ℕ) (xs : List Bare) (ls : List Lexeme) (w : Word) (text : List ℕ) → Behind limit xs ls
    → most_open (open_behind w n) xs ≤ limit → too_deep limit n (lexeme_of k w text ∷ ls) ≡ false
unfolding too_deep lexeme_of
word_deep limit n k xs ls (words.Sign s) text h le = sign_deep limit n xs ls s h le
word_deep limit n k xs ls words.Number text h le = number_deep limit n ls (value text) (h n le)
word_deep limit n k xs ls _ text h le = h n le

pub not_deep : (limit k : ℕ) (xs : List Bare) (n : ℕ) → most_open n xs ≤ limit → too_deep limit n (bare_lexemes k xs) ≡ false
unfolding too_deep
not_deep limit k [] n le = refl
not_deep limit k (x ∷ xs) n le =
    word_deep limit n k xs (bare_lexemes (k + counts (bare_word x) x.text) xs) (bare_word x) x.text
    (not_deep limit (k + counts (bare_word x) x.text) xs) (omega (arith, le))

-- ---- clauses

levels : (nodes depth : ℕ) → within nodes depth ≡ true → depth ≤ 250
levels nodes depth e = leb-true depth 250 (both (leb nodes 10000) (leb depth 250) e).1

formula_levels : (f : Formula) → within_formula f ≡ true → formula_depth f ≤ 250
formula_levels (formula.Achieve l) e = levels (literal_size l) (literal_depth l) e
formula_levels (formula.Spawn l) e = levels (literal_size l) (literal_depth l) e
formula_levels (formula.Test l) e = levels (literal_size l) (literal_depth l) e
formula_levels (formula.Add l) e = levels (literal_size l) (literal_depth l) e
formula_levels (formula.Del l) e = levels (literal_size l) (literal_depth l) e
formula_levels (formula.Replace l) e = levels (literal_size l) (literal_depth l) e
formula_levels (formula.Act l) e = levels (literal_size l) (literal_depth l) e
formula_levels (formula.Inner c) e = levels (size (expr.Inner c)) (depth (expr.Inner c)) e
formula_levels (formula.Rel r) e = omega (arith, levels (size (expr.Rel r)) (depth (expr.Rel r)) e, fold_rel ℕ depth_step r)

body_levels : (fs : List Formula) → list_all within_formula fs ≡ true → greatest_of formula_depth fs ≤ 250
body_levels [] e = omega arith
body_levels (f ∷ fs) e =
    let h = both (within_formula f) (list_all within_formula fs) e in
    omega (arith, formula_levels f h.0, body_levels fs h.1)

pub sentence_opens : (s : Sentence) → is_within s ≡ true → most_open 0 (sentence_tokens s) ≤ 250
sentence_opens (sentence.Belief l) e = omega (arith, belief_nests l, levels (literal_size l) (literal_depth l) e)
sentence_opens (sentence.Rule c) e =
    let h = both (within_literal c.head) (within_expr c.body) e in
    omega (arith, rule_nests c, levels (literal_size c.head) (literal_depth c.head) h.0, levels (size c.body) (depth c.body) h.1)
sentence_opens (sentence.Goal l) e = omega (arith, goal_nests l, levels (literal_size l) (literal_depth l) e)
sentence_opens (sentence.Plan p) e =
    let h = both (within_literal p.trigger.lit) _ e in
    let g = both (within_expr p.context) (list_all within_formula p.body) h.1 in
    omega (
      arith,
      plan_nests p,
      levels (literal_size p.trigger.lit) (literal_depth p.trigger.lit) h.0,
      levels (size p.context) (depth p.context) g.0,
      body_levels p.body g.1,
    )
