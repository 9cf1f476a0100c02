-- The unnamed variables of a clause that was read are counted in the order in which it is printed.
use Rattle.std.proofs.Common.{◌≡◌, ℕ, Bool, true, false, cond, List, [], ◌∷◌, ◌++◌, ap, sym, ◌∙◌, subst}
use Rattle.std.proofs.lemmas.List.{append-nil}
use Rattle.asl_lexer.specs.declared.token.Sign.TheVariants as sign
use Rattle.asl_lexer.proofs.Bytes.{both}
use Rattle.asl_term.specs.declared.syntax.LiteralOf.{LiteralOf}
use Rattle.asl_term.specs.declared.syntax.Term.{Term}
use Rattle.asl_term.specs.declared.syntax.Expr.TheVariants as expr
use Rattle.asl_term.specs.declared.syntax.Clause.{Clause}
use Rattle.asl_term.specs.declared.syntax.Plan.{Plan}
use Rattle.asl_term.specs.Exprs.{is_ground_literal}
use Rattle.asl_term.proofs.Exprs.{fold_true}
use Rattle.asl_parser_tree.specs.declared.lexeme.Lexeme.{Lexeme}
use Rattle.asl_parser_tree.specs.declared.lexeme.Lexeme.TheVariants as lexeme
use Rattle.asl_parser_tree.specs.Limits.{within_literal, within_expr}
use Rattle.asl_parser.specs.declared.sentence.Sentence.{Sentence}
use Rattle.asl_parser.specs.declared.sentence.Sentence.TheVariants as sentence
use Rattle.asl_parser.specs.Limits.{is_within}
use Rattle.asl_parser.specs.Sentences.{kept_once, fact, ReadsHead, a_head, Says, says_fact, says_rule, says_goal, says_plan}
use Rattle.asl_print_reread.specs.Shown.{mark, literal_shown, expr_shown, expr_step, rule_shown, label_shown, trigger_shown, context_shown, body_shown, plan_shown}
use Rattle.asl_print_reread.proofs.Rereads.{AllFine, fine_behind}
use Rattle.asl_print_reread.proofs.Parts.{good_head, good_label, good_trigger, good_context}
use Rattle.asl_print_reread.proofs.Clauses.{sentence_shown}
use Rattle.asl_print_reread.proofs.FineTokens.{fine_tokens}
use Rattle.asl_print_reread.proofs.Names.{names, AreCounted, counted_again, tokens_counted}
use Rattle.asl_print_reread.proofs.NamesOf.{names_then, terms_names}
use Rattle.asl_print_reread.proofs.Named.{literal_parts}
use Rattle.asl_print_reread.proofs.NamesKept.{kept_literal}
use Rattle.asl_print_reread.proofs.NamesSaid.{last, one_after, condition_named, head_named, label_named, trigger_named, context_named, body_named}
use Rattle.asl_print_reread.proofs.Answered.{Counts}

-- ---- beliefs, also as rules

fact_within : (l : LiteralOf Term) → is_within (fact l) ≡ true → within_literal (kept_once l) ≡ true
fact_within l w = go (is_ground_literal (kept_once l)) w
  where
    go : (b : Bool) → is_within (cond b (sentence.Belief (kept_once l)) (sentence.Rule (record { head = kept_once l; body = expr.True }))) ≡ true
        → within_literal (kept_once l) ≡ true
    go true e = e
    go false e = (both (within_literal (kept_once l)) (within_expr expr.True) e).0

true_names : names (mark sign.If ∷ (expr_shown expr.True ++ lexeme.End ∷ [])) ≡ []
true_names = ap (λ ls. names (ls ++ lexeme.End ∷ [])) (fold_true (List Lexeme) expr_step)

fact_names : (l : LiteralOf Term) → names (sentence_shown (fact l)) ≡ names (literal_shown (kept_once l))
fact_names l = go (is_ground_literal (kept_once l))
  where
    go : (b : Bool) → names (sentence_shown (cond b (sentence.Belief (kept_once l)) (sentence.Rule (record { head = kept_once l; body = expr.True }))))
        ≡ names (literal_shown (kept_once l))
    go true = names_then (literal_shown (kept_once l)) (lexeme.End ∷ []) ∙ append-nil (names (literal_shown (kept_once l)))
    go false =
        names_then (literal_shown (kept_once l)) (mark sign.If ∷ (expr_shown expr.True ++ lexeme.End ∷ []))
        ∙ ap (λ ns. names (literal_shown (kept_once l)) ++ ns) true_names
        ∙ append-nil (names (literal_shown (kept_once l)))

fact_counted : {n : ℕ} {xs : List Lexeme} (l : LiteralOf Term) → ReadsHead n xs (lexeme.End ∷ []) l → AllFine xs → is_within (fact l) ≡ true
    → AreCounted 1 (names xs) → AreCounted 1 (names (sentence_shown (fact l)))
fact_counted {xs = xs} l (a_head r p) f w c =
    let parts = terms_names l.args ++ terms_names l.annots in
    let counted = subst (AreCounted 1) (last (names xs) parts (literal_parts r f)) c in
    subst (AreCounted 1) (sym (fact_names l ∙ kept_literal l (fact_within l w) counted)) counted

-- ---- rules, goals and plans have the names of their tokens

rule_named : (xs ys : List Lexeme) (c : Clause) → names xs ≡ names (literal_shown c.head) ++ names ys
    → names ys ≡ names (expr_shown c.body) ++ [] → names xs ≡ names (rule_shown c)
rule_named xs ys c p q =
    p
    ∙ ap (λ ns. names (literal_shown c.head) ++ ns) (q ∙ sym (names_then (expr_shown c.body) (lexeme.End ∷ [])))
    ∙ sym (names_then (literal_shown c.head) (mark sign.If ∷ (expr_shown c.body ++ lexeme.End ∷ [])))

goal_named : (xs : List Lexeme) (l : LiteralOf Term) → names xs ≡ names (literal_shown l) ++ [] → names xs ≡ names (literal_shown l ++ lexeme.End ∷ [])
goal_named xs l p = p ∙ sym (names_then (literal_shown l) (lexeme.End ∷ []))

part_named : (xs ys ls ms : List Lexeme) → names xs ≡ names ls ++ names ys → names ys ≡ names ms → names xs ≡ names (ls ++ ms)
part_named xs ys ls ms p q = one_after (names xs) (names ls) (names ys) (names ms) p q ∙ sym (names_then ls ms)

plan_named : (p : Plan) (xs ys zs us : List Lexeme) → names xs ≡ names (label_shown p.label) ++ names ys
    → names ys ≡ names (trigger_shown p.trigger) ++ names zs → names zs ≡ names (context_shown p.context) ++ names us
    → names us ≡ names (body_shown p.body) ++ [] → names xs ≡ names (plan_shown p)
plan_named p xs ys zs us l t c b =
    part_named xs ys (label_shown p.label) _ l
    (part_named ys zs (trigger_shown p.trigger) _ t
    (part_named zs us (context_shown p.context) _ c (b ∙ sym (names_then (body_shown p.body) (lexeme.End ∷ [])))))

-- ---- all clauses

says_counted : {n : ℕ} {xs : List Lexeme} {s : Sentence} → Says n xs s → AllFine xs → is_within s ≡ true → AreCounted 1 (names xs)
    → AreCounted 1 (names (sentence_shown s))
says_counted {xs = xs} (says_fact {l = l} h e) f w c =
    subst (λ (s : Sentence). AreCounted 1 (names (sentence_shown s))) e
    (fact_counted l h f (ap is_within e ∙ w) c)
says_counted {xs = xs} (says_rule {ys = ys} {l = l} {e = e} h r) f w c =
    let g = good_head h f in
    subst (AreCounted 1)
    (rule_named xs ys (record { head = l; body = e }) (head_named h f) (condition_named r (fine_behind (mark sign.If) ys g.1))) c
says_counted (says_goal {xs = xs} {l = l} h) f w c = subst (AreCounted 1) (goal_named xs l (head_named h f)) c
says_counted {xs = xs} (says_plan {ys = ys} {zs = zs} {us = us} {label = label} {t = t} {e = e} {fs = fs} l r k b) f w c =
    let g = good_label l f in
    let h = good_trigger r g.1 in
    let m = good_context k h.1 in
    subst (AreCounted 1)
    (plan_named (record { label = label; trigger = t; context = e; body = fs }) xs ys zs us (label_named l) (trigger_named r g.1) (context_named k h.1)
    (body_named b m.1)) c

pub counts : Counts
counts p s e h w = counted_again (sentence_shown s) 1 (says_counted h (fine_tokens 1 p e) w (tokens_counted 1 p e))
