-- Clauses that were read are read as themselves when they are printed.
use Rattle.std.proofs.Common.{◌≡◌, ℕ, ◌+◌, Bool, true, false, cond, List, [], ◌∷◌, refl, ap, ◌∙◌, subst, arith}
use Rattle.std.specs.List.{list_all}
use Rattle.std.proofs.lemmas.Bool.{and_from}
use Rattle.asl_lexer.specs.declared.token.Sign.TheVariants as sign
use Rattle.asl_lexer.specs.Bare.{Bare}
use Rattle.asl_term.specs.declared.syntax.LiteralOf.{LiteralOf}
use Rattle.asl_term.specs.declared.syntax.Term.{Term}
use Rattle.asl_term.specs.declared.syntax.Expr.TheVariants as expr
use Rattle.asl_term.specs.declared.syntax.Clause.{Clause}
use Rattle.asl_term.specs.declared.syntax.Plan.{Plan}
use Rattle.asl_term.specs.Exprs.{is_ground_literal}
use Rattle.asl_parser_tree.specs.declared.lexeme.Lexeme.{Lexeme}
use Rattle.asl_parser_tree.specs.declared.lexeme.Lexeme.TheVariants as lexeme
use Rattle.asl_parser_tree.specs.Meanings.{truth}
use Rattle.asl_parser.specs.declared.sentence.Sentence.{Sentence}
use Rattle.asl_parser.specs.declared.sentence.Sentence.TheVariants as sentence
use Rattle.asl_parser.specs.Sentences.{kept_once, belief_or_rule, fact, Says, says_fact, says_rule, says_goal, says_plan}
use Rattle.asl_print.specs.Tokens.{belief_tokens, rule_tokens, goal_tokens, plan_tokens}
use Rattle.asl_print.specs.Spelled.{is_spelled_literal, is_spelled_expr, is_spelled_formula, is_spelled_rule, is_spelled_label, is_spelled_plan}
use Rattle.asl_print_reread.specs.Shown.{mark, belief_shown, rule_shown, goal_shown, plan_shown}
use Rattle.asl_print_reread.proofs.Turns.{Turns, turn_next, turn_one, turns_then, turn_mark, turn_stop}
use Rattle.asl_print_reread.proofs.Meant.{good_expr}
use Rattle.asl_print_reread.proofs.Leaves.{good_truth}
use Rattle.asl_print_reread.proofs.Rereads.{AllFine, fine_behind}
use Rattle.asl_print_reread.proofs.Bodies.{good_body, BodyBack, body_back}
use Rattle.asl_print_reread.proofs.Once.{kept_again, kept_plain, kept_parts}
use Rattle.asl_print_reread.proofs.Parts.{GoodHead, good_head, HeadBack, head_back, GoodLabel, good_label, TriggerBack, good_trigger, ConditionBack, condition_back, good_condition, ContextBack, good_context}

abbrev pub sentence_tokens : Sentence → List Bare
sentence_tokens (sentence.Belief l) = belief_tokens l
sentence_tokens (sentence.Rule c) = rule_tokens c
sentence_tokens (sentence.Goal l) = goal_tokens l
sentence_tokens (sentence.Plan p) = plan_tokens p

abbrev pub sentence_shown : Sentence → List Lexeme
sentence_shown (sentence.Belief l) = belief_shown l
sentence_shown (sentence.Rule c) = rule_shown c
sentence_shown (sentence.Goal l) = goal_shown l
sentence_shown (sentence.Plan p) = plan_shown p

abbrev pub is_spelled_sentence : Sentence → Bool
is_spelled_sentence (sentence.Belief l) = is_spelled_literal l
is_spelled_sentence (sentence.Rule c) = is_spelled_rule c
is_spelled_sentence (sentence.Goal l) = is_spelled_literal l
is_spelled_sentence (sentence.Plan p) = is_spelled_plan p

pub record GoodSentence (s : Sentence) : Type 0 where
  pub need : ℕ
  pub says : Says need (sentence_shown s) s
  pub turns : Turns (sentence_tokens s) (sentence_shown s)
  pub spelled : is_spelled_sentence s ≡ true

-- ---- beliefs, rules and goals

good_belief : (l : LiteralOf Term) → HeadBack l → kept_once l ≡ l → is_ground_literal l ≡ true → GoodSentence (sentence.Belief l)
good_belief l b k g = record {
  need = b.need;
  says = says_fact (b.reads b.need (lexeme.End ∷ []) (omega arith))
      (ap belief_or_rule k ∙ ap (λ (x : Bool). cond x (sentence.Belief l) (sentence.Rule (record { head = l; body = expr.True }))) g);
  turns = turns_then b.turns (turn_one turn_stop);
  spelled = b.spelled;
}

good_rule : (c : Clause) → HeadBack c.head → ConditionBack c.body → GoodSentence (sentence.Rule c)
good_rule c h b = record {
  need = h.need + b.need;
  says = says_rule (h.reads (h.need + b.need) _ (omega arith)) (b.reads (h.need + b.need) (lexeme.End ∷ []) (omega arith));
  turns = turns_then h.turns (turn_next (turn_mark sign.If) (turns_then b.turns (turn_one turn_stop)));
  spelled = and_from (is_spelled_literal c.head) (is_spelled_expr c.body) h.spelled b.spelled;
}

good_goal : (l : LiteralOf Term) → HeadBack l → GoodSentence (sentence.Goal l)
good_goal l b = record {
  need = b.need;
  says = says_goal (b.reads b.need (lexeme.End ∷ []) (omega arith));
  turns = turn_next (turn_mark sign.Bang) (turns_then b.turns (turn_one turn_stop));
  spelled = b.spelled;
}

true_condition : ConditionBack expr.True
true_condition = condition_back (good_expr (truth true) expr.True (good_truth true) refl)

-- with its annotations once, and with the body `true` where it has a variable
good_fact : (l : LiteralOf Term) → GoodHead l → GoodSentence (fact l)
good_fact l g = go (is_ground_literal (kept_once l)) refl
  where
    back : HeadBack (kept_once l)
    back = head_back (kept_once l) (record { parts = kept_parts l g.parts; plain = kept_plain l g.plain })

    go : (b : Bool) → is_ground_literal (kept_once l) ≡ b
        → GoodSentence (cond b (sentence.Belief (kept_once l)) (sentence.Rule (record { head = kept_once l; body = expr.True })))
    go true e = good_belief (kept_once l) back (kept_again l) e
    go false e = good_rule (record { head = kept_once l; body = expr.True }) back true_condition

-- ---- plans

good_plan : (p : Plan) → GoodLabel p.label → TriggerBack p.trigger → ContextBack p.context → BodyBack p.body → GoodSentence (sentence.Plan p)
good_plan p l t c b =
    let n = t.need + c.need + b.need in
    record {
      need = n;
      says = says_plan (l.reads _) (t.reads n _ (omega arith)) (c.reads n _ (omega arith)) (b.reads n (lexeme.End ∷ []) (omega arith));
      turns = turns_then l.turns (turns_then t.turns (turns_then c.turns (turns_then b.turns (turn_one turn_stop))));
      spelled = and_from (is_spelled_label p.label) _ l.spelled
          (and_from (is_spelled_literal p.trigger.lit) _ t.spelled (and_from (is_spelled_expr p.context) (list_all is_spelled_formula p.body) c.spelled b.spelled));
    }

-- ---- all clauses

pub good_sentence : {n : ℕ} {xs : List Lexeme} {s : Sentence} → Says n xs s → AllFine xs → GoodSentence s
good_sentence (says_fact {l = l} h e) f = subst GoodSentence e (good_fact l (good_head h f).0)
good_sentence (says_rule {ys = ys} {l = l} {e = e} h r) f =
    let g = good_head h f in
    good_rule (record { head = l; body = e }) (head_back l g.0) (good_condition r (fine_behind (mark sign.If) ys g.1)).0
good_sentence (says_goal {l = l} h) f = good_goal l (head_back l (good_head h f).0)
good_sentence (says_plan {label = label} {t = t} {e = e} {fs = fs} l r c b) f =
    let g = good_label l f in
    let h = good_trigger r g.1 in
    let k = good_context c h.1 in
    let m = good_body b k.1 in
    good_plan (record { label = label; trigger = t; context = e; body = fs }) g.0 h.0 k.0 (body_back m.0)
