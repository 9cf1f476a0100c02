-- What is a clause is read.
use Rattle.std.proofs.Common.{◌≡◌, ℕ, zero, suc, ◌<◌, ◌≤◌, Bool, true, false, cond, List, [], ◌∷◌, length, Option, Some, None, refl, sym, ap, subst, ◌∙◌, arith}
use Rattle.std.specs.Option.{option_map, option_map_or}
use Rattle.asl_lexer.specs.declared.token.Sign.TheVariants as sign
use Rattle.asl_term.specs.declared.syntax.LiteralOf.{LiteralOf}
use Rattle.asl_term.specs.declared.syntax.Term.{Term}
use Rattle.asl_term.specs.declared.syntax.Expr.{Expr}
use Rattle.asl_term.specs.declared.syntax.Expr.TheVariants as expr
use Rattle.asl_term.specs.declared.syntax.Formula.{Formula}
use Rattle.asl_term.specs.declared.syntax.Kind.{Kind}
use Rattle.asl_term.specs.declared.syntax.Kind.TheVariants as kind
use Rattle.asl_term.specs.declared.syntax.Trigger.{Trigger}
use Rattle.asl_parser_tree.specs.declared.lexeme.Lexeme.{Lexeme}
use Rattle.asl_parser_tree.specs.declared.lexeme.Lexeme.TheVariants.{Sign, End}
use Rattle.asl_parser_tree.specs.declared.meaning.Meaning.{Meaning}
use Rattle.asl_parser_tree.specs.declared.bounded.Bounded.TheVariants.{Within}
use Rattle.asl_parser_tree.specs.Holding.{Bounds, Kept, KeptLiteral, KeptExpr, as_formula, literal_plain, hold, hold_literal, hold_formula}
use Rattle.asl_parser_tree.proofs.Keeping.{formula_held, true_held}
use Rattle.asl_parser_tree.specs.declared.leaves.OperatorLevel.TheVariants as levels
use Rattle.asl_parser.specs.declared.sentence.ItemSign.{ItemSign}
use Rattle.asl_parser.specs.declared.sentence.Sentence.{Sentence}
use Rattle.asl_parser.specs.declared.sentence.Sentence.TheVariants as sentence
use Rattle.asl_parser_tree.specs.Meanings.{◌>>=◌}
use Rattle.asl_parser_expr.specs.Grammar.{Reads, disjunction, ReadsLiteral}
use Rattle.asl_parser_tree.specs.Leaves.{Front, start_of}
use Rattle.asl_parser_expr.specs.Reading.{level_by, literal_by, inside}
use Rattle.asl_parser.specs.Sentences.{fact, label_of, adds_of, deed_of, ReadsFormula, a_formula, ReadsHead, a_head, ReadsLabel, no_label, a_label, ReadsKind, a_belief, an_achievement, a_test, ReadsTrigger, a_trigger, ReadsContext, no_context, a_context, ReadsItem, with_sign, without_sign, ReadsItemList, only_item, more_items, ReadsBody, no_body, a_body, Says, says_fact, says_rule, says_goal, says_plan}
use Rattle.asl_parser.specs.Holding.{KeptTrigger, KeptItem, KeptBody, KeptSentence, trigger_of, item_with, item_of, before, hold_trigger, hold_item, hold_body, hold_sentence, goal_of, fact_of, rule_with, plan_with}
use Rattle.asl_parser.proofs.Weighed.{plain_held, trigger_made, signed_made, item_held, before_made, goal_made, rule_made, fact_made, plan_made}
use Rattle.asl_parser.specs.Speaking.{as_condition, as_item, after_at, after_bang, after_if, after_colon, after_arrow, after_semicolon, is_last, starts_plan, first_of, kind_at, formula_by, head_by, named, label_by, trigger_by, context_by, signed_item_by, other_item_by, item_by, item_list_by, body_by, when_last, goal_by, rule_by, clause_by, plan_by, sentence_by}
use Rattle.asl_parser_tree.proofs.Options.{some_is}
use Rattle.asl_parser_tree.specs.declared.leaves.Start.TheVariants as start
use Rattle.asl_parser_expr.proofs.Shorter.{shorter, shorter_literal}
use Rattle.asl_parser_expr.proofs.Complete.{StopsPrimary, StopsOr, reads_or, reads_literal, literal_starts}

primary_stops : (ys : List Lexeme) → StopsOr ys → StopsPrimary ys
primary_stops ys s = s.1.1.1.1.1

head_starts : {n : ℕ} {xs ys : List Lexeme} {l : LiteralOf Term} → ReadsHead n xs ys l → start_of xs ≡ start.Name
head_starts (a_head r f) = literal_starts r

trigger_no_at : {n : ℕ} {xs ys : List Lexeme} {t : Trigger} → ReadsTrigger n xs ys t → after_at xs ≡ None
trigger_no_at (a_trigger {x = x} {xs = xs} f k h) = go x f
  where
    go : (x : Lexeme) {a : Bool} → adds_of x ≡ Some a → after_at (x ∷ xs) ≡ None
    go (Sign sign.At) f = absurd cc
    go _ f = refl

trigger_starts : {n : ℕ} {xs ys : List Lexeme} {t : Trigger} → ReadsTrigger n xs ys t → starts_plan xs ≡ true
trigger_starts (a_trigger {x = x} {xs = xs} f k h) = go x f
  where
    go : (x : Lexeme) {a : Bool} → adds_of x ≡ Some a → starts_plan (x ∷ xs) ≡ true
    go (Sign sign.Plus) f = refl
    go (Sign sign.Minus) f = refl
    go _ f = absurd cc

label_there : {xs ys : List Lexeme} {o : Option (List ℕ)} → ReadsLabel xs ys o → after_at ys ≡ None → label_by xs ≡ Some (o, ys)
unfolding label_by
label_there {xs} {ys} {o} no_label e = ap (λ (a : Option (List Lexeme)). option_map_or named a (Some (None, xs))) e
label_there {xs} {ys} {o} (a_label f) e = ap (λ (p : Option (List ℕ)). option_map {T = List ℕ × List Lexeme} {U = Option (List ℕ) × List Lexeme} (λ x. (Some x.0, x.1)) (option_map {T = List ℕ} {U = List ℕ × List Lexeme} (λ a. (a, ys)) p)) f

belief_kind : (xs : List Lexeme) → start_of xs ≡ start.Name → kind_at xs ≡ (kind.Belief, xs)
belief_kind (Sign sign.Bang ∷ xs) e = absurd cc
belief_kind (Sign sign.Question ∷ xs) e = absurd cc
belief_kind _ e = refl

kind_there : {xs ys : List Lexeme} {k : Kind} → ReadsKind xs ys k → start_of ys ≡ start.Name → kind_at xs ≡ (k, ys)
kind_there {xs} {ys} {k} a_belief e = belief_kind xs e
kind_there an_achievement e = refl
kind_there a_test e = refl

context_stops : {n : ℕ} {xs ys : List Lexeme} {e : Expr} → ReadsContext n xs ys e → StopsOr ys → StopsPrimary xs
context_stops {n} {xs} no_context s = primary_stops xs s
context_stops (a_context r) s = (refl, refl)

pub item_shorter : {n : ℕ} {xs ys : List Lexeme} {o : Option Formula} → ReadsItem n xs ys o → length ys < length xs
item_shorter (with_sign f r e) = omega (arith, shorter_literal r)
item_shorter (without_sign f r e) = shorter r

body_stops : {n : ℕ} {xs : List Lexeme} {fs : List Formula} → ReadsBody n xs (End ∷ []) fs → StopsOr xs × (after_colon xs ≡ None)
body_stops no_body = ((refl, (refl, (refl, (refl, (refl, (refl, refl)))))), refl)
body_stops (a_body r) = ((refl, (refl, (refl, (refl, (refl, (refl, refl)))))), refl)

no_plan : (xs : List Lexeme) → start_of xs ≡ start.Name → starts_plan xs ≡ false
no_plan (Sign sign.At ∷ xs) e = absurd cc
no_plan (Sign sign.Plus ∷ xs) e = absurd cc
no_plan (Sign sign.Minus ∷ xs) e = absurd cc
no_plan _ e = refl

no_goal : (xs : List Lexeme) → start_of xs ≡ start.Name → after_bang xs ≡ None
no_goal (Sign sign.Bang ∷ xs) e = absurd cc
no_goal _ e = refl

label_starts : {n : ℕ} {xs ys zs : List Lexeme} {o : Option (List ℕ)} {t : Trigger} → ReadsLabel xs ys o → ReadsTrigger n ys zs t → starts_plan xs ≡ true
label_starts no_label t = trigger_starts t
label_starts (a_label f) t = refl

module _ (bs : Bounds) where
  formula_there : {n : ℕ} {xs ys : List Lexeme} {e : Expr} → ReadsFormula n xs ys e → StopsOr ys → formula_by bs n xs ≡ Some (hold_formula bs e, ys)
  unfolding formula_by
  formula_there {n} {xs} {ys} {e} (a_formula {m = m} r f) s = ap as_condition (reads_or bs n xs ys m r s) ∙ ap (λ (o : Option KeptExpr). o >>= λ e. Some (e, ys)) (formula_held bs m ∙ ap (λ (o : Option Expr). option_map (hold_formula bs) o) f)

  head_there : {n : ℕ} {xs ys : List Lexeme} {l : LiteralOf Term} → ReadsHead n xs ys l → StopsPrimary ys → head_by bs n xs ≡ Some (hold_literal bs l, ys)
  unfolding head_by
  head_there {n} {xs} {ys} {l} (a_head r f) s = ap (λ (p : Front KeptLiteral). p >>= λ l. cond (literal_plain l.0) (Some l) None) (reads_literal bs n xs ys l r s) ∙ ap (λ (b : Bool). cond b (Some (hold_literal bs l, ys)) None) (plain_held bs l ∙ f)

  trigger_there : {n : ℕ} {xs ys : List Lexeme} {t : Trigger} → ReadsTrigger n xs ys t → StopsPrimary ys → trigger_by bs n xs ≡ Some (hold_trigger bs t, ys)
  unfolding trigger_by
  trigger_there {n} {ys = zs} (a_trigger {add = add} {k = k} {xs = xs} {ys = ys} {l = l} f r h) s =
      ap (λ (p : Option Bool). option_map {T = Bool} {U = Bool × List Lexeme} (λ a. (a, xs)) p >>= λ a. head_by bs n (kind_at a.1).1 >>= λ l. Some (trigger_of a.0 (kind_at a.1).0 l.0, l.1)) f
      ∙ ap (λ (q : Kind × List Lexeme). head_by bs n q.1 >>= λ l. Some (trigger_of add q.0 l.0, l.1)) (kind_there r (head_starts h))
      ∙ ap (λ (p : Front KeptLiteral). p >>= λ l. Some (trigger_of add k l.0, l.1)) (head_there h s)
      ∙ ap (λ (t : KeptTrigger). Some (t, zs)) (trigger_made bs add k l)

  context_there : {n : ℕ} {xs ys : List Lexeme} {e : Expr} → ReadsContext n xs ys e → after_colon ys ≡ None → StopsOr ys → context_by bs n xs ≡ Some (hold_formula bs e, ys)
  unfolding context_by
  context_there {n} {xs} no_context a s = ap (λ (o : Option (List Lexeme)). option_map_or (formula_by bs n) o (Some (Within expr.True, xs))) a ∙ ap (λ (e : KeptExpr). Some (e, xs)) (sym (true_held bs))
  context_there (a_context r) a s = formula_there r s

  item_there : {n : ℕ} {xs ys : List Lexeme} {o : Option Formula} → ReadsItem n xs ys o → StopsOr ys → item_by bs n xs ≡ Some (option_map (hold_item bs) o, ys)
  unfolding item_by signed_item_by other_item_by
  item_there {n} {ys = ys} (with_sign {x = x} {d = d} {xs = xs} {l = l} f r e) s =
      ap (λ (p : Option ItemSign). option_map_or (signed_item_by bs n) (option_map {T = ItemSign} {U = ItemSign × List Lexeme} (λ a. (a, xs)) p) (other_item_by bs n (x ∷ xs))) f
      ∙ ap (λ (p : Front KeptLiteral). p >>= λ l. Some (Some (item_with d l.0), l.1)) (reads_literal bs n xs ys l r (primary_stops ys s))
      ∙ ap (λ (g : KeptItem). Some (Some g, ys)) (signed_made bs d l ∙ ap (hold_item bs) e)
  item_there {n} {ys = ys} (without_sign {x = x} {xs = xs} {m = m} f r e) s =
      ap (λ (p : Option ItemSign). option_map_or (signed_item_by bs n) (option_map {T = ItemSign} {U = ItemSign × List Lexeme} (λ a. (a, xs)) p) (other_item_by bs n (x ∷ xs))) f
      ∙ ap as_item (reads_or bs n (x ∷ xs) ys m r s)
      ∙ ap (λ (o : Option (Option KeptItem)). o >>= λ o. Some (o, ys)) (item_held bs m ∙ ap (λ (o : Option (Option Formula)). option_map (option_map (hold_item bs)) o) e)

  list_step : (n k : ℕ) (xs : List Lexeme) (x : Option KeptItem) (us : List Lexeme) (o : Option (List Lexeme)) → item_by bs n xs ≡ Some (x, us) → after_semicolon us ≡ o → item_list_by (item_by bs n) (suc k) xs ≡ option_map_or {U = Front KeptBody} (λ us. item_list_by (item_by bs n) k us >>= λ r. Some (before x r.0, r.1)) o (Some (before x (Within []), us))
  unfolding item_list_by
  list_step n k xs x us o e a = rw e refl ∙ ap (λ (o : Option (List Lexeme)). option_map_or {U = Front KeptBody} (λ us. item_list_by (item_by bs n) k us >>= λ r. Some (before x r.0, r.1)) o (Some (before x (Within []), us))) a

  -- the items of a body, up to the end of the clause
  list_there : {n : ℕ} {xs ys : List Lexeme} {fs : List Formula} → ReadsItemList n xs ys fs → StopsOr ys → after_semicolon ys ≡ None → (k : ℕ) → length xs ≤ k → item_list_by (item_by bs n) k xs ≡ Some (hold_body bs fs, ys)
  list_there (only_item r e) s a zero le = absurd (omega (arith, item_shorter r))
  list_there {n} {xs} {ys} (only_item {o = o} r e) s a (suc k) le = list_step n k xs (option_map (hold_item bs) o) ys None (item_there r s) a ∙ ap (λ (gs : KeptBody). Some (gs, ys)) (before_made bs o [] ∙ ap (hold_body bs) e)
  list_there (more_items r t e) s a zero le = absurd (omega (arith, item_shorter r))
  list_there {n} {xs} {ys = zs} (more_items {ys = ys} {o = o} {fs = fs} r t e) s a (suc k) le =
      list_step n k xs (option_map (hold_item bs) o) (Sign sign.Semicolon ∷ ys) (Some ys) (item_there r (refl, (refl, (refl, (refl, (refl, (refl, refl))))))) refl
      ∙ ap (λ (p : Front KeptBody). p >>= λ r. Some (before (option_map (hold_item bs) o) r.0, r.1)) (list_there t s a k (omega (arith, item_shorter r)))
      ∙ ap (λ (gs : KeptBody). Some (gs, zs)) (before_made bs o fs ∙ ap (hold_body bs) e)

  body_there : {n : ℕ} {xs : List Lexeme} {fs : List Formula} → ReadsBody n xs (End ∷ []) fs → body_by bs n xs ≡ Some (hold_body bs fs, End ∷ [])
  unfolding body_by
  body_there no_body = refl
  body_there (a_body {xs = xs} r) = list_there r (refl, (refl, (refl, (refl, (refl, (refl, refl)))))) refl (length xs) (omega arith)

  -- a belief or a rule
  clause_there : (n : ℕ) (xs : List Lexeme) (s : KeptSentence) → start_of xs ≡ start.Name → clause_by bs n xs ≡ Some s → sentence_by bs n xs ≡ Some s
  unfolding sentence_by
  clause_there n xs s e c =
      ap (λ (b : Bool). cond b (plan_by bs n xs) (option_map_or (goal_by bs n) (after_bang xs) (clause_by bs n xs))) (no_plan xs e)
      ∙ ap (λ (o : Option (List Lexeme)). option_map_or (goal_by bs n) o (clause_by bs n xs)) (no_goal xs e) ∙ c

  fact_there : (n : ℕ) (xs : List Lexeme) (l : LiteralOf Term) → ReadsHead n xs (End ∷ []) l → clause_by bs n xs ≡ Some (hold_sentence bs (fact l))
  unfolding clause_by
  fact_there n xs l h =
      ap (λ (p : Front KeptLiteral). p >>= λ l. option_map_or (rule_by bs n l.0) (after_if l.1) (when_last l.1 (fact_of bs l.0))) (head_there h (refl, refl))
      ∙ ap (λ (s : KeptSentence). Some s) (fact_made bs l)

  rule_there : (n : ℕ) (xs ys : List Lexeme) (l : LiteralOf Term) (e : Expr) → ReadsHead n xs (Sign sign.If ∷ ys) l → ReadsFormula n ys (End ∷ []) e → clause_by bs n xs ≡ Some (hold_sentence bs (sentence.Rule (record { head = l; body = e })))
  unfolding clause_by rule_by
  rule_there n xs ys l e h r =
      ap (λ (p : Front KeptLiteral). p >>= λ l. option_map_or (rule_by bs n l.0) (after_if l.1) (when_last l.1 (fact_of bs l.0))) (head_there h (refl, refl))
      ∙ ap (λ (p : Front KeptExpr). p >>= λ e. when_last e.1 (rule_with bs (hold_literal bs l) e.0)) (formula_there r (refl, (refl, (refl, (refl, (refl, (refl, refl)))))))
      ∙ ap (λ (s : KeptSentence). Some s) (rule_made bs l e)

  plan_there : (n : ℕ) (xs ys zs us : List Lexeme) (label : Option (List ℕ)) (t : Trigger) (e : Expr) (fs : List Formula) → ReadsLabel xs ys label → ReadsTrigger n ys zs t → ReadsContext n zs us e → ReadsBody n us (End ∷ []) fs → plan_by bs n xs ≡ Some (hold_sentence bs (sentence.Plan (record { label = label; trigger = t; context = e; body = fs })))
  unfolding plan_by
  plan_there n xs ys zs us label t e fs r tr c b =
      let stops = body_stops b in
      rw (label_there r (trigger_no_at tr), trigger_there tr (context_stops c stops.0), context_there c stops.1 stops.0, body_there b) (ap (λ (s : KeptSentence). Some s) (plan_made bs label t e fs))

  -- what is a clause is read
  pub complete_sentence : (n : ℕ) (xs : List Lexeme) (s : Sentence) → Says n xs s → sentence_by bs n xs ≡ Some (hold_sentence bs s)
  unfolding sentence_by goal_by
  complete_sentence n xs s (says_fact {l = l} h e) = clause_there n xs (hold_sentence bs s) (head_starts h) (fact_there n xs l h ∙ ap (λ (t : Sentence). Some (hold_sentence bs t)) e)
  complete_sentence n xs s (says_rule {ys = ys} {l = l} {e = e} h r) = clause_there n xs (hold_sentence bs s) (head_starts h) (rule_there n xs ys l e h r)
  complete_sentence n xs s (says_goal {l = l} h) = ap (λ (p : Front KeptLiteral). p >>= λ l. when_last l.1 (goal_of bs l.0)) (head_there h (refl, refl)) ∙ ap (λ (s : KeptSentence). Some s) (goal_made bs l)
  complete_sentence n xs s (says_plan {ys = ys} {zs = zs} {us = us} {label = label} {t = t} {e = e} {fs = fs} r tr c b) =
      ap (λ (p : Bool). cond p (plan_by bs n xs) (option_map_or (goal_by bs n) (after_bang xs) (clause_by bs n xs))) (label_starts r tr) ∙ plan_there n xs ys zs us label t e fs r tr c b
