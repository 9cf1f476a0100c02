-- The grammar of clauses, seen by what is kept of what they say.
use Rattle.std.proofs.Common.{◌≡◌, ℕ, Bool, true, false, List, [], ◌∷◌, Option, Some, None, refl, sym, ap, ◌∙◌}
use Rattle.std.specs.Option.{option_map}
use Rattle.asl_lexer.specs.declared.token.Sign.TheVariants as sign
use Rattle.asl_term.specs.declared.syntax.Expr.TheVariants as expr
use Rattle.asl_term.specs.declared.syntax.Kind.{Kind}
use Rattle.asl_term.specs.declared.syntax.Trigger.{Trigger}
use Rattle.asl_parser_tree.specs.declared.lexeme.Lexeme.{Lexeme}
use Rattle.asl_parser_tree.specs.declared.lexeme.Lexeme.TheVariants.{Sign, End}
use Rattle.asl_parser_tree.specs.declared.bounded.Bounded.TheVariants.{Within}
use Rattle.asl_parser_tree.specs.Meanings as meanings
use Rattle.asl_parser_expr.specs.Grammar.{disjunction}
use Rattle.asl_parser_tree.specs.Holding.{Bounds, Kept, KeptLiteral, KeptExpr, hold, hold_literal, hold_formula, as_formula, literal_plain}
use Rattle.asl_parser_tree.proofs.Keeping.{formula_held, true_held}
use Rattle.asl_parser_expr.proofs.Built.{Holds, mapped_some, Reads, ReadsLiteral}
use Rattle.asl_parser.specs.declared.sentence.ItemSign.{ItemSign}
use Rattle.asl_parser.specs.declared.sentence.Sentence.TheVariants as sentence
use Rattle.asl_parser.specs.Sentences.{adds_of, deed_of, done, fact, item_of as true_item_of, before as true_before, ReadsLabel, ReadsKind}
use Rattle.asl_parser.specs.Sentences as grammar
use Rattle.asl_parser.specs.Holding.{KeptTrigger, KeptItem, KeptBody, KeptSentence, trigger_of, item_with, item_of, before, hold_trigger, hold_item, hold_body, hold_sentence, goal_of, fact_of, rule_with, plan_with}
use Rattle.asl_parser.proofs.Weighed.{plain_held, trigger_made, signed_made, item_held, before_made, goal_made, rule_made, fact_made, plan_made}

module _ (bs : Bounds) where
  abbrev pub ReadsFormula : ℕ → List Lexeme → List Lexeme → KeptExpr → Type 0
  ReadsFormula n xs ys e = Holds (hold_formula bs) (grammar.ReadsFormula n xs ys) e

  abbrev pub ReadsHead : ℕ → List Lexeme → List Lexeme → KeptLiteral → Type 0
  ReadsHead n xs ys l = Holds (hold_literal bs) (grammar.ReadsHead n xs ys) l

  abbrev pub ReadsTrigger : ℕ → List Lexeme → List Lexeme → KeptTrigger → Type 0
  ReadsTrigger n xs ys t = Holds (hold_trigger bs) (grammar.ReadsTrigger n xs ys) t

  abbrev pub ReadsContext : ℕ → List Lexeme → List Lexeme → KeptExpr → Type 0
  ReadsContext n xs ys e = Holds (hold_formula bs) (grammar.ReadsContext n xs ys) e

  abbrev pub ReadsItem : ℕ → List Lexeme → List Lexeme → Option KeptItem → Type 0
  ReadsItem n xs ys o = Holds (option_map (hold_item bs)) (grammar.ReadsItem n xs ys) o

  abbrev pub ReadsItemList : ℕ → List Lexeme → List Lexeme → KeptBody → Type 0
  ReadsItemList n xs ys fs = Holds (hold_body bs) (grammar.ReadsItemList n xs ys) fs

  abbrev pub ReadsBody : ℕ → List Lexeme → List Lexeme → KeptBody → Type 0
  ReadsBody n xs ys fs = Holds (hold_body bs) (grammar.ReadsBody n xs ys) fs

  abbrev pub Says : ℕ → List Lexeme → KeptSentence → Type 0
  Says n xs s = Holds (hold_sentence bs) (grammar.Says n xs) s

  pub a_formula : {n : ℕ} {xs ys : List Lexeme} {m : Kept} {e : KeptExpr} → Reads bs n disjunction xs ys m → as_formula m ≡ Some e → ReadsFormula n xs ys e
  a_formula {e = e} r f =
      let d = mapped_some (hold_formula bs) (meanings.as_formula r.value) e (sym (formula_held bs r.value) ∙ ap as_formula r.same ∙ f) in
      record { value = d.0; holds = grammar.a_formula r.holds d.1; same = d.2 }

  pub a_head : {n : ℕ} {xs ys : List Lexeme} {l : KeptLiteral} → ReadsLiteral bs n xs ys l → literal_plain l ≡ true → ReadsHead n xs ys l
  a_head r f = record { value = r.value; holds = grammar.a_head r.holds (sym (plain_held bs r.value) ∙ ap literal_plain r.same ∙ f); same = r.same }

  pub a_trigger : {n : ℕ} {x : Lexeme} {add : Bool} {k : Kind} {xs ys zs : List Lexeme} {l : KeptLiteral} → adds_of x ≡ Some add → ReadsKind xs ys k → ReadsHead n ys zs l → ReadsTrigger n (x ∷ xs) zs (trigger_of add k l)
  a_trigger {add = add} {k = k} f r h =
      record { value = record { add = add; kind = k; lit = h.value }; holds = grammar.a_trigger f r h.holds; same = sym (trigger_made bs add k h.value) ∙ ap (trigger_of add k) h.same }

  pub no_context : {n : ℕ} {xs : List Lexeme} → ReadsContext n xs xs (Within expr.True)
  no_context = record { value = expr.True; holds = grammar.no_context; same = true_held bs }

  pub a_context : {n : ℕ} {xs ys : List Lexeme} {e : KeptExpr} → ReadsFormula n xs ys e → ReadsContext n (Sign sign.Colon ∷ xs) ys e
  a_context r = record { value = r.value; holds = grammar.a_context r.holds; same = r.same }

  pub with_sign : {n : ℕ} {x : Lexeme} {d : ItemSign} {xs ys : List Lexeme} {l : KeptLiteral} → deed_of x ≡ Some d → ReadsLiteral bs n xs ys l → ReadsItem n (x ∷ xs) ys (Some (item_with d l))
  with_sign {d = d} f r =
      record { value = Some (done d r.value); holds = grammar.with_sign f r.holds refl; same = ap (λ (k : KeptItem). Some k) (sym (signed_made bs d r.value) ∙ ap (item_with d) r.same) }

  pub without_sign : {n : ℕ} {x : Lexeme} {xs ys : List Lexeme} {m : Kept} {o : Option KeptItem} → deed_of x ≡ None → Reads bs n disjunction (x ∷ xs) ys m → item_of m ≡ Some o → ReadsItem n (x ∷ xs) ys o
  without_sign {o = o} f r e =
      let d = mapped_some (option_map (hold_item bs)) (true_item_of r.value) o (sym (item_held bs r.value) ∙ ap item_of r.same ∙ e) in
      record { value = d.0; holds = grammar.without_sign f r.holds d.1; same = d.2 }

  pub only_item : {n : ℕ} {xs ys : List Lexeme} {o : Option KeptItem} → ReadsItem n xs ys o → ReadsItemList n xs ys (before o (Within []))
  only_item r =
      record { value = true_before r.value []; holds = grammar.only_item r.holds refl; same = sym (before_made bs r.value []) ∙ ap (λ (k : Option KeptItem). before k (Within [])) r.same }

  pub more_items : {n : ℕ} {xs ys zs : List Lexeme} {o : Option KeptItem} {fs : KeptBody} → ReadsItem n xs (Sign sign.Semicolon ∷ ys) o → ReadsItemList n ys zs fs → ReadsItemList n xs zs (before o fs)
  more_items {o = o} r t =
      record {
        value = true_before r.value t.value;
        holds = grammar.more_items r.holds t.holds refl;
        same = sym (before_made bs r.value t.value) ∙ ap (λ (k : Option KeptItem). before k (hold_body bs t.value)) r.same ∙ ap (before o) t.same;
      }

  pub no_body : {n : ℕ} {xs : List Lexeme} → ReadsBody n xs xs (Within [])
  no_body = record { value = []; holds = grammar.no_body; same = refl }

  pub a_body : {n : ℕ} {xs ys : List Lexeme} {fs : KeptBody} → ReadsItemList n xs ys fs → ReadsBody n (Sign sign.LeftArrow ∷ xs) ys fs
  a_body r = record { value = r.value; holds = grammar.a_body r.holds; same = r.same }

  pub says_fact : {n : ℕ} {xs : List Lexeme} {l : KeptLiteral} → ReadsHead n xs (End ∷ []) l → Says n xs (fact_of bs l)
  says_fact h = record { value = fact h.value; holds = grammar.says_fact h.holds refl; same = sym (fact_made bs h.value) ∙ ap (fact_of bs) h.same }

  pub says_rule : {n : ℕ} {xs ys : List Lexeme} {l : KeptLiteral} {e : KeptExpr} → ReadsHead n xs (Sign sign.If ∷ ys) l → ReadsFormula n ys (End ∷ []) e → Says n xs (rule_with bs l e)
  says_rule {l = l} h r =
      record {
        value = sentence.Rule (record { head = h.value; body = r.value });
        holds = grammar.says_rule h.holds r.holds;
        same = sym (rule_made bs h.value r.value) ∙ ap (λ (k : KeptLiteral). rule_with bs k (hold_formula bs r.value)) h.same ∙ ap (rule_with bs l) r.same;
      }

  pub says_goal : {n : ℕ} {xs : List Lexeme} {l : KeptLiteral} → ReadsHead n xs (End ∷ []) l → Says n (Sign sign.Bang ∷ xs) (goal_of bs l)
  says_goal h = record { value = sentence.Goal h.value; holds = grammar.says_goal h.holds; same = sym (goal_made bs h.value) ∙ ap (goal_of bs) h.same }

  pub says_plan : {n : ℕ} {xs ys zs us : List Lexeme} {label : Option (List ℕ)} {t : KeptTrigger} {e : KeptExpr} {fs : KeptBody} → ReadsLabel xs ys label → ReadsTrigger n ys zs t → ReadsContext n zs us e → ReadsBody n us (End ∷ []) fs → Says n xs (plan_with bs label t e fs)
  says_plan {label = label} {t = t} {e = e} l a c b =
      record {
        value = sentence.Plan (record { label = label; trigger = a.value; context = c.value; body = b.value });
        holds = grammar.says_plan l a.holds c.holds b.holds;
        same = sym (plan_made bs label a.value c.value b.value) ∙ ap (λ (k : KeptTrigger). plan_with bs label k (hold_formula bs c.value) (hold_body bs b.value)) a.same ∙ ap (λ (k : KeptExpr). plan_with bs label t k (hold_body bs b.value)) c.same ∙ ap (plan_with bs label t e) b.same;
      }
