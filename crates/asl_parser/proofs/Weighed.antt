-- What is kept of a clause is what is made of what is kept of its parts.
use Rattle.std.proofs.Common.{◌≡◌, ℕ, Bool, true, false, cond, ◌&&◌, ◌||◌, ◌⊎◌, inl, inr, List, [], ◌∷◌, ◌++◌, length, Option, Some, None, refl, sym, ap, ◌∙◌}
use Rattle.std.specs.Option.{option_map}
use Rattle.std.specs.List.{list_any, list_all}
use Rattle.std.proofs.lemmas.Bool.{and_from, and_cases, and_left, and_right}
use Rattle.asl_term.specs.declared.syntax.LiteralOf.{LiteralOf}
use Rattle.asl_term.specs.declared.syntax.Term.{Term}
use Rattle.asl_term.specs.declared.syntax.Expr.{Expr}
use Rattle.asl_term.specs.declared.syntax.Expr.TheVariants as expr
use Rattle.asl_term.specs.declared.syntax.Formula.{Formula}
use Rattle.asl_term.specs.declared.syntax.Formula.TheVariants as formula
use Rattle.asl_term.specs.declared.syntax.Kind.{Kind}
use Rattle.asl_term.specs.declared.syntax.Trigger.{Trigger}
use Rattle.asl_term.specs.Exprs.{is_ground_literal}
use Rattle.asl_term.specs.Same.{same_tree}
use Rattle.asl_term.proofs.Same.{same_true}
use Rattle.asl_parser_tree.specs.declared.meaning.Meaning.{Meaning}
use Rattle.asl_parser_tree.specs.declared.meaning.Meaning.TheVariants as meaning
use Rattle.asl_parser_tree.specs.declared.bounded.Bounded.TheVariants.{Within, Past}
use Rattle.asl_parser_tree.specs.Meanings.{is_pure}
use Rattle.asl_parser_tree.specs.Plain.{is_plain, is_plain_literal, is_action}
use Rattle.asl_parser_tree.specs.Limits.{within_literal, within_expr}
use Rattle.asl_parser_tree.specs.Conjuncts.{is_literal, has_parts}
use Rattle.asl_parser_tree.specs.Holding.{Bounds, limited, unlimited, bounded, fits_term, fits_literal, fits_expr, has_small_parts, keep_if, literal_outline, term_outline, relation_outline, call_outline, formula_outline, Kept, KeptLiteral, KeptExpr, hold, hold_literal, hold_formula, literal_plain}
use Rattle.asl_parser_tree.proofs.Past.{falls, all_terms, never, literal_past}
use Rattle.asl_parser_tree.proofs.Keeping.{true_small}
use Rattle.asl_parser_tree.proofs.PartsKept.{all_one}
use Rattle.asl_parser.specs.declared.sentence.ItemSign.{ItemSign}
use Rattle.asl_parser.specs.declared.sentence.ItemSign.TheVariants as deed
use Rattle.asl_parser.specs.declared.sentence.Sentence.{Sentence}
use Rattle.asl_parser.specs.declared.sentence.Sentence.TheVariants as sentence
use Rattle.asl_parser.specs.Sentences.{done, once_behind, kept_once, belief_or_rule, fact, item_of as true_item_of, before as true_before}
use Rattle.asl_parser.specs.Limits.{within_formula, is_within}
use Rattle.asl_parser.specs.Holding.{KeptTrigger, KeptItem, KeptBody, KeptSentence, trigger_of, item_with, item_of, before, hold_trigger, is_small_item, hold_item, hold_body, hold_sentence, goal_of, fact_of, rule_with, plan_with}

-- ---- annotations that are kept once

-- a test that some kept term stands for
seen_holds : (p : Term → Bool) (front : List Term) (t : Term) → list_any (same_tree t) front ≡ true → list_all p front ≡ true → p t ≡ true
seen_holds p [] t e h = absurd cc
seen_holds p (u ∷ us) t e h = go (same_tree t u) refl (p u) refl e h (seen_holds p us t)
  where
    go : (b : Bool) → same_tree t u ≡ b → (c : Bool) → p u ≡ c → (b || list_any (same_tree t) us) ≡ true → (c && list_all p us) ≡ true → (list_any (same_tree t) us ≡ true → list_all p us ≡ true → p t ≡ true) → p t ≡ true
    go b f false g e h again = absurd cc
    go true f true g e h again = ap p (same_true t u f) ∙ g
    go false f true g e h again = again e h

seen_adds : (p : Term → Bool) (front : List Term) (t : Term) → list_any (same_tree t) front ≡ true → (list_all p front && p t) ≡ list_all p front
seen_adds p front t e = go (list_all p front) refl
  where
    go : (b : Bool) → list_all p front ≡ b → (b && p t) ≡ b
    go true h = seen_holds p front t e h
    go false h = refl

grouped : (a b c : Bool) → ((a && b) && c) ≡ (a && (b && c))
grouped true b c = refl
grouped false b c = refl

-- a test of all holds of the terms that are kept where it holds of all
once_all : (p : Term → Bool) (front ts : List Term) → list_all p (once_behind front ts) ≡ (list_all p front && list_all p ts)
once_all p front [] = sym (last (list_all p front))
  where
    last : (b : Bool) → (b && true) ≡ b
    last true = refl
    last false = refl
once_all p front (t ∷ ts) = go (list_any (same_tree t) front) refl (once_all p front ts) (once_all p (front ++ t ∷ []) ts)
  where
    go : (b : Bool) → list_any (same_tree t) front ≡ b → list_all p (once_behind front ts) ≡ (list_all p front && list_all p ts) → list_all p (once_behind (front ++ t ∷ []) ts) ≡ (list_all p (front ++ t ∷ []) && list_all p ts) → list_all p (cond b (once_behind front ts) (once_behind (front ++ t ∷ []) ts)) ≡ (list_all p front && (p t && list_all p ts))
    go true e h k = h ∙ ap (λ (b : Bool). b && list_all p ts) (sym (seen_adds p front t e)) ∙ grouped (list_all p front) (p t) (list_all p ts)
    go false e h k = k ∙ ap (λ (b : Bool). b && list_all p ts) (all_one p front t) ∙ grouped (list_all p front) (p t) (list_all p ts)

-- ---- limits

fact_within : (l : LiteralOf Term) → is_within (belief_or_rule l) ≡ within_literal l
fact_within l = go (is_ground_literal l)
  where
    last : (b : Bool) → (b && within_expr expr.True) ≡ b
    last true = true_small
    last false = refl

    go : (b : Bool) → is_within (cond b (sentence.Belief l) (sentence.Rule (record { head = l; body = expr.True }))) ≡ within_literal l
    go true = refl
    go false = last (within_literal l)

item_past : (f : Formula) → is_small_item limited f ≡ false → within_formula f ≡ false
item_past (formula.Achieve l) e = literal_past limited l e
item_past (formula.Spawn l) e = literal_past limited l e
item_past (formula.Test l) e = literal_past limited l e
item_past (formula.Add l) e = literal_past limited l e
item_past (formula.Del l) e = literal_past limited l e
item_past (formula.Replace l) e = literal_past limited l e
item_past (formula.Act l) e = e
item_past (formula.Inner c) e = e
item_past (formula.Rel r) e = e

items_past : (fs : List Formula) → list_all (is_small_item limited) fs ≡ false → list_all within_formula fs ≡ false
items_past [] e = absurd cc
items_past (f ∷ fs) e =
    elim (and_cases (is_small_item limited f) (list_all (is_small_item limited) fs) e) [
      | inl h ↦ and_left (within_formula f) (list_all within_formula fs) (item_past f h)
      | inr h ↦ and_right (within_formula f) (list_all within_formula fs) (items_past fs h)
    ]

small_literal : (l : LiteralOf Term) → has_small_parts unlimited l ≡ true
small_literal l = and_from (list_all (fits_term unlimited) l.args) (list_all (fits_term unlimited) l.annots) (all_terms l.args) (all_terms l.annots)

small_item : (f : Formula) → is_small_item unlimited f ≡ true
small_item (formula.Achieve l) = small_literal l
small_item (formula.Spawn l) = small_literal l
small_item (formula.Test l) = small_literal l
small_item (formula.Add l) = small_literal l
small_item (formula.Del l) = small_literal l
small_item (formula.Replace l) = small_literal l
small_item (formula.Act l) = refl
small_item (formula.Inner c) = refl
small_item (formula.Rel r) = refl

small_items : (fs : List Formula) → list_all (is_small_item unlimited) fs ≡ true
small_items [] = refl
small_items (f ∷ fs) = and_from (is_small_item unlimited f) (list_all (is_small_item unlimited) fs) (small_item f) (small_items fs)

body_past : (bs : Bounds) (fs : List Formula) → list_all (is_small_item bs) fs ≡ false → bounded bs (list_all within_formula fs) ≡ false
body_past limited fs e = items_past fs e
body_past unlimited fs e = never (small_items fs) e

abbrev whole_item : Formula → KeptItem
whole_item f = Within f

module _ (bs : Bounds) where
  -- ---- parts of clauses

  pub plain_held : (l : LiteralOf Term) → literal_plain (hold_literal bs l) ≡ is_plain_literal l
  plain_held l = go (has_small_parts bs l)
    where
      go : (b : Bool) → literal_plain (keep_if b l (literal_outline (is_action l) (is_plain_literal l))) ≡ is_plain_literal l
      go true = refl
      go false = refl

  pub trigger_made : (add : Bool) (k : Kind) (l : LiteralOf Term) → trigger_of add k (hold_literal bs l) ≡ hold_trigger bs (record { add = add; kind = k; lit = l })
  trigger_made add k l = go (has_small_parts bs l)
    where
      go : (b : Bool) → trigger_of add k (keep_if b l (literal_outline (is_action l) (is_plain_literal l))) ≡ keep_if b (record { add = add; kind = k; lit = l }) tt
      go true = refl
      go false = refl

  signed_at : (d : ItemSign) (l : LiteralOf Term) → is_small_item bs (done d l) ≡ has_small_parts bs l
  signed_at deed.Achieve l = refl
  signed_at deed.Spawn l = refl
  signed_at deed.Test l = refl
  signed_at deed.Add l = refl
  signed_at deed.Del l = refl
  signed_at deed.Replace l = refl

  pub signed_made : (d : ItemSign) (l : LiteralOf Term) → item_with d (hold_literal bs l) ≡ hold_item bs (done d l)
  signed_made d l = go (has_small_parts bs l) ∙ ap (λ (b : Bool). keep_if b (done d l) tt) (sym (signed_at d l))
    where
      go : (b : Bool) → item_with d (keep_if b l (literal_outline (is_action l) (is_plain_literal l))) ≡ keep_if b (done d l) tt
      go true = refl
      go false = refl

  pub item_held : (m : Meaning) → item_of (hold bs m) ≡ option_map (option_map (hold_item bs)) (true_item_of m)
  item_held (meaning.Truth true l) = refl
  item_held (meaning.Truth false l) = refl
  item_held (meaning.Literal l) = go (fits_literal bs l) (is_action l) refl ∙ at (is_action l)
    where
      at : (a : Bool) → cond a (Some (Some (hold_item bs (formula.Act l)))) None ≡ option_map (option_map (hold_item bs)) (cond a (Some (Some (formula.Act l))) None)
      at true = refl
      at false = refl

      small : (a : Bool) → option_map (option_map whole_item) (cond a (Some (Some (formula.Act l))) None) ≡ cond a (Some (Some (whole_item (formula.Act l)))) None
      small true = refl
      small false = refl

      go : (b a : Bool) → is_action l ≡ a → item_of (keep_if b (meaning.Literal l) (literal_outline (is_action l) (is_plain_literal l))) ≡ cond (is_action l) (Some (Some (keep_if b (formula.Act l) tt))) None
      go true a e = small (is_action l)
      go false a e = refl
  item_held (meaning.Term t) = go (fits_term bs t)
    where
      go : (b : Bool) → item_of (keep_if b (meaning.Term t) (term_outline (is_plain t))) ≡ None
      go true = refl
      go false = refl
  item_held (meaning.Relation r) = go (fits_expr bs (expr.Rel r))
    where
      go : (b : Bool) → item_of (keep_if b (meaning.Relation r) relation_outline) ≡ Some (Some (keep_if b (formula.Rel r) tt))
      go true = refl
      go false = refl
  item_held (meaning.Call c) = go (fits_expr bs (expr.Inner c)) (is_pure c.name (length c.args))
    where
      go : (b p : Bool) → item_of (keep_if b (meaning.Call c) (call_outline p)) ≡ Some (Some (keep_if b (formula.Inner c) tt))
      go true p = refl
      go false p = refl
  item_held (meaning.Formula e) = go (fits_expr bs e)
    where
      go : (b : Bool) → item_of (keep_if b (meaning.Formula e) (formula_outline (is_literal e) (has_parts e))) ≡ None
      go true = refl
      go false = refl

  before_some : (f : Formula) (fs : List Formula) (b c : Bool) → before (Some (keep_if b f tt)) (keep_if c fs tt) ≡ keep_if (b && c) (f ∷ fs) tt
  before_some f fs true true = refl
  before_some f fs true false = refl
  before_some f fs false c = refl

  pub before_made : (o : Option Formula) (fs : List Formula) → before (option_map (hold_item bs) o) (hold_body bs fs) ≡ hold_body bs (true_before o fs)
  before_made None fs = refl
  before_made (Some f) fs = before_some f fs (is_small_item bs f) (list_all (is_small_item bs) fs)

  -- ---- clauses

  past_is : (s : Sentence) → bounded bs (is_within s) ≡ false → Past tt ≡ hold_sentence bs s
  past_is s e = ap (λ (b : Bool). keep_if b s tt) (sym e)

  pub goal_made : (l : LiteralOf Term) → goal_of bs (hold_literal bs l) ≡ hold_sentence bs (sentence.Goal l)
  goal_made l = go (has_small_parts bs l) refl
    where
      go : (b : Bool) → has_small_parts bs l ≡ b → goal_of bs (keep_if b l (literal_outline (is_action l) (is_plain_literal l))) ≡ hold_sentence bs (sentence.Goal l)
      go true e = refl
      go false e = past_is (sentence.Goal l) (literal_past bs l e)

  pub rule_made : (l : LiteralOf Term) (x : Expr) → rule_with bs (hold_literal bs l) (hold_formula bs x) ≡ hold_sentence bs (sentence.Rule (record { head = l; body = x }))
  rule_made l x = go (has_small_parts bs l) refl (fits_expr bs x) refl
    where
      first : has_small_parts bs l ≡ false → Past tt ≡ hold_sentence bs (sentence.Rule (record { head = l; body = x }))
      first e = past_is (sentence.Rule (record { head = l; body = x })) (falls bs (and_left (within_literal l) (within_expr x)) (literal_past bs l e))

      go : (b : Bool) → has_small_parts bs l ≡ b → (c : Bool) → fits_expr bs x ≡ c → rule_with bs (keep_if b l (literal_outline (is_action l) (is_plain_literal l))) (keep_if c x (has_parts x)) ≡ hold_sentence bs (sentence.Rule (record { head = l; body = x }))
      go true e true f = refl
      go true e false f = past_is (sentence.Rule (record { head = l; body = x })) (falls bs (and_right (within_literal l) (within_expr x)) f)
      go false e true f = first e
      go false e false f = first e

  pub fact_made : (l : LiteralOf Term) → fact_of bs (hold_literal bs l) ≡ hold_sentence bs (fact l)
  fact_made l = go (has_small_parts bs l) refl
    where
      kept : has_small_parts bs (kept_once l) ≡ has_small_parts bs l
      kept = ap (λ (b : Bool). list_all (fits_term bs) l.args && b) (once_all (fits_term bs) [] l.annots)

      go : (b : Bool) → has_small_parts bs l ≡ b → fact_of bs (keep_if b l (literal_outline (is_action l) (is_plain_literal l))) ≡ hold_sentence bs (fact l)
      go true e = refl
      go false e = past_is (fact l) (ap (bounded bs) (fact_within (kept_once l)) ∙ literal_past bs (kept_once l) (kept ∙ e))

  abbrev plan : Option (List ℕ) → Trigger → Expr → List Formula → Sentence
  plan label t x fs = sentence.Plan (record { label = label; trigger = t; context = x; body = fs })

  pub plan_made : (label : Option (List ℕ)) (t : Trigger) (x : Expr) (fs : List Formula) → plan_with bs label (hold_trigger bs t) (hold_formula bs x) (hold_body bs fs) ≡ hold_sentence bs (plan label t x fs)
  plan_made label t x fs = go (has_small_parts bs t.lit) refl (fits_expr bs x) refl (list_all (is_small_item bs) fs) refl
    where
      first : has_small_parts bs t.lit ≡ false → Past tt ≡ hold_sentence bs (plan label t x fs)
      first e = past_is (plan label t x fs) (falls bs (and_left (within_literal t.lit) (within_expr x && list_all within_formula fs)) (literal_past bs t.lit e))

      second : fits_expr bs x ≡ false → Past tt ≡ hold_sentence bs (plan label t x fs)
      second e = past_is (plan label t x fs) (falls bs (λ h. and_right (within_literal t.lit) (within_expr x && list_all within_formula fs) (and_left (within_expr x) (list_all within_formula fs) h)) e)

      third : list_all (is_small_item bs) fs ≡ false → Past tt ≡ hold_sentence bs (plan label t x fs)
      third e = past_is (plan label t x fs) (falls bs (λ h. and_right (within_literal t.lit) (within_expr x && list_all within_formula fs) (and_right (within_expr x) (list_all within_formula fs) h)) (body_past bs fs e))

      go : (b : Bool) → has_small_parts bs t.lit ≡ b → (c : Bool) → fits_expr bs x ≡ c → (d : Bool) → list_all (is_small_item bs) fs ≡ d → plan_with bs label (keep_if b t tt) (keep_if c x (has_parts x)) (keep_if d fs tt) ≡ hold_sentence bs (plan label t x fs)
      go true e true f true g = refl
      go true e true f false g = third g
      go true e false f true g = second f
      go true e false f false g = second f
      go false e true f true g = first e
      go false e true f false g = first e
      go false e false f true g = first e
      go false e false f false g = first e
