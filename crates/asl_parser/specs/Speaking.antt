-- What the reader of clauses does, on lists. That it is the grammar is shown in `proofs/`.
use Rattle.std.specs.Prelude.{◌≡◌, ℕ, zero, suc, Bool, true, false, List, [], ◌∷◌, length, Option, Some, None, if◌then◌else◌}
use Rattle.std.specs.Borrow.{Bor}
use Rattle.std.specs.Option.{option_map, option_map_or}
use Rattle.asl_lexer.specs.declared.token.Sign.TheVariants as sign
use Rattle.asl_term.specs.declared.syntax.Expr.TheVariants as expr
use Rattle.asl_term.specs.declared.syntax.Kind.{Kind}
use Rattle.asl_term.specs.declared.syntax.Kind.TheVariants as kind
use Rattle.asl_parser_tree.specs.declared.lexeme.Lexeme.{Lexeme}
use Rattle.asl_parser_tree.specs.declared.lexeme.Lexeme.TheVariants.{Sign, End}
use Rattle.asl_parser_tree.specs.declared.bounded.Bounded.TheVariants.{Within}
use Rattle.asl_parser_tree.specs.Holding.{Bounds, Kept, KeptLiteral, KeptExpr, as_formula, literal_plain}
use Rattle.asl_parser_tree.specs.declared.leaves.OperatorLevel.TheVariants as levels
use Rattle.asl_parser.specs.declared.sentence.ItemSign.{ItemSign}
use Rattle.asl_parser_tree.specs.Meanings.{◌>>=◌}
use Rattle.asl_parser_tree.specs.Leaves.{Front}
use Rattle.asl_parser_expr.specs.Reading.{level_by, literal_by, inside}
use Rattle.asl_parser.specs.Sentences.{label_of, adds_of, deed_of}
use Rattle.asl_parser.specs.Holding.{KeptTrigger, KeptItem, KeptBody, KeptSentence, trigger_of, item_with, item_of, before, goal_of, fact_of, rule_with}
use Rattle.asl_parser.specs.Holding.{plan_with}

-- ---- single tokens

abbrev pub after_at : List Lexeme → Option (List Lexeme)
after_at (Sign sign.At ∷ ts) = Some ts
after_at _ = None

abbrev pub after_bang : List Lexeme → Option (List Lexeme)
after_bang (Sign sign.Bang ∷ ts) = Some ts
after_bang _ = None

abbrev pub after_if : List Lexeme → Option (List Lexeme)
after_if (Sign sign.If ∷ ts) = Some ts
after_if _ = None

abbrev pub after_colon : List Lexeme → Option (List Lexeme)
after_colon (Sign sign.Colon ∷ ts) = Some ts
after_colon _ = None

abbrev pub after_arrow : List Lexeme → Option (List Lexeme)
after_arrow (Sign sign.LeftArrow ∷ ts) = Some ts
after_arrow _ = None

abbrev pub after_semicolon : List Lexeme → Option (List Lexeme)
after_semicolon (Sign sign.Semicolon ∷ ts) = Some ts
after_semicolon _ = None

abbrev pub is_last : List Lexeme → Bool
is_last (End ∷ []) = true
is_last _ = false

-- whether the first token begins a plan
abbrev pub starts_plan : List Lexeme → Bool
starts_plan (Sign sign.At ∷ ts) = true
starts_plan (Sign sign.Plus ∷ ts) = true
starts_plan (Sign sign.Minus ∷ ts) = true
starts_plan _ = false

abbrev pub first_of : {A : Type 0} → (Lexeme → Option A) → List Lexeme → Front A
first_of f [] = None
first_of f (t ∷ ts) = option_map (λ a. (a, ts)) (f t)

abbrev pub kind_at : List Lexeme → Kind × List Lexeme
kind_at (Sign sign.Bang ∷ ts) = (kind.Achieve, ts)
kind_at (Sign sign.Question ∷ ts) = (kind.Test, ts)
kind_at ts = (kind.Belief, ts)

-- ---- parts of clauses

abbrev pub named : List Lexeme → Front (Option (List ℕ))
named ts = option_map (λ x. (Some x.0, x.1)) (first_of label_of ts)

unfoldable pub label_by : List Lexeme → Front (Option (List ℕ))
label_by ts = option_map_or named (after_at ts) (Some (None, ts))

abbrev pub as_condition : Front Kept → Front KeptExpr
as_condition found = found >>= λ m. as_formula m.0 >>= λ e. Some (e, m.1)

abbrev pub as_item : Front Kept → Front (Option KeptItem)
as_item found = found >>= λ m. item_of m.0 >>= λ o. Some (o, m.1)

unfoldable pub item_list_by : (List Lexeme → Front (Option KeptItem)) → ℕ → List Lexeme → Front KeptBody
item_list_by item zero ts = None
item_list_by item (suc k) ts = do
  x ← item ts
  option_map_or (λ us. item_list_by item k us >>= λ r. Some (before x.0 r.0, r.1)) (after_semicolon x.1) (Some (before x.0 (Within []), x.1))

abbrev pub when_last : List Lexeme → KeptSentence → Option KeptSentence
when_last ts s = if is_last ts then Some s else None

module _ (bs : Bounds) where
  unfoldable pub formula_by : ℕ → List Lexeme → Front KeptExpr
  formula_by n ts = as_condition (level_by bs (inside bs n) levels.Or ts)

  unfoldable pub head_by : ℕ → List Lexeme → Front KeptLiteral
  head_by n ts = literal_by bs (inside bs n) ts >>= λ l. if literal_plain l.0 then Some l else None

  unfoldable pub trigger_by : ℕ → List Lexeme → Front KeptTrigger
  trigger_by n ts = do
    a ← first_of adds_of ts
    l ← head_by n (kind_at a.1).1
    Some (trigger_of a.0 (kind_at a.1).0 l.0, l.1)

  unfoldable pub context_by : ℕ → List Lexeme → Front KeptExpr
  context_by n ts = option_map_or (formula_by n) (after_colon ts) (Some (Within expr.True, ts))

  unfoldable pub signed_item_by : ℕ → ItemSign × List Lexeme → Front (Option KeptItem)
  signed_item_by n d = literal_by bs (inside bs n) d.1 >>= λ l. Some (Some (item_with d.0 l.0), l.1)

  unfoldable pub other_item_by : ℕ → List Lexeme → Front (Option KeptItem)
  other_item_by n ts = as_item (level_by bs (inside bs n) levels.Or ts)

  unfoldable pub item_by : ℕ → List Lexeme → Front (Option KeptItem)
  item_by n ts = option_map_or (signed_item_by n) (first_of deed_of ts) (other_item_by n ts)

  unfoldable pub body_by : ℕ → List Lexeme → Front KeptBody
  body_by n ts = option_map_or (λ us. item_list_by (item_by n) (length us) us) (after_arrow ts) (Some (Within [], ts))

  -- ---- clauses

  unfoldable pub goal_by : ℕ → List Lexeme → Option KeptSentence
  goal_by n ts = head_by n ts >>= λ l. when_last l.1 (goal_of bs l.0)

  abbrev pub rule_of : KeptLiteral → Front KeptExpr → Option KeptSentence
  rule_of l found = found >>= λ e. when_last e.1 (rule_with bs l e.0)

  unfoldable pub rule_by : ℕ → KeptLiteral → List Lexeme → Option KeptSentence
  rule_by n l ts = rule_of l (formula_by n ts)

  unfoldable pub clause_by : ℕ → List Lexeme → Option KeptSentence
  clause_by n ts = do
    l ← head_by n ts
    option_map_or (rule_by n l.0) (after_if l.1) (when_last l.1 (fact_of bs l.0))

  abbrev pub plan_of : Option (List ℕ) → KeptTrigger → KeptExpr → Front KeptBody → Option KeptSentence
  plan_of label t e found = found >>= λ fs. when_last fs.1 (plan_with bs label t e fs.0)

  abbrev pub with_context : ℕ → Option (List ℕ) → KeptTrigger → List Lexeme → Option KeptSentence
  with_context n label t ts = context_by n ts >>= λ e. plan_of label t e.0 (body_by n e.1)

  unfoldable pub plan_by : ℕ → List Lexeme → Option KeptSentence
  plan_by n ts = do
    label ← label_by ts
    t ← trigger_by n label.1
    with_context n label.0 t.0 t.1

  unfoldable pub sentence_by : ℕ → List Lexeme → Option KeptSentence
  sentence_by n ts = if starts_plan ts then plan_by n ts else option_map_or (goal_by n) (after_bang ts) (clause_by n ts)

abbrev pub view_kind : Kind × Bor (List Lexeme) → Kind × List Lexeme
view_kind x = (x.0, x.1.now)
