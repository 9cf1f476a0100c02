-- What the reader of clauses does, on lists. That it is the grammar is shown in `proofs/`.
use Rattle.std.specs.Prelude.{ℕ, zero, suc, Bool, true, false, List, [], ◌∷◌, length, Option, Some, None, codes, if◌then◌else◌}
use Rattle.std.specs.List.{list_any}
use Rattle.std.specs.Option.{option_map_or}
use Rattle.asl_lexer.specs.declared.token.Sign.TheVariants as sign
use Rattle.asl_term.specs.declared.syntax.Term.{Term}
use Rattle.asl_parser_tree.specs.declared.lexeme.Lexeme.{Lexeme}
use Rattle.asl_parser_tree.specs.declared.lexeme.Lexeme.TheVariants.{Truth, Sign}
use Rattle.asl_parser_tree.specs.declared.bounded.Bounded.TheVariants.{Within}
use Rattle.asl_parser_tree.specs.Holding.{Bounds, KeptLiteral, KeptExpr}
use Rattle.asl_parser_tree.specs.Meanings.{◌>>=◌}
use Rattle.asl_parser_tree.specs.Leaves.{Front, after_comma}
use Rattle.asl_parser_expr.specs.Reading.{literal_by, inside}
use Rattle.asl_parser.specs.Sentences.{label_of, adds_of}
use Rattle.asl_parser.specs.Speaking.{after_colon, is_last, first_of, formula_by, head_by}
use Rattle.env_file.specs.declared.statement.Effect.TheVariants.{Dropped}
use Rattle.env_file.specs.declared.statement.Statement.{Statement}
use Rattle.env_file.specs.declared.statement.Statement.TheVariants as statement
use Rattle.env_file.specs.Statements.{is_word, is_variable, doer_of, has_annots}
use Rattle.env_file.specs.Holding.{KeptGuard, KeptEffect, KeptEffects, KeptStatement, guard_of, effect_of, before, fact_of, act_with}

-- ---- single tokens

abbrev pub after_word : List ℕ → List Lexeme → Option (List Lexeme)
after_word text [] = None
after_word text (x ∷ ts) = if is_word text x then Some ts else None

abbrev pub after_right_arrow : List Lexeme → Option (List Lexeme)
after_right_arrow (Sign sign.RightArrow ∷ ts) = Some ts
after_right_arrow _ = None

abbrev pub after_true : List Lexeme → Option (List Lexeme)
after_true (Truth true ∷ ts) = Some ts
after_true _ = None

-- whether any word stands first
abbrev pub is_name : Lexeme → Bool
is_name x = option_map_or (λ name. true) (label_of x) false

abbrev pub starts_with_name : List Lexeme → Bool
starts_with_name [] = false
starts_with_name (x ∷ ts) = is_name x

-- behind this word, where another word follows
abbrev pub before_name : List ℕ → List Lexeme → Option (List Lexeme)
before_name text ts = after_word text ts >>= λ us. if starts_with_name us then Some us else None

abbrev pub when_last : List Lexeme → KeptStatement → Option KeptStatement
when_last ts s = if is_last ts then Some s else None

-- ---- parts of clauses

abbrev pub hide_of : List ℕ → Statement
hide_of name = statement.Hide name

abbrev pub use_of : List ℕ → Statement
use_of name = statement.Use name

unfoldable pub named_by : (List ℕ → Statement) → List Lexeme → Option KeptStatement
named_by make ts = first_of label_of ts >>= λ x. when_last x.1 (Within (make x.0))

unfoldable pub doer_by : List Lexeme → Front Term
doer_by ts = after_word (codes "by") ts >>= first_of doer_of

abbrev pub nothing_by : List Lexeme → Front (Option KeptEffect)
nothing_by ts = after_true ts >>= λ us. Some (None, us)

abbrev pub dropped_by : List Lexeme → Front (Option KeptEffect)
dropped_by ts = first_of label_of ts >>= λ x. Some (Some (Within (Dropped x.0)), x.1)

-- an effect without a sign
abbrev pub word_by : List Lexeme → Front (Option KeptEffect)
word_by ts = option_map_or dropped_by (after_word (codes "drop") ts) (nothing_by ts)

abbrev pub as_guard : Front KeptExpr → Front KeptGuard
as_guard found = found >>= λ e. guard_of e.0 >>= λ g. Some (g, e.1)

unfoldable pub effect_list_by : (List Lexeme → Front (Option KeptEffect)) → ℕ → List Lexeme → Front KeptEffects
effect_list_by effect zero ts = None
effect_list_by effect (suc k) ts = do
  x ← effect ts
  option_map_or (λ us. effect_list_by effect k us >>= λ r. Some (before x.0 r.0, r.1)) (after_comma x.1) (Some (before x.0 (Within []), x.1))

module _ (bs : Bounds) where
  abbrev pub some_guard_by : ℕ → List Lexeme → Front KeptGuard
  some_guard_by n ts = as_guard (formula_by bs n ts)

  unfoldable pub guard_by : ℕ → List Lexeme → Front KeptGuard
  guard_by n ts = option_map_or (some_guard_by n) (after_colon ts) (Some (Within None, ts))

  unfoldable pub change_by : ℕ → Bool × List Lexeme → Front (Option KeptEffect)
  change_by n a = literal_by bs (inside bs n) a.1 >>= λ l. Some (Some (effect_of a.0 l.0), l.1)

  unfoldable pub effect_by : ℕ → List Lexeme → Front (Option KeptEffect)
  effect_by n ts = option_map_or (change_by n) (first_of adds_of ts) (word_by ts)

  abbrev pub effects_by : ℕ → List Lexeme → Front KeptEffects
  effects_by n ts = effect_list_by (effect_by n) (length ts) ts

  -- ---- clauses

  abbrev pub act_of : KeptLiteral → Term → KeptGuard → Front KeptEffects → Option KeptStatement
  act_of l by g found = found >>= λ es. when_last es.1 (act_with bs l by g es.0)

  unfoldable pub with_effects_by : ℕ → KeptLiteral → Term → KeptGuard → List Lexeme → Option KeptStatement
  with_effects_by n l by g ts = after_right_arrow ts >>= λ us. act_of l by g (effects_by n us)

  unfoldable pub with_guard_by : ℕ → KeptLiteral → Term → List Lexeme → Option KeptStatement
  with_guard_by n l by ts = guard_by n ts >>= λ g. with_effects_by n l by g.0 g.1

  unfoldable pub act_by : ℕ → List Lexeme → Option KeptStatement
  act_by n ts = do
    l ← head_by bs n ts
    by ← doer_by l.1
    with_guard_by n l.0 by.0 by.1

  unfoldable pub fact_by : ℕ → List Lexeme → Option KeptStatement
  fact_by n ts = if list_any is_variable ts then None else (head_by bs n ts >>= λ l. when_last l.1 (fact_of bs l.0))

  abbrev pub act_or_fact : ℕ → List Lexeme → Option KeptStatement
  act_or_fact n ts = option_map_or (act_by n) (before_name (codes "act") ts) (fact_by n ts)

  abbrev pub use_or_other : ℕ → List Lexeme → Option KeptStatement
  use_or_other n ts = option_map_or (named_by use_of) (before_name (codes "use") ts) (act_or_fact n ts)

  abbrev pub bare_by : ℕ → List Lexeme → Option KeptStatement
  bare_by n ts = option_map_or (named_by hide_of) (before_name (codes "hide") ts) (use_or_other n ts)

  unfoldable pub statement_by : ℕ → List Lexeme → Option KeptStatement
  statement_by n ts = if has_annots ts then None else bare_by n ts
