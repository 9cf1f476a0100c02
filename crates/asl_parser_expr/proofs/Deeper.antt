-- What stands in brackets, one bracket deeper.
use Rattle.std.proofs.Common.{◌≡◌, ℕ, zero, suc, List, length, Some, None, refl, ap, ◌∙◌}
use Rattle.asl_parser_tree.specs.declared.lexeme.Lexeme.{Lexeme}
use Rattle.asl_parser_tree.specs.Holding.{Bounds, Kept}
use Rattle.asl_parser_tree.specs.declared.leaves.OperatorLevel.{OperatorLevel}
use Rattle.asl_parser_tree.specs.declared.leaves.OperatorLevel.TheVariants as levels
use Rattle.asl_parser_tree.specs.declared.leaves.BracketShape.{BracketShape}
use Rattle.asl_parser_tree.specs.declared.leaves.BracketShape.TheVariants as shape
use Rattle.asl_parser_tree.specs.Meanings.{◌>>=◌}
use Rattle.asl_parser_tree.specs.Leaves.{Front, after_open, after_close}
use Rattle.asl_parser_expr.specs.Reading.{items_by, bracketed_by, filled_by, level_by, inside}

module _ (bs : Bounds) where
  bracketed_suc : (k : ℕ) (ts us vs ws : List Lexeme) (m : Kept) → after_open shape.Round ts ≡ Some us → level_by bs (inside bs k) levels.Or us ≡ Some (m, vs) → after_close shape.Round vs ≡ Some ws → bracketed_by (inside bs (suc k)) ts ≡ Some (m, ws)
  unfolding bracketed_by inside
  bracketed_suc k ts us vs ws m o r c = rw (o, r, c) refl

  pub bracketed_is : (depth k : ℕ) (ts us vs ws : List Lexeme) (m : Kept) → depth ≡ suc k → after_open shape.Round ts ≡ Some us → level_by bs (inside bs k) levels.Or us ≡ Some (m, vs) → after_close shape.Round vs ≡ Some ws → bracketed_by (inside bs depth) ts ≡ Some (m, ws)
  bracketed_is depth k ts us vs ws m e o r c = ap (λ (n : ℕ). bracketed_by (inside bs n) ts) e ∙ bracketed_suc k ts us vs ws m o r c

  none_items : (j : ℕ) (xs : List Lexeme) → items_by (λ ts. None) j xs ≡ None
  unfolding items_by
  none_items zero xs = refl
  none_items (suc j) xs = refl

  filled_none : (level : OperatorLevel) (s : BracketShape) (ts : List Lexeme) → filled_by (inside bs zero) level s ts ≡ None
  unfolding filled_by inside
  filled_none level s ts = ap (λ (p : Front (List Kept)). p >>= λ x. after_close s x.1 >>= λ vs. Some (x.0, vs)) (none_items (length ts) ts)

  pub filled_zero : (depth : ℕ) (level : OperatorLevel) (s : BracketShape) (ts : List Lexeme) → depth ≡ 0 → filled_by (inside bs depth) level s ts ≡ None
  filled_zero depth level s ts e = ap (λ (n : ℕ). filled_by (inside bs n) level s ts) e ∙ filled_none level s ts

  filled_suc : (k : ℕ) (level : OperatorLevel) (s : BracketShape) (ts us vs : List Lexeme) (ms : List Kept) → items_by (level_by bs (inside bs k) level) (length ts) ts ≡ Some (ms, us) → after_close s us ≡ Some vs → filled_by (inside bs (suc k)) level s ts ≡ Some (ms, vs)
  unfolding filled_by inside
  filled_suc k level s ts us vs ms r c = rw (r, c) refl

  pub filled_is : (depth k : ℕ) (level : OperatorLevel) (s : BracketShape) (ts us vs : List Lexeme) (ms : List Kept) → depth ≡ suc k → items_by (level_by bs (inside bs k) level) (length ts) ts ≡ Some (ms, us) → after_close s us ≡ Some vs → filled_by (inside bs depth) level s ts ≡ Some (ms, vs)
  filled_is depth k level s ts us vs ms e r c = ap (λ (n : ℕ). filled_by (inside bs n) level s ts) e ∙ filled_suc k level s ts us vs ms r c
