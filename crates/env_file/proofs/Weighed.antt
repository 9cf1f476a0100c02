-- What is kept of a clause is what is made of what is kept of its parts.
use Rattle.std.proofs.Common.{◌≡◌, ℕ, Bool, true, false, ◌&&◌, inl, inr, List, [], ◌∷◌, Option, Some, None, if◌then◌else◌, refl, sym, ap, ◌∙◌}
use Rattle.std.specs.Option.{option_map}
use Rattle.std.specs.List.{list_all}
use Rattle.std.proofs.lemmas.Bool.{and_from, and_cases, and_left, and_right}
use Rattle.asl_term.specs.declared.syntax.LiteralOf.{LiteralOf}
use Rattle.asl_term.specs.declared.syntax.Term.{Term}
use Rattle.asl_term.specs.declared.syntax.Expr.{Expr}
use Rattle.asl_parser_tree.specs.declared.bounded.Bounded.TheVariants.{Within, Past}
use Rattle.asl_parser_tree.specs.Conjuncts.{has_parts}
use Rattle.asl_parser_tree.specs.Plain.{is_plain_literal, is_action}
use Rattle.asl_parser_tree.specs.Limits.{within_literal}
use Rattle.asl_parser_tree.specs.Holding.{Bounds, limited, unlimited, bounded, fits_term, fits_expr, has_small_parts, keep_if, literal_outline, hold_literal, hold_formula}
use Rattle.asl_parser_tree.proofs.Options.{some_is}
use Rattle.asl_parser_tree.proofs.Past.{falls, all_terms, never, literal_past}
use Rattle.env_file.specs.declared.statement.Effect.{Effect}
use Rattle.env_file.specs.declared.statement.Effect.TheVariants.{Added, Deleted, Dropped}
use Rattle.env_file.specs.declared.statement.Statement.{Statement}
use Rattle.env_file.specs.declared.statement.Statement.TheVariants as statement
use Rattle.env_file.specs.Statements.{before as true_before, changed}
use Rattle.env_file.specs.Limits.{within_guard, within_effect, is_within}
use Rattle.env_file.specs.Holding.{KeptGuard, guard_of, effect_of, before, fits_guard, hold_guard, is_small_effect, hold_effect, hold_effects, hold_statement, fact_of, act_with}

-- ---- limits

small_literal : (l : LiteralOf Term) → has_small_parts unlimited l ≡ true
small_literal l = and_from (list_all (fits_term unlimited) l.args) (list_all (fits_term unlimited) l.annots) (all_terms l.args) (all_terms l.annots)

effect_past : (f : Effect) → is_small_effect limited f ≡ false → within_effect f ≡ false
effect_past (Added l) e = literal_past limited l e
effect_past (Deleted l) e = literal_past limited l e
effect_past (Dropped name) e = absurd cc

effects_past : (es : List Effect) → list_all (is_small_effect limited) es ≡ false → list_all within_effect es ≡ false
effects_past [] e = absurd cc
effects_past (f ∷ es) e =
    elim (and_cases (is_small_effect limited f) (list_all (is_small_effect limited) es) e) [
      | inl h ↦ and_left (within_effect f) (list_all within_effect es) (effect_past f h)
      | inr h ↦ and_right (within_effect f) (list_all within_effect es) (effects_past es h)
    ]

small_effect : (f : Effect) → is_small_effect unlimited f ≡ true
small_effect (Added l) = small_literal l
small_effect (Deleted l) = small_literal l
small_effect (Dropped name) = refl

small_effects : (es : List Effect) → list_all (is_small_effect unlimited) es ≡ true
small_effects [] = refl
small_effects (f ∷ es) = and_from (is_small_effect unlimited f) (list_all (is_small_effect unlimited) es) (small_effect f) (small_effects es)

all_past : (bs : Bounds) (es : List Effect) → list_all (is_small_effect bs) es ≡ false → bounded bs (list_all within_effect es) ≡ false
all_past limited es e = effects_past es e
all_past unlimited es e = never (small_effects es) e

guard_past : (bs : Bounds) (g : Option Expr) → fits_guard bs g ≡ false → bounded bs (within_guard g) ≡ false
guard_past bs None e = absurd cc
guard_past bs (Some x) e = e

module _ (bs : Bounds) where
  -- ---- parts of clauses

  pub guard_made : (x : Expr) → guard_of (hold_formula bs x) ≡ (if has_parts x then Some (hold_guard bs (Some x)) else None)
  guard_made x = go (fits_expr bs x)
    where
      go : (b : Bool) → guard_of (keep_if b x (has_parts x)) ≡ (if has_parts x then Some (keep_if b (Some x) tt) else None)
      go true = refl
      go false = refl

  pub guard_there : (x : Expr) → has_parts x ≡ true → guard_of (hold_formula bs x) ≡ Some (hold_guard bs (Some x))
  guard_there x h = guard_made x ∙ ap (λ (b : Bool). if b then Some (hold_guard bs (Some x)) else None) h

  -- what is kept of a guard is kept of one with parts
  pub guard_only : (x : Expr) (g : KeptGuard) → guard_of (hold_formula bs x) ≡ Some g → (has_parts x ≡ true) × (hold_guard bs (Some x) ≡ g)
  guard_only x g e = go (has_parts x) (sym (guard_made x) ∙ e)
    where
      go : (b : Bool) → (if b then Some (hold_guard bs (Some x)) else None) ≡ Some g → (b ≡ true) × (hold_guard bs (Some x) ≡ g)
      go true f = (refl, some_is (hold_guard bs (Some x)) g f)
      go false f = absurd cc

  change_made : (add b : Bool) (l : LiteralOf Term) → effect_of add (keep_if b l (literal_outline (is_action l) (is_plain_literal l))) ≡ keep_if b (changed add l) tt
  change_made add true l = refl
  change_made add false l = refl

  pub effect_made : (add : Bool) (l : LiteralOf Term) → effect_of add (hold_literal bs l) ≡ hold_effect bs (changed add l)
  effect_made true l = change_made true (has_small_parts bs l) l
  effect_made false l = change_made false (has_small_parts bs l) l

  before_some : (f : Effect) (es : List Effect) (b c : Bool) → before (Some (keep_if b f tt)) (keep_if c es tt) ≡ keep_if (b && c) (f ∷ es) tt
  before_some f es true true = refl
  before_some f es true false = refl
  before_some f es false c = refl

  pub before_made : (o : Option Effect) (es : List Effect) → before (option_map (hold_effect bs) o) (hold_effects bs es) ≡ hold_effects bs (true_before o es)
  before_made None es = refl
  before_made (Some f) es = before_some f es (is_small_effect bs f) (list_all (is_small_effect bs) es)

  -- ---- clauses

  past_is : (s : Statement) → bounded bs (is_within s) ≡ false → Past tt ≡ hold_statement bs s
  past_is s e = ap (λ (b : Bool). keep_if b s tt) (sym e)

  pub fact_made : (l : LiteralOf Term) → fact_of bs (hold_literal bs l) ≡ hold_statement bs (statement.Fact l)
  fact_made l = go (has_small_parts bs l) refl
    where
      go : (b : Bool) → has_small_parts bs l ≡ b → fact_of bs (keep_if b l (literal_outline (is_action l) (is_plain_literal l))) ≡ hold_statement bs (statement.Fact l)
      go true e = refl
      go false e = past_is (statement.Fact l) (literal_past bs l e)

  bounded_true : (b : Bounds) → bounded b true ≡ true
  bounded_true limited = refl
  bounded_true unlimited = refl

  pub hide_small : (name : List ℕ) → hold_statement bs (statement.Hide name) ≡ Within (statement.Hide name)
  hide_small name = ap (λ (b : Bool). keep_if b (statement.Hide name) tt) (bounded_true bs)

  pub use_small : (name : List ℕ) → hold_statement bs (statement.Use name) ≡ Within (statement.Use name)
  use_small name = ap (λ (b : Bool). keep_if b (statement.Use name) tt) (bounded_true bs)

  abbrev act : LiteralOf Term → Term → Option Expr → List Effect → Statement
  act l by g es = statement.Act (record { head = l; by = by; guard = g; effects = es })

  pub act_made : (l : LiteralOf Term) (by : Term) (g : Option Expr) (es : List Effect) → act_with bs (hold_literal bs l) by (hold_guard bs g) (hold_effects bs es) ≡ hold_statement bs (act l by g es)
  act_made l by g es = go (has_small_parts bs l) refl (fits_guard bs g) refl (list_all (is_small_effect bs) es) refl
    where
      first : has_small_parts bs l ≡ false → Past tt ≡ hold_statement bs (act l by g es)
      first e = past_is (act l by g es) (falls bs (and_left (within_literal l) (within_guard g && list_all within_effect es)) (literal_past bs l e))

      second : fits_guard bs g ≡ false → Past tt ≡ hold_statement bs (act l by g es)
      second e = past_is (act l by g es) (falls bs (λ h. and_right (within_literal l) (within_guard g && list_all within_effect es) (and_left (within_guard g) (list_all within_effect es) h)) (guard_past bs g e))

      third : list_all (is_small_effect bs) es ≡ false → Past tt ≡ hold_statement bs (act l by g es)
      third e = past_is (act l by g es) (falls bs (λ h. and_right (within_literal l) (within_guard g && list_all within_effect es) (and_right (within_guard g) (list_all within_effect es) h)) (all_past bs es e))

      go : (b : Bool) → has_small_parts bs l ≡ b → (c : Bool) → fits_guard bs g ≡ c → (d : Bool) → list_all (is_small_effect bs) es ≡ d → act_with bs (keep_if b l (literal_outline (is_action l) (is_plain_literal l))) by (keep_if c g tt) (keep_if d es tt) ≡ hold_statement bs (act l by g es)
      go true e true f true k = refl
      go true e true f false k = third k
      go true e false f true k = second f
      go true e false f false k = second f
      go false e true f true k = first e
      go false e true f false k = first e
      go false e false f true k = first e
      go false e false f false k = first e
