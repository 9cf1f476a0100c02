-- What clauses say, kept within the limits of trees while they are read.
use Rattle.std.specs.Prelude.{Bool, true, List, [], ◌∷◌, ◌++◌, Option, Some, None, if◌then◌else◌}
use Rattle.std.specs.List.{list_all}
use Rattle.asl_term.specs.declared.syntax.Term.{Term}
use Rattle.asl_term.specs.declared.syntax.Expr.{Expr}
use Rattle.asl_parser_tree.specs.declared.bounded.Bounded.{Bounded}
use Rattle.asl_parser_tree.specs.declared.bounded.Bounded.TheVariants.{Within, Past}
use Rattle.asl_parser_tree.specs.Conjuncts.{has_parts}
use Rattle.asl_parser_tree.specs.Holding.{Bounds, bounded, fits_expr, has_small_parts, keep_if, KeptLiteral, KeptExpr}
use Rattle.env_file.specs.declared.statement.Effect.{Effect}
use Rattle.env_file.specs.declared.statement.Effect.TheVariants.{Added, Deleted, Dropped}
use Rattle.env_file.specs.declared.statement.Statement.{Statement}
use Rattle.env_file.specs.declared.statement.Statement.TheVariants as statement
use Rattle.env_file.specs.Limits.{is_within}
use Rattle.env_file.specs.Statements.{changed}

abbrev pub KeptGuard : Type 0
KeptGuard = Bounded (Option Expr) (Unit {0})

abbrev pub KeptEffect : Type 0
KeptEffect = Bounded Effect (Unit {0})

abbrev pub KeptEffects : Type 0
KeptEffects = Bounded (List Effect) (Unit {0})

abbrev pub KeptStatement : Type 0
KeptStatement = Bounded Statement (Unit {0})

-- ---- what is made of parts

-- a guard has parts
abbrev pub guard_of : KeptExpr → Option KeptGuard
guard_of (Within e) = if has_parts e then Some (Within (Some e)) else None
guard_of (Past parts) = if parts then Some (Past tt) else None

abbrev pub effect_of : Bool → KeptLiteral → KeptEffect
effect_of add (Within l) = Within (changed add l)
effect_of add (Past o) = Past tt

-- an effect before others, unless it is `true`
abbrev pub before : Option KeptEffect → KeptEffects → KeptEffects
before None es = es
before (Some (Within e)) (Within es) = Within (e ∷ es)
before (Some e) es = Past tt

-- one more effect
abbrev pub put_effect : KeptEffects → Option KeptEffect → KeptEffects
put_effect es None = es
put_effect (Within es) (Some (Within e)) = Within (es ++ e ∷ [])
put_effect es (Some e) = Past tt

module _ (bs : Bounds) where
  -- ---- keeping

  abbrev pub fits_guard : Option Expr → Bool
  fits_guard None = true
  fits_guard (Some e) = fits_expr bs e

  abbrev pub hold_guard : Option Expr → KeptGuard
  hold_guard g = keep_if (fits_guard g) g tt

  -- an effect while each part of its literal is within the limits
  abbrev pub is_small_effect : Effect → Bool
  is_small_effect (Added l) = has_small_parts bs l
  is_small_effect (Deleted l) = has_small_parts bs l
  is_small_effect (Dropped name) = true

  abbrev pub hold_effect : Effect → KeptEffect
  hold_effect e = keep_if (is_small_effect e) e tt

  abbrev pub hold_effects : List Effect → KeptEffects
  hold_effects es = keep_if (list_all is_small_effect es) es tt

  abbrev pub hold_statement : Statement → KeptStatement
  hold_statement s = keep_if (bounded bs (is_within s)) s tt

  -- ---- clauses

  abbrev pub fact_of : KeptLiteral → KeptStatement
  fact_of (Within l) = hold_statement (statement.Fact l)
  fact_of (Past o) = Past tt

  abbrev pub act_with : KeptLiteral → Term → KeptGuard → KeptEffects → KeptStatement
  act_with (Within l) by (Within g) (Within es) = hold_statement (statement.Act (record { head = l; by = by; guard = g; effects = es }))
  act_with l by g es = Past tt
