-- What expressions mean, kept within the limits of trees while they are read.
use Rattle.std.specs.Prelude.{ℕ, suc, Bool, true, false, ◌&&◌, ◌||◌, List, [], ◌∷◌, ◌++◌, length, Option, Some, None, if◌then◌else◌}
use Rattle.std.specs.List.{list_all}
use Rattle.std.specs.Option.{option_map}
use Rattle.asl_term.specs.declared.syntax.RelOp.{RelOp}
use Rattle.asl_term.specs.declared.syntax.LiteralOf.{LiteralOf}
use Rattle.asl_term.specs.declared.syntax.ListingOf.{ListingOf}
use Rattle.asl_term.specs.declared.syntax.ArgOf.{ArgOf}
use Rattle.asl_term.specs.declared.syntax.ArgOf.TheVariants.{Plain, Logic}
use Rattle.asl_term.specs.declared.syntax.Term.{Term}
use Rattle.asl_term.specs.declared.syntax.Term.TheVariants as term
use Rattle.asl_term.specs.declared.syntax.Expr.{Expr}
use Rattle.asl_term.specs.declared.syntax.Expr.TheVariants as expr
use Rattle.asl_parser_tree.specs.declared.meaning.Meaning.{Meaning}
use Rattle.asl_parser_tree.specs.declared.meaning.Meaning.TheVariants as meaning
use Rattle.asl_parser_tree.specs.declared.meaning.Joint.{Joint}
use Rattle.asl_parser_tree.specs.declared.meaning.Joint.TheVariants as joint
use Rattle.asl_parser_tree.specs.declared.meaning.Prefix.{Prefix}
use Rattle.asl_parser_tree.specs.declared.meaning.Prefix.TheVariants as prefix
use Rattle.asl_parser_tree.specs.declared.bounded.Bounded.{Bounded}
use Rattle.asl_parser_tree.specs.declared.bounded.Bounded.TheVariants.{Within, Past}
use Rattle.asl_parser_tree.specs.declared.bounded.Outline.{Outline}
use Rattle.asl_parser_tree.specs.Meanings.{◌>>=◌, is_pure, is_deed, wants_formula}
use Rattle.asl_parser_tree.specs.Meanings as meanings
use Rattle.asl_parser_tree.specs.Limits.{within_term, within_literal, within_expr}
use Rattle.asl_parser_tree.specs.Conjuncts.{is_literal, has_parts}
use Rattle.asl_parser_tree.specs.Plain.{is_plain, are_plain, is_plain_literal, is_plain_listing, is_none, is_action}

-- a meaning, as it is kept
abbrev pub Kept : Type 0
Kept = Bounded Meaning Outline

-- a term, or whether it holds no arithmetic
abbrev pub KeptTerm : Type 0
KeptTerm = Bounded Term Bool

abbrev pub KeptTerms : Type 0
KeptTerms = Bounded (List Term) Bool

abbrev pub KeptListing : Type 0
KeptListing = Bounded (ListingOf Term) Bool

abbrev pub KeptLiteral : Type 0
KeptLiteral = Bounded (LiteralOf Term) Outline

-- a formula, or whether it has simple parts
abbrev pub KeptExpr : Type 0
KeptExpr = Bounded Expr Bool

abbrev pub KeptArg : Type 0
KeptArg = Bounded (ArgOf Expr) (Unit {0})

abbrev pub KeptArgs : Type 0
KeptArgs = Bounded (List (ArgOf Expr)) (Unit {0})

-- whether the limits are put: a law about readings of any size needs the reading without them
pub data Bounds : Type 0 where
  limited : Bounds
  unlimited : Bounds

abbrev pub bounded : Bounds → Bool → Bool
bounded limited b = b
bounded unlimited b = true

-- ---- what is still asked of a tree that is past the limits

abbrev pub term_outline : Bool → Outline
term_outline plain = record { term = true; formula = false; item = false; plain = plain; literal = false; parts = false }

abbrev pub formula_outline : Bool → Bool → Outline
formula_outline literal parts = record { term = false; formula = true; item = false; plain = false; literal = literal; parts = parts }

abbrev pub relation_outline : Outline
relation_outline = record { term = false; formula = true; item = true; plain = false; literal = false; parts = true }

abbrev pub call_outline : Bool → Outline
call_outline pure = record { term = false; formula = pure; item = true; plain = false; literal = false; parts = false }

abbrev pub truth_outline : Bool → Outline
truth_outline action = record { term = true; formula = true; item = action; plain = true; literal = false; parts = false }

abbrev pub literal_outline : Bool → Bool → Outline
literal_outline action plain = record { term = true; formula = true; item = action; plain = plain; literal = true; parts = true }

abbrev pub outline : Meaning → Outline
outline (meaning.Truth v l) = truth_outline v
outline (meaning.Literal l) = literal_outline (is_action l) (is_plain_literal l)
outline (meaning.Term t) = term_outline (is_plain t)
outline (meaning.Relation r) = relation_outline
outline (meaning.Call c) = call_outline (is_pure c.name (length c.args))
outline (meaning.Formula e) = formula_outline (is_literal e) (has_parts e)

abbrev pub keep_if : {A L : Type 0} → Bool → A → L → Bounded A L
keep_if b x o = if b then Within x else Past o

-- ---- terms and formulas

abbrev pub small_formula : Meaning → Option KeptExpr
small_formula m = option_map Within (meanings.as_formula m)

abbrev pub as_formula : Kept → Option KeptExpr
as_formula (Within m) = small_formula m
as_formula (Past o) = if o.formula then Some (Past o.parts) else None

-- ---- operations

abbrev pub outline_of : Kept → Outline
outline_of (Within m) = outline m
outline_of (Past o) = o

abbrev pub past_if : Bool → Outline → Option Kept
past_if b o = if b then Some (Past o) else None

abbrev pub large_joint : Joint → Outline → Outline → Option Kept
large_joint joint.Or l r = past_if (l.formula && r.formula) (formula_outline false false)
large_joint joint.And l r = past_if (l.formula && r.formula) (formula_outline false (l.parts && r.parts))
large_joint (joint.Arith op) l r = past_if (l.term && r.term) (term_outline false)

abbrev pub large_prefix : Prefix → Outline → Option Kept
large_prefix prefix.Not o = past_if o.formula (formula_outline false o.literal)
large_prefix prefix.Minus o = past_if o.term (term_outline false)

-- ---- terms, lists and literals

-- whether what is kept holds no arithmetic
abbrev pub term_plain : KeptTerm → Bool
term_plain (Within t) = is_plain t
term_plain (Past plain) = plain

abbrev pub terms_plain : KeptTerms → Bool
terms_plain (Within ts) = are_plain ts
terms_plain (Past plain) = plain

abbrev pub listing_plain : KeptListing → Bool
listing_plain (Within l) = is_plain_listing l
listing_plain (Past plain) = plain

abbrev pub literal_plain : KeptLiteral → Bool
literal_plain (Within l) = is_plain_literal l
literal_plain (Past o) = o.plain

-- one more term
abbrev pub put_term : KeptTerms → KeptTerm → KeptTerms
put_term (Within ts) (Within t) = Within (ts ++ t ∷ [])
put_term ts t = Past (terms_plain ts && term_plain t)

abbrev pub listed : KeptTerms → KeptListing → KeptListing
listed (Within items) (Within l) = Within (record { items = items ++ l.items; tail = l.tail })
listed items l = Past (terms_plain items && listing_plain l)

abbrev pub terms_none : KeptTerms → Bool
terms_none (Within ts) = is_none ts
terms_none (Past plain) = false

abbrev pub literal_of : Bool → List ℕ → KeptTerms → KeptTerms → KeptLiteral
literal_of neg name (Within args) (Within annots) = Within (record { neg = neg; functor = name; args = args; annots = annots })
literal_of neg name args annots = Past (literal_outline (if neg then false else terms_none annots) (terms_plain args && terms_plain annots))

-- ---- calls of internal actions

abbrev pub term_arg : KeptTerm → KeptArg
term_arg (Within t) = Within (Plain t)
term_arg (Past plain) = Past tt

abbrev pub formula_arg : KeptExpr → KeptArg
formula_arg (Within e) = Within (Logic e)
formula_arg (Past parts) = Past tt

abbrev pub put_arg : KeptArgs → KeptArg → KeptArgs
put_arg (Within args) (Within a) = Within (args ++ a ∷ [])
put_arg args a = Past tt

module _ (b : Bounds) where
  -- ---- keeping

  abbrev pub fits_term : Term → Bool
  fits_term t = bounded b (within_term t)

  abbrev pub fits_literal : LiteralOf Term → Bool
  fits_literal l = bounded b (within_literal l)

  abbrev pub fits_expr : Expr → Bool
  fits_expr e = bounded b (within_expr e)

  abbrev pub is_small : Meaning → Bool
  is_small (meaning.Truth v l) = true
  is_small (meaning.Literal l) = fits_literal l
  is_small (meaning.Term t) = fits_term t
  is_small (meaning.Relation r) = fits_expr (expr.Rel r)
  is_small (meaning.Call c) = fits_expr (expr.Inner c)
  is_small (meaning.Formula e) = fits_expr e

  abbrev pub hold : Meaning → Kept
  hold m = keep_if (is_small m) m (outline m)

  abbrev pub hold_if : Option Meaning → Option Kept
  hold_if o = option_map hold o

  abbrev pub hold_term : Term → KeptTerm
  hold_term t = keep_if (fits_term t) t (is_plain t)

  abbrev pub hold_formula : Expr → KeptExpr
  hold_formula e = keep_if (fits_expr e) e (has_parts e)

  -- lists, literals and lists of arguments are kept while each of their parts is within the limits
  abbrev pub hold_terms : List Term → KeptTerms
  hold_terms ts = keep_if (list_all fits_term ts) ts (are_plain ts)

  abbrev pub hold_listing : ListingOf Term → KeptListing
  hold_listing l = keep_if (list_all fits_term l.items) l (is_plain_listing l)

  abbrev pub has_small_parts : LiteralOf Term → Bool
  has_small_parts l = list_all fits_term l.args && list_all fits_term l.annots

  abbrev pub hold_literal : LiteralOf Term → KeptLiteral
  hold_literal l = keep_if (has_small_parts l) l (literal_outline (is_action l) (is_plain_literal l))

  abbrev pub is_small_arg : ArgOf Expr → Bool
  is_small_arg (Plain t) = fits_term t
  is_small_arg (Logic e) = fits_expr e

  abbrev pub hold_arg : ArgOf Expr → KeptArg
  hold_arg a = keep_if (is_small_arg a) a tt

  abbrev pub hold_args : List (ArgOf Expr) → KeptArgs
  hold_args args = keep_if (list_all is_small_arg args) args tt

  abbrev pub small_term : Meaning → Option KeptTerm
  small_term (meaning.Truth v l) = Some (hold_term (term.Lit l))
  small_term (meaning.Literal l) = Some (Within (term.Lit l))
  small_term (meaning.Term t) = Some (Within t)
  small_term (meaning.Relation r) = None
  small_term (meaning.Call c) = None
  small_term (meaning.Formula e) = None

  abbrev pub as_term : Kept → Option KeptTerm
  as_term (Within m) = small_term m
  as_term (Past o) = if o.term then Some (Past o.plain) else None

  -- two operands and what stands between them
  unfoldable pub joined : Joint → Kept → Kept → Option Kept
  joined o (Within l) (Within r) = hold_if (meanings.joined o l r)
  joined o l r = large_joint o (outline_of l) (outline_of r)

  -- two terms and a relation between them
  unfoldable pub compared : RelOp → Kept → Kept → Option Kept
  compared op (Within l) (Within r) = hold_if (meanings.compared op l r)
  compared op l r = past_if ((outline_of l).term && (outline_of r).term) relation_outline

  unfoldable pub prefixed : Prefix → Kept → Option Kept
  prefixed p (Within m) = hold_if (meanings.prefixed p m)
  prefixed p (Past o) = large_prefix p o

  -- each as a term, behind those that are there
  unfoldable pub terms_behind : KeptTerms → List Kept → Option KeptTerms
  terms_behind front [] = Some front
  terms_behind front (h ∷ hs) = as_term h >>= λ t. terms_behind (put_term front t) hs

  abbrev pub as_terms : List Kept → Option KeptTerms
  as_terms = terms_behind (Within [])

  -- as expressions
  abbrev pub literal_held : KeptLiteral → Kept
  literal_held (Within l) = hold (meaning.Literal l)
  literal_held (Past o) = Past o

  abbrev pub listing_held : KeptListing → Kept
  listing_held (Within l) = hold (meaning.Term (term.List l))
  listing_held (Past plain) = Past (term_outline plain)

  abbrev pub as_arg : Bool → Kept → Option KeptArg
  as_arg true h = option_map formula_arg (as_formula h)
  as_arg false h = option_map term_arg (as_term h)

  -- the arguments from a place on, behind those that are there
  unfoldable pub args_behind : List ℕ → ℕ → KeptArgs → List Kept → Option KeptArgs
  args_behind name place front [] = Some front
  args_behind name place front (h ∷ hs) = as_arg (wants_formula name place) h >>= λ a. args_behind name (suc place) (put_arg front a) hs

  abbrev pub as_args : List ℕ → List Kept → Option KeptArgs
  as_args name = args_behind name 0 (Within [])

  abbrev pub call_of : List ℕ → ℕ → KeptArgs → Kept
  call_of name count (Within args) = hold (meaning.Call (record { name = name; args = args }))
  call_of name count (Past u) = Past (call_outline (is_pure name count))

  -- a call of an internal action that is known with so many arguments
  unfoldable pub called : List ℕ → List Kept → Option Kept
  called name hs = if is_pure name (length hs) || is_deed name (length hs) then (as_args name hs >>= λ args. Some (call_of name (length hs) args)) else None
