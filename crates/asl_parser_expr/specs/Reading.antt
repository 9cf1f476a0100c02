-- What the reader of expressions does, on lists. That it is the grammar is shown in `proofs/`.
use Rattle.std.specs.Prelude.{ℕ, zero, suc, Bool, true, false, List, [], ◌∷◌, length, Some, None, if◌then◌else◌}
use Rattle.std.specs.Option.{option_map_or}
use Rattle.asl_term.specs.declared.syntax.RelOp.{RelOp}
use Rattle.asl_parser_tree.specs.declared.lexeme.Lexeme.{Lexeme}
use Rattle.asl_parser_tree.specs.declared.meaning.Joint.{Joint}
use Rattle.asl_parser_tree.specs.declared.meaning.Prefix.{Prefix}
use Rattle.asl_parser_tree.specs.declared.meaning.Prefix.TheVariants as prefix
use Rattle.asl_parser_tree.specs.declared.leaves.OperatorLevel.{OperatorLevel}
use Rattle.asl_parser_tree.specs.declared.leaves.OperatorLevel.TheVariants as levels
use Rattle.asl_parser_tree.specs.declared.leaves.Start.{Start}
use Rattle.asl_parser_tree.specs.declared.leaves.Start.TheVariants as start
use Rattle.asl_parser_tree.specs.declared.leaves.BracketShape.{BracketShape}
use Rattle.asl_parser_tree.specs.declared.leaves.BracketShape.TheVariants as shape
use Rattle.asl_parser_tree.specs.declared.bounded.Bounded.TheVariants.{Within}
use Rattle.asl_parser_tree.specs.Meanings.{◌>>=◌}
use Rattle.asl_parser_tree.specs.Holding.{Bounds, Kept, KeptTerms, KeptListing, KeptLiteral, joined, compared, prefixed, as_terms, listed, literal_of}
use Rattle.asl_parser_tree.specs.Holding.{literal_held, listing_held, called}
use Rattle.asl_parser_tree.specs.declared.making.Operands.{Operands}
use Rattle.asl_parser_tree.specs.Operands.{made}
use Rattle.asl_parser_tree.specs.Leaves.{Front, Read, after_bar, after_close, after_comma, after_open, after_tilde}
use Rattle.asl_parser_tree.specs.Leaves.{inner_at, is_prefix, joint_at, name_at, relation_at, start_of, token_by, variable, variable_at}
use Rattle.asl_parser_expr.specs.Grammar.{listing}

-- ---- items, and what is in brackets

-- expressions with commas between them
unfoldable pub items_by : (List Lexeme → Read) → ℕ → List Lexeme → Front (List Kept)
items_by item zero ts = None
items_by item (suc n) ts = do
  x ← item ts
  option_map_or (λ us. items_by item n us >>= λ r. Some (x.0 ∷ r.0, r.1)) (after_comma x.1) (Some (x.0 ∷ [], x.1))

-- what reads behind an opening bracket: expressions of a level, and a list
pub record Inside : Type 0 where
  pub expression : OperatorLevel → List Lexeme → Read
  pub body : List Lexeme → Front KeptListing

unfoldable pub bracketed_by : Inside → List Lexeme → Read
bracketed_by inner ts = do
  us ← after_open shape.Round ts
  x ← inner.expression levels.Or us
  vs ← after_close shape.Round x.1
  Some (x.0, vs)

unfoldable pub filled_by : Inside → OperatorLevel → BracketShape → List Lexeme → Front (List Kept)
filled_by inner level s us = do
  x ← items_by (inner.expression level) (length us) us
  vs ← after_close s x.1
  Some (x.0, vs)

-- what stands in brackets, or nothing
unfoldable pub parts_by : Inside → OperatorLevel → BracketShape → List Lexeme → Front (List Kept)
parts_by inner level s ts = option_map_or (filled_by inner level s) (after_open s ts) (Some ([], ts))

unfoldable pub list_by : Inside → List Lexeme → Front KeptListing
list_by inner ts = after_open shape.Square ts >>= inner.body

abbrev pub no_items : KeptListing
no_items = Within (listing [] None)

abbrev pub open_tail : List ℕ → KeptListing
open_tail name = Within (listing [] (Some (variable name)))

unfoldable pub tail_after : Inside → List Lexeme → Front KeptListing
tail_after inner us = option_map_or (λ v. Some (open_tail v.0, v.1)) (variable_at us) (list_by inner us)

unfoldable pub tail_by : Inside → List Lexeme → Front KeptListing
tail_by inner ts = option_map_or (tail_after inner) (after_bar ts) (Some (no_items, ts))

-- ---- the levels, with or without the limits of trees

module _ (b : Bounds) where
  -- what is made of what was read, before what follows it
  abbrev pub whole : Operands → List Lexeme → Read
  whole parts rest = made b parts >>= λ m. Some (m, rest)

  -- the left operand, joined to the right one where there is one
  abbrev pub join_to : Kept → Joint → Read → Read
  join_to left o right = right >>= λ r. joined b o left r.0 >>= λ m. Some (m, r.1)

  abbrev pub relate_to : Kept → RelOp → Read → Read
  relate_to left o right = right >>= λ r. compared b o left r.0 >>= λ m. Some (m, r.1)

  -- one more operator and its right operand, joined to the left one
  unfoldable pub step_by : (List Lexeme → Read) → Kept → Joint × List Lexeme → Read
  step_by item left o = join_to left o.0 (item o.1)

  unfoldable pub more_by : (List Lexeme → Read) → OperatorLevel → ℕ → Kept → List Lexeme → Read
  more_by item level zero left ts = Some (left, ts)
  more_by item level (suc n) left ts = option_map_or (λ o. step_by item left o >>= λ s. more_by item level n s.0 s.1) (joint_at level ts) (Some (left, ts))

  unfoldable pub chain_by : (List Lexeme → Read) → OperatorLevel → List Lexeme → Read
  chain_by item level ts = do
    l ← item ts
    more_by item level (length l.1) l.0 l.1

  abbrev pub wrap : Prefix → Kept × List Lexeme → Read
  wrap p x = prefixed b p x.0 >>= λ m. Some (m, x.1)

  -- this many prefixes are still to come before what was read
  abbrev pub wrapped : Prefix → ℕ → Read → Read
  wrapped p zero r = r
  wrapped p (suc n) r = wrapped p n (r >>= wrap p)

  unfoldable pub prefix_by : Prefix → (List Lexeme → Read) → List Lexeme → Read
  prefix_by p item [] = item []
  prefix_by p item (t ∷ ts) = if is_prefix p t ts then prefix_by p item ts >>= wrap p else item (t ∷ ts)

  unfoldable pub terms_by : Inside → BracketShape → List Lexeme → Front KeptTerms
  terms_by inner s ts = do
    x ← parts_by inner levels.Sum s ts
    terms ← as_terms b x.0
    Some (terms, x.1)

  unfoldable pub atom_by : Inside → Bool → List Lexeme → Front KeptLiteral
  atom_by inner neg ts = do
    name ← name_at ts
    args ← terms_by inner shape.Round name.1
    annots ← terms_by inner shape.Square args.1
    Some (literal_of neg name.0 args.0 annots.0, annots.1)

  unfoldable pub literal_by : Inside → List Lexeme → Front KeptLiteral
  literal_by inner ts = option_map_or (atom_by inner true) (after_tilde ts) (atom_by inner false ts)

  unfoldable pub call_by : Inside → List Lexeme → Read
  call_by inner ts = do
    name ← inner_at ts
    x ← parts_by inner levels.Or shape.Round name.1
    m ← called b name.0 x.0
    Some (m, x.1)

  abbrev pub as_literal : KeptLiteral × List Lexeme → Read
  as_literal x = Some (literal_held b x.0, x.1)

  abbrev pub as_list : KeptListing × List Lexeme → Read
  as_list x = Some (listing_held b x.0, x.1)

  abbrev pub primary_from : Start → Inside → List Lexeme → Read
  primary_from start.Bracket inner ts = bracketed_by inner ts
  primary_from start.Square inner ts = list_by inner ts >>= as_list
  primary_from start.Name inner ts = literal_by inner ts >>= as_literal
  primary_from start.Dotted inner ts = call_by inner ts
  primary_from start.Other inner ts = token_by ts

  unfoldable pub primary_by : Inside → List Lexeme → Read
  primary_by inner ts = primary_from (start_of ts) inner ts

  abbrev pub signed_by : Inside → List Lexeme → Read
  signed_by inner = prefix_by prefix.Minus (primary_by inner)

  abbrev pub product_by : Inside → List Lexeme → Read
  product_by inner = chain_by (signed_by inner) levels.Product

  abbrev pub sum_by : Inside → List Lexeme → Read
  sum_by inner = chain_by (product_by inner) levels.Sum

  unfoldable pub compared_by : (List Lexeme → Read) → Kept → RelOp × List Lexeme → Read
  compared_by item left o = relate_to left o.0 (item o.1)

  unfoldable pub relation_by : Inside → List Lexeme → Read
  relation_by inner ts = do
    l ← sum_by inner ts
    option_map_or (compared_by (sum_by inner) l.0) (relation_at l.1) (Some l)

  abbrev pub negation_by : Inside → List Lexeme → Read
  negation_by inner = prefix_by prefix.Not (relation_by inner)

  abbrev pub and_by : Inside → List Lexeme → Read
  and_by inner = chain_by (negation_by inner) levels.And

  abbrev pub or_by : Inside → List Lexeme → Read
  or_by inner = chain_by (and_by inner) levels.Or

  -- what reads behind a prefix
  abbrev pub base_by : Inside → Prefix → List Lexeme → Read
  base_by inner prefix.Not = relation_by inner
  base_by inner prefix.Minus = primary_by inner

  -- what reads the operands of a level
  abbrev pub operand_by : Inside → OperatorLevel → List Lexeme → Read
  operand_by inner levels.Or = and_by inner
  operand_by inner levels.And = negation_by inner
  operand_by inner levels.Sum = product_by inner
  operand_by inner levels.Product = signed_by inner

  abbrev pub level_by : Inside → OperatorLevel → List Lexeme → Read
  level_by inner level = chain_by (operand_by inner level) level

  unfoldable pub some_by : Inside → List Lexeme → Front KeptListing
  some_by inner ts = do
    x ← items_by (sum_by inner) (length ts) ts
    items ← as_terms b x.0
    y ← tail_by inner x.1
    vs ← after_close shape.Square y.1
    Some (listed items y.0, vs)

  -- what stands behind the bracket of a list
  unfoldable pub body_by : Inside → List Lexeme → Front KeptListing
  body_by inner ts = option_map_or (λ us. Some (no_items, us)) (after_close shape.Square ts) (some_by inner ts)

  -- what stands in brackets, within this many more open ones
  unfoldable pub inside : ℕ → Inside
  inside zero = record { expression = λ level ts. None; body = λ ts. None }
  inside (suc n) = record { expression = level_by (inside n); body = body_by (inside n) }
