-- A reading takes at least one token.
use Rattle.std.proofs.Common.{ℕ, ◌<◌, ◌≤◌, Bool, List, length, arith}
use Rattle.asl_term.specs.declared.syntax.LiteralOf.{LiteralOf}
use Rattle.asl_term.specs.declared.syntax.ListingOf.{ListingOf}
use Rattle.asl_term.specs.declared.syntax.Term.{Term}
use Rattle.asl_parser_tree.specs.declared.lexeme.Lexeme.{Lexeme}
use Rattle.asl_parser_tree.specs.declared.meaning.Meaning.{Meaning}
use Rattle.asl_parser_tree.specs.declared.leaves.BracketShape.{BracketShape}
use Rattle.asl_parser_expr.specs.Grammar.{Rule, Reads, just_or, just_and, just_negation, just_relation, just_sum, just_product, just_signed, chained, related, negated, subtracted, a_number, a_negative, a_string, a_variable, a_truth, a_literal, a_list, in_brackets, a_call, ReadsItems, last_item, next_item, ReadsParts, no_parts, round_parts, square_parts, ReadsAtom, an_atom, ReadsLiteral, is_held, is_denied, ReadsList, empty_list, some_list, ReadsTail, no_tail, variable_tail, list_tail}

mutual
  pub shorter : {n : ℕ} {rule : Rule} {xs ys : List Lexeme} {m : Meaning} → Reads n rule xs ys m → length ys < length xs
  shorter (just_or r) = shorter r
  shorter (just_and r) = shorter r
  shorter (just_negation r) = shorter r
  shorter (just_relation r) = shorter r
  shorter (just_sum r) = shorter r
  shorter (just_product r) = shorter r
  shorter (just_signed r) = shorter r
  shorter (chained j r s e) = omega (arith, shorter r, shorter s)
  shorter (related j r s e) = omega (arith, shorter r, shorter s)
  shorter (negated r e) = omega (arith, shorter r)
  shorter (subtracted f r e) = omega (arith, shorter r)
  shorter (a_number e) = omega arith
  shorter (a_negative e) = omega arith
  shorter a_string = omega arith
  shorter a_variable = omega arith
  shorter a_truth = omega arith
  shorter (a_literal r) = shorter_literal r
  shorter (a_list r) = shorter_list r
  shorter (in_brackets r) = omega (arith, shorter r)
  shorter (a_call r e) = omega (arith, shorter_parts r)

  pub shorter_items : {n : ℕ} {rule : Rule} {xs ys : List Lexeme} {ms : List Meaning} → ReadsItems n rule xs ys ms → length ys < length xs
  shorter_items (last_item r) = shorter r
  shorter_items (next_item r s) = omega (arith, shorter r, shorter_items s)

  shorter_parts : {n : ℕ} {rule : Rule} {s : BracketShape} {xs ys : List Lexeme} {ms : List Meaning} → ReadsParts n rule s xs ys ms → length ys ≤ length xs
  shorter_parts no_parts = omega arith
  shorter_parts (round_parts r) = omega (arith, shorter_items r)
  shorter_parts (square_parts r) = omega (arith, shorter_items r)

  shorter_atom : {n : ℕ} {neg : Bool} {xs ys : List Lexeme} {l : LiteralOf Term} → ReadsAtom n neg xs ys l → length ys < length xs
  shorter_atom (an_atom r e s f) = omega (arith, shorter_parts r, shorter_parts s)

  pub shorter_literal : {n : ℕ} {xs ys : List Lexeme} {l : LiteralOf Term} → ReadsLiteral n xs ys l → length ys < length xs
  shorter_literal (is_held r) = shorter_atom r
  shorter_literal (is_denied r) = omega (arith, shorter_atom r)

  shorter_list : {n : ℕ} {xs ys : List Lexeme} {l : ListingOf Term} → ReadsList n xs ys l → length ys < length xs
  shorter_list empty_list = omega arith
  shorter_list (some_list r e s) = omega (arith, shorter_items r, shorter_tail s)

  shorter_tail : {n : ℕ} {xs ys : List Lexeme} {l : ListingOf Term} → ReadsTail n xs ys l → length ys ≤ length xs
  shorter_tail no_tail = omega arith
  shorter_tail variable_tail = omega arith
  shorter_tail (list_tail r) = omega (arith, shorter_list r)
