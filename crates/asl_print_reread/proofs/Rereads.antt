-- What was read of tokens whose texts are of their kinds reads as itself when it is printed.
use Rattle.std.proofs.Common.{◌≡◌, ℕ, Bool, true, false, List, ◌∷◌, ◌++◌, Option, Some}
use Rattle.std.specs.List.{list_all}
use Rattle.asl_lexer.specs.Bare.{is_atom, is_written_byte}
use Rattle.asl_lexer.proofs.Bytes.{both}
use Rattle.asl_term.specs.declared.syntax.LiteralOf.{LiteralOf}
use Rattle.asl_term.specs.declared.syntax.ListingOf.{ListingOf}
use Rattle.asl_term.specs.declared.syntax.Term.{Term}
use Rattle.asl_parser_tree.specs.declared.lexeme.Lexeme.{Lexeme}
use Rattle.asl_parser_tree.specs.declared.lexeme.Lexeme.TheVariants as lexeme
use Rattle.asl_parser_tree.specs.declared.meaning.Meaning.{Meaning}
use Rattle.asl_parser_tree.specs.declared.leaves.BracketShape.{BracketShape}
use Rattle.asl_parser_tree.specs.Meanings.{as_terms}
use Rattle.asl_parser_expr.specs.Grammar.{Rule, Reads, just_or, just_and, just_negation, just_relation, just_sum, just_product, just_signed, chained, related, negated, subtracted, a_number, a_negative, a_string, a_variable, a_truth, a_literal, a_list, in_brackets, a_call}
use Rattle.asl_parser_expr.specs.Grammar.{ReadsItems, last_item, next_item, ReadsParts, no_parts, round_parts, square_parts, ReadsAtom, an_atom, ReadsLiteral, is_held, is_denied, ReadsList, empty_list, some_list, ReadsTail, no_tail, variable_tail, list_tail}
use Rattle.asl_print.specs.Spelled.{is_functor, is_written_var}
use Rattle.asl_print_reread.proofs.Meant.{Good}
use Rattle.asl_print_reread.proofs.Leaves.{var_of, good_positive, good_negative, good_string, good_variable, good_truth}
use Rattle.asl_print_reread.proofs.Joined.{good_joined, good_compared, good_not, good_minus}
use Rattle.asl_print_reread.proofs.Literals.{AllGood, good_none, good_next, good_terms, LiteralParts, made_literal, good_literal}
use Rattle.asl_print_reread.proofs.Calls.{good_call}
use Rattle.asl_print_reread.proofs.Listings.{GoodListing, Starts, listing_then, starts_then, empty_listing, empty_starts, tail_listing, good_listing}

-- a token whose text is of its kind
abbrev pub fine : Lexeme → Bool
fine (lexeme.Str s) = list_all is_written_byte s
fine (lexeme.Var name) = is_written_var (var_of name)
fine (lexeme.Inner name) = is_atom name
fine (lexeme.Atom name) = is_functor false name
fine _ = true

abbrev pub AllFine : List Lexeme → Type 0
AllFine xs = list_all fine xs ≡ true

pub fine_behind : (x : Lexeme) (xs : List Lexeme) → AllFine (x ∷ xs) → AllFine xs
fine_behind x xs f = (both (fine x) (list_all fine xs) f).1

starts_some : {n : ℕ} {rule : Rule} {xs ys : List Lexeme} {ms : List Meaning} (ts us : List Term) (tail : Option Term) → ReadsItems n rule xs ys ms
    → AllGood ms → as_terms ms ≡ Some ts → Starts (ts ++ us) tail
starts_some ts us tail (last_item r) gs e = starts_then us tail (good_terms gs ts e)
starts_some ts us tail (next_item r s) gs e = starts_then us tail (good_terms gs ts e)

mutual
  pub good : {n : ℕ} {rule : Rule} {xs ys : List Lexeme} {m : Meaning} → Reads n rule xs ys m → AllFine xs → Good m × AllFine ys
  good (just_or r) f = good r f
  good (just_and r) f = good r f
  good (just_negation r) f = good r f
  good (just_relation r) f = good r f
  good (just_sum r) f = good r f
  good (just_product r) f = good r f
  good (just_signed r) f = good r f
  good (chained {x = x} {ys = ys} {l = l} {r = r} {m = m} j a b e) f =
      let g = good a f in let h = good b (fine_behind x ys g.1) in (good_joined l r m j e g.0 h.0, h.1)
  good (related {x = x} {o = o} {ys = ys} {l = l} {r = r} {m = m} j a b e) f =
      let g = good a f in let h = good b (fine_behind x ys g.1) in (good_compared o l r m e g.0 h.0, h.1)
  good (negated {r = r} {m = m} a e) f = let g = good a f in (good_not r m e g.0, g.1)
  good (subtracted {r = r} {m = m} s a e) f = let g = good a f in (good_minus r m e g.0, g.1)
  good (a_number {k = k} {z = z} e) f = (good_positive k z e, f)
  good (a_negative {k = k} {z = z} e) f = (good_negative k z e, f)
  good (a_string {s = s} {xs = xs}) f = let h = both (list_all is_written_byte s) (list_all fine xs) f in (good_string s h.0, h.1)
  good (a_variable {name = name} {xs = xs}) f = let h = both (is_written_var (var_of name)) (list_all fine xs) f in (good_variable name h.0, h.1)
  good (a_truth {b = b}) f = (good_truth b, f)
  good (a_literal {l = l} r) f = let g = literal r f in (good_literal l (made_literal l g.0), g.1)
  good (a_list {l = l} r) f = let g = list r f in (good_listing l g.0 g.1, g.2)
  good (in_brackets r) f = good r f
  good (a_call {name = name} {xs = xs} {m = m} r e) f =
      let h = both (is_atom name) (list_all fine xs) f in let g = parts r h.1 in (good_call name m h.0 g.0 e, g.1)

  pub items : {n : ℕ} {rule : Rule} {xs ys : List Lexeme} {ms : List Meaning} → ReadsItems n rule xs ys ms → AllFine xs → AllGood ms × AllFine ys
  items (last_item r) f = let g = good r f in (good_next g.0 good_none, g.1)
  items (next_item r s) f = let g = good r f in let h = items s g.1 in (good_next g.0 h.0, h.1)

  pub parts : {n : ℕ} {rule : Rule} {s : BracketShape} {xs ys : List Lexeme} {ms : List Meaning} → ReadsParts n rule s xs ys ms → AllFine xs → AllGood ms × AllFine ys
  parts no_parts f = (good_none, f)
  parts (round_parts r) f = items r f
  parts (square_parts r) f = items r f

  pub atom : {n : ℕ} {neg : Bool} {xs ys : List Lexeme} {l : LiteralOf Term} → ReadsAtom n neg xs ys l → AllFine xs → LiteralParts l × AllFine ys
  atom (an_atom {neg = neg} {name = name} {xs = xs} {args = args} {annots = annots} r e s d) f =
      let h = both (is_functor false name) (list_all fine xs) f in
      let g = parts r h.1 in
      let k = parts s g.1 in
      (record { name = h.0; args_mean = _; args = good_terms g.0 args e; annots_mean = _; annots = good_terms k.0 annots d }, k.1)

  pub literal : {n : ℕ} {xs ys : List Lexeme} {l : LiteralOf Term} → ReadsLiteral n xs ys l → AllFine xs → LiteralParts l × AllFine ys
  literal (is_held r) f = atom r f
  literal (is_denied r) f = atom r f

  pub list : {n : ℕ} {xs ys : List Lexeme} {l : ListingOf Term} → ReadsList n xs ys l → AllFine xs → GoodListing l × Starts l.items l.tail × AllFine ys
  list empty_list f = (empty_listing, empty_starts, f)
  list (some_list {ts = ts} {l = l} r e s) f =
      let g = items r f in
      let h = tail s g.1 in
      (listing_then (good_terms g.0 ts e) h.0, starts_some ts l.items l.tail r g.0 e, h.1)

  pub tail : {n : ℕ} {xs ys : List Lexeme} {l : ListingOf Term} → ReadsTail n xs ys l → AllFine xs → GoodListing l × AllFine ys
  tail no_tail f = (empty_listing, f)
  tail (variable_tail {name = name} {xs = xs}) f = let h = both (is_written_var (var_of name)) (list_all fine xs) f in (tail_listing name h.0, h.1)
  tail (list_tail r) f = let g = list r f in (g.0, g.2)
