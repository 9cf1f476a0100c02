-- A reading keeps the names of the unnamed variables of its tokens, in their order.
use Rattle.std.proofs.Common.{◌≡◌, ℕ, Bool, false, List, [], ◌∷◌, ◌++◌, Some, refl, ap, sym, ◌∙◌, append_assoc}
use Rattle.std.specs.List.{list_all}
use Rattle.std.proofs.lemmas.Grind.{flat_map-append}
use Rattle.std.proofs.lemmas.List.{append-nil}
use Rattle.asl_lexer.specs.Bare.{is_atom}
use Rattle.asl_lexer.proofs.Bytes.{both}
use Rattle.asl_term.specs.declared.syntax.LiteralOf.{LiteralOf}
use Rattle.asl_term.specs.declared.syntax.ListingOf.{ListingOf}
use Rattle.asl_term.specs.declared.syntax.Term.{Term}
use Rattle.asl_parser_tree.specs.declared.lexeme.Lexeme.{Lexeme}
use Rattle.asl_parser_tree.specs.declared.lexeme.Lexeme.TheVariants as lexeme
use Rattle.asl_parser_tree.specs.declared.meaning.Meaning.{Meaning}
use Rattle.asl_parser_tree.specs.declared.leaves.BracketShape.{BracketShape}
use Rattle.asl_parser_tree.specs.Leaves.{variable}
use Rattle.asl_parser_expr.specs.Grammar.{Rule, Reads, just_or, just_and, just_negation, just_relation, just_sum, just_product, just_signed, chained, related, negated, subtracted, a_number, a_negative, a_string, a_variable, a_truth, a_literal, a_list, in_brackets, a_call}
use Rattle.asl_parser_expr.specs.Grammar.{ReadsItems, last_item, next_item, ReadsParts, no_parts, round_parts, square_parts, ReadsAtom, an_atom, ReadsLiteral, is_held, is_denied, ReadsList, empty_list, some_list, ReadsTail, no_tail, variable_tail, list_tail}
use Rattle.asl_print.specs.Spelled.{is_functor}
use Rattle.asl_print_reread.specs.Shown.{literal_shown, term_shown}
use Rattle.asl_print_reread.proofs.Literals.{good_terms}
use Rattle.asl_print_reread.proofs.Rereads as rereads
use Rattle.asl_print_reread.proofs.Rereads.{fine, AllFine, fine_behind, good}
use Rattle.asl_print_reread.proofs.Names.{names_in, names}
use Rattle.asl_print_reread.proofs.NamesOf.{terms_names, tail_names, literal_names, list_names, number_names}
use Rattle.asl_print_reread.proofs.NamesRead.{meant_names, all_names, joins_name, relates_name, joined_names, compared_names, not_names, minus_names, string_names, variable_names, terms_all, call_names}

-- ---- lists of names

abbrev Lists : Type 0
Lists = List (List ℕ)

-- what is behind the first part and a token without a name
both_then : (xs l x y r z m : Lists) → xs ≡ l ++ (x ++ y) → x ≡ [] → y ≡ r ++ z → m ≡ l ++ r → xs ≡ m ++ z
both_then xs l x y r z m p q s t =
    p ∙ ap (λ w. l ++ (w ++ y)) q ∙ ap (λ w. l ++ w) s ∙ sym (append_assoc l r z) ∙ ap (λ w. w ++ z) (sym t)

then_same : (xs l m z : Lists) → xs ≡ l ++ z → m ≡ l → xs ≡ m ++ z
then_same xs l m z p q = p ∙ ap (λ w. w ++ z) (sym q)

one_after : (xs l y r z : Lists) → xs ≡ l ++ y → y ≡ r ++ z → xs ≡ (l ++ r) ++ z
one_after xs l y r z p q = p ∙ ap (λ w. l ++ w) q ∙ sym (append_assoc l r z)

mutual
  pub named : {n : ℕ} {rule : Rule} {xs ys : List Lexeme} {m : Meaning} → Reads n rule xs ys m → AllFine xs → names xs ≡ meant_names m ++ names ys
  named (just_or r) f = named r f
  named (just_and r) f = named r f
  named (just_negation r) f = named r f
  named (just_relation r) f = named r f
  named (just_sum r) f = named r f
  named (just_product r) f = named r f
  named (just_signed r) f = named r f
  named (chained {x = x} {o = o} {xs = xs} {ys = ys} {zs = zs} {l = l} {r = r} {m = m} j a b e) f =
      let g = good a f in
      let k = fine_behind x ys g.1 in
      both_then (names xs) (meant_names l) (names_in x) (names ys) (meant_names r) (names zs) (meant_names m) (named a f) (joins_name j) (named b k)
      (joined_names o l r m e g.0 (good b k).0)
  named (related {x = x} {o = o} {xs = xs} {ys = ys} {zs = zs} {l = l} {r = r} {m = m} j a b e) f =
      let g = good a f in
      let k = fine_behind x ys g.1 in
      both_then (names xs) (meant_names l) (names_in x) (names ys) (meant_names r) (names zs) (meant_names m) (named a f) (relates_name j) (named b k)
      (compared_names o l r m e g.0 (good b k).0)
  named (negated {xs = xs} {ys = ys} {r = r} {m = m} a e) f =
      then_same (names xs) (meant_names r) (meant_names m) (names ys) (named a f) (not_names r m e (good a f).0)
  named (subtracted {xs = xs} {ys = ys} {r = r} {m = m} s a e) f =
      then_same (names xs) (meant_names r) (meant_names m) (names ys) (named a f) (minus_names r m e (good a f).0)
  named (a_number {z = z} {xs = xs} e) f = then_same (names xs) [] _ (names xs) refl (number_names z)
  named (a_negative {z = z} {xs = xs} e) f = then_same (names xs) [] _ (names xs) refl (number_names z)
  named (a_string {s = s} {xs = xs}) f = then_same (names xs) [] _ (names xs) refl (string_names s)
  named (a_variable {name = name} {xs = xs}) f = then_same (names (lexeme.Var name ∷ xs)) (names_in (lexeme.Var name)) _ (names xs) refl (variable_names name)
  named a_truth f = refl
  named (a_literal {xs = xs} {ys = ys} {l = l} r) f =
      then_same (names xs) (terms_names l.args ++ terms_names l.annots) (names (literal_shown l)) (names ys) (literal_parts r f) (literal_names l)
  named (a_list {xs = xs} {ys = ys} {l = l} r) f = then_same (names xs) (terms_names l.items ++ tail_names l.tail) _ (names ys) (list r f) (list_names l)
  named (in_brackets r) f = named r f
  named (a_call {name = name} {xs = xs} {ys = ys} {ms = ms} {m = m} r e) f =
      let h = both (is_atom name) (list_all fine xs) f in
      then_same (names xs) (all_names ms) (meant_names m) (names ys) (parts r h.1) (call_names name m (rereads.parts r h.1).0 e)

  items : {n : ℕ} {rule : Rule} {xs ys : List Lexeme} {ms : List Meaning} → ReadsItems n rule xs ys ms → AllFine xs → names xs ≡ all_names ms ++ names ys
  items (last_item {xs = xs} {ys = ys} {m = m} r) f =
      then_same (names xs) (meant_names m) (all_names (m ∷ [])) (names ys) (named r f) (append-nil (meant_names m))
  items (next_item {xs = xs} {ys = ys} {zs = zs} {m = m} {ms = ms} r s) f =
      one_after (names xs) (meant_names m) (names ys) (all_names ms) (names zs) (named r f) (items s (good r f).1)

  parts : {n : ℕ} {rule : Rule} {s : BracketShape} {xs ys : List Lexeme} {ms : List Meaning} → ReadsParts n rule s xs ys ms → AllFine xs
      → names xs ≡ all_names ms ++ names ys
  parts no_parts f = refl
  parts (round_parts r) f = items r f
  parts (square_parts r) f = items r f

  atom : {n : ℕ} {neg : Bool} {xs ys : List Lexeme} {l : LiteralOf Term} → ReadsAtom n neg xs ys l → AllFine xs
      → names xs ≡ (terms_names l.args ++ terms_names l.annots) ++ names ys
  atom (an_atom {name = name} {xs = xs} {ys = ys} {zs = zs} {ms = ms} {ns = ns} {args = args} {annots = annots} r e s d) f =
      let h = both (is_functor false name) (list_all fine xs) f in
      let g = rereads.parts r h.1 in
      let k = rereads.parts s g.1 in
      one_after (names xs) (terms_names args) (names ys) (terms_names annots) (names zs)
      (then_same (names xs) (all_names ms) (terms_names args) (names ys) (parts r h.1) (terms_all (good_terms g.0 args e)))
      (then_same (names ys) (all_names ns) (terms_names annots) (names zs) (parts s g.1) (terms_all (good_terms k.0 annots d)))

  pub literal_parts : {n : ℕ} {xs ys : List Lexeme} {l : LiteralOf Term} → ReadsLiteral n xs ys l → AllFine xs
      → names xs ≡ (terms_names l.args ++ terms_names l.annots) ++ names ys
  literal_parts (is_held r) f = atom r f
  literal_parts (is_denied r) f = atom r f

  list : {n : ℕ} {xs ys : List Lexeme} {l : ListingOf Term} → ReadsList n xs ys l → AllFine xs
      → names xs ≡ (terms_names l.items ++ tail_names l.tail) ++ names ys
  list empty_list f = refl
  list (some_list {xs = xs} {ys = ys} {zs = zs} {ms = ms} {ts = ts} {l = l} r e s) f =
      let g = rereads.items r f in
      let first = then_same (names xs) (all_names ms) (terms_names ts) (names ys) (items r f) (terms_all (good_terms g.0 ts e)) in
      then_same (names xs) (terms_names ts ++ (terms_names l.items ++ tail_names l.tail)) _ (names zs)
      (one_after (names xs) (terms_names ts) (names ys) (terms_names l.items ++ tail_names l.tail) (names zs) first (tail s g.1))
      (ap (λ w. w ++ tail_names l.tail) (flat_map-append (λ t. names (term_shown t)) ts l.items)
      ∙ append_assoc (terms_names ts) (terms_names l.items) (tail_names l.tail))

  tail : {n : ℕ} {xs ys : List Lexeme} {l : ListingOf Term} → ReadsTail n xs ys l → AllFine xs
      → names xs ≡ (terms_names l.items ++ tail_names l.tail) ++ names ys
  tail no_tail f = refl
  tail (variable_tail {name = name} {xs = xs}) f =
      then_same (names (lexeme.Var name ∷ xs)) (names_in (lexeme.Var name)) (tail_names (Some (variable name))) (names xs) refl (variable_names name)
  tail (list_tail r) f = list r f

pub literal : {n : ℕ} {xs ys : List Lexeme} {l : LiteralOf Term} → ReadsLiteral n xs ys l → AllFine xs → names xs ≡ names (literal_shown l) ++ names ys
literal {xs = xs} {ys = ys} {l = l} r f =
    then_same (names xs) (terms_names l.args ++ terms_names l.annots) (names (literal_shown l)) (names ys) (literal_parts r f) (literal_names l)
