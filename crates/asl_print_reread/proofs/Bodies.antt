-- The body of a plan reads as itself.
use Rattle.std.proofs.Common.{◌≡◌, ◌≤◌, ℕ, ◌+◌, Bool, true, false, cond, List, [], ◌∷◌, ◌++◌, Option, Some, None, refl, sym, subst, append_assoc, arith}
use Rattle.std.specs.List.{list_all, flat_map}
use Rattle.std.proofs.lemmas.Bool.{and_from}
use Rattle.asl_lexer.specs.declared.token.Sign.TheVariants as sign
use Rattle.asl_lexer.specs.Bare as bares
use Rattle.asl_lexer.specs.Bare.{Bare}
use Rattle.asl_term.specs.declared.syntax.Formula.{Formula}
use Rattle.asl_term.specs.declared.syntax.Formula.TheVariants as formula
use Rattle.asl_parser_tree.specs.declared.lexeme.Lexeme.{Lexeme}
use Rattle.asl_parser_tree.specs.declared.meaning.Meaning.{Meaning}
use Rattle.asl_parser_tree.specs.declared.meaning.Meaning.TheVariants as meaning
use Rattle.asl_parser_tree.specs.Plain.{is_action}
use Rattle.asl_parser_tree.proofs.Options.{some_is}
use Rattle.asl_parser.specs.Sentences.{item_of, before, ReadsItem, with_sign, without_sign, ReadsItemList, only_item, more_items, ReadsBody, no_body, a_body}
use Rattle.asl_print.specs.Tokens.{formula_tokens, body_tokens}
use Rattle.asl_print.specs.Spelled.{is_spelled_formula}
use Rattle.asl_print_reread.specs.Shown.{mark, formula_shown, body_shown}
use Rattle.asl_print_reread.proofs.Turns.{Turns, turn_none, turn_next, turns_then, turn_mark}
use Rattle.asl_print_reread.proofs.Meant.{Good}
use Rattle.asl_print_reread.proofs.Literals.{made_literal}
use Rattle.asl_print_reread.proofs.Rereads.{AllFine, fine_behind, good, literal}
use Rattle.asl_print_reread.proofs.Formulas.{GoodFormula, good_done, good_act, good_relation, good_inner}

-- ---- items of a body, of which `true` is left out

pub GoodItem : Option Formula → Type 0
GoodItem None = Unit {0}
GoodItem (Some f) = GoodFormula f

good_unsigned : (m : Meaning) (o : Option Formula) → Good m → item_of m ≡ Some o → GoodItem o
unfolding GoodItem
good_unsigned (meaning.Truth true l) o g e = subst GoodItem (some_is None o e) tt
good_unsigned (meaning.Truth false l) o g e = absurd cc
good_unsigned (meaning.Literal l) o g e = go (is_action l) refl e
  where
    go : (b : Bool) → is_action l ≡ b → cond b (Some (Some (formula.Act l))) None ≡ Some o → GoodItem o
    go true a f = subst GoodItem (some_is (Some (formula.Act l)) o f) (good_act l g a)
    go false a f = absurd cc
good_unsigned (meaning.Term t) o g e = absurd cc
good_unsigned (meaning.Relation r) o g e = subst GoodItem (some_is (Some (formula.Rel r)) o e) (good_relation r g)
good_unsigned (meaning.Call c) o g e = subst GoodItem (some_is (Some (formula.Inner c)) o e) (good_inner c g)
good_unsigned (meaning.Formula f) o g e = absurd cc

pub good_item : {n : ℕ} {xs ys : List Lexeme} {o : Option Formula} → ReadsItem n xs ys o → AllFine xs → GoodItem o × AllFine ys
unfolding GoodItem
good_item (with_sign {x = x} {d = d} {xs = xs} {l = l} h r e) f =
    let g = literal r (fine_behind x xs f) in (subst GoodFormula e (good_done d l (made_literal l g.0)), g.1)
good_item (without_sign {m = m} {o = o} h r e) f = let g = good r f in (good_unsigned m o g.0 e, g.1)

pub data GoodBody : List Formula → Type 0 where
  body_none : GoodBody []
  body_next : {f : Formula} {fs : List Formula} → GoodFormula f → GoodBody fs → GoodBody (f ∷ fs)

before_good : (o : Option Formula) {fs : List Formula} → GoodItem o → GoodBody fs → GoodBody (before o fs)
unfolding GoodItem
before_good None g h = h
before_good (Some f) g h = body_next g h

pub good_items : {n : ℕ} {xs ys : List Lexeme} {fs : List Formula} → ReadsItemList n xs ys fs → AllFine xs → GoodBody fs × AllFine ys
good_items (only_item {o = o} r e) f = let g = good_item r f in (subst GoodBody e (before_good o g.0 body_none), g.1)
good_items (more_items {ys = ys} {o = o} r s e) f =
    let g = good_item r f in
    let h = good_items s (fine_behind (mark sign.Semicolon) ys g.1) in
    (subst GoodBody e (before_good o g.0 h.0), h.1)

pub good_body : {n : ℕ} {xs ys : List Lexeme} {fs : List Formula} → ReadsBody n xs ys fs → AllFine xs → GoodBody fs × AllFine ys
good_body no_body f = (body_none, f)
good_body (a_body r) f = good_items r f

-- ---- whole bodies

abbrev items_shown : Formula → List Formula → List Lexeme
items_shown f fs = formula_shown f ++ flat_map (λ g. mark sign.Semicolon ∷ formula_shown g) fs

record ItemsBack (f : Formula) (fs : List Formula) : Type 0 where
  need : ℕ
  reads : (n : ℕ) (rest : List Lexeme) → need ≤ n → ReadsItemList n (items_shown f fs ++ rest) rest (f ∷ fs)
  turns : Turns (formula_tokens f ++ flat_map (λ g. bares.mark sign.Semicolon ∷ formula_tokens g) fs) (items_shown f fs)
  spelled : list_all is_spelled_formula (f ∷ fs) ≡ true

items_back : {f : Formula} {fs : List Formula} → GoodFormula f → GoodBody fs → ItemsBack f fs
items_back {f} g body_none = record {
  need = g.need;
  reads = λ n rest le. subst (λ (zs : List Lexeme). ReadsItemList n zs rest (f ∷ [])) (sym (append_assoc (formula_shown f) [] rest))
      (only_item (g.reads n rest le) refl);
  turns = turns_then g.turns turn_none;
  spelled = and_from (is_spelled_formula f) true g.spelled refl;
}
items_back {f} g (body_next {f = k} {fs = ks} h hs) =
    let more = items_back h hs in
    record {
      need = g.need + more.need;
      reads = λ n rest le. subst (λ (zs : List Lexeme). ReadsItemList n zs rest (f ∷ k ∷ ks))
          (sym (append_assoc (formula_shown f) (mark sign.Semicolon ∷ items_shown k ks) rest))
          (more_items (g.reads n (mark sign.Semicolon ∷ (items_shown k ks ++ rest)) (omega arith)) (more.reads n rest (omega arith)) refl);
      turns = turns_then g.turns (turn_next (turn_mark sign.Semicolon) more.turns);
      spelled = and_from (is_spelled_formula f) (list_all is_spelled_formula (k ∷ ks)) g.spelled more.spelled;
    }

pub record BodyBack (fs : List Formula) : Type 0 where
  pub need : ℕ
  pub reads : (n : ℕ) (rest : List Lexeme) → need ≤ n → ReadsBody n (body_shown fs ++ rest) rest fs
  pub turns : Turns (body_tokens fs) (body_shown fs)
  pub spelled : list_all is_spelled_formula fs ≡ true

pub body_back : {fs : List Formula} → GoodBody fs → BodyBack fs
body_back body_none = record { need = 0; reads = λ n rest le. no_body; turns = turn_none; spelled = refl }
body_back (body_next g gs) =
    let i = items_back g gs in
    record { need = i.need; reads = λ n rest le. a_body (i.reads n rest le); turns = turn_next (turn_mark sign.LeftArrow) i.turns; spelled = i.spelled }
