-- Literals read as themselves.
use Rattle.std.proofs.Common.{◌≡◌, ◌≤◌, ℕ, ◌+◌, Bool, true, false, List, [], ◌∷◌, ◌++◌, map, Option, Some, None, refl, ap, sym, ◌∙◌, subst, append_assoc, arith}
use Rattle.std.proofs.lemmas.Bool.{and_from}
use Rattle.asl_lexer.specs.declared.token.Sign.TheVariants as sign
use Rattle.asl_lexer.specs.Bare as bares
use Rattle.asl_lexer.specs.Bare.{Bare}
use Rattle.asl_term.specs.declared.syntax.LiteralOf.{LiteralOf}
use Rattle.asl_term.specs.declared.syntax.Term.{Term}
use Rattle.asl_term.specs.declared.syntax.Term.TheVariants as term
use Rattle.asl_term.specs.Trees.{all}
use Rattle.asl_term.proofs.Terms.{fold_lit}
use Rattle.asl_parser_tree.specs.declared.lexeme.Lexeme.{Lexeme}
use Rattle.asl_parser_tree.specs.declared.lexeme.Lexeme.TheVariants as lexeme
use Rattle.asl_parser_tree.specs.declared.meaning.Meaning.{Meaning}
use Rattle.asl_parser_tree.specs.declared.meaning.Meaning.TheVariants as meaning
use Rattle.asl_parser_tree.specs.declared.leaves.BracketShape.TheVariants as shape
use Rattle.asl_parser_tree.specs.Meanings.{◌>>=◌, as_term, as_terms}
use Rattle.asl_parser_expr.specs.Grammar.{sum, ReadsParts, ReadsAtom, an_atom, ReadsLiteral, is_held, is_denied, a_literal}
use Rattle.asl_parser_tree.proofs.Options.{some_is}
use Rattle.asl_print.specs.Tokens as tokens
use Rattle.asl_print.specs.Tokens.{term_tokens, literal_tokens, between_tokens, sign_tokens}
use Rattle.asl_print.specs.Spelled.{is_functor, is_spelled, spelled_step, is_spelled_literal}
use Rattle.asl_print_reread.specs.Shown.{mark, word, between_shown, sign_shown, term_step, term_shown, literal_shown}
use Rattle.asl_print_reread.proofs.Turns.{Turns, turn_next, turn_mark, turn_word, turns_then}
use Rattle.asl_print_reread.proofs.Back.{back_lifted}
use Rattle.asl_print_reread.proofs.Listed.{Each, each_none, each_next, round, square}
use Rattle.asl_print_reread.proofs.Meant.{is_a_functor, word_is, Good, GoodTerm, good_term}

-- ---- terms in a row

pub data AllGood : List Meaning → Type 0 where
  good_none : AllGood []
  good_next : {m : Meaning} {ms : List Meaning} → Good m → AllGood ms → AllGood (m ∷ ms)

pub data GoodTerms : List Meaning → List Term → Type 0 where
  terms_none : GoodTerms [] []
  terms_next : {m : Meaning} {t : Term} {ms : List Meaning} {ts : List Term} → GoodTerm m t → GoodTerms ms ts → GoodTerms (m ∷ ms) (t ∷ ts)

pub good_terms : {ms : List Meaning} → AllGood ms → (ts : List Term) → as_terms ms ≡ Some ts → GoodTerms ms ts
good_terms good_none ts e = subst (GoodTerms []) (some_is [] ts e) terms_none
good_terms (good_next {m = m} {ms = ms} g gs) ts e = go (as_term m) (as_terms ms) refl refl e (good_terms gs)
  where
    go : (p : Option Term) (q : Option (List Term)) → as_term m ≡ p → as_terms ms ≡ q → (p >>= λ t. q >>= λ us. Some (t ∷ us)) ≡ Some ts
        → ((us : List Term) → as_terms ms ≡ Some us → GoodTerms ms us) → GoodTerms (m ∷ ms) ts
    go None q d k f more = absurd cc
    go (Some t) None d k f more = absurd cc
    go (Some t) (Some us) d k f more = subst (GoodTerms (m ∷ ms)) (some_is (t ∷ us) ts f) (terms_next (good_term m t g d) (more us k))

pub terms_are : {ms : List Meaning} {ts : List Term} → GoodTerms ms ts → as_terms ms ≡ Some ts
terms_are terms_none = refl
terms_are (terms_next {t = t} {ms = ms} g gs) =
    ap (λ (p : Option Term). p >>= λ u. as_terms ms >>= λ us. Some (u ∷ us)) g.is
    ∙ ap (λ (q : Option (List Term)). q >>= λ us. Some (t ∷ us)) (terms_are gs)

pub each_term : {ms : List Meaning} {ts : List Term} → GoodTerms ms ts → Each sum (map term_tokens ts) (map term_shown ts) ms
each_term terms_none = each_none
each_term (terms_next g gs) = each_next (back_lifted sum g.back) (each_term gs)

pub terms_spelled : {ms : List Meaning} {ts : List Term} → GoodTerms ms ts → all (map is_spelled ts) ≡ true
terms_spelled terms_none = refl
terms_spelled (terms_next {t = t} {ts = ts} g gs) = and_from (is_spelled t) (all (map is_spelled ts)) g.spelled (terms_spelled gs)

-- ---- literals

pub record GoodLiteral (l : LiteralOf Term) : Type 0 where
  pub need : ℕ
  pub reads : (n : ℕ) (rest : List Lexeme) → need ≤ n → ReadsLiteral n (literal_shown l ++ rest) rest l
  pub turns : Turns (literal_tokens l) (literal_shown l)
  pub spelled : is_spelled_literal l ≡ true

abbrev literal : Bool → List ℕ → List Term → List Term → LiteralOf Term
literal neg name args annots = record { neg = neg; functor = name; args = args; annots = annots }

abbrev pub round_of : List Term → List Lexeme
round_of ts = between_shown sign.Open sign.Close (map term_shown ts)

abbrev pub square_of : List Term → List Lexeme
square_of ts = between_shown sign.OpenSquare sign.CloseSquare (map term_shown ts)

-- the lexemes of a literal, with its functor as an atom
pub shown_literal : (l : LiteralOf Term) → is_functor false l.functor ≡ true
    → literal_shown l ≡ sign_shown l.neg ++ lexeme.Atom l.functor ∷ (round_of l.args ++ square_of l.annots)
shown_literal l f =
    fold_lit (List Lexeme) term_step l
    ∙ ap (λ x. sign_shown l.neg ++ x ∷ (round_of l.args ++ square_of l.annots)) (word_is l.functor f)

signed_reads : (n : ℕ) (neg : Bool) (name : List ℕ) (args annots : List Term) (xs rest : List Lexeme)
    → ReadsAtom n neg (lexeme.Atom name ∷ xs) rest (literal neg name args annots)
    → ReadsLiteral n (sign_shown neg ++ lexeme.Atom name ∷ xs) rest (literal neg name args annots)
signed_reads n true name args annots xs rest r = is_denied r
signed_reads n false name args annots xs rest r = is_held r

behind_sign : (neg : Bool) (name : List ℕ) (ls ms rest : List Lexeme)
    → (sign_shown neg ++ lexeme.Atom name ∷ (ls ++ ms)) ++ rest ≡ sign_shown neg ++ lexeme.Atom name ∷ (ls ++ (ms ++ rest))
behind_sign true name ls ms rest = ap (λ zs. mark sign.Tilde ∷ lexeme.Atom name ∷ zs) (append_assoc ls ms rest)
behind_sign false name ls ms rest = ap (λ zs. lexeme.Atom name ∷ zs) (append_assoc ls ms rest)

sign_turns : {xs : List Bare} {ls : List Lexeme} (neg : Bool) → Turns xs ls → Turns (sign_tokens neg ++ xs) (sign_shown neg ++ ls)
sign_turns true t = turn_next (turn_mark sign.Tilde) t
sign_turns false t = t

literal_turns : {xs ys : List Bare} {ls ms : List Lexeme} (neg : Bool) (name : List ℕ) → Turns xs ls → Turns ys ms
    → Turns (sign_tokens neg ++ bares.atom name ∷ (xs ++ ys)) (sign_shown neg ++ word name ∷ (ls ++ ms))
literal_turns neg name f g = sign_turns neg (turn_next (turn_word name) (turns_then f g))

pub same_turns : {xs ys : List Bare} {ls ms : List Lexeme} → xs ≡ ys → ls ≡ ms → Turns ys ms → Turns xs ls
same_turns {xs} {ys} {ls} {ms} e f t =
    subst (λ (zs : List Bare). Turns zs ls) (sym e) (subst (λ (ks : List Lexeme). Turns ys ks) (sym f) t)

literal_spelled : (l : LiteralOf Term) → is_functor false l.functor ≡ true → all (map is_spelled l.args) ≡ true → all (map is_spelled l.annots) ≡ true
    → is_spelled_literal l ≡ true
literal_spelled l f s t =
    and_from (is_functor false l.functor) (is_spelled (term.Lit l)) f
    (fold_lit Bool spelled_step l
    ∙ and_from _ _ (is_a_functor _ l.functor f) (and_from (all (map is_spelled l.args)) (all (map is_spelled l.annots)) s t))

literal_reads : (l : LiteralOf Term) {ms ns : List Meaning} → is_functor false l.functor ≡ true → GoodTerms ms l.args → GoodTerms ns l.annots
    → (n : ℕ) (rest : List Lexeme) → ReadsParts n sum shape.Round (round_of l.args ++ (square_of l.annots ++ rest)) (square_of l.annots ++ rest) ms
    → ReadsParts n sum shape.Square (square_of l.annots ++ rest) rest ns → ReadsLiteral n (literal_shown l ++ rest) rest l
literal_reads l f gs hs n rest r s =
    subst (λ (zs : List Lexeme). ReadsLiteral n zs rest l)
    (sym (ap (λ zs. zs ++ rest) (shown_literal l f) ∙ behind_sign l.neg l.functor (round_of l.args) (square_of l.annots) rest))
    (signed_reads n l.neg l.functor l.args l.annots _ rest (an_atom r (terms_are gs) s (terms_are hs)))

-- a literal of good parts
pub record LiteralParts (l : LiteralOf Term) : Type 0 where
  pub name : is_functor false l.functor ≡ true
  pub args_mean : List Meaning
  pub args : GoodTerms args_mean l.args
  pub annots_mean : List Meaning
  pub annots : GoodTerms annots_mean l.annots

pub made_literal : (l : LiteralOf Term) → LiteralParts l → GoodLiteral l
made_literal l p =
    let r = round (each_term p.args) in
    let s = square (each_term p.annots) in
    record {
      need = r.need + s.need;
      reads = λ n rest le. literal_reads l p.name p.args p.annots n rest (r.reads n (square_of l.annots ++ rest) (omega arith)) (s.reads n rest (omega arith));
      turns = same_turns (fold_lit (List Bare) tokens.term_step l) (fold_lit (List Lexeme) term_step l) (literal_turns l.neg l.functor r.turns s.turns);
      spelled = literal_spelled l p.name (terms_spelled p.args) (terms_spelled p.annots);
    }

pub good_literal : (l : LiteralOf Term) → GoodLiteral l → Good (meaning.Literal l)
good_literal l g = record {
  back = record { need = g.need; reads = λ n rest le. a_literal (g.reads n rest le); turns = g.turns };
  spelled = g.spelled;
  a_word = tt;
}
