-- The tokens of bytes have texts of their kinds, also as the grammar sees them.
use Rattle.std.proofs.Common.{◌≡◌, ℕ, ◌+◌, Bool, true, false, cond, List, [], ◌∷◌, ◌++◌, Option, Some, None, refl, ap}
use Rattle.std.specs.Prelude.{All, ◌&&◌, ◌||◌, not, codes}
use Rattle.std.specs.List.{list_all}
use Rattle.std.specs.Option.{option_map_or}
use Rattle.std.specs.Fmt.{decimal}
use Rattle.std.specs.Str.{bytes_eq}
use Rattle.std.proofs.lemmas.Bool.{and_from}
use Rattle.std.proofs.lemmas.List.Elements.{All-head, All-tail}
use Rattle.asl_term.specs.Texts.{is_unnamed}
use Rattle.asl_lexer.specs.declared.token.Tok.{Tok}
use Rattle.asl_lexer.specs.declared.token.TokKind.{TokKind}
use Rattle.asl_lexer.specs.declared.token.TokKind.TheVariants as kind
use Rattle.asl_lexer.specs.declared.token.Word.{Word}
use Rattle.asl_lexer.specs.declared.token.Word.TheVariants as words
use Rattle.asl_lexer.specs.declared.token.Sign as signs
use Rattle.asl_lexer.specs.Spelling.{sign_of}
use Rattle.asl_lexer.specs.Scan.{value}
use Rattle.asl_lexer.specs.Words.{atom_word, word_of, word, onto, pieces}
use Rattle.asl_lexer.specs.Bare.{is_atom, is_var, is_spelled_token, IsSpelledToken}
use Rattle.asl_lexer.proofs.Bytes.{both}
use Rattle.asl_parser_tree.specs.declared.lexeme.Lexeme.TheVariants as lexeme
use Rattle.asl_parser_tree.specs.Lexemes.{unnamed, name_of, lexeme_of, counts, lexemes_from}
use Rattle.asl_print.specs.Spelled.{is_functor_word, is_written_var}
use Rattle.asl_print_reread.proofs.Words.{by_words}
use Rattle.asl_print_reread.proofs.Leaves.{var_of}
use Rattle.asl_print_reread.proofs.Rereads.{fine, AllFine}

abbrev pub spelled_tok : Tok → Bool
spelled_tok t = is_spelled_token t.kind t.text

pub all_spelled : (ts : List Tok) → All IsSpelledToken ts → list_all spelled_tok ts ≡ true
all_spelled [] a = refl
all_spelled (t ∷ ts) a =
    and_from (spelled_tok t) (list_all spelled_tok ts) (All-head IsSpelledToken t ts a) (all_spelled ts (All-tail IsSpelledToken t ts a))

-- ---- one token

fine_atom : (k : ℕ) (text : List ℕ) → is_atom text ≡ true → fine (lexeme_of k (atom_word text) text) ≡ true
unfolding lexeme_of
fine_atom k text w = by_words (λ (v : Word). fine (lexeme_of k v text) ≡ true) text (record {
  at_not = refl;
  at_div = refl;
  at_mod = refl;
  at_true = refl;
  at_false = refl;
  at_atom = λ e. and_from (is_atom text) (is_functor_word false (atom_word text)) w (ap (is_functor_word false) e);
})

-- the name of an unnamed variable is unnamed
numbered_var : (k : ℕ) → is_written_var (var_of (codes "_ " ++ decimal k)) ≡ true
numbered_var k = refl

named_var : (name : List ℕ) → bytes_eq name (codes "_") ≡ false → is_var name ≡ true → is_written_var (var_of name) ≡ true
named_var name e w = go (is_unnamed name)
  where
    go : (u : Bool) → (u || (is_var name && not (bytes_eq name (codes "_")))) ≡ true
    go true = refl
    go false = and_from (is_var name) (not (bytes_eq name (codes "_"))) w (ap not e)

fine_var : (k : ℕ) (text : List ℕ) → is_var text ≡ true → is_written_var (var_of (name_of k text)) ≡ true
fine_var k text w = go (bytes_eq text unnamed) refl
  where
    go : (b : Bool) → bytes_eq text unnamed ≡ b → is_written_var (var_of (cond b (codes "_ " ++ decimal k) text)) ≡ true
    go true e = numbered_var k
    go false e = named_var text e w

fine_number : (o : Option ℕ) → fine (option_map_or lexeme.Num o lexeme.Other) ≡ true
fine_number None = refl
fine_number (Some n) = refl

fine_sign : (k : ℕ) (text : List ℕ) (o : Option signs.Sign) → fine (lexeme_of k (option_map_or words.Sign o words.Other) text) ≡ true
unfolding lexeme_of
fine_sign k text None = refl
fine_sign k text (Some s) = refl

fine_kind : (k : ℕ) (kind : TokKind) (text : List ℕ) → is_spelled_token kind text ≡ true → fine (lexeme_of k (word_of kind text) text) ≡ true
unfolding lexeme_of
fine_kind k kind.Atom text w = fine_atom k text w
fine_kind k kind.Var text w = fine_var k text w
fine_kind k kind.Inner text w = w
fine_kind k kind.Number text w = fine_number (value text)
fine_kind k kind.Str text w = w
fine_kind k kind.Sign text w = fine_sign k text (sign_of text)
fine_kind k kind.End text w = refl

-- ---- all tokens

pub fine_tokens : (k : ℕ) (ts : List Tok) → list_all spelled_tok ts ≡ true → AllFine (lexemes_from k ts)
unfolding lexemes_from
fine_tokens k [] w = refl
fine_tokens k (t ∷ ts) w =
    let h = both (spelled_tok t) (list_all spelled_tok ts) w in
    and_from (fine (lexeme_of k (word t) t.text)) (list_all fine (lexemes_from (k + counts (word t) t.text) ts)) (fine_kind k t.kind t.text h.0)
    (fine_tokens (k + counts (word t) t.text) ts h.1)

-- ---- and of each piece

abbrev pub spelled_all : List (List Tok) → Bool
spelled_all = list_all (list_all spelled_tok)

spelled_onto : (t : Tok) (ps : List (List Tok)) → spelled_tok t ≡ true → spelled_all ps ≡ true → spelled_all (onto t ps) ≡ true
spelled_onto t [] e f = and_from (list_all spelled_tok (t ∷ [])) true (and_from (spelled_tok t) true e refl) refl
spelled_onto t (p ∷ ps) e f =
    let h = both (list_all spelled_tok p) (spelled_all ps) f in
    and_from (list_all spelled_tok (t ∷ p)) (spelled_all ps) (and_from (spelled_tok t) (list_all spelled_tok p) e h.0) h.1

pub spelled_pieces : (ends : Word → Bool) (ts : List Tok) → list_all spelled_tok ts ≡ true → spelled_all (pieces ends ts) ≡ true
unfolding pieces
spelled_pieces ends [] e = refl
spelled_pieces ends (t ∷ ts) e =
    let h = both (spelled_tok t) (list_all spelled_tok ts) e in
    go (ends (word t)) h.0 (spelled_pieces ends ts h.1)
  where
    go : (b : Bool) → spelled_tok t ≡ true → spelled_all (pieces ends ts) ≡ true
        → spelled_all (cond b ((t ∷ []) ∷ pieces ends ts) (onto t (pieces ends ts))) ≡ true
    go true e f = and_from (list_all spelled_tok (t ∷ [])) (spelled_all (pieces ends ts)) (and_from (spelled_tok t) true e refl) f
    go false e f = spelled_onto t (pieces ends ts) e f
