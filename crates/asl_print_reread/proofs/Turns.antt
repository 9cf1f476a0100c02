-- Tokens of a text, and what they are to the grammar, where unnamed variables are counted.
use Rattle.std.proofs.Common.{◌≡◌, ◌≤◌, ℕ, ◌+◌, Bool, true, cond, List, [], ◌∷◌, ◌++◌, map, Option, refl, ap, sym, ◌∙◌}
use Rattle.std.specs.Prelude.{codes, if◌then◌else◌}
use Rattle.std.specs.Fmt.{decimal}
use Rattle.std.specs.Option.{option_map_or}
use Rattle.asl_term.specs.declared.syntax.Var.{Var}
use Rattle.asl_term.specs.Texts.{is_unnamed, var_text}
use Rattle.asl_lexer.specs.declared.token.Tok.{Tok}
use Rattle.asl_lexer.specs.declared.token.Word.{Word}
use Rattle.asl_lexer.specs.declared.token.Sign as signs
use Rattle.asl_lexer.specs.Bare as bares
use Rattle.asl_lexer.specs.Bare.{Bare, bare, bare_word}
use Rattle.asl_lexer.proofs.Table.{mark_word}
use Rattle.asl_lexer.proofs.NumberTexts.{numbers_read}
use Rattle.asl_parser_tree.specs.declared.lexeme.Lexeme.{Lexeme}
use Rattle.asl_parser_tree.specs.declared.lexeme.Lexeme.TheVariants as lexeme
use Rattle.asl_parser_tree.specs.Lexemes.{lexeme_of, counts, lexemes_from}
use Rattle.asl_print.specs.Spelled.{is_written_var}
use Rattle.asl_print.specs.Means.{NamesAs, unnamed, named}
use Rattle.asl_print.proofs.Means.{tokens_mean}
use Rattle.asl_print_reread.specs.Shown.{mark, word}
use Rattle.asl_print_reread.proofs.Words.{AtWords, by_words}

-- an unnamed variable becomes the k-th
abbrev pub renamed : ℕ → Lexeme → Lexeme
renamed k (lexeme.Var name) = lexeme.Var (if is_unnamed name then codes "_ " ++ decimal k else name)
renamed k x = x

-- how many unnamed variables it is
abbrev pub unnamed_in : Lexeme → ℕ
unnamed_in (lexeme.Var name) = if is_unnamed name then 1 else 0
unnamed_in x = 0

-- unnamed variables counted again, the first as the k-th
abbrev pub again : ℕ → List Lexeme → List Lexeme
again k [] = []
again k (l ∷ ls) = renamed k l ∷ again (k + unnamed_in l) ls

-- what tokens are to the grammar, by their kinds and texts
abbrev pub bare_lexemes : ℕ → List Bare → List Lexeme
bare_lexemes k [] = []
bare_lexemes k (x ∷ xs) = lexeme_of k (bare_word x) x.text ∷ bare_lexemes (k + counts (bare_word x) x.text) xs

pub by_bares : (k : ℕ) (ts : List Tok) → lexemes_from k ts ≡ bare_lexemes k (map bare ts)
unfolding lexemes_from
by_bares k [] = refl
by_bares k (t ∷ ts) = ap (λ ls. lexeme_of k (bare_word (bare t)) t.text ∷ ls) (by_bares (k + counts (bare_word (bare t)) t.text) ts)

-- a token is this to the grammar, but for the number of an unnamed variable
pub record Turn (x : Bare) (l : Lexeme) : Type 0 where
  pub same : (k : ℕ) → lexeme_of k (bare_word x) x.text ≡ renamed k l
  pub count : counts (bare_word x) x.text ≡ unnamed_in l

pub data Turns : List Bare → List Lexeme → Type 0 where
  turn_none : Turns [] []
  turn_next : {x : Bare} {l : Lexeme} {xs : List Bare} {ls : List Lexeme} → Turn x l → Turns xs ls → Turns (x ∷ xs) (l ∷ ls)

pub turn_one : {x : Bare} {l : Lexeme} → Turn x l → Turns (x ∷ []) (l ∷ [])
turn_one t = turn_next t turn_none

pub turns_then : {xs ys : List Bare} {ls ms : List Lexeme} → Turns xs ls → Turns ys ms → Turns (xs ++ ys) (ls ++ ms)
turns_then turn_none u = u
turns_then (turn_next t ts) u = turn_next t (turns_then ts u)

pub turned : {xs : List Bare} {ls : List Lexeme} → Turns xs ls → (k : ℕ) → bare_lexemes k xs ≡ again k ls
turned turn_none k = refl
turned (turn_next {l = l} {xs = xs} t ts) k =
    let rest = ap (λ n. bare_lexemes (k + n) xs) t.count ∙ turned ts (k + unnamed_in l) in
    λ i. t.same k i ∷ rest i

-- ---- each token

pub turn_mark : (s : signs.Sign) → Turn (bares.mark s) (mark s)
unfolding lexeme_of
turn_mark s = record {
  same = λ k. ap (λ (w : Word). lexeme_of k w (bares.mark s).text) (mark_word s);
  count = ap (λ (w : Word). counts w (bares.mark s).text) (mark_word s);
}

pub turn_inner : (name : List ℕ) → Turn (bares.inner name) (lexeme.Inner name)
unfolding lexeme_of
turn_inner name = record { same = λ k. refl; count = refl }

pub turn_string : (s : List ℕ) → Turn (bares.string s) (lexeme.Str s)
unfolding lexeme_of
turn_string s = record { same = λ k. refl; count = refl }

pub turn_stop : Turn bares.stop lexeme.End
unfolding lexeme_of
turn_stop = record { same = λ k. refl; count = refl }

pub turn_number : (n : ℕ) → n ≤ 9223372036854775807 → Turn (bares.number n) (lexeme.Num n)
unfolding lexeme_of
turn_number n le = record { same = λ k. ap (λ (o : Option ℕ). option_map_or lexeme.Num o lexeme.Other) (numbers_read n le); count = refl }

pub turn_var : (v : Var) → is_written_var v ≡ true → Turn (bares.var (var_text v)) (lexeme.Var v.name)
unfolding lexeme_of
turn_var v w = go (tokens_mean.variables v w)
  where
    go : {t : List ℕ} → NamesAs v t → Turn (bares.var t) (lexeme.Var v.name)
    go (unnamed e) = record {
      same = λ k. ap (λ (b : Bool). lexeme.Var (cond b (codes "_ " ++ decimal k) v.name)) (sym e);
      count = ap (λ (b : Bool). cond b 1 0) (sym e);
    }
    go (named e f) = record {
      same = λ k. ap (λ (b : Bool). lexeme.Var (cond b (codes "_ " ++ decimal k) v.name)) (f ∙ sym e);
      count = ap (λ (b : Bool). cond b 1 0) (f ∙ sym e);
    }

-- a word is no variable
pub turn_word : (text : List ℕ) → Turn (bares.atom text) (word text)
unfolding lexeme_of
turn_word text = let t = by_words Fits text cases in record { same = t.0; count = t.1 }
  where
    Fits : Word → Type 0
    Fits w = ((k : ℕ) → lexeme_of k w text ≡ renamed k (lexeme_of 0 w text)) × (counts w text ≡ unnamed_in (lexeme_of 0 w text))

    cases : AtWords Fits text
    cases = record {
      at_not = (λ k. refl, refl);
      at_div = (λ k. refl, refl);
      at_mod = (λ k. refl, refl);
      at_true = (λ k. refl, refl);
      at_false = (λ k. refl, refl);
      at_atom = λ e. (λ k. refl, refl);
    }
