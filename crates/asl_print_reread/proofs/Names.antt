-- The names of the unnamed variables among tokens, in their order.
use Rattle.std.proofs.Common.{◌≡◌, ℕ, suc, ◌+◌, Bool, true, false, cond, List, [], ◌∷◌, ◌++◌, take, Option, Some, None, refl, ap, sym, ◌∙◌, subst, add-one, arith}
use Rattle.std.specs.Prelude.{codes, if◌then◌else◌}
use Rattle.std.specs.List.{list_all, flat_map}
use Rattle.std.specs.Option.{option_map_or}
use Rattle.std.specs.Fmt.{decimal}
use Rattle.std.specs.Str.{bytes_eq}
use Rattle.std.proofs.lemmas.Slice.Eq.{bytes_eq-Decides}
use Rattle.asl_term.specs.Texts.{is_unnamed}
use Rattle.asl_lexer.specs.declared.token.Tok.{Tok}
use Rattle.asl_lexer.specs.declared.token.TokKind.{TokKind}
use Rattle.asl_lexer.specs.declared.token.TokKind.TheVariants as kind
use Rattle.asl_lexer.specs.declared.token.Word.{Word}
use Rattle.asl_lexer.specs.declared.token.Word.TheVariants as words
use Rattle.asl_lexer.specs.declared.token.Sign as signs
use Rattle.asl_lexer.specs.Spelling.{is_upper, is_word, sign_of}
use Rattle.asl_lexer.specs.Scan.{value}
use Rattle.asl_lexer.specs.Words.{atom_word, word_of, word}
use Rattle.asl_lexer.specs.Bare.{is_var, is_spelled_token}
use Rattle.asl_lexer.proofs.Bytes.{both}
use Rattle.asl_parser_tree.specs.declared.lexeme.Lexeme.{Lexeme}
use Rattle.asl_parser_tree.specs.declared.lexeme.Lexeme.TheVariants as lexeme
use Rattle.asl_parser_tree.specs.Lexemes.{unnamed, name_of, lexeme_of, counts, lexemes_from}
use Rattle.asl_print_reread.proofs.Words.{by_words}
use Rattle.asl_print_reread.proofs.Turns.{again}
use Rattle.asl_print_reread.proofs.FineTokens.{spelled_tok}

-- the name of the k-th unnamed variable
abbrev pub nth_name : ℕ → List ℕ
nth_name k = codes "_ " ++ decimal k

abbrev pub names_in : Lexeme → List (List ℕ)
names_in (lexeme.Var name) = if is_unnamed name then name ∷ [] else []
names_in x = []

abbrev pub names : List Lexeme → List (List ℕ)
names = flat_map names_in

-- they are the k-th, the next and so on
abbrev pub AreCounted : ℕ → List (List ℕ) → Type 0
AreCounted k [] = Unit {0}
AreCounted k (n ∷ ns) = (n ≡ nth_name k) × AreCounted (suc k) ns

-- ---- what is counted is the same when it is counted again

same_again : (k : ℕ) (l : Lexeme) (ls : List Lexeme) → ((j : ℕ) → AreCounted j (names ls) → again j ls ≡ ls) → AreCounted k (names (l ∷ ls))
    → again k (l ∷ ls) ≡ l ∷ ls
same_again k (lexeme.Var name) ls more c = go (is_unnamed name) c
  where
    go : (u : Bool) → AreCounted k (cond u (name ∷ []) [] ++ names ls)
        → lexeme.Var (cond u (nth_name k) name) ∷ again (k + cond u 1 0) ls ≡ lexeme.Var name ∷ ls
    go true c = let rest = ap (λ (j : ℕ). again j ls) (add-one k) ∙ more (suc k) c.1 in λ i. lexeme.Var (sym c.0 i) ∷ rest i
    go false c = let e : k + 0 ≡ k = omega arith in let rest = ap (λ (j : ℕ). again j ls) e ∙ more k c in λ i. lexeme.Var name ∷ rest i
same_again k x ls more c = let e : k + 0 ≡ k = omega arith in let rest = ap (λ (j : ℕ). again j ls) e ∙ more k c in λ i. x ∷ rest i

pub counted_again : (ls : List Lexeme) (k : ℕ) → AreCounted k (names ls) → again k ls ≡ ls
counted_again [] k c = refl
counted_again (l ∷ ls) k c = same_again k l ls (counted_again ls) c

-- ---- tokens without a name

abbrev HasNone : ℕ → List ℕ → Word → Type 0
HasNone k text w = (names_in (lexeme_of k w text) ≡ []) × (counts w text ≡ 0)

pub no_name : (k : ℕ) (text : List ℕ) → HasNone k text (atom_word text)
unfolding lexeme_of
no_name k text = by_words (HasNone k text) text (record {
  at_not = (refl, refl);
  at_div = (refl, refl);
  at_mod = (refl, refl);
  at_true = (refl, refl);
  at_false = (refl, refl);
  at_atom = λ e. (refl, refl);
})

number_name : (o : Option ℕ) → names_in (option_map_or lexeme.Num o lexeme.Other) ≡ []
number_name None = refl
number_name (Some n) = refl

sign_name : (k : ℕ) (text : List ℕ) (o : Option signs.Sign)
    → (names_in (lexeme_of k (option_map_or words.Sign o words.Other) text) ≡ []) × (counts (option_map_or words.Sign o words.Other) text ≡ 0)
unfolding lexeme_of
sign_name k text None = (refl, refl)
sign_name k text (Some s) = (refl, refl)

-- the name of a token is not that of an unnamed variable, which has a space
var_named : (text : List ℕ) → is_var text ≡ true → is_unnamed text ≡ false
var_named text w = go (is_unnamed text) refl
  where
    spaced : (text : List ℕ) → is_var text ≡ true → take 2 text ≡ codes "_ " → ⊥
    spaced [] w e = cc
    spaced (b ∷ []) w e = cc
    spaced (b ∷ c ∷ rest) w e =
        let h = both (is_upper b) (list_all is_word (c ∷ rest)) w in
        let g = both (is_word c) (list_all is_word rest) h.1 in
        let space : c ≡ 32 = cc in
        let no : false ≡ true = ap is_word (sym space) ∙ g.0 in
        cc

    go : (u : Bool) → is_unnamed text ≡ u → u ≡ false
    go true e = absurd (spaced text w ((bytes_eq-Decides (take 2 text) (codes "_ ")).0 e))
    go false e = refl

-- ---- the tokens of a clause are counted

none_here : (k : ℕ) (ns rest : List (List ℕ)) (c : ℕ) → ns ≡ [] → c ≡ 0 → AreCounted (k + c) rest → AreCounted k (ns ++ rest)
none_here k ns rest c e f h =
    let same : k + c ≡ k = omega (arith, f) in
    subst (λ (ms : List (List ℕ)). AreCounted k (ms ++ rest)) (sym e) (subst (λ (j : ℕ). AreCounted j rest) same h)

var_here : (k : ℕ) (text : List ℕ) (rest : List (List ℕ)) → is_var text ≡ true → AreCounted (k + counts words.Var text) rest
    → AreCounted k (names_in (lexeme.Var (name_of k text)) ++ rest)
var_here k text rest w h = go (bytes_eq text unnamed) h
  where
    go : (b : Bool) → AreCounted (k + cond b 1 0) rest → AreCounted k (names_in (lexeme.Var (cond b (nth_name k) text)) ++ rest)
    go true h = (refl, subst (λ (j : ℕ). AreCounted j rest) (add-one k) h)
    go false h = none_here k (names_in (lexeme.Var text)) rest 0 (ap (λ (u : Bool). cond u (text ∷ []) []) (var_named text w)) refl h

one_here : (k : ℕ) (kind : TokKind) (text : List ℕ) (rest : List (List ℕ)) → is_spelled_token kind text ≡ true
    → AreCounted (k + counts (word_of kind text) text) rest → AreCounted k (names_in (lexeme_of k (word_of kind text) text) ++ rest)
unfolding lexeme_of
one_here k kind.Atom text rest w h = let n = no_name k text in none_here k _ rest _ n.0 n.1 h
one_here k kind.Var text rest w h = var_here k text rest w h
one_here k kind.Inner text rest w h = none_here k [] rest 0 refl refl h
one_here k kind.Number text rest w h = none_here k _ rest 0 (number_name (value text)) refl h
one_here k kind.Str text rest w h = none_here k [] rest 0 refl refl h
one_here k kind.Sign text rest w h = let n = sign_name k text (sign_of text) in none_here k _ rest _ n.0 n.1 h
one_here k kind.End text rest w h = none_here k [] rest 0 refl refl h

pub tokens_counted : (k : ℕ) (ts : List Tok) → list_all spelled_tok ts ≡ true → AreCounted k (names (lexemes_from k ts))
unfolding lexemes_from
tokens_counted k [] w = tt
tokens_counted k (t ∷ ts) w =
    let h = both (spelled_tok t) (list_all spelled_tok ts) w in
    one_here k t.kind t.text (names (lexemes_from (k + counts (word t) t.text) ts)) h.0 (tokens_counted (k + counts (word t) t.text) ts h.1)
