-- What is put together of tokens and brackets: how many brackets are open in it, and that no clause ends in it.
use Rattle.std.proofs.Common.{◌≡◌, ◌≤◌, ℕ, suc, ◌+◌, ◌-◌, Bool, true, false, cond, List, [], ◌∷◌, ◌++◌, max, refl, ap, ◌∙◌, append_assoc, arith}
use Rattle.std.specs.Prelude.{◌&&◌, not, codes}
use Rattle.std.specs.List.{flat_map, list_all}
use Rattle.std.proofs.lemmas.Bool.{and_from}
use Rattle.std.specs.Str.{bytes_eq}
use Rattle.asl_lexer.specs.declared.token.Word.{Word}
use Rattle.asl_lexer.specs.declared.token.Word.TheVariants as words
use Rattle.asl_lexer.specs.Words.{atom_word, is_end}
use Rattle.asl_lexer.specs.declared.token.Sign as signs
use Rattle.asl_lexer.specs.declared.token.Sign.TheVariants as sign
use Rattle.asl_lexer.specs.Bare as bares
use Rattle.asl_lexer.specs.Bare.{Bare}
use Rattle.asl_print.specs.Tokens.{comma_tokens, between_tokens}
use Rattle.asl_lexer.specs.Bare.{bare_word}
use Rattle.asl_print.specs.Brackets.{open_behind, most_open}
use Rattle.asl_lexer.proofs.Bytes.{both}
use Rattle.asl_lexer.proofs.Table.{mark_word}

-- a token that is no bracket and ends no clause
pub record IsFlat (x : Bare) : Type 0 where
  pub same : (n : ℕ) → open_behind (bare_word x) n ≡ n
  pub goes : is_end (bare_word x) ≡ false

-- the tokens are no clause's end, and brackets are closed in them, of which at most k are open at one place
pub data Nests : ℕ → List Bare → Type 0 where
  nest_none : (k : ℕ) → Nests k []
  nest_then : (k : ℕ) (xs ys : List Bare) → Nests k xs → Nests k ys → Nests k (xs ++ ys)
  nest_next : (k : ℕ) (x : Bare) (xs : List Bare) → IsFlat x → Nests k xs → Nests k (x ∷ xs)
  nest_round : (k : ℕ) (xs : List Bare) → Nests k xs → Nests (suc k) (bares.mark sign.Open ∷ (xs ++ bares.mark sign.Close ∷ []))
  nest_square : (k : ℕ) (xs : List Bare) → Nests k xs → Nests (suc k) (bares.mark sign.OpenSquare ∷ (xs ++ bares.mark sign.CloseSquare ∷ []))

pub nest_one : (k : ℕ) (x : Bare) → IsFlat x → Nests k (x ∷ [])
nest_one k x f = nest_next k x [] f (nest_none k)

-- ---- so many brackets are open

pub Within : ℕ → List Bare → Type 0
Within k xs = (n : ℕ) (ys : List Bare) → most_open n (xs ++ ys) ≤ max (n + k) (most_open n ys)

then_within : (k : ℕ) (xs ys : List Bare) → Within k xs → Within k ys → Within k (xs ++ ys)
unfolding Within
then_within k xs ys f g = λ n zs. omega (arith, ap (most_open n) (append_assoc xs ys zs), f n (ys ++ zs), g n zs)

next_within : (k : ℕ) (x : Bare) (xs : List Bare) → IsFlat x → Within k xs → Within k (x ∷ xs)
unfolding Within
next_within k x xs f g = λ n ys. go n ys
  where
    go : (n : ℕ) (ys : List Bare) → max n (most_open (open_behind (bare_word x) n) (xs ++ ys)) ≤ max (n + k) (most_open n ys)
    go n ys = omega (arith, ap (λ (m : ℕ). most_open m (xs ++ ys)) (f.same n), g n ys)

-- what stands between brackets
between_within : (k : ℕ) (o c : Bare) (xs : List Bare) → ((n : ℕ) → open_behind (bare_word o) n ≡ suc n)
    → ((n : ℕ) → open_behind (bare_word c) (suc n) ≡ n) → Within k xs → Within (suc k) (o ∷ (xs ++ c ∷ []))
unfolding Within
between_within k o c xs f g h = λ n ys. go n ys
  where
    go : (n : ℕ) (ys : List Bare) → max n (most_open (open_behind (bare_word o) n) ((xs ++ c ∷ []) ++ ys)) ≤ max (n + suc k) (most_open n ys)
    go n ys =
        let opened : most_open (open_behind (bare_word o) n) ((xs ++ c ∷ []) ++ ys) ≡ most_open (suc n) (xs ++ c ∷ ys) =
        ap (λ (m : ℕ). most_open m ((xs ++ c ∷ []) ++ ys)) (f n) ∙ ap (most_open (suc n)) (append_assoc xs (c ∷ []) ys) in
        let closed : most_open (suc n) (c ∷ ys) ≡ max (suc n) (most_open n ys) = ap (λ (m : ℕ). max (suc n) (most_open m ys)) (g n) in
        omega (arith, opened, closed, h (suc n) (c ∷ ys))

closes_one : (n : ℕ) → suc n - 1 ≡ n
closes_one n = omega arith

round_within : (k : ℕ) (xs : List Bare) → Within k xs → Within (suc k) (bares.mark sign.Open ∷ (xs ++ bares.mark sign.Close ∷ []))
round_within k xs = between_within k (bares.mark sign.Open) (bares.mark sign.Close) xs (λ n. ap (λ (w : Word). open_behind w n) (mark_word sign.Open))
    (λ n. ap (λ (w : Word). open_behind w (suc n)) (mark_word sign.Close) ∙ closes_one n)

square_within : (k : ℕ) (xs : List Bare) → Within k xs → Within (suc k) (bares.mark sign.OpenSquare ∷ (xs ++ bares.mark sign.CloseSquare ∷ []))
square_within k xs = between_within k (bares.mark sign.OpenSquare) (bares.mark sign.CloseSquare) xs
    (λ n. ap (λ (w : Word). open_behind w n) (mark_word sign.OpenSquare))
    (λ n. ap (λ (w : Word). open_behind w (suc n)) (mark_word sign.CloseSquare) ∙ closes_one n)

none_within : (k : ℕ) → Within k []
unfolding Within
none_within k = λ n ys. omega arith

pub within : {k : ℕ} {xs : List Bare} → Nests k xs → Within k xs
within (nest_none k) = none_within k
within (nest_then k xs ys f g) = then_within k xs ys (within f) (within g)
within (nest_next k x xs f g) = next_within k x xs f (within g)
within (nest_round k xs f) = round_within k xs (within f)
within (nest_square k xs f) = square_within k xs (within f)

pub most_within : (k : ℕ) (xs ys : List Bare) → Nests k xs → most_open 0 (xs ++ ys) ≤ max k (most_open 0 ys)
unfolding Within
most_within k xs ys h = omega (arith, within h 0 ys)

-- ---- and no clause ends

abbrev pub goes_on : Bare → Bool
goes_on x = not (is_end (bare_word x))

all_then : (xs ys : List Bare) → list_all goes_on xs ≡ true → list_all goes_on ys ≡ true → list_all goes_on (xs ++ ys) ≡ true
all_then [] ys f g = g
all_then (x ∷ xs) ys f g = let h = both (goes_on x) (list_all goes_on xs) f in and_from (goes_on x) (list_all goes_on (xs ++ ys)) h.0 (all_then xs ys h.1 g)

mark_goes : (s : signs.Sign) → list_all goes_on (bares.mark s ∷ []) ≡ true
mark_goes s = ap (λ (w : Word). not (is_end w) && true) (mark_word s)

pub no_end : {k : ℕ} {xs : List Bare} → Nests k xs → list_all goes_on xs ≡ true
no_end (nest_none k) = refl
no_end (nest_then k xs ys f g) = all_then xs ys (no_end f) (no_end g)
no_end (nest_next k x xs f g) = and_from (goes_on x) (list_all goes_on xs) (ap not f.goes) (no_end g)
no_end (nest_round k xs f) =
    and_from (goes_on (bares.mark sign.Open)) (list_all goes_on (xs ++ bares.mark sign.Close ∷ [])) (ap (λ (w : Word). not (is_end w)) (mark_word sign.Open))
    (all_then xs (bares.mark sign.Close ∷ []) (no_end f) (mark_goes sign.Close))
no_end (nest_square k xs f) =
    and_from (goes_on (bares.mark sign.OpenSquare)) (list_all goes_on (xs ++ bares.mark sign.CloseSquare ∷ []))
    (ap (λ (w : Word). not (is_end w)) (mark_word sign.OpenSquare))
    (all_then xs (bares.mark sign.CloseSquare ∷ []) (no_end f) (mark_goes sign.CloseSquare))

-- ---- the tokens of printed texts

pub flat_atom : (text : List ℕ) → IsFlat (bares.atom text)
unfolding atom_word
flat_atom text = go (bytes_eq text (codes "not")) (bytes_eq text (codes "div")) (bytes_eq text (codes "mod")) (bytes_eq text (codes "true"))
    (bytes_eq text (codes "false")) refl
  where
    as_word : (w : Word) → bare_word (bares.atom text) ≡ w → ((n : ℕ) → open_behind w n ≡ n) → is_end w ≡ false → IsFlat (bares.atom text)
    as_word w e f g = record { same = λ n. ap (λ (v : Word). open_behind v n) e ∙ f n; goes = ap is_end e ∙ g }

    go : (a b c d e : Bool) → bare_word (bares.atom text) ≡ cond a words.Not
        (cond b words.Div (cond c words.Mod (cond d words.True (cond e words.False words.Atom)))) → IsFlat (bares.atom text)
    go true b c d e h = as_word _ h (λ n. refl) refl
    go false true c d e h = as_word _ h (λ n. refl) refl
    go false false true d e h = as_word _ h (λ n. refl) refl
    go false false false true e h = as_word _ h (λ n. refl) refl
    go false false false false true h = as_word _ h (λ n. refl) refl
    go false false false false false h = as_word _ h (λ n. refl) refl

-- which signs are brackets that count
abbrev pub is_counted : signs.Sign → Bool
is_counted sign.Open = true
is_counted sign.Close = true
is_counted sign.OpenSquare = true
is_counted sign.CloseSquare = true
is_counted _ = false

none_opens : (s : signs.Sign) → is_counted s ≡ false → (n : ℕ) → open_behind (words.Sign s) n ≡ n
none_opens sign.Open e n = absurd cc
none_opens sign.Close e n = absurd cc
none_opens sign.OpenSquare e n = absurd cc
none_opens sign.CloseSquare e n = absurd cc
none_opens _ e n = refl

pub flat_mark : (s : signs.Sign) → is_counted s ≡ false → IsFlat (bares.mark s)
flat_mark s e = record { same = λ n. ap (λ (w : Word). open_behind w n) (mark_word s) ∙ none_opens s e n; goes = ap is_end (mark_word s) }

-- ---- lists with commas

abbrev pub AllNest : ℕ → List (List Bare) → Type 0
AllNest k [] = Unit {0}
AllNest k (x ∷ xs) = Nests k x × AllNest k xs

nest_others : (k : ℕ) (xs : List (List Bare)) → AllNest k xs → Nests k (flat_map (λ u. bares.mark sign.Comma ∷ u) xs)
nest_others k [] h = nest_none k
nest_others k (x ∷ xs) h = nest_then k (bares.mark sign.Comma ∷ x) (flat_map (λ u. bares.mark sign.Comma ∷ u) xs)
    (nest_next k (bares.mark sign.Comma) x (flat_mark sign.Comma refl) h.0) (nest_others k xs h.1)

pub nest_commas : (k : ℕ) (xs : List (List Bare)) → AllNest k xs → Nests k (comma_tokens xs)
nest_commas k [] h = nest_none k
nest_commas k (x ∷ xs) h = nest_then k x (flat_map (λ u. bares.mark sign.Comma ∷ u) xs) h.0 (nest_others k xs h.1)

pub nest_args : (k : ℕ) (xs : List (List Bare)) → AllNest k xs → Nests (suc k) (between_tokens sign.Open sign.Close xs)
nest_args k [] h = nest_none (suc k)
nest_args k (x ∷ xs) h = nest_round k (comma_tokens (x ∷ xs)) (nest_commas k (x ∷ xs) h)

pub nest_annots : (k : ℕ) (xs : List (List Bare)) → AllNest k xs → Nests (suc k) (between_tokens sign.OpenSquare sign.CloseSquare xs)
nest_annots k [] h = nest_none (suc k)
nest_annots k (x ∷ xs) h = nest_square k (comma_tokens (x ∷ xs)) (nest_commas k (x ∷ xs) h)
