-- Texts put together: each token is the longest where what follows cannot go on with it.
use Rattle.std.proofs.Common.{◌≡◌, ℕ, true, false, List, [], ◌∷◌, ◌++◌, length, take, drop, Some, Ok, refl, sym, ap, subst, ◌∙◌, append_assoc}
use Rattle.std.specs.List.{list_all}
use Rattle.std.proofs.Math.Seq.{take-append_seam, drop-append_seam}
use Rattle.std.proofs.lemmas.List.{append-nil}
use Rattle.asl_lexer.specs.declared.token.TokKind.{TokKind}
use Rattle.asl_lexer.specs.declared.token.TokKind.TheVariants as kind
use Rattle.asl_lexer.specs.declared.token.Place.{Place}
use Rattle.asl_lexer.specs.Spelling.{is_lower, is_upper, is_digit, is_word, IsLongest}
use Rattle.asl_lexer.specs.Blanks.{BlankAt, begins_blank}
use Rattle.asl_lexer.specs.Scan.{token_at}
use Rattle.asl_lexer.specs.Lexing.{start, after, is_allowed, tok_of, text_of, TokenAt, Lexes, at_end, behind_blank, behind_token}
use Rattle.asl_lexer.proofs.Longest.{Found, token_found}
use Rattle.asl_lexer.proofs.One.{one_answer}
use Rattle.asl_lexer.specs.Bare.{Bare}
use Rattle.asl_lexer.specs.Seams.{HasTokens, Told, Lexed, Gives, Any, Stop, NamesGive, VariablesGive, InnersGive, WholesHave}
use Rattle.asl_lexer.proofs.Bytes.{both, no_blank, lower_no_blank, upper_no_blank, digit_no_blank, atom_at, var_at, number_at, inner_at}

-- ---- one token

abbrev pub bare_of : TokKind → List ℕ → Bare
bare_of kind spelled = record { kind = kind; text = text_of kind spelled }

token_told : (p : Place) (kind : TokKind) (text rest : List ℕ) (ys : List Bare) → TokenAt (text ++ rest) kind (length text) → is_allowed kind text ≡ true
    → Told (after p text) rest ys → Told p (text ++ rest) (bare_of kind text ∷ ys)
token_told p kind text rest ys t a h =
    let front : take (length text) (text ++ rest) ≡ text = take-append_seam text rest in
    let behind : drop (length text) (text ++ rest) ≡ rest = drop-append_seam text rest in
    record {
      toks = tok_of kind text p ∷ h.toks;
      lexed = behind_token {r = Ok h.toks} kind (length text) t
          (ap (is_allowed kind) front ∙ a)
          (subst (λ (x : List ℕ). Lexes (after p x) (drop (length text) (text ++ rest)) (Ok h.toks)) (sym front)
          (subst (λ (x : List ℕ). Lexes (after p text) x (Ok h.toks)) (sym behind) h.lexed))
          (ap (λ (x : List ℕ). Ok (tok_of kind x p ∷ h.toks)) (sym front));
      same = ap (λ (x : List Bare). bare_of kind text ∷ x) h.same;
    }

is_found : (bytes : List ℕ) (kind : TokKind) (n : ℕ) → token_at bytes ≡ Some (kind, n) → IsLongest bytes kind n
is_found bytes kind n e = subst (Found bytes) e (token_found bytes)

-- a token that is found before the bytes behind it
pub one_token : (Q : List ℕ → Type 0) (kind : TokKind) (text : List ℕ) → ((rest : List ℕ) → Q rest → begins_blank (text ++ rest) ≡ false)
    → ((rest : List ℕ) → Q rest → token_at (text ++ rest) ≡ Some (kind, length text)) → is_allowed kind text ≡ true → Gives Q text (bare_of kind text ∷ [])
one_token Q kind text b t a = record {
  before =
      λ rest ys q h. record {
        from = λ p. token_told p kind text rest ys
            (record { no_blank = b rest q; longest = is_found (text ++ rest) kind (length text) (t rest q) }) a (h.from (after p text));
      };
}

-- ---- words and numbers

gives_atom : (b : ℕ) (w : List ℕ) → is_lower b ≡ true → list_all is_word w ≡ true → Gives Stop (b ∷ w) (bare_of kind.Atom (b ∷ w) ∷ [])
gives_atom b w l a = let n = lower_no_blank b l in
    one_token Stop kind.Atom (b ∷ w) (λ rest s. no_blank b (w ++ rest) n.0 n.1) (λ rest s. atom_at b w rest l a s) refl

gives_var : (b : ℕ) (w : List ℕ) → is_upper b ≡ true → list_all is_word w ≡ true → Gives Stop (b ∷ w) (bare_of kind.Var (b ∷ w) ∷ [])
gives_var b w u a = let n = upper_no_blank b u in
    one_token Stop kind.Var (b ∷ w) (λ rest s. no_blank b (w ++ rest) n.0 n.1) (λ rest s. var_at b w rest u a s) refl

pub gives_number : (b : ℕ) (w : List ℕ) → is_digit b ≡ true → list_all is_digit w ≡ true → is_allowed kind.Number (b ∷ w) ≡ true
    → Gives Stop (b ∷ w) (bare_of kind.Number (b ∷ w) ∷ [])
gives_number b w d a v = let n = digit_no_blank b d in
    one_token Stop kind.Number (b ∷ w) (λ rest s. no_blank b (w ++ rest) n.0 n.1) (λ rest s. number_at b w rest d a s) v

gives_inner : (b : ℕ) (w : List ℕ) → is_lower b ≡ true → list_all is_word w ≡ true → Gives Stop (46 ∷ b ∷ w) (bare_of kind.Inner (46 ∷ b ∷ w) ∷ [])
gives_inner b w l a = one_token Stop kind.Inner (46 ∷ b ∷ w) (λ rest s. no_blank 46 (b ∷ (w ++ rest)) refl refl) (λ rest s. inner_at b w rest l a s) refl

pub names_give : NamesGive
names_give [] a = absurd cc
names_give (b ∷ w) a = let h = both (is_lower b) (list_all is_word w) a in gives_atom b w h.0 h.1

pub variables_give : VariablesGive
variables_give [] a = absurd cc
variables_give (b ∷ w) a = let h = both (is_upper b) (list_all is_word w) a in gives_var b w h.0 h.1

pub inners_give : InnersGive
inners_give [] a = absurd cc
inners_give (b ∷ w) a = let h = both (is_lower b) (list_all is_word w) a in gives_inner b w h.0 h.1

-- ---- blanks

-- a blank byte gives no token
pub gives_blank : (b : ℕ) → ((rest : List ℕ) → BlankAt (b ∷ rest) 1) → Gives Any (b ∷ []) []
gives_blank b f = record { before = λ rest ys q h. record { from = λ p. go p rest ys (h.from (after p (b ∷ []))) } }
  where
    go : (p : Place) (rest : List ℕ) (ys : List Bare) → Told (after p (b ∷ [])) rest ys → Told p (b ∷ rest) ys
    go p rest ys h = record { toks = h.toks; lexed = behind_blank {r = Ok h.toks} 1 (f rest) h.lexed; same = h.same }

-- ---- texts one after the other

pub gives_nothing : (Q : List ℕ → Type 0) → Gives Q [] []
gives_nothing Q = record { before = λ rest ys q h. h }

pub then : {Q R : List ℕ → Type 0} {a b : List ℕ} {xs ys : List Bare} → Gives Q a xs → Gives R b ys → ((rest : List ℕ) → R rest → Q (b ++ rest))
    → Gives R (a ++ b) (xs ++ ys)
then {Q} {R} {a} {b} {xs} {ys} g h f = record {
  before =
      λ rest zs r k. subst (λ (t : List ℕ). Lexed t ((xs ++ ys) ++ zs)) (sym (append_assoc a b rest))
      (subst (λ (z : List Bare). Lexed (a ++ (b ++ rest)) z) (sym (append_assoc xs ys zs))
      (g.before (b ++ rest) (ys ++ zs) (f rest r) (h.before rest zs r k)));
}

-- the first text may stand before anything
pub next : {R : List ℕ → Type 0} {a b : List ℕ} {xs ys : List Bare} → Gives Any a xs → Gives R b ys → Gives R (a ++ b) (xs ++ ys)
next g h = then g h (λ rest r. tt)

-- what is given before some bytes is given before fewer
pub narrower : {Q R : List ℕ → Type 0} {a : List ℕ} {xs : List Bare} → ((rest : List ℕ) → R rest → Q rest) → Gives Q a xs → Gives R a xs
narrower f g = record { before = λ rest ys r h. g.before rest ys (f rest r) h }

-- what is given before anything is given before what stops
pub before_stop : {a : List ℕ} {xs : List Bare} → Gives Any a xs → Gives Stop a xs
before_stop g = narrower (λ rest q. tt) g

-- ---- texts as they are written, from their first parts

pub same_gives : {Q : List ℕ → Type 0} {a b : List ℕ} {xs ys : List Bare} → a ≡ b → xs ≡ ys → Gives Q b ys → Gives Q a xs
same_gives {Q} {a} {b} {xs} {ys} e f g = subst (λ (t : List ℕ). Gives Q t xs) (sym e) (subst (Gives Q b) (sym f) g)

pub from_four : (a b c d : List ℕ) → a ++ b ++ c ++ d ≡ a ++ (b ++ (c ++ d))
from_four a b c d = append_assoc (a ++ b) c d ∙ append_assoc a b (c ++ d)

pub from_five : (a b c d e : List ℕ) → a ++ b ++ c ++ d ++ e ≡ a ++ (b ++ (c ++ (d ++ e)))
from_five a b c d e = simp append_assoc refl

pub from_seven : (a b c d e f g : List ℕ) → a ++ b ++ c ++ d ++ e ++ f ++ g ≡ a ++ (b ++ (c ++ (d ++ (e ++ (f ++ g)))))
from_seven a b c d e f g = simp append_assoc refl

-- ---- whole texts

nothing_lexed : Lexed [] []
nothing_lexed = record { from = λ p. record { toks = []; lexed = at_end; same = refl } }

pub whole : {a : List ℕ} {xs : List Bare} → Gives Stop a xs → HasTokens a xs
whole {a} {xs} g =
    let all : Lexed (a ++ []) (xs ++ []) = g.before [] [] refl nothing_lexed in
    let here : Lexed a xs = subst (λ (t : List ℕ). Lexed t xs) (append-nil a) (subst (Lexed (a ++ [])) (append-nil xs) all) in
    let told = here.from start in
    record { toks = told.toks; lexed = told.lexed; same = told.same; only = λ r l. one_answer a r (Ok told.toks) l told.lexed }

pub wholes_have : WholesHave
wholes_have text xs g = whole g
