-- The words of tokens are known, and the numbers of tokens have a value.
use Rattle.std.proofs.Common.{◌≡◌, ℕ, Bool, true, false, cond, List, [], ◌∷◌, take, Option, Some, None, Result, Ok, Err, refl, sym, subst, codes}
use Rattle.std.specs.Prelude.{All, ◌==◌}
use Rattle.std.specs.List.{list_all}
use Rattle.std.proofs.lemmas.List.Elements.{All-nil, All-cons}
use Rattle.std.specs.Option.{is_some, option_map_or}
use Rattle.std.specs.Str.{bytes_eq}
use Rattle.asl_lexer.specs.declared.token.TokKind.{TokKind}
use Rattle.asl_lexer.specs.declared.token.TokKind.TheVariants as kind
use Rattle.asl_lexer.specs.declared.token.Tok.{Tok}
use Rattle.asl_lexer.specs.declared.token.Place.{Place}
use Rattle.asl_lexer.specs.declared.token.LexFault.{LexFault}
use Rattle.asl_lexer.specs.declared.token.Word.TheVariants as words
use Rattle.asl_lexer.specs.declared.token.Sign as signs
use Rattle.asl_lexer.specs.Spelling.{is_lower, is_upper, is_digit, is_word, is_sign, sign_of, ends_string, given, after_dot, kind_of}
use Rattle.asl_lexer.specs.Lexing.{tok_of, onto, Lexes, at_end, behind_blank, behind_token, stops}
use Rattle.asl_lexer.specs.Words.{atom_word, word, IsKnown, AllKnown}

atom_known : (text : List ℕ) → atom_word text ≡ words.Other → ⊥
unfolding atom_word
atom_known text = go (bytes_eq text (codes "not")) (bytes_eq text (codes "div")) (bytes_eq text (codes "mod")) (bytes_eq text (codes "true")) (bytes_eq text (codes "false"))
  where
    go : (a b c d e : Bool) → cond a words.Not (cond b words.Div (cond c words.Mod (cond d words.True (cond e words.False words.Atom)))) ≡ words.Other → ⊥
    go true b c d e h = cc
    go false true c d e h = cc
    go false false true d e h = cc
    go false false false true e h = cc
    go false false false false true h = cc
    go false false false false false h = cc

-- ---- what is spelled as a sign is one

is_given : (b : Bool) (k : TokKind) → given b k ≡ Some kind.Sign → (k ≡ kind.Sign) × (b ≡ true)
is_given true k e = (cc, refl)
is_given false k e = absurd cc

no_dot : (text : List ℕ) → after_dot text ≡ Some kind.Sign → ⊥
no_dot [] e = cc
no_dot (b ∷ text) e = let h = is_given _ kind.Inner e in let d : kind.Inner ≡ kind.Sign = h.0 in cc

spells_sign : (text : List ℕ) → kind_of text ≡ Some kind.Sign → is_sign text ≡ true
spells_sign [] e = absurd cc
spells_sign (b ∷ text) e = go (is_lower b) (is_upper b) (is_digit b) (b == 46) (b == 34) e
  where
    other : (x : Bool) (k : TokKind) → (k ≡ kind.Sign → ⊥) → given x k ≡ Some kind.Sign → is_sign (b ∷ text) ≡ true
    other x k differs e = absurd (differs (is_given x k e).0)

    go : (l u d o q : Bool) → cond l (given (list_all is_word text) kind.Atom) (cond u (given (list_all is_word text) kind.Var) (cond d (given (list_all is_digit text) kind.Number) (cond o (after_dot text) (cond q (given (ends_string false text) kind.Str) (given (is_sign (b ∷ text)) kind.Sign))))) ≡ Some kind.Sign → is_sign (b ∷ text) ≡ true
    go true u d o q e = other (list_all is_word text) kind.Atom (λ h. cc) e
    go false true d o q e = other (list_all is_word text) kind.Var (λ h. cc) e
    go false false true o q e = other (list_all is_digit text) kind.Number (λ h. cc) e
    go false false false true q e = absurd (no_dot text e)
    go false false false false true e = other (ends_string false text) kind.Str (λ h. cc) e
    go false false false false false e = (is_given (is_sign (b ∷ text)) kind.Sign e).1

sign_known : (o : Option signs.Sign) → is_some o ≡ true → option_map_or words.Sign o words.Other ≡ words.Other → ⊥
sign_known None e h = cc
sign_known (Some s) e h = cc

word_known : (k : TokKind) (spelled : List ℕ) (p : Place) → kind_of spelled ≡ Some k → word (tok_of k spelled p) ≡ words.Other → ⊥
word_known kind.Atom spelled p e h = atom_known spelled h
word_known kind.Var spelled p e h = cc
word_known kind.Inner spelled p e h = cc
word_known kind.Number spelled p e h = cc
word_known kind.Str spelled p e h = cc
word_known kind.Sign spelled p e h = sign_known (sign_of spelled) (spells_sign spelled e) h
word_known kind.End spelled p e h = cc

-- ---- all tokens

abbrev All_known : Result (List Tok) LexFault → Type 0
All_known (Ok ts) = All IsKnown ts
All_known (Err fault) = Unit {0}

all_onto : (t : Tok) (r : Result (List Tok) LexFault) → IsKnown t → All_known r → All_known (onto t r)
all_onto t (Ok ts) k h = All-cons IsKnown t ts k h
all_onto t (Err fault) k h = tt

all : {p : Place} {bytes : List ℕ} {r : Result (List Tok) LexFault} → Lexes p bytes r → All_known r
all at_end = All-nil IsKnown
all (behind_blank n e h) = all h
all {p = p} {bytes = bytes} (behind_token {r = r} k n t a h q) = subst All_known (sym q) (all_onto (tok_of k (take n bytes) p) r (word_known k (take n bytes) p t.longest.spelled) (all h))
all (stops f) = tt

pub all_known : AllKnown
all_known bytes ts h = all h
