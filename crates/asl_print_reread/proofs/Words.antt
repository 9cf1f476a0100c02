-- What holds of each word that an atom's text can be.
use Rattle.std.proofs.Common.{◌≡◌, ℕ, Bool, true, false, cond, List, refl, sym, subst}
use Rattle.std.specs.Prelude.{codes}
use Rattle.std.specs.Str.{bytes_eq}
use Rattle.asl_lexer.specs.declared.token.Word.{Word}
use Rattle.asl_lexer.specs.declared.token.Word.TheVariants as words
use Rattle.asl_lexer.specs.Words.{atom_word}

pub record AtWords (P : Word → Type 0) (text : List ℕ) : Type 0 where
  pub at_not : P words.Not
  pub at_div : P words.Div
  pub at_mod : P words.Mod
  pub at_true : P words.True
  pub at_false : P words.False
  pub at_atom : atom_word text ≡ words.Atom → P words.Atom

pub by_words : (P : Word → Type 0) (text : List ℕ) → AtWords P text → P (atom_word text)
unfolding atom_word
by_words P text at = go (bytes_eq text (codes "not")) (bytes_eq text (codes "div")) (bytes_eq text (codes "mod")) (bytes_eq text (codes "true"))
    (bytes_eq text (codes "false")) refl
  where
    as_word : (w : Word) → atom_word text ≡ w → P w → P (atom_word text)
    as_word w e p = subst P (sym e) p

    go : (a b c d e : Bool) → atom_word text ≡ cond a words.Not (cond b words.Div (cond c words.Mod (cond d words.True (cond e words.False words.Atom))))
        → P (atom_word text)
    go true b c d e h = as_word _ h at.at_not
    go false true c d e h = as_word _ h at.at_div
    go false false true d e h = as_word _ h at.at_mod
    go false false false true e h = as_word _ h at.at_true
    go false false false false true h = as_word _ h at.at_false
    go false false false false false h = as_word _ h (at.at_atom h)
