-- What the tokens of printed texts are to a grammar.
use Rattle.std.proofs.Common.{◌≡◌, inl, inr, ℕ, Bool, true, false, cond, List, refl, sym, subst}
use Rattle.std.specs.Prelude.{◌⊎◌, ◌&&◌, ◌||◌, ◌==◌, not, codes}
use Rattle.std.specs.Str.{bytes_eq}
use Rattle.std.proofs.lemmas.Slice.Eq.{bytes_eq-Decides}
use Rattle.asl_term.specs.declared.syntax.Var.{Var}
use Rattle.asl_term.specs.Texts.{is_unnamed, var_text}
use Rattle.asl_lexer.specs.declared.token.Word.{Word}
use Rattle.asl_lexer.specs.declared.token.Word.TheVariants as words
use Rattle.asl_lexer.specs.Words.{atom_word}
use Rattle.asl_lexer.specs.Bare as bares
use Rattle.asl_lexer.specs.Bare.{bare_word}
use Rattle.asl_lexer.specs.Bare.{is_atom, is_var}
use Rattle.asl_print.specs.Spelled.{is_functor, is_functor_word, is_written_var}
use Rattle.asl_print.specs.Means.{NamesAs, unnamed, named, TokensMean}
use Rattle.asl_lexer.proofs.Table.{mark_word}
use Rattle.asl_lexer.proofs.Bytes.{both, not_true}
use Rattle.asl_lexer.proofs.NumberTexts.{numbers_read}
use Rattle.asl_print.proofs.Terms.{var_source}

functor_word : (w : Word) → is_functor_word false w ≡ true → w ≡ words.Atom
functor_word words.Atom e = refl
functor_word words.True e = absurd cc
functor_word words.False e = absurd cc
functor_word words.Not e = absurd cc
functor_word words.Div e = absurd cc
functor_word words.Mod e = absurd cc
functor_word words.Var e = absurd cc
functor_word words.Inner e = absurd cc
functor_word words.Number e = absurd cc
functor_word words.Str e = absurd cc
functor_word (words.Sign s) e = absurd cc
functor_word words.End e = absurd cc
functor_word words.Other e = absurd cc

functors : (text : List ℕ) → is_functor false text ≡ true → bare_word (bares.atom text) ≡ words.Atom
functors text f = functor_word (atom_word text) (both (is_atom text) (is_functor_word false (atom_word text)) f).1

same_bytes : (a b : List ℕ) → bytes_eq a b ≡ true → a ≡ b
same_bytes a b e = (bytes_eq-Decides a b).0 e

alone : (text : List ℕ) → is_functor true text ≡ true → (bare_word (bares.atom text) ≡ words.Atom) ⊎ ((text ≡ codes "true") ⊎ (text ≡ codes "false"))
unfolding atom_word
alone text f = go (bytes_eq text (codes "not")) (bytes_eq text (codes "div")) (bytes_eq text (codes "mod")) (bytes_eq text (codes "true")) refl
    (bytes_eq text (codes "false")) refl (both (is_atom text) (is_functor_word true (atom_word text)) f).1
  where
    go : (a b c d : Bool) → bytes_eq text (codes "true") ≡ d → (e : Bool) → bytes_eq text (codes "false") ≡ e
        → is_functor_word true (cond a words.Not (cond b words.Div (cond c words.Mod (cond d words.True (cond e words.False words.Atom))))) ≡ true
        → (cond a words.Not (cond b words.Div (cond c words.Mod (cond d words.True (cond e words.False words.Atom)))) ≡ words.Atom) ⊎
        ((text ≡ codes "true") ⊎ (text ≡ codes "false"))
    go true b c d p e q h = absurd cc
    go false true c d p e q h = absurd cc
    go false false true d p e q h = absurd cc
    go false false false true p e q h = inr (inl (same_bytes text (codes "true") p))
    go false false false false p true q h = inr (inr (same_bytes text (codes "false") q))
    go false false false false p false q h = inl refl

variables : (v : Var) → is_written_var v ≡ true → NamesAs v (var_text v)
variables v w =
    let h = both (v.number == 0) (is_unnamed v.name || (is_var v.name && not (bytes_eq v.name (codes "_")))) w in
    go (is_unnamed v.name) refl (var_source v h.0 (is_unnamed v.name) refl) h.1
  where
    go : (u : Bool) → is_unnamed v.name ≡ u → var_text v ≡ cond u (codes "_") v.name → (u || (is_var v.name && not (bytes_eq v.name (codes "_")))) ≡ true
        → NamesAs v (var_text v)
    go true f e h = subst (NamesAs v) (sym e) (unnamed f)
    go false f e h = subst (NamesAs v) (sym e)
        (named f (not_true (bytes_eq v.name (codes "_")) (both (is_var v.name) (not (bytes_eq v.name (codes "_"))) h).1))

pub tokens_mean : TokensMean
tokens_mean = record { marks = mark_word; functors = functors; alone = alone; numbers = numbers_read; variables = variables }
