-- What the tokens of printed texts are to a grammar.
use Rattle.std.specs.Prelude.{◌≡◌, ◌≤◌, ◌⊎◌, ℕ, true, false, List, Some, codes}
use Rattle.std.specs.Fmt.{decimal}
use Rattle.std.specs.Str.{bytes_eq}
use Rattle.asl_term.specs.declared.syntax.Var.{Var}
use Rattle.asl_term.specs.Texts.{is_unnamed, var_text}
use Rattle.asl_lexer.specs.declared.token.Sign as signs
use Rattle.asl_lexer.specs.declared.token.Word.TheVariants as words
use Rattle.asl_lexer.specs.Scan.{value}
use Rattle.asl_lexer.specs.Bare.{mark, atom, bare_word}
use Rattle.asl_print.specs.Spelled.{is_functor, is_written_var}

-- what the text of a variable of a source is: `_`, or a name that is not `_`
pub data NamesAs (v : Var) : List ℕ → Type 0 where
  unnamed : is_unnamed v.name ≡ true → NamesAs v (codes "_")
  named : is_unnamed v.name ≡ false → bytes_eq v.name (codes "_") ≡ false → NamesAs v v.name

pub record TokensMean : Type 0 where
  pub marks : (s : signs.Sign) → bare_word (mark s) ≡ words.Sign s
  -- a functor is no reserved word; alone it may be `true` or `false`
  pub functors : (text : List ℕ) → is_functor false text ≡ true → bare_word (atom text) ≡ words.Atom
  pub alone : (text : List ℕ) → is_functor true text ≡ true
      → (bare_word (atom text) ≡ words.Atom) ⊎ ((text ≡ codes "true") ⊎ (text ≡ codes "false"))
  pub numbers : (n : ℕ) → n ≤ 9223372036854775807 → value (decimal n) ≡ Some n
  pub variables : (v : Var) → is_written_var v ≡ true → NamesAs v (var_text v)
