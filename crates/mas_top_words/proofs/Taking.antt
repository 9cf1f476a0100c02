-- What is read is what clap's matches ask for.
use Rattle.std.proofs.Common.{◌≡◌, ◌∙◌, List, [], ◌∷◌, length, Option, None, Some, is_some, option_and_then, refl, sym, ap, ap₂, arith}
use Rattle.std.specs.List.{slice_get}
use Rattle.std.specs.Prelude.{option_map}
use mathlib.Core.Path.{fun_ext}
use Rattle.clap.specs.Simple.{matches_of}
use Rattle.clap.specs.Takes.{takes as app_takes}
use Rattle.clap.specs.Walk.{Row, Text, first_of}
use Rattle.std.proofs.Common.{true}
use Rattle.mas_top_words.specs.declared.table.Command.{Command}
use Rattle.mas_top_words.specs.declared.table.Command.TheVariants.{Run, Replay, Check, Demo, Renew, Record, Resume, Sites, Lint}
use Rattle.mas_top_words.specs.declared.table.Setting.{Setting}
use Rattle.mas_top_words.specs.declared.table.Setting.TheVariants.{Workers, Pool, Cycles, Lead, Depth, Tries, Level}
use Rattle.mas_top_words.specs.declared.asked.Asked as code
use Rattle.mas_top_words.specs.Table.{name_count}
use Rattle.mas_top_words.specs.Asked.{Asked, asked_by, asked_of}
use Rattle.mas_top_words.specs.Words.{WordsSoFar, asked_after, finished, listed, silence, text_for, words_said}
use Rattle.mas_top_words.specs.Apps.{app_for, id_of}
use Rattle.mas_top_words.specs.Taken.{given_among, names_among}
use Rattle.mas_top_words.proofs.Answers.{calm, count, ended}
use Rattle.mas_top_words.proofs.Apart.{TakesApart, taken_apart}

-- clap takes the words, and its matches ask for this
pub record IsTaken (c : Command) (words : List Text) (a : Asked) : Type 0 where
  pub takes : app_takes (app_for c) words ≡ true
  pub asks : asked_by c (names_among c (matches_of (app_for c) words)) (text_for (given_among (matches_of (app_for c) words))) ≡ Some a

one_name : (ns : List Text) → length ns ≡ 1 → listed (slice_get ns 0) None ≡ ns
one_name [] e = absurd (omega arith)
one_name (n ∷ []) e = refl
one_name (n ∷ m ∷ ns) e = absurd (omega arith)

two_names : (ns : List Text) → length ns ≡ 2 → listed (slice_get ns 0) (slice_get ns 1) ≡ ns
two_names [] e = absurd (omega arith)
two_names (n ∷ []) e = absurd (omega arith)
two_names (n ∷ m ∷ []) e = refl
two_names (n ∷ m ∷ k ∷ ns) e = absurd (omega arith)

same_names : (c : Command) (words : List Text) (t : WordsSoFar) → TakesApart c words t → length t.names ≡ name_count c
    → names_among c (matches_of (app_for c) words) ≡ t.names
same_names Run words t h e = ap (λ m. listed m None) (h.names 0 (omega arith)) ∙ one_name t.names e
same_names Replay words t h e = ap₂ listed (h.names 0 (omega arith)) (h.names 1 (omega arith)) ∙ two_names t.names e
same_names Check words t h e = ap₂ listed (h.names 0 (omega arith)) (h.names 1 (omega arith)) ∙ two_names t.names e
same_names Demo words t h e = ap (λ m. listed m None) (h.names 0 (omega arith)) ∙ one_name t.names e
same_names Renew words t h e = ap₂ listed (h.names 0 (omega arith)) (h.names 1 (omega arith)) ∙ two_names t.names e
same_names Record words t h e = ap₂ listed (h.names 0 (omega arith)) (h.names 1 (omega arith)) ∙ two_names t.names e
same_names Resume words t h e = ap₂ listed (h.names 0 (omega arith)) (h.names 1 (omega arith)) ∙ two_names t.names e
same_names Sites words t h e = ap₂ listed (h.names 0 (omega arith)) (h.names 1 (omega arith)) ∙ two_names t.names e
same_names Lint words t h e = ap (λ m. listed m None) (h.names 0 (omega arith)) ∙ one_name t.names e

text_among : (rows : List Row) (o : Setting) → text_for (given_among rows) o ≡ first_of (id_of o) rows
text_among rows Workers = refl
text_among rows Pool = refl
text_among rows Cycles = refl
text_among rows Lead = refl
text_among rows Depth = refl
text_among rows Tries = refl
text_among rows Level = refl

said_taken : (c : Command) (words : List Text) (t : WordsSoFar) (a : Asked) → TakesApart c words t → asked_by c t.names (text_for t.given) ≡ Some a
    → IsTaken c words a
said_taken c words t a h e = record {
  takes = h.takes;
  asks = ap₂ (asked_by c) (same_names c words t h (count c t.names (text_for t.given) a e))
      (fun_ext (λ o. text_among (matches_of (app_for c) words) o ∙ h.options o)) ∙ e;
}

after_taken : (c : Command) (words : List Text) (a : Asked) → asked_after words c ≡ Some a → IsTaken c words a
after_taken c words a e = go (words_said c (Some silence) words) refl e
  where
    go : (m : Option WordsSoFar) → words_said c (Some silence) words ≡ m → option_and_then (finished c) m ≡ Some a → IsTaken c words a
    go None q f = absurd (grind arith)
    go (Some t) q f = said_taken c words t a (taken_apart c words t q (calm c t a f)) (sym (ended c t t.awaits (calm c t a f)) ∙ f)

-- where something is asked for, clap takes the words
pub taken_words : (c : Command) (words : List Text) → is_some (asked_after words c) ≡ true → app_takes (app_for c) words ≡ true
taken_words c words e = go (asked_after words c) refl e
  where
    go : (m : Option Asked) → asked_after words c ≡ m → is_some m ≡ true → app_takes (app_for c) words ≡ true
    go None q f = absurd (grind arith)
    go (Some a) q f = (after_taken c words a q).takes

-- and its matches ask for the same
pub taken_same : (c : Command) (words : List Text) (rows : List Row) → is_some (asked_after words c) ≡ true → rows ≡ matches_of (app_for c) words
    → asked_by c (names_among c rows) (text_for (given_among rows)) ≡ asked_after words c
taken_same c words rows e r = ap (λ z. asked_by c (names_among c z) (text_for (given_among z))) r ∙ go (asked_after words c) refl e
  where
    go : (m : Option Asked) → asked_after words c ≡ m → is_some m ≡ true
        → asked_by c (names_among c (matches_of (app_for c) words)) (text_for (given_among (matches_of (app_for c) words))) ≡ asked_after words c
    go None q f = absurd (grind arith)
    go (Some a) q f = (after_taken c words a q).asks ∙ sym q

-- an answer of the code is one of the definition
pub read_some : (r : Option code.Asked) (m : Option Asked) → is_some r ≡ true → option_map asked_of r ≡ m → is_some m ≡ true
read_some None m e f = absurd (grind arith)
read_some (Some a) m e f = sym (ap is_some f)
