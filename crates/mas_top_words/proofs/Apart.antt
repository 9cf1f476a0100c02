-- Words that are read are taken apart by clap as they are read.
use Rattle.std.proofs.Common.{◌≡◌, ◌∙◌, ◌<◌, ◌+◌, ℕ, Bool, true, false, cond, List, []}
use Rattle.std.proofs.Common.{◌∷◌, Option, None, Some, is_some, option_and_then, ◌&&◌, length, refl, ap, arith, ap₂}
use Rattle.std.specs.List.{fold, list_all, slice_get}
use Rattle.std.specs.Prelude.{option_map}
use Rattle.clap.specs.Simple.{Shape, built, entered, matches_of}
use Rattle.clap.specs.Takes.{default_passes, entered_passes, is_valid, settle_passes, takes as app_takes, walk_passes}
use Rattle.clap.specs.Walk.{Held, Row, Rule, Text, Walk, default_rows, finished, first_of}
use Rattle.clap.specs.Walk.{has_row, is_empty, nothing_held, reading_by, settled, walk, walk_from, with_default}
use Rattle.mas_top_words.specs.declared.table.Command.{Command}
use Rattle.mas_top_words.specs.declared.table.Command.TheVariants.{Run, Replay, Check, Demo, Renew, Record, Resume, Sites, Lint}
use Rattle.mas_top_words.specs.declared.table.Setting.{Setting}
use Rattle.mas_top_words.specs.declared.table.Setting.TheVariants.{Workers, Pool, Cycles, Lead, Depth, Tries, Level}
use Rattle.mas_top_words.specs.Table.{name_count}
use Rattle.mas_top_words.specs.Words.{WordsSoFar, silence, text_for, words_said}
use Rattle.mas_top_words.specs.Apps.{app_for, id_of}
use Rattle.mas_top_words.proofs.Sound.{Found, found, finds}
use Rattle.mas_top_words.proofs.Goes.{Walks, walks, goes}
use Rattle.mas_top_words.proofs.Rows.{row_in, text_row}
use Rattle.mas_top_words.proofs.Rules.{by_index, by_long, name_by_id, name_id, option_by_id, rules_for}
use Rattle.mas_top_words.proofs.Steps.{stand}
use Rattle.mas_top_words.proofs.Telling.{both_true}
use Rattle.mas_top_words.proofs.Walks.{IsTable, Stands}

-- clap takes the words, and its matches have the names and the texts of what was said
pub record TakesApart (c : Command) (words : List Text) (t : WordsSoFar) : Type 0 where
  pub takes : app_takes (app_for c) words ≡ true
  pub options : (o : Setting) → first_of (id_of o) (matches_of (app_for c) words) ≡ text_for t.given o
  pub names : (k : ℕ) → k < name_count c → first_of (name_id c k) (matches_of (app_for c) words) ≡ slice_get t.names k

table : (c : Command) → IsTable c (rules_for c)
table c = record { long = by_long c; option = option_by_id c; index = by_index c; name = name_by_id c }

abbrev shape_for : Command → Shape
shape_for c = (built (app_for c)).top

-- before any word
stands_silent : (c : Command) → Stands c (rules_for c) (shape_for c).args_override_self silence nothing_held
stands_silent c = record { passes = refl; options = none; names = λ k h. refl }
  where
    none : (o : Setting) → row_in (id_of o) [] ≡ option_map (text_row (id_of o)) (text_for silence.given o)
    none Workers = refl
    none Pool = refl
    none Cycles = refl
    none Lead = refl
    none Depth = refl
    none Tries = refl
    none Level = refl

-- ---- no option has a value of its own

empty_list : (xs : List Text) → is_empty xs ≡ true → xs ≡ []
empty_list [] e = refl
empty_list (x ∷ xs) e = absurd (grind arith)

either_way : (b : Bool) (rows : List Row) → cond b rows rows ≡ rows
either_way true rows = refl
either_way false rows = refl

default_kept : (rows : List Row) (a : Rule) → is_empty a.defaults ≡ true → with_default rows a ≡ rows
default_kept rows a e =
    ap (λ ds. cond (has_row a.id rows) rows (default_rows a.id (reading_by a) ds rows)) (empty_list a.defaults e) ∙ either_way (has_row a.id rows) rows

defaults_kept : (rules : List Rule) (rows : List Row) → list_all (λ a. is_empty a.defaults) rules ≡ true → fold with_default rows rules ≡ rows
defaults_kept [] rows e = refl
defaults_kept (a ∷ rest) rows e =
    ap (λ z. fold with_default z rest) (default_kept rows a (both_true (is_empty a.defaults) (list_all (λ b. is_empty b.defaults) rest) e).0)
    ∙ defaults_kept rest rows (both_true (is_empty a.defaults) (list_all (λ b. is_empty b.defaults) rest) e).1

finished_rows : (c : Command) (h : Held) → finished (rules_for c) h ≡ (settled (rules_for c) h).rows
finished_rows Run h = defaults_kept (rules_for Run) (settled (rules_for Run) h).rows refl
finished_rows Replay h = defaults_kept (rules_for Replay) (settled (rules_for Replay) h).rows refl
finished_rows Check h = defaults_kept (rules_for Check) (settled (rules_for Check) h).rows refl
finished_rows Demo h = defaults_kept (rules_for Demo) (settled (rules_for Demo) h).rows refl
finished_rows Renew h = defaults_kept (rules_for Renew) (settled (rules_for Renew) h).rows refl
finished_rows Record h = defaults_kept (rules_for Record) (settled (rules_for Record) h).rows refl
finished_rows Resume h = defaults_kept (rules_for Resume) (settled (rules_for Resume) h).rows refl
finished_rows Sites h = defaults_kept (rules_for Sites) (settled (rules_for Sites) h).rows refl
finished_rows Lint h = defaults_kept (rules_for Lint) (settled (rules_for Lint) h).rows refl

-- ---- the whole parse

and_true : (a b : Bool) → a ≡ true → b ≡ true → (a && b) ≡ true
and_true a b e f = ap₂ (λ x y. x && y) e f

abbrev level : Command → List Text → Walk → Bool
level c words w = entered_passes (built (app_for c)) w.stopped && (walk_passes (shape_for c) [] (walk_from nothing_held) words
    && (settle_passes (rules_for c) (shape_for c).args_override_self w.held && (list_all default_passes (rules_for c)
    && is_valid (shape_for c) (finished (rules_for c) w.held) (is_some (entered (built (app_for c)) w.stopped)))))

takes_level : (c : Command) (words : List Text) → app_takes (app_for c) words ≡ level c words (walk (rules_for c) [] nothing_held words)
takes_level Run words = refl
takes_level Replay words = refl
takes_level Check words = refl
takes_level Demo words = refl
takes_level Renew words = refl
takes_level Record words = refl
takes_level Resume words = refl
takes_level Sites words = refl
takes_level Lint words = refl

level_stand : (c : Command) (words : List Text) (h : Held) (n : ℕ) → level c words (stand h n)
    ≡ (walk_passes (shape_for c) [] (walk_from nothing_held) words && (settle_passes (rules_for c) (shape_for c).args_override_self h && true))
level_stand Run words h n = refl
level_stand Replay words h n = refl
level_stand Check words h n = refl
level_stand Demo words h n = refl
level_stand Renew words h n = refl
level_stand Record words h n = refl
level_stand Resume words h n = refl
level_stand Sites words h n = refl
level_stand Lint words h n = refl

matches_walk : (c : Command) (words : List Text) → matches_of (app_for c) words ≡ finished (rules_for c) (walk (rules_for c) [] nothing_held words).held
matches_walk Run words = refl
matches_walk Replay words = refl
matches_walk Check words = refl
matches_walk Demo words = refl
matches_walk Renew words = refl
matches_walk Record words = refl
matches_walk Resume words = refl
matches_walk Sites words = refl
matches_walk Lint words = refl

first_text : (id : Text) (m : Option Text) → option_and_then (λ (r : Row). slice_get r.values 0) (option_map (text_row id) m) ≡ m
first_text id None = refl
first_text id (Some v) = refl

ended : (c : Command) (words : List Text) (t : WordsSoFar) → Walks c (shape_for c) t (stand nothing_held 1) words → TakesApart c words t
ended c words t (walks h e p st) = record {
  takes = takes_level c words ∙ ap (level c words) e ∙ level_stand c words h (1 + length t.names)
      ∙ and_true (walk_passes (shape_for c) [] (walk_from nothing_held) words) (settle_passes (rules_for c) (shape_for c).args_override_self h && true) p
      (ap (λ b. b && true) st.passes);
  options = λ o. ap (first_of (id_of o)) rows ∙ ap (option_and_then (λ (r : Row). slice_get r.values 0)) (st.options o)
      ∙ first_text (id_of o) (text_for t.given o);
  names = λ k l. ap (first_of (name_id c k)) rows ∙ ap (option_and_then (λ (r : Row). slice_get r.values 0)) (st.names k l)
      ∙ first_text (name_id c k) (slice_get t.names k);
}
  where
    rows : matches_of (app_for c) words ≡ (settled (rules_for c) h).rows
    rows = matches_walk c words ∙ ap (λ w. finished (rules_for c) w.held) e ∙ finished_rows c h

pub taken_apart : (c : Command) (words : List Text) (t : WordsSoFar) → words_said c (Some silence) words ≡ Some t → t.awaits ≡ None → TakesApart c words t
taken_apart c words t e a = go (finds c words t a (Some silence) refl e)
  where
    go : Found c (Some silence) words t → TakesApart c words t
    go (found ps p f) = ended c words t (goes c (shape_for c) (table c) t words ps p silence nothing_held (stands_silent c) f)
