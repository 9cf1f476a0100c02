-- What is read is what the words ask for.
use Rattle.std.proofs.Common.{◌≡◌, ◌∙◌, ℕ, cond, List, [], ◌∷◌, length, Option, None, Some, is_some, option_and_then, refl, sym, ap, ap₂, subst, arith}
use Rattle.std.specs.Option.{MatchOption}
use Rattle.std.specs.List.{slice_get}
use Rattle.std.specs.Prelude.{option_map}
use mathlib.Core.Path.{fun_ext}
use Rattle.mas_top_words.specs.declared.table.Command.{Command}
use Rattle.mas_top_words.specs.declared.table.Command.TheVariants.{Run, Replay, Check, Demo, Renew, Record, Resume, Sites, Lint}
use Rattle.mas_top_words.specs.declared.table.Setting.{Setting}
use Rattle.mas_top_words.specs.declared.asked.Asked as code
use Rattle.mas_top_words.specs.Table.{form, name_count, command_of, commands}
use Rattle.mas_top_words.specs.Asked.{Asked, asked_by, asked_of}
use Rattle.mas_top_words.specs.Words.{WordsSoFar, silence, text_for, words_said, finished, asked, asked_after}
use Rattle.mas_top_words.specs.Plain.{Part, AreParts, names_in, texts_in, AskFor, ask, AskOnlyFor, AskForNothing}
use Rattle.mas_top_words.proofs.Parts.{IsCalm, follow, command_found, calm_parts}
use Rattle.mas_top_words.proofs.Telling.{Told, told, Tells, tells, tell_all, text_told, few_told}
use Rattle.mas_top_words.proofs.Sound.{Found, found, finds, find_word}

-- what parts that say this ask for
same_asked : (c : Command) (t : WordsSoFar) (ps : List Part) → Told c silence t ps
    → asked_by c t.names (text_for t.given) ≡ asked_by c (names_in ps) (λ o. slice_get (texts_in ps o) 0)
same_asked c t ps h = ap₂ (asked_by c) h.names (fun_ext (text_told c t ps h))

-- where something is asked for, each name of the command stands
count_run : (ns : List (List ℕ)) (f : Setting → Option (List ℕ)) (a : Asked) → asked_by Run ns f ≡ Some a → length ns ≡ 1
count_run [] f a e = absurd (grind arith)
count_run (n ∷ []) f a e = refl
count_run (n ∷ m ∷ ns) f a e = absurd (grind arith)

count_replay : (ns : List (List ℕ)) (f : Setting → Option (List ℕ)) (a : Asked) → asked_by Replay ns f ≡ Some a → length ns ≡ 2
count_replay [] f a e = absurd (grind arith)
count_replay (n ∷ []) f a e = absurd (grind arith)
count_replay (n ∷ m ∷ []) f a e = refl
count_replay (n ∷ m ∷ k ∷ ns) f a e = absurd (grind arith)

count_check : (ns : List (List ℕ)) (f : Setting → Option (List ℕ)) (a : Asked) → asked_by Check ns f ≡ Some a → length ns ≡ 2
count_check [] f a e = absurd (grind arith)
count_check (n ∷ []) f a e = absurd (grind arith)
count_check (n ∷ m ∷ []) f a e = refl
count_check (n ∷ m ∷ k ∷ ns) f a e = absurd (grind arith)

count_renew : (ns : List (List ℕ)) (f : Setting → Option (List ℕ)) (a : Asked) → asked_by Renew ns f ≡ Some a → length ns ≡ 2
count_renew [] f a e = absurd (grind arith)
count_renew (n ∷ []) f a e = absurd (grind arith)
count_renew (n ∷ m ∷ []) f a e = refl
count_renew (n ∷ m ∷ k ∷ ns) f a e = absurd (grind arith)

count_record : (ns : List (List ℕ)) (f : Setting → Option (List ℕ)) (a : Asked) → asked_by Record ns f ≡ Some a → length ns ≡ 2
count_record [] f a e = absurd (grind arith)
count_record (n ∷ []) f a e = absurd (grind arith)
count_record (n ∷ m ∷ []) f a e = refl
count_record (n ∷ m ∷ k ∷ ns) f a e = absurd (grind arith)

count_resume : (ns : List (List ℕ)) (f : Setting → Option (List ℕ)) (a : Asked) → asked_by Resume ns f ≡ Some a → length ns ≡ 2
count_resume [] f a e = absurd (grind arith)
count_resume (n ∷ []) f a e = absurd (grind arith)
count_resume (n ∷ m ∷ []) f a e = refl
count_resume (n ∷ m ∷ k ∷ ns) f a e = absurd (grind arith)

count_sites : (ns : List (List ℕ)) (f : Setting → Option (List ℕ)) (a : Asked) → asked_by Sites ns f ≡ Some a → length ns ≡ 2
count_sites [] f a e = absurd (grind arith)
count_sites (n ∷ []) f a e = absurd (grind arith)
count_sites (n ∷ m ∷ []) f a e = refl
count_sites (n ∷ m ∷ k ∷ ns) f a e = absurd (grind arith)

count_lint : (ns : List (List ℕ)) (f : Setting → Option (List ℕ)) (a : Asked) → asked_by Lint ns f ≡ Some a → length ns ≡ 1
count_lint [] f a e = absurd (grind arith)
count_lint (n ∷ []) f a e = refl
count_lint (n ∷ m ∷ ns) f a e = absurd (grind arith)

count_demo : (ns : List (List ℕ)) (f : Setting → Option (List ℕ)) (a : Asked) → asked_by Demo ns f ≡ Some a → length ns ≡ 1
count_demo [] f a e = absurd (grind arith)
count_demo (n ∷ []) f a e = refl
count_demo (n ∷ m ∷ ns) f a e = absurd (grind arith)

pub count : (c : Command) (ns : List (List ℕ)) (f : Setting → Option (List ℕ)) (a : Asked) → asked_by c ns f ≡ Some a → length ns ≡ name_count c
count Run ns f a e = count_run ns f a e
count Replay ns f a e = count_replay ns f a e
count Check ns f a e = count_check ns f a e
count Demo ns f a e = count_demo ns f a e
count Renew ns f a e = count_renew ns f a e
count Record ns f a e = count_record ns f a e
count Resume ns f a e = count_resume ns f a e
count Sites ns f a e = count_sites ns f a e
count Lint ns f a e = count_lint ns f a e

-- ---- what is read is asked for

pub calm : (c : Command) (t : WordsSoFar) (a : Asked) → finished c t ≡ Some a → t.awaits ≡ None
calm c t a e = go t.awaits e
  where
    go : (m : Option Setting) → cond (is_some m) None (asked_by c t.names (text_for t.given)) ≡ Some a → m ≡ None
    go None f = refl
    go (Some o) f = absurd (grind arith)

pub ended : (c : Command) (t : WordsSoFar) (m : Option Setting) → m ≡ None
    → cond (is_some m) None (asked_by c t.names (text_for t.given)) ≡ asked_by c t.names (text_for t.given)
ended c t m e = ap (λ n. cond (is_some n) None (asked_by c t.names (text_for t.given))) e

built : (c : Command) (ws : List (List ℕ)) (a : Asked) (t : WordsSoFar) → finished c t ≡ Some a → Found c (Some silence) ws t → AskFor ((form c).word ∷ ws) a
built c ws a t e (found ps p f) = ask c ws ps a (record {
  parts = p;
  names =
      count c (names_in ps) (λ o. slice_get (texts_in ps o) 0) a asks;
  options = few_told c t ps all;
}) asks
  where
    all : Told c silence t ps
    all = told c silence ps t f

    asks : asked_by c (names_in ps) (λ o. slice_get (texts_in ps o) 0) ≡ Some a
    asks = sym (same_asked c t ps all) ∙ sym (ended c t t.awaits (calm c t a e)) ∙ e

asked_found : (c : Command) (ws : List (List ℕ)) (a : Asked) (m : Option WordsSoFar) → words_said c (Some silence) ws ≡ m → option_and_then (finished c) m ≡ Some a
    → AskFor ((form c).word ∷ ws) a
asked_found c ws a None q e = absurd (grind arith)
asked_found c ws a (Some t) q e = built c ws a t e (finds c ws t (calm c t a e) (Some silence) refl q)

pub sound : (words : List (List ℕ)) (a : Asked) → asked words ≡ Some a → AskFor words a
sound [] a e = absurd (grind arith)
sound (w ∷ ws) a e = go (command_of w) refl e
  where
    go : (m : Option Command) → command_of w ≡ m → option_and_then (asked_after ws) m ≡ Some a → AskFor (w ∷ ws) a
    go None q f = absurd (grind arith)
    go (Some c) q f =
        subst (λ z. AskFor (z ∷ ws) a) (sym (find_word (λ d. (form d).word) commands w c q)) (asked_found c ws a (words_said c (Some silence) ws) refl f)

-- ---- what is asked for is read

read_parts : (c : Command) (ws : List (List ℕ)) (ps : List Part) (a : Asked) → AreParts ws ps → Tells c silence ps
    → asked_by c (names_in ps) (λ o. slice_get (texts_in ps o) 0) ≡ Some a → asked_after ws c ≡ Some a
read_parts c ws ps a p (tells t f) e = ap (option_and_then (finished c)) says ∙ ended c t t.awaits rests ∙ same_asked c t ps (told c silence ps t f) ∙ e
  where
    says : words_said c (Some silence) ws ≡ Some t
    says = follow c (Some silence) ws ps p refl ∙ f

    rests : t.awaits ≡ None
    rests = subst IsCalm f (calm_parts c (Some silence) ps refl)

pub complete : (words : List (List ℕ)) (a : Asked) → AskFor words a → asked words ≡ Some a
complete _ _ (ask c ws ps a p e) = ap (option_and_then (asked_after ws)) (command_found c) ∙ read_parts c ws ps a p.parts (tell_all c ps p.names p.options) e

-- ---- an answer is what the words ask for, and none comes exactly where they are not read

pub same_answer : (a b : Asked) → Some a ≡ Some b → a ≡ b
same_answer a b e = cc

no_answer : (a : Asked) → None ≡ Some a → ⊥
no_answer a e = grind arith

pub answers : (words : List (List ℕ)) (r : Option code.Asked) → option_map asked_of r ≡ asked words
    → MatchOption r (AskForNothing words) (λ a. AskOnlyFor words (asked_of a))
answers words None e = λ a h. no_answer a (e ∙ complete words a h)
answers words (Some r) e = record { it = sound words (asked_of r) (sym e); only = λ b h. same_answer b (asked_of r) (sym (complete words b h) ∙ sym e) }
