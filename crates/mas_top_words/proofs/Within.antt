-- What is asked for is within the limits.
use Rattle.std.proofs.Common.{◌≡◌, ℕ, Bool, true, false, cond, List, [], ◌∷◌, length}
use Rattle.std.proofs.Common.{Option, None, Some, is_some, option_and_then, ◌&&◌, refl, sym, ◌∙◌, subst, arith}
use Rattle.std.proofs.lemmas.Bool.Decides.{nat_tests}
use Rattle.std.specs.Option.{IfSome}
use Rattle.std.specs.Prelude.{nat_le, option_map}
use Rattle.mas_mind.specs.declared.mind.Level.{Level}
use Rattle.mas_report.specs.declared.options.Options.{Options}
use Rattle.mas_report.specs.Limits.{IsFrom, IsWithin, defaults}
use Rattle.mas_top_words.specs.declared.table.Command.{Command}
use Rattle.mas_top_words.specs.declared.table.Command.TheVariants.{Run, Replay, Check, Demo, Renew, Record, Resume, Sites, Lint}
use Rattle.mas_top_words.specs.declared.table.Setting.{Setting}
use Rattle.mas_top_words.specs.declared.table.Setting.TheVariants.{Workers, Cycles, Lead, Depth, Tries, Level as OfLevel}
use Rattle.mas_top_words.specs.declared.asked.Pool.{Pool}
use Rattle.mas_top_words.specs.declared.asked.Asked as code
use Rattle.mas_top_words.specs.Asked.{Asked, replay, record_to, resume_from, sites, asked_by, asked_of, run_with, recorded_with, sites_with, shows, demo_with, options_with, options_for, workers_for, site_workers_for, pool_for, number_for, level_for, IsPermitted}
use Rattle.mas_top_words.specs.Numbers.{number_in, within, digits_from, starts_number}
use Rattle.mas_top_words.specs.Words.{WordsSoFar, silence, text_for, words_said, finished, asked, asked_after}
use Rattle.mas_top_words.specs.Plain.{AreRead}
use Rattle.mas_top_words.specs.Table.{command_of}
use Rattle.mas_top_words.proofs.Answers.{sound, complete, same_answer}

between : (low high n : ℕ) → (nat_le low n && nat_le n high) ≡ true → IsFrom low high n
between low high n e = grind (arith, nat_tests)

-- a number that is permitted
number_within : (low high : ℕ) (text : List ℕ) → IfSome (number_in low high text) (IsFrom low high)
number_within low high text = go (starts_number text && nat_le (length text) 8) (digits_from 0 text)
  where
    here : (n : ℕ) (b : Bool) → (nat_le low n && nat_le n high) ≡ b → IfSome (cond b (Some n) None) (IsFrom low high)
    here n true q = between low high n q
    here n false q = tt

    go : (b : Bool) (m : Option ℕ) → IfSome (cond b (within low high m) None) (IsFrom low high)
    go true None = tt
    go true (Some n) = here n (nat_le low n && nat_le n high) refl
    go false m = tt

for_within : (usual low high : ℕ) (text : Option (List ℕ)) → IsFrom low high usual → IfSome (number_for usual low high text) (IsFrom low high)
for_within usual low high None u = u
for_within usual low high (Some text) u = number_within low high text

-- options of numbers that are permitted
together : (a b c d : Option ℕ) (l : Option Level) → IfSome a (IsFrom 1 1000000) → IfSome b (IsFrom 1 1000) → IfSome c (IsFrom 1 10000)
    → IfSome d (IsFrom 1 10000000)
    → IfSome (options_with a b c d l) IsWithin
together None b c d l p q r s = tt
together (Some a) None c d l p q r s = tt
together (Some a) (Some b) None d l p q r s = tt
together (Some a) (Some b) (Some c) None l p q r s = tt
together (Some a) (Some b) (Some c) (Some d) None p q r s = tt
together (Some a) (Some b) (Some c) (Some d) (Some l) p q r s = record { cycles = p; lead = q; depth = r; tries = s }

options_within : (text : Setting → Option (List ℕ)) → IfSome (options_for text) IsWithin
options_within text = together (number_for defaults.cycles 1 1000000 (text Cycles)) (number_for defaults.lead 1 1000 (text Lead))
    (number_for defaults.depth 1 10000 (text Depth)) (number_for defaults.tries 1 10000000 (text Tries)) (level_for defaults.level (text OfLevel))
    (for_within defaults.cycles 1 1000000 (text Cycles) (omega arith, omega arith)) (for_within defaults.lead 1 1000 (text Lead) (omega arith, omega arith))
    (for_within defaults.depth 1 10000 (text Depth) (omega arith, omega arith)) (for_within defaults.tries 1 10000000 (text Tries) (omega arith, omega arith))

workers_within : (text : Setting → Option (List ℕ)) → IfSome (workers_for text) (IsFrom 1 64)
workers_within text = for_within 4 1 64 (text Workers) (omega arith, omega arith)

site_workers_within : (text : Setting → Option (List ℕ)) → IfSome (site_workers_for text) (IsFrom 1 2)
site_workers_within text = for_within 2 1 2 (text Workers) (omega arith, omega arith)

run_within : (project : List ℕ) (o : Option Options) (w : Option ℕ) (l : Option Pool) → IfSome o IsWithin → IfSome w (IsFrom 1 64)
    → IfSome (run_with project o w l) IsPermitted
run_within project None w l p q = tt
run_within project (Some o) None l p q = tt
run_within project (Some o) (Some w) None p q = tt
run_within project (Some o) (Some w) (Some l) p q = (p, q)

recorded_within : (ask : Options → ℕ → Asked) (o : Option Options) (w : Option ℕ)
    → ((options : Options) (workers : ℕ) → IsWithin options × IsFrom 1 64 workers → IsPermitted (ask options workers))
    → IfSome o IsWithin → IfSome w (IsFrom 1 64) → IfSome (recorded_with ask o w) IsPermitted
recorded_within ask None w h p q = tt
recorded_within ask (Some o) None h p q = tt
recorded_within ask (Some o) (Some w) h p q = h o w (p, q)

sites_within : (one two : List ℕ) (o : Option Options) (w : Option ℕ) → IfSome o IsWithin → IfSome w (IsFrom 1 2) → IfSome (sites_with one two o w) IsPermitted
sites_within one two None w p q = tt
sites_within one two (Some o) None p q = tt
sites_within one two (Some o) (Some w) p q = go (shows o.level) refl
  where
    go : (b : Bool) → shows o.level ≡ b → IfSome (cond b (Some (sites one two o w)) None) IsPermitted
    go true e = (p, q, e)
    go false e = tt

demo_within : (k w : Option ℕ) → IfSome k (IsFrom 1 200) → IfSome w (IsFrom 1 64) → IfSome (demo_with k w) IsPermitted
demo_within None w p q = tt
demo_within (Some k) None p q = tt
demo_within (Some k) (Some w) p q = (p, q)

replay_within : (project schedule : List ℕ) (o : Option Options) → IfSome o IsWithin → IfSome (option_map (replay project schedule) o) IsPermitted
replay_within project schedule None p = tt
replay_within project schedule (Some o) p = p

by_within : (c : Command) (ns : List (List ℕ)) (text : Setting → Option (List ℕ)) → IfSome (asked_by c ns text) IsPermitted
by_within Run (n ∷ []) text = run_within n (options_for text) (workers_for text) (pool_for text) (options_within text) (workers_within text)
by_within Run [] text = tt
by_within Run (n ∷ m ∷ ns) text = tt
by_within Replay (n ∷ m ∷ []) text = replay_within n m (options_for text) (options_within text)
by_within Replay [] text = tt
by_within Replay (n ∷ []) text = tt
by_within Replay (n ∷ m ∷ k ∷ ns) text = tt
by_within Check (n ∷ m ∷ []) text = tt
by_within Check [] text = tt
by_within Check (n ∷ []) text = tt
by_within Check (n ∷ m ∷ k ∷ ns) text = tt
by_within Demo (n ∷ []) text = demo_within (number_in 1 200 n) (workers_for text) (number_within 1 200 n) (workers_within text)
by_within Demo [] text = tt
by_within Demo (n ∷ m ∷ ns) text = tt
by_within Renew (n ∷ m ∷ []) text = tt
by_within Renew [] text = tt
by_within Renew (n ∷ []) text = tt
by_within Renew (n ∷ m ∷ k ∷ ns) text = tt
by_within Record (n ∷ m ∷ []) text = recorded_within (record_to n m) (options_for text) (workers_for text) (λ o w p. p) (options_within text) (workers_within text)
by_within Record [] text = tt
by_within Record (n ∷ []) text = tt
by_within Record (n ∷ m ∷ k ∷ ns) text = tt
by_within Resume (n ∷ m ∷ []) text = recorded_within (resume_from n m) (options_for text) (workers_for text) (λ o w p. p) (options_within text) (workers_within text)
by_within Resume [] text = tt
by_within Resume (n ∷ []) text = tt
by_within Resume (n ∷ m ∷ k ∷ ns) text = tt
by_within Sites (n ∷ m ∷ []) text = sites_within n m (options_for text) (site_workers_for text) (options_within text) (site_workers_within text)
by_within Sites [] text = tt
by_within Sites (n ∷ []) text = tt
by_within Sites (n ∷ m ∷ k ∷ ns) text = tt
by_within Lint (n ∷ []) text = tt
by_within Lint [] text = tt
by_within Lint (n ∷ m ∷ ns) text = tt

finished_within : (c : Command) (s : WordsSoFar) → IfSome (finished c s) IsPermitted
finished_within c s = go s.awaits
  where
    go : (m : Option Setting) → IfSome (cond (is_some m) None (asked_by c s.names (text_for s.given))) IsPermitted
    go None = by_within c s.names (text_for s.given)
    go (Some o) = tt

after_within : (c : Command) (m : Option WordsSoFar) → IfSome (option_and_then (finished c) m) IsPermitted
after_within c None = tt
after_within c (Some s) = finished_within c s

asked_within : (words : List (List ℕ)) → IfSome (asked words) IsPermitted
asked_within [] = tt
asked_within (w ∷ ws) = go (command_of w)
  where
    go : (m : Option Command) → IfSome (option_and_then (asked_after ws) m) IsPermitted
    go None = tt
    go (Some c) = after_within c (words_said c (Some silence) ws)

of_map : (r : Option code.Asked) → IfSome (option_map asked_of r) IsPermitted → IfSome r (λ a. IsPermitted (asked_of a))
of_map None h = tt
of_map (Some a) h = h

-- what is read is within the limits
pub answer_within : (words : List (List ℕ)) (r : Option code.Asked) → option_map asked_of r ≡ asked words → IfSome r (λ a. IsPermitted (asked_of a))
answer_within words r e = of_map r (subst (λ m. IfSome m IsPermitted) (sym e) (asked_within words))

-- words that ask for something ask for one thing
pub read_one : (words : List (List ℕ)) → is_some (asked words) ≡ true → AreRead words
read_one words e = go (asked words) refl e (asked_within words)
  where
    go : (m : Option Asked) → asked words ≡ m → is_some m ≡ true → IfSome m IsPermitted → AreRead words
    go None f g p = absurd cc
    go (Some a) f g p = record {
      asked = a;
      only = record { it = sound words a f; only = λ b h. same_answer b a (sym (complete words b h) ∙ f) };
      permitted = p;
    }
