-- How clap's walk goes over the words of one part.
use Rattle.std.proofs.Common.{◌≡◌, ◌∙◌, ◌+◌, ◌<◌, ℕ, Bool, true, false, not, cond, List, [], ◌∷◌, ◌++◌, None, Some, ◌&&◌, eqb, refl, ap, arith, min, nat_lt}
use Rattle.std.specs.Str.{bytes_eq}
use Rattle.clap.specs.Lexer.{long_of, short_of, usize_max}
use Rattle.clap.specs.Walk.{Held, Rule, Text, Walk, after_flag, after_step, arg_by_id, arg_by_index, arg_by_long, idle, is_pending}
use Rattle.clap.specs.Walk.{long_met, long_or_other, next, option, option_word, plain_word, pushed, reacted}
use Rattle.clap.specs.Walk.{settled, short_or_plain, to_positional, trailing, value, walked, walked_from, word_met}
use Rattle.mas_top_words.specs.declared.table.Command.{Command}
use Rattle.mas_top_words.specs.declared.table.Setting.{Setting}
use Rattle.mas_top_words.specs.declared.table.Setting.TheVariants.{Workers, Pool, Cycles, Lead, Depth, Tries, Level}
use Rattle.mas_top_words.specs.Table.{key}
use Rattle.mas_top_words.specs.Plain.{is_undashed}
use Rattle.mas_top_words.specs.Apps.{id_of}
use Rattle.mas_top_words.proofs.Rules.{option_built, name_built, name_id, same_id, same_self}

-- between two words: no text is awaited, or that of an option
abbrev pub stand : Held → ℕ → Walk
stand h n = record { held = h; waiting = idle; position = n; is_trailing = false; stopped = None }

abbrev pub await : Held → Text → ℕ → Walk
await h id n = record { held = h; waiting = option id; position = n; is_trailing = false; stopped = None }

walked_is : (rules : List Rule) (w : Walk) (word : Text) → walked rules [] w word ≡ walked_from rules [] w.stopped w word
unfolding walked
walked_is rules w word = refl

-- ---- words without a hyphen

undashed : (b : ℕ) → not (eqb b 45) ≡ true → eqb b 45 ≡ false
undashed b u = grind arith

pub no_dashes : (w : Text) → is_undashed w ≡ true → bytes_eq w (45 ∷ 45 ∷ []) ≡ false
no_dashes [] u = absurd (grind arith)
no_dashes (b ∷ bs) u = rw (undashed b u) refl

pub no_long : (w : Text) → is_undashed w ≡ true → long_of w ≡ None
no_long [] u = absurd (grind arith)
no_long (b ∷ bs) u = rw (undashed b u) refl

pub no_short : (w : Text) → is_undashed w ≡ true → short_of w ≡ None
no_short [] u = absurd (grind arith)
no_short (b ∷ bs) u = rw (undashed b u) refl

pub plain_met : (rules : List Rule) (n : ℕ) (w : Text) (h : Held) → is_undashed w ≡ true → word_met rules [] false idle n w h ≡ (h, value)
plain_met rules n w h u = ap (λ b. cond b (h, trailing n) (long_or_other rules idle w (long_of w) h)) (no_dashes w u)
    ∙ ap (λ m. long_or_other rules idle w m h) (no_long w u) ∙ ap (λ m. short_or_plain rules idle w m h) (no_short w u)

text_met : (rules : List Rule) (id : Text) (n : ℕ) (w : Text) (h : Held) → is_undashed w ≡ true
    → word_met rules [] false (option id) n w h ≡ plain_word rules (option id) w h
text_met rules id n w h u = ap (λ b. cond b (h, trailing n) (long_or_other rules (option id) w (long_of w) h)) (no_dashes w u)
    ∙ ap (λ m. long_or_other rules (option id) w m h) (no_long w u) ∙ ap (λ m. short_or_plain rules (option id) w m h) (no_short w u)

-- ---- an option's word

pub key_dashes : (o : Setting) → bytes_eq (key o) (45 ∷ 45 ∷ []) ≡ false
key_dashes Workers = refl
key_dashes Pool = refl
key_dashes Cycles = refl
key_dashes Lead = refl
key_dashes Depth = refl
key_dashes Tries = refl
key_dashes Level = refl

pub key_long : (o : Setting) → long_of (key o) ≡ Some (id_of o, None)
key_long Workers = refl
key_long Pool = refl
key_long Cycles = refl
key_long Lead = refl
key_long Depth = refl
key_long Tries = refl
key_long Level = refl

pub joined_dashes : (o : Setting) (x : ℕ) (v : Text) → bytes_eq (key o ++ 61 ∷ x ∷ v) (45 ∷ 45 ∷ []) ≡ false
joined_dashes Workers x v = refl
joined_dashes Pool x v = refl
joined_dashes Cycles x v = refl
joined_dashes Lead x v = refl
joined_dashes Depth x v = refl
joined_dashes Tries x v = refl
joined_dashes Level x v = refl

pub joined_long : (o : Setting) (x : ℕ) (v : Text) → long_of (key o ++ 61 ∷ x ∷ v) ≡ Some (id_of o, Some (x ∷ v))
joined_long Workers x v = refl
joined_long Pool x v = refl
joined_long Cycles x v = refl
joined_long Lead x v = refl
joined_long Depth x v = refl
joined_long Tries x v = refl
joined_long Level x v = refl

-- what is held behind an option's word
abbrev pub keyed : List Rule → Setting → Held → Held
keyed rules o h = record (settled rules h) { pending = Some (id_of o, []) }

pub key_met : (rules : List Rule) (n : ℕ) (o : Setting) (h : Held) → arg_by_long rules (id_of o) ≡ Some (option_built o)
    → word_met rules [] false idle n (key o) h ≡ (keyed rules o h, next (option (id_of o)))
key_met rules n o h e = ap (λ b. cond b (h, trailing n) (long_or_other rules idle (key o) (long_of (key o)) h)) (key_dashes o)
    ∙ ap (λ m. long_or_other rules idle (key o) m h) (key_long o)
    ∙ ap (λ m. after_flag rules idle (key o) (long_met rules m None h).0 (long_met rules m None h).1) e

pub joined_met : (rules : List Rule) (n : ℕ) (o : Setting) (x : ℕ) (v : Text) (h : Held) → arg_by_long rules (id_of o) ≡ Some (option_built o)
    → word_met rules [] false idle n (key o ++ 61 ∷ x ∷ v) h ≡ (reacted rules (option_built o) ((x ∷ v) ∷ []) h, next idle)
joined_met rules n o x v h e = ap (λ b. cond b (h, trailing n) (long_or_other rules idle word (long_of word) h)) (joined_dashes o x v)
    ∙ ap (λ m. long_or_other rules idle word m h) (joined_long o x v)
    ∙ ap (λ m. after_flag rules idle word (long_met rules m (Some (x ∷ v)) h).0 (long_met rules m (Some (x ∷ v)) h).1) e
  where
    word : Text
    word = key o ++ 61 ∷ x ∷ v

-- ---- the walk after these words

pub walked_key : (rules : List Rule) (n : ℕ) (o : Setting) (h : Held) → arg_by_long rules (id_of o) ≡ Some (option_built o)
    → walked rules [] (stand h n) (key o) ≡ await (keyed rules o h) (id_of o) n
walked_key rules n o h e = walked_is rules (stand h n) (key o) ∙ ap (λ m. after_step rules (key o) (stand h n) m.0 m.1) (key_met rules n o h e)

pub walked_joined : (rules : List Rule) (n : ℕ) (o : Setting) (x : ℕ) (v : Text) (h : Held) → arg_by_long rules (id_of o) ≡ Some (option_built o)
    → walked rules [] (stand h n) (key o ++ 61 ∷ x ∷ v) ≡ stand (reacted rules (option_built o) ((x ∷ v) ∷ []) h) n
walked_joined rules n o x v h e = walked_is rules (stand h n) (key o ++ 61 ∷ x ∷ v)
    ∙ ap (λ m. after_step rules (key o ++ 61 ∷ x ∷ v) (stand h n) m.0 m.1) (joined_met rules n o x v h e)

-- what is held behind an option's word and its text
abbrev pub given : List Rule → Setting → Text → Held → Held
given rules o v h = record (settled rules h) { pending = Some (id_of o, v ∷ []) }

one_value : (o : Setting) (v : Text) → bytes_eq (id_of o) (id_of o) ≡ true
one_value o v = same_id o o ∙ same_self o

text_word : (rules : List Rule) (o : Setting) (v : Text) (h : Held) → arg_by_id rules (id_of o) ≡ Some (option_built o)
    → plain_word rules (option (id_of o)) v (keyed rules o h) ≡ (given rules o v h, next idle)
text_word rules o v h e = ap (λ m. ((option_word m (id_of o) v (keyed rules o h)).0, next (option_word m (id_of o) v (keyed rules o h)).1)) e
    ∙ ap (λ b. (given rules o v h, next (cond (nat_lt (cond b 1 0) 1) (option (id_of o)) idle))) (one_value o v)

pub text_step : (rules : List Rule) (n : ℕ) (o : Setting) (v : Text) (h : Held) → arg_by_id rules (id_of o) ≡ Some (option_built o) → is_undashed v ≡ true
    → word_met rules [] false (option (id_of o)) n v (keyed rules o h) ≡ (given rules o v h, next idle)
text_step rules n o v h e u = text_met rules (id_of o) n v (keyed rules o h) u ∙ text_word rules o v h e

pub walked_text : (rules : List Rule) (n : ℕ) (o : Setting) (v : Text) (h : Held) → arg_by_id rules (id_of o) ≡ Some (option_built o) → is_undashed v ≡ true
    → walked rules [] (await (keyed rules o h) (id_of o) n) v ≡ stand (given rules o v h) n
walked_text rules n o v h e u = walked_is rules (await (keyed rules o h) (id_of o) n) v
    ∙ ap (λ m. after_step rules v (await (keyed rules o h) (id_of o) n) m.0 m.1) (text_step rules n o v h e u)

-- what is held behind a name
abbrev pub named : List Rule → Text → Text → Held → Held
named rules id w h = record (settled rules h) { pending = Some (id, w ∷ []) }

pub and_false : (b : Bool) → (b && false) ≡ false
and_false true = refl
and_false false = refl

next_place : (k : ℕ) → k < 1000 → min (1 + k + 1) usize_max ≡ 1 + (k + 1)
next_place k h = omega arith

pub walked_name : (c : Command) (rules : List Rule) (k : ℕ) (w : Text) (h : Held) → k < 1000 → arg_by_index rules (1 + k) ≡ Some (name_built c k)
    → is_undashed w ≡ true
    → walked rules [] (stand h (1 + k)) w ≡ stand (named rules (name_id c k) w h) (1 + (k + 1))
walked_name c rules k w h small e u = walked_is rules (stand h (1 + k)) w
    ∙ ap (λ m. after_step rules w (stand h (1 + k)) m.0 m.1) (plain_met rules (1 + k) w h u)
    ∙ ap (λ m. to_positional rules m w (stand h (1 + k)) h) e
    ∙ ap (λ b. stand (pushed (name_id c k) w (cond b h (settled rules h))) (min (1 + k + 1) usize_max)) (and_false (is_pending (name_built c k) h.pending))
    ∙ ap (λ n. stand (named rules (name_id c k) w h) n) (next_place k small)
