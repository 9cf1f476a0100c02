-- Plain words pass clap's tests.
use Rattle.std.proofs.Common.{◌≡◌, ◌∙◌, ◌+◌, ℕ, Bool, true, false, List, [], ◌∷◌, ◌++◌, Option, None, Some, ◌&&◌, ◌||◌, ap, ap₂}
use Rattle.std.specs.Str.{bytes_eq}
use Rattle.std.specs.Option.{option_map_or}
use Rattle.clap.specs.Lexer.{long_of}
use Rattle.clap.specs.Simple.{Shape}
use Rattle.clap.specs.Takes.{bundle_passes, flag_word_passes, long_passes, positional_passes, settle_passes, step_passes, turn_passes, use_passes}
use Rattle.clap.specs.Walk.{Held, Rule, Step, Text, arg_by_id, arg_by_index, arg_by_long, idle, is_pending, option, settled, used, used_by_id, word_met}
use Rattle.mas_top_words.specs.declared.table.Command.{Command}
use Rattle.mas_top_words.specs.declared.table.Setting.{Setting}
use Rattle.mas_top_words.specs.Table.{key}
use Rattle.mas_top_words.specs.Plain.{is_undashed}
use Rattle.mas_top_words.specs.Apps.{id_of}
use Rattle.mas_top_words.proofs.Rows.{first_passes, row_in}
use Rattle.mas_top_words.proofs.Rules.{one_text, option_built, name_built}
use Rattle.mas_top_words.proofs.Steps.{and_false, await, joined_dashes, joined_long, joined_met, key_dashes, key_long, key_met}
use Rattle.mas_top_words.proofs.Steps.{keyed, named, no_dashes, no_long, no_short, plain_met, stand, text_step}

and_true : (a b : Bool) → a ≡ true → b ≡ true → (a && b) ≡ true
and_true a b e f = ap₂ (λ x y. x && y) e f

-- ---- the word

plain_word_passes : (s : Shape) (w : Text) (h : Held) → is_undashed w ≡ true
    → (bytes_eq w (45 ∷ 45 ∷ []) || flag_word_passes s.rules s.args_override_self (long_of w) w h) ≡ true
plain_word_passes s w h u = ap (λ b. b || flag_word_passes s.rules s.args_override_self (long_of w) w h) (no_dashes w u)
    ∙ ap (λ m. flag_word_passes s.rules s.args_override_self m w h) (no_long w u)
    ∙ ap (λ m. option_map_or (λ flags. bundle_passes s.rules s.args_override_self flags h) m true) (no_short w u)

key_word_passes : (s : Shape) (o : Setting) (h : Held) → arg_by_long s.rules (id_of o) ≡ Some (option_built o)
    → settle_passes s.rules s.args_override_self h ≡ true
    → (bytes_eq (key o) (45 ∷ 45 ∷ []) || flag_word_passes s.rules s.args_override_self (long_of (key o)) (key o) h) ≡ true
key_word_passes s o h e p = ap (λ b. b || flag_word_passes s.rules s.args_override_self (long_of (key o)) (key o) h) (key_dashes o)
    ∙ ap (λ m. flag_word_passes s.rules s.args_override_self m (key o) h) (key_long o)
    ∙ ap (λ m. long_passes s.rules s.args_override_self m None h) e ∙ p

joined_word_passes : (s : Shape) (o : Setting) (x : ℕ) (v : Text) (h : Held) → arg_by_long s.rules (id_of o) ≡ Some (option_built o)
    → settle_passes s.rules s.args_override_self h ≡ true → row_in (id_of o) (settled s.rules h).rows ≡ None
    → (bytes_eq (key o ++ 61 ∷ x ∷ v) (45 ∷ 45 ∷ []) || flag_word_passes s.rules s.args_override_self (long_of (key o ++ 61 ∷ x ∷ v))
    (key o ++ 61 ∷ x ∷ v) h) ≡ true
joined_word_passes s o x v h e p r = ap (λ b. b || flag_word_passes s.rules s.args_override_self (long_of word) word h) (joined_dashes o x v)
    ∙ ap (λ m. flag_word_passes s.rules s.args_override_self m word h) (joined_long o x v)
    ∙ ap (λ m. long_passes s.rules s.args_override_self m (Some (x ∷ v)) h) e
    ∙ and_true (settle_passes s.rules s.args_override_self h) (use_passes s.args_override_self (option_built o) ((x ∷ v) ∷ []) (settled s.rules h).rows) p
    (first_passes s.args_override_self (id_of o) (Some (id_of o)) None (x ∷ v) (settled s.rules h).rows r)
  where
    word : Text
    word = key o ++ 61 ∷ x ∷ v

-- ---- the turn

pub name_turn : (c : Command) (s : Shape) (k : ℕ) (w : Text) (h : Held) → is_undashed w ≡ true → arg_by_index s.rules (1 + k) ≡ Some (name_built c k)
    → settle_passes s.rules s.args_override_self h ≡ true → turn_passes s [] (stand h (1 + k)) w ≡ true
name_turn c s k w h u e p = and_true _ (step_passes s (1 + k) met.0 met.1) (plain_word_passes s w h u) step
  where
    met : Held × Step
    met = word_met s.rules [] false idle (1 + k) w h

    step : step_passes s (1 + k) met.0 met.1 ≡ true
    step = ap (λ m. step_passes s (1 + k) m.0 m.1) (plain_met s.rules (1 + k) w h u)
        ∙ ap (λ m. option_map_or (λ a. positional_passes s.rules s.args_override_self a h) m false) e
        ∙ ap (λ b. b || settle_passes s.rules s.args_override_self h) (and_false (is_pending (name_built c k) h.pending)) ∙ p

pub key_turn : (s : Shape) (n : ℕ) (o : Setting) (h : Held) → arg_by_long s.rules (id_of o) ≡ Some (option_built o)
    → settle_passes s.rules s.args_override_self h ≡ true → turn_passes s [] (stand h n) (key o) ≡ true
key_turn s n o h e p = and_true _ (step_passes s n met.0 met.1) (key_word_passes s o h e p) (ap (λ m. step_passes s n m.0 m.1) (key_met s.rules n o h e))
  where
    met : Held × Step
    met = word_met s.rules [] false idle n (key o) h

pub joined_turn : (s : Shape) (n : ℕ) (o : Setting) (x : ℕ) (v : Text) (h : Held) → arg_by_long s.rules (id_of o) ≡ Some (option_built o)
    → settle_passes s.rules s.args_override_self h ≡ true → row_in (id_of o) (settled s.rules h).rows ≡ None
    → turn_passes s [] (stand h n) (key o ++ 61 ∷ x ∷ v) ≡ true
joined_turn s n o x v h e p r =
    and_true _ (step_passes s n met.0 met.1) (joined_word_passes s o x v h e p r) (ap (λ m. step_passes s n m.0 m.1) (joined_met s.rules n o x v h e))
  where
    met : Held × Step
    met = word_met s.rules [] false idle n (key o ++ 61 ∷ x ∷ v) h

pub text_turn : (s : Shape) (n : ℕ) (o : Setting) (v : Text) (h : Held) → is_undashed v ≡ true → arg_by_id s.rules (id_of o) ≡ Some (option_built o)
    → turn_passes s [] (await (keyed s.rules o h) (id_of o) n) v ≡ true
text_turn s n o v h u e =
    and_true _ (step_passes s n met.0 met.1) (plain_word_passes s v (keyed s.rules o h) u) (ap (λ m. step_passes s n m.0 m.1) (text_step s.rules n o v h e u))
  where
    met : Held × Step
    met = word_met s.rules [] false (option (id_of o)) n v (keyed s.rules o h)

-- ---- what is pending behind a part

pub pending_passes : (rules : List Rule) (again : Bool) (id : Text) (long : Option Text) (index : Option ℕ) (v : Text) (h : Held)
    → arg_by_id rules id ≡ Some (one_text id long index) → row_in id (settled rules h).rows ≡ None
    → settle_passes rules again (named rules id v h) ≡ true
pending_passes rules again id long index v h e r =
    ap (λ m. option_map_or (λ a. use_passes again a (v ∷ []) (settled rules h).rows) m true) e ∙ first_passes again id long index v (settled rules h).rows r

pub pending_rows : (rules : List Rule) (id : Text) (long : Option Text) (index : Option ℕ) (v : Text) (h : Held)
    → arg_by_id rules id ≡ Some (one_text id long index)
    → (settled rules (named rules id v h)).rows ≡ used (one_text id long index) (v ∷ []) (settled rules h).rows
pending_rows rules id long index v h e = ap (λ m. used_by_id m (v ∷ []) (settled rules h).rows) e
