-- Reading word by word is reading the parts.
use Rattle.std.proofs.Common.{◌≡◌, ◌∙◌, ℕ, Bool, true, false, not, cond, List, [], ◌∷◌, ◌++◌, Option}
use Rattle.std.proofs.Common.{None, Some, option_and_then, is_some, eqb, ◌&&◌, nat_lt, length, refl, sym, ap, ap₂, arith}
use Rattle.std.specs.Bool.{⊤}
use Rattle.mas_top_words.specs.declared.table.Command.{Command}
use Rattle.mas_top_words.specs.declared.table.Command.TheVariants.{Run, Replay, Check, Demo, Renew, Record, Resume, Sites, Lint}
use Rattle.mas_top_words.specs.declared.table.Setting.{Setting}
use Rattle.mas_top_words.specs.declared.table.Setting.TheVariants.{Workers, Pool, Cycles, Lead, Depth, Tries, Level}
use Rattle.mas_top_words.specs.Table.{key, form, takes, name_count, command_of}
use Rattle.mas_top_words.specs.Words.{WordsSoFar, text_for, with_text, with_name, with_option, word_met, word_said, next_said, words_said}
use Rattle.mas_top_words.specs.Plain.{is_undashed, Part, name, option, AreParts, none, bare, apart, joined}

-- one part more
abbrev pub part_said : Command → WordsSoFar → Part → Option WordsSoFar
part_said c s (name text) = with_name c s text
part_said c s (option o text) = with_option c s o text

-- what parts say
abbrev pub parts_said : Command → Option WordsSoFar → List Part → Option WordsSoFar
parts_said c s [] = s
parts_said c s (p ∷ ps) = parts_said c (option_and_then (λ t. part_said c t p) s) ps

-- an option's word by itself
key_alone : (c : Command) (s : WordsSoFar) (o : Setting) → s.awaits ≡ None → word_said c s (key o) ≡ Some (record s { awaits = Some o })
key_alone c s Workers e = ap (word_met c s true (key Workers)) e
key_alone c s Pool e = ap (word_met c s true (key Pool)) e
key_alone c s Cycles e = ap (word_met c s true (key Cycles)) e
key_alone c s Lead e = ap (word_met c s true (key Lead)) e
key_alone c s Depth e = ap (word_met c s true (key Depth)) e
key_alone c s Tries e = ap (word_met c s true (key Tries)) e
key_alone c s Level e = ap (word_met c s true (key Level)) e

-- an option's word with its text
key_joined : (c : Command) (s : WordsSoFar) (o : Setting) (x : ℕ) (v : List ℕ) → s.awaits ≡ None → word_said c s (key o ++ 61 ∷ x ∷ v) ≡ with_option c s o (x ∷ v)
key_joined c s Workers x v e = ap (word_met c s true (key Workers ++ 61 ∷ x ∷ v)) e
key_joined c s Pool x v e = ap (word_met c s true (key Pool ++ 61 ∷ x ∷ v)) e
key_joined c s Cycles x v e = ap (word_met c s true (key Cycles ++ 61 ∷ x ∷ v)) e
key_joined c s Lead x v e = ap (word_met c s true (key Lead ++ 61 ∷ x ∷ v)) e
key_joined c s Depth x v e = ap (word_met c s true (key Depth ++ 61 ∷ x ∷ v)) e
key_joined c s Tries x v e = ap (word_met c s true (key Tries ++ 61 ∷ x ∷ v)) e
key_joined c s Level x v e = ap (word_met c s true (key Level ++ 61 ∷ x ∷ v)) e

-- a command is found by its word
pub command_found : (c : Command) → command_of (form c).word ≡ Some c
command_found Run = refl
command_found Replay = refl
command_found Check = refl
command_found Demo = refl
command_found Renew = refl
command_found Record = refl
command_found Resume = refl
command_found Sites = refl
command_found Lint = refl

dash : (b : ℕ) → not (eqb b 45) ≡ true → eqb b 45 ≡ false
dash b u = grind arith

-- a name
name_met : (c : Command) (s : WordsSoFar) (w : List ℕ) → is_undashed w ≡ true → s.awaits ≡ None → word_said c s w ≡ with_name c s w
name_met c s [] u e = absurd (grind arith)
name_met c s (b ∷ bs) u e = ap₂ (λ d o. word_met c s d (b ∷ bs) o) (dash b u) e

-- a text that is awaited
text_met : (c : Command) (s : WordsSoFar) (o : Setting) (v : List ℕ) → is_undashed v ≡ true → word_said c (record s { awaits = Some o }) v ≡ with_option c s o v
text_met c s o [] u = absurd (grind arith)
text_met c s o (b ∷ bs) u = ap (λ d. word_met c (record s { awaits = Some o }) d (b ∷ bs) (Some o)) (dash b u)

-- no setting awaits its text
abbrev pub IsCalm : Option WordsSoFar → Type 0
IsCalm None = ⊤
IsCalm (Some s) = s.awaits ≡ None

pub calm_name : (c : Command) (s : WordsSoFar) (w : List ℕ) → s.awaits ≡ None → IsCalm (with_name c s w)
calm_name c s w e = go (nat_lt (length s.names) (name_count c))
  where
    go : (b : Bool) → IsCalm (cond b (Some (record s { names = s.names ++ w ∷ [] })) None)
    go true = e
    go false = tt

pub calm_option : (c : Command) (s : WordsSoFar) (o : Setting) (v : List ℕ) → IsCalm (with_option c s o v)
calm_option c s o v = go (takes c o && not (is_some (text_for s.given o)))
  where
    go : (b : Bool) → IsCalm (cond b (Some (record s { given = with_text s.given o v; awaits = None })) None)
    go true = refl
    go false = tt

pub no_words : (c : Command) (ws : List (List ℕ)) → words_said c None ws ≡ None
no_words c [] = refl
no_words c (w ∷ ws) = no_words c ws

pub no_parts : (c : Command) (ps : List Part) → parts_said c None ps ≡ None
no_parts c [] = refl
no_parts c (p ∷ ps) = no_parts c ps

-- words that are these parts say what the parts say
pub follow : (c : Command) (o : Option WordsSoFar) (ws : List (List ℕ)) (ps : List Part) → AreParts ws ps → IsCalm o → words_said c o ws ≡ parts_said c o ps
follow c None ws ps p h = no_words c ws ∙ sym (no_parts c ps)
follow c (Some s) _ _ none h = refl
follow c (Some s) _ _ (bare w ws ps u p) h =
    ap (λ t. words_said c t ws) (name_met c s w u h) ∙ follow c (with_name c s w) ws ps p (calm_name c s w h)
follow c (Some s) _ _ (apart o v ws ps u p) h =
    ap (λ t. words_said c (next_said c t v) ws) (key_alone c s o h) ∙ ap (λ t. words_said c t ws) (text_met c s o v u)
    ∙ follow c (with_option c s o v) ws ps p (calm_option c s o v)
follow c (Some s) _ _ (joined o x v ws ps p) h =
    ap (λ t. words_said c t ws) (key_joined c s o x v h) ∙ follow c (with_option c s o (x ∷ v)) ws ps p (calm_option c s o (x ∷ v))

-- behind the last part no text is awaited
pub calm_parts : (c : Command) (o : Option WordsSoFar) (ps : List Part) → IsCalm o → IsCalm (parts_said c o ps)
calm_parts c None [] h = tt
calm_parts c None (p ∷ ps) h = calm_parts c None ps h
calm_parts c (Some s) [] h = h
calm_parts c (Some s) (name w ∷ ps) h = calm_parts c (with_name c s w) ps (calm_name c s w h)
calm_parts c (Some s) (option o v ∷ ps) h = calm_parts c (with_option c s o v) ps (calm_option c s o v)
