-- clap goes over all plain words.
use Rattle.std.proofs.Common.{◌≡◌, ◌∙◌, ◌<◌, ◌≤◌, ◌+◌, ℕ, Bool, true, false, not, cond, subst, List, []}
use Rattle.std.proofs.Common.{◌∷◌, ◌++◌, None, Some, is_some, ◌&&◌, nat_lt, length, refl, sym, ap, ap₂, arith, length-append}
use Rattle.std.proofs.lemmas.Bool.Decides.{nat_tests}
use Rattle.std.specs.List.{fold}
use Rattle.clap.specs.Simple.{Shape}
use Rattle.clap.specs.Takes.{turn_passes, walk_passes}
use Rattle.clap.specs.Walk.{Held, Text, Walk, reacted, walked}
use Rattle.mas_top_words.specs.declared.table.Command.{Command}
use Rattle.mas_top_words.specs.declared.table.Command.TheVariants.{Run, Replay, Check, Demo, Renew, Record, Resume, Sites, Lint}
use Rattle.mas_top_words.specs.declared.table.Setting.{Setting}
use Rattle.mas_top_words.specs.Table.{key, name_count, takes}
use Rattle.mas_top_words.specs.Words.{WordsSoFar, text_for, with_name, with_option, with_text}
use Rattle.mas_top_words.specs.Plain.{is_undashed, Part, AreParts, none, bare, apart, joined}
use Rattle.mas_top_words.specs.Apps.{id_of}
use Rattle.mas_top_words.proofs.Parts.{no_parts, parts_said}
use Rattle.mas_top_words.proofs.Passes.{joined_turn, key_turn, name_turn, pending_passes, pending_rows, text_turn}
use Rattle.mas_top_words.proofs.Rules.{name_id, option_built}
use Rattle.mas_top_words.proofs.Steps.{await, given, keyed, named, stand, walked_joined, walked_key, walked_name, walked_text}
use Rattle.mas_top_words.proofs.Telling.{both_true, not_some}
use Rattle.mas_top_words.proofs.Walks.{IsTable, Stands, name_stands, no_name, no_row, option_stands}

-- the walk over these words ends between two words, with what was said
pub data Walks (c : Command) (s : Shape) (t : WordsSoFar) (w : Walk) (words : List Text) : Type 0 where
  walks : (h : Held) → fold (walked s.rules []) w words ≡ stand h (1 + length t.names) → walk_passes s [] w words ≡ true
      → Stands c s.rules s.args_override_self t h → Walks c s t w words

passes_none : (s : Shape) (w : Walk) → walk_passes s [] w [] ≡ true
unfolding walk_passes
passes_none s w = refl

passes_more : (s : Shape) (w : Walk) (word : Text) (words : List Text)
    → walk_passes s [] w (word ∷ words) ≡ (turn_passes s [] w word && walk_passes s [] (walked s.rules [] w word) words)
unfolding walk_passes
passes_more s w word words = refl

-- one word, and then the others
front : (c : Command) (s : Shape) (t : WordsSoFar) (w v : Walk) (word : Text) (words : List Text) → walked s.rules [] w word ≡ v → turn_passes s [] w word ≡ true
    → Walks c s t v words → Walks c s t w (word ∷ words)
front c s t w v word words e p (walks h f q st) = walks h (ap (λ z. fold (walked s.rules []) z words) e ∙ f)
    (passes_more s w word words ∙ ap₂ (λ a b. a && b) p (ap (λ z. walk_passes s [] z words) e ∙ q)) st

abbrev Follows : Command → Shape → WordsSoFar → List Text → List Part → Type 0
Follows c s t ws ps =
    (u : WordsSoFar) (h : Held) → Stands c s.rules s.args_override_self u h → parts_said c (Some u) ps ≡ Some t → Walks c s t (stand h (1 + length u.names)) ws

nothing : (c : Command) (ps : List Part) (t : WordsSoFar) {P : Type 0} → parts_said c None ps ≡ Some t → P
nothing c ps t e = let bad : None ≡ Some t = sym (no_parts c ps) ∙ e in absurd (grind arith)

some_same : (s t : WordsSoFar) → Some s ≡ Some t → s ≡ t
some_same s t e = cc

-- the command has fewer names than clap has places
few : (c : Command) → name_count c ≤ 2
few Run = omega arith
few Replay = omega arith
few Check = omega arith
few Demo = omega arith
few Renew = omega arith
few Record = omega arith
few Resume = omega arith
few Sites = omega arith
few Lint = omega arith

-- ---- a name

small : (c : Command) (k : ℕ) → k < name_count c → k < 1000
small c k l = let n : name_count c ≤ 2 = few c in omega arith

name_walks : (c : Command) (s : Shape) → IsTable c s.rules → (t u : WordsSoFar) (h : Held) (w : Text) (ws : List Text) (ps : List Part)
    → Stands c s.rules s.args_override_self u h → is_undashed w ≡ true → length u.names < name_count c
    → Walks c s t (stand (named s.rules (name_id c (length u.names)) w h) (1 + length (u.names ++ w ∷ []))) ws
    → Walks c s t (stand h (1 + length u.names)) (w ∷ ws)
name_walks c s table t u h w ws ps st und l rest = front c s t (stand h (1 + length u.names)) (stand held (1 + length (u.names ++ w ∷ []))) w ws
    (walked_name c s.rules (length u.names) w h (small c (length u.names) l) (table.index (length u.names) l) und
    ∙ ap (λ n. stand held (1 + n)) (sym (length-append u.names (w ∷ []))))
    (name_turn c s (length u.names) w h und (table.index (length u.names) l) st.passes) rest
  where
    held : Held
    held = named s.rules (name_id c (length u.names)) w h

name_holds : (c : Command) (s : Shape) → IsTable c s.rules → (u : WordsSoFar) (h : Held) (w : Text) → Stands c s.rules s.args_override_self u h
    → length u.names < name_count c
    → Stands c s.rules s.args_override_self (record u { names = u.names ++ w ∷ [] }) (named s.rules (name_id c (length u.names)) w h)
name_holds c s table u h w st l = name_stands c s.rules s.args_override_self u h (named s.rules (name_id c (length u.names)) w h) w st l
    (pending_rows s.rules (name_id c (length u.names)) None (Some (1 + length u.names)) w h (table.name (length u.names) l))
    (pending_passes s.rules s.args_override_self (name_id c (length u.names)) None (Some (1 + length u.names)) w h (table.name (length u.names) l)
    (no_name c s.rules s.args_override_self u h st l))

is_below : (n m : ℕ) → nat_lt n m ≡ true → n < m
is_below n m e = grind (arith, nat_tests)

after_name : (c : Command) (s : Shape) → IsTable c s.rules → (t u : WordsSoFar) (h : Held) (w : Text) (ws : List Text) (ps : List Part)
    → Stands c s.rules s.args_override_self u h → is_undashed w ≡ true → Follows c s t ws ps → parts_said c (with_name c u w) ps ≡ Some t
    → Walks c s t (stand h (1 + length u.names)) (w ∷ ws)
after_name c s table t u h w ws ps st und ih e = go (nat_lt (length u.names) (name_count c)) refl e
  where
    next : WordsSoFar
    next = record u { names = u.names ++ w ∷ [] }

    go : (b : Bool) → nat_lt (length u.names) (name_count c) ≡ b → parts_said c (cond b (Some next) None) ps ≡ Some t
        → Walks c s t (stand h (1 + length u.names)) (w ∷ ws)
    go false q f = nothing c ps t f
    go true q f = name_walks c s table t u h w ws ps st und (is_below (length u.names) (name_count c) q)
        (ih next (named s.rules (name_id c (length u.names)) w h) (name_holds c s table u h w st (is_below (length u.names) (name_count c) q)) f)

-- ---- an option

option_holds : (c : Command) (s : Shape) → IsTable c s.rules → (u : WordsSoFar) (h : Held) (o : Setting) (v : Text) → Stands c s.rules s.args_override_self u h
    → takes c o ≡ true → text_for u.given o ≡ None
    → Stands c s.rules s.args_override_self (record u { given = with_text u.given o v; awaits = None }) (given s.rules o v h)
option_holds c s table u h o v st e f = option_stands c s.rules s.args_override_self u h (given s.rules o v h) o v st f
    (pending_rows s.rules (id_of o) (Some (id_of o)) None v h (table.option o e))
    (pending_passes s.rules s.args_override_self (id_of o) (Some (id_of o)) None v h (table.option o e) (no_row c s.rules s.args_override_self u h st o f))

joined_holds : (c : Command) (s : Shape) (u : WordsSoFar) (h : Held) (o : Setting) (v : Text) → Stands c s.rules s.args_override_self u h → text_for u.given o ≡ None
    → Stands c s.rules s.args_override_self (record u { given = with_text u.given o v; awaits = None }) (reacted s.rules (option_built o) (v ∷ []) h)
joined_holds c s u h o v st f = option_stands c s.rules s.args_override_self u h (reacted s.rules (option_built o) (v ∷ []) h) o v st f refl refl

after_option : (c : Command) (s : Shape) (t u : WordsSoFar) (o : Setting) (v : Text) (ps : List Part) {P : Type 0} → parts_said c (with_option c u o v) ps ≡ Some t
    → (takes c o ≡ true → text_for u.given o ≡ None → parts_said c (Some (record u { given = with_text u.given o v; awaits = None })) ps ≡ Some t → P) → P
after_option c s t u o v ps {P} e goal = go (takes c o && not (is_some (text_for u.given o))) refl e
  where
    go : (b : Bool) → (takes c o && not (is_some (text_for u.given o))) ≡ b
        → parts_said c (cond b (Some (record u { given = with_text u.given o v; awaits = None })) None) ps ≡ Some t → P
    go false q f = nothing c ps t f
    go true q f = goal (both_true (takes c o) (not (is_some (text_for u.given o))) q).0
        (not_some (text_for u.given o) (both_true (takes c o) (not (is_some (text_for u.given o))) q).1) f

pub goes : (c : Command) (s : Shape) → IsTable c s.rules → (t : WordsSoFar) (ws : List Text) (ps : List Part) → AreParts ws ps → Follows c s t ws ps
goes c s table t _ _ none u h st e =
    walks h (ap (λ z. stand h (1 + length z.names)) (some_same u t e)) (passes_none s (stand h (1 + length u.names))) (subst
    (λ z. Stands c s.rules s.args_override_self z h) (some_same u t e) st)
goes c s table t _ _ (bare w ws ps und p) u h st e = after_name c s table t u h w ws ps st und (goes c s table t ws ps p) e
goes c s table t _ _ (apart o v ws ps und p) u h st e = after_option c s t u o v ps e (λ q r f.
    front c s t (stand h (1 + length u.names)) (await (keyed s.rules o h) (id_of o) (1 + length u.names)) (key o) (v ∷ ws)
    (walked_key s.rules (1 + length u.names) o h (table.long o q)) (key_turn s (1 + length u.names) o h (table.long o q) st.passes)
    (front c s t (await (keyed s.rules o h) (id_of o) (1 + length u.names)) (stand (given s.rules o v h) (1 + length u.names)) v ws
    (walked_text s.rules (1 + length u.names) o v h (table.option o q) und) (text_turn s (1 + length u.names) o v h und (table.option o q))
    (goes c s table t ws ps p (record u {
      given =
          with_text u.given o v;
      awaits = None;
    }) (given s.rules o v h) (option_holds c s table u h o v st q r) f)))
goes c s table t _ _ (joined o x v ws ps p) u h st e = after_option c s t u o (x ∷ v) ps e (λ q r f.
    front c s t (stand h (1 + length u.names)) (stand (reacted s.rules (option_built o) ((x ∷ v) ∷ []) h) (1 + length u.names)) (key o ++ 61 ∷ x ∷ v) ws
    (walked_joined s.rules (1 + length u.names) o x v h (table.long o q))
    (joined_turn s (1 + length u.names) o x v h (table.long o q) st.passes (no_row c s.rules s.args_override_self u h st o r))
    (goes c s table t ws ps p (record u { given = with_text u.given o (x ∷ v); awaits = None }) (reacted s.rules (option_built o) ((x ∷ v) ∷ []) h)
    (joined_holds c s u h o (x ∷ v) st r) f))
