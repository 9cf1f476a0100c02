-- Words that say something are parts.
use Rattle.std.proofs.Common.{◌≡◌, ◌∙◌, ℕ, Bool, true, false, not, cond, List, [], ◌∷◌, ◌++◌, take}
use Rattle.std.proofs.Common.{drop, Option, None, Some, option_and_then, eqb, ◌+◌, refl, sym, ap, ap₂, arith, append-nil, subst}
use Rattle.std.specs.List.{prefix_len, find}
use Rattle.std.specs.Str.{bytes_eq}
use Rattle.std.proofs.lemmas.List.{take-append-drop}
use Rattle.std.proofs.lemmas.Slice.Eq.{bytes_eq-Decides}
use Rattle.mas_top_words.specs.declared.table.Command.{Command}
use Rattle.mas_top_words.specs.declared.table.Setting.{Setting}
use Rattle.mas_top_words.specs.Table.{key, setting_of, settings}
use Rattle.mas_top_words.specs.Words.{WordsSoFar, with_name, with_option, is_key, setting_said, word_met, word_said, words_said, option_said}
use Rattle.mas_top_words.specs.Plain.{is_undashed, Part, name, option, AreParts, none, bare, apart, joined}
use Rattle.mas_top_words.proofs.Parts.{parts_said, IsCalm, calm_name, calm_option, no_words}

-- what a word may come to where no text is awaited
data Met (c : Command) (s : WordsSoFar) (w : List ℕ) : Option WordsSoFar → Type 0 where
  refused : Met c s w None
  named : is_undashed w ≡ true → Met c s w (with_name c s w)
  keyed : (o : Setting) → w ≡ key o → Met c s w (Some (record s { awaits = Some o }))
  valued : (o : Setting) (x : ℕ) (v : List ℕ) → w ≡ key o ++ 61 ∷ x ∷ v → Met c s w (with_option c s o (x ∷ v))

drop_one : (n x : ℕ) (xs : List ℕ) → drop (1 + n) (x ∷ xs) ≡ drop n xs
drop_one n x xs = grind arith

-- the byte behind a key is `=`
heads : (w : List ℕ) (b : ℕ) (r : List ℕ) → drop (prefix_len is_key w) w ≡ b ∷ r → b ≡ 61
heads [] b r e = absurd (grind arith)
heads (x ∷ xs) b r e = go (eqb x 61) refl (heads xs b r) e
  where
    go : (d : Bool) → eqb x 61 ≡ d → (drop (prefix_len is_key xs) xs ≡ b ∷ r → b ≡ 61)
        → drop (cond (not d) (1 + prefix_len is_key xs) 0) (x ∷ xs) ≡ b ∷ r → b ≡ 61
    go false q ih f = ih (sym (drop_one (prefix_len is_key xs) x xs) ∙ f)
    go true q ih f = grind arith

same_bytes : (xs ys : List ℕ) → bytes_eq xs ys ≡ true → xs ≡ ys
same_bytes xs ys e = (bytes_eq-Decides xs ys).0 e

first_is : {A : Type 0} (f : A → List ℕ) (y x : A) → Some y ≡ Some x → f y ≡ f x
first_is f y x g = let e : y ≡ x = cc in ap f e

-- what is found by a word has that word
pub find_word : {A : Type 0} (f : A → List ℕ) (xs : List A) (word : List ℕ) (x : A) → find (λ y. bytes_eq word (f y)) xs ≡ Some x → word ≡ f x
find_word f [] word x e = absurd (grind arith)
find_word f (y ∷ ys) word x e = go (bytes_eq word (f y)) refl (find_word f ys word x) e
  where
    go : (d : Bool) → bytes_eq word (f y) ≡ d → (find (λ z. bytes_eq word (f z)) ys ≡ Some x → word ≡ f x)
        → cond d (Some y) (find (λ z. bytes_eq word (f z)) ys) ≡ Some x → word ≡ f x
    go true q ih g = same_bytes word (f y) q ∙ first_is f y x g
    go false q ih g = ih g

met_rest : (c : Command) (s : WordsSoFar) (w k r : List ℕ) (o : Setting) → w ≡ k ++ r → k ≡ key o → ((b : ℕ) (t : List ℕ) → r ≡ b ∷ t → b ≡ 61)
    → Met c s w (setting_said c s r o)
met_rest c s w k [] o e f h = keyed o (e ∙ append-nil k ∙ f)
met_rest c s w k (b ∷ []) o e f h = refused
met_rest c s w k (b ∷ x ∷ v) o e f h = valued o x v (e ∙ ap₂ (λ k b. k ++ b ∷ x ∷ v) f (h b (x ∷ v) refl))

met_option : (c : Command) (s : WordsSoFar) (w : List ℕ) → Met c s w (option_said c s w)
met_option c s w = go (setting_of (take (prefix_len is_key w) w)) refl
  where
    go : (m : Option Setting) → setting_of (take (prefix_len is_key w) w) ≡ m → Met c s w (option_and_then (setting_said c s (drop (prefix_len is_key w) w)) m)
    go None q = refused
    go (Some o) q = met_rest c s w (take (prefix_len is_key w) w) (drop (prefix_len is_key w) w) o (sym (take-append-drop (prefix_len is_key w) w))
        (find_word key settings (take (prefix_len is_key w) w) o q) (heads w)

met_word : (c : Command) (s : WordsSoFar) (w : List ℕ) → s.awaits ≡ None → Met c s w (word_said c s w)
met_word c s [] e = refused
met_word c s (b ∷ bs) e = go (eqb b 45) refl s.awaits e
  where
    go : (d : Bool) → eqb b 45 ≡ d → (m : Option Setting) → m ≡ None → Met c s (b ∷ bs) (word_met c s d (b ∷ bs) m)
    go true q None f = met_option c s (b ∷ bs)
    go false q None f = named (ap not q)
    go d q (Some o) f = absurd (grind arith)

-- what a word may come to where a text is awaited
data Texted (c : Command) (s : WordsSoFar) (o : Setting) (v : List ℕ) : Option WordsSoFar → Type 0 where
  no_text : Texted c s o v None
  a_text : is_undashed v ≡ true → Texted c s o v (with_option c s o v)

texted_word : (c : Command) (s : WordsSoFar) (o : Setting) (v : List ℕ) → Texted c s o v (word_said c (record s { awaits = Some o }) v)
texted_word c s o [] = no_text
texted_word c s o (b ∷ bs) = go (eqb b 45) refl
  where
    go : (d : Bool) → eqb b 45 ≡ d → Texted c s o (b ∷ bs) (word_met c (record s { awaits = Some o }) d (b ∷ bs) (Some o))
    go true q = no_text
    go false q = a_text (ap not q)

-- words that are some parts, which say this
pub data Found (c : Command) (o : Option WordsSoFar) (ws : List (List ℕ)) (t : WordsSoFar) : Type 0 where
  found : (ps : List Part) → AreParts ws ps → parts_said c o ps ≡ Some t → Found c o ws t

no_found : (c : Command) (ws : List (List ℕ)) (t : WordsSoFar) → words_said c None ws ≡ Some t → {P : Type 0} → P
no_found c ws t e = let bad : None ≡ Some t = sym (no_words c ws) ∙ e in absurd (grind arith)

on_name : (c : Command) (s : WordsSoFar) (w : List ℕ) (ws : List (List ℕ)) (t : WordsSoFar) → is_undashed w ≡ true → Found c (with_name c s w) ws t
    → Found c (Some s) (w ∷ ws) t
on_name c s w ws t u (found ps p q) = found (name w ∷ ps) (bare w ws ps u p) q

on_joined : (c : Command) (s : WordsSoFar) (o : Setting) (x : ℕ) (v : List ℕ) (ws : List (List ℕ)) (t : WordsSoFar) → Found c (with_option c s o (x ∷ v)) ws t
    → Found c (Some s) ((key o ++ 61 ∷ x ∷ v) ∷ ws) t
on_joined c s o x v ws t (found ps p q) = found (option o (x ∷ v) ∷ ps) (joined o x v ws ps p) q

on_apart : (c : Command) (s : WordsSoFar) (o : Setting) (v : List ℕ) (ws : List (List ℕ)) (t : WordsSoFar) → is_undashed v ≡ true → Found c (with_option c s o v) ws t
    → Found c (Some s) (key o ∷ v ∷ ws) t
on_apart c s o v ws t u (found ps p q) = found (option o v ∷ ps) (apart o v ws ps u p) q

abbrev Finds : Command → List (List ℕ) → WordsSoFar → Type 0
Finds c ws t = (o : Option WordsSoFar) → IsCalm o → words_said c o ws ≡ Some t → Found c o ws t

-- the text behind an option's word
after_key : (c : Command) (s : WordsSoFar) (o : Setting) (v : List ℕ) (ws : List (List ℕ)) (t : WordsSoFar) (m : Option WordsSoFar) → Texted c s o v m → Finds c ws t
    → words_said c m ws ≡ Some t → Found c (Some s) (key o ∷ v ∷ ws) t
after_key c s o v ws t _ no_text ih e = no_found c ws t e
after_key c s o v ws t _ (a_text u) ih e = on_apart c s o v ws t u (ih (with_option c s o v) (calm_option c s o v) e)

first_word : (c : Command) (s : WordsSoFar) (w : List ℕ) (ws : List (List ℕ)) (t : WordsSoFar) (m : Option WordsSoFar) → s.awaits ≡ None → Met c s w m → Finds c ws t
    → ((o : Setting) → words_said c (Some (record s { awaits = Some o })) ws ≡ Some t → Found c (Some s) (key o ∷ ws) t)
    → words_said c m ws ≡ Some t → Found c (Some s) (w ∷ ws) t
first_word c s w ws t _ h refused ih begun e = no_found c ws t e
first_word c s w ws t _ h (named u) ih begun e = on_name c s w ws t u (ih (with_name c s w) (calm_name c s w h) e)
first_word c s w ws t _ h (keyed o f) ih begun e = subst (λ z. Found c (Some s) (z ∷ ws) t) (sym f) (begun o e)
first_word c s w ws t _ h (valued o x v f) ih begun e =
    subst (λ z. Found c (Some s) (z ∷ ws) t) (sym f) (on_joined c s o x v ws t (ih (with_option c s o (x ∷ v)) (calm_option c s o (x ∷ v)) e))

awaiting : {P : Type 0} (s t : WordsSoFar) (o : Setting) → t.awaits ≡ None → Some (record s { awaits = Some o }) ≡ Some t → P
awaiting s t o f e = absurd (grind arith)

pub finds : (c : Command) (ws : List (List ℕ)) (t : WordsSoFar) → t.awaits ≡ None → (o : Option WordsSoFar) → IsCalm o → words_said c o ws ≡ Some t → Found c o ws t
finds c ws t f None h e = no_found c ws t e
finds c [] t f (Some s) h e = found [] none e
finds c (w ∷ []) t f (Some s) h e = first_word c s w [] t (word_said c s w) h (met_word c s w h) (finds c [] t f) (λ o g. awaiting s t o f g) e
finds c (w ∷ v ∷ ws) t f (Some s) h e = first_word c s w (v ∷ ws) t (word_said c s w) h (met_word c s w h) (finds c (v ∷ ws) t f)
    (λ o g. after_key c s o v ws t (word_said c (record s { awaits = Some o }) v) (texted_word c s o v) (finds c ws t f) g) e
