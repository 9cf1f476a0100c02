-- What parts say is the names and the texts among them.
use Rattle.std.proofs.Common.{◌≡◌, ◌∙◌, ◌≤◌, ◌+◌, ℕ, Bool, true, false, not, cond, subst, List, [], ◌∷◌, ◌++◌}
use Rattle.std.proofs.Common.{Option, None, Some, is_some, ◌&&◌, nat_lt, length, refl, sym, ap, ap₂, arith, append-nil, append_assoc, length-append}
use Rattle.std.proofs.lemmas.Bool.Decides.{nat_tests}
use Rattle.std.specs.List.{slice_get}
use Rattle.mas_top_words.specs.declared.table.Command.{Command}
use Rattle.mas_top_words.specs.declared.table.Setting.{Setting}
use Rattle.mas_top_words.specs.declared.table.Setting.TheVariants.{Workers, Pool, Cycles, Lead, Depth, Tries, Level}
use Rattle.mas_top_words.specs.Table.{takes, name_count, same}
use Rattle.mas_top_words.specs.Words.{GivenSettings, WordsSoFar, silence, text_for, with_text}
use Rattle.mas_top_words.specs.Plain.{Part, name, option, names_in, texts_in, most}
use Rattle.mas_top_words.proofs.Rules.{same_self}
use Rattle.mas_top_words.proofs.Parts.{part_said, parts_said, no_parts}

-- an option's text as a list
abbrev pub list_of : Option (List ℕ) → List (List ℕ)
list_of None = []
list_of (Some t) = t ∷ []

-- a text behind those of another list, where it is for that setting
abbrev pub text_more : Bool → List ℕ → List (List ℕ) → List (List ℕ)
text_more true v ts = v ∷ ts
text_more false v ts = ts

-- a text that is given is the setting's own, and no other's
text_given : (g : GivenSettings) (o p : Setting) (v : List ℕ) → text_for g o ≡ None
    → list_of (text_for (with_text g o v) p) ≡ list_of (text_for g p) ++ text_more (same o p) v []
text_given g Workers Workers v e = ap (λ m. list_of m ++ v ∷ []) (sym e)
text_given g Pool Pool v e = ap (λ m. list_of m ++ v ∷ []) (sym e)
text_given g Cycles Cycles v e = ap (λ m. list_of m ++ v ∷ []) (sym e)
text_given g Lead Lead v e = ap (λ m. list_of m ++ v ∷ []) (sym e)
text_given g Depth Depth v e = ap (λ m. list_of m ++ v ∷ []) (sym e)
text_given g Tries Tries v e = ap (λ m. list_of m ++ v ∷ []) (sym e)
text_given g Level Level v e = ap (λ m. list_of m ++ v ∷ []) (sym e)
text_given g o p v e = sym (append-nil _)

-- after words that were said, parts say their names and their texts behind those, and nothing that the command lacks
pub record Told (c : Command) (s t : WordsSoFar) (ps : List Part) : Type 0 where
  pub names : t.names ≡ s.names ++ names_in ps
  pub texts : (o : Setting) → list_of (text_for t.given o) ≡ list_of (text_for s.given o) ++ texts_in ps o
  pub its : (o : Setting) → takes c o ≡ false → texts_in ps o ≡ []

some_same : (s t : WordsSoFar) → Some s ≡ Some t → s ≡ t
some_same s t e = grind arith

pub taken : (b : Bool) (x u : WordsSoFar) → cond b (Some x) None ≡ Some u → x ≡ u
taken true x u e = some_same x u e
taken false x u e = absurd (grind arith)

pub was_true : (b : Bool) (x u : WordsSoFar) → cond b (Some x) None ≡ Some u → b ≡ true
was_true true x u e = refl
was_true false x u e = absurd (grind arith)

told_nothing : (c : Command) (s : WordsSoFar) → Told c s s []
told_nothing c s = record { names = sym (append-nil s.names); texts = λ o. sym (append-nil (list_of (text_for s.given o))); its = λ o e. refl }

told_name : (c : Command) (s : WordsSoFar) (w : List ℕ) → Told c s (record s { names = s.names ++ w ∷ [] }) (name w ∷ [])
told_name c s w = record { names = refl; texts = λ o. sym (append-nil (list_of (text_for s.given o))); its = λ o e. refl }

one_text : (o p : Setting) (v : List ℕ) → texts_in (option o v ∷ []) p ≡ text_more (same o p) v []
one_text o p v = go (same o p)
  where
    go : (b : Bool) → cond b (v ∷ []) [] ≡ text_more b v []
    go true = refl
    go false = refl

pub same_means : (o p : Setting) → same o p ≡ true → p ≡ o
same_means Workers Workers e = refl
same_means Pool Pool e = refl
same_means Cycles Cycles e = refl
same_means Lead Lead e = refl
same_means Depth Depth e = refl
same_means Tries Tries e = refl
same_means Level Level e = refl
same_means o p e = absurd (grind arith)

its_own : (c : Command) (o p : Setting) (v : List ℕ) → takes c o ≡ true → takes c p ≡ false → text_more (same o p) v [] ≡ []
its_own c o p v e f = go (same o p) refl
  where
    go : (b : Bool) → same o p ≡ b → text_more b v [] ≡ []
    go true q = let k : true ≡ false = sym e ∙ ap (takes c) (sym (same_means o p q)) ∙ f in absurd (grind arith)
    go false q = refl

told_option : (c : Command) (s : WordsSoFar) (o : Setting) (v : List ℕ) → takes c o ≡ true → text_for s.given o ≡ None
    → Told c s (record s { given = with_text s.given o v; awaits = None }) (option o v ∷ [])
told_option c s o v e f = record {
  names = sym (append-nil s.names);
  texts = λ p. text_given s.given o p v f ∙ ap (λ ts. list_of (text_for s.given p) ++ ts) (sym (one_text o p v));
  its = λ p g. one_text o p v ∙ its_own c o p v e g;
}

pub both_true : (a b : Bool) → (a && b) ≡ true → (a ≡ true) × (b ≡ true)
both_true true true e = (refl, refl)
both_true true false e = absurd (grind arith)
both_true false b e = absurd (grind arith)

pub not_some : (m : Option (List ℕ)) → not (is_some m) ≡ true → m ≡ None
not_some None e = refl
not_some (Some t) e = absurd (grind arith)

-- one part
told_part : (c : Command) (s : WordsSoFar) (p : Part) (u : WordsSoFar) → part_said c s p ≡ Some u → Told c s u (p ∷ [])
told_part c s (name w) u e =
    subst (λ z. Told c s z (name w ∷ [])) (taken (nat_lt (length s.names) (name_count c)) (record s { names = s.names ++ w ∷ [] }) u e) (told_name c s w)
told_part c s (option o v) u e =
    subst (λ z. Told c s z (option o v ∷ [])) (taken test next u e) (told_option c s o v holds.0 (not_some (text_for s.given o) holds.1))
  where
    test : Bool
    test = takes c o && not (is_some (text_for s.given o))

    next : WordsSoFar
    next = record s { given = with_text s.given o v; awaits = None }

    holds : (takes c o ≡ true) × (not (is_some (text_for s.given o)) ≡ true)
    holds = both_true (takes c o) (not (is_some (text_for s.given o))) (was_true test next u e)

names_more : (p : Part) (ps : List Part) → names_in (p ∷ ps) ≡ names_in (p ∷ []) ++ names_in ps
names_more (name w) ps = refl
names_more (option o v) ps = refl

texts_more : (p : Part) (ps : List Part) (o : Setting) → texts_in (p ∷ ps) o ≡ texts_in (p ∷ []) o ++ texts_in ps o
texts_more (name w) ps o = refl
texts_more (option q v) ps o = go (same q o)
  where
    go : (b : Bool) → cond b (v ∷ texts_in ps o) (texts_in ps o) ≡ cond b (v ∷ []) [] ++ texts_in ps o
    go true = refl
    go false = refl

behind : (a b c x y : List (List ℕ)) → b ≡ a ++ x → c ≡ b ++ y → c ≡ a ++ (x ++ y)
behind a b c x y e f = f ∙ ap (λ z. z ++ y) e ∙ append_assoc a x y

told_more : (c : Command) (s u t : WordsSoFar) (p : Part) (ps : List Part) → Told c s u (p ∷ []) → Told c u t ps → Told c s t (p ∷ ps)
told_more c s u t p ps a b = record {
  names = behind s.names u.names t.names (names_in (p ∷ [])) (names_in ps) a.names b.names ∙ ap (λ z. s.names ++ z) (sym (names_more p ps));
  texts = λ o. behind (list_of (text_for s.given o)) (list_of (text_for u.given o)) (list_of (text_for t.given o)) (texts_in (p ∷ []) o) (texts_in ps o)
      (a.texts o) (b.texts o) ∙ ap (λ z. list_of (text_for s.given o) ++ z) (sym (texts_more p ps o));
  its = λ o e. texts_more p ps o ∙ ap₂ (λ x y. x ++ y) (a.its o e) (b.its o e);
}

pub told : (c : Command) (s : WordsSoFar) (ps : List Part) (t : WordsSoFar) → parts_said c (Some s) ps ≡ Some t → Told c s t ps
told c s [] t e = subst (λ z. Told c s z []) (some_same s t e) (told_nothing c s)
told c s (p ∷ ps) t e = go (part_said c s p) refl (λ u. told c u ps t) e
  where
    go : (m : Option WordsSoFar) → part_said c s p ≡ m → ((u : WordsSoFar) → parts_said c (Some u) ps ≡ Some t → Told c u t ps) → parts_said c m ps ≡ Some t
        → Told c s t (p ∷ ps)
    go None q ih f = let bad : None ≡ Some t = sym (no_parts c ps) ∙ f in absurd (grind arith)
    go (Some u) q ih f = told_more c s u t p ps (told_part c s p u q) (ih u f)

-- ---- parts that are all wanted say something

pub data Tells (c : Command) (s : WordsSoFar) (ps : List Part) : Type 0 where
  tells : (t : WordsSoFar) → parts_said c (Some s) ps ≡ Some t → Tells c s ps

most_one : (b : Bool) (m : Option (List ℕ)) (n : ℕ) → length (list_of m) + (1 + n) ≤ cond b 1 0 → (b && not (is_some m)) ≡ true
most_one true None n h = refl
most_one true (Some t) n h = absurd (omega arith)
most_one false m n h = absurd (omega arith)

length_texts : (o p : Setting) (v : List ℕ) (ps : List Part)
    → length (texts_in (option o v ∷ ps) p) ≡ length (text_more (same o p) v []) + length (texts_in ps p)
length_texts o p v ps = go (same o p)
  where
    go : (b : Bool) → length (cond b (v ∷ texts_in ps p) (texts_in ps p)) ≡ length (text_more b v []) + length (texts_in ps p)
    go true = omega arith
    go false = omega arith

own_text : (o : Setting) (v : List ℕ) (ps : List Part) → length (texts_in (option o v ∷ ps) o) ≡ 1 + length (texts_in ps o)
own_text o v ps = ap (λ b. length (cond b (v ∷ texts_in ps o) (texts_in ps o))) (same_self o) ∙ omega arith

after : (c : Command) (s : WordsSoFar) (p : Part) (u : WordsSoFar) (ps : List Part) → part_said c s p ≡ Some u → Tells c u ps → Tells c s (p ∷ ps)
after c s p u ps e (tells t f) = tells t (ap (λ m. parts_said c m ps) e ∙ f)

abbrev IsRoom : Command → WordsSoFar → List Part → Type 0
IsRoom c s ps = (p : Setting) → length (list_of (text_for s.given p)) + length (texts_in ps p) ≤ most c p

room_after : (c : Command) (s : WordsSoFar) (o : Setting) (v : List ℕ) (ps : List Part) → text_for s.given o ≡ None → IsRoom c s (option o v ∷ ps)
    → IsRoom c (record s { given = with_text s.given o v; awaits = None }) ps
room_after c s o v ps e k p =
    moved (length (list_of (text_for (with_text s.given o v) p))) (length (list_of (text_for s.given p))) (length (text_more (same o p) v []))
    (length (texts_in ps p)) (most c p) (ap length (text_given s.given o p v e) ∙ length-append (list_of (text_for s.given p)) (text_more (same o p) v []))
    (subst (λ n. length (list_of (text_for s.given p)) + n ≤ most c p) (length_texts o p v ps) (k p))
  where
    moved : (a b x n m : ℕ) → a ≡ b + x → b + (x + n) ≤ m → a + n ≤ m
    moved a b x n m e h = omega arith

pub name_fits : (ns : List (List ℕ)) (n m : ℕ) → length ns + (1 + n) ≤ m → nat_lt (length ns) m ≡ true
name_fits ns n m h = grind (arith, nat_tests)

pub tell : (c : Command) (s : WordsSoFar) (ps : List Part) → length s.names + length (names_in ps) ≤ name_count c → IsRoom c s ps → Tells c s ps
tell c s [] h k = tells s refl
tell c s (name w ∷ ps) h k = after c s (name w) (record s { names = s.names ++ w ∷ [] }) ps
    (ap (λ b. cond b (Some (record s { names = s.names ++ w ∷ [] })) None) (name_fits s.names (length (names_in ps)) (name_count c) (omega arith)))
    (tell c (record s { names = s.names ++ w ∷ [] }) ps (one_more (length-append s.names (w ∷ [])) h) k)
  where
    one_more : length (s.names ++ w ∷ []) ≡ length s.names + length (w ∷ []) → length s.names + length (w ∷ names_in ps) ≤ name_count c
        → length (s.names ++ w ∷ []) + length (names_in ps) ≤ name_count c
    one_more e h = omega arith
tell c s (option o v ∷ ps) h k = after c s (option o v) (record s { given = with_text s.given o v; awaits = None }) ps
    (ap (λ b. cond b (Some (record s { given = with_text s.given o v; awaits = None })) None) holds)
    (tell c (record s {
      given = with_text s.given o v;
      awaits =
          None;
    }) ps h (room_after c s o v ps (not_some (text_for s.given o) (both_true (takes c o) (not (is_some (text_for s.given o))) holds).1) k))
  where
    holds : (takes c o && not (is_some (text_for s.given o))) ≡ true
    holds = most_one (takes c o) (text_for s.given o) (length (texts_in ps o))
        (subst (λ n. length (list_of (text_for s.given o)) + n ≤ most c o) (own_text o v ps) (k o))

-- ---- before any word

silent : (o : Setting) → list_of (text_for silence.given o) ≡ []
silent Workers = refl
silent Pool = refl
silent Cycles = refl
silent Lead = refl
silent Depth = refl
silent Tries = refl
silent Level = refl

only_text : (m : Option (List ℕ)) (ts : List (List ℕ)) → list_of m ≡ ts → m ≡ slice_get ts 0
only_text None ts e = ap (λ z. slice_get z 0) e
only_text (Some t) ts e = ap (λ z. slice_get z 0) e

at_most_one : (m : Option (List ℕ)) → length (list_of m) ≤ 1
at_most_one None = omega arith
at_most_one (Some t) = omega arith

-- the texts that all the parts say are the only ones that they give
pub texts_told : (c : Command) (t : WordsSoFar) (ps : List Part) → Told c silence t ps → (o : Setting) → list_of (text_for t.given o) ≡ texts_in ps o
texts_told c t ps h o = h.texts o ∙ ap (λ z. z ++ texts_in ps o) (silent o) ∙ append_nil_left (texts_in ps o)
  where
    append_nil_left : (xs : List (List ℕ)) → [] ++ xs ≡ xs
    append_nil_left xs = refl

pub text_told : (c : Command) (t : WordsSoFar) (ps : List Part) → Told c silence t ps → (o : Setting) → text_for t.given o ≡ slice_get (texts_in ps o) 0
text_told c t ps h o = only_text (text_for t.given o) (texts_in ps o) (texts_told c t ps h o)

pub few_told : (c : Command) (t : WordsSoFar) (ps : List Part) → Told c silence t ps → (o : Setting) → length (texts_in ps o) ≤ most c o
few_told c t ps h o = go (takes c o) refl
  where
    go : (b : Bool) → takes c o ≡ b → length (texts_in ps o) ≤ cond b 1 0
    go true q = subst (λ ts. length ts ≤ 1) (texts_told c t ps h o) (at_most_one (text_for t.given o))
    go false q = let e : length (texts_in ps o) ≡ 0 = ap length (h.its o q) in omega arith

-- parts that are all wanted say something
pub tell_all : (c : Command) (ps : List Part) → length (names_in ps) ≡ name_count c → ((o : Setting) → length (texts_in ps o) ≤ most c o) → Tells c silence ps
tell_all c ps e k = tell c silence ps (omega arith) (λ o. no_text (list_of (text_for silence.given o)) (silent o) (k o))
  where
    no_text : (ts : List (List ℕ)) {n m : ℕ} → ts ≡ [] → n ≤ m → length ts + n ≤ m
    no_text ts f h = let g : length ts ≡ 0 = ap length f in omega arith
