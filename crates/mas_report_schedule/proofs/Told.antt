-- The numbers of a text: what stands in its last line is what was written there.
use Rattle.std.proofs.Common.{ℕ, zero, suc, ◌≡◌, ◌⊎◌, ◌+◌, ◌*◌, ◌-◌, ◌/◌, ◌%◌, ◌<◌, ◌≤◌, ◌^◌, arith, Bool, true, false, nat_eq, ◌||◌, not, cond, List, [], ◌∷◌, ◌++◌, length, map, take, drop, refl, ap, sym, ◌∙◌, subst, inl, inr, append_assoc, append-nil, decimal, codes, if◌then◌else◌}
use Rattle.std.specs.List.{join_with_byte, list_any, slice_split, onto_first, position_or_len, before_first, after_first}
use Rattle.std.specs.Str.Parse.{digits_value}
use Rattle.std.proofs.lemmas.Grind.{common_steps}
use Rattle.std.proofs.lemmas.Bool.{eqb-true}
use Rattle.std.proofs.Math.Seq.{take-append_seam, drop-append-add}
use Rattle.std.proofs.lemmas.Fmt.{decimal_by_steps, decimal_is_IsNumeral, decimal_nonempty}
use Rattle.std.proofs.lemmas.List.{length-append}
use Rattle.std.proofs.lemmas.List.Splits.{slice_split-cons_yes, slice_split-cons_no}
use Rattle.mas_report_schedule.proofs.Numerals.{pick, pass}
use Rattle.mas_report_schedule.specs.declared.entry.ScheduleEntry.{ScheduleEntry}
use Rattle.mas_report_schedule.specs.Schedule.{entry, once, spread, times_text, entry_text, entries_text, count_line, lines_text, last_line, is_space, is_times, entry_told, entries_told, printed}

-- ---- bytes that do not stand in a text

-- this byte does not stand in it
abbrev pub Lacks : ℕ → List ℕ → Type 0
Lacks c [] = Unit {0}
Lacks c (b ∷ bs) = (nat_eq b c ≡ false) × Lacks c bs

pub lacks-append : (c : ℕ) (a b : List ℕ) → Lacks c a → Lacks c b → Lacks c (a ++ b)
lacks-append c [] b h i = i
lacks-append c (x ∷ a) b h i = (h.0, lacks-append c a b h.1 i)

-- what no digit is
abbrev pub IsNoDigit : ℕ → Type 0
IsNoDigit c = (d : ℕ) → d < 10 → nat_eq (48 + d) c ≡ false

pub feed_none : IsNoDigit 10
feed_none d l = grind (arith, common_steps)

pub space_none : IsNoDigit 32
space_none d l = grind (arith, common_steps)

pub times_none : IsNoDigit 120
times_none d l = grind (arith, common_steps)

pub lacks-decimal : (c n : ℕ) → IsNoDigit c → n < 2 ^ 64 → Lacks c (decimal n)
lacks-decimal c n never l =
    decimal_by_steps (λ n ds. Lacks c ds) (λ n l. (never n l, tt)) (λ n ds l h. lacks-append c ds ((48 + n % 10) ∷ []) h (never (n % 10) (omega arith), tt)) n l

-- ---- the texts of entries

-- its two numbers are of 64 bits
pub record IsShort (e : ScheduleEntry) : Type 0 where
  pub agent : e.agent < 2 ^ 64
  pub times : e.times < 2 ^ 64

abbrev pub AreShort : List ScheduleEntry → Type 0
AreShort [] = Unit {0}
AreShort (e ∷ es) = IsShort e × AreShort es

fed : (b c : ℕ) → nat_eq b c ≡ true → b ≡ c
fed b c e = eqb-true b c e

times_lack : (c t : ℕ) → IsNoDigit c → nat_eq 120 c ≡ false → t < 2 ^ 64 → Lacks c (times_text t)
times_lack c t never x l = go (nat_eq t 1)
  where
    go : (b : Bool) → Lacks c (if b then [] else codes "x" ++ decimal t)
    go true = tt
    go false = (x, lacks-decimal c t never l)

entry_lacks : (c : ℕ) (e : ScheduleEntry) → IsNoDigit c → nat_eq 120 c ≡ false → IsShort e → Lacks c (entry_text e)
entry_lacks c e never x s = lacks-append c (decimal e.agent) (times_text e.times) (lacks-decimal c e.agent never s.agent) (times_lack c e.times never x s.times)

pub entries_lack : (c : ℕ) (es : List ScheduleEntry) → IsNoDigit c → nat_eq 120 c ≡ false → nat_eq 32 c ≡ false → AreShort es → Lacks c (entries_text es)
entries_lack c [] never x space s = tt
entries_lack c (e ∷ []) never x space s = entry_lacks c e never x s.0
entries_lack c (e ∷ f ∷ es) never x space s =
    lacks-append c (entry_text e) (32 ∷ entries_text (f ∷ es)) (entry_lacks c e never x s.0) (space, entries_lack c (f ∷ es) never x space s.1)

-- ---- the last line

last-of-line : (last front line : List ℕ) → Lacks 10 line → last_line last front (line ++ 10 ∷ []) ≡ front ++ line
last-of-line last front [] h = sym (append-nil front)
last-of-line last front (b ∷ line) h =
    ap (λ c. if c then last_line front [] (line ++ 10 ∷ []) else last_line last (front ++ b ∷ []) (line ++ 10 ∷ [])) h.0
    ∙ last-of-line last (front ++ b ∷ []) line h.1
    ∙ append_assoc front (b ∷ []) line

-- after a line feed
last-line : (last front before line : List ℕ) → Lacks 10 line → last_line last front (before ++ 10 ∷ (line ++ 10 ∷ [])) ≡ line
last-line last front [] line h = last-of-line front [] line h
last-line last front (b ∷ before) line h = elim (nat_eq b 10) as (λ c. (if c then last_line front [] (before ++ 10 ∷ (line ++ 10 ∷ [])) else last_line last (front ++ b ∷ []) (before ++ 10 ∷ (line ++ 10 ∷ []))) ≡ line) [
  | true ↦ last-line front [] before line h
  | false ↦ last-line last (front ++ b ∷ []) before line h
]

-- ---- words

word_alone : (word : List ℕ) → Lacks 32 word → slice_split is_space word ≡ word ∷ []
word_alone [] h = refl
word_alone (b ∷ word) h = slice_split-cons_no is_space b word h.0 ∙ ap (onto_first b) (word_alone word h.1)

word_first : (word rest : List ℕ) → Lacks 32 word → slice_split is_space (word ++ 32 ∷ rest) ≡ word ∷ slice_split is_space rest
word_first [] rest h = slice_split-cons_yes is_space 32 rest refl
word_first (b ∷ word) rest h = slice_split-cons_no is_space b (word ++ 32 ∷ rest) h.0 ∙ ap (onto_first b) (word_first word rest h.1)

-- a word without an `x`, and one with it
no_times : (word : List ℕ) → Lacks 120 word → list_any is_times word ≡ false
no_times [] h = refl
no_times (b ∷ word) h = ap (λ c. c || list_any is_times word) h.0 ∙ no_times word h.1

some_times : (word rest : List ℕ) → Lacks 120 word → list_any is_times (word ++ 120 ∷ rest) ≡ true
some_times [] rest h = refl
some_times (b ∷ word) rest h = ap (λ c. c || list_any is_times (word ++ 120 ∷ rest)) h.0 ∙ some_times word rest h.1

times_place : (word rest : List ℕ) → Lacks 120 word → position_or_len is_times (word ++ 120 ∷ rest) ≡ length word
times_place [] rest h = refl
times_place (b ∷ word) rest h =
    ap (λ c. cond (not c) (1 + position_or_len is_times (word ++ 120 ∷ rest)) 0) h.0
    ∙ ap (λ n. 1 + n) (times_place word rest h.1)
    ∙ (omega arith)

before_times : (word rest : List ℕ) → Lacks 120 word → before_first is_times (word ++ 120 ∷ rest) ≡ word
before_times word rest h = ap (λ n. take n (word ++ 120 ∷ rest)) (times_place word rest h) ∙ take-append_seam word (120 ∷ rest)

after_times : (word rest : List ℕ) → Lacks 120 word → after_first is_times (word ++ 120 ∷ rest) ≡ rest
after_times word rest h = ap (λ n. drop (n + 1) (word ++ 120 ∷ rest)) (times_place word rest h) ∙ drop-append-add word (120 ∷ rest) 1

-- ---- entries

value_back : (n : ℕ) → n < 2 ^ 64 → digits_value 10 (decimal n) ≡ n
value_back n l = (decimal_is_IsNumeral n l).1

once_back : (n : ℕ) → n < 2 ^ 64 → entry_told (decimal n) ≡ once n
once_back n l =
    pass (list_any is_times (decimal n)) _ _ (no_times (decimal n) (lacks-decimal 120 n times_none l)) ∙ ap once (value_back n l)

many_back : (a t : ℕ) → a < 2 ^ 64 → t < 2 ^ 64 → entry_told (decimal a ++ 120 ∷ decimal t) ≡ entry a t
many_back a t l m =
    let word = decimal a in
    let h = lacks-decimal 120 a times_none l in
    pick (list_any is_times (word ++ 120 ∷ decimal t)) _ _ (some_times word (decimal t) h)
    ∙ ap (λ x. entry (digits_value 10 x) (digits_value 10 (after_first is_times (word ++ 120 ∷ decimal t)))) (before_times word (decimal t) h)
    ∙ ap (λ x. entry (digits_value 10 word) (digits_value 10 x)) (after_times word (decimal t) h)
    ∙ ap (λ n. entry n (digits_value 10 (decimal t))) (value_back a l)
    ∙ ap (λ n. entry a n) (value_back t m)

entry_back : (e : ScheduleEntry) → IsShort e → entry_told (entry_text e) ≡ e
entry_back e s = go (nat_eq e.times 1) refl
  where
    go : (b : Bool) → nat_eq e.times 1 ≡ b → entry_told (decimal e.agent ++ (if b then [] else codes "x" ++ decimal e.times)) ≡ e
    go true t = ap entry_told (append-nil (decimal e.agent)) ∙ once_back e.agent s.agent ∙ ap (entry e.agent) (sym (fed e.times 1 t))
    go false t = many_back e.agent e.times s.agent s.times

words_back : (e : ScheduleEntry) (es : List ScheduleEntry) → AreShort (e ∷ es) → map entry_told (slice_split is_space (entries_text (e ∷ es))) ≡ e ∷ es
words_back e [] s =
    ap (map entry_told) (word_alone (entry_text e) (entry_lacks 32 e space_none refl s.0)) ∙ ap (λ x. x ∷ []) (entry_back e s.0)
words_back e (f ∷ es) s =
    ap (map entry_told) (word_first (entry_text e) (entries_text (f ∷ es)) (entry_lacks 32 e space_none refl s.0))
    ∙ ap (λ x. x ∷ map entry_told (slice_split is_space (entries_text (f ∷ es)))) (entry_back e s.0)
    ∙ ap (λ x. e ∷ x) (words_back f es s.1)

some_bytes : (bytes : List ℕ) → 0 < length bytes → entries_told bytes ≡ map entry_told (slice_split is_space bytes)
some_bytes [] l = absurd (omega arith)
some_bytes (b ∷ bytes) l = refl

entry_some : (e : ScheduleEntry) → IsShort e → 0 < length (entry_text e)
entry_some e s =
    let d = decimal_nonempty e.agent s.agent in
    let a = length-append (decimal e.agent) (times_text e.times) in
    omega arith

entries_some : (e : ScheduleEntry) (es : List ScheduleEntry) → IsShort e → 0 < length (entries_text (e ∷ es))
entries_some e [] s = entry_some e s
entries_some e (f ∷ es) s =
    let n = entry_some e s in
    let a = length-append (entry_text e) (32 ∷ entries_text (f ∷ es)) in
    omega arith

entries_back : (es : List ScheduleEntry) → AreShort es → entries_told (entries_text es) ≡ es
entries_back [] s = refl
entries_back (e ∷ es) s = some_bytes (entries_text (e ∷ es)) (entries_some e es s.0) ∙ words_back e es s

-- ---- the whole

regroup : (a b c d e : List ℕ) → a ++ ((b ++ (c ++ d)) ++ e) ≡ (a ++ (b ++ c)) ++ (d ++ e)
regroup a b c d e = simp append_assoc

-- the numbers that are printed are those for which the entries of the last two lines stand
pub printed-lines : (before : List ℕ) (n : ℕ) (entries : List ScheduleEntry) → AreShort entries → printed (before ++ lines_text n entries) ≡ spread entries
printed-lines before n entries s =
    let front = before ++ (codes "schedule " ++ decimal n) in
    let e : before ++ lines_text n entries ≡ front ++ 10 ∷ (entries_text entries ++ 10 ∷ []) = regroup before (codes "schedule ") (decimal n) (10 ∷ []) (entries_text entries ++ 10 ∷ []) in
    ap (λ x. spread (entries_told x)) (ap (last_line [] []) e ∙ last-line [] [] front (entries_text entries) (entries_lack 10 entries feed_none refl refl s))
    ∙ ap spread (entries_back entries s)
