-- The two lines: what is read of them is what is written, and that is read.
use Rattle.std.proofs.Common.{ℕ, zero, suc, ◌≡◌, ◌⊎◌, ◌+◌, ◌-◌, ◌<◌, ◌≤◌, arith, List, [], ◌∷◌, ◌++◌, length, replicate, map, Option, None, Some, MatchOption, refl, ap, sym, subst, inl, inr, ◌∙◌, append_assoc, append-nil, decimal, codes}
use Rattle.std.specs.List.{flat_map, join_with_byte}
use Rattle.std.specs.Option.{option_map, option_and_then}
use Rattle.std.proofs.lemmas.List.{length-append, length-replicate}
use Rattle.std.proofs.lemmas.Option.{some_pair_parts}
use Rattle.mas_report_schedule.specs.declared.entry.ScheduleEntry.{ScheduleEntry}
use Rattle.mas_report_schedule.specs.declared.reading.Number.{Number}
use Rattle.mas_report_schedule.specs.Schedule.{line_feed, spread, entry_text, entries_text}
use Rattle.mas_report_schedule.specs.Reading.{AreEntries, BeginsCounted, BeginsEntered, BeginsUnentered}
use Rattle.mas_report_schedule.specs.inner.Scanning.{number_from, behind_byte, count_from, stop_of, entry_from, view_number}
use Rattle.mas_report_schedule.proofs.Numerals.{IsNumber, number_is, number_read}
use Rattle.mas_report_schedule.proofs.Fronts.{behind_is, behind_read, IsFront, front_is, front_read}

-- ---- the first line

-- a number is behind the word, and a line feed ends it
counted_is : (bytes digits : List ℕ) (n : ℕ) (rest : List ℕ) → bytes ≡ codes "schedule " ++ digits → IsNumber 5000000 digits n (10 ∷ rest) → BeginsCounted bytes n rest
counted_is bytes digits n rest e h = record {
  count = (h.some, h.within);
  is = e ∙ ap (λ x. codes "schedule " ++ x) (h.is ∙ sym (append_assoc (decimal n) line_feed rest));
}

-- the word is at the front
behind_word : (digits others : List ℕ) → codes "schedule " ++ digits ≡ codes "schedule " ++ others → digits ≡ others
behind_word digits others e = cc

is_counted : (bytes digits : List ℕ) (n : ℕ) (rest : List ℕ) → bytes ≡ codes "schedule " ++ digits → BeginsCounted bytes n rest → IsNumber 5000000 digits n (10 ∷ rest)
is_counted bytes digits n rest e h = record {
  some = h.count.0;
  within = h.count.1;
  is = behind_word _ _ (sym e ∙ h.is) ∙ append_assoc (decimal n) line_feed rest;
  ends = refl;
}

abbrev numbered : ℕ → List ℕ → ℕ × List ℕ
numbered n rest = (n, rest)

abbrev fed_after : ℕ × List ℕ → Option (ℕ × List ℕ)
fed_after f = option_map (numbered f.0) (behind_byte 10 f.1)

count_is : (digits : List ℕ) (n : ℕ) (rest : List ℕ) → count_from digits ≡ Some (n, rest) → IsNumber 5000000 digits n (10 ∷ rest)
count_is digits n rest e = number (number_from 5000000 0 digits) refl e
  where
    fed : (k : ℕ) (behind : List ℕ) → IsNumber 5000000 digits k behind → (o : Option (List ℕ)) → behind_byte 10 behind ≡ o → option_map (numbered k) o ≡ Some (n, rest)
        → IsNumber 5000000 digits n (10 ∷ rest)
    fed k behind h None b f = absurd cc
    fed k behind h (Some last) b f =
        let p = some_pair_parts k n last rest f in
        let g = subst (IsNumber 5000000 digits k) (behind_is 10 behind last b ∙ ap (λ x. 10 ∷ x) p.1) h in
        subst (λ x. IsNumber 5000000 digits x (10 ∷ rest)) p.0 g

    number : (o : Option (ℕ × List ℕ)) → number_from 5000000 0 digits ≡ o → option_and_then fed_after o ≡ Some (n, rest)
        → IsNumber 5000000 digits n (10 ∷ rest)
    number None u f = absurd cc
    number (Some (k, behind)) u f = fed k behind (number_is 5000000 digits k behind (omega arith) u) (behind_byte 10 behind) refl f

pub count_read : (bytes digits : List ℕ) (n : ℕ) (rest : List ℕ) → bytes ≡ codes "schedule " ++ digits → BeginsCounted bytes n rest → count_from digits ≡ Some (n, rest)
count_read bytes digits n rest e h =
    ap (option_and_then fed_after) (number_read 5000000 n digits (10 ∷ rest) (omega arith) (is_counted bytes digits n rest e h))

pub counted : (bytes digits : List ℕ) (r : Option Number) → bytes ≡ codes "schedule " ++ digits → view_number r ≡ count_from digits
    → MatchOption r ((n : ℕ) (rest : List ℕ) → BeginsCounted bytes n rest → ⊥) (λ f. BeginsCounted bytes f.value f.behind.now)
counted bytes digits None e v = λ n rest h. let r = count_read bytes digits n rest e h in cc
counted bytes digits (Some f) e v = counted_is bytes digits f.value f.behind.now e (count_is digits f.value f.behind.now (sym v))

-- the first line that is there
pub counted_by : (bytes digits : List ℕ) (n : ℕ) (rest : List ℕ) → bytes ≡ codes "schedule " ++ digits → count_from digits ≡ Some (n, rest) → BeginsCounted bytes n rest
counted_by bytes digits n rest e f = counted_is bytes digits n rest e (count_is digits n rest f)

-- ---- the second line

-- entries, each with the byte that ends it
abbrev pub lined : List ScheduleEntry → List ℕ → List ℕ
lined [] more = more
lined (e ∷ es) more = entry_text e ++ stop_of (length (spread es)) ∷ lined es more

-- entries that stand for so many numbers are at the front of the bytes, each ended, and this is behind them
pub record AreFronts (left : ℕ) (bytes : List ℕ) (entries : List ScheduleEntry) (more : List ℕ) : Type 0 where
  pub each : AreEntries entries
  pub as_many : length (spread entries) ≡ left
  pub is : bytes ≡ lined entries more

-- an entry stands for as many numbers as it tells
pub spread_more : (e : ScheduleEntry) (es : List ScheduleEntry) → length (spread (e ∷ es)) ≡ e.times + length (spread es)
spread_more e es = length-append (replicate e.times e.agent) (spread es) ∙ ap (λ n. n + length (spread es)) (length-replicate e.times e.agent)

-- none are left
pub no_front : (bytes : List ℕ) → AreFronts 0 bytes [] bytes
no_front bytes = record { each = tt; as_many = refl; is = refl }

-- one more at the front
pub front_more : (left : ℕ) (bytes : List ℕ) (e : ScheduleEntry) (behind : List ℕ) (es : List ScheduleEntry) (more : List ℕ) →
    IsFront left bytes e behind → AreFronts (left - e.times) behind es more → AreFronts left bytes (e ∷ es) more
front_more left bytes e behind es more h r =
    let t = h.few in
    let n = r.as_many in
    record {
      each = ((h.agent, h.times), r.each);
      as_many = spread_more e es ∙ (omega arith);
      is = h.is ∙ ap (λ x. entry_text e ++ stop_of x ∷ behind) (sym r.as_many) ∙ ap (λ x. entry_text e ++ stop_of (length (spread es)) ∷ x) r.is;
    }

-- the first of them, where numbers are left
pub record Parted (left : ℕ) (bytes : List ℕ) (entries : List ScheduleEntry) (more : List ℕ) : Type 0 where
  pub entry : ScheduleEntry
  pub rest : List ScheduleEntry
  pub behind : List ℕ
  pub are : entries ≡ entry ∷ rest
  pub front : IsFront left bytes entry behind
  pub fronts : AreFronts (left - entry.times) behind rest more

pub parted : (left : ℕ) (bytes : List ℕ) (entries : List ScheduleEntry) (more : List ℕ) → 0 < left → AreFronts left bytes entries more → Parted left bytes entries more
parted left bytes [] more l r = absurd (let n = r.as_many in omega arith)
parted left bytes (e ∷ es) more l r =
    let n = sym (spread_more e es) ∙ r.as_many in
    let few : e.times ≤ left = omega arith in
    let rest : length (spread es) ≡ left - e.times = omega arith in
    record {
      entry = e;
      rest = es;
      behind = lined es more;
      are = refl;
      front = record { agent = r.each.0.0; times = r.each.0.1; few = few; is = r.is ∙ ap (λ x. entry_text e ++ stop_of x ∷ lined es more) rest };
      fronts = record { each = r.each.1; as_many = rest; is = refl };
    }

-- such entries are those of a line, if they stand for any number
some_more : (e : ScheduleEntry) (es : List ScheduleEntry) → AreEntries (e ∷ es) → (n : ℕ) × (length (spread (e ∷ es)) ≡ suc n)
some_more e es h = some (length (spread (e ∷ es))) (let s = h.0.1.0 in let m = spread_more e es in omega arith)
  where
    some : (n : ℕ) → 0 < n → (m : ℕ) × (n ≡ suc m)
    some zero l = absurd (omega arith)
    some (suc m) l = (m, refl)

pub lined_is : (e : ScheduleEntry) (es : List ScheduleEntry) (more : List ℕ) → AreEntries (e ∷ es) → lined (e ∷ es) more ≡ entries_text (e ∷ es) ++ (line_feed ++ more)
lined_is e [] more h = refl
lined_is e (f ∷ es) more h =
    let s = some_more f es h.1 in
    ap (λ n. entry_text e ++ stop_of n ∷ lined (f ∷ es) more) s.1
    ∙ ap (λ x. entry_text e ++ 32 ∷ x) (lined_is f es more h.1)
    ∙ sym (append_assoc (entry_text e) (32 ∷ entries_text (f ∷ es)) (line_feed ++ more))

pub entered_is : (n : ℕ) (bytes : List ℕ) (entries : List ScheduleEntry) (more : List ℕ) → 0 < n → AreFronts n bytes entries more → BeginsEntered bytes n entries more
entered_is n bytes [] more l r = absurd (let m = r.as_many in omega arith)
entered_is n bytes (e ∷ es) more l r = record { each = r.each; as_many = r.as_many; is = r.is ∙ lined_is e es more r.each }

pub entered_read : (n : ℕ) (bytes : List ℕ) (entries : List ScheduleEntry) (more : List ℕ) → 0 < n → BeginsEntered bytes n entries more → AreFronts n bytes entries more
entered_read n bytes [] more l r = absurd (let m = r.as_many in omega arith)
entered_read n bytes (e ∷ es) more l r = record { each = r.each; as_many = r.as_many; is = r.is ∙ sym (lined_is e es more r.each) }
