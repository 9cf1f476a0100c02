-- The last two lines of a text.
use Rattle.std.proofs.Common.{ℕ, ◌≡◌, ◌≤◌, ◌⊎◌, arith, Bool, true, false, nat_eq, List, [], ◌∷◌, ◌++◌, length, Result, Ok, Err, refl, ap, sym, subst, inl, inr, ◌∙◌, append_assoc, append-nil, codes, decimal, if◌then◌else◌}
use Rattle.std.proofs.lemmas.Grind.{common_steps}
use Rattle.mas_report_schedule.specs.declared.reading.LineFault.{LineFault}
use Rattle.mas_report_schedule.specs.declared.reading.LineFault.TheVariants.{BadLine}
use Rattle.mas_report_schedule.specs.declared.entry.ScheduleEntry.{ScheduleEntry}
use Rattle.mas_report_schedule.specs.Schedule.{line_feed, spread, entries_text, lines_text, printed}
use Rattle.mas_report_schedule.specs.Reading.{AreEntries, IsSchedule, IsBadLine, IsFaultAt, AreLines, EndsIn, EndsInNone, OneEnd, EndPrinted}
use Rattle.mas_report_schedule.specs.inner.Scanning.{last_two}
use Rattle.mas_report_schedule.proofs.Told.{Lacks, lacks-append, lacks-decimal, feed_none, entries_lack, AreShort, printed-lines}
use Rattle.mas_report_schedule.proofs.Answered.{one_answer}

-- ---- whole lines stand before what is found

-- the text ends in this, and whole lines stand before it
record IsTail (text tail : List ℕ) : Type 0 where
  front : List ℕ
  lines : AreLines front
  is : text ≡ front ++ tail

fed : (b : ℕ) → nat_eq b 10 ≡ true → b ≡ 10
fed b e = grind (arith, common_steps)

tail_behind : (text front bytes : List ℕ) (b : ℕ) → text ≡ front ++ b ∷ bytes → nat_eq b 10 ≡ true → IsTail text bytes
tail_behind text front bytes b e t = record {
  front = front ++ line_feed;
  lines = inr (front, refl);
  is = e ∙ ap (λ x. front ++ x ∷ bytes) (fed b t) ∙ sym (append_assoc front line_feed bytes);
}

tail_on : (text two one line bytes front : List ℕ) (b : ℕ) → text ≡ front ++ b ∷ bytes
    → (IsTail text bytes → IsTail text (last_two one line bytes bytes)) → IsTail text (last_two two one line bytes)
    → (x : Bool) → nat_eq b 10 ≡ x → IsTail text (if x then last_two one line bytes bytes else last_two two one line bytes)
tail_on text two one line bytes front b e fed same true t = fed (tail_behind text front bytes b e t)
tail_on text two one line bytes front b e fed same false t = same

tail_found : (text two one line bytes front : List ℕ) → IsTail text two → IsTail text one → IsTail text line → text ≡ front ++ bytes → IsTail text (last_two two one line bytes)
tail_found text two one line [] front h i j e = h
tail_found text two one line (b ∷ bytes) front h i j e =
    let next : text ≡ (front ++ b ∷ []) ++ bytes = e ∙ sym (append_assoc front (b ∷ []) bytes) in
    tail_on text two one line bytes front b e
    (λ k. tail_found text one line bytes bytes (front ++ b ∷ []) i j k next)
    (tail_found text two one line bytes (front ++ b ∷ []) h i j next)
    (nat_eq b 10) refl

all : (text : List ℕ) → IsTail text text
all text = record { front = []; lines = inl refl; is = refl }

found : (text : List ℕ) → IsTail text (last_two text text text text)
found text = tail_found text text text text text [] (all text) (all text) (all text) refl

pub last_is : (text names last : List ℕ) → last ≡ last_two text text text text → IsSchedule last names → EndsIn text names
last_is text names last e h =
    let t = found text in
    record { front = t.front; lines = t.lines; last = last; schedule = h; is = t.is ∙ ap (λ x. t.front ++ x) (sym e) }

-- ---- a schedule behind whole lines is found

skip : (two one line words bytes : List ℕ) → Lacks 10 words → last_two two one line (words ++ bytes) ≡ last_two two one line bytes
skip two one line [] bytes h = refl
skip two one line (b ∷ words) bytes h =
    ap (λ c. if c then last_two one line (words ++ bytes) (words ++ bytes) else last_two two one line (words ++ bytes)) h.0 ∙ skip two one line words bytes h.1

-- two whole lines
two_lines : (two one : List ℕ) (first second : List ℕ) → Lacks 10 first → Lacks 10 second →
    last_two two one (first ++ 10 ∷ (second ++ line_feed)) (first ++ 10 ∷ (second ++ line_feed)) ≡ first ++ 10 ∷ (second ++ line_feed)
two_lines two one first second h i =
    let both = first ++ 10 ∷ (second ++ line_feed) in
    skip two one both first (10 ∷ (second ++ line_feed)) h ∙ skip one both (second ++ line_feed) second line_feed i

-- what is found behind whole lines
record Passes (two one line bytes rest : List ℕ) : Type 0 where
  more : List ℕ
  less : List ℕ
  is : last_two two one line bytes ≡ last_two more less rest rest

passes_on : (two one line bytes rest : List ℕ) (b : ℕ) → Passes one line bytes bytes rest → Passes two one line bytes rest
    → (x : Bool) → nat_eq b 10 ≡ x → Passes two one line (b ∷ bytes) rest
passes_on two one line bytes rest b h i true t =
    record { more = h.more; less = h.less; is = ap (λ c. if c then last_two one line bytes bytes else last_two two one line bytes) t ∙ h.is }
passes_on two one line bytes rest b h i false t =
    record { more = i.more; less = i.less; is = ap (λ c. if c then last_two one line bytes bytes else last_two two one line bytes) t ∙ i.is }

through : (two one line front rest : List ℕ) → Passes two one line (front ++ 10 ∷ rest) rest
through two one line [] rest = record { more = one; less = line; is = refl }
through two one line (b ∷ front) rest =
    let bytes = front ++ 10 ∷ rest in
    passes_on two one line bytes rest b (through one line bytes front rest) (through two one line front rest) (nat_eq b 10) refl

regroup : (a b c d : List ℕ) → (a ++ (b ++ c)) ++ d ≡ (a ++ b) ++ (c ++ d)
regroup a b c d = simp append_assoc

two_line_texts : (n : ℕ) (entries : List ScheduleEntry) → lines_text n entries ≡ (codes "schedule " ++ decimal n) ++ 10 ∷ (entries_text entries ++ line_feed)
two_line_texts n entries = regroup (codes "schedule ") (decimal n) line_feed (entries_text entries ++ line_feed)

pub are_short : (entries : List ScheduleEntry) → AreEntries entries → AreShort entries
are_short [] h = tt
are_short (e ∷ es) h =
    let a = h.0.0.1 in
    let t = h.0.1.1 in
    (record { agent = omega arith; times = omega arith }, are_short es h.1)

last_lines : (two one : List ℕ) (n : ℕ) (entries : List ScheduleEntry) → n ≤ 5000000 → AreEntries entries → last_two two one (lines_text n entries) (lines_text n entries) ≡ lines_text n entries
last_lines two one n entries l h =
    let words : Lacks 10 (codes "schedule ") = (refl, (refl, (refl, (refl, (refl, (refl, (refl, (refl, (refl, tt))))))))) in
    let first = lacks-append 10 (codes "schedule ") (decimal n) words (lacks-decimal 10 n feed_none (omega arith)) in
    subst (λ x. last_two two one x x ≡ x) (sym (two_line_texts n entries))
    (two_lines two one (codes "schedule " ++ decimal n) (entries_text entries) first (entries_lack 10 entries feed_none refl refl (are_short entries h)))

behind : (front last names text : List ℕ) → AreLines front → IsSchedule last names → text ≡ front ++ last → last_two text text text text ≡ last
behind front last names text (inl e) h is =
    let both = lines_text (length names) h.entries in
    let same : text ≡ both = is ∙ ap (λ x. x ++ last) e ∙ h.is in
    subst (λ x. last_two x x x x ≡ x) (sym same) (last_lines both both (length names) h.entries h.count.1 h.each) ∙ same ∙ sym h.is
behind front last names text (inr (before, e)) h is =
    let same : text ≡ before ++ 10 ∷ last = is ∙ ap (λ x. x ++ last) e ∙ append_assoc before line_feed last in
    let p = through text text text before last in
    ap (last_two text text text) same ∙ p.is ∙ ap (λ x. last_two p.more p.less x x) h.is ∙ last_lines p.more p.less (length names) h.entries h.count.1 h.each ∙ sym h.is

pub end_found : (text names : List ℕ) → EndsIn text names → IsSchedule (last_two text text text text) names
end_found text names h = subst (λ x. IsSchedule x names) (sym (behind h.front h.last names text h.lines h.schedule h.is)) h.schedule

bad_end : (text last : List ℕ) (n : ℕ) → last ≡ last_two text text text text → IsBadLine last n → EndsInNone text
bad_end text last n e b names h =
    let good = subst (λ x. IsSchedule x names) (sym e) (end_found text names h) in
    let f = one_answer last (Ok names) (Err n) good b in cc

pub last_none : (text last : List ℕ) (why : LineFault) (n : ℕ) → last ≡ last_two text text text text → why ≡ BadLine n → IsFaultAt last why → EndsInNone text
last_none text last why n e f h = bad_end text last n e (subst (IsFaultAt last) f h)

same_names : (a : Result (List ℕ) ℕ) (names others : List ℕ) → a ≡ Ok names → a ≡ Ok others → names ≡ others
same_names a names others e f = cc

pub one_end : OneEnd
one_end bytes names others h i =
    same_names (Ok names) names others refl (one_answer (last_two bytes bytes bytes bytes) (Ok names) (Ok others) (end_found bytes names h) (end_found bytes others i))

pub end_printed : EndPrinted
end_printed bytes names h =
    let s = h.schedule in
    ap printed (h.is ∙ ap (λ x. h.front ++ x) s.is) ∙ printed-lines h.front (length names) s.entries (are_short s.entries s.each) ∙ s.stand
