-- What bytes are: a schedule, or no schedule because of one line.
use Rattle.std.proofs.Common.{ℕ, zero, suc, ◌≡◌, ◌⊎◌, ◌-◌, ◌≤◌, ◌<◌, arith, Bool, true, false, List, [], ◌∷◌, ◌++◌, length, take, drop, Option, None, Some, Result, Ok, Err, refl, ap, sym, subst, inl, inr, ⊎_elim, ◌∙◌, append_assoc, append-nil, codes, decimal, eqb}
use Rattle.std.specs.Cmp.Lexicographic.{pointwise}
use Rattle.std.proofs.lemmas.Bool.Decides.{Decides-eqb}
use Rattle.std.proofs.lemmas.Slice.Eq.{starts_is}
use Rattle.std.proofs.lemmas.Option.{some_pair_parts}
use Rattle.mas_report_schedule.specs.declared.entry.ScheduleEntry.{ScheduleEntry}
use Rattle.mas_report_schedule.specs.declared.reading.LineFault.{LineFault}
use Rattle.mas_report_schedule.specs.declared.reading.LineFault.TheVariants.{Memory, BadLine}
use Rattle.mas_report_schedule.specs.Schedule.{line_feed, spread, entries_text, count_line, lines_text}
use Rattle.mas_report_schedule.specs.Reading.{IsCount, IsSchedule, BeginsCounted, BeginsEntered, BeginsUnentered, IsBadLine, first, second, third, IsFaultAt, Answers, OneAnswer, SomeAnswer}
use Rattle.mas_report_schedule.specs.inner.Scanning.{count_from, entry_from, IsLine, IsNoLine, lacking, exceeding, IsNoLineBy}
use Rattle.mas_report_schedule.proofs.Fronts.{IsFront, front_is, front_read}
use Rattle.mas_report_schedule.proofs.Lines.{counted_by, count_read, lined, AreFronts, no_front, spread_more, front_more, Parted, parted, entered_is, entered_read}

-- ---- where the first line is good

module _ (bytes : List ℕ) (n : ℕ) (rest : List ℕ) (h : BeginsCounted bytes n rest) where
  alone_is : (entries : List ScheduleEntry) → BeginsEntered rest n entries [] → IsSchedule bytes (spread entries)
  alone_is entries b = record {
    count = subst IsCount (sym b.as_many) h.count;
    entries = entries;
    each = b.each;
    stand = refl;
    is = h.is ∙ ap (λ x. count_line n ++ x) b.is ∙ ap (λ x. count_line x ++ (entries_text entries ++ line_feed)) (sym b.as_many);
  }

  pub line_is : (names : List ℕ) → IsLine n rest names → IsSchedule bytes names
  line_is names l = subst (IsSchedule bytes) l.stand (alone_is l.entries l.begins)

  bad_line : (k : ℕ) → IsNoLine n rest k → IsBadLine bytes k
  bad_line k (lacking u) = second n rest h u
  bad_line k (exceeding entries b behind w) = third n rest entries b behind h w

  pub fault_is : (fault : LineFault) → IsNoLineBy n rest fault → IsFaultAt bytes fault
  fault_is Memory l = tt
  fault_is (BadLine k) l = bad_line k l

-- ---- the first line of any bytes

-- the line is there, or it is not
abbrev CountedOrNot : List ℕ → Type 0
CountedOrNot bytes = ((n : ℕ) × (rest : List ℕ) × BeginsCounted bytes n rest) ⊎ ((n : ℕ) (rest : List ℕ) → BeginsCounted bytes n rest → ⊥)

numbers_behind : (bytes digits : List ℕ) → bytes ≡ codes "schedule " ++ digits → (o : Option (ℕ × List ℕ)) → count_from digits ≡ o → CountedOrNot bytes
numbers_behind bytes digits e None f = inr (λ n rest h. let r = count_read bytes digits n rest e h in cc)
numbers_behind bytes digits e (Some (n, rest)) f = inl (n, rest, counted_by bytes digits n rest e f)

counted_or_not : (bytes : List ℕ) → CountedOrNot bytes
counted_or_not bytes = go (pointwise eqb (codes "schedule ") (take 9 bytes)) refl
  where
    go : (b : Bool) → b ≡ pointwise eqb (codes "schedule ") (take 9 bytes) → CountedOrNot bytes
    go true t = let s = starts_is Decides-eqb bytes (codes "schedule ") true t in numbers_behind bytes (drop 9 bytes) (s.0 refl) _ refl
    go false t = inr (λ n rest h.
        let s = starts_is Decides-eqb bytes (codes "schedule ") false t in
        let f = s.1 _ (h.is ∙ append_assoc (codes "schedule ") (decimal n ++ line_feed) rest) in cc)

-- the first line is one alone
one_count : (bytes : List ℕ) (n m : ℕ) (rest others : List ℕ) → BeginsCounted bytes n rest → BeginsCounted bytes m others → (n ≡ m) × (rest ≡ others)
one_count bytes n m rest others h i = some_pair_parts n m rest others (sym (count_read bytes _ n rest (split n rest h) h) ∙ count_read bytes _ m others (split n rest h) i)
  where
    split : (n : ℕ) (rest : List ℕ) → BeginsCounted bytes n rest → bytes ≡ codes "schedule " ++ ((decimal n ++ line_feed) ++ rest)
    split n rest h = h.is ∙ append_assoc (codes "schedule ") (decimal n ++ line_feed) rest

-- ---- the second line of any bytes

-- entries are at the front, or none are
abbrev FrontsOrNot : ℕ → List ℕ → Type 0
FrontsOrNot left bytes = ((entries : List ScheduleEntry) × (more : List ℕ) × AreFronts left bytes entries more) ⊎ ((entries : List ScheduleEntry) (more : List ℕ) → AreFronts left bytes entries more → ⊥)

module _ (left : ℕ) (bytes : List ℕ) (some : 0 < left) where
  none_there : entry_from left bytes ≡ None → (entries : List ScheduleEntry) (more : List ℕ) → Parted left bytes entries more → ⊥
  none_there r entries more p = let f = sym (front_read left bytes p.entry p.behind p.front) ∙ r in cc

  -- by what is behind the first
  behind_first : (e : ScheduleEntry) (behind : List ℕ) → entry_from left bytes ≡ Some (e, behind) → FrontsOrNot (left - e.times) behind → FrontsOrNot left bytes
  behind_first e behind r (inl (entries, more, h)) = inl (e ∷ entries, more, front_more left bytes e behind entries more (front_is left bytes e behind r) h)
  behind_first e behind r (inr not) = inr (λ entries more h. go entries more (parted left bytes entries more some h))
    where
      go : (entries : List ScheduleEntry) (more : List ℕ) → Parted left bytes entries more → ⊥
      go entries more p =
          let same = some_pair_parts p.entry e p.behind behind (sym (front_read left bytes p.entry p.behind p.front) ∙ r) in
          not p.rest more (subst (λ x. AreFronts (left - x.times) behind p.rest more) same.0 (subst (λ x. AreFronts (left - p.entry.times) x p.rest more) same.1 p.fronts))

  by_first : ((e : ScheduleEntry) (behind : List ℕ) → 0 < e.times → FrontsOrNot (left - e.times) behind) → (o : Option (ScheduleEntry × List ℕ)) → entry_from left bytes ≡ o → FrontsOrNot left bytes
  by_first again None r = inr (λ entries more h. none_there r entries more (parted left bytes entries more some h))
  by_first again (Some (e, behind)) r = behind_first e behind r (again e behind (front_is left bytes e behind r).times.0)

fronts_or_not : (fuel left : ℕ) (bytes : List ℕ) → left ≤ fuel → FrontsOrNot left bytes
fronts_or_not fuel zero bytes l = inl ([], bytes, no_front bytes)
fronts_or_not zero (suc left) bytes l = absurd (omega arith)
fronts_or_not (suc fuel) (suc left) bytes l =
    by_first (suc left) bytes (omega arith) (λ e behind s. fronts_or_not fuel (suc left - e.times) behind (omega arith)) (entry_from (suc left) bytes) refl

-- one line of entries alone is at the front
abbrev OneLine : List ScheduleEntry → List ℕ → List ScheduleEntry → List ℕ → Type 0
OneLine entries more others rest = (entries ≡ others) × (more ≡ rest)

no_entries : (entries : List ScheduleEntry) (bytes more : List ℕ) → AreFronts 0 bytes entries more → (entries ≡ []) × (more ≡ bytes)
no_entries [] bytes more h = (refl, sym h.is)
no_entries (e ∷ es) bytes more h = absurd (let n = sym (spread_more e es) ∙ h.as_many in let s = h.each.0.1.0 in omega arith)

one_line_first : (left : ℕ) (bytes : List ℕ) (entries : List ScheduleEntry) (more : List ℕ) (others : List ScheduleEntry) (rest : List ℕ) →
    ((l : ℕ) (b : List ℕ) (es : List ScheduleEntry) (fs : List ScheduleEntry) → l < left → AreFronts l b es more → AreFronts l b fs rest → OneLine es more fs rest) →
    Parted left bytes entries more → Parted left bytes others rest → OneLine entries more others rest
one_line_first left bytes entries more others rest again p q =
    let same = some_pair_parts p.entry q.entry p.behind q.behind (sym (front_read left bytes p.entry p.behind p.front) ∙ front_read left bytes q.entry q.behind q.front) in
    let fronts : AreFronts (left - q.entry.times) q.behind p.rest more =
    subst (λ x. AreFronts (left - x.times) q.behind p.rest more) same.0 (subst (λ x. AreFronts (left - p.entry.times) x p.rest more) same.1 p.fronts) in
    let some = q.front.times.0 in
    let few = q.front.few in
    let less : left - q.entry.times < left = omega arith in
    let r = again (left - q.entry.times) q.behind p.rest q.rest less fronts q.fronts in
    (p.are ∙ ap (λ x. x ∷ p.rest) same.0 ∙ ap (λ x. q.entry ∷ x) r.0 ∙ sym q.are, r.1)

one_line_at : (fuel left : ℕ) (bytes : List ℕ) (entries : List ScheduleEntry) (more : List ℕ) (others : List ScheduleEntry) (rest : List ℕ) → left ≤ fuel →
    AreFronts left bytes entries more → AreFronts left bytes others rest → OneLine entries more others rest
one_line_at fuel zero bytes entries more others rest l h g =
    let a = no_entries entries bytes more h in
    let b = no_entries others bytes rest g in
    (a.0 ∙ sym b.0, a.1 ∙ sym b.1)
one_line_at zero (suc left) bytes entries more others rest l h g = absurd (omega arith)
one_line_at (suc fuel) (suc left) bytes entries more others rest l h g =
    one_line_first (suc left) bytes entries more others rest (λ m b es fs k i j. one_line_at fuel m b es more fs rest (omega arith) i j)
    (parted (suc left) bytes entries more (omega arith) h) (parted (suc left) bytes others rest (omega arith) g)

one_line : (n : ℕ) (bytes : List ℕ) (entries : List ScheduleEntry) (more : List ℕ) (others : List ScheduleEntry) (rest : List ℕ) → 0 < n →
    BeginsEntered bytes n entries more → BeginsEntered bytes n others rest → OneLine entries more others rest
one_line n bytes entries more others rest s h g =
    one_line_at n n bytes entries more others rest (omega arith) (entered_read n bytes entries more s h) (entered_read n bytes others rest s g)

-- ---- some answer

behind_line : (entries : List ScheduleEntry) (more : List ℕ) (bytes : List ℕ) (n : ℕ) (rest : List ℕ) → BeginsCounted bytes n rest → BeginsEntered rest n entries more →
    (r : Result (List ℕ) ℕ) × Answers bytes r
behind_line entries [] bytes n rest h b = (Ok (spread entries), alone_is bytes n rest h entries b)
behind_line entries (c ∷ more) bytes n rest h b = (Err 3, third n rest entries c more h b)

by_second : (bytes : List ℕ) (n : ℕ) (rest : List ℕ) → BeginsCounted bytes n rest → FrontsOrNot n rest → (r : Result (List ℕ) ℕ) × Answers bytes r
by_second bytes n rest h (inl (entries, more, f)) = behind_line entries more bytes n rest h (entered_is n rest entries more h.count.0 f)
by_second bytes n rest h (inr not) = (Err 2, second n rest h (λ entries more b. not entries more (entered_read n rest entries more h.count.0 b)))

pub some_answer : SomeAnswer
some_answer bytes = ⊎_elim (λ (n, rest, h). by_second bytes n rest h (fronts_or_not n n rest (omega arith))) (λ h. (Err 1, first h)) (counted_or_not bytes)

-- ---- one answer

told : List ScheduleEntry → List ℕ → Result (List ℕ) ℕ
told entries [] = Ok (spread entries)
told entries (b ∷ more) = Err 3

-- what an answer tells of the bytes
data Found (bytes : List ℕ) (r : Result (List ℕ) ℕ) : Type 0 where
  no_count : ((n : ℕ) (rest : List ℕ) → BeginsCounted bytes n rest → ⊥) → r ≡ Err 1 → Found bytes r
  no_line : (n : ℕ) (rest : List ℕ) → BeginsCounted bytes n rest → BeginsUnentered rest n → r ≡ Err 2 → Found bytes r
  line : (n : ℕ) (rest : List ℕ) (entries : List ScheduleEntry) (behind : List ℕ) → BeginsCounted bytes n rest → BeginsEntered rest n entries behind → r ≡ told entries behind → Found bytes r

found_bad : (bytes : List ℕ) (k : ℕ) → IsBadLine bytes k → Found bytes (Err k)
unfolding told
found_bad bytes k (first not) = no_count not refl
found_bad bytes k (second n rest h not) = no_line n rest h not refl
found_bad bytes k (third n rest entries b behind h w) = line n rest entries (b ∷ behind) h w refl

found : (bytes : List ℕ) (r : Result (List ℕ) ℕ) → Answers bytes r → Found bytes r
unfolding told
found bytes (Ok names) i =
    line (length names) (entries_text i.entries ++ line_feed) i.entries [] (record { count = i.count; is = i.is })
    (record { each = i.each; as_many = ap length i.stand; is = refl }) (ap Ok (sym i.stand))
found bytes (Err k) i = found_bad bytes k i

module _ (bytes : List ℕ) (r s : Result (List ℕ) ℕ) where
  line_told : (n : ℕ) (rest : List ℕ) (entries : List ScheduleEntry) (behind : List ℕ) → BeginsCounted bytes n rest → BeginsEntered rest n entries behind → r ≡ told entries behind →
      Found bytes s → r ≡ s
  line_told n rest entries behind h b e (no_count not f) = absurd (not n rest h)
  line_told n rest entries behind h b e (no_line m others i not f) =
      let c = one_count bytes n m rest others h i in
      absurd (not entries behind (subst (λ x. BeginsEntered x m entries behind) c.1 (subst (λ x. BeginsEntered rest x entries behind) c.0 b)))
  line_told n rest entries behind h b e (line m others fs more i w f) =
      let c = one_count bytes n m rest others h i in
      let v = subst (λ x. BeginsEntered x m entries behind) c.1 (subst (λ x. BeginsEntered rest x entries behind) c.0 b) in
      let l = one_line m others entries behind fs more i.count.0 v w in
      e ∙ ap (λ x. told x behind) l.0 ∙ ap (told fs) l.1 ∙ sym f

  none_told : (n : ℕ) (rest : List ℕ) → BeginsCounted bytes n rest → BeginsUnentered rest n → r ≡ Err 2 → Found bytes s → r ≡ s
  none_told n rest h not e (no_count none f) = absurd (none n rest h)
  none_told n rest h not e (no_line m others i none f) = e ∙ sym f
  none_told n rest h not e (line m others fs more i w f) =
      let c = one_count bytes m n others rest i h in
      absurd (not fs more (subst (λ x. BeginsEntered x n fs more) c.1 (subst (λ x. BeginsEntered others x fs more) c.0 w)))

  nothing_told : ((n : ℕ) (rest : List ℕ) → BeginsCounted bytes n rest → ⊥) → r ≡ Err 1 → Found bytes s → r ≡ s
  nothing_told not e (no_count none f) = e ∙ sym f
  nothing_told not e (no_line m others i none f) = absurd (not m others i)
  nothing_told not e (line m others fs more i w f) = absurd (not m others i)

  same_found : Found bytes r → Found bytes s → r ≡ s
  same_found (no_count not e) g = nothing_told not e g
  same_found (no_line n rest h not e) g = none_told n rest h not e g
  same_found (line n rest entries behind h b e) g = line_told n rest entries behind h b e g

pub one_answer : OneAnswer
one_answer bytes r s a b = same_found bytes r s (found bytes r a) (found bytes s b)
