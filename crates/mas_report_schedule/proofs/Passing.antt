-- The loop over the entries of a line.
use Rattle.std.proofs.Common.{ℕ, ◌≡◌, ◌-◌, ◌<◌, ◌≤◌, arith, List, [], ◌∷◌, ◌++◌, length, replicate, Option, None, Some, refl, ap, sym, subst, ◌∙◌, append_assoc, append-nil}
use Rattle.std.proofs.lemmas.Option.{some_pair_parts}
use Rattle.mas_report_schedule.specs.declared.entry.ScheduleEntry.{ScheduleEntry}
use Rattle.mas_report_schedule.specs.Schedule.{spread}
use Rattle.mas_report_schedule.specs.Reading.{BeginsEntered, BeginsUnentered}
use Rattle.mas_report_schedule.specs.inner.Scanning.{entry_from, IsLine, IsNoLine, lacking, exceeding}
use Rattle.mas_report_schedule.proofs.Fronts.{IsFront, front_is, front_read}
use Rattle.mas_report_schedule.proofs.Lines.{AreFronts, no_front, front_more, Parted, parted, entered_is, entered_read}

-- some entries are still at the front
record SomeFronts (left : ℕ) (bytes more : List ℕ) : Type 0 where
  entries : List ScheduleEntry
  are : AreFronts left bytes entries more

-- Some entries are read, which stand for these names: those of the whole line are these and what stands for as many numbers as are left.
pub record Passed (count : ℕ) (bytes names : List ℕ) (left : ℕ) (rest : List ℕ) : Type 0 where
  done : List ScheduleEntry
  names_are : names ≡ spread done
  onward : (entries : List ScheduleEntry) (behind : List ℕ) → AreFronts left rest entries behind → AreFronts count bytes (done ++ entries) behind
  back : (entries : List ScheduleEntry) (behind : List ℕ) → AreFronts count bytes entries behind → SomeFronts left rest behind

pub nothing_passed : (count : ℕ) (bytes : List ℕ) → Passed count bytes [] count bytes
nothing_passed count bytes = record {
  done = [];
  names_are = refl;
  onward = λ entries behind h. h;
  back = λ entries behind h. record { entries = entries; are = h };
}

spread_last : (done : List ScheduleEntry) (e : ScheduleEntry) → spread (done ++ e ∷ []) ≡ spread done ++ replicate e.times e.agent
spread_last [] e = append-nil (replicate e.times e.agent)
spread_last (d ∷ done) e =
    ap (λ x. replicate d.times d.agent ++ x) (spread_last done e) ∙ sym (append_assoc (replicate d.times d.agent) (spread done) (replicate e.times e.agent))

-- there is one entry at the front alone
one_front : (left : ℕ) (rest : List ℕ) (e : ScheduleEntry) (behind more : List ℕ) → entry_from left rest ≡ Some (e, behind) → (entries : List ScheduleEntry) →
    Parted left rest entries more → SomeFronts (left - e.times) behind more
one_front left rest e behind more r entries p =
    let same = some_pair_parts p.entry e p.behind behind (sym (front_read left rest p.entry p.behind p.front) ∙ r) in
    record {
      entries = p.rest;
      are = subst (λ x. AreFronts (left - x.times) behind p.rest more) same.0 (subst (λ x. AreFronts (left - p.entry.times) x p.rest more) same.1 p.fronts);
    }

-- one entry more
pub entry_passed : (count : ℕ) (bytes names : List ℕ) (left : ℕ) (rest : List ℕ) (e : ScheduleEntry) (behind longer : List ℕ) → 0 < left → Passed count bytes names left rest →
    Some (e, behind) ≡ entry_from left rest → longer ≡ names ++ replicate e.times e.agent → Passed count bytes longer (left - e.times) behind
entry_passed count bytes names left rest e behind longer l p r n = record {
  done = p.done ++ e ∷ [];
  names_are = n ∙ ap (λ x. x ++ replicate e.times e.agent) p.names_are ∙ sym (spread_last p.done e);
  onward = λ entries more h. subst (λ x. AreFronts count bytes x more) (sym (append_assoc p.done (e ∷ []) entries))
      (p.onward (e ∷ entries) more (front_more left rest e behind entries more (front_is left rest e behind (sym r)) h));
  back = λ entries more h.
      let s = p.back entries more h in
      one_front left rest e behind more (sym r) s.entries (parted left rest s.entries more l s.are);
}

pub entry_few : (left : ℕ) (rest : List ℕ) (e : ScheduleEntry) (behind : List ℕ) → Some (e, behind) ≡ entry_from left rest → IsFront left rest e behind
entry_few left rest e behind r = front_is left rest e behind (sym r)

-- ---- the end of the loop

-- all numbers are read
all_passed : (count : ℕ) (bytes names : List ℕ) (left : ℕ) (rest : List ℕ) → left ≡ 0 → (p : Passed count bytes names left rest) → AreFronts count bytes p.done rest
all_passed count bytes names left rest l p =
    subst (λ x. AreFronts count bytes x rest) (append-nil p.done) (p.onward [] rest (subst (λ n. AreFronts n rest [] rest) (sym l) (no_front rest)))

no_bytes : (rest : List ℕ) → length rest ≡ 0 → rest ≡ []
no_bytes [] e = refl
no_bytes (b ∷ rest) e = absurd (omega arith)

pub line_passed : (count : ℕ) (bytes names : List ℕ) (left : ℕ) (rest : List ℕ) → 0 < count → left ≤ 0 → length rest ≡ 0 → Passed count bytes names left rest → IsLine count bytes names
line_passed count bytes names left rest s l e p =
    let none : left ≡ 0 = omega arith in
    record {
      entries = p.done;
      begins = subst (BeginsEntered bytes count p.done) (no_bytes rest e) (entered_is count bytes p.done rest s (all_passed count bytes names left rest none p));
      stand = sym p.names_are;
    }

more_behind : (n : ℕ) (bytes : List ℕ) (entries : List ScheduleEntry) (rest : List ℕ) → 0 < length rest → BeginsEntered bytes n entries rest → IsNoLine n bytes 3
more_behind n bytes entries [] l b = absurd (omega arith)
more_behind n bytes entries (b ∷ rest) l w = exceeding entries b rest w

pub more_passed : (count : ℕ) (bytes names : List ℕ) (left : ℕ) (rest : List ℕ) → 0 < count → left ≤ 0 → 0 < length rest → Passed count bytes names left rest → IsNoLine count bytes 3
more_passed count bytes names left rest s l m p =
    let none : left ≡ 0 = omega arith in
    more_behind count bytes p.done rest m (entered_is count bytes p.done rest s (all_passed count bytes names left rest none p))

-- none is at the front, though numbers are left
none_parted : (left : ℕ) (rest : List ℕ) (entries : List ScheduleEntry) (behind : List ℕ) → None ≡ entry_from left rest → Parted left rest entries behind → ⊥
none_parted left rest entries behind r p = let f = r ∙ front_read left rest p.entry p.behind p.front in cc

pub none_passed : (count : ℕ) (bytes names : List ℕ) (left : ℕ) (rest : List ℕ) → 0 < count → 0 < left → None ≡ entry_from left rest → Passed count bytes names left rest → IsNoLine count bytes 2
none_passed count bytes names left rest s l r p = lacking (λ entries behind h.
    let f = p.back entries behind (entered_read count bytes entries behind s h) in
    none_parted left rest f.entries behind r (parted left rest f.entries behind l f.are))
