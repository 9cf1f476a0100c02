-- The entries of numbers.
use Rattle.std.proofs.Common.{ℕ, zero, suc, ◌≡◌, ◌≢◌, ◌+◌, ◌<◌, ◌≤◌, ◌^◌, arith, Bool, true, false, nat_eq, List, [], ◌∷◌, ◌++◌, length, map, replicate, Result, Ok, refl, ap, sym, subst, ◌∙◌, append_assoc, append-nil, if◌then◌else◌}
use Rattle.std.specs.List.{flat_map, join_with_byte}
use Rattle.std.proofs.lemmas.Grind.{common_steps}
use Rattle.std.proofs.lemmas.Bool.{eqb-true}
use Rattle.std.proofs.lemmas.List.{length-append, length-replicate, replicate-append-replicate}
use Rattle.mas_report_schedule.specs.declared.entry.ScheduleEntry.{ScheduleEntry}
use Rattle.mas_report_schedule.specs.Schedule.{entry, once, spread, entry_text, entries_text, singles, runs_on, runs, entries_of, schedule_text, printed, AllFromOne}
use Rattle.mas_report_schedule.specs.Reading.{IsCount, IsAgent, AreEntries, IsSchedule, Answers, ReadAgain, PrintedLast, EntriesStand, AreMaximal, RunsMaximal, RunsAlone}
use Rattle.mas_report_schedule.proofs.Numerals.{pick, pass}
use Rattle.mas_report_schedule.proofs.Answered.{one_answer}
use Rattle.mas_report_schedule.proofs.Told.{IsShort, AreShort, printed-lines}

-- ---- they stand for the numbers

singles_stand : (names : List ℕ) → spread (singles names) ≡ names
singles_stand [] = refl
singles_stand (n ∷ ns) = ap (λ x. n ∷ x) (singles_stand ns)

longer_stands : (run : ScheduleEntry) (ns : List ℕ) → replicate (run.times + 1) run.agent ++ ns ≡ replicate run.times run.agent ++ run.agent ∷ ns
longer_stands run ns =
    ap (λ x. x ++ ns) (sym (replicate-append-replicate run.times 1 run.agent)) ∙ append_assoc (replicate run.times run.agent) (run.agent ∷ []) ns

runs_on_step : (run : ScheduleEntry) (n : ℕ) (ns : List ℕ) → spread (runs_on (entry run.agent (run.times + 1)) ns) ≡ replicate (run.times + 1) run.agent ++ ns →
    spread (runs_on (once n) ns) ≡ n ∷ ns → (b : Bool) → nat_eq n run.agent ≡ b →
    spread (if b then runs_on (entry run.agent (run.times + 1)) ns else run ∷ runs_on (once n) ns) ≡ replicate run.times run.agent ++ n ∷ ns
runs_on_step run n ns longer new true e = longer ∙ longer_stands run ns ∙ ap (λ x. replicate run.times run.agent ++ x ∷ ns) (sym (eqb-true n run.agent e))
runs_on_step run n ns longer new false e = ap (λ x. replicate run.times run.agent ++ x) new

runs_on_stand : (run : ScheduleEntry) (ns : List ℕ) → spread (runs_on run ns) ≡ replicate run.times run.agent ++ ns
runs_on_stand run [] = refl
runs_on_stand run (n ∷ ns) = runs_on_step run n ns (runs_on_stand (entry run.agent (run.times + 1)) ns) (runs_on_stand (once n) ns) (nat_eq n run.agent) refl

runs_stand : (names : List ℕ) → spread (runs names) ≡ names
runs_stand [] = refl
runs_stand (n ∷ ns) = runs_on_stand (once n) ns

pub entries_stand : EntriesStand
entries_stand version names = go (nat_eq version 1)
  where
    go : (b : Bool) → spread (if b then singles names else runs names) ≡ names
    go true = singles_stand names
    go false = runs_stand names

-- ---- each is of an agent

-- agents from 1 to the greatest, and none more often than so
abbrev AreWithin : ℕ → List ScheduleEntry → Type 0
AreWithin most [] = Unit {0}
AreWithin most (e ∷ es) = (IsAgent e.agent × (0 < e.times) × (e.times ≤ most)) × AreWithin most es

singles_within : (most : ℕ) (names : List ℕ) → length names ≤ most → AllFromOne 65535 names → AreWithin most (singles names)
singles_within most [] l h = tt
singles_within most (n ∷ ns) l h = ((h.0, omega arith, omega arith), singles_within most ns (omega arith) h.1)

runs_on_within_by : (most : ℕ) (run : ScheduleEntry) (n : ℕ) (ns : List ℕ) → IsAgent run.agent → 0 < run.times → run.times ≤ most →
    AreWithin most (runs_on (entry run.agent (run.times + 1)) ns) → AreWithin most (runs_on (once n) ns) → (b : Bool) →
    AreWithin most (if b then runs_on (entry run.agent (run.times + 1)) ns else run ∷ runs_on (once n) ns)
runs_on_within_by most run n ns a s l longer new true = longer
runs_on_within_by most run n ns a s l longer new false = ((a, s, l), new)

runs_on_within : (most : ℕ) (run : ScheduleEntry) (ns : List ℕ) → IsAgent run.agent → 0 < run.times → run.times + length ns ≤ most → AllFromOne 65535 ns → AreWithin most (runs_on run ns)
runs_on_within most run [] a s l h = ((a, s, omega arith), tt)
runs_on_within most run (n ∷ ns) a s l h =
    runs_on_within_by most run n ns a s (omega arith) (runs_on_within most (entry run.agent (run.times + 1)) ns a (omega arith) (omega arith) h.1)
    (runs_on_within most (once n) ns h.0 (omega arith) (omega arith) h.1) (nat_eq n run.agent)

runs_within : (most : ℕ) (names : List ℕ) → length names ≤ most → AllFromOne 65535 names → AreWithin most (runs names)
runs_within most [] l h = tt
runs_within most (n ∷ ns) l h = runs_on_within most (once n) ns h.0 (omega arith) (omega arith) h.1

entries_within : (version most : ℕ) (names : List ℕ) → length names ≤ most → AllFromOne 65535 names → AreWithin most (entries_of version names)
entries_within version most names l h = go (nat_eq version 1)
  where
    go : (b : Bool) → AreWithin most (if b then singles names else runs names)
    go true = singles_within most names l h
    go false = runs_within most names l h

are_entries : (es : List ScheduleEntry) → AreWithin 5000000 es → AreEntries es
are_entries [] h = tt
are_entries (e ∷ es) h = ((h.0.0, (h.0.1, h.0.2)), are_entries es h.1)

are_short : (most : ℕ) (es : List ScheduleEntry) → most < 2 ^ 64 → AreWithin most es → AreShort es
are_short most [] l h = tt
are_short most (e ∷ es) l h =
    let a = h.0.0.1 in
    let t = h.0.2 in
    (record { agent = omega arith; times = omega arith }, are_short most es l h.1)

-- ---- what is written is read again

-- each is of an agent, as often as a schedule may have numbers
pub are_of_agents : (version : ℕ) (names : List ℕ) → length names ≤ 5000000 → AllFromOne 65535 names → AreEntries (entries_of version names)
are_of_agents version names l h = are_entries (entries_of version names) (entries_within version 5000000 names l h)

pub is_schedule : (version : ℕ) (names : List ℕ) → IsCount (length names) → AllFromOne 65535 names → IsSchedule (schedule_text version names) names
is_schedule version names c h = record {
  count = c;
  entries = entries_of version names;
  each = are_of_agents version names c.1 h;
  stand = entries_stand version names;
  is = refl;
}

pub read_again : ReadAgain
read_again version names c h r i = one_answer (schedule_text version names) r (Ok names) i (is_schedule version names c h)

pub printed_last : PrintedLast
printed_last version before names h l =
    let few : length names ≤ length names = omega arith in
    printed-lines before (length names) (entries_of version names) (are_short (length names) (entries_of version names) l (entries_within version (length names) names few h))
    ∙ entries_stand version names

-- ---- runs are maximal

-- the first of them is of this agent
pub record FirstOf (agent : ℕ) (es : List ScheduleEntry) : Type 0 where
  pub first : ScheduleEntry
  pub rest : List ScheduleEntry
  pub are : es ≡ first ∷ rest
  pub same : first.agent ≡ agent

first_by : (run : ScheduleEntry) (n : ℕ) (ns : List ℕ) → FirstOf run.agent (runs_on (entry run.agent (run.times + 1)) ns) → (b : Bool) →
    FirstOf run.agent (if b then runs_on (entry run.agent (run.times + 1)) ns else run ∷ runs_on (once n) ns)
first_by run n ns longer true = longer
first_by run n ns longer false = record { first = run; rest = runs_on (once n) ns; are = refl; same = refl }

pub runs_on_first : (run : ScheduleEntry) (ns : List ℕ) → FirstOf run.agent (runs_on run ns)
runs_on_first run [] = record { first = run; rest = []; are = refl; same = refl }
runs_on_first run (n ∷ ns) = first_by run n ns (runs_on_first (entry run.agent (run.times + 1)) ns) (nat_eq n run.agent)

apart : (a n : ℕ) → nat_eq n a ≡ false → a ≢ n
apart a n e = grind (arith, common_steps)

maximal_before : (run : ScheduleEntry) (n : ℕ) (es : List ScheduleEntry) → 0 < run.times → nat_eq n run.agent ≡ false → AreMaximal es → FirstOf n es → AreMaximal (run ∷ es)
maximal_before run n es s d m f =
    subst (λ x. AreMaximal (run ∷ x)) (sym f.are) (s, subst (λ x. run.agent ≢ x) (sym f.same) (apart run.agent n d), subst AreMaximal f.are m)

maximal_by : (run : ScheduleEntry) (n : ℕ) (ns : List ℕ) → 0 < run.times → AreMaximal (runs_on (entry run.agent (run.times + 1)) ns) → AreMaximal (runs_on (once n) ns) →
    (b : Bool) → nat_eq n run.agent ≡ b → AreMaximal (if b then runs_on (entry run.agent (run.times + 1)) ns else run ∷ runs_on (once n) ns)
maximal_by run n ns s longer new true e = longer
maximal_by run n ns s longer new false e = maximal_before run n (runs_on (once n) ns) s e new (runs_on_first (once n) ns)

runs_on_maximal : (run : ScheduleEntry) (ns : List ℕ) → 0 < run.times → AreMaximal (runs_on run ns)
runs_on_maximal run [] s = s
runs_on_maximal run (n ∷ ns) s =
    maximal_by run n ns s (runs_on_maximal (entry run.agent (run.times + 1)) ns (omega arith)) (runs_on_maximal (once n) ns (omega arith)) (nat_eq n run.agent) refl

pub runs_maximal : RunsMaximal
runs_maximal [] = tt
runs_maximal (n ∷ ns) = runs_on_maximal (once n) ns (omega arith)

-- ---- and alone are

-- more of the same
runs_on_same : (agent times k : ℕ) (ns : List ℕ) → runs_on (entry agent times) (replicate k agent ++ ns) ≡ runs_on (entry agent (times + k)) ns
runs_on_same agent times zero ns = ap (λ t. runs_on (entry agent t) ns) (omega arith)
runs_on_same agent times (suc k) ns =
    pick (nat_eq agent agent) _ _ (same agent) ∙ runs_on_same agent (times + 1) k ns ∙ ap (λ t. runs_on (entry agent t) ns) (omega arith)
  where
    same : (n : ℕ) → nat_eq n n ≡ true
    same n = grind (arith, common_steps)

differ : (a n : ℕ) → a ≢ n → nat_eq n a ≡ false
differ a n d = grind (arith, common_steps)

first_some : (e : ScheduleEntry) (es : List ScheduleEntry) → AreMaximal (e ∷ es) → 0 < e.times
first_some e [] m = m
first_some e (f ∷ es) m = m.0

-- how the numbers of entries begin: those of the first make a run that goes on as that one
record Begins (e : ScheduleEntry) (es : List ScheduleEntry) : Type 0 where
  more : ℕ
  is : spread (e ∷ es) ≡ e.agent ∷ (replicate more e.agent ++ spread es)
  runs_are : runs_on (once e.agent) (replicate more e.agent ++ spread es) ≡ runs_on e (spread es)

begins : (e : ScheduleEntry) (es : List ScheduleEntry) → 0 < e.times → Begins e es
begins e es s = of e.times refl s
  where
    of : (t : ℕ) → t ≡ e.times → 0 < t → Begins e es
    of zero same l = absurd (omega arith)
    of (suc k) same l = record {
      more = k;
      is = ap (λ t. replicate t e.agent ++ spread es) (sym same);
      runs_are = runs_on_same e.agent 1 k (spread es) ∙ ap (λ t. runs_on (entry e.agent t) (spread es)) (omega arith);
    }

runs_alone_on : (e : ScheduleEntry) (es : List ScheduleEntry) → AreMaximal (e ∷ es) → runs_on e (spread es) ≡ e ∷ es
runs_alone_on e [] m = refl
runs_alone_on e (f ∷ es) m =
    let b = begins f es (first_some f es m.2) in
    ap (runs_on e) b.is
    ∙ pass (nat_eq f.agent e.agent) _ _ (differ e.agent f.agent m.1)
    ∙ ap (λ x. e ∷ x) (b.runs_are ∙ runs_alone_on f es m.2)

pub runs_alone : RunsAlone
runs_alone [] m = refl
runs_alone (e ∷ es) m =
    let b = begins e es (first_some e es m) in
    ap runs b.is ∙ b.runs_are ∙ runs_alone_on e es m
