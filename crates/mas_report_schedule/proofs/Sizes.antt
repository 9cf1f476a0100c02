-- How long the text of a schedule is.
use Rattle.std.proofs.Common.{ℕ, ◌≡◌, ◌+◌, ◌*◌, ◌<◌, ◌≤◌, Bool, true, false, nat_eq, List, [], ◌∷◌, ◌++◌, length, map, decimal, codes, refl, ap, arith, if◌then◌else◌}
use Rattle.std.specs.List.{join_with_byte}
use Rattle.std.proofs.lemmas.Fmt.{length-decimal-le}
use Rattle.std.proofs.lemmas.List.{length-append}
use Rattle.mas_report_schedule.specs.declared.entry.ScheduleEntry.{ScheduleEntry}
use Rattle.mas_report_schedule.specs.Schedule.{entry, once, times_text, entry_text, entries_text, singles, runs_on, runs, entries_of, count_line, schedule_text, AllFromOne}
use Rattle.mas_report_schedule.specs.Reading.{IsCount, AreEntries}
use Rattle.mas_report_schedule.proofs.RunLemmas.{are_of_agents}

times_short : (t : ℕ) → t ≤ 5000000 → length (times_text t) ≤ 8
times_short t l = go (nat_eq t 1)
  where
    go : (b : Bool) → length (if b then [] else codes "x" ++ decimal t) ≤ 8
    go true = omega arith
    go false = let d = length-decimal-le 7 t (omega arith) (omega arith) (omega arith) in omega arith

entry_short : (e : ScheduleEntry) → e.agent ≤ 65535 → e.times ≤ 5000000 → length (entry_text e) ≤ 13
entry_short e a t =
    let d = length-decimal-le 5 e.agent (omega arith) (omega arith) (omega arith) in
    let s = times_short e.times t in
    let n = length-append (decimal e.agent) (times_text e.times) in
    omega arith

entries_short : (es : List ScheduleEntry) → AreEntries es → length (entries_text es) ≤ 14 * length es
entries_short [] h = omega arith
entries_short (e ∷ []) h = let s = entry_short e h.0.0.1 h.0.1.1 in omega arith
entries_short (e ∷ f ∷ es) h =
    let s = entry_short e h.0.0.1 h.0.1.1 in
    let r = entries_short (f ∷ es) h.1 in
    let n = length-append (entry_text e) (32 ∷ entries_text (f ∷ es)) in
    omega arith

singles_count : (names : List ℕ) → length (singles names) ≤ length names
singles_count [] = omega arith
singles_count (n ∷ ns) = let r = singles_count ns in omega arith

count_by : (run : ScheduleEntry) (n : ℕ) (ns : List ℕ) → length (runs_on (entry run.agent (run.times + 1)) ns) ≤ length ns + 1 → length (runs_on (once n) ns) ≤ length ns + 1 →
    (b : Bool) → length (if b then runs_on (entry run.agent (run.times + 1)) ns else run ∷ runs_on (once n) ns) ≤ length ns + 2
count_by run n ns longer new true = omega arith
count_by run n ns longer new false = omega arith

runs_on_count : (run : ScheduleEntry) (ns : List ℕ) → length (runs_on run ns) ≤ length ns + 1
runs_on_count run [] = omega arith
runs_on_count run (n ∷ ns) =
    let r = count_by run n ns (runs_on_count (entry run.agent (run.times + 1)) ns) (runs_on_count (once n) ns) (nat_eq n run.agent) in omega arith

runs_count : (names : List ℕ) → length (runs names) ≤ length names
runs_count [] = omega arith
runs_count (n ∷ ns) = let r = runs_on_count (once n) ns in omega arith

entries_count : (version : ℕ) (names : List ℕ) → length (entries_of version names) ≤ length names
entries_count version names = go (nat_eq version 1)
  where
    go : (b : Bool) → length (if b then singles names else runs names) ≤ length names
    go true = singles_count names
    go false = runs_count names

count_short : (n : ℕ) → n ≤ 5000000 → length (count_line n) ≤ 17
count_short n l =
    let d = length-decimal-le 7 n (omega arith) (omega arith) (omega arith) in
    let e = length-append (decimal n) (10 ∷ []) in
    omega arith

-- fourteen bytes for each number at most, and eighteen more
pub schedule_short : (version : ℕ) (names : List ℕ) → IsCount (length names) → AllFromOne 65535 names → length (schedule_text version names) ≤ 14 * length names + 18
schedule_short version names c h =
    let l = count_short (length names) c.1 in
    let n = entries_short (entries_of version names) (are_of_agents version names c.1 h) in
    let m = entries_count version names in
    let e = length-append (entries_text (entries_of version names)) (10 ∷ []) in
    let f = length-append (count_line (length names)) (entries_text (entries_of version names) ++ 10 ∷ []) in
    omega arith
