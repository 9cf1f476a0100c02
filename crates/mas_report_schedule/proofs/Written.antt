-- The line of entries, written one after the other.
use Rattle.std.proofs.Common.{ℕ, ◌≡◌, ◌+◌, nat_eq, List, [], ◌∷◌, ◌++◌, refl, ap, sym, subst, ◌∙◌, append_assoc, append-nil}
use Rattle.std.specs.List.{join_with_byte}
use Rattle.std.proofs.lemmas.Bool.{eq-eqb, ne_eqb}
use Rattle.mas_report_schedule.specs.declared.entry.ScheduleEntry.{ScheduleEntry}
use Rattle.mas_report_schedule.specs.Schedule.{entry, once, entry_text, entries_text, singles, runs_on, runs}
use Rattle.mas_report_schedule.proofs.Numerals.{pick, pass}
use Rattle.mas_report_schedule.proofs.RunLemmas.{FirstOf, runs_on_first}

-- entries, each behind a space
abbrev pub more_entries : List ScheduleEntry → List ℕ
more_entries [] = []
more_entries (e ∷ es) = 32 ∷ (entry_text e ++ more_entries es)

pub entries_begin : (e : ScheduleEntry) (es : List ScheduleEntry) → entries_text (e ∷ es) ≡ entry_text e ++ more_entries es
entries_begin e [] = sym (append-nil (entry_text e))
entries_begin e (f ∷ es) = ap (λ x. entry_text e ++ 32 ∷ x) (entries_begin f es)

-- the first run is there, whatever comes behind it
run_text : (run : ScheduleEntry) (n : ℕ) (es : List ScheduleEntry) → FirstOf n es → entries_text (run ∷ es) ≡ entry_text run ++ 32 ∷ entries_text es
run_text run n es f = subst (λ x. entries_text (run ∷ x) ≡ entry_text run ++ 32 ∷ entries_text x) (sym f.are) refl

-- a number that goes on with the run
pub run_longer : (out total : List ℕ) (run : ScheduleEntry) (n : ℕ) (ns : List ℕ) → n ≡ run.agent → out ++ entries_text (runs_on run (n ∷ ns)) ≡ total →
    out ++ entries_text (runs_on (entry run.agent (run.times + 1)) ns) ≡ total
run_longer out total run n ns e h = ap (λ x. out ++ entries_text x) (sym (pick (nat_eq n run.agent) _ _ (eq-eqb n run.agent e))) ∙ h

-- one that does not
pub run_ended : (out grown total : List ℕ) (run : ScheduleEntry) (n : ℕ) (ns : List ℕ) → (n ≡ run.agent → ⊥) → grown ≡ (out ++ entry_text run) ++ 32 ∷ [] →
    out ++ entries_text (runs_on run (n ∷ ns)) ≡ total → grown ++ entries_text (runs_on (once n) ns) ≡ total
run_ended out grown total run n ns d g h =
    ap (λ x. x ++ entries_text (runs_on (once n) ns)) g
    ∙ append_assoc (out ++ entry_text run) (32 ∷ []) (entries_text (runs_on (once n) ns))
    ∙ append_assoc out (entry_text run) (32 ∷ entries_text (runs_on (once n) ns))
    ∙ ap (λ x. out ++ x) (sym (run_text run n (runs_on (once n) ns) (runs_on_first (once n) ns)))
    ∙ ap (λ x. out ++ entries_text x) (sym (pass (nat_eq n run.agent) _ _ (ne_eqb n run.agent d)))
    ∙ h

-- ---- one entry for each number

pub single_next : (out grown total : List ℕ) (n : ℕ) (ns : List ℕ) → grown ≡ (out ++ 32 ∷ []) ++ entry_text (once n) →
    out ++ more_entries (singles (n ∷ ns)) ≡ total → grown ++ more_entries (singles ns) ≡ total
single_next out grown total n ns g h =
    ap (λ x. x ++ more_entries (singles ns)) g
    ∙ append_assoc (out ++ 32 ∷ []) (entry_text (once n)) (more_entries (singles ns))
    ∙ append_assoc out (32 ∷ []) (entry_text (once n) ++ more_entries (singles ns))
    ∙ h

pub single_first : (out grown : List ℕ) (n : ℕ) (ns : List ℕ) → grown ≡ out ++ entry_text (once n) → grown ++ more_entries (singles ns) ≡ out ++ entries_text (singles (n ∷ ns))
single_first out grown n ns g =
    ap (λ x. x ++ more_entries (singles ns)) g ∙ append_assoc out (entry_text (once n)) (more_entries (singles ns)) ∙ ap (λ x. out ++ x) (sym (entries_begin (once n) (singles ns)))
