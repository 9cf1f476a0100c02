-- Failures that are counted, and entries by agent.
use Rattle.std.proofs.Common.{ℕ, ◌≡◌, ◌≤◌, ◌<◌, ◌+◌, ◌^◌, Bool, List, ◌++◌, length, drop, get_or}
use Rattle.std.proofs.Common.{sym, ap, refl, ◌∙◌, arith, append_assoc, append-nil}
use Rattle.std.specs.Prelude.{codes, nat_lt, true, false, ◌||◌}
use Rattle.std.proofs.lemmas.Bool.{le-ltb, lt-ltb, ltb-false, ltb-true}
use Rattle.std.proofs.lemmas.List.{at_drop_all, at_drop_more}
use Rattle.look_lines.specs.declared.falls.FallLine.{FallLine}
use Rattle.look_mind.specs.declared.fallen.RunFalls.{RunFalls}
use Rattle.look_mind.specs.Entries.{agent_text, agents_text, count, count_all, is_counted, is_some_told, one_if, some_number, text_at, written}
use Rattle.look_mind.specs.Marks.{turns_at}

written_sum : (a b c : ℕ) → written (written (a + b) + c) ≡ written (a + (b + c))
written_sum a b c = omega arith

written_below : (n : ℕ) → n < 2 ^ 64 → written (n + 0) ≡ n
written_below n h = omega arith

-- ---- the loop over failures

module _ (u : Bool) (word : List ℕ) (falls : List FallLine) (i n : ℕ) (total : ℕ) (h : written (n + count u word (drop i falls)) ≡ total) where
  pub count_step : (d : FallLine) (more : ℕ) → i < length falls → more ≡ written (n + one_if (is_counted u word (get_or falls i d))) →
      written (more + count u word (drop (i + 1) falls)) ≡ total
  count_step d more l e =
      let a = one_if (is_counted u word (get_or falls i d)) in
      let b = count u word (drop (i + 1) falls) in
      ap (λ m. written (m + b)) e ∙ written_sum n a b ∙ sym (ap (λ m. written (n + m)) (at_drop_more (count u word) falls i d l)) ∙ h

  pub count_end : n < 2 ^ 64 → length falls ≤ i → n ≡ total
  count_end s l = sym (written_below n s) ∙ sym (ap (λ m. written (n + m)) (at_drop_all (count u word) falls i l)) ∙ h

-- ---- the loop over agents

module _ (u : Bool) (word : List ℕ) (all : List (List FallLine)) (i n : ℕ) (total : ℕ) (h : written (n + count_all u word (drop i all)) ≡ total) where
  pub count_all_step : (d : List FallLine) (more : ℕ) → i < length all → more ≡ written (n + count u word (get_or all i d)) →
      written (more + count_all u word (drop (i + 1) all)) ≡ total
  count_all_step d more l e =
      let a = count u word (get_or all i d) in
      let b = count_all u word (drop (i + 1) all) in
      ap (λ m. written (m + b)) e ∙ written_sum n a b ∙ sym (ap (λ m. written (n + m)) (at_drop_more (count_all u word) all i d l)) ∙ h

  pub count_all_end : n < 2 ^ 64 → length all ≤ i → n ≡ total
  count_all_end s l = sym (written_below n s) ∙ sym (ap (λ m. written (n + m)) (at_drop_all (count_all u word) all i l)) ∙ h

some_written : (n : ℕ) (b : Bool) → nat_lt 0 n ≡ b → nat_lt 0 (written n) ≡ b
some_written n true e = let more = ltb-true 0 n e in lt-ltb 0 (written n) (omega arith)
some_written n false e = let none = ltb-false 0 n e in le-ltb 0 (written n) (omega arith)

pub found_so : (u : Bool) (all : List (List FallLine)) (dropped failed spent : ℕ) (found : Bool) →
    dropped ≡ written (count_all u (codes "drops ") all) → failed ≡ written (count_all u (codes "failed ") all) →
    spent ≡ written (count_all u (codes "spent ") all) → found ≡ some_number dropped failed spent → found ≡ is_some_told u all
found_so u all dropped failed spent found d f s e =
    let a = some_written (count_all u (codes "drops ") all) (nat_lt 0 (count_all u (codes "drops ") all)) refl in
    let b = some_written (count_all u (codes "failed ") all) (nat_lt 0 (count_all u (codes "failed ") all)) refl in
    let c = some_written (count_all u (codes "spent ") all) (nat_lt 0 (count_all u (codes "spent ") all)) refl in
    e ∙ ap (λ n. some_number n failed spent) d
    ∙ ap (λ n. some_number (written (count_all u (codes "drops ") all)) n spent) f
    ∙ ap (λ n. some_number (written (count_all u (codes "drops ") all)) (written (count_all u (codes "failed ") all)) n) s
    ∙ (λ i. a i || (b i || c i))

-- ---- the entries by agent

module _ (u : Bool) (r : RunFalls) (before : List (List (List ℕ))) (own : List (List ℕ)) (all : List (List FallLine)) (k : ℕ) (out total : List ℕ)
    (h : out ++ agents_text u r before own k (drop k all) ≡ total) where
  pub agents_step : (d : List FallLine) (grown : List ℕ) → k < length all →
      grown ≡ out ++ agent_text u r.options before (text_at r.names k) (turns_at own k) (get_or all k d) →
      grown ++ agents_text u r before own (k + 1) (drop (k + 1) all) ≡ total
  agents_step d grown l e =
      let one = agent_text u r.options before (text_at r.names k) (turns_at own k) (get_or all k d) in
      let rest = agents_text u r before own (k + 1) (drop (k + 1) all) in
      ap (λ x. x ++ rest) e ∙ append_assoc out one rest ∙ sym (ap (λ x. out ++ x) (at_drop_more (agents_text u r before own k) all k d l)) ∙ h

  pub agents_end : length all ≤ k → out ≡ total
  agents_end l = sym (append-nil out) ∙ sym (ap (λ x. out ++ x) (at_drop_all (agents_text u r before own k) all k l)) ∙ h
