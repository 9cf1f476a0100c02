-- The beliefs of slots, one slot after the other.
use Rattle.std.proofs.Common.{ℕ, zero, suc, ◌≡◌, ◌≤◌, ◌+◌, List, [], ◌∷◌, ◌++◌, drop, length, Option, Some, None, refl, sym, ap, ◌∙◌, arith, append_assoc, append-nil}
use Rattle.std.proofs.lemmas.List.{drop_all}
use Rattle.std.specs.Prelude.{option_to_list}
use Rattle.asl_index_tables.specs.Slots.{kept, at_slot}

kept_next : {A : Type 0} (s : List (Option A)) (k : ℕ) → kept (drop k s) ≡ option_to_list (at_slot s k) ++ kept (drop (k + 1) s)
kept_next [] zero = refl
kept_next [] (suc k) = sym (ap kept (drop_all (suc k + 1) [] (omega arith)))
kept_next (None ∷ s) zero = refl
kept_next (Some x ∷ s) zero = refl
kept_next (x ∷ s) (suc k) =
    let same : suc (k + 1) ≡ suc k + 1 = omega arith in
    kept_next s k ∙ ap (λ n. option_to_list (at_slot s k) ++ kept (drop n (x ∷ s))) same

pub kept_step : {A : Type 0} (s : List (Option A)) (k : ℕ) (old new : List A) → new ≡ old ++ option_to_list (at_slot s k)
    → old ++ kept (drop k s) ≡ kept s → new ++ kept (drop (k + 1) s) ≡ kept s
kept_step s k old new e h =
    ap (λ z. z ++ kept (drop (k + 1) s)) e ∙ append_assoc old (option_to_list (at_slot s k)) (kept (drop (k + 1) s))
    ∙ sym (ap (λ z. old ++ z) (kept_next s k)) ∙ h

pub kept_end : {A : Type 0} (s : List (Option A)) (k : ℕ) (all : List A) → length s ≤ k → all ++ kept (drop k s) ≡ kept s → all ≡ kept s
kept_end s k all h e = sym (append-nil all) ∙ sym (ap (λ z. all ++ kept z) (drop_all k s h)) ∙ e
