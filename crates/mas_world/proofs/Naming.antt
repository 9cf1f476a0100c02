-- Lists of names, as loops go through them.
use Rattle.std.proofs.Common.{arith, ◌≡◌, ◌≤◌, ◌+◌, ℕ, true, List, [], ◌∷◌, ◌++◌, take, length, slice_get, Some, refl, sym, ap, ◌∙◌}
use Rattle.std.proofs.lemmas.Grind.{common_steps}
use Rattle.std.proofs.lemmas.List.{take_more}
use Rattle.std.proofs.lemmas.Option.{get_or_from_slice_get, slice_get_within}
use Rattle.asl_term.specs.Names.{name_at}
use Rattle.mas_world.specs.Worlds.{is_empty}
use Rattle.mas_world.proofs.Uses.{at_is}

pub next_taken : (names all : List (List ℕ)) (k : ℕ) (name : List ℕ) → all ≡ take k names → Some name ≡ name_at names (k + 1) → all ++ name ∷ [] ≡ take (k + 1) names
next_taken names all k name a at =
    let read : slice_get names k ≡ Some name = sym (at ∙ at_is names k) in
    ap (λ x. x ++ name ∷ []) a ∙ sym (take_more names k name (slice_get_within names k name read) ∙ ap (λ x. take k names ++ x ∷ []) (get_or_from_slice_get names k name name read))

pub all_taken : (names all : List (List ℕ)) (k : ℕ) → length names ≤ k → all ≡ take k names → all ≡ names
all_taken names all k h a = a ∙ whole names k h where
  whole : (ns : List (List ℕ)) (n : ℕ) → length ns ≤ n → take n ns ≡ ns
  whole ns n h = grind (arith, common_steps)

pub none_there : (names : List (List ℕ)) → length names ≡ 0 → is_empty names ≡ true
none_there [] e = refl
none_there (name ∷ more) e = absurd (omega (arith, e))
