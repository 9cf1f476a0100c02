-- Where a name stands.
use Rattle.std.proofs.Common.{◌≡◌, ℕ, ◌+◌, true, false, List, [], ◌∷◌, ◌++◌, position, Some, None, refl, sym, true≢false, arith}
use Rattle.std.proofs.lemmas.Grind.{common_steps}
use Rattle.std.specs.Cmp.Lexicographic.{nat_list_eq_equiv}
use Rattle.std.specs.List.{list_any, position_or_len}
use Rattle.std.specs.Option.{option_map}
use Rattle.std.specs.Str.{bytes_eq}
use Rattle.asl_term.specs.Names.{place_of}

module _ (name : List ℕ) where
  -- `place_of` is std's `position`, counted from 1
  pub place_at : (ns : List (List ℕ)) → place_of ns name ≡ option_map (λ k. k + 1) (position (bytes_eq name) ns)
  place_at [] = refl
  place_at (n ∷ ns) = grind (arith, place_at ns, common_steps)

  pub absent : (ns : List (List ℕ)) → list_any (bytes_eq name) ns ≡ false → place_of ns name ≡ None
  absent [] h = refl
  absent (n ∷ ns) h = grind (arith, absent ns, common_steps)

  pub known : (ns : List (List ℕ)) → list_any (bytes_eq name) ns ≡ true → place_of ns name ≡ Some (position_or_len (bytes_eq name) ns + 1)
  known [] h = absurd (true≢false (sym h))
  known (n ∷ ns) h = grind (arith, known ns, common_steps)

  pub added : (ns : List (List ℕ)) → list_any (bytes_eq name) ns ≡ false → place_of (ns ++ name ∷ []) name ≡ Some (position_or_len (bytes_eq name) ns + 1)
  added [] h = grind (arith, nat_list_eq_equiv.refl name, common_steps)
  added (n ∷ ns) h = grind (arith, added ns, common_steps)
