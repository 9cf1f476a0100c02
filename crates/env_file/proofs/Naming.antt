-- Names that are there already.
use Rattle.std.proofs.Common.{◌≡◌, ℕ, ◌+◌, Bool, true, false, List, Option, Some, None, refl, sym, ◌∙◌}
use Rattle.std.specs.List.{position_or_len}
use Rattle.std.specs.Str.{bytes_eq}
use Rattle.asl_term.specs.Names.{place_of}
use Rattle.asl_term.proofs.Places.{absent, known}
use Rattle.env_file.specs.Worlds.{has_name}

pub has_some : (names : List (List ℕ)) (name : List ℕ) (k : ℕ) → place_of names name ≡ Some k → has_name names name ≡ true
has_some names name k e = go (has_name names name) refl
  where
    go : (b : Bool) → has_name names name ≡ b → b ≡ true
    go true f = refl
    go false f = let g : ◌≡◌ {A = Option ℕ} None (Some k) = sym (absent name names f) ∙ e in absurd cc

pub has_none : (names : List (List ℕ)) (name : List ℕ) → place_of names name ≡ None → has_name names name ≡ false
has_none names name e = go (has_name names name) refl
  where
    go : (b : Bool) → has_name names name ≡ b → b ≡ false
    go false f = refl
    go true f = let g : ◌≡◌ {A = Option ℕ} None (Some (position_or_len (bytes_eq name) names + 1)) = sym e ∙ known name names f in absurd cc
