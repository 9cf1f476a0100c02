-- A name that has a place is one of the names.
use Rattle.std.proofs.Common.{◌≡◌, ℕ, Bool, true, false, List, Some, None, refl}
use Rattle.std.specs.List.{list_any}
use Rattle.std.specs.Str.{bytes_eq}
use Rattle.asl_term.specs.Names.{place_of}
use Rattle.asl_term.proofs.Places.{absent, known}

pub none_is : (name : List ℕ) (ns : List (List ℕ)) → place_of ns name ≡ None → list_any (bytes_eq name) ns ≡ false
none_is name ns e = go (list_any (bytes_eq name) ns) refl where
  go : (b : Bool) → list_any (bytes_eq name) ns ≡ b → b ≡ false
  go true h = let k = known name ns h in cc
  go false h = refl

pub some_is : (name : List ℕ) (ns : List (List ℕ)) (k : ℕ) → place_of ns name ≡ Some k → list_any (bytes_eq name) ns ≡ true
some_is name ns k e = go (list_any (bytes_eq name) ns) refl where
  go : (b : Bool) → list_any (bytes_eq name) ns ≡ b → b ≡ true
  go true h = refl
  go false h = let n = absent name ns h in cc
