-- The known names are those of artifacts.
use Rattle.std.proofs.Common.{ℕ, ◌≡◌, ◌⊎◌, inl, inr, Bool, true, false, ◌||◌, if◌then◌else◌, List, [], ◌∷◌, ◌++◌, Some, refl, sym, subst, ◌∙◌}
use Rattle.std.specs.List.{AllByRecursion}
use Rattle.std.specs.Option.{IsSome}
use Rattle.std.specs.Str.{bytes_eq}
use Rattle.std.proofs.lemmas.List.Folds.{list_any-append}
use Rattle.std.proofs.lemmas.Slice.Eq.{bytes_eq-Decides}
use Rattle.asl_term.specs.Names.{with_name}
use Rattle.mas_world.specs.declared.acts.WorldText.{WorldText}
use Rattle.mas_world.specs.Worlds.{Used, named, AreNamed}
use Rattle.env_file.specs.Worlds.{has_name, IsWorld}
use Rattle.env_file.proofs.Opened.{uses_known}
use Rattle.mas_top_files.specs.Known.{known_after, known}

-- ---- whose names they are

same_name : (u : Used) (name : List ℕ) → bytes_eq name u.name ≡ true → bytes_eq u.name name ≡ true
same_name u name e =
    let same : name ≡ u.name = (bytes_eq-Decides name u.name).0 e in
    (bytes_eq-Decides u.name name).1 (sym same)

-- the first artifact of a name is of it, and the later ones too
named_first : (u : Used) (us : List Used) (name : List ℕ) → bytes_eq u.name name ≡ true → IsSome (named (u ∷ us) name)
named_first u us name e = subst (λ (b : Bool). IsSome (if b then Some u else named us name)) (sym e) refl

named_later : (u : Used) (us : List Used) (name : List ℕ) → IsSome (named us name) → IsSome (named (u ∷ us) name)
named_later u us name h = by_first (bytes_eq u.name name)
  where
    by_first : (b : Bool) → IsSome (if b then Some u else named us name)
    by_first true = refl
    by_first false = h

-- a name that is found is of the names before or of an artifact
abbrev Found : List (List ℕ) → List Used → List ℕ → Type 0
Found names us name = (has_name names name ≡ true) ⊎ IsSome (named us name)

found_here : (names : List (List ℕ)) (u : Used) (us : List Used) (name : List ℕ) (b c : Bool) → has_name names name ≡ b → bytes_eq name u.name ≡ c →
    (b || (c || false)) ≡ true → Found names (u ∷ us) name
found_here names u us name true c e f h = inl e
found_here names u us name false true e f h = inr (named_first u us name (same_name u name f))
found_here names u us name false false e f h = absurd cc

found_put : (names : List (List ℕ)) (u : Used) (us : List Used) (name : List ℕ) → has_name (with_name names u.name) name ≡ true → Found names (u ∷ us) name
found_put names u us name = by_there (has_name names u.name)
  where
    by_there : (b : Bool) → has_name (if b then names else names ++ u.name ∷ []) name ≡ true → Found names (u ∷ us) name
    by_there true e = inl e
    by_there false e =
        found_here names u us name (has_name names name) (bytes_eq name u.name) refl refl (sym (list_any-append (bytes_eq name) names (u.name ∷ [])) ∙ e)

found : (names : List (List ℕ)) (us : List Used) (name : List ℕ) → has_name (known_after names us) name ≡ true → Found names us name
found names [] name e = inl e
found names (u ∷ us) name e = by_place (found (with_name names u.name) us name e)
  where
    by_place : Found (with_name names u.name) us name → Found names (u ∷ us) name
    by_place (inl f) = found_put names u us name f
    by_place (inr h) = inr (named_later u us name h)

pub known_named : (objects : List Used) (name : List ℕ) → has_name (known objects) name ≡ true → IsSome (named objects name)
known_named objects name e = by_place (found [] objects name e)
  where
    by_place : Found [] objects name → IsSome (named objects name)
    by_place (inl f) = absurd cc
    by_place (inr h) = h

-- ---- so they are there

all_named : (objects : List Used) (names : List (List ℕ)) → AllByRecursion (λ name. has_name (known objects) name ≡ true) names → AreNamed names objects
all_named objects [] h = tt
all_named objects (name ∷ names) h = (known_named objects name h.0, all_named objects names h.1)

pub known_uses : (objects : List Used) (bytes : List ℕ) (text : WorldText) → IsWorld (known objects) bytes text → AreNamed text.uses objects
known_uses objects bytes text h = all_named objects text.uses (uses_known (known objects) bytes text h)
