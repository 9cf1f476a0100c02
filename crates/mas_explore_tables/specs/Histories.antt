-- Values that come of earlier ones, over any meaning V of values: each link brings one more.
use Rattle.std.specs.Prelude.{ℕ, suc, ◌≡◌, ◌<◌, ◌+◌, List, [], ◌∷◌, ◌++◌, length, slice_get, Option, None, Some}
use Rattle.std.specs.Option.{option_map}
use Rattle.mas_explore_tables.specs.declared.history.Link.{Link}
use Rattle.mas_explore_tables.specs.declared.history.Way.{Way}

-- a value that is put last, where there is one
abbrev pub put_some : {V : Type 0} → List V → Option V → List V
put_some vs None = vs
put_some vs (Some v) = vs ++ v ∷ []

-- what a link brings: what befell the value that it names
abbrev pub brought : {V E : Type 0} → (V → E → V) → List V → Link E → Option V
brought on vs link = option_map (λ v. on v link.what) (slice_get vs link.from)

-- the first values, and those that the links bring, in order
abbrev pub all_from : {V E : Type 0} → (V → E → V) → List V → List (Link E) → List V
all_from on vs [] = vs
all_from on vs (link ∷ links) = all_from on (put_some vs (brought on vs link)) links

-- each link names a value that is there before it, of which so many stand before the first link
abbrev pub AreLinked : {E : Type 0} → ℕ → List (Link E) → Type 0
AreLinked n [] = Unit {0}
AreLinked n (link ∷ links) = (link.from < n) × AreLinked (suc n) links

-- the number n is that of what the link at place j brought, of what has the number `from`
pub record IsBroughtBy {E : Type 0} (roots : ℕ) (links : List (Link E)) (n j from : ℕ) : Type 0 where
  pub number : n ≡ roots + j
  pub link : Link E
  pub at : slice_get links j ≡ Some link
  pub from_is : link.from ≡ from

-- the links at these places, the last one first, lead from the number n back to the number `root`
abbrev pub LeadsBack : {E : Type 0} → ℕ → List (Link E) → ℕ → List ℕ → ℕ → Type 0
LeadsBack roots links n [] root = n ≡ root
LeadsBack roots links n (j ∷ more) root = (from : ℕ) × IsBroughtBy roots links n j from × LeadsBack roots links from more root

-- the way back to one of the first values
pub record IsWay {E : Type 0} (roots : ℕ) (links : List (Link E)) (n : ℕ) (way : Way) : Type 0 where
  pub root : way.root < roots
  pub leads : LeadsBack roots links n way.places way.root
