-- Places that are filed by sign, functor and number of arguments.
use Rattle.std.specs.Prelude.{◌≡◌, ℕ, Bool, ◌&&◌, ◌==◌, if◌then◌else◌, List, [], ◌∷◌, ◌++◌, length, suc, Option, Some, None}
use Rattle.std.specs.Option.{unwrap_or}
use Rattle.std.specs.Str.{bytes_eq}
use Rattle.std.specs.HashMap.{get}
use Rattle.asl_term.specs.declared.syntax.LiteralOf.{LiteralOf}
use Rattle.asl_term.specs.declared.syntax.Term.{Term}
use Rattle.asl_unify.specs.Compare.{same_sign}
use Rattle.asl_index_tables.specs.declared.frames.Group.{Group}
use Rattle.asl_index_tables.specs.declared.frames.Frames.{Frames}

-- whether a literal has this sign, functor and number of arguments
abbrev pub has_frame : Bool → List ℕ → ℕ → LiteralOf Term → Bool
has_frame neg functor count l = same_sign neg l.neg && bytes_eq functor l.functor && (count == length l.args)

-- whether a group is of this sign and number
abbrev pub is_group : Bool → ℕ → Group → Bool
is_group neg count g = same_sign neg g.neg && (count == g.count)

abbrev pub with_places : Group → List ℕ → Group
with_places g places = record { neg = g.neg; count = g.count; places = places }

-- the places of the first group of a sign and a number
abbrev pub places_in : Bool → ℕ → List Group → List ℕ
places_in neg count [] = []
places_in neg count (g ∷ more) = if is_group neg count g then g.places else places_in neg count more

-- the place of that group, counted from a number
abbrev pub group_from : ℕ → Bool → ℕ → List Group → Option ℕ
group_from n neg count [] = None
group_from n neg count (g ∷ more) = if is_group neg count g then Some n else group_from (suc n) neg count more

-- the places that are filed under a sign, a functor and a number
abbrev pub filed : Frames → Bool → List ℕ → ℕ → List ℕ
filed f neg functor count = places_in neg count (unwrap_or (get bytes_eq f.groups functor) [])

-- the places without the first that is this one
abbrev pub without : ℕ → List ℕ → List ℕ
without place [] = []
without place (k ∷ more) = if place == k then more else k ∷ without place more

-- where the first of them stands, counted from a number
abbrev pub place_from : ℕ → ℕ → List ℕ → Option ℕ
place_from n place [] = None
place_from n place (k ∷ more) = if place == k then Some n else place_from (suc n) place more

-- among groups: a place was put last, or taken out, under a sign and a number, and all else is as before
abbrev pub ArePut : Bool → ℕ → ℕ → List Group → List Group → Type 0
ArePut neg count place old new = (n : Bool) (c : ℕ)
    → places_in n c new ≡ if same_sign n neg && (c == count) then places_in n c old ++ place ∷ [] else places_in n c old

abbrev pub AreTaken : Bool → ℕ → ℕ → List Group → List Group → Type 0
AreTaken neg count place old new = (n : Bool) (c : ℕ)
    → places_in n c new ≡ if same_sign n neg && (c == count) then without place (places_in n c old) else places_in n c old

-- everything is filed as before
abbrev pub IsSame : Frames → Frames → Type 0
IsSame old new = (neg : Bool) (functor : List ℕ) (count : ℕ) → filed new neg functor count ≡ filed old neg functor count

-- a place was put last under the frame of a literal, and all else is as before
abbrev pub IsPut : LiteralOf Term → ℕ → Frames → Frames → Type 0
IsPut l place old new = (neg : Bool) (functor : List ℕ) (count : ℕ)
    → filed new neg functor count ≡ if has_frame neg functor count l then filed old neg functor count ++ place ∷ [] else filed old neg functor count

-- a place was taken out there, and all else is as before
abbrev pub IsTaken : LiteralOf Term → ℕ → Frames → Frames → Type 0
IsTaken l place old new = (neg : Bool) (functor : List ℕ) (count : ℕ)
    → filed new neg functor count ≡ if has_frame neg functor count l then without place (filed old neg functor count) else filed old neg functor count
