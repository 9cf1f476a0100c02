-- The scripts of the stands of a site.
use Rattle.std.specs.Prelude.{ℕ, zero, suc, ◌+◌, List, [], ◌∷◌, ◌++◌, length, Option}
use Rattle.mas_mind.specs.declared.mind.Message.{Message}
use Rattle.mas_sites_stand.specs.declared.seated.Seated.{Seated}
use Rattle.mas_sites_stand.specs.declared.seated.Seated.TheVariants as seat
use Rattle.mas_sites_stand.specs.Stands.{with_entry}
use Rattle.mas_core.specs.Platform.{Platform}

-- what a stand sends, cycle by cycle
abbrev pub Script : Type 0
Script = List (Option Message)

abbrev pub with_script : {V : Type 0} → Script → Seated V → Seated V
with_script script (seat.Own m) = seat.Own m
with_script script (seat.Stand s) = seat.Stand (record s { script = script })

-- each stand has the script of its place
abbrev pub with_scripts : {V : Type 0} → List Script → List (Seated V) → List (Seated V)
with_scripts scripts [] = []
with_scripts [] (m ∷ minds) = m ∷ minds
with_scripts (script ∷ scripts) (m ∷ minds) = with_script script m ∷ with_scripts scripts minds

-- ---- an entry more

abbrev pub given : {V : Type 0} → Option Message → Seated V → Seated V
given e (seat.Own m) = seat.Own m
given e (seat.Stand s) = seat.Stand (with_entry e s)

-- the item at this place, counted from 0, is changed
abbrev pub change : {X : Type 0} → ℕ → (X → X) → List X → List X
change i f [] = []
change zero f (x ∷ xs) = f x ∷ xs
change (suc i) f (x ∷ xs) = x ∷ change i f xs

-- the mind at this place is changed
abbrev pub at_mind : {V : Type 0} → ℕ → (V → V) → Platform V → Platform V
at_mind i f p = record { board = p.board; minds = change i f p.minds; thoughts = p.thoughts }

abbrev pub longer : Option Message → Script → Script
longer e script = script ++ e ∷ []

-- ---- how much of a script there is: the cycles that were made and what is left; it grows where a cycle finds no entry

abbrev pub extent : {V : Type 0} → Seated V → ℕ
extent (seat.Own m) = 0
extent (seat.Stand s) = s.made + length s.script
