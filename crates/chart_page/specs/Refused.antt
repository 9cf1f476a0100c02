-- How what has not the form of a report is answered, and what is written of a picture.
use Rattle.std.specs.List.{slice_split}
use Rattle.chart_page.specs.declared.choice.Choice.{Choice}
use Rattle.chart_page.specs.Shown.{AreShown}
use Rattle.chart_page.specs.Texts.{HoldsAll}
use Rattle.std.specs.Prelude.{◌==◌, ℕ, List, [], ◌∷◌, ◌++◌, ◌≡◌, ◌⊎◌, ⊤, codes, Option, None, Some, Result, Ok, Err, if◌then◌else◌}
use Rattle.std.specs.Io.KnownBytes.{Appends}
use Rattle.std.specs.Str.Lossy.{utf8_lossy}
use Rattle.chart_page.specs.declared.faults.Fault.{Fault}
use Rattle.chart_page.specs.declared.faults.Fault.TheVariants as fault
use Rattle.chart_page.specs.Form.{first_bad_line}

-- by the number of that line, unless memory lacked
abbrev pub IsRefusedAt : {T : Type 0} → Result T Fault → ℕ → Type 0
IsRefusedAt (Ok _) number = ⊥
IsRefusedAt (Err e) number = (e ≡ fault.Line number) ⊎ (e ≡ fault.Memory)

-- it was not read to its end
abbrev pub IsUnread : Fault → Type 0
IsUnread e = (e ≡ fault.Read) ⊎ (e ≡ fault.Memory)

-- by the number of that line, unless it was not read to its end or memory lacked
abbrev pub IsRefused : {T : Type 0} → Result T Fault → ℕ → Type 0
IsRefused (Ok _) number = ⊥
IsRefused (Err e) number = (e ≡ fault.Line number) ⊎ IsUnread e

-- of what a reader has left, as text, where that is known
abbrev pub refused_line : Option (List ℕ) → Option ℕ
refused_line None = None
refused_line (Some bytes) = first_bad_line (utf8_lossy bytes)

-- up to its end, a line
abbrev pub Ends : List ℕ → List ℕ → Type 0
Ends made ending = (front : List ℕ) × (made ≡ front ++ (ending ++ 10 ∷ []))

abbrev pub IsPicture : List ℕ → Type 0
IsPicture svg = Ends svg (codes "</svg>")

abbrev pub IsPage : List ℕ → Type 0
IsPage html = Ends html (codes "</html>")

-- what was asked for: a page or a picture
abbrev pub IsMade : Choice → List ℕ → Type 0
IsMade c made = Ends made (if c.is_page then codes "</html>" else codes "</svg>")

-- what is shown of a text stands in what was made of it
abbrev pub ShowsText : Choice → List ℕ → List ℕ → Type 0
ShowsText c text made = (texts : List (List ℕ)) × AreShown c (slice_split (λ b. b == 10) text) texts × HoldsAll made texts

-- a whole picture or page of these bytes, as text, was written
abbrev pub IsShownIn : Choice → Option (List ℕ) → Option (List ℕ) → List ℕ → Type 0
IsShownIn c old new bytes = (made : List ℕ) × IsMade c made × ShowsText c (utf8_lossy bytes) made × Appends old new made

-- it was written whole
abbrev pub IsWritten : Choice → Option (List ℕ) → Option (List ℕ) → Type 0
IsWritten c old new = (made : List ℕ) × IsMade c made × Appends old new made

-- something else than writing failed
abbrev pub IsNoWrite : Fault → Type 0
IsNoWrite fault.Write = ⊥
IsNoWrite other = ⊤

-- the status of the program
abbrev pub status_of : Fault → ℕ
status_of (fault.Line number) = 1
status_of fault.Words = 2
status_of fault.Read = 4
status_of fault.Write = 5
status_of fault.Memory = 9
