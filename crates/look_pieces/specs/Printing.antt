-- The lines of what is found in a file.
use Rattle.std.specs.Prelude.{ℕ, List, ◌++◌, codes, decimal}
use Rattle.std.specs.List.{flat_map}
use Rattle.look_pieces.specs.declared.findings.Finding.{Finding}

-- `FILE:LINE:COLUMN: `
abbrev pub place_text : List ℕ → Finding → List ℕ
place_text file f = file ++ (codes ":" ++ (decimal f.line ++ (codes ":" ++ (decimal f.column ++ codes ": "))))

-- `FILE:LINE:COLUMN: WORD: ..`
abbrev pub finding_text : List ℕ → List ℕ → Finding → List ℕ
finding_text file word f = place_text file f ++ (word ++ (codes ": " ++ f.about))

-- those of a file, in order
abbrev pub findings_text : List ℕ → List ℕ → List Finding → List ℕ
findings_text file word fs = flat_map (finding_text file word) fs
