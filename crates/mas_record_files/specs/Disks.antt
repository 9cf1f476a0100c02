-- What the calls of a disk in memory leave of its files.
use Rattle.std.specs.Prelude.{ℕ, ◌≡◌, if◌then◌else◌}
use Rattle.std.specs.Prelude.{List, [], ◌∷◌, ◌++◌, Some}
use Rattle.std.specs.Str.{bytes_eq}
use Rattle.asl_term.specs.declared.syntax.Filed.{Filed}
use Rattle.mas_record_files.specs.Memory.{held, image_after}
use Rattle.mas_record_files.specs.declared.change.Change.{Change}
use Rattle.mas_record_files.specs.declared.change.FileChange.{FileChange}

-- the file of this name was changed, and no other
abbrev pub FilesAfter : List ℕ → FileChange → List Filed → List Filed → Type 0
FilesAfter name what old new = (m : List ℕ) → held new m ≡ (if bytes_eq name m then image_after what (held old name) else held old m)

-- one more change, noted and made
pub record HasChanged (name : List ℕ) (what : FileChange) (changes later : List Change) (old new : List Filed) : Type 0 where
  pub noted : later ≡ changes ++ (record { name = name; what = what }) ∷ []
  pub made : FilesAfter name what old new

-- the file of this name has these bytes, and no other is changed
abbrev pub Sets : List ℕ → List ℕ → List Filed → List Filed → Type 0
Sets name bytes old new = (m : List ℕ) → held new m ≡ (if bytes_eq name m then Some bytes else held old m)

abbrev pub change_of : List ℕ → FileChange → Change
change_of name what = record { name = name; what = what }
