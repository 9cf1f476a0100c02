-- The bytes of a report: those of standard input, or of a file.
use Rattle.std.specs.Prelude.{ℕ, ◌≡◌, ◌≤◌, ◌<◌, ◌⊎◌, List, length, codes, Option, None, Some, if◌then◌else◌}
use Rattle.std.specs.Str.{bytes_eq}
use Rattle.asl_term.specs.declared.syntax.Filed.{Filed}
use Rattle.mas_io.specs.declared.shelf.Fetched.TheVariants.{Bytes}
use Rattle.mas_top_files.specs.Files.{Has, IsUnfetched, most_report_bytes}
use Rattle.mas_top_status.specs.declared.status.What.TheVariants as what
use Rattle.mas_top_status.specs.declared.status.Status.{Status}
use Rattle.mas_top_status.specs.declared.status.Status.TheVariants.{Limit, Memory}

-- standard input, where it is handed in and the word is `-`
abbrev pub input_for : List ℕ → Option (List ℕ) → Option (List ℕ)
input_for word None = None
input_for word (Some given) = if bytes_eq word (codes "-") then Some given else None

-- these bytes of standard input are not too many
abbrev pub IsInput : List ℕ → List ℕ → Type 0
IsInput given bytes = (bytes ≡ given) × (length given ≤ most_report_bytes)

abbrev pub IsNoInput : List ℕ → Status → Type 0
IsNoInput given status = ((status ≡ Limit what.File most_report_bytes) × (most_report_bytes < length given)) ⊎ (status ≡ Memory)

-- of standard input, or of the file of this word

abbrev pub AreBytes : Option (List Filed) → List ℕ → Option (List ℕ) → List ℕ → Type 0
AreBytes held word (Some given) bytes = IsInput given bytes
AreBytes held word None bytes = Has most_report_bytes held word (Bytes bytes)

abbrev pub LackBytes : Option (List Filed) → List ℕ → Option (List ℕ) → ℕ → ℕ → Status → Type 0
LackBytes held word (Some given) before after status = IsNoInput given status
LackBytes held word None before after status = IsUnfetched most_report_bytes word held before after status

-- these are the bytes of the report of this word; or why they are not there, where the shelf has failed so often before and after
module _ (input : Option (List ℕ)) (held : Option (List Filed)) (word : List ℕ) where
  abbrev pub HasReport : List ℕ → Type 0
  HasReport bytes = AreBytes held word (input_for word input) bytes

  abbrev pub LacksReport : ℕ → ℕ → Status → Type 0
  LacksReport before after status = LackBytes held word (input_for word input) before after status
