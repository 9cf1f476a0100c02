-- What is written of files.
use Rattle.std.specs.Prelude.{◌≡◌, ◌≢◌, ℕ, ◌≤◌, Bool, true, false, ◌||◌, List, ◌++◌, codes, length, nat_lt, Option}
use Rattle.std.specs.List.{flat_map, list_any}
use Rattle.asl_term.specs.declared.syntax.Filed.{Filed}
use Rattle.mas_top_files.specs.declared.sources.Source.{Source}
use Rattle.mas_top_files.specs.Files.{IsUnfetched, most_bytes}
use Rattle.mas_top_files.specs.Sources.{HasSource, AreRefused}
use Rattle.mas_top_status.specs.declared.status.Status.{Status}
use Rattle.mas_top_status.specs.declared.status.Status.TheVariants.{Memory}
use Rattle.look_pieces.specs.Printing.{findings_text}
use Rattle.look_where.specs.declared.files.FileTold.{FileTold}
use Rattle.look_where.specs.Files.{TellFiles}

-- its findings, in order
abbrev pub file_text : FileTold → List ℕ
file_text t = findings_text t.shown (codes "error") t.findings

abbrev pub is_told : FileTold → Bool
is_told t = nat_lt 0 (length t.findings)

-- the findings of all files, and behind them how `jasonrun` refuses the project, and how many there are
pub record IsText (files : List FileTold) (text : List ℕ) : Type 0 where
  pub behind : List ℕ
  pub text_is : text ≡ flat_map file_text files ++ behind

-- ---- whether `jasonrun` reads the project, of which each agent may make one cycle

-- Its files were refused so, within these counts of the shelf's faults. Want of memory is none of the causes.
pub record IsRefusedIn (known : List (List ℕ)) (held : Option (List Filed)) (word : List ℕ) (before after : ℕ) : Type 0 where
  pub start : ℕ
  pub end : ℕ
  pub begins : before ≤ start
  pub ends : end ≤ after
  pub status : Status
  pub no_lack : status ≢ Memory
  pub why : AreRefused known 1 held word start end status

-- whether it is refused
pub data TellsRefused (known : List (List ℕ)) (held : Option (List Filed)) (word : List ℕ) (before after : ℕ) : Bool → Type 0 where
  is_read : (source : Source) → HasSource known 1 held word source → TellsRefused known held word before after false
  is_refused : IsRefusedIn known held word before after → TellsRefused known held word before after true

-- What is written of the project of this word. Something is found where something is told, or the project is refused.
pub record IsWhere (known : List (List ℕ)) (held : Option (List Filed)) (word : List ℕ) (before after : ℕ) (found : Bool) (text : List ℕ) : Type 0 where
  pub files : List FileTold
  pub told : TellFiles known held word before after files
  pub refused : Bool
  pub tells : TellsRefused known held word before after refused
  pub some : found ≡ (list_any is_told files || refused)
  pub shown : IsText files text

-- the file of the word is not read, or memory lacks
abbrev pub IsUnread : List ℕ → Option (List Filed) → ℕ → ℕ → Status → Type 0
IsUnread word held before after status = IsUnfetched most_bytes word held before after status
