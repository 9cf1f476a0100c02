-- What is true of what the files of a run describe.
use Rattle.std.specs.Prelude.{ℕ, ◌≡◌, ◌≢◌, ◌⊎◌, true, List, Some}
use Rattle.std.specs.Option.{IsSome}
use Rattle.asl_term.specs.declared.syntax.Filed.{Filed}
use Rattle.mas_world.specs.declared.acts.WorldText.{WorldText}
use Rattle.mas_world.specs.Worlds.{Used, named, AreNamed}
use Rattle.env_file.specs.Worlds.{has_name, IsWorld}
use Rattle.mas_io.specs.Causes.{Rose}
use Rattle.mas_top_files.specs.declared.sources.Source.{Source}
use Rattle.mas_top_status.specs.declared.status.Status.{Status}
use Rattle.mas_top_status.specs.declared.status.Status.TheVariants.{Memory}
use Rattle.mas_top_files.specs.Known as artifacts
use Rattle.mas_top_files.specs.Sources.{HasSource, AreRefused}

-- files describe one source at most
abbrev pub OneSource : Type 0
OneSource =
    (known : List (List ℕ)) (cycles : ℕ) (files : List Filed) (word : List ℕ) (a b : Source) → HasSource known cycles (Some files) word a →
    HasSource known cycles (Some files) word b → a ≡ b

-- where files describe a source, none of them is refused, unless the count of faults rose or memory lacked
abbrev pub NotRefused : Type 0
NotRefused =
    (known : List (List ℕ)) (cycles : ℕ) (files : List Filed) (word : List ℕ) (source : Source) (before after : ℕ) (status : Status) →
    HasSource known cycles (Some files) word source → (Rose before after → ⊥) → AreRefused known cycles (Some files) word before after status → status ≡ Memory

-- it is so of the status, and the count of faults did not rise, and memory did not lack
pub record Surely (Is : ℕ → ℕ → Status → Type 0) (status : Status) : Type 0 where
  pub before : ℕ
  pub after : ℕ
  pub no_fault : Rose before after → ⊥
  pub no_lack : status ≢ Memory
  pub is : Is before after status

-- files are refused with one status at most, unless the count of faults rose or memory lacked
abbrev pub OneRefusal : Type 0
OneRefusal =
    (known : List (List ℕ)) (cycles : ℕ) (files : List Filed) (word : List ℕ) (a b : Status) →
    Surely (AreRefused known cycles (Some files) word) a → Surely (AreRefused known cycles (Some files) word) b → a ≡ b

-- files describe a source, or one of them is refused first
abbrev pub SomeSource : Type 0
SomeSource =
    (known : List (List ℕ)) (cycles : ℕ) (files : List Filed) (word : List ℕ) → ((source : Source) × HasSource known cycles (Some files) word source) ⊎
    ((status : Status) × Surely (AreRefused known cycles (Some files) word) status)

-- no reader refuses what the word stands for
abbrev pub NoneRefused : List (List ℕ) → ℕ → List Filed → List ℕ → Type 0
NoneRefused known cycles files word = (status : Status) → Surely (AreRefused known cycles (Some files) word) status → ⊥

-- so files that no reader refuses describe a source
abbrev pub UnrefusedDescribe : Type 0
UnrefusedDescribe =
    (known : List (List ℕ)) (cycles : ℕ) (files : List Filed) (word : List ℕ) → NoneRefused known cycles files word →
    (source : Source) × HasSource known cycles (Some files) word source

-- a known name is that of an artifact
abbrev pub KnownNamed : Type 0
KnownNamed = (objects : List Used) (name : List ℕ) → has_name (artifacts.known objects) name ≡ true → IsSome (named objects name)

-- so a world that may use the names of the artifacts uses artifacts that are there
abbrev pub KnownUses : Type 0
KnownUses = (objects : List Used) (bytes : List ℕ) (text : WorldText) → IsWorld (artifacts.known objects) bytes text → AreNamed text.uses objects
