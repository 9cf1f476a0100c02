-- What holds of a journal, and what its calls leave.
use Rattle.std.specs.Prelude.{ℕ, ◌≡◌, ◌<◌, ◌≤◌, ◌⊎◌, ◌^◌, true, is_some, List, [], ◌∷◌, ◌++◌, length, Option, None, Some}
use Rattle.mas_io.specs.Causes.{Rose}
use Rattle.mas_record_disk.specs.Disk.{Image, DiskState}
use Rattle.mas_record_disk.specs.Calls.{picked_file, picked_bytes, SameBut}
use Rattle.mas_record_disk.specs.declared.disk.DiskFail.{DiskFail}
use Rattle.mas_record_journal.specs.declared.back.BackWhy.{BackWhy}
use Rattle.mas_record_journal.specs.declared.back.BackWhy.TheVariants as why
use Rattle.mas_record_journal.specs.Journals.{turns_in, recovered_image, front, file_of, Recovers}
use Rattle.mas_record_journal.specs.Moments.{Ran, IsSettled}

-- the number of an agent, which two bytes can tell
pub record IsTurn (agent : ℕ) : Type 0 where
  pub some : 1 ≤ agent
  pub few : agent < 2 ^ 16

-- what holds of a journal with these turns: a file of its disk is picked, and where no refusal tore the journal, that file is
-- the file of the turns, as it reads and in each image
pub record IsJournal (s : DiskState) (turns : List ℕ) (torn : Option DiskFail) : Type 0 where
  pub picked : is_some s.picked ≡ true
  pub file : torn ≡ None → IsSettled (Some (file_of turns)) s

-- each image of the picked file recovers to these turns
abbrev pub AllRecover : List ℕ → DiskState → Type 0
AllRecover turns s = s.told ≡ true → (c : Image) → (picked_file s).may_leave c → Recovers turns c

-- ---- opening

-- the most bytes of a journal that is opened
abbrev pub most_bytes : ℕ
most_bytes = 15000009

-- an image that tells turns, which are those that another one tells
abbrev pub TellsSame : Image → Image → Type 0
TellsSame other c = (is_some (recovered_image c) ≡ true) × (recovered_image c ≡ recovered_image other)

-- an image that a crash at this moment may leave, or one that recovers to the turns that the file tells as it reads
abbrev pub WasOrTells : DiskState → Image → Type 0
WasOrTells s c = (picked_file s).may_leave c ⊎ TellsSame (picked_file s).reads c

-- the file that reads is settled; it is a journal of these turns, whose end may be torn
pub record IsOpenable (turns : List ℕ) (s : DiskState) : Type 0 where
  pub end : List ℕ
  pub nothing : turns_in end ≡ []
  pub settled : IsSettled (Some (front turns ++ end)) s

-- the picked file was read: each file reads as before, no image was added, and a crash meanwhile would have left an image of
-- before
pub record HasLooked (old new : DiskState) : Type 0 where
  pub ran : Ran (λ c. (picked_file old).may_leave c) old new
  pub files : old.told ≡ true → SameBut None old new

-- a crash leaves of the picked file what it read as
abbrev pub IsAllThatIsLeft : DiskState → DiskState → Type 0
IsAllThatIsLeft old new = old.told ≡ true → (c : Image) → (picked_file new).may_leave c → c ≡ (picked_file old).reads

-- the bytes of the file, which a crash leaves from then on
pub record HasBytes (old new : DiskState) (bytes : List ℕ) : Type 0 where
  pub looked : HasLooked old new
  pub short : length bytes ≤ most_bytes
  pub are : old.told ≡ true → bytes ≡ picked_bytes old
  pub only : IsAllThatIsLeft old new

-- the turns that the file tells
pub record IsRead (old new : DiskState) (turns : List ℕ) : Type 0 where
  pub looked : HasLooked old new
  pub short : old.told ≡ true → length (picked_bytes old) ≤ most_bytes
  pub tells : old.told ≡ true → recovered_image (picked_file old).reads ≡ Some turns
  pub openable : IsOpenable turns new

-- the cause of a refusal
abbrev pub HasWhy : DiskState → DiskState → BackWhy → Type 0
HasWhy old new why.Memory = Unit {0}
HasWhy old new why.Failed = Rose old.faults new.faults
HasWhy old new why.NoHeader = old.told ≡ true → (length (picked_bytes old) ≤ most_bytes) × (recovered_image (picked_file old).reads ≡ None)
HasWhy old new why.TooLong = old.told ≡ true → most_bytes < length (picked_bytes old)

pub record IsNotRead (old new : DiskState) (why : BackWhy) : Type 0 where
  pub looked : HasLooked old new
  pub cause : HasWhy old new why

-- the journal of the turns that the file told
pub record IsOpened (old new : DiskState) (turns : List ℕ) (torn : Option DiskFail) : Type 0 where
  pub whole : IsJournal new turns torn
  pub open_now : torn ≡ None
  pub short : old.told ≡ true → length (picked_bytes old) ≤ most_bytes
  pub tells : old.told ≡ true → recovered_image (picked_file old).reads ≡ Some turns
  pub ran : Ran (WasOrTells old) old new

-- after a file that is no journal nothing is changed; after want of memory or a fault some images may be those of the repair
abbrev pub IsUntouched : DiskState → DiskState → BackWhy → Type 0
IsUntouched old new why.Memory = Unit {0}
IsUntouched old new why.Failed = Unit {0}
IsUntouched old new why.NoHeader = old.told ≡ true → SameBut None old new
IsUntouched old new why.TooLong = old.told ≡ true → SameBut None old new

pub record IsRefused (old new : DiskState) (why : BackWhy) : Type 0 where
  pub ran : Ran (WasOrTells old) old new
  pub cause : HasWhy old new why
  pub untouched : IsUntouched old new why

-- ---- making a new one

abbrev pub Anything : Image → Type 0
Anything c = Unit {0}

pub record IsCreated (old new : DiskState) (turns : List ℕ) (torn : Option DiskFail) : Type 0 where
  pub whole : IsJournal new turns torn
  pub open_now : torn ≡ None
  pub none : turns ≡ []
  pub ran : Ran Anything old new

abbrev pub CreateWhy : DiskState → DiskState → BackWhy → Type 0
CreateWhy old new why.Memory = Unit {0}
CreateWhy old new why.Failed = Rose old.faults new.faults
CreateWhy old new why.NoHeader = ⊥
CreateWhy old new why.TooLong = ⊥

pub record IsNotCreated (old new : DiskState) (why : BackWhy) : Type 0 where
  pub ran : Ran Anything old new
  pub cause : CreateWhy old new why

-- ---- one more turn

pub record IsAppended (old new : List ℕ) (agent : ℕ) (torn : Option DiskFail) : Type 0 where
  pub turns : new ≡ old ++ agent ∷ []
  pub open_now : torn ≡ None

-- the journal is torn by the refusal
pub record IsTornBy (old new : List ℕ) (torn : Option DiskFail) (e : DiskFail) : Type 0 where
  pub turns : new ≡ old
  pub torn_by : torn ≡ Some e
