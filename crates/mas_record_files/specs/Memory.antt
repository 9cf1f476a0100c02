-- A disk in memory: its files, and what a crash may leave of them by the changes that were made.
use Rattle.std.specs.Prelude.{ℕ, ◌≡◌, ◌≤◌, ◌⊎◌, min, Bool, true, false, is_some, ◌==◌, ◌-◌, if◌then◌else◌}
use Rattle.std.specs.Prelude.{List, [], ◌∷◌, ◌++◌, length, take, Option, Some, None}
use Rattle.std.specs.Str.{bytes_eq}
use Rattle.asl_term.specs.declared.syntax.Filed.{Filed}
use Rattle.mas_record_disk.specs.Disk.{Image, FileState, DiskState, bytes_of, written, IsTorn, IsCutTo, OnBytes, Stepped}
use Rattle.mas_record_files.specs.declared.change.Change.{Change}
use Rattle.mas_record_files.specs.declared.change.FileChange.{FileChange}
use Rattle.mas_record_files.specs.declared.replay.Replayed.{Replayed}
use Rattle.mas_record_files.specs.declared.change.FileChange.TheVariants.{Made, Wrote, Cut, Synced}

-- what is there under a name: the first file of that name decides
abbrev pub held : List Filed → List ℕ → Image
held [] name = None
held (file ∷ files) name = if bytes_eq file.name name then Some file.bytes else held files name

-- ---- changes

-- what reads after a change. A write behind the end begins at the end; of no file there is nothing to write or to cut
abbrev pub image_after : FileChange → Image → Image
image_after Made None = Some []
image_after Made (Some old) = Some old
image_after (Wrote at bytes) None = None
image_after (Wrote at bytes) (Some old) = Some (written (min at (length old)) bytes old)
image_after (Cut n) None = None
image_after (Cut n) (Some old) = Some (take n old)
image_after Synced image = image

-- the images that a crash may leave after a change
abbrev pub leaves : FileChange → FileState → Image → Type 0
leaves Made f c = f.may_leave c ⊎ (c ≡ image_after Made f.reads)
leaves (Wrote at bytes) f c = Stepped (OnBytes (IsTorn (min at (length (bytes_of f.reads))) (length bytes))) f.may_leave c
leaves (Cut n) f c = Stepped (OnBytes (IsCutTo n)) f.may_leave c
leaves Synced f c = c ≡ f.reads

abbrev pub changed : FileChange → FileState → FileState
changed what f = record { reads = image_after what f.reads; may_leave = leaves what f }

abbrev pub changed_if : Bool → FileChange → FileState → FileState
changed_if true what f = changed what f
changed_if false what f = f

-- a file after these changes, of which those of other names are none of its own
abbrev pub after_all : List ℕ → FileState → List Change → FileState
after_all name f [] = f
after_all name f (c ∷ more) = after_all name (changed_if (bytes_eq c.name name) c.what f) more

-- all of it is on the disk
abbrev pub settled : Image → FileState
settled image = record { reads = image; may_leave = λ c. c ≡ image }

-- the file of a name, where the disk began with these files and these changes were made
abbrev pub file_in : List Filed → List Change → List ℕ → FileState
file_in first changes name = after_all name (settled (held first name)) changes

-- after so many changes, no fewer than t, a crash might have left it
abbrev pub LeftSince : List Filed → List Change → ℕ → List ℕ → Image → Type 0
LeftSince first changes t name c = (k : ℕ) × (t ≤ k) × (k ≤ length changes) × (file_in first (take k changes) name).may_leave c

-- the files are what the changes have made of the first ones
abbrev pub AreCurrent : List Filed → List Change → List Filed → Type 0
AreCurrent first changes files = (name : List ℕ) → (file_in first changes name).reads ≡ held files name

abbrev pub disk_state : List Filed → List Change → Option (List ℕ) → ℕ → DiskState
disk_state first changes picked faults = record {
  told = true;
  picked = picked;
  faults = faults;
  moment = length changes;
  file = file_in first changes;
  left_since = LeftSince first changes;
}

-- the picked file is there
abbrev pub is_there : Option (List ℕ) → List Filed → Bool
is_there None files = true
is_there (Some name) files = is_some (held files name)

-- ---- a crash that keeps some of the changes since the last sync

-- a change is kept while there are more to keep
abbrev pub kept_by : ℕ → Image → Image → Image
kept_by more kept reads = if more == 0 then kept else reads

-- `keep` is how many are kept behind a sync
abbrev pub replay : ℕ → FileChange → Replayed → Replayed
replay keep Made r = record { reads = image_after Made r.reads; kept = kept_by r.more r.kept (image_after Made r.reads); more = r.more }
replay keep (Wrote at bytes) r =
    record { reads = image_after (Wrote at bytes) r.reads; kept = kept_by r.more r.kept (image_after (Wrote at bytes) r.reads); more = r.more - 1 }
replay keep (Cut n) r = record { reads = image_after (Cut n) r.reads; kept = kept_by r.more r.kept (image_after (Cut n) r.reads); more = r.more - 1 }
replay keep Synced r = record { reads = r.reads; kept = r.reads; more = keep }

abbrev pub replay_if : Bool → ℕ → FileChange → Replayed → Replayed
replay_if true keep what r = replay keep what r
replay_if false keep what r = r

abbrev pub replay_all : ℕ → List ℕ → Replayed → List Change → Replayed
replay_all keep name r [] = r
replay_all keep name r (c ∷ more) = replay_all keep name (replay_if (bytes_eq c.name name) keep c.what r) more

-- a file as its last sync left it, with the first `keep` of its writes and cuts since then done whole
abbrev pub crashed : ℕ → List Filed → List Change → List ℕ → Image
crashed keep first changes name = (replay_all keep name (record { reads = held first name; kept = held first name; more = keep }) changes).kept

-- one more file, where the crash left it
abbrev pub with_image : List Filed → List ℕ → Image → List Filed
with_image files name None = files
with_image files name (Some bytes) = files ++ (record { name = name; bytes = bytes }) ∷ []

-- of each of these files what the crash left
abbrev pub AreCrashed : ℕ → List Filed → List Change → List Filed → List Filed → Type 0
AreCrashed keep first changes files left =
    (name : List ℕ) → held left name ≡ (if is_some (held files name) then crashed keep first changes name else None)

abbrev pub IsCrash : ℕ → List Filed → List Change → List Filed → Type 0
IsCrash keep first changes left = (name : List ℕ) → held left name ≡ crashed keep first changes name

-- the files are an image of the disk
abbrev pub IsImageOf : List Filed → List Change → List Filed → Type 0
IsImageOf first changes left = (name : List ℕ) → (file_in first changes name).may_leave (held left name)
