-- Laws of what a crash may leave of a disk in memory.
use Rattle.std.proofs.Common.{◌≡◌, ◌≤◌, inr, ℕ, zero, suc, ◌+◌, min, Bool, true, false, List, [], ◌∷◌, ◌++◌, length, take, drop, None, Some}
use Rattle.std.proofs.Common.{refl, sym, ◌∙◌, ap, subst, arith, length-take, length-drop, length-append, append_assoc, bytes_eq}
use Rattle.std.proofs.lemmas.List.{take_all, take_at, drop_at}
use Rattle.asl_term.specs.declared.syntax.Filed.{Filed}
use Rattle.mas_record_disk.specs.Disk.{Image, FileState, bytes_of, written, IsTorn, IsCutTo, OnBytes}
use Rattle.mas_record_files.specs.declared.change.Change.{Change}
use Rattle.mas_record_files.specs.declared.change.FileChange.{FileChange}
use Rattle.mas_record_files.specs.declared.change.FileChange.TheVariants.{Made, Wrote, Cut, Synced}
use Rattle.mas_record_files.specs.Memory.{held, image_after, leaves, changed_if, after_all, settled, file_in, LeftSince}

-- this moment is one of those since an earlier one
pub counts_now : (first : List Filed) (changes : List Change) (t : ℕ) (name : List ℕ) (c : Image) → t ≤ length changes
    → (file_in first changes name).may_leave c → LeftSince first changes t name c
counts_now first changes t name c le now =
    let all = take_all (length changes) changes (omega arith) in
    (length changes, le, omega arith, subst (λ (l : List Change). (file_in first l name).may_leave c) (sym all) now)

-- since this moment there is no other
pub only_now : (first : List Filed) (changes : List Change) (name : List ℕ) (c : Image) → LeftSince first changes (length changes) name c
    → (file_in first changes name).may_leave c
only_now first changes name c left =
    subst (λ (l : List Change). (file_in first l name).may_leave c) (take_all left.0 changes left.1) left.3

-- a write that is done whole is one that a crash may make of it
torn_whole : (at : ℕ) (bytes old : List ℕ) → at ≤ length old → IsTorn at (length bytes) old (written at bytes old)
torn_whole at bytes old le =
    let front : length (take at old) ≡ at = omega (arith, length-take at old, le) in
    let middle : length (take at old ++ bytes) ≡ at + length bytes = omega (arith, front, length-append (take at old) bytes) in
    let all = length-append (take at old ++ bytes) (drop (at + length bytes) old) in
    let rest = length-drop (at + length bytes) old in
    record {
      before = ap (λ (l : List ℕ). take at l) (append_assoc (take at old) bytes (drop (at + length bytes) old))
          ∙ take_at (take at old) (bytes ++ drop (at + length bytes) old) at front;
      after = drop_at (take at old ++ bytes) (drop (at + length bytes) old) (at + length bytes) middle;
      no_shorter = omega (arith, all, rest, middle);
      no_longer = omega (arith, all, rest, middle);
    }

-- nor is nothing done of it
pub torn_none : (at n : ℕ) (old : List ℕ) → IsTorn at n old old
torn_none at n old = record { before = refl; after = refl; no_shorter = omega arith; no_longer = omega arith }

take_own : (n : ℕ) (old : List ℕ) → take n old ≡ take (length (take n old)) old
take_own zero old = refl
take_own (suc n) [] = refl
take_own (suc n) (a ∷ old) = ap (λ (l : List ℕ). a ∷ l) (take_own n old)

cut_whole : (n : ℕ) (old : List ℕ) → IsCutTo n old (take n old)
cut_whole n old = let long = length-take n old in record { no_shorter = omega (arith, long); front = take_own n old }

pub cut_none : (n : ℕ) (old : List ℕ) → IsCutTo n old old
cut_none n old = record { no_shorter = omega arith; front = sym (take_all (length old) old (omega arith)) }

-- a step that is done whole
pub done_whole : (what : FileChange) (f : FileState) → f.may_leave f.reads → leaves what f (image_after what f.reads)
done_whole Made f now = inr refl
done_whole Synced f now = refl
done_whole (Wrote at bytes) f now = (f.reads, now, wrote f.reads)
  where
    wrote : (i : Image) → OnBytes (IsTorn (min at (length (bytes_of i))) (length bytes)) i (image_after (Wrote at bytes) i)
    wrote None = tt
    wrote (Some old) = torn_whole (min at (length old)) bytes old (omega arith)
done_whole (Cut n) f now = (f.reads, now, cuts f.reads)
  where
    cuts : (i : Image) → OnBytes (IsCutTo n) i (image_after (Cut n) i)
    cuts None = tt
    cuts (Some old) = cut_whole n old

if_whole : (b : Bool) (what : FileChange) (f : FileState) → f.may_leave f.reads → (changed_if b what f).may_leave (changed_if b what f).reads
if_whole true what f now = done_whole what f now
if_whole false what f now = now

all_whole : (name : List ℕ) (f : FileState) (changes : List Change) → f.may_leave f.reads
    → (after_all name f changes).may_leave (after_all name f changes).reads
all_whole name f [] now = now
all_whole name f (c ∷ changes) now =
    all_whole name (changed_if (bytes_eq c.name name) c.what f) changes (if_whole (bytes_eq c.name name) c.what f now)

-- what reads is one of the images
pub reads_now : (first : List Filed) (changes : List Change) (name : List ℕ)
    → (file_in first changes name).may_leave (file_in first changes name).reads
reads_now first changes name = all_whole name (settled (held first name)) changes refl
