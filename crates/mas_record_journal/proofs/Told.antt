-- A file that begins as a journal was read.
use Rattle.std.proofs.Common.{◌≡◌, ℕ, true, List, ◌∷◌, ◌++◌, length, Option, None, Some, refl, sym, ◌∙◌, ap, arith}
use Rattle.mas_record_disk.specs.Disk.{Image, DiskState, bytes_of}
use Rattle.mas_record_disk.specs.Calls.{name_or_none, picked_file}
use Rattle.mas_record_journal.specs.Journals.{front, recovered, recovered_image, HasFront}
use Rattle.mas_record_journal.specs.declared.back.BackWhy.TheVariants as why
use Rattle.mas_record_journal.specs.Kept.{HasBytes, HasLooked, IsRead, IsNotRead}
use Rattle.mas_record_journal.proofs.Blocks.{recovered-nothing}

some_bytes : (i : Image) (b : ℕ) (l : List ℕ) → b ∷ l ≡ bytes_of i → i ≡ Some (b ∷ l)
some_bytes None b l is = absurd (cc is)
some_bytes (Some bytes) b l is = ap Some (sym is)

-- the picked file reads as before
pub same_reads : (s t : DiskState) → HasLooked s t → s.told ≡ true → (picked_file t).reads ≡ (picked_file s).reads
same_reads s t h told =
    ap (λ (n : Option (List ℕ)). (t.file (name_or_none n)).reads) h.ran.picked ∙ (h.files told (name_or_none s.picked) (λ e. cc e)).reads

-- what reads tells no turns
pub told_none : (i : Image) (bytes : List ℕ) → bytes ≡ bytes_of i → None ≡ recovered bytes → recovered_image i ≡ None
told_none None bytes is none = refl
told_none (Some all) bytes is none = ap recovered (sym is) ∙ sym none

pub tells : (bytes turns : List ℕ) → HasFront turns bytes → Some turns ≡ recovered bytes
tells bytes turns h = sym (ap recovered h.split ∙ recovered-nothing turns h.end h.nothing)

pub is_read : (s t : DiskState) (bytes turns : List ℕ) → HasBytes s t bytes → HasFront turns bytes → IsRead s t turns
is_read s t bytes turns h has =
    let file : s.told ≡ true → (picked_file s).reads ≡ Some (front turns ++ has.end) = λ told.
    some_bytes (picked_file s).reads 74 _ (sym has.split ∙ h.are told) in
    record {
      looked = h.looked;
      short = λ told. let e = ap length (h.are told) in omega (arith, e, h.short);
      tells = λ told. ap recovered_image (file told) ∙ recovered-nothing turns has.end has.nothing;
      openable = record {
        end = has.end;
        nothing = has.nothing;
        settled = record {
          reads = λ told. same_reads s t h.looked (sym h.looked.ran.told ∙ told) ∙ file (sym h.looked.ran.told ∙ told);
          only = λ told c left. h.only (sym h.looked.ran.told ∙ told) c left ∙ file (sym h.looked.ran.told ∙ told);
        };
      };
    }

-- a file without the header
pub not_read : (s t : DiskState) (bytes : List ℕ) → HasBytes s t bytes → None ≡ recovered bytes → IsNotRead s t why.NoHeader
not_read s t bytes h none = record {
  looked = h.looked;
  cause = λ told. ((let e = ap length (h.are told) in omega (arith, e, h.short)), told_none (picked_file s).reads bytes (h.are told) none);
}
