-- What each step on the file of a journal leaves.
use Rattle.std.proofs.Common.{◌≡◌, ◌≤◌, inl, inr, ℕ, ◌+◌, ◌-◌, ◌*◌, ◌/◌, ◌%◌, true, is_some, List, [], ◌∷◌, ◌++◌, length, get_or, take, drop, None, Some, refl, sym, ◌∙◌, ap, subst, arith}
use Rattle.std.proofs.lemmas.List.{append-nil}
use Rattle.mas_record_disk.specs.Disk.{Image, FileState, DiskState, bytes_of, OnBytes, Stepped, IsTorn, IsCutTo, written, after_write, after_cut}
use Rattle.mas_record_disk.specs.Calls.{picked_file, IsWritable}
use Rattle.mas_record_disk.specs.PastDisk.{IsOnlyNow}
use Rattle.mas_record_journal.specs.Journals.{turns_in, recovered_image, front, file_of, staged, Recovers, RecoversEither}
use Rattle.mas_record_journal.specs.Moments.{Ran, During, IsSettled}
use Rattle.mas_record_journal.specs.Kept.{IsOpenable, AllRecover}
use Rattle.mas_record_journal.proofs.Blocks.{length-front, closed, short_nothing, front_nothing, recovered-nothing, recovered-file, recovered-gate, front-push}
use Rattle.mas_record_journal.proofs.Torn.{torn_behind, written_behind, torn_at, written_at, torn_end, torn_end_short, written_end, cut_behind, cut_done}
use Rattle.mas_record_journal.proofs.Moments.{begun, weaker, went_on}

-- a step of a known file
pub record Left (step : List ℕ → List ℕ → Type 0) (old : List ℕ) (c : Image) : Type 0 where
  pub new : List ℕ
  pub is : c ≡ Some new
  pub left : step old new

on_some : (step : List ℕ → List ℕ → Type 0) (old : List ℕ) (c : Image) → OnBytes step (Some old) c → Left step old c
on_some step old None none = absurd none
on_some step old (Some new) s = record { new = new; is = refl; left = s }

stepped : (step : List ℕ → List ℕ → Type 0) (old : List ℕ) (f : Image → Type 0) → ((d : Image) → f d → d ≡ Some old)
    → (c : Image) → Stepped (OnBytes step) f c → Left step old c
stepped step old f only c s = on_some step old c (subst (λ d. OnBytes step d c) (only s.0 s.1) s.2)

-- a settled file is settled again after a step that went through
resettled : (step : FileState → FileState) (was is : Image) (s t : DiskState) → t.told ≡ s.told → IsSettled was s
    → IsSettled (step (picked_file s)).reads t → ((f : FileState) → f.reads ≡ was → (step f).reads ≡ is) → IsSettled is t
resettled step was is s t same before after reads = record {
  reads = λ told. after.reads told ∙ reads (picked_file s) (before.reads (sym same ∙ told));
  only = λ told c left. after.only told c left ∙ reads (picked_file s) (before.reads (sym same ∙ told));
}

pub still_picked : (P : Image → Type 0) (s t : DiskState) → Ran P s t → is_some s.picked ≡ true → is_some t.picked ≡ true
still_picked P s t ran picked = ap is_some ran.picked ∙ picked

pub all_recover : (turns : List ℕ) (s : DiskState) → IsSettled (Some (file_of turns)) s → AllRecover turns s
all_recover turns s is told c left = ap recovered_image (is.only told c left) ∙ recovered-file turns

-- ---- one more turn

module _ (turns : List ℕ) where
  -- the place of the closed gate
  abbrev m : ℕ
  m = 8 + 3 * length turns

  -- whatever is written behind the closed gate tells nothing
  stage : (bytes : List ℕ) (s : DiskState) → IsSettled (Some (file_of turns)) s → s.told ≡ true → (c : Image) → During (after_write (m + 1) bytes) s c → Recovers turns c
  stage bytes s is told c (inl left) = ap recovered_image (is.only told c left) ∙ recovered-file turns
  stage bytes s is told c (inr step) =
      let t = stepped (IsTorn (m + 1) (length bytes)) (file_of turns) (picked_file s).may_leave (is.only told) c step in
      ap recovered_image (t.is ∙ ap Some (torn_behind (front turns) m (length-front turns) 0 (length bytes) t.new t.left))
      ∙ recovered-nothing turns (0 ∷ drop (m + 1) t.new) (closed 0 (drop (m + 1) t.new) (omega arith))

  -- the gate opens, or it does not
  gate : (a : ℕ) (s : DiskState) → IsSettled (Some (staged turns a)) s → s.told ≡ true → (c : Image) → During (after_write m (1 ∷ [])) s c → RecoversEither turns a c
  gate a s is told c (inl left) = inl (ap recovered_image (is.only told c left) ∙ recovered-nothing turns (0 ∷ a / 256 ∷ a % 256 ∷ 0 ∷ []) (closed 0 (a / 256 ∷ a % 256 ∷ 0 ∷ []) (omega arith)))
  gate a s is told c (inr step) =
      let t = stepped (IsTorn m 1) (staged turns a) (picked_file s).may_leave (is.only told) c step in
      let whole = t.is ∙ ap Some (torn_at (front turns) m (length-front turns) 0 (a / 256 ∷ a % 256 ∷ 0 ∷ []) t.new t.left) in
      subst (RecoversEither turns a) (sym whole) (recovered-gate turns (get_or t.new m 0) a)

  pub then_staged : (a : ℕ) (s t : DiskState) → t.told ≡ s.told → IsSettled (Some (file_of turns)) s
      → IsSettled (after_write (m + 1) (a / 256 ∷ a % 256 ∷ 0 ∷ []) (picked_file s)).reads t → IsSettled (Some (staged turns a)) t
  then_staged a s t same before after =
      resettled (after_write (m + 1) (a / 256 ∷ a % 256 ∷ 0 ∷ [])) (Some (file_of turns)) (Some (staged turns a)) s t same before after
      (λ f reads. ap (λ (c : Image). Some (written (m + 1) (a / 256 ∷ a % 256 ∷ 0 ∷ []) (bytes_of c))) reads
      ∙ ap Some (written_behind (front turns) m (length-front turns) 0 (a / 256 ∷ a % 256 ∷ 0 ∷ [])))

  pub then_done : (a : ℕ) (s t : DiskState) → t.told ≡ s.told → IsSettled (Some (staged turns a)) s
      → IsSettled (after_write m (1 ∷ []) (picked_file s)).reads t → IsSettled (Some (file_of (turns ++ a ∷ []))) t
  then_done a s t same before after =
      resettled (after_write m (1 ∷ [])) (Some (staged turns a)) (Some (file_of (turns ++ a ∷ []))) s t same before after
      (λ f reads. ap (λ (c : Image). Some (written m (1 ∷ []) (bytes_of c))) reads
      ∙ ap Some (written_at (front turns) m (length-front turns) 0 1 (a / 256 ∷ a % 256 ∷ 0 ∷ []) ∙ front-push turns a))

  pub behind : (bytes : List ℕ) (a : ℕ) (s t : DiskState) → IsSettled (Some (file_of turns)) s → Ran (During (after_write (m + 1) bytes) s) s t
      → Ran (RecoversEither turns a) s t
  behind bytes a s t is ran = weaker _ (RecoversEither turns a) s t ran (λ told c p. inl (stage bytes s is told c p))

  pub opened : (a : ℕ) (s t u : DiskState) → Ran (RecoversEither turns a) s t → IsSettled (Some (staged turns a)) t → Ran (During (after_write m (1 ∷ [])) t) t u
      → Ran (RecoversEither turns a) s u
  opened a s t u first is second =
      went_on (RecoversEither turns a) (During (after_write m (1 ∷ [])) t) (RecoversEither turns a) s t u first second (λ told c p. p)
      (λ told c p. gate a t is (first.told ∙ told) c p)

  pub gate_writable : (bytes : List ℕ) (at : ℕ) (s : DiskState) → is_some s.picked ≡ true → IsSettled (Some bytes) s → at ≤ length bytes → IsWritable s at
  gate_writable bytes at s picked is le = record {
    picked = picked;
    within = λ told. let e = ap (λ (c : Image). length (bytes_of c)) (is.reads told) in omega (arith, e, le);
  }

  -- ---- the repair

  cutting : (end : List ℕ) → turns_in end ≡ [] → (s : DiskState) → IsSettled (Some (front turns ++ end)) s → s.told ≡ true → (c : Image)
      → During (after_cut m) s c → Recovers turns c
  cutting end none s is told c (inl left) = ap recovered_image (is.only told c left) ∙ recovered-nothing turns end none
  cutting end none s is told c (inr step) =
      let t = stepped (IsCutTo m) (front turns ++ end) (picked_file s).may_leave (is.only told) c step in
      ap recovered_image (t.is ∙ ap Some (cut_behind (front turns) m (length-front turns) end t.new t.left))
      ∙ recovered-nothing turns (take (length t.new - m) end) (front_nothing (length t.new - m) end none)

  closing : (s : DiskState) → IsSettled (Some (front turns)) s → s.told ≡ true → (c : Image) → During (after_write m (0 ∷ [])) s c → Recovers turns c
  closing s is told c (inl left) =
      ap recovered_image (is.only told c left ∙ ap Some (sym (append-nil (front turns)))) ∙ recovered-nothing turns [] refl
  closing s is told c (inr step) =
      let t = stepped (IsTorn m 1) (front turns) (picked_file s).may_leave (is.only told) c step in
      ap recovered_image (t.is ∙ ap Some (torn_end (front turns) m (length-front turns) t.new t.left))
      ∙ recovered-nothing turns (drop m t.new) (short_nothing (drop m t.new) (torn_end_short (front turns) m (length-front turns) t.new t.left))

  pub then_cut : (s t : DiskState) → t.told ≡ s.told → (o : IsOpenable turns s) → IsSettled (after_cut m (picked_file s)).reads t → IsSettled (Some (front turns)) t
  then_cut s t same o after =
      resettled (after_cut m) (Some (front turns ++ o.end)) (Some (front turns)) s t same o.settled after
      (λ f reads. ap (λ (c : Image). Some (take m (bytes_of c))) reads ∙ ap Some (cut_done (front turns) m (length-front turns) o.end))

  pub then_closed : (s t : DiskState) → t.told ≡ s.told → IsSettled (Some (front turns)) s → IsSettled (after_write m (0 ∷ []) (picked_file s)).reads t
      → IsSettled (Some (file_of turns)) t
  then_closed s t same before after =
      resettled (after_write m (0 ∷ [])) (Some (front turns)) (Some (file_of turns)) s t same before after
      (λ f reads. ap (λ (c : Image). Some (written m (0 ∷ []) (bytes_of c))) reads ∙ ap Some (written_end (front turns) m (length-front turns) 0))

  pub cut_ran : (s t : DiskState) → (o : IsOpenable turns s) → Ran (During (after_cut m) s) s t → Ran (Recovers turns) s t
  cut_ran s t o ran = weaker _ (Recovers turns) s t ran (λ told c p. cutting o.end o.nothing s o.settled told c p)

  pub closed_ran : (s t u : DiskState) → Ran (Recovers turns) s t → IsSettled (Some (front turns)) t → Ran (During (after_write m (0 ∷ [])) t) t u → Ran (Recovers turns) s u
  closed_ran s t u first is second =
      went_on (Recovers turns) (During (after_write m (0 ∷ [])) t) (Recovers turns) s t u first second (λ told c p. p)
      (λ told c p. closing t is (first.told ∙ told) c p)

-- before the first write
pub nothing_yet : (turns : List ℕ) (a : ℕ) (s : DiskState) → IsOnlyNow s → IsSettled (Some (file_of turns)) s → Ran (RecoversEither turns a) s s
nothing_yet turns a s now is = begun (RecoversEither turns a) s now (λ told c left. inl (all_recover turns s is told c left))
