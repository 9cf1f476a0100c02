-- What is left by a crash that keeps some of the last changes is an image.
use Rattle.std.proofs.Math.Seq.{take-suc}
use Rattle.std.proofs.Common.{◌≡◌, ◌<◌, inl, ℕ, suc, ◌+◌, ◌==◌, get_or, take, Bool, true, false, if◌then◌else◌, is_some, List, [], ◌∷◌, ◌++◌, length, None, Some, refl, sym, ◌∙◌, ap, subst, arith, bytes_eq}
use Rattle.std.proofs.lemmas.Slice.Eq.{bytes_eq-Decides}
use Rattle.asl_term.specs.declared.syntax.Filed.{Filed}
use Rattle.mas_record_disk.specs.Disk.{Image, FileState, IsTorn, IsCutTo, OnBytes}
use Rattle.mas_record_files.specs.declared.change.Change.{Change}
use Rattle.mas_record_files.specs.declared.change.FileChange.{FileChange}
use Rattle.mas_record_files.specs.declared.change.FileChange.TheVariants.{Made, Wrote, Cut, Synced}
use Rattle.mas_record_files.specs.declared.replay.Replayed.{Replayed}
use Rattle.mas_record_files.specs.Memory.{held, image_after, leaves, changed, changed_if, after_all, settled, file_in, replay, replay_if, replay_all, crashed, AreCurrent, with_image, AreCrashed, IsCrash, IsImageOf}
use Rattle.mas_record_files.specs.Laws.{torn_none, cut_none, done_whole}

-- what is kept is an image, and so is what reads
pub record Agrees (f : FileState) (r : Replayed) : Type 0 where
  pub reads : r.reads ≡ f.reads
  pub image : f.may_leave r.kept
  pub now : f.may_leave f.reads

kept_if : (P : Image → Type 0) (b : Bool) (kept new : Image) → P kept → P new → P (if b then kept else new)
kept_if P true kept new p q = p
kept_if P false kept new p q = q

same_torn : (at n : ℕ) (c : Image) → OnBytes (IsTorn at n) c c
same_torn at n None = tt
same_torn at n (Some old) = torn_none at n old

same_cut : (n : ℕ) (c : Image) → OnBytes (IsCutTo n) c c
same_cut n None = tt
same_cut n (Some old) = cut_none n old

done : (what : FileChange) (f : FileState) (r : Replayed) → Agrees f r → leaves what f (image_after what r.reads)
done what f r a = subst (λ (i : Image). leaves what f (image_after what i)) (sym a.reads) (done_whole what f a.now)

step : (keep : ℕ) (what : FileChange) (f : FileState) (r : Replayed) → Agrees f r → Agrees (changed what f) (replay keep what r)
step keep Made f r a = record {
  reads = ap (image_after Made) a.reads;
  image = kept_if (leaves Made f) (r.more == 0) r.kept (image_after Made r.reads) (inl a.image) (done Made f r a);
  now = done_whole Made f a.now;
}
step keep (Wrote at bytes) f r a = record {
  reads = ap (image_after (Wrote at bytes)) a.reads;
  image = kept_if (leaves (Wrote at bytes) f) (r.more == 0) r.kept (image_after (Wrote at bytes) r.reads) (r.kept, a.image, same_torn _ (length bytes) r.kept) (done (Wrote at bytes) f r a);
  now = done_whole (Wrote at bytes) f a.now;
}
step keep (Cut n) f r a = record {
  reads = ap (image_after (Cut n)) a.reads;
  image = kept_if (leaves (Cut n) f) (r.more == 0) r.kept (image_after (Cut n) r.reads) (r.kept, a.image, same_cut n r.kept) (done (Cut n) f r a);
  now = done_whole (Cut n) f a.now;
}
step keep Synced f r a = record { reads = a.reads; image = a.reads; now = refl }

step_if : (b : Bool) (keep : ℕ) (what : FileChange) (f : FileState) (r : Replayed) → Agrees f r → Agrees (changed_if b what f) (replay_if b keep what r)
step_if true keep what f r a = step keep what f r a
step_if false keep what f r a = a

steps : (keep : ℕ) (name : List ℕ) (f : FileState) (r : Replayed) (changes : List Change) → Agrees f r → Agrees (after_all name f changes) (replay_all keep name r changes)
steps keep name f r [] a = a
steps keep name f r (c ∷ changes) a =
    steps keep name (changed_if (bytes_eq c.name name) c.what f) (replay_if (bytes_eq c.name name) keep c.what r) changes (step_if (bytes_eq c.name name) keep c.what f r a)

pub crashed_is_image : (keep : ℕ) (first : List Filed) (changes : List Change) (name : List ℕ) → (file_in first changes name).may_leave (crashed keep first changes name)
crashed_is_image keep first changes name =
    (steps keep name (settled (held first name)) (record { reads = held first name; kept = held first name; more = keep }) changes
    (record { reads = refl; image = refl; now = refl })).image

-- ---- a file that is not there was never there

none_before : (what : FileChange) (i : Image) → image_after what i ≡ None → i ≡ None
none_before what None e = refl
none_before Made (Some old) e = e
none_before (Wrote at bytes) (Some old) e = absurd (cc e)
none_before (Cut n) (Some old) e = absurd (cc e)
none_before Synced (Some old) e = e

abbrev Gone : Replayed → Type 0
Gone r = r.reads ≡ None → r.kept ≡ None

gone_step : (keep : ℕ) (what : FileChange) (r : Replayed) → Gone r → Gone (replay keep what r)
gone_step keep Made r gone none = kept_if (λ i. i ≡ None) (r.more == 0) r.kept (image_after Made r.reads) (gone (none_before Made r.reads none)) none
gone_step keep (Wrote at bytes) r gone none =
    kept_if (λ i. i ≡ None) (r.more == 0) r.kept (image_after (Wrote at bytes) r.reads) (gone (none_before (Wrote at bytes) r.reads none)) none
gone_step keep (Cut n) r gone none = kept_if (λ i. i ≡ None) (r.more == 0) r.kept (image_after (Cut n) r.reads) (gone (none_before (Cut n) r.reads none)) none
gone_step keep Synced r gone none = none

gone_if : (b : Bool) (keep : ℕ) (what : FileChange) (r : Replayed) → Gone r → Gone (replay_if b keep what r)
gone_if true keep what r gone = gone_step keep what r gone
gone_if false keep what r gone = gone

gone_all : (keep : ℕ) (name : List ℕ) (r : Replayed) (changes : List Change) → Gone r → Gone (replay_all keep name r changes)
gone_all keep name r [] gone = gone
gone_all keep name r (c ∷ changes) gone =
    gone_all keep name (replay_if (bytes_eq c.name name) keep c.what r) changes (gone_if (bytes_eq c.name name) keep c.what r gone)

pub crashed_none : (keep : ℕ) (first : List Filed) (changes : List Change) (name : List ℕ) → (file_in first changes name).reads ≡ None → crashed keep first changes name ≡ None
crashed_none keep first changes name none =
    let r : Replayed = record { reads = held first name; kept = held first name; more = keep } in
    let a = steps keep name (settled (held first name)) r changes (record { reads = refl; image = refl; now = refl }) in
    gone_all keep name r changes (λ e. e) (a.reads ∙ none)

-- ---- one more file

pub take_next : (xs : List Filed) (i : ℕ) (x : Filed) → i < length xs → x ≡ get_or xs i x → take (i + 1) xs ≡ take i xs ++ x ∷ []
take_next xs i x le at =
    let next : i + 1 ≡ suc i = omega arith in
    ap (λ (k : ℕ). take k xs) next ∙ take-suc xs i x le ∙ ap (λ (y : Filed). take i xs ++ y ∷ []) (sym at)

abbrev or_last : Image → Image → Image
or_last None last = last
or_last (Some bytes) last = Some bytes

pushed : (xs : List Filed) (f : Filed) (m : List ℕ) → held (xs ++ f ∷ []) m ≡ or_last (held xs m) (if bytes_eq f.name m then Some f.bytes else None)
pushed [] f m = refl
pushed (g ∷ xs) f m = head_if (bytes_eq g.name m) g.bytes (held (xs ++ f ∷ []) m) (held xs m) (if bytes_eq f.name m then Some f.bytes else None) (pushed xs f m)
  where
    head_if : (b : Bool) (x : List ℕ) (all rest last : Image) → all ≡ or_last rest last → (if b then Some x else all) ≡ or_last (if b then Some x else rest) last
    head_if true x all rest last e = refl
    head_if false x all rest last e = e

last_none : (o : Image) → or_last o None ≡ o
last_none None = refl
last_none (Some x) = refl

push_cases : (i o cm : Image) (b : Bool) (x y : List ℕ) → o ≡ (if is_some i then cm else None) → (b ≡ true → cm ≡ Some y)
    → or_last o (if b then Some y else None) ≡ (if is_some (or_last i (if b then Some x else None)) then cm else None)
push_cases (Some z) o cm true x y e same = ap (λ (k : Image). or_last k (Some y)) (e ∙ same refl) ∙ sym (same refl)
push_cases (Some z) o cm false x y e same = last_none o ∙ e
push_cases None o cm true x y e same = ap (λ (k : Image). or_last k (Some y)) e ∙ sym (same refl)
push_cases None o cm false x y e same = last_none o ∙ e

skip_cases : (i o cm : Image) (b : Bool) (x : List ℕ) → o ≡ (if is_some i then cm else None) → (b ≡ true → cm ≡ None)
    → o ≡ (if is_some (or_last i (if b then Some x else None)) then cm else None)
skip_cases (Some z) o cm true x e same = e
skip_cases (Some z) o cm false x e same = e
skip_cases None o cm true x e same = e ∙ sym (same refl)
skip_cases None o cm false x e same = e

module _ (keep : ℕ) (first : List Filed) (changes : List Change) where
  -- a crash left this of one more file
  pub crash_push : (xs left : List Filed) (f : Filed) (bytes : List ℕ) → crashed keep first changes f.name ≡ Some bytes → AreCrashed keep first changes xs left
      → AreCrashed keep first changes (xs ++ f ∷ []) (left ++ (record { name = f.name; bytes = bytes }) ∷ [])
  crash_push xs left f bytes is so_far m =
      pushed left (record { name = f.name; bytes = bytes }) m
      ∙ push_cases (held xs m) (held left m) (crashed keep first changes m) (bytes_eq f.name m) f.bytes bytes (so_far m)
      (λ same. ap (crashed keep first changes) (sym ((bytes_eq-Decides f.name m).0 same)) ∙ is)
      ∙ sym (ap (λ (i : Image). if is_some i then crashed keep first changes m else None) (pushed xs f m))

  -- and nothing of another
  pub crash_skip : (xs left : List Filed) (f : Filed) → crashed keep first changes f.name ≡ None → AreCrashed keep first changes xs left
      → AreCrashed keep first changes (xs ++ f ∷ []) left
  crash_skip xs left f is so_far m =
      skip_cases (held xs m) (held left m) (crashed keep first changes m) (bytes_eq f.name m) f.bytes (so_far m)
      (λ same. ap (crashed keep first changes) (sym ((bytes_eq-Decides f.name m).0 same)) ∙ is)
      ∙ sym (ap (λ (i : Image). if is_some i then crashed keep first changes m else None) (pushed xs f m))

  pub crash_step : (xs ys left later : List Filed) (f : Filed) (image : Image) → ys ≡ xs ++ f ∷ [] → image ≡ crashed keep first changes f.name
      → later ≡ with_image left f.name image → AreCrashed keep first changes xs left → AreCrashed keep first changes ys later
  crash_step xs ys left later f image more is kept so_far =
      subst (λ (l : List Filed). AreCrashed keep first changes l later) (sym more)
      (subst (λ (l : List Filed). AreCrashed keep first changes (xs ++ f ∷ []) l) (sym kept) (with_case image is))
    where
      with_case : (i : Image) → i ≡ crashed keep first changes f.name → AreCrashed keep first changes (xs ++ f ∷ []) (with_image left f.name i)
      with_case None is_none = crash_skip xs left f (sym is_none) so_far
      with_case (Some bytes) is_some = crash_push xs left f bytes (sym is_some) so_far

  whole_if : (i cm : Image) → (i ≡ None → cm ≡ None) → (if is_some i then cm else None) ≡ cm
  whole_if None cm gone = sym (gone refl)
  whole_if (Some x) cm gone = refl

  -- of all files
  pub all_crashed : (files left : List Filed) → AreCurrent first changes files → AreCrashed keep first changes files left → IsCrash keep first changes left
  all_crashed files left current are m =
      are m ∙ whole_if (held files m) (crashed keep first changes m) (λ none. crashed_none keep first changes m (current m ∙ none))

  pub crash_image : (files left : List Filed) → AreCurrent first changes files → AreCrashed keep first changes files left → IsImageOf first changes left
  crash_image files left current are m =
      subst (λ (i : Image). (file_in first changes m).may_leave i) (sym (all_crashed files left current are m)) (crashed_is_image keep first changes m)
