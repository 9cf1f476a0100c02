-- A file that is picked, read and gone on from.
use Rattle.std.proofs.Common.{◌≡◌, ◌≢◌, ℕ, ◌+◌, ◌<◌, ◌≤◌, ◌⊎◌, inl, inr, true, false, Bool, is_some, Option, Some, None, Ok, IfOk, IfErr, List, [], ◌∷◌, ◌++◌, length, replicate, sym, refl, ap, ◌∙◌, subst, append-nil, arith}
use Rattle.std.proofs.Common.{bytes_eq}
use Rattle.std.proofs.lemmas.Bool.{cases_Bool}
use Rattle.std.proofs.lemmas.Slice.Eq.{bytes_eq-Decides}
use Rattle.mas_record_disk.specs.declared.disk.DiskFail.{DiskFail}
use Rattle.mas_board_lists.specs.Lists.{StartsWith}
use Rattle.mas_board_lists.proofs.Starts.{starts_refl}
use Rattle.mas_io.specs.Causes.{Rose}
use Rattle.mas_record_disk.specs.Disk.{Image, bytes_of, FileState, DiskState}
use Rattle.mas_record_disk.specs.PastDisk.{IsOnlyNow}
use Rattle.mas_record_disk.specs.Calls.{name_or_none, picked_file, picked_bytes, GoesOn, IsSameFile, SameBut, made_where_missing, PicksReady, PicksNone, PicksMissing}
use Rattle.mas_record_journal.specs.declared.back.BackWhy.{BackWhy}
use Rattle.mas_record_journal.specs.declared.back.BackWhy.TheVariants as why
use Rattle.mas_record_journal.specs.Journals.{recovered_image, Recovers}
use Rattle.mas_record_journal.specs.Moments.{Ran, LeavesOnly}
use Rattle.mas_record_journal.specs.Kept.{most_bytes, WasOrTells, HasWhy, IsUntouched, IsOpened, IsRefused, IsCreated, IsNotCreated, Anything, AllRecover}
use Rattle.mas_record_journal.proofs.Steps.{all_recover}
use Rattle.mas_mind.specs.declared.mind.Thought.{Thought}
use Rattle.mas_mind.specs.Minds.{Kind}
use Rattle.mas_board.specs.Boards.{Noted}
use Rattle.mas_core.specs.Platform.{Platform, run, and_run, turn}
use Rattle.mas_record.specs.Rule.{RecoversWithin}
use Rattle.mas_core.specs.Replay.{RanAlong, IsRewound, Followed}
use Rattle.mas_record_run.specs.Faults.{of_back}
use Rattle.mas_record_run.specs.declared.fault.RecordFault.{RecordFault}
use Rattle.mas_record_run.specs.declared.fault.RecordFault.TheVariants.{Memory, Disk, Missing, NoHeader, TooLong, Illegal}
use Rattle.mas_record_run.specs.Runs.{RanOn, RunCause, RecoversFrom, WentOn, Leaves, HasLeft}
use Rattle.mas_record_run.specs.Records.{RanFrom, GoCause, IsKeptOn, Tells, IsResumed, IsMissing, HasNoHeader, IsTooLong, IsIllegal, ResumeCause, FromTold, IsCrashSafe}

-- ---- one run after another

module _ {V : Type 0} (k : Kind V) where
  run_on : (p q : Platform V) (names more : List ℕ) → run k p names ≡ Some q → run k p (names ++ more) ≡ run k q more
  run_on p q [] more e = let d : p ≡ q = cc in ap (λ (x : Platform V). run k x more) d
  run_on p q (a ∷ names) more e = through (λ x. run_on x q names more) (turn k p a) e
    where
      through : ((x : Platform V) → run k x names ≡ Some q → run k x (names ++ more) ≡ run k q more) → (t : Option (Platform V))
          → and_run (λ x. run k x names) t ≡ Some q → and_run (λ x. run k x (names ++ more)) t ≡ run k q more
      through on None e = cc
      through on (Some x) e = on x e

  -- the run along the turns of a journal, and on from there
  pub ran_from : (p : Platform V) (turns : List ℕ) (board done : Noted) (minds after : List V) (thoughts : List (Option Thought)) → IsRewound k p turns board minds thoughts
      → RanOn k board minds thoughts done after → RanFrom k p turns done after
  ran_from p turns board done minds after thoughts w r =
      let q : Platform V = record { board = board.state; minds = minds; thoughts = thoughts } in
      let schedule : done.schedule ≡ turns ++ r.more = r.schedule ∙ ap (λ (l : List ℕ). l ++ r.more) w.schedule in
      record {
        ran = record {
          thoughts = r.left;
          schedule = refl;
          ran = ap (run k p) schedule ∙ run_on p q turns r.more w.ran ∙ r.ran;
          ended = r.ended;
        };
        begins = (r.more, schedule);
      }

  pub go_cause : (p : Platform V) (turns : List ℕ) (old new : DiskState) (f : RecordFault) → RunCause old new f → GoCause k p turns old new f
  go_cause p turns old new Memory h = tt
  go_cause p turns old new Disk h = h
  go_cause p turns old new Missing h = h
  go_cause p turns old new NoHeader h = h
  go_cause p turns old new TooLong h = h
  go_cause p turns old new (Illegal place) h = absurd h

-- ---- faults

rose_on : (a b c : ℕ) → a ≤ b → Rose b c → Rose a c
rose_on a b c l r = omega (arith, l, r)

-- ---- a run from the beginning

none_some : (name : List ℕ) → None ≢ Some name
none_some name e = cc

-- ---- a disk that went on

pub went_by : (s0 s1 : DiskState) → GoesOn s0 s1 → WentOn s0 s1
went_by s0 s1 on = record { told = on.told; counted = on.faults; later = on.moment }

pub went_then : (s0 s1 s2 : DiskState) → WentOn s0 s1 → WentOn s1 s2 → WentOn s0 s2
went_then s0 s1 s2 v w = record {
  told = w.told ∙ v.told;
  counted = omega (arith, v.counted, w.counted);
  later = omega (arith, v.later, w.later);
}

pub went_through : (s0 s1 s2 : DiskState) (P : Image → Type 0) → GoesOn s0 s1 → Ran P s1 s2 → WentOn s0 s2
went_through s0 s1 s2 P on r = went_then s0 s1 s2 (went_by s0 s1 on) (record { told = r.told; counted = r.faults; later = r.moment })

kept_on : {D : Type 0} (state : D → DiskState) (name : List ℕ) (s0 s2 e : DiskState) (turns schedule : List ℕ) (d2 : D) → state d2 ≡ s2
    → WentOn s0 s2 → s2.picked ≡ Some name → AllRecover turns s2 → Leaves turns s2 e → HasLeft turns schedule s2 e → IsKeptOn state name turns schedule s0 e
kept_on state name s0 s2 e turns schedule d2 i w picked there l h = record {
  picked = l.now.picked ∙ picked;
  between = d2;
  began = subst (WentOn s0) (sym i) w;
  ended = subst (λ (s : DiskState). WentOn s e) (sym i) l.now.on;
  opened = λ told c may.
      subst (λ (x : Option (List ℕ)). (c : Image) → (s2.file (name_or_none x)).may_leave c → Recovers turns c) picked (there (w.told ∙ told)) c
      (subst (λ (s : DiskState). (s.file name).may_leave c) i may);
  since = λ told c left.
      subst (λ (x : Option (List ℕ)). (c : Image) → e.left_since s2.moment (name_or_none x) c → RecoversWithin turns schedule c) picked (h.images (w.told ∙ told)) c
      (subst (λ (s : DiskState). e.left_since s.moment name c) i left);
  all = λ told c may.
      subst (λ (x : Option (List ℕ)). (c : Image) → (e.file (name_or_none x)).may_leave c → Recovers schedule c) (l.now.picked ∙ picked)
      (h.all (l.now.on.told ∙ w.told ∙ told)) c may;
}

pub recorded_on : {D : Type 0} (state : D → DiskState) (name : List ℕ) (s0 s1 s2 e : DiskState) (turns schedule : List ℕ) (torn : Option DiskFail) (d2 : D)
    (make : Bool) → state d2 ≡ s2 → GoesOn s0 s1 → PicksReady s0 s1 name make → IsCreated s1 s2 turns torn → Leaves turns s2 e → HasLeft turns schedule s2 e
    → IsKeptOn state name [] schedule s0 e
recorded_on state name s0 s1 s2 e turns schedule torn d2 make i on p c l h =
    subst (λ (t : List ℕ). IsKeptOn state name t schedule s0 e) c.none
    (kept_on state name s0 s2 e turns schedule d2 i (went_through s0 s1 s2 Anything on c.ran) (c.ran.picked ∙ p.picked)
    (all_recover turns s2 (c.whole.file c.open_now)) l h)

-- ---- the file that was picked

module _ (name : List ℕ) (s0 s1 : DiskState) (on : GoesOn s0 s1) (p : PicksReady s0 s1 name false) where
  not_made : (r : Image) (f : FileState) → is_some r ≡ true → made_where_missing r f ≡ f
  not_made None f e = cc
  not_made (Some bytes) f e = refl

  same_here : s0.told ≡ true → IsSameFile (s0.file name) (s1.file name)
  same_here told =
      subst (λ (f : FileState). IsSameFile f (s1.file name)) (not_made (s0.file name).reads (s0.file name) (p.there told refl)) (p.file told)

  same_one : (told : s0.told ≡ true) (m : List ℕ) → IsSameFile (s0.file m) (s1.file m)
  same_one told m = elim (cases_Bool (bytes_eq name m)) [
    | inl same ↦ subst (λ (n : List ℕ). IsSameFile (s0.file n) (s1.file n)) ((bytes_eq-Decides name m).0 same) (same_here told)
    | inr other ↦ p.others told m (λ e. apart m other (some_same e))
  ]
    where
      some_same : Some name ≡ Some m → name ≡ m
      some_same e = cc

      apart : (m : List ℕ) → bytes_eq name m ≡ false → name ≡ m → ⊥
      apart m o e = cc (sym o ∙ (bytes_eq-Decides name m).1 e)

  picked_is : picked_file s1 ≡ s1.file name
  picked_is = ap (λ (x : Option (List ℕ)). s1.file (name_or_none x)) p.picked

  reads_is : s0.told ≡ true → (picked_file s1).reads ≡ (s0.file name).reads
  reads_is told = ap (λ (f : FileState). f.reads) picked_is ∙ (same_here told).reads

  leaves_is : s0.told ≡ true → (c : Image) → (picked_file s1).may_leave c → (s0.file name).may_leave c
  leaves_is told c h = (same_here told).leaves c (subst (λ (f : FileState). f.may_leave c) picked_is h)

  told_is : s0.told ≡ true → s1.told ≡ true
  told_is told = on.told ∙ told

  same_then : (s2 : DiskState) → SameBut None s1 s2 → s0.told ≡ true → SameBut None s0 s2
  same_then s2 h told m e =
      let a = same_one told m in
      let b = h m e in
      record { reads = b.reads ∙ a.reads; leaves = λ c l. a.leaves c (b.leaves c l) }

  from_same : (r : Option (List ℕ)) (c : Image) → is_some (recovered_image c) ≡ true → recovered_image c ≡ r → FromTold r c
  from_same None c some same = cc (sym (ap is_some same) ∙ some)
  from_same (Some turns) c some same = record { found = turns; recovers = same; begins = starts_refl turns }

  was_or : s0.told ≡ true → (c : Image) → WasOrTells s1 c → (s0.file name).may_leave c ⊎ FromTold (recovered_image (s0.file name).reads) c
  was_or told c (inl h) = inl (leaves_is told c h)
  was_or told c (inr h) = inr (from_same (recovered_image (s0.file name).reads) c h.0 (h.1 ∙ ap recovered_image (reads_is told)))

  -- until the journal was open, or was refused
  pub crash_refused : (s2 : DiskState) → IsOnlyNow s0 → Ran (WasOrTells s1) s1 s2 → IsCrashSafe name s0 s2
  crash_refused s2 now r told c h =
      let here = subst (λ (x : Option (List ℕ)). (t : ℕ) (c : Image) → t ≤ s1.moment → s2.left_since t (name_or_none x) c
      → s1.left_since t (name_or_none x) c ⊎ WasOrTells s1 c) p.picked (r.leaves (told_is told)).before in
      either (here s0.moment c on.moment h)
    where
      before : s0.left_since s0.moment name c ⊎ (s1.file name).may_leave c
          → (s0.file name).may_leave c ⊎ FromTold (recovered_image (s0.file name).reads) c
      before (inl l) = inl (now name c l)
      before (inr l) = inl ((same_here told).leaves c l)

      either : s1.left_since s0.moment name c ⊎ WasOrTells s1 c → (s0.file name).may_leave c ⊎ FromTold (recovered_image (s0.file name).reads) c
      either (inl l) = before (on.since name s0.moment c (omega arith) l)
      either (inr w) = was_or told c w

  -- a journal was opened, and there was a run from it
  pub crash_run : (s2 e : DiskState) (turns : List ℕ) (torn : Option DiskFail) → IsOnlyNow s0 → IsOpened s1 s2 turns torn → Leaves turns s2 e
      → IsCrashSafe name s0 e
  crash_run s2 e turns torn now o l told c h =
      let named = subst (λ (x : Option (List ℕ)). (t : ℕ) (c : Image) → t ≤ s2.moment → e.left_since t (name_or_none x) c
      → s2.left_since t (name_or_none x) c ⊎ RecoversFrom turns c) (o.ran.picked ∙ p.picked) (l.before (o.ran.told ∙ told_is told)) in
      either (named s0.moment c (omega (arith, on.moment, o.ran.moment)) h)
    where
      tells : recovered_image (s0.file name).reads ≡ Some turns
      tells = sym (ap recovered_image (reads_is told)) ∙ o.tells (told_is told)

      either : s2.left_since s0.moment name c ⊎ RecoversFrom turns c → (s0.file name).may_leave c ⊎ FromTold (recovered_image (s0.file name).reads) c
      either (inl before) = crash_refused s2 now o.ran told c before
      either (inr after) = inr (subst (λ (x : Option (List ℕ)). FromTold x c) (sym tells) after)

  -- ---- what was refused

  bytes_is : s0.told ≡ true → picked_bytes s1 ≡ bytes_of (s0.file name).reads
  bytes_is told = ap bytes_of (reads_is told)

  module _ {V : Type 0} (k : Kind V) (q : Platform V) where
    pub refused_cause : (s2 : DiskState) (w : BackWhy) → IsRefused s1 s2 w → ResumeCause k q name s0 s2 (of_back w)
    refused_cause s2 why.Memory r = tt
    refused_cause s2 why.Failed r = rose_on s0.faults s1.faults s2.faults on.faults r.cause
    refused_cause s2 why.NoHeader r = record {
      there = λ told. p.there told refl;
      short = λ told. subst (λ (l : List ℕ). length l ≤ most_bytes) (bytes_is told) (r.cause (told_is told)).0;
      nothing = λ told. sym (ap recovered_image (reads_is told)) ∙ (r.cause (told_is told)).1;
      same = λ told. same_then s2 (r.untouched (told_is told)) told;
    }
    refused_cause s2 why.TooLong r = record {
      long = λ told. subst (λ (l : List ℕ). most_bytes < length l) (bytes_is told) (r.cause (told_is told));
      same = λ told. same_then s2 (r.untouched (told_is told)) told;
    }

    tells_here : (s2 : DiskState) (turns : List ℕ) (torn : Option DiskFail) → IsOpened s1 s2 turns torn → Tells s0 name turns
    tells_here s2 turns torn o told = sym (ap recovered_image (reads_is told)) ∙ o.tells (told_is told)

    short_here : (s2 : DiskState) (turns : List ℕ) (torn : Option DiskFail) → IsOpened s1 s2 turns torn → s0.told ≡ true
        → length (bytes_of (s0.file name).reads) ≤ most_bytes
    short_here s2 turns torn o told = subst (λ (l : List ℕ). length l ≤ most_bytes) (bytes_is told) (o.short (told_is told))

    pub resumed : {D : Type 0} (state : D → DiskState) (d2 : D) (s2 e : DiskState) (turns : List ℕ) (torn : Option DiskFail) (board : Noted) (minds : List V)
        → state d2 ≡ s2 → IsOpened s1 s2 turns torn → Leaves turns s2 e → HasLeft turns board.schedule s2 e → RanFrom k q turns board minds
        → IsResumed k q state name s0 e board minds
    resumed state d2 s2 e turns torn board minds i o l h r = record {
      turns = turns;
      tells = tells_here s2 turns torn o;
      short = short_here s2 turns torn o;
      ran = r;
      kept = kept_on state name s0 s2 e turns board.schedule d2 i (went_through s0 s1 s2 (WasOrTells s1) on o.ran) (o.ran.picked ∙ p.picked)
          (all_recover turns s2 (o.whole.file o.open_now)) l h;
    }

    pub resume_cause : (s2 e : DiskState) (turns : List ℕ) (torn : Option DiskFail) (f : RecordFault) → IsOpened s1 s2 turns torn → GoCause k q turns s2 e f
        → ResumeCause k q name s0 e f
    resume_cause s2 e turns torn Memory o h = tt
    resume_cause s2 e turns torn Disk o h =
        rose_on s0.faults s2.faults e.faults (omega (arith, on.faults, o.ran.faults)) h
    resume_cause s2 e turns torn Missing o h = absurd h
    resume_cause s2 e turns torn NoHeader o h = absurd h
    resume_cause s2 e turns torn TooLong o h = absurd h
    resume_cause s2 e turns torn (Illegal place) o h = record {
      turns = turns;
      tells = tells_here s2 turns torn o;
      short = short_here s2 turns torn o;
      stuck = h;
    }

-- ---- no file was picked

pub crash_none : (name : List ℕ) (s0 s1 : DiskState) → IsOnlyNow s0 → GoesOn s0 s1 → PicksNone s0 s1 → IsCrashSafe name s0 s1
crash_none name s0 s1 now on p told c h = inl (was (on.since name s0.moment c (omega arith) h))
  where
    was : s0.left_since s0.moment name c ⊎ (s1.file name).may_leave c → (s0.file name).may_leave c
    was (inl l) = now name c l
    was (inr l) = (p.files told name (none_some name)).leaves c l

pub missing : (name : List ℕ) (s0 s1 : DiskState) (make : Bool) → PicksMissing s0 s1 name make → IsMissing name s0 s1
missing name s0 s1 make p = record { missing = p.missing; same = p.none.files }
