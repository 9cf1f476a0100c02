-- What the words ask for, and what follows of the cause of a status.
use Rattle.std.proofs.Common.{◌≡◌, inl, inr, List, Option, ℕ, sym, subst}
use Rattle.mas_top_words.specs.Asked as words
use Rattle.mas_top_words.specs.Plain.{AskFor, AskForNothing, AskOnlyFor, AreRead}
use Rattle.mas_record_disk.specs.Disk.{DiskState}
use Rattle.mas_io.specs.Told.{Told, IsUnwritten}
use Rattle.mas_top_status.specs.declared.status.Status.{Status}
use Rattle.mas_top_status.specs.declared.status.Status.TheVariants.{Memory}
use Rattle.mas_top_lint.specs.Linting.{Lints, IsLintComplete}
use Rattle.mas_top_lint.proofs.Linted.{lints, complete_lint}
use Rattle.mas_top_files.specs.Known.{known}
use Rattle.mas_top_sites.specs.Caused.{ReportsSites, AreSitesComplete}
use Rattle.mas_top_sites.proofs.Caused.{reports_sites, complete_sites}
use Rattle.mas_world.specs.Worlds.{Used}
use Rattle.mas_top.specs.Caused.{Texts}
use Rattle.mas_top.specs.Headline.{IsRunReportOf, IsHeadline, PrintsSchedule, IsComplete, ForRuns, ForRecords, ForReports, ForOthers, ForClaims, ForLints, ForSites, ForDemos}
use Rattle.mas_top.specs.Headline.{AskedCaused, WordsCaused, Request, request, to_report, to_record, to_claim, to_demo, to_meet, to_lint}
use Rattle.mas_top_opening.specs.Opening.{Setup}
use Rattle.mas_top_record.specs.Disks.{state_of}
use Rattle.mas_top_record.specs.Keeping.{IsSafe, IsUntouched}
use Rattle.mas_top.specs.Recording.{Recorded, wanted_of, Lent, lent, IsSafelyLeft, RecordCaused, KeepsPrinted, IsRecordComplete}
use Rattle.mas_top.specs.Ways.{way_of}
use Rattle.mas_top_check.specs.Checking.{Judges, IsClaimComplete}
use Rattle.mas_top.specs.Demo.{IsDemoComplete}
use Rattle.mas_top.proofs.Demos.{demo_complete}
use Rattle.mas_top_check.proofs.Claims.{judged_claim, complete_claim}
use Rattle.mas_top.proofs.Drawn.{headline_file, schedule_file, complete_file}
use Rattle.mas_top.proofs.Recorded.{headline_record, keeps_printed, complete_record}

-- a shelf that is as it was, whatever is asked for
left_of : {S : Type 0} (old new : S) → new ≡ old → (q : Request) → ForDemos (λ u count way. new ≡ old) q
left_of old new e (to_report u files) = tt
left_of old new e (to_record u r) = tt
left_of old new e (to_claim c) = tt
left_of old new e (to_demo u count way) = e
left_of old new e (to_meet u s) = tt
left_of old new e (to_lint project) = tt

pub left : {S : Type 0} (objects : List Used) (old new : S) → new ≡ old → (a : words.Asked) → ForDemos (λ u count way. new ≡ old) (request objects a)
left objects old new e a = left_of old new e (request objects a)

-- or where they ask for this alone
pub left_by : {S : Type 0} (objects : List Used) (given : List (List ℕ)) (old new : S) (asked : words.Asked) → AskOnlyFor given asked →
    ForDemos (λ u count way. new ≡ old) (request objects asked) → (a : words.Asked) → AskFor given a →
    ForDemos (λ u count way. new ≡ old) (request objects a)
left_by objects given old new asked only f a h = subst (λ x. ForDemos (λ u count way. new ≡ old) (request objects x)) (sym (only.only a h)) f

-- a disk with which nothing is done, where nothing is recorded
pub idle_by : {D : Type 0} (objects : List Used) (given : List (List ℕ)) (old new : Option D) (asked : words.Asked) → AskOnlyFor given asked →
    ForOthers (new ≡ old) (request objects asked) → (a : words.Asked) → AskFor given a → ForOthers (new ≡ old) (request objects a)
idle_by objects given old new asked only f a h = subst (λ x. ForOthers (new ≡ old) (request objects x)) (sym (only.only a h)) f

-- or whatever is asked for
idle_of : {D : Type 0} (old new : Option D) → new ≡ old → (q : Request) → ForOthers (new ≡ old) q
idle_of old new e (to_report u files) = e
idle_of old new e (to_record u r) = tt
idle_of old new e (to_claim c) = e
idle_of old new e (to_demo u count way) = e
idle_of old new e (to_meet u s) = e
idle_of old new e (to_lint project) = e

pub idle : {D : Type 0} (objects : List Used) (old new : Option D) → new ≡ old → (a : words.Asked) → ForOthers (new ≡ old) (request objects a)
idle objects old new e a = idle_of old new e (request objects a)

-- a disk that is left safely, where the words ask for this alone
pub safe_by : (l : Lent) (objects : List Used) (given : List (List ℕ)) (asked : words.Asked) → AskOnlyFor given asked →
    ForRecords (λ u r. IsSafelyLeft l r) (request objects asked) → (a : words.Asked) → AskFor given a →
    ForRecords (λ u r. IsSafelyLeft l r) (request objects a)
safe_by l objects given asked only f a h = subst (λ x. ForRecords (λ u r. IsSafelyLeft l r) (request objects x)) (sym (only.only a h)) f

-- a disk with which nothing is done is left safely, whatever is asked for
safe_of : {D : Type 0} (state : D → DiskState) (old new : Option D) → new ≡ old → IsUntouched (state_of state old) → (q : Request) →
    ForRecords (λ u r. IsSafelyLeft (lent state old new) r) q
safe_of state old new e f (to_report u files) = tt
safe_of state old new e f (to_record u r) = subst (λ x. IsSafe r.keeping r.file (state_of state old) (state_of state x)) (sym e) (f r.keeping r.file)
safe_of state old new e f (to_claim c) = tt
safe_of state old new e f (to_demo u count way) = tt
safe_of state old new e f (to_meet u s) = tt
safe_of state old new e f (to_lint project) = tt

pub safe_left : {D : Type 0} (state : D → DiskState) (old new : Option D) (objects : List Used) → new ≡ old → IsUntouched (state_of state old) →
    (a : words.Asked) → ForRecords (λ u r. IsSafelyLeft (lent state old new) r) (request objects a)
safe_left state old new objects e f a = safe_of state old new e f (request objects a)

-- words that are not read ask for nothing
pub unread : {A : Type 0} (given : List (List ℕ)) (asked : words.Asked) → AskOnlyFor given asked → AskForNothing given → A
unread given asked only none = absurd (none asked only.it)

module _ (l : Lent) where
  -- the cause for what the words ask for
  said : (Is : Setup → Texts) (objects : List Used) (given : List (List ℕ)) (before after : Told) (status : Status) → WordsCaused Is objects given l before after status →
      (a : words.Asked) → AskFor given a → AskedCaused Is objects l before after status (request objects a)
  said Is objects given before after status (inl u) a h = absurd (u.not_read a h)
  said Is objects given before after status (inr w) a h = subst (λ x. AskedCaused Is objects l before after status (request objects x)) (sym (w.read.only a h)) w.caused

  -- where memory lacked before anything was done
  short_by : (objects : List Used) (before after : Told) (q : Request) → IsUnwritten before after → AskedCaused IsRunReportOf objects l before after Memory q
  short_by objects before after (to_report u files) v = v
  short_by objects before after (to_record u r) v = v
  short_by objects before after (to_claim c) v = v
  short_by objects before after (to_demo u count way) v = v
  short_by objects before after (to_meet u s) v = v
  short_by objects before after (to_lint project) v = v

  pub short_words : (objects : List Used) (given : List (List ℕ)) (before after : Told) → AreRead given → IsUnwritten before after →
      WordsCaused IsRunReportOf objects given l before after Memory
  short_words objects given before after r u =
      inr (record { asked = r.asked; read = r.only; permitted = r.permitted; caused = short_by objects before after (request objects r.asked) u })

  headline_by : (objects : List Used) (before after : Told) (status : Status) (q : Request) → AskedCaused IsRunReportOf objects l before after status q →
      ForRuns (λ u files. IsHeadline u files before after status) q
  headline_by objects before after status (to_report u files) k = headline_file u files before after status k
  headline_by objects before after status (to_record u r) k = tt
  headline_by objects before after status (to_claim c) k = tt
  headline_by objects before after status (to_demo u count way) k = tt
  headline_by objects before after status (to_meet u s) k = tt
  headline_by objects before after status (to_lint project) k = tt

  schedule_by : (objects : List Used) (before after : Told) (status : Status) (q : Request) → AskedCaused IsRunReportOf objects l before after status q →
      ForRuns (λ u files. PrintsSchedule u files before after status) q
  schedule_by objects before after status (to_report u files) k = schedule_file u files before after status k
  schedule_by objects before after status (to_record u r) k = tt
  schedule_by objects before after status (to_claim c) k = tt
  schedule_by objects before after status (to_demo u count way) k = tt
  schedule_by objects before after status (to_meet u s) k = tt
  schedule_by objects before after status (to_lint project) k = tt

  complete_by : (objects : List Used) (before after : Told) (status : Status) (q : Request) → AskedCaused IsRunReportOf objects l before after status q →
      ForRuns (λ u files. IsComplete u files before after status) q
  complete_by objects before after status (to_report u files) k = complete_file (IsRunReportOf u) u files before after status k
  complete_by objects before after status (to_record u r) k = tt
  complete_by objects before after status (to_claim c) k = tt
  complete_by objects before after status (to_demo u count way) k = tt
  complete_by objects before after status (to_meet u s) k = tt
  complete_by objects before after status (to_lint project) k = tt

  check_by : (objects : List Used) (before after : Told) (status : Status) (q : Request) → AskedCaused IsRunReportOf objects l before after status q →
      ForClaims (λ c. Judges objects c before after status) q
  check_by objects before after status (to_report u files) k = tt
  check_by objects before after status (to_record u r) k = tt
  check_by objects before after status (to_claim c) k = judged_claim objects c before after status k
  check_by objects before after status (to_demo u count way) k = tt
  check_by objects before after status (to_meet u s) k = tt
  check_by objects before after status (to_lint project) k = tt

  checked_by : (objects : List Used) (before after : Told) (status : Status) (q : Request) → AskedCaused IsRunReportOf objects l before after status q →
      ForClaims (λ c. IsClaimComplete objects c before after status) q
  checked_by objects before after status (to_report u files) k = tt
  checked_by objects before after status (to_record u r) k = tt
  checked_by objects before after status (to_claim c) k = complete_claim objects c before after status k
  checked_by objects before after status (to_demo u count way) k = tt
  checked_by objects before after status (to_meet u s) k = tt
  checked_by objects before after status (to_lint project) k = tt

  demo_by : (objects : List Used) (before after : Told) (status : Status) (a : words.Asked) → words.IsPermitted a →
      AskedCaused IsRunReportOf objects l before after status (request objects a) →
      ForDemos (λ u count way. IsDemoComplete u before after status) (request objects a)
  demo_by objects before after status (words.run project options workers pool) p c = tt
  demo_by objects before after status (words.replay project schedule options) p c = tt
  demo_by objects before after status (words.record_to project file options workers) p c = tt
  demo_by objects before after status (words.resume_from project file options workers) p c = tt
  demo_by objects before after status (words.check project report) p c = tt
  demo_by objects before after status (words.demo count workers) p c = demo_complete objects count (way_of workers) before after status p.0.0 p.0.1 c
  demo_by objects before after status (words.renew project report) p c = tt
  demo_by objects before after status (words.sites one two options workers) p c = tt
  demo_by objects before after status (words.lint project) p c = tt

  demo_said : (objects : List Used) (given : List (List ℕ)) (before after : Told) (status : Status) → WordsCaused IsRunReportOf objects given l before after status →
      (a : words.Asked) → AskFor given a → words.IsPermitted a
  demo_said objects given before after status (inl u) a h = absurd (u.not_read a h)
  demo_said objects given before after status (inr w) a h = subst words.IsPermitted (sym (w.read.only a h)) w.permitted

  recorded_by : (objects : List Used) (before after : Told) (status : Status) (q : Request) → AskedCaused IsRunReportOf objects l before after status q →
      ForRecords (λ u r. RecordCaused l u r before after status) q
  recorded_by objects before after status (to_report u files) k = tt
  recorded_by objects before after status (to_record u r) k = k
  recorded_by objects before after status (to_claim c) k = tt
  recorded_by objects before after status (to_demo u count way) k = tt
  recorded_by objects before after status (to_meet u s) k = tt
  recorded_by objects before after status (to_lint project) k = tt

  records_as : (P Q : Setup → Recorded → Type 0) → ((u : Setup) (r : Recorded) → P u r → Q u r) → (q : Request) → ForRecords P q → ForRecords Q q
  records_as P Q f (to_report u files) h = tt
  records_as P Q f (to_record u r) h = f u r h
  records_as P Q f (to_claim c) h = tt
  records_as P Q f (to_demo u count way) h = tt
  records_as P Q f (to_meet u s) h = tt
  records_as P Q f (to_lint project) h = tt

  -- what the cause of each status of a recorded run gives holds where the words ask for one
  records_words : (Q : Setup → Recorded → Type 0) (objects : List Used) (given : List (List ℕ)) (before after : Told) (status : Status) →
      ((u : Setup) (r : Recorded) → RecordCaused l u r before after status → Q u r) → WordsCaused IsRunReportOf objects given l before after status →
      (a : words.Asked) → AskFor given a → ForRecords Q (request objects a)
  records_words Q objects given before after status f c a h =
      records_as (λ u r. RecordCaused l u r before after status) Q f (request objects a)
      (recorded_by objects before after status (request objects a) (said IsRunReportOf objects given before after status c a h))

  pub recorded_words : (objects : List Used) (given : List (List ℕ)) (before after : Told) (status : Status) →
      WordsCaused IsRunReportOf objects given l before after status → (a : words.Asked) → AskFor given a →
      ForRecords (λ u r. KeepsPrinted l r before after status) (request objects a)
  recorded_words objects given before after status =
      records_words (λ u r. KeepsPrinted l r before after status) objects given before after status (λ u r c. keeps_printed l u r before after status c)

  pub finished_words : (objects : List Used) (given : List (List ℕ)) (before after : Told) (status : Status) →
      WordsCaused IsRunReportOf objects given l before after status → (a : words.Asked) → AskFor given a →
      ForRecords (λ u r. IsRecordComplete l u r before after status) (request objects a)
  finished_words objects given before after status =
      records_words (λ u r. IsRecordComplete l u r before after status) objects given before after status (λ u r c. complete_record l u r before after status c)

  pub headline_words : (objects : List Used) (given : List (List ℕ)) (before after : Told) (status : Status) → WordsCaused IsRunReportOf objects given l before after status →
      (a : words.Asked) → AskFor given a → ForReports (λ u asked. IsHeadline u asked before after status) (request objects a)
  headline_words objects given before after status c a h = (
    headline_by objects before after status (request objects a) (said IsRunReportOf objects given before after status c a h),
    records_words (λ u r. IsHeadline u (wanted_of r) before after status) objects given before after status
        (λ u r k. headline_record l u r before after status k) c a h,
  )

  pub schedule_words : (objects : List Used) (given : List (List ℕ)) (before after : Told) (status : Status) → WordsCaused IsRunReportOf objects given l before after status →
      (a : words.Asked) → AskFor given a → ForRuns (λ u asked. PrintsSchedule u asked before after status) (request objects a)
  schedule_words objects given before after status c a h =
      schedule_by objects before after status (request objects a) (said IsRunReportOf objects given before after status c a h)

  pub complete_words : (objects : List Used) (given : List (List ℕ)) (before after : Told) (status : Status) → WordsCaused IsRunReportOf objects given l before after status →
      (a : words.Asked) → AskFor given a → ForRuns (λ u asked. IsComplete u asked before after status) (request objects a)
  complete_words objects given before after status c a h =
      complete_by objects before after status (request objects a) (said IsRunReportOf objects given before after status c a h)

  pub check_words : (objects : List Used) (given : List (List ℕ)) (before after : Told) (status : Status) → WordsCaused IsRunReportOf objects given l before after status →
      (a : words.Asked) → AskFor given a → ForClaims (λ c. Judges objects c before after status) (request objects a)
  check_words objects given before after status c a h =
      check_by objects before after status (request objects a) (said IsRunReportOf objects given before after status c a h)

  pub checked_words : (objects : List Used) (given : List (List ℕ)) (before after : Told) (status : Status) → WordsCaused IsRunReportOf objects given l before after status →
      (a : words.Asked) → AskFor given a → ForClaims (λ c. IsClaimComplete objects c before after status) (request objects a)
  checked_words objects given before after status c a h =
      checked_by objects before after status (request objects a) (said IsRunReportOf objects given before after status c a h)

  pub demo_words : (objects : List Used) (given : List (List ℕ)) (before after : Told) (status : Status) → WordsCaused IsRunReportOf objects given l before after status →
      (a : words.Asked) → AskFor given a → ForDemos (λ u count way. IsDemoComplete u before after status) (request objects a)
  demo_words objects given before after status c a h =
      demo_by objects before after status a (demo_said objects given before after status c a h) (said IsRunReportOf objects given before after status c a h)

  lint_by : (objects : List Used) (before after : Told) (status : Status) (q : Request) → AskedCaused IsRunReportOf objects l before after status q →
      ForLints (λ project. Lints (known objects) project before after status) q
  lint_by objects before after status (to_report u files) k = tt
  lint_by objects before after status (to_record u r) k = tt
  lint_by objects before after status (to_claim c) k = tt
  lint_by objects before after status (to_demo u count way) k = tt
  lint_by objects before after status (to_meet u s) k = tt
  lint_by objects before after status (to_lint project) k = lints (known objects) project before after status k

  linted_by : (objects : List Used) (before after : Told) (status : Status) (q : Request) → AskedCaused IsRunReportOf objects l before after status q →
      ForLints (λ project. IsLintComplete (known objects) project before after status) q
  linted_by objects before after status (to_report u files) k = tt
  linted_by objects before after status (to_record u r) k = tt
  linted_by objects before after status (to_claim c) k = tt
  linted_by objects before after status (to_demo u count way) k = tt
  linted_by objects before after status (to_meet u s) k = tt
  linted_by objects before after status (to_lint project) k = complete_lint (known objects) project before after status k

  pub lint_words : (objects : List Used) (given : List (List ℕ)) (before after : Told) (status : Status) → WordsCaused IsRunReportOf objects given l before after status →
      (a : words.Asked) → AskFor given a → ForLints (λ project. Lints (known objects) project before after status) (request objects a)
  lint_words objects given before after status c a h =
      lint_by objects before after status (request objects a) (said IsRunReportOf objects given before after status c a h)

  pub linted_words : (objects : List Used) (given : List (List ℕ)) (before after : Told) (status : Status) → WordsCaused IsRunReportOf objects given l before after status →
      (a : words.Asked) → AskFor given a → ForLints (λ project. IsLintComplete (known objects) project before after status) (request objects a)
  linted_words objects given before after status c a h =
      linted_by objects before after status (request objects a) (said IsRunReportOf objects given before after status c a h)

  sites_by : (objects : List Used) (before after : Told) (status : Status) (q : Request) → AskedCaused IsRunReportOf objects l before after status q →
      ForSites (λ u s. ReportsSites u s before after status) q
  sites_by objects before after status (to_report u files) k = tt
  sites_by objects before after status (to_record u r) k = tt
  sites_by objects before after status (to_claim c) k = tt
  sites_by objects before after status (to_demo u count way) k = tt
  sites_by objects before after status (to_meet u s) k = reports_sites u s before after status k
  sites_by objects before after status (to_lint project) k = tt

  met_by : (objects : List Used) (before after : Told) (status : Status) (q : Request) → AskedCaused IsRunReportOf objects l before after status q →
      ForSites (λ u s. AreSitesComplete u s before after status) q
  met_by objects before after status (to_report u files) k = tt
  met_by objects before after status (to_record u r) k = tt
  met_by objects before after status (to_claim c) k = tt
  met_by objects before after status (to_demo u count way) k = tt
  met_by objects before after status (to_meet u s) k = complete_sites u s before after status k
  met_by objects before after status (to_lint project) k = tt

  pub sites_words : (objects : List Used) (given : List (List ℕ)) (before after : Told) (status : Status) → WordsCaused IsRunReportOf objects given l before after status →
      (a : words.Asked) → AskFor given a → ForSites (λ u s. ReportsSites u s before after status) (request objects a)
  sites_words objects given before after status c a h =
      sites_by objects before after status (request objects a) (said IsRunReportOf objects given before after status c a h)

  pub met_words : (objects : List Used) (given : List (List ℕ)) (before after : Told) (status : Status) → WordsCaused IsRunReportOf objects given l before after status →
      (a : words.Asked) → AskFor given a → ForSites (λ u s. AreSitesComplete u s before after status) (request objects a)
  met_words objects given before after status c a h =
      met_by objects before after status (request objects a) (said IsRunReportOf objects given before after status c a h)

-- what follows of what the words ask for, where it was done, where memory lacked, and where they are not read
pub ruleset read_words = (short_words, left, left_by, idle, idle_by, safe_left, safe_by, unread)
