-- What is asked for is refused in one way.
use Rattle.std.proofs.Common.{ℕ, ◌≡◌, inl, inr, List, Some, refl, ap, sym, ◌∙◌, subst}
use Rattle.std.specs.Prelude.{Result, Ok as Yes, Err as No}
use Rattle.asl_term.specs.declared.syntax.Filed.{Filed}
use Rattle.asl_cycle.specs.Agent.{Mindset, agent_kind}
use Rattle.mas_core.specs.Platform.{run, first_here}
use Rattle.mas_core.specs.Replay.{Followed, Stuck, follow}
use Rattle.mas_core.specs.declared.replay.PlayFault.{PlayFault}
use Rattle.mas_core.specs.declared.replay.PlayFault.TheVariants as play
use Rattle.mas_report_schedule.specs.Reading.{IsBadLine}
use Rattle.mas_report_schedule.specs.declared.reading.LineFault.TheVariants as line
use Rattle.mas_report_schedule.proofs.Answered.{one_answer}
use Rattle.mas_top_files.specs.declared.sources.Source.{Source}
use Rattle.mas_top_status.specs.declared.status.Status.{Status}
use Rattle.mas_top_files.specs.Files.{IsRefusal}
use Rattle.mas_top_files.specs.Known.{known}
use Rattle.mas_top_files.specs.Laws.{Surely}
use Rattle.mas_top_files.specs.Sources.{HasSource, FirstRefused, AreRefused}
use Rattle.mas_top_files.proofs.Unless.{unless}
use Rattle.mas_top_files.proofs.Single.{some_same, one_source, not_refused}
use Rattle.mas_top_files.proofs.Refusals.{OneFault, file_one, calm, one_refusal as one_of_project}
use Rattle.mas_top_opening.specs.Opening.{Setup, opening}
use Rattle.mas_top.specs.Runs.{Wanted, IsStopped, schedules, FileRefused, ScheduleRefused}
use Rattle.mas_top.specs.declared.playing.ScheduleFault.TheVariants as fault
use Rattle.mas_top.specs.Laws.{OneRefusal}
use Rattle.mas_report.proofs.Judged.{came_stuck, follows}
use Rattle.mas_top.proofs.Followed.{names_fault, file_same, one_schedule}

-- ---- the bytes of a schedule are refused in one way

abbrev unread : ℕ → Result (List ℕ) ℕ
unread n = No n

unread_same : (n m : ℕ) → unread n ≡ unread m → n ≡ m
unread_same n m e = cc

abbrev stuck : ℕ → Followed Mindset
stuck n = Stuck n

stuck_same : (n m : ℕ) → stuck n ≡ stuck m → n ≡ m
stuck_same n m e = cc

module _ (u : Setup) (source : Source) where
  abbrev IsIllegal : List ℕ → ℕ → Type 0
  IsIllegal bytes place = IsStopped u source bytes (play.Illegal place)

  abbrev IsUnended : List ℕ → ℕ → Type 0
  IsUnended bytes agent = IsStopped u source bytes (play.Unended agent)

  stuck_one : (bytes : List ℕ) (n m : ℕ) → IsIllegal bytes n → IsIllegal bytes m → n ≡ m
  stuck_one bytes n m h g =
      stuck_same n m
      (sym h.stopped ∙ ap (follow agent_kind (opening u source) 1) (one_schedule bytes h.names g.names h.is g.is) ∙ g.stopped)

  -- where all numbers have their turn there is none that has not
  stuck_stays : (bytes : List ℕ) (place agent : ℕ) → IsIllegal bytes place → IsUnended bytes agent → ⊥
  stuck_stays bytes place agent h g =
      came_stuck g.stopped.done place
      (sym (follows agent_kind (opening u source) 1 g.names g.stopped.done g.stopped.ran)
      ∙ ap (follow agent_kind (opening u source) 1) (one_schedule bytes g.names h.names g.is h.is) ∙ h.stopped)

  stays_one : (bytes : List ℕ) (a b : ℕ) → IsUnended bytes a → IsUnended bytes b → a ≡ b
  stays_one bytes a b h g =
      let e = one_schedule bytes h.names g.names h.is g.is in
      let d = some_same (sym h.stopped.ran ∙ ap (run agent_kind (opening u source)) e ∙ g.stopped.ran) in
      some_same (sym h.stopped.first ∙ ap (λ p. first_here 1 p.board.seats) d ∙ g.stopped.first)

  no_line : (bytes : List ℕ) (n : ℕ) (why : PlayFault) → IsBadLine bytes n → IsStopped u source bytes why → ⊥
  no_line bytes n why h g = names_fault g.names n (one_answer bytes (Yes g.names) (No n) g.is h)

  schedules_one : OneFault (schedules u source)
  schedules_one name bytes (fault.Line line.Memory) g h k n m = absurd (n refl)
  schedules_one name bytes (fault.Play play.Memory) g h k n m = absurd (n refl)
  schedules_one name bytes (fault.Line (line.BadLine a)) (fault.Line line.Memory) h k n m = absurd (m refl)
  schedules_one name bytes (fault.Line (line.BadLine a)) (fault.Line (line.BadLine b)) h k n m =
      ap (λ x. fault.Line (line.BadLine x)) (unread_same a b (one_answer bytes (No a) (No b) h k))
  schedules_one name bytes (fault.Line (line.BadLine a)) (fault.Play play.Memory) h k n m = absurd (m refl)
  schedules_one name bytes (fault.Line (line.BadLine a)) (fault.Play (play.Illegal b)) h k n m = absurd (no_line bytes a (play.Illegal b) h k)
  schedules_one name bytes (fault.Line (line.BadLine a)) (fault.Play (play.Unended b)) h k n m = absurd (no_line bytes a (play.Unended b) h k)
  schedules_one name bytes (fault.Play (play.Illegal a)) (fault.Line line.Memory) h k n m = absurd (m refl)
  schedules_one name bytes (fault.Play (play.Illegal a)) (fault.Line (line.BadLine b)) h k n m = absurd (no_line bytes b (play.Illegal a) k h)
  schedules_one name bytes (fault.Play (play.Illegal a)) (fault.Play play.Memory) h k n m = absurd (m refl)
  schedules_one name bytes (fault.Play (play.Illegal a)) (fault.Play (play.Illegal b)) h k n m = ap (λ x. fault.Play (play.Illegal x)) (stuck_one bytes a b h k)
  schedules_one name bytes (fault.Play (play.Illegal a)) (fault.Play (play.Unended b)) h k n m = absurd (stuck_stays bytes a b h k)
  schedules_one name bytes (fault.Play (play.Unended a)) (fault.Line line.Memory) h k n m = absurd (m refl)
  schedules_one name bytes (fault.Play (play.Unended a)) (fault.Line (line.BadLine b)) h k n m = absurd (no_line bytes b (play.Unended a) k h)
  schedules_one name bytes (fault.Play (play.Unended a)) (fault.Play play.Memory) h k n m = absurd (m refl)
  schedules_one name bytes (fault.Play (play.Unended a)) (fault.Play (play.Illegal b)) h k n m = absurd (stuck_stays bytes b a k h)
  schedules_one name bytes (fault.Play (play.Unended a)) (fault.Play (play.Unended b)) h k n m = ap (λ x. fault.Play (play.Unended x)) (stays_one bytes a b h k)

-- ---- so is what is asked for

module _ (u : Setup) (files : List Filed) (wanted : Wanted) where
  abbrev IsFirst : ℕ → ℕ → Status → Type 0
  IsFirst = FirstRefused (known u.objects) u.options.cycles (Some files) wanted.project

  abbrev Is : ℕ → ℕ → Status → Type 0
  Is = FileRefused u (Some files) wanted

  -- so is the project
  of_project : (s : Status) (x : Surely Is s) → IsFirst x.before x.after s → Surely (AreRefused (known u.objects) u.options.cycles (Some files) wanted.project) s
  of_project s x h = record { before = x.before; after = x.after; no_fault = x.no_fault; no_lack = x.no_lack; is = unless (IsFirst x.before x.after) s h }

  -- it is not where its source is read
  not_read : (s : Status) (x : Surely Is s) → IsFirst x.before x.after s → (source : Source) →
      HasSource (known u.objects) u.options.cycles (Some files) wanted.project source → ⊥
  not_read s x h source r =
      x.no_lack (not_refused (known u.objects) u.options.cycles files wanted.project source x.before x.after s r x.no_fault (unless (IsFirst x.before x.after) s h))

  schedule_one : (s t : Status) (x : Surely Is s) (y : Surely Is t) → ScheduleRefused u (Some files) wanted x.before x.after s →
      ScheduleRefused u (Some files) wanted y.before y.after t → s ≡ t
  schedule_one s t x y h g =
      let e = one_source (known u.objects) u.options.cycles files wanted.project g.source h.source g.read h.read in
      let n = file_same g.name h.name (sym g.named ∙ h.named) in
      let w = subst (λ z. IsRefusal (schedules u z) g.name (Some files) y.before y.after t) e g.why in
      file_one files x.before x.after y.before y.after s t (calm Is s x) (calm Is t y) (schedules u h.source) (schedules_one u h.source) h.name h.why
      (subst (λ z. IsRefusal (schedules u h.source) z (Some files) y.before y.after t) n w)

  refusal_one : (s t : Status) (x : Surely Is s) (y : Surely Is t) → Is x.before x.after s → Is y.before y.after t → s ≡ t
  refusal_one s t x y (inl h) (inl g) =
      one_of_project (known u.objects) u.options.cycles files wanted.project s t (of_project s x h) (of_project t y g)
  refusal_one s t x y (inl h) (inr g) = absurd (not_read s x h g.source g.read)
  refusal_one s t x y (inr h) (inl g) = absurd (not_read t y g h.source h.read)
  refusal_one s t x y (inr h) (inr g) = schedule_one s t x y h g

pub one_refusal : OneRefusal
one_refusal u files wanted a b h g = refusal_one u files wanted a b h g h.is g.is
