-- A schedule is read in one way, and one that leads to the end is not refused.
use Rattle.std.proofs.Common.{ℕ, ◌≡◌, List, None, Some, refl, ap, sym, ◌∙◌}
use Rattle.std.specs.Prelude.{Result, Ok as Yes, Err as No}
use Rattle.asl_cycle.specs.Agent.{agent_kind}
use Rattle.mas_core.specs.Platform.{run, first_here}
use Rattle.mas_core.specs.Replay.{follow}
use Rattle.mas_core.specs.declared.replay.PlayFault.TheVariants as play
use Rattle.mas_report.proofs.Judged.{came_stuck, follows, none_here}
use Rattle.mas_report_schedule.specs.Reading.{IsSchedule}
use Rattle.mas_report_schedule.specs.declared.reading.LineFault.TheVariants as line
use Rattle.mas_report_schedule.proofs.Answered.{one_answer}
use Rattle.mas_top_files.specs.declared.sources.Source.{Source}
use Rattle.mas_top_files.proofs.Single.{Accepted}
use Rattle.mas_top_opening.specs.Opening.{Setup, opening}
use Rattle.mas_top.specs.Runs.{by_file, IsFollowed, IsStopped, schedules}
use Rattle.mas_top.specs.declared.playing.ScheduleFault.TheVariants as fault

abbrev read : List ℕ → Result (List ℕ) ℕ
read names = Yes names

names_same : (a b : List ℕ) → read a ≡ read b → a ≡ b
names_same a b e = cc

pub names_fault : (names : List ℕ) (n : ℕ) → Yes names ≡ No n → ⊥
names_fault names n e = cc

pub file_same : (n m : List ℕ) → by_file n ≡ by_file m → n ≡ m
file_same n m e = cc

pub one_schedule : (bytes a b : List ℕ) → IsSchedule bytes a → IsSchedule bytes b → a ≡ b
one_schedule bytes a b h g = names_same a b (one_answer bytes (Yes a) (Yes b) h g)

some_same : {A : Type 0} {x y : A} → Some x ≡ Some y → x ≡ y
some_same e = cc

none_some : {A : Type 0} {x : A} → None ≡ Some x → ⊥
none_some e = cc

module _ (u : Setup) (source : Source) (bytes names : List ℕ) (h : IsFollowed u source bytes names) where
  not_stuck : (place : ℕ) → IsStopped u source bytes (play.Illegal place) → ⊥
  not_stuck place r =
      let e = one_schedule bytes r.names names r.is h.is in
      came_stuck h.leads.done place
      (sym (follows agent_kind (opening u source) 1 names h.leads.done h.leads.ran) ∙ ap (follow agent_kind (opening u source) 1) (sym e) ∙ r.stopped)

  not_unended : (agent : ℕ) → IsStopped u source bytes (play.Unended agent) → ⊥
  not_unended agent r =
      let e = one_schedule bytes r.names names r.is h.is in
      let d = some_same (sym h.leads.ran ∙ ap (run agent_kind (opening u source)) (sym e) ∙ r.stopped.ran) in
      none_some (sym (none_here 1 h.leads.done.board.seats h.leads.ended) ∙ ap (λ p. first_here 1 p.board.seats) d ∙ r.stopped.first)

  pub followed_accepted : Accepted (schedules u source) bytes
  followed_accepted name (fault.Line line.Memory) r = refl
  followed_accepted name (fault.Line (line.BadLine n)) r = absurd (names_fault names n (one_answer bytes (Yes names) (No n) h.is r))
  followed_accepted name (fault.Play play.Memory) r = refl
  followed_accepted name (fault.Play (play.Illegal place)) r = absurd (not_stuck place r)
  followed_accepted name (fault.Play (play.Unended agent)) r = absurd (not_unended agent r)
