-- The report of a recorded run is that of the platform along the schedule that it prints.
use Rattle.std.proofs.Common.{◌≡◌, ℕ, ◌≤◌, true, Bool, Some, Result, Ok, Err, IfOk, IfErr, List, [], length, sym, refl, ap, ◌∙◌, subst, arith}
use Rattle.mas_board_lists.specs.Lists.{StartsWith}
use Rattle.mas_record_disk.specs.Disk.{DiskState}
use Rattle.mas_mind.specs.Minds.{Kind}
use Rattle.mas_board.specs.Boards.{Noted}
use Rattle.mas_board.specs.Seating.{IsSound}
use Rattle.mas_core.specs.Platform.{Platform, run}
use Rattle.mas_core.specs.Replay.{RanAlong}
use Rattle.mas_core.specs.declared.robin.Done.{Done}
use Rattle.mas_report.specs.declared.options.Options.{Options}
use Rattle.mas_report.specs.Report.{latest, IsReport, report_text}
use Rattle.mas_report.proofs.Numbered.{run_numbers}
use Rattle.mas_report_schedule.specs.Schedule.{printed}
use Rattle.mas_record_run.specs.declared.fault.RecordFault.{RecordFault}
use Rattle.mas_record_run.specs.declared.fault.RecordFault.TheVariants.{Memory}
use Rattle.mas_record_run.specs.Records.{IsKeptOn, IsResumed}
use Rattle.mas_report.specs.declared.output.Output.{Output}
use Rattle.mas_top_record.specs.Recordings.{IsReportOf, IsTold, IsFault, GoesOn}

pub ok_map : {T E : Type 0} (r : Result T E) (P Q : T → Type 0) → ((x : T) → P x → Q x) → IfOk r P → IfOk r Q
ok_map (Ok x) P Q f h = f x h
ok_map (Err e) P Q f h = tt

pub err_map : {T E : Type 0} (r : Result T E) (P Q : E → Type 0) → ((x : E) → P x → Q x) → IfErr r P → IfErr r Q
err_map (Ok x) P Q f h = tt
err_map (Err e) P Q f h = f e h

module _ {V A : Type 0} (k : Kind V) (o : Options) (p : Platform V) where
  prints_own : (done : Done V A) (w : Output) → IsSound p.board → RanAlong k p done.board.schedule done.board done.minds → IsReportOf k o done w
      → printed w.text ≡ done.board.schedule
  prints_own done w sound r h = h.prints (run_numbers k p _ done.board.schedule (let l = sound.limits.few in omega arith) r.ran)

  report_of : (done : Done V A) (w : Output) → IsSound p.board → RanAlong k p done.board.schedule done.board done.minds → IsReportOf k o done w
      → IsReport k latest o p w.spent w.text
  report_of done w sound r h =
      let same = prints_own done w sound r h in
      record {
        done = record { board = done.board.state; minds = done.minds; thoughts = r.thoughts };
        ran = ap (run k p) same ∙ r.ran;
        ended = r.ended;
        spent_is = sym h.spent;
        is = h.text ∙ ap (report_text k.lines latest o done.board.state done.minds) (sym same);
      }

  pub told_report : (answer : Result (Done V A) RecordFault) (w : Output) → IsSound p.board
      → IfOk answer (λ d. RanAlong k p d.board.schedule d.board d.minds) → IsTold k o answer w → IsReport k latest o p w.spent w.text
  told_report (Ok done) w sound r h = report_of done w sound r h
  told_report (Err f) w sound r h = absurd h

  pub told_kept : {D : Type 0} (state : D → DiskState) (name : List ℕ) (s e : DiskState) (answer : Result (Done V A) RecordFault) (w : Output) → IsSound p.board
      → IfOk answer (λ d. RanAlong k p d.board.schedule d.board d.minds) → IfOk answer (λ d. IsKeptOn state name [] d.board.schedule s e) → IsTold k o answer w
      → IsKeptOn state name [] (printed w.text) s e
  told_kept state name s e (Ok done) w sound r kept h = subst (λ (l : List ℕ). IsKeptOn state name [] l s e) (sym (prints_own done w sound r h)) kept
  told_kept state name s e (Err f) w sound r kept h = absurd h

  ran_of : {D : Type 0} (state : D → DiskState) (name : List ℕ) (s e : DiskState) (answer : Result (Done V A) RecordFault)
      → IfOk answer (λ d. IsResumed k p state name s e d.board d.minds) → IfOk answer (λ d. RanAlong k p d.board.schedule d.board d.minds)
  ran_of state name s e (Ok done) h = h.ran.ran
  ran_of state name s e (Err f) h = tt

  pub told_resumed : {D : Type 0} (state : D → DiskState) (name : List ℕ) (s e : DiskState) (answer : Result (Done V A) RecordFault) (w : Output) → IsSound p.board
      → IfOk answer (λ d. IsResumed k p state name s e d.board d.minds) → IsTold k o answer w → IsReport k latest o p w.spent w.text
  told_resumed state name s e answer w sound h t = told_report answer w sound (ran_of state name s e answer h) t

  pub told_goes_on : {D : Type 0} (state : D → DiskState) (name : List ℕ) (s e : DiskState) (answer : Result (Done V A) RecordFault) (w : Output) → IsSound p.board
      → IfOk answer (λ d. IsResumed k p state name s e d.board d.minds) → IsTold k o answer w → GoesOn state name (printed w.text) s e
  told_goes_on state name s e (Ok done) w sound h t =
      let same = sym (prints_own done w sound h.ran.ran t) in
      record {
        turns = h.turns;
        tells = h.tells;
        short = h.short;
        begins = subst (λ (l : List ℕ). StartsWith l h.turns) same h.ran.begins;
        kept = subst (λ (l : List ℕ). IsKeptOn state name h.turns l s e) same h.kept;
      }
  told_goes_on state name s e (Err f) w sound h t = absurd t

-- the fault of a run is the fault of its report, but for want of memory
pub told_fault : {T : Type 0} (Cause : RecordFault → Type 0) (answer : Result T RecordFault) (f : RecordFault) → Cause Memory → IfErr answer Cause → IsFault answer f
    → Cause f
told_fault Cause (Ok done) f m h e = subst Cause (sym e) m
told_fault Cause (Err g) f m h e = subst Cause (sym e) h
