-- The report of a whole run.
use Rattle.std.proofs.Common.{ℕ, ◌≡◌, ◌≤◌, ◌==◌, Bool, true, false, if◌then◌else◌, List, length, Some, refl, ap, sym, ◌∙◌, subst, arith}
use Rattle.std.proofs.lemmas.Bool.{eqb-true}
use Rattle.mas_mind.specs.Minds.{Kind}
use Rattle.mas_board.specs.Boards as boards
use Rattle.mas_board.specs.Seating.{IsSound}
use Rattle.mas_core.specs.Platform.{Platform, run, ended}
use Rattle.mas_core.specs.Replay.{RanAlong}
use Rattle.mas_core.specs.Robin.{turns, RanOut}
use Rattle.mas_report_schedule.specs.Schedule.{printed, AllFromOne}
use Rattle.mas_report.specs.declared.options.Options.{Options}
use Rattle.mas_report.specs.Report.{latest, IsReport, report_text, is_spent}
use Rattle.mas_report.proofs.Numbered.{run_numbers}
use Rattle.mas_top.specs.Headline.{IsRunReport}
use Rattle.mas_top.specs.Playing.{IsReplayed}
use Rattle.mas_top.specs.Ways.{alone, shared, way_of, IsScheduled}

few : (s : boards.State) → IsSound s → length s.seats ≤ 65535
few s h = let l = h.limits.few in omega arith

-- the numbers of a run are those of agents
pub agents_of_run : {V : Type 0} (k : Kind V) (p done : Platform V) (schedule : List ℕ) → IsSound p.board → run k p schedule ≡ Some done → AllFromOne 65535 schedule
agents_of_run {V} k p done schedule sound r = run_numbers k p done schedule (few p.board sound) r

-- its text is its report
reports : {V : Type 0} (k : Kind V) (o : Options) (p done : Platform V) (schedule : List ℕ) (spent : Bool) (w : List ℕ) → run k p schedule ≡ Some done →
    ended done.board.seats ≡ true → spent ≡ is_spent done.board.seats → w ≡ report_text k.lines latest o done.board done.minds schedule → printed w ≡ schedule →
    IsReport k latest o p spent w
reports {V} k o p done schedule spent w r e b t same = record {
  done = done;
  ran = ap (run k p) same ∙ r;
  ended = e;
  spent_is = sym b;
  is = t ∙ ap (report_text k.lines latest o done.board done.minds) (sym same);
}

-- ---- the order of the turns

order : {V : Type 0} (k : Kind V) (p : Platform V) (names : List ℕ) (b : Bool) → (b ≡ true → names ≡ turns k p) → IsScheduled k p (if b then alone else shared) names
order k p names true h = h refl
order k p names false h = tt

-- where one worker makes them they are those of the round robin
pub by_workers : {V : Type 0} (k : Kind V) (p : Platform V) (workers : ℕ) (names : List ℕ) → (workers ≡ 1 → names ≡ turns k p) →
    IsScheduled k p (way_of workers) names
by_workers k p workers names h = order k p names (workers == 1) (λ e. h (eqb-true workers 1 e))

-- ---- reports

-- that of a run by so many workers
pub pool_report : {V : Type 0} (k : Kind V) (o : Options) (p : Platform V) (workers : ℕ) (board : boards.Noted) (minds : List V) (spent : Bool) (w : List ℕ) →
    IsSound p.board → RanAlong k p board.schedule board minds → (workers ≡ 1 → RanOut k p board minds) → spent ≡ is_spent board.state.seats →
    w ≡ report_text k.lines latest o board.state minds board.schedule → (AllFromOne 65535 board.schedule → printed w ≡ board.schedule) →
    IsRunReport k o p (way_of workers) spent w
pool_report {V} k o p workers board minds spent w sound r robin b t prints =
    let done : Platform V = record { board = board.state; minds = minds; thoughts = r.thoughts } in
    let same = prints (agents_of_run k p done board.schedule sound r.ran) in
    record {
      report = reports k o p done board.schedule spent w r.ran r.ended b t same;
      scheduled = by_workers k p workers (printed w) (λ e. same ∙ (robin e).schedule);
    }

-- that of a run along given numbers
pub replay_report : {V : Type 0} (k : Kind V) (o : Options) (p : Platform V) (names : List ℕ) (board : boards.Noted) (minds : List V) (spent : Bool) (w : List ℕ) →
    IsSound p.board → RanAlong k p names board minds → spent ≡ is_spent board.state.seats → w ≡ report_text k.lines latest o board.state minds board.schedule →
    (AllFromOne 65535 board.schedule → printed w ≡ board.schedule) → IsReplayed k o p names spent w
replay_report {V} k o p names board minds spent w sound r b t prints =
    let done : Platform V = record { board = board.state; minds = minds; thoughts = r.thoughts } in
    let u = t ∙ ap (report_text k.lines latest o board.state minds) r.schedule in
    let same = prints (subst (AllFromOne 65535) (sym r.schedule) (agents_of_run k p done names sound r.ran)) ∙ r.schedule in
    record {
      leads = record { done = done; ran = r.ran; ended = r.ended };
      report = record { report = reports k o p done names spent w r.ran r.ended b u same; scheduled = same };
    }
