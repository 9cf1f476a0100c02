-- The text of two sites.
use Rattle.std.proofs.Common.{ℕ, ◌≡◌, ◌≤◌, Bool, List, [], ◌++◌, length, ap, ◌∙◌, codes, append_assoc, arith}
use Rattle.mas_mind.specs.declared.mind.Message.{Message}
use Rattle.mas_mind.specs.Minds.{Kind}
use Rattle.mas_board.specs.Boards.{State}
use Rattle.mas_board.specs.Seating.{IsSound}
use Rattle.mas_core.specs.Platform.{Platform}
use Rattle.mas_report_schedule.specs.Schedule.{AllFromOne, printed}
use Rattle.mas_report.specs.declared.options.Options.{Options}
use Rattle.mas_report.specs.Report.{latest, report_text}
use Rattle.mas_report.proofs.Numbered.{run_numbers}
use Rattle.mas_sites_stand.specs.declared.seated.Seated.{Seated}
use Rattle.mas_sites_stand.specs.Seats.{seated}
use Rattle.mas_sites_scripts.specs.Scripts.{Script as ScriptEntries}
use Rattle.mas_sites_scripts.specs.Sites.{Before, opening_with, RanWhole}
use Rattle.mas_sites.specs.Results.{Ended, closed}
use Rattle.mas_top_sites.specs.Texts.{PutsSite, IsTold, between_text, are_spent}

module _ {V : Type 0} (k : Kind V) (o : Options) where
  -- a line and a report
  pub put_report : (site : Ended V) (line old middle new report : List ℕ) → middle ≡ old ++ line →
      report ≡ report_text (seated k).lines latest o site.board.state site.minds site.board.schedule → printed report ≡ site.board.schedule →
      new ≡ middle ++ report → PutsSite k o site line old new
  put_report site line old middle new report m r p n = record {
    report = report;
    is = record { is = r; prints = p };
    put = n ∙ ap (λ t. t ++ report) m ∙ append_assoc old line report;
  }

  together : (one two l r between : List ℕ) → (((l ++ one) ++ (r ++ two)) ++ between) ≡ l ++ (one ++ (r ++ (two ++ between)))
  together one two l r between =
      append_assoc (l ++ one) (r ++ two) between
      ∙ append_assoc l one ((r ++ two) ++ between)
      ∙ ap (λ t. l ++ (one ++ t)) (append_assoc r two between)

  -- both, and what is left between
  pub told : (one two : Ended V) (left : List Message) (spent : Bool) (t0 t1 t2 w : List ℕ) → t0 ≡ [] → PutsSite k o one (codes "site 1\n") t0 t1 →
      PutsSite k o two (codes "site 2\n") t1 t2 → w ≡ t2 ++ between_text one.board.state.names left → spent ≡ are_spent one two → IsTold k o one two left spent w
  told one two left spent t0 t1 t2 w b p q e s =
      let l = codes "site 1\n" in
      let r = codes "site 2\n" in
      let between = between_text one.board.state.names left in
      let first : t1 ≡ l ++ p.report = p.put ∙ ap (λ t. t ++ (l ++ p.report)) b in
      let second : t2 ≡ (l ++ p.report) ++ (r ++ q.report) = q.put ∙ ap (λ t. t ++ (r ++ q.report)) first in
      record {
        report_one = p.report;
        report_two = q.report;
        one_is = p.is;
        two_is = q.is;
        text = e ∙ ap (λ t. t ++ between) second ∙ together p.report q.report l r between;
        spent_is = s;
      }

-- ---- the numbers of a run are those of agents

few : (s : State) → IsSound s → length s.seats ≤ 65535
few s h = let l = h.limits.few in omega arith

pub numbers : {V : Type 0} (k : Kind V) (first : Before V) (site : Ended V) (scripts : List ScriptEntries) → IsSound first.board → RanWhole k first (closed site scripts) →
    AllFromOne 65535 site.board.schedule
numbers {V} k first site scripts sound r =
    let done : Platform (Seated V) = record { board = site.board.state; minds = site.minds; thoughts = r.ran.thoughts } in
    run_numbers (seated k) (opening_with first.board first.minds scripts) done site.board.schedule (few first.board sound) r.ran.ran
