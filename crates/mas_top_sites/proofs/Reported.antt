-- Each report of two sites is that of a run.
use Rattle.std.proofs.Common.{ℕ, List, refl, ap, sym, ◌∙◌}
use Rattle.mas_mind.specs.Minds.{Kind}
use Rattle.mas_core.specs.Platform.{Platform, run}
use Rattle.mas_report.specs.declared.options.Options.{Options}
use Rattle.mas_report.specs.Report.{latest, report_text, is_spent, IsAnyReport}
use Rattle.mas_sites_stand.specs.declared.seated.Seated.{Seated}
use Rattle.mas_sites_stand.specs.Seats.{seated}
use Rattle.mas_sites_scripts.specs.Scripts.{Script as ScriptEntries}
use Rattle.mas_sites_scripts.specs.Sites.{Before, opening_with, RanWhole}
use Rattle.mas_sites.specs.Results.{Ended, closed}
use Rattle.mas_top_sites.specs.Laws.{SitesHaveReports}
use Rattle.mas_top_sites.specs.Texts.{IsSiteReport, between_text}

module _ {V : Type 0} (k : Kind V) (o : Options) where
  site_report : (first : Before V) (site : Ended V) (scripts : List ScriptEntries) (w : List ℕ) → RanWhole k first (closed site scripts) → IsSiteReport k o site w →
      IsAnyReport (seated k) latest o (opening_with first.board first.minds scripts) w
  site_report first site scripts w r t =
      let p = opening_with first.board first.minds scripts in
      let done : Platform (Seated V) = record { board = site.board.state; minds = site.minds; thoughts = r.ran.thoughts } in
      record {
        spent = is_spent site.board.state.seats;
        report = record {
          done = done;
          ran = ap (run (seated k) p) t.prints ∙ r.ran.ran;
          ended = r.ran.ended;
          spent_is = refl;
          is = t.is ∙ ap (report_text (seated k).lines latest o site.board.state site.minds) (sym t.prints);
        };
      }

pub sites_have_reports : {V : Type 0} (k : Kind V) → SitesHaveReports k
sites_have_reports k o first second workers spent w h = record {
  one = h.told.report_one;
  two = h.told.report_two;
  between = between_text h.one.board.state.names h.left;
  text = h.told.text;
  of_one = h.run.of_one;
  of_two = h.run.of_two;
  one_is = site_report k o first h.one h.run.of_one h.told.report_one h.run.one_ran h.told.one_is;
  two_is = site_report k o second h.two h.run.of_two h.told.report_two h.run.two_ran h.told.two_is;
}
