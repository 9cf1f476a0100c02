-- A run in two parts, of which the second leads to a report.
use Rattle.std.proofs.Common.{Bool, ℕ, ◌≡◌, List, [], ◌++◌, take, drop, take-append-drop, sym, ap, subst, ◌∙◌}
use Rattle.mas_mind.specs.Minds.{Kind}
use Rattle.mas_core.specs.Platform.{Platform}
use Rattle.mas_core.specs.Fits.{Played}
use Rattle.mas_report.specs.declared.options.Options.{Options}
use Rattle.mas_report.specs.Report.{IsAnyReport}
use Rattle.mas_report_schedule.specs.Schedule.{printed}
use Rattle.look_run.specs.Steps.{HasGone, LeadsToReport}
use Rattle.look_run.proofs.Looking.{not_own, own}
use Rattle.look_run.specs.Before.{AreBefore}

module _ {V : Type 0} (k : Kind V) (version : ℕ) (o : Options) (bytes turns front rest : List ℕ) (t : ℕ) (f : front ≡ take t turns) (r : rest ≡ drop t turns)
    (n : printed bytes ≡ turns) (p : Platform V) (first here : Played V) (e : first.platform ≡ p) (opens : first.schedule ≡ [])
    (g : HasGone k first front here) where
  halves : turns ≡ front ++ rest
  halves = sym (take-append-drop t turns) ∙ ap (λ l. l ++ drop t turns) (sym f) ∙ ap (λ l. front ++ l) (sym r)

  pub is_own : LeadsToReport k version o bytes here rest → IsAnyReport k version o p bytes
  is_own h = subst (λ q. IsAnyReport k version o q bytes) e (own k version o bytes turns front rest n halves first here opens g h)

  pub is_foreign : (LeadsToReport k version o bytes here rest → ⊥) → IsAnyReport k version o p bytes → ⊥
  is_foreign away h = not_own k version o bytes turns front rest n halves first here opens g away (subst (λ q. IsAnyReport k version o q bytes) (sym e) h)

  pub are_theirs : (texts : V → List (List ℕ)) (marks : List Bool) (cs : List (List (List ℕ))) → AreBefore k texts first.platform front marks cs →
      AreBefore k texts p (take t turns) marks cs
  are_theirs texts marks cs h =
      subst (λ q. AreBefore k texts q (take t turns) marks cs) e (subst (λ names. AreBefore k texts first.platform names marks cs) f h)
