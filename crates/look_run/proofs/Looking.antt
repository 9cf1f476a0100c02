-- A look at a run, and whether bytes are its report.
use Rattle.std.proofs.Common.{ℕ, ◌≡◌, List, [], ◌++◌, length, take, drop, take-append-drop, Option, None, Some, refl, ap, sym, subst, ◌∙◌}
use Rattle.std.specs.Prelude.{Result, Ok, Err, IfOk, MatchOption}
use Rattle.mas_mind.specs.Minds.{Kind}
use Rattle.mas_core.specs.Platform.{Platform, run, and_run}
use Rattle.mas_core.specs.Fits.{Played}
use Rattle.mas_core.proofs.Turns.{run-append}
use Rattle.mas_report.specs.declared.options.Options.{Options}
use Rattle.mas_report.specs.Report.{report_text, is_spent, IsAnyReport}
use Rattle.mas_report_schedule.specs.Schedule.{printed}
use Rattle.look_run.specs.Looks.{IsView}
use Rattle.look_run.specs.Steps.{HasGone, LeadsToReport}
use Rattle.look_run.specs.Views.{asked, view}

none_some : {A : Type 0} {x : A} → None ≡ Some x → ⊥
none_some e = cc

module _ {V : Type 0} (k : Kind V) (version : ℕ) (o : Options) (bytes names front rest : List ℕ) (n : printed bytes ≡ names) (parts_are : names ≡ front ++ rest) where
  in_parts : (p : Platform V) → run k p (printed bytes) ≡ and_run (λ q. run k q rest) (run k p front)
  in_parts p = ap (run k p) (n ∙ parts_are) ∙ run-append k p front rest

  -- some number of the first ones has no turn
  pub not_begun : (p : Platform V) → run k p front ≡ None → IsAnyReport k version o p bytes → ⊥
  not_begun p e h = none_some (sym (ap (and_run (λ q. run k q rest)) e) ∙ sym (in_parts p) ∙ h.report.ran)

  module _ (first here : Played V) (opens : first.schedule ≡ []) (g : HasGone k first front here) where
    onward : run k first.platform (printed bytes) ≡ run k here.platform rest
    onward = in_parts first.platform ∙ ap (and_run (λ q. run k q rest)) g.ran

    so_far : here.schedule ≡ front
    so_far = g.schedule ∙ ap (λ s. s ++ front) opens

    all_of : here.schedule ++ rest ≡ printed bytes
    all_of = ap (λ s. s ++ rest) so_far ∙ sym parts_are ∙ sym n

    pub leads_on : IsAnyReport k version o first.platform bytes → LeadsToReport k version o bytes here rest
    leads_on h =
        let f = h.report in
        record {
          after = record { platform = f.done; schedule = here.schedule ++ rest };
          gone = record { ran = sym onward ∙ f.ran; schedule = refl };
          reported = record {
            ended = f.ended;
            report = ap (report_text k.lines version o f.done.board f.done.minds) all_of ∙ sym f.is;
          };
        }

    pub not_own : (LeadsToReport k version o bytes here rest → ⊥) → IsAnyReport k version o first.platform bytes → ⊥
    not_own away h = away (leads_on h)

    pub own : LeadsToReport k version o bytes here rest → IsAnyReport k version o first.platform bytes
    own h =
        let d = h.after.platform in
        let e : h.after.schedule ≡ printed bytes = h.gone.schedule ∙ all_of in
        record {
          spent = is_spent d.board.seats;
          report = record {
            done = d;
            ran = onward ∙ h.gone.ran;
            ended = h.reported.ended;
            spent_is = refl;
            is = sym h.reported.report ∙ ap (report_text k.lines version o d.board d.minds) e;
          };
        }

-- ---- the first t numbers, and the others

module _ {V : Type 0} (k : Kind V) (version : ℕ) (o : Options) (bytes turns front rest : List ℕ) (t : ℕ) (f : front ≡ take t turns) (r : rest ≡ drop t turns) where
  halves : turns ≡ front ++ rest
  halves = sym (take-append-drop t turns) ∙ ap (λ l. l ++ drop t turns) (sym f) ∙ ap (λ l. front ++ l) (sym r)

  pub looks_nowhere : (p : Platform V) (first : Played V) → first.platform ≡ p → printed bytes ≡ turns → run k first.platform front ≡ None → IsAnyReport k version o p bytes → ⊥
  looks_nowhere p first e n g = not_begun k version o bytes turns front rest n halves p (ap (λ q. run k q front) (sym e) ∙ g)

  module _ (parts : List (List ℕ) → V → List ℕ) (name : List ℕ) (a : ℕ) where
    -- what is seen of a run from p
    abbrev pub Looked : Platform V → Option (List ℕ) → Type 0
    Looked p seen = MatchOption seen (IsAnyReport k version o p bytes → ⊥) (λ w. IsAnyReport k version o p bytes × IsView k parts p turns name a t w)

    -- what is seen of it where the first numbers have led
    abbrev pub LookedHere : Played V → ℕ → Option (List ℕ) → Type 0
    LookedHere here all seen =
        MatchOption seen (LeadsToReport k version o bytes here rest → ⊥)
        (λ w. LeadsToReport k version o bytes here rest × (w ≡ view k parts here.platform (asked name a t all)))

    looked_by : (first here : Played V) (all : ℕ) → all ≡ length turns → printed bytes ≡ turns → first.schedule ≡ [] → HasGone k first front here → (seen : Option (List ℕ)) →
        LookedHere here all seen → Looked first.platform seen
    looked_by first here all l n s g None h = not_own k version o bytes turns front rest n halves first here s g h
    looked_by first here all l n s g (Some w) h = (
      own k version o bytes turns front rest n halves first here s g h.0,
      record {
        there = here.platform;
        ran = ap (run k first.platform) (sym f) ∙ g.ran;
        is = h.1 ∙ ap (λ x. view k parts here.platform (asked name a t x)) l;
      },
    )

    looked_first : {E : Type 0} (first here : Played V) (all : ℕ) → all ≡ length turns → printed bytes ≡ turns → first.schedule ≡ [] → HasGone k first front here →
        (x : Result (Option (List ℕ)) E) → IfOk x (LookedHere here all) → IfOk x (Looked first.platform)
    looked_first first here all l n s g (Ok seen) h = looked_by first here all l n s g seen h
    looked_first first here all l n s g (Err why) h = tt

    pub looked : {E : Type 0} (p : Platform V) (first here : Played V) (all : ℕ) → first.platform ≡ p → all ≡ length turns → printed bytes ≡ turns → first.schedule ≡ [] →
        HasGone k first front here → (x : Result (Option (List ℕ)) E) → IfOk x (LookedHere here all) → IfOk x (Looked p)
    looked p first here all e l n s g x h = subst (λ q. IfOk x (Looked q)) e (looked_first first here all l n s g x h)
