-- Whether bytes are the report of the run along the numbers in their last line.
use Rattle.std.proofs.Common.{ℕ, ◌≡◌, ◌+◌, ◌≤◌, Bool, true, false, ◌&&◌, if◌then◌else◌, List, [], ◌∷◌, length, Option, None, Some, refl, ap, sym, subst, ◌∙◌, arith}
use Rattle.std.specs.Prelude.{MatchOption, Result, Ok, Err, IfOk}
use Rattle.mas_mind.specs.Minds.{Kind}
use Rattle.mas_board.specs.Boards.{State, Noted, is_gone}
use Rattle.mas_board.specs.Seating.{IsSound}
use Rattle.mas_board.specs.declared.seats.AgentPlace.{AgentPlace}
use Rattle.mas_core.specs.Platform.{Platform, turn, and_run, run, ended, first_here, opening_platform}
use Rattle.mas_core.specs.Replay.{Stuck, Came, follow_on, follow, RanAlong, Faulted}
use Rattle.mas_core.specs.declared.replay.PlayFault.TheVariants as play
use Rattle.mas_report_schedule.specs.Schedule.{printed, AllFromOne}
use Rattle.mas_report.specs.declared.options.Options.{Options}
use Rattle.mas_report.specs.Report.{latest, report_text, is_spent, IsAnyReport, IsOwnRun, IsRenewal}
use Rattle.mas_report.proofs.Numbered.{run_numbers}

some_same : {A : Type 0} {x y : A} → Some x ≡ Some y → x ≡ y
some_same e = cc

none_some : {A : Type 0} {x : A} → None ≡ Some x → ⊥
none_some e = cc

pub came_stuck : {V : Type 0} (p : Platform V) (n : ℕ) → Came p ≡ Stuck n → ⊥
came_stuck p n e = cc

-- a run that comes to its end is stuck nowhere
follows_on : {V : Type 0} (k : Kind V) (q : Option (Platform V)) (n : ℕ) (names : List ℕ) (done : Platform V) →
    ((r : Platform V) → run k r names ≡ Some done → follow k r (n + 1) names ≡ Came done) → and_run (λ r. run k r names) q ≡ Some done →
    follow_on (λ r. follow k r (n + 1) names) n q ≡ Came done
follows_on k None n names done f e = absurd (none_some e)
follows_on k (Some r) n names done f e = f r e

pub follows : {V : Type 0} (k : Kind V) (p : Platform V) (n : ℕ) (names : List ℕ) (done : Platform V) → run k p names ≡ Some done → follow k p n names ≡ Came done
follows k p n [] done e = ap Came (some_same e)
follows k p n (a ∷ names) done e = follows_on k (turn k p a) n names done (λ r. follows k r (n + 1) names done) e

here_by : (b e : Bool) (a : ℕ) (f : Option ℕ) → (b && e) ≡ true → (e ≡ true → f ≡ None) → (if b then f else Some a) ≡ None
here_by true e a f h k = k h
here_by false e a f h k = absurd cc

-- where every agent has left there is none that has not
pub none_here : (a : ℕ) (seats : List AgentPlace) → ended seats ≡ true → first_here a seats ≡ None
none_here a [] e = refl
none_here a (seat ∷ seats) e = here_by (is_gone seat.phase) (ended seats) a (first_here (a + 1) seats) e (none_here (a + 1) seats)

module _ {V : Type 0} (k : Kind V) (version : ℕ) (o : Options) (p : Platform V) (names bytes : List ℕ) (n : printed bytes ≡ names) where
  -- the run along the names is that of the bytes, where its report is these
  pub own_is : (board : Noted) (minds : List V) → IsOwnRun k version o p names bytes board minds → IsAnyReport k version o p bytes
  own_is board minds r =
      let a = r.ran in
      record {
        spent = is_spent board.state.seats;
        report = record {
          done = record { board = board.state; minds = minds; thoughts = a.thoughts };
          ran = ap (run k p) n ∙ a.ran;
          ended = a.ended;
          spent_is = refl;
          is = sym r.is ∙ ap (report_text k.lines version o board.state minds) (a.schedule ∙ sym n);
        };
      }

  again : (board : Noted) (minds : List V) → RanAlong k p names board minds → IsAnyReport k version o p bytes →
      report_text k.lines version o board.state minds board.schedule ≡ bytes
  again board minds r h =
      let f = h.report in
      let same = some_same (sym r.ran ∙ ap (run k p) (sym n) ∙ f.ran) in
      ap (report_text k.lines version o board.state minds) (r.schedule ∙ sym n)
      ∙ ap (λ (x : Platform V). report_text k.lines version o x.board x.minds (printed bytes)) same ∙ sym f.is

  -- another report came of it
  pub not_same : (board : Noted) (minds : List V) → RanAlong k p names board minds → (report_text k.lines version o board.state minds board.schedule ≡ bytes → ⊥) →
      IsAnyReport k version o p bytes → ⊥
  not_same board minds r d h = d (again board minds r h)

  stopped : (place : ℕ) → follow k p 1 names ≡ Stuck place → IsAnyReport k version o p bytes → ⊥
  stopped place e h =
      let f = h.report in
      came_stuck f.done place (sym (follows k p 1 names f.done (ap (run k p) (sym n) ∙ f.ran)) ∙ e)

  -- it did not come to its end

  pub not_legal : (place : ℕ) → Faulted k p names (play.Illegal place) → IsAnyReport k version o p bytes → ⊥
  not_legal place e h = stopped place e h

  pub not_ended : (a : ℕ) → Faulted k p names (play.Unended a) → IsAnyReport k version o p bytes → ⊥
  not_ended a e h =
      let f = h.report in
      let d = some_same (sym f.ran ∙ ap (run k p) n ∙ e.ran) in
      none_some (sym (none_here 1 f.done.board.seats f.ended) ∙ ap (λ q. first_here 1 q.board.seats) d ∙ e.first)

-- a run that is done, and whether its report is these bytes
module _ {V D : Type 0} (done : D) (board_of : D → Noted) (minds_of : D → List V) (k : Kind V) (version : ℕ) (o : Options) (p : Platform V) (names bytes : List ℕ) where
  abbrev text : List ℕ
  text = report_text k.lines version o (board_of done).state (minds_of done) (board_of done).schedule

  same_run : (d : D) → d ≡ done → RanAlong k p names (board_of done) (minds_of done) → text ≡ bytes → IsOwnRun k version o p names bytes (board_of d) (minds_of d)
  same_run d e r t = subst (λ x. IsOwnRun k version o p names bytes (board_of x) (minds_of x)) (sym e) (record { ran = r; is = t })

  done_by : printed bytes ≡ names → RanAlong k p names (board_of done) (minds_of done) → (x : Option D) → MatchOption x (text ≡ bytes → ⊥) (λ d. (d ≡ done) × (text ≡ bytes)) →
      MatchOption x (IsAnyReport k version o p bytes → ⊥) (λ d. IsOwnRun k version o p names bytes (board_of d) (minds_of d))
  done_by n r None h = not_same k version o p names bytes n (board_of done) (minds_of done) r h
  done_by n r (Some d) h = same_run d h.0 r h.1

  pub own_done : {E : Type 0} (x : Result (Option D) E) → printed bytes ≡ names → RanAlong k p names (board_of done) (minds_of done) →
      IfOk x (λ x. MatchOption x (text ≡ bytes → ⊥) (λ d. (d ≡ done) × (text ≡ bytes))) →
      IfOk x (λ x. MatchOption x (IsAnyReport k version o p bytes → ⊥) (λ d. IsOwnRun k version o p names bytes (board_of d) (minds_of d)))
  own_done (Ok x) n r h = done_by n r x h
  own_done (Err why) n r h = tt

-- what an answer is, where it is some run
pub own_of : {V D : Type 0} (d : D) (board_of : D → Noted) (minds_of : D → List V) (k : Kind V) (version : ℕ) (o : Options) (p : Platform V) (names bytes : List ℕ) (x : Option D) →
    x ≡ Some d → MatchOption x (IsAnyReport k version o p bytes → ⊥) (λ d. IsOwnRun k version o p names bytes (board_of d) (minds_of d)) →
    IsOwnRun k version o p names bytes (board_of d) (minds_of d)
own_of d board_of minds_of k version o p names bytes x e h =
    subst (λ y. MatchOption y (IsAnyReport k version o p bytes → ⊥) (λ d. IsOwnRun k version o p names bytes (board_of d) (minds_of d))) e h

-- ---- the report anew

-- what is printed of it are the names
pub renewed : {V : Type 0} (k : Kind V) (version : ℕ) (o : Options) (p : Platform V) (names bytes : List ℕ) (board : Noted) (minds : List V) (w : List ℕ) →
    IsOwnRun k version o p names bytes board minds → w ≡ report_text k.lines latest o board.state minds board.schedule → printed w ≡ board.schedule →
    IsRenewal k o p names w
renewed k version o p names bytes board minds w r t n =
    let a = r.ran in
    record {
      report = record {
        spent = is_spent board.state.seats;
        report = record {
          done = record { board = board.state; minds = minds; thoughts = a.thoughts };
          ran = ap (run k p) (n ∙ a.schedule) ∙ a.ran;
          ended = a.ended;
          spent_is = refl;
          is = t ∙ ap (report_text k.lines latest o board.state minds) (sym n);
        };
      };
      along = n ∙ a.schedule;
    }

-- the numbers of the schedule are those of agents
pub own_numbers : {V : Type 0} (k : Kind V) (version : ℕ) (o : Options) (board : State) (minds : List V) (names bytes : List ℕ) (done : Noted) (others : List V) → IsSound board →
    IsOwnRun k version o (opening_platform board minds) names bytes done others → AllFromOne 65535 done.schedule
own_numbers k version o board minds names bytes done others s r =
    let few : length board.seats ≤ 65535 = let l = s.limits.few in omega arith in
    let a = r.ran in
    subst (AllFromOne 65535) (sym a.schedule) (run_numbers k (opening_platform board minds) _ names few a.ran)
