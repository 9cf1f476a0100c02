-- A report can be repeated, and its run keeps the laws of the platform.
use Rattle.std.proofs.Common.{ℕ, zero, suc, ◌≡◌, ◌+◌, ◌*◌, ◌<◌, ◌≤◌, Bool, true, false, List, [], ◌∷◌, length, replicate, Some, refl, ap, sym, ◌∙◌, subst, arith}
use Rattle.std.proofs.Math.Nat.{suc-mul}
use Rattle.std.proofs.lemmas.List.{length-replicate}
use Rattle.asl_term.specs.declared.syntax.Filed.{Filed}
use Rattle.asl_cycle.specs.Agent.{Mindset, agent_kind}
use Rattle.mas_mind.specs.Limits.{most_cycles_together}
use Rattle.mas_mind.specs.Minds.{Kind}
use Rattle.mas_board.specs.Boards.{no_seat}
use Rattle.mas_core.specs.Platform.{Platform, run, ended}
use Rattle.mas_core_laws.specs.Ends.{RunsEnd}
use Rattle.mas_core_laws.specs.Lead.{NeverFarAhead}
use Rattle.mas_core_laws.specs.Mail.{MailFromOpening}
use Rattle.mas_core_laws.specs.Quiet.{QuietLasts}
use Rattle.mas_report_schedule.specs.Reading.{IsCount}
use Rattle.mas_report_schedule.specs.Schedule.{printed, AllFromOne}
use Rattle.mas_report_schedule.proofs.RunLemmas.{is_schedule}
use Rattle.mas_report_schedule.proofs.Sizes.{schedule_short}
use Rattle.mas_report.specs.Report.{latest, front_text, report_text, is_spent, IsReport}
use Rattle.mas_report.proofs.Backs.{told, shown, words_within}
use Rattle.mas_report.proofs.Numbered.{run_numbers}
use Rattle.mas_top_files.specs.declared.sources.Source.{Source}
use Rattle.mas_top_opening.specs.Opening.{Setup, opening, opening_minds, opening_world}
use Rattle.mas_top.specs.Runs.{Wanted, Given, given, HasGiven}
use Rattle.mas_top.specs.Ways.{along}
use Rattle.mas_top.specs.Headline.{IsReportOf, IsRunReportOf}
use Rattle.mas_top.specs.Laws.{CanRepeat, CanCheck, CanRenew, ReportsKeepLaws}
use Rattle.mas_top_opening.proofs.Able.{can_run}

some_same : {A : Type 0} {x y : A} → Some x ≡ Some y → x ≡ y
some_same e = cc

-- ---- how many turns there are

-- two turns for each cycle, and one
turns_of : (n c : ℕ) → n * (2 * c + 1) ≡ 2 * (n * c) + n
turns_of zero c = omega arith
turns_of (suc n) c =
    let h = turns_of n c in
    let m = suc-mul n (2 * c + 1) in
    let q = suc-mul n c in
    omega arith

-- agents that stand idle have a turn at least before they have left
some_turn : {V : Type 0} (k : Kind V) (p done : Platform V) (n : ℕ) (names : List ℕ) → 1 ≤ n → p.board.seats ≡ replicate n no_seat → run k p names ≡ Some done →
    ended done.board.seats ≡ true → 0 < length names
some_turn k p done zero names l s r e = absurd (omega arith)
some_turn k p done (suc n) [] l s r e =
    let same : ended (replicate (suc n) no_seat) ≡ true = sym (ap ended s) ∙ ap (λ q. ended q.board.seats) (some_same r) ∙ e in
    absurd (let f : false ≡ true = same in cc)
some_turn k p done (suc n) (a ∷ names) l s r e = omega arith

-- ---- a report again

again : (u : Setup) (source : Source) (spent : Bool) (w : List ℕ) → IsReportOf u spent (given source (along (printed w))) w →
    (other : Bool) (v : List ℕ) → IsRunReportOf u other (given source (along (printed w))) v → (v ≡ w) × (other ≡ spent)
again u source spent w r other v q =
    let p = opening u source in
    let o = u.options in
    let done = some_same (sym q.report.ran ∙ ap (run agent_kind p) q.scheduled ∙ r.ran) in (
      q.report.is ∙ ap (λ (x : Platform Mindset). report_text agent_kind.lines latest o x.board x.minds (printed v)) done
          ∙ ap (report_text agent_kind.lines latest o r.done.board r.done.minds) q.scheduled ∙ sym r.is,
      sym q.report.spent_is ∙ ap (λ (x : Platform Mindset). is_spent x.board.seats) done ∙ r.spent_is,
    )

-- the numbers that a report prints are those of a schedule
record AreTurns (names : List ℕ) : Type 0 where
  count : IsCount (length names)
  each : AllFromOne 65535 names

-- the cycles of all agents are few
named_few : (u : Setup) (files : List Filed) (wanted : Wanted) (g : Given) → HasGiven u (Some files) wanted g → length g.source.names * u.options.cycles ≤ most_cycles_together
named_few u files wanted g h = subst (λ n. length n * u.options.cycles ≤ most_cycles_together) (sym h.source.describe.names) h.source.asked.few

are_turns : RunsEnd agent_kind → (u : Setup) (files : List Filed) (wanted : Wanted) (g : Given) (version : ℕ) (spent : Bool) (w : List ℕ) → HasGiven u (Some files) wanted g →
    IsReport agent_kind version u.options (opening u g.source) spent w → AreTurns (printed w)
are_turns ends u files wanted g version spent w h r =
    let source = g.source in
    let names = printed w in
    let c = can_run u.objects u.options.cycles (Some files) wanted.project source h.source in
    let seats = length-replicate (length source.names) no_seat in
    let few = c.few in
    let named = named_few u files wanted g h in
    let most = ends source.names (opening_world u.objects source.world) u.options.cycles u.options.lead (opening_minds u.options source) r.done names r.ran in
    let same = ap (λ n. n * (2 * u.options.cycles + 1)) seats in
    let turns = turns_of (length source.names) u.options.cycles in
    record {
      count = (some_turn agent_kind (opening u source) r.done (length source.names) names c.some refl r.ran r.ended, omega arith);
      each = run_numbers agent_kind (opening u source) r.done names (omega arith) r.ran;
    }

pub can_repeat : RunsEnd agent_kind → CanRepeat
can_repeat ends u files wanted g spent w h r =
    let source = g.source in
    let names = printed w in
    let t = are_turns ends u files wanted g latest spent w h r in
    let few = t.count.1 in
    let s = schedule_short latest names t.count t.each in
    record {
      front = front_text agent_kind.lines latest u.options r.done.board r.done.minds;
      ends = r.is;
      short = omega arith;
      followed = record { is = is_schedule latest names t.count t.each; leads = record { done = r.done; ran = r.ran; ended = r.ended } };
      again = again u source spent w r;
    }

-- ---- a report is its own

pub can_check : RunsEnd agent_kind → CanCheck
can_check ends u files wanted g version spent w l h known r =
    let t = are_turns ends u files wanted g version spent w h r in
    record {
      told = told version u.options (printed w);
      shows = shown agent_kind version u.options (opening u g.source) spent w r known (words_within u.options l) t.count t.each;
      allowed = record { within = l; few = named_few u files wanted g h };
      report = record { spent = spent; report = r };
    }

-- ---- the report anew

pub can_renew : CanRenew
can_renew u source version spent other w v x r q same n =
    let p = opening u source in
    let o = u.options in
    let a = n.report.report in
    let done = some_same (sym a.ran ∙ ap (run agent_kind p) (n.along ∙ sym same) ∙ q.ran) in
    let first = some_same (sym q.ran ∙ ap (run agent_kind p) same ∙ r.ran) in (
      a.is ∙ ap (λ (y : Platform Mindset). report_text agent_kind.lines latest o y.board y.minds (printed x)) done
          ∙ ap (report_text agent_kind.lines latest o q.done.board q.done.minds) (n.along ∙ sym same) ∙ sym q.is,
      sym q.spent_is ∙ ap (λ (y : Platform Mindset). is_spent y.board.seats) first ∙ r.spent_is,
    )

-- ---- the laws of the platform

pub keep_laws : NeverFarAhead agent_kind → MailFromOpening agent_kind → QuietLasts agent_kind → ReportsKeepLaws
keep_laws led mail quiet u g spent w r =
    let source = g.source in
    let world = opening_world u.objects source.world in
    let minds = opening_minds u.options source in
    record {
      led = λ front back q e ran. led source.names world u.options.cycles u.options.lead minds q front ran;
      mail = λ s t i. mail source.names world u.options.cycles u.options.lead minds r.done (printed w) s t i r.ran;
      quiet = λ front back more p q t a e ran all on turn. quiet p q t more a (record {
        agents = source.names;
        world = world;
        cycles = u.options.cycles;
        lead = u.options.lead;
        minds = minds;
        names = front;
        ran = ran;
        quiet = all;
      }) on turn;
    }
