-- What becomes of a demo.
use Rattle.std.proofs.Common.{ℕ, ◌≡◌, ◌≤◌, inl, inr, true, List, Some, Option, refl, ap, ◌∙◌, subst, codes, arith}
use Rattle.std.specs.Prelude.{Result, MatchResult}
use Rattle.asl_cycle.specs.Agent.{agent_kind}
use Rattle.asl_term.specs.declared.syntax.Filed.{Filed}
use Rattle.mas_board.specs.Boards as boards
use Rattle.mas_core.specs.Platform.{Platform}
use Rattle.mas_core.specs.Replay.{RanAlong}
use Rattle.mas_core.specs.Robin.{RanOut}
use Rattle.mas_top_demo.specs.Files.{demo_files}
use Rattle.mas_top_demo.specs.Lines.{demo_text}
use Rattle.mas_io.specs.Causes.{Rose}
use Rattle.mas_io.specs.Sink.{grown}
use Rattle.mas_io.specs.Told.{Told, IsUnwritten}
use Rattle.mas_io.specs.Writing.{IsCut}
use Rattle.mas_mind.specs.Minds.{Kind}
use Rattle.env_file.specs.Worlds.{has_name}
use Rattle.mas_top_demo.proofs.Described.{demo_not_refused}
use Rattle.mas_report.specs.Limits.{defaults}
use Rattle.mas_top_files.proofs.Unless.{unless}
use Rattle.mas_top_files.specs.Files.{Reader, IsRefusal, unfetched, faulty, missing, too_long, failed, starved}
use Rattle.mas_top_files.specs.Known.{known}
use Rattle.mas_top_files.specs.Sources.{HasSource, FirstRefused, AreRefused, UnlessMemory}
use Rattle.mas_top_files.specs.declared.sources.Source.{Source}
use Rattle.mas_top_status.specs.declared.status.Status.{Status}
use Rattle.mas_top_status.specs.declared.status.Status.TheVariants.{Ok, No, Usage, Missing, ReadFault, WriteFault, Refused, Limit, Budget, Memory, DiskFault}
use Rattle.mas_top.specs.Demo.{DemoHas, IsToldRun, IsDemo, DemoRefused, DemoCaused, IsDemoComplete}
use Rattle.mas_report.specs.declared.options.Options.{Options}
use Rattle.mas_world.specs.Worlds.{Used}
use Rattle.mas_top_opening.specs.Opening.{Setup, setup, opening}
use Rattle.mas_top.specs.Ways.{Way, way_of}
use Rattle.mas_top_files.proofs.Refusing.{tells, Tells, first_by}
use Rattle.mas_top.proofs.Runs.{by_workers}

-- the lines of a run by so many workers
pub run_told : {V : Type 0} (kind : Kind V) (p : Platform V) (workers : ℕ) (board : boards.Noted) (minds : List V) (k : ℕ) (w : List ℕ) →
    RanAlong kind p board.schedule board minds → (workers ≡ 1 → RanOut kind p board minds) → w ≡ demo_text k board.state → IsToldRun kind p (way_of workers) k w
run_told {V} kind p workers board minds k w r robin t = record {
  names = board.schedule;
  scheduled = by_workers kind p workers board.schedule (λ e. (robin e).schedule);
  leads = record { done = record { board = board.state; minds = minds; thoughts = r.thoughts }; ran = r.ran; ended = r.ended };
  is = t;
}

pub told : (o : Options) (objects : List Used) (k : ℕ) (way : Way) (source : Source) (w : List ℕ) → DemoHas (setup o objects) k source →
    IsToldRun agent_kind (opening (setup o objects) source) way k w → IsDemo (setup o objects) k way w
told o objects k way source w h t = record { source = source; has = h; told = t }

-- what is read from the shelf of the demo's files
pub described : (u : Setup) (k : ℕ) (held : Option (List Filed)) (word : List ℕ) (r : Result Source Status) → held ≡ Some (demo_files k) → word ≡ codes "demo.mas2j" →
    MatchResult r (HasSource (known u.objects) u.options.cycles held word) (AreRefused (known u.objects) u.options.cycles held word 0 0) →
    MatchResult r (DemoHas u k) (UnlessMemory (DemoRefused u k))
described u k held word r e f h =
    let names = known u.objects in
    let cycles = u.options.cycles in
    subst (λ w. MatchResult r (HasSource names cycles (Some (demo_files k)) w) (AreRefused names cycles (Some (demo_files k)) w 0 0)) f
    (subst (λ x. MatchResult r (HasSource names cycles x word) (AreRefused names cycles x word 0 0)) e h)

-- a count that stands at 0 has not risen
still : Rose 0 0 → ⊥
still r = omega (arith, r)

told_of_file : (r : Reader) → Tells r → (name : List ℕ) (held : Option (List Filed)) (status : Status) → IsRefusal r name held 0 0 status → tells status ≡ true
told_of_file r t name held status (unfetched (missing e h)) = ap tells e
told_of_file r t name held status (unfetched (too_long e h)) = ap tells e
told_of_file r t name held status (unfetched (failed e h)) = absurd (still h)
told_of_file r t name held status (unfetched (starved e)) = ap tells e
told_of_file r t name held status (faulty f) = ap tells f.status_is ∙ t name f.why

one_refused : (u : Setup) (k : ℕ) (way : Way) (before after : Told) (status : Status) → tells status ≡ true → DemoRefused u k status → IsUnwritten before after →
    DemoCaused u k way before after status
one_refused u k way before after Ok e r w = absurd cc
one_refused u k way before after No e r w = absurd cc
one_refused u k way before after Usage e r w = absurd cc
one_refused u k way before after (Missing lacked) e r w = record { why = r; unwritten = w }
one_refused u k way before after ReadFault e r w = absurd cc
one_refused u k way before after WriteFault e r w = absurd cc
one_refused u k way before after (Refused file place why) e r w = record { why = r; unwritten = w }
one_refused u k way before after (Limit quantity count) e r w = record { why = r; unwritten = w }
one_refused u k way before after Budget e r w = absurd cc
one_refused u k way before after Memory e r w = w
one_refused u k way before after DiskFault e r w = absurd cc

by_first : (u : Setup) (k : ℕ) (way : Way) (before after : Told) (status : Status) → DemoRefused u k status → IsUnwritten before after →
    DemoCaused u k way before after status
by_first u k way before after status r w =
    one_refused u k way before after status
    (first_by (λ s. tells s ≡ true) (known u.objects) u.options.cycles (Some (demo_files k)) (codes "demo.mas2j") 0 0 status
    (λ r t name s. told_of_file r t name (Some (demo_files k)) s) (λ count. refl) r) r w

-- a file is refused, and nothing was written
pub unwritten : (u : Setup) (k : ℕ) (way : Way) (before after : Told) (status : Status) → UnlessMemory (DemoRefused u k) status → IsUnwritten before after →
    DemoCaused u k way before after status
unwritten u k way before after Ok r w = by_first u k way before after Ok r w
unwritten u k way before after No r w = by_first u k way before after No r w
unwritten u k way before after Usage r w = by_first u k way before after Usage r w
unwritten u k way before after (Missing lacked) r w = by_first u k way before after (Missing lacked) r w
unwritten u k way before after ReadFault r w = by_first u k way before after ReadFault r w
unwritten u k way before after WriteFault r w = by_first u k way before after WriteFault r w
unwritten u k way before after (Refused file place why) r w = by_first u k way before after (Refused file place why) r w
unwritten u k way before after (Limit quantity count) r w = by_first u k way before after (Limit quantity count) r w
unwritten u k way before after Budget r w = by_first u k way before after Budget r w
unwritten u k way before after Memory r w = w
unwritten u k way before after DiskFault r w = by_first u k way before after DiskFault r w

pub written : (u : Setup) (k : ℕ) (way : Way) (before after : Told) (w : List ℕ) → IsDemo u k way w → after.written ≡ grown before.written w →
    DemoCaused u k way before after Ok
written u k way before after w d e = record { text = w; is = d; written = e }

pub cut : (u : Setup) (k : ℕ) (way : Way) (before after : Told) (w : List ℕ) → IsDemo u k way w → Rose before.sink_faults after.sink_faults →
    IsCut before.written after.written w → DemoCaused u k way before after WriteFault
cut u k way before after w d r c = record { rose = r; text = w; is = d; cut = c }

-- ---- completeness

not_first : (objects : List Used) (k : ℕ) (status : Status) → 1 ≤ k → k ≤ 200 → has_name (known objects) (codes "tally") ≡ true →
    DemoRefused (setup defaults objects) k status → status ≡ Memory
not_first objects k status l h t r =
    demo_not_refused (known objects) k status t l h (unless (FirstRefused (known objects) 1000 (Some (demo_files k)) (codes "demo.mas2j") 0 0) status r)

pub demo_complete : (objects : List Used) (k : ℕ) (way : Way) (before after : Told) (status : Status) → 1 ≤ k → k ≤ 200 →
    DemoCaused (setup defaults objects) k way before after status → IsDemoComplete (setup defaults objects) before after status
demo_complete objects k way before after Ok l h c t f = inl refl
demo_complete objects k way before after No l h c t f = absurd c
demo_complete objects k way before after Usage l h c t f = absurd c
demo_complete objects k way before after (Missing lacked) l h c t f = inr (not_first objects k (Missing lacked) l h t c.why)
demo_complete objects k way before after ReadFault l h c t f = absurd c
demo_complete objects k way before after WriteFault l h c t f = absurd (f c.rose)
demo_complete objects k way before after (Refused file place why) l h c t f = inr (not_first objects k (Refused file place why) l h t c.why)
demo_complete objects k way before after (Limit quantity count) l h c t f = inr (not_first objects k (Limit quantity count) l h t c.why)
demo_complete objects k way before after Budget l h c t f = absurd c
demo_complete objects k way before after Memory l h c t f = inr refl
demo_complete objects k way before after DiskFault l h c t f = absurd c
